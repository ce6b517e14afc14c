-- Tables in which slices are laid that no array has, or taken away: the arrays keep what they have.
use Rattle.std.proofs.Common.{◌≡◌, ◌⊎◌, ℕ, ◌+◌, ◌<◌, ◌≤◌, Bool, true, false, nat_lt, if◌then◌else◌, [], Option, None, unwrap_or, refl, sym, ap, ap₂, subst, ◌∙◌, inl, inr, le-ltb, arith}
use Rattle.std.proofs.lemmas.Bool.{ne_eqb}
use Rattle.rack.specs.Seen.{Image, RackView}
use Rattle.rack.specs.Joins.{keeps_same}
use Rattle.rack.specs.Targets.{look}
use Rattle.shr_base.specs.Blocks.{bytes_at, number_at}
use Rattle.slice_rack.specs.Changes.{Adds}
use Rattle.slice_rack.specs.Sliced.{sliced, slices_of}
use Rattle.slice_rack.specs.Slices.{Slices, disk_of, first_of, place_of, sectors_of, seat_of as disk_at}
use Rattle.array_image.specs.Arrays.{replayed}
use Rattle.array_image.specs.Left.{deciding}
use Rattle.array_image.specs.Places.{log_slice, member_slice, slice_of, super_sector}
use Rattle.array_image.specs.Record.{pending}
use Rattle.array_image.specs.Supers.{super_of}
use Rattle.array_model.specs.View.{place_at}
use Rattle.array_core.specs.Seats.{seat_of}
use Rattle.reshape_laws.proofs.Joining.{no_member}
use Rattle.raid_laws.specs.Moves.{IsHeeded, IsSet}
use Rattle.raid_laws.specs.Raid.{Raid, raid_of}
use Rattle.transition_laws.specs.Growth.{KeepsOldSectors}
use Rattle.raid_rack.specs.BareSlices.{AreBare, is_member_slice}
use Rattle.raid_rack.proofs.LaidOld.{DiffersOn, differs_old}

-- ---- tables that are the same but for some slices

module _ (own : ℕ → Bool) (t u : Slices) (a : RackView) (logs : (p : ℕ) → own (log_slice p) ≡ false) (seats : (p : ℕ) → disk_at u p ≡ disk_at t p)
    (sizes : (d : ℕ) → own d ≡ false → sectors_of u d ≡ sectors_of t d) (firsts : (d : ℕ) → own d ≡ false → first_of u d ≡ first_of t d) where
  disk_same : (d : ℕ) → disk_of u d ≡ disk_of t d
  disk_same d = ap (λ (o : Option ℕ). unwrap_or o 0) (seats (place_of d))

  sliced_same : (c : Image) (d z : ℕ) → own d ≡ false → sliced u c d z ≡ sliced t c d z
  sliced_same c d z off =
      ap₂ (λ n f. if nat_lt z n then c (disk_of u d) (f + z) else []) (sizes d off) (firsts d off)
      ∙ ap (λ e. if nat_lt z (sectors_of t d) then c e (first_of t d + z) else []) (disk_same d)

  pub tables_differ : DiffersOn own (slices_of t a) (slices_of u a)
  tables_differ = record {
    clock = refl;
    logs = logs;
    sectors = sizes;
    held = λ d z off. ap₂ (λ e f. a.held e (f + z)) (disk_same d) (firsts d off);
    live = λ d z off live. record {
      disk = live.disk;
      sector = subst (λ k. z < k) (sym (sizes d off)) live.sector;
      is_told = subst (λ e. a.told e) (sym (disk_same d)) live.is_told;
      unspent = ap₂ (λ e f. a.spent e (f + z)) (disk_same d) (firsts d off) ∙ live.unspent;
    };
    earlier = λ k c left. (sliced t left.0, (left.0, left.1, λ d z. refl), λ d z off. left.2 d z ∙ sliced_same left.0 d z off);
    later = λ k c left. (sliced u left.0, (left.0, left.1, λ d z. refl), λ d z off. left.2 d z ∙ sym (sliced_same left.0 d z off));
  }

-- nothing is called, and no table changes
pub old_still : {F G : Type 0} {r q : ℕ → ℕ} (count : ℕ) (v : Raid) (x : RackView) → KeepsOldSectors count (raid_of F r v x) (raid_of G q v x)
old_still {F} {G} {r} {q} count v x = record {
  told = λ n low told. told;
  spent = λ n z low inside alive. alive;
  held = λ n z low told inside alive. keeps_same ((raid_of F r v x).held n z);
  stops = λ traced n z low told inside alive. record {
    later = omega arith;
    kept = λ k c until left. left;
    past = λ k c until left. left;
    new = λ k c after until left. absurd (omega (arith, after, until));
  };
}

-- The slice of a place that is no member of its array is laid, or taken away.
pub laid_old : {F G : Type 0} {r q : ℕ → ℕ} (v : Raid) (t u : Slices) (a : RackView) (place n first sectors : ℕ) → (u ≡ t) ⊎ Adds t u (member_slice place n) first sectors
    → n < v.state.made → seat_of (v.arrays n) place ≡ None → IsSet v (slices_of t a) → IsSet v (slices_of u a) → IsHeeded v
    → AreBare (is_member_slice place n) (slices_of t a) → AreBare (is_member_slice place n) (slices_of u a)
    → KeepsOldSectors v.state.joined (raid_of F r v (slices_of t a)) (raid_of G q v (slices_of u a))
laid_old {F} {G} {r} {q} v t u a place n first sectors (inl same) low apart set set_now heeded was now =
    subst (λ k. KeepsOldSectors v.state.joined (raid_of F r v (slices_of t a)) (raid_of G q v (slices_of k a))) (sym same) (old_still v.state.joined v (slices_of t a))
laid_old {F} {G} {r} {q} v t u a place n first sectors (inr adds) low apart set set_now heeded was now =
    let at = member_slice place n in
    let most = set.most in
    differs_old (is_member_slice place n) (slices_of t a) (slices_of u a)
    (tables_differ (is_member_slice place n) t u a (λ p. ne_eqb (log_slice p) at (λ same. omega (arith, same, low, most))) adds.seats
    (λ d off. adds.sectors_are d ∙ ap (λ (b : Bool). if b then sectors else sectors_of t d) off)
    (λ d off. adds.firsts d ∙ ap (λ (b : Bool). if b then first else first_of t d) off))
    v set set_now heeded was now
    (λ m below k inside.
    ne_eqb (member_slice (place_at (v.arrays m) k) (v.arrays m).number) at
    (λ same.
    let number = (set.arrays m below).number in
    let place_is : place_at (v.arrays m) k ≡ place = omega (arith, same, number, below, low, most) in
    let number_is : m ≡ n = omega (arith, same, number, below, low, most) in
    no_member (v.arrays m) place k (set.arrays m below).is_array (subst (λ j. seat_of (v.arrays j) place ≡ None) (sym number_is) apart) inside place_is))
