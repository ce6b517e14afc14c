-- A drive is taken in, once all arrays are settled: what that makes of the book, and what of the disks.
use Rattle.std.proofs.Common.{◌≡◌, ◌≢◌, ℕ, ◌<◌, ◌≤◌, ◌&&◌, Bool, true, false, not, if◌then◌else◌, List, Ok, Some, refl, sym, ap, subst, ◌∙◌, inl, inr, arith}
use Rattle.rack.specs.Seen.{IsLive, RackView, SameRack}
use Rattle.rack.specs.Values.{IsSingle, Keeps}
use Rattle.rack.specs.Joins.{live_first, live_second, rose_since, stays_then}
use Rattle.rack.specs.Sequences.{WritesOnly}
use Rattle.rack.proofs.Writing.{only_then, only_weaker}
use Rattle.gpt_table.specs.declared.Table.{Table}
use Rattle.gpt_table.specs.declared.TableCopy.{TableCopy}
use Rattle.gpt_table.specs.Disk.{HoldsCopy, now_on}
use Rattle.gpt_table.specs.Format.{mbr_of}
use Rattle.gpt_table.specs.Plans.{IsOfTable}
use Rattle.slice_rack.specs.Slices.{IsOrderly, Slices, seat_of}
use Rattle.slice_rack.specs.Runs.{IsSliced}
use Rattle.pool_state.specs.declared.contents.Plan.{Plan}
use Rattle.pool_state.specs.declared.contents.State.{State}
use Rattle.array_image.specs.States.{is_current}
use Rattle.array_core.specs.Seats.{renewed}
use Rattle.array_model.specs.View.{View}
use Rattle.raid_laws.specs.Book.{OnlyMarksSince}
use Rattle.raid_laws.specs.Enlisting.{IsEnlisted, IsWrittenBy, SettlesWhole, enlisted, next_drive, with_drive}
use Rattle.raid_laws.specs.Losing.{only_then as lost_then}
use Rattle.raid_laws.specs.Moves.{IsHeeded, IsSet, OnlyFailures, RaisesBy}
use Rattle.raid_laws.specs.NewDrive.{IsOfDrive, LaysDrive, SeatsDrive}
use Rattle.raid_laws.specs.Raid.{Raid, is_left}
use Rattle.raid_rack.proofs.LayingDrive.{copy_agrees, of_copy}
use Rattle.raid_rack.proofs.Renewing.{renewed_if}
use Rattle.raid_rack.proofs.Untouched.{tables_kept}
use Rattle.raid_laws.proofs.Whole.{heeded_gone}

-- ---- the book

module _ (place units : ℕ) (plan : Plan) (joining : ℕ → Bool) where
  heeded_with : (v : Raid) → IsHeeded v → IsHeeded (with_drive place units plan joining v)
  heeded_with v heeded n low = went (joining n) (v.arrays n) ∙ heeded n low
    where
      went : (b : Bool) (u : View) → (if b then renewed place (next_drive v.state) u else u).went ≡ u.went
      went true u = refl
      went false u = refl

  -- between calls a place is left that is current
  left_with : (v : Raid) (p : ℕ) → IsHeeded v → is_left (with_drive place units plan joining v) p ≡ (is_current (enlisted place units plan v.state) p && true)
  left_with v p heeded =
      ap (λ g. is_current (enlisted place units plan v.state) p && not g) (heeded_gone (with_drive place units plan joining v) (heeded_with v heeded) p)

  module _ (v s w : Raid) (x y z c : RackView) (same : s.state ≡ v.state) (settles : SettlesWhole v s x y) (heeded : IsHeeded v) where
    left_same : (p : ℕ) → is_left (with_drive place units plan joining s) p ≡ is_left (with_drive place units plan joining v) p
    left_same p =
        left_with s p settles.heeded ∙ ap (λ (q : State). is_current (enlisted place units plan q) p && true) same ∙ sym (left_with v p heeded)

    low_now : (n : ℕ) → n < v.state.made → n < s.state.made
    low_now n low = subst (λ (q : State). n < q.made) (sym same) low

    -- by the settling first
    pub enrolled : (z0 x0 : RackView) → IsSet v x0 → ((d : ℕ) → z0.faults d ≤ z.faults d) → IsEnlisted place units plan joining s w z c
        → IsEnlisted place units plan joining v w z0 c
    enrolled z0 x0 set faults joined = record {
      book = subst (λ (q : State). OnlyMarksSince (enlisted place units plan q) w.state) same joined.book;
      plan_is = joined.plan_is;
      arrays = λ n low.
          let only = settles.moves.arrays n low in
          let one = (set.arrays n low).is_array in
          let two = (settles.moves.set.arrays n (low_now n low)).is_array in
          let rest : OnlyFailures (if joining n then renewed place (next_drive v.state) (s.arrays n) else s.arrays n) (w.arrays n) =
          subst (λ (q : State). OnlyFailures (if joining n then renewed place (next_drive q) (s.arrays n) else s.arrays n) (w.arrays n)) same (joined.arrays n (low_now n low)) in
          lost_then _ _ (w.arrays n) (renewed_if (v.arrays n) (s.arrays n) place (next_drive v.state) (joining n) one two only) rest;
      sectors = λ n. joined.sectors n ∙ settles.moves.sectors n;
      caused = record {
        left = λ p is. sym (left_same p) ∙ joined.caused.left p is;
        cause = λ p was now.
            let fault = joined.caused.cause p (left_same p ∙ was) now in
            (fault.0, fault.1, rose_since (faults fault.0) fault.2);
      };
      heeded = joined.heeded;
      number = let one = settles.number in let two = joined.number in omega (arith, one, two);
      events = λ n low. let one = settles.moves.events n low in let two = joined.events n (low_now n low) in omega (arith, one, two);
      spent = λ n k low alive. settles.moves.spent n k low (joined.spent n k (low_now n low) alive);
      still = λ n low other goes. settles.moves.still n low (joined.still n (low_now n low) other goes);
    }

    pub enrolled_raises : RaisesBy 18 s w → RaisesBy 19 v w
    enrolled_raises raises = record {
      number = let one = settles.number in let two = raises.number in omega (arith, one, two);
      epoch = let one = ap (λ (q : State). q.epoch) same in let two = raises.epoch in omega (arith, one, two);
      events = λ n low. let one = settles.raised n low in let two = raises.events n (low_now n low) in omega (arith, one, two);
    }

-- ---- the disks

-- the new disk was laid, slices were called by the old tables, none of them written, and then by the new ones
module _ (arrays : List View) (place disk : ℕ) (t u : Slices) (a m y b : RackView) (table : Table) (size : table.sectors ≡ a.sectors disk) (few : place < 16)
    (lays : LaysDrive a m disk table {X = Unit {0}} (Ok tt)) (seats : SeatsDrive arrays place disk (a.sectors disk) t u) where
  pub all_only : WritesOnly m y (IsSliced u) → WritesOnly y b (IsSliced u) → WritesOnly a b (IsWrittenBy u disk table)
  all_only two three =
      let may : ℕ → ℕ → List ℕ → Type 0 = IsWrittenBy u disk table in
      only_then may (only_then may (only_weaker (IsOfDrive disk table) may (λ d s v at. inl at) lays.only)
      (only_weaker (IsSliced u) may (λ d s v at. inr at) two))
      (only_weaker (IsSliced u) may (λ d s v at. inr at) three)

  module _ (orderly : IsOrderly t) (orderly_now : IsOrderly u) (room : 10273 ≤ a.sectors disk) (free : (p : ℕ) → seat_of t p ≢ Some disk)
      (two : WritesOnly m y (IsSliced t)) (three : WritesOnly y b (IsSliced u)) where
    after : SameRack m b
    after = stays_then two.stays three.stays

    table_kept : (s : ℕ) → IsOfTable (a.sectors disk) s → IsLive a b disk s → Keeps (m.held disk s) (b.held disk s)
    table_kept s of live = tables_kept arrays place disk (a.sectors disk) t u seats m y b orderly orderly_now room free two three s of (live_second lays.only.stays live)

    -- its table stands on it, durably
    pub copies_kept : ((s : ℕ) → IsOfTable (a.sectors disk) s → IsLive a b disk s) → (copy : TableCopy) → HoldsCopy copy table (now_on b disk)
    copies_kept live copy =
        copy_agrees copy table (now_on m disk) (now_on b disk)
        (λ s of.
        let of_table : IsOfTable (a.sectors disk) s = subst (λ n. IsOfTable n s) size (of_copy copy table.sectors s of) in
        sym (table_kept s of_table (live s of_table)).current)
        (lays.copies (λ s of. live_first after (live s (subst (λ n. IsOfTable n s) size of))) copy)

    pub mbr_kept : IsLive a b disk 0 → now_on b disk 0 ≡ mbr_of (a.sectors disk)
    mbr_kept live = (table_kept 0 (inl refl) live).current ∙ lays.mbr (live_first after live) ∙ ap mbr_of size

    pub single_kept : (s : ℕ) → IsOfTable (a.sectors disk) s → IsLive a b disk s → IsSingle (b.held disk s)
    single_kept s of live v left =
        let kept = table_kept s of live in
        lays.durable s (live_first after live) v (kept.within v left) ∙ sym kept.current
