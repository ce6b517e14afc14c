-- A place whose drive is missing has got a disk: the arrays are over the slices by the new tables as they were over the old ones.
use Rattle.std.proofs.Common.{◌≡◌, ◌≢◌, ℕ, ◌+◌, ◌<◌, ◌≤◌, ◌^◌, ◌&&◌, not, Bool, true, false, List, All, slice_get, Option, Some, None, option_map, refl, sym, ap, subst, ◌∙◌, inl, inr, arith}
use Rattle.std.proofs.lemmas.Bool.{and_parts, both_ways, cases_Bool}
use Rattle.rack.specs.Seen.{RackView}
use Rattle.slice_rack.specs.Slices.{Slices, place_of, sectors_of}
use Rattle.slice_rack.specs.Sliced.{slices_of}
use Rattle.pool_state.specs.declared.contents.State.{State}
use Rattle.array_image.specs.Places.{log_slice, member_slice, slice_of}
use Rattle.array_image.specs.States.{is_current}
use Rattle.array_model.specs.declared.Seat.{Seat}
use Rattle.array_model.specs.declared.Seat.TheVariants.{Missing, Rebuilding, Whole}
use Rattle.array_model.specs.View.{View, has_gone, is_missing_seat, place_at}
use Rattle.raid_rack.specs.declared.arrays.Arrays.{Arrays}
use Rattle.raid_laws.specs.Enlisting.{HasNewSlices}
use Rattle.raid_laws.specs.Moves.{IsSeated, IsSet}
use Rattle.raid_laws.specs.NewDrive.{SeatsDrive, sectors_laid}
use Rattle.raid_laws.specs.Raid.{Raid, gone_in}
use Rattle.raid_rack.specs.RaidRack.{IsRunning, no_array}
use Rattle.raid_rack.proofs.LayingDrive.{laid_member}
use Rattle.raid_rack.proofs.Steps.{same_element}

-- a member that isn't missing is on a current place
pub current_seat : (s : State) (n : ℕ) (v : View) (x : RackView) (k : ℕ) → IsSeated s n v x → k < v.truth.raid_disks → (slice_get v.seats k ≡ Some Missing → ⊥)
    → is_current s (place_at v k) ≡ true
current_seat s n v x k seated low there = of (slice_get v.seats k) refl (seated.marks k low)
  where
    of : (o : Option Seat) → slice_get v.seats k ≡ o → option_map is_missing_seat o ≡ Some (not (is_current s (place_at v k) && not (has_gone v (place_at v k))))
        → is_current s (place_at v k) ≡ true
    of None none is = cc
    of (Some seat) at is =
        elim (cases_Bool (is_current s (place_at v k))) [
          | inl current ↦ current
          | inr gone ↦ absurd (there (at ∙ ap Some (missing seat (some_same (is ∙ ap (λ b. Some (not (b && not (has_gone v (place_at v k))))) gone)))))
        ]
      where
        some_same : {a b : Bool} → Some a ≡ Some b → a ≡ b
        some_same e = cc

        missing : (seat : Seat) → is_missing_seat seat ≡ true → seat ≡ Missing
        missing Missing is = refl
        missing Whole is = absurd (both_ways false refl is)
        missing (Rebuilding to) is = absurd (both_ways false refl is)

-- the arrays over other tables, by which all places but one have their slices
pub others_set : (place : ℕ) (t u : Slices) (x : RackView) (v : Raid) → ((d : ℕ) → place_of d ≢ place → sectors_of u d ≡ sectors_of t d)
    → (slices_of u x).fit → is_current v.state place ≡ false → IsSet v (slices_of t x) → IsSet v (slices_of u x)
others_set place t u x v others fit missing set = record {
  fit = fit;
  lasting = set.lasting;
  disks = refl;
  few = set.few;
  most = set.most;
  valid = set.valid;
  logs = λ p left.
      let current = (and_parts (is_current v.state p) (not (gone_in v p)) left).0 in
      others (log_slice p) (λ same. both_ways (is_current v.state p) (subst (λ q. is_current v.state q ≡ false) (let e : place ≡ p = omega (arith, same) in e) missing) current)
      ∙ set.logs p left;
  arrays = λ n low.
      let at = set.arrays n low in
      let few = at.is_array.few in
      record {
        is_array = at.is_array;
        number = at.number;
        slices = record {
          fit = fit;
          lasting = at.slices.lasting;
          disks = at.slices.disks;
          sectors = λ k inside there.
              let current = current_seat v.state n (v.arrays n) (slices_of t x) k at inside there in
              let other : place_of (member_slice (place_at (v.arrays n) k) (v.arrays n).number) ≢ place =
              λ same. both_ways (is_current v.state (place_at (v.arrays n) k))
              (subst (λ q. is_current v.state q ≡ false) (let e : place ≡ place_at (v.arrays n) k = omega (arith, same, few) in e) missing) current in
              subst (λ size. 2048 + (v.arrays n).truth.size ≤ size) (sym (others (member_slice (place_at (v.arrays n) k) (v.arrays n).number) other)) (at.slices.sectors k inside there);
        };
        marks = at.marks;
        is_of_pool = at.is_of_pool;
      };
  marked = set.marked;
}

module _ (arrays : List View) (place disk sectors : ℕ) (t u : Slices) (x : RackView) (seats : SeatsDrive arrays place disk sectors t u) where
  -- the arrays over the new tables
  pub seats_set : (v : Raid) → (slices_of u x).fit → is_current v.state place ≡ false → IsSet v (slices_of t x) → IsSet v (slices_of u x)
  seats_set v fit missing set = others_set place t u x v seats.others fit missing set

  pub new_slices : HasNewSlices arrays place sectors (slices_of u x)
  new_slices = record {
    log = seats.own (log_slice place) (omega arith) ∙ ap (sectors_laid arrays place sectors) (let e : slice_of (log_slice place) ≡ 0 = omega arith in e);
    members = λ n few.
        seats.own (member_slice place n) (omega (arith, few)) ∙ ap (sectors_laid arrays place sectors) (let e : slice_of (member_slice place n) ≡ n + 1 = omega (arith, few) in e)
        ∙ (laid_member arrays place sectors n).0;
  }

-- the arrays' members are small
pub all_small : (r : Arrays) (x : RackView) → IsRunning r x → All (λ (u : View). u.truth.size < 2 ^ 48) r.all.items
all_small r x running k d low =
    subst (λ (u : View). u.truth.size < 2 ^ 48) (same_element r.all.items r.all.items k no_array d refl low)
    (running.set.arrays k (let count = running.count in omega (arith, low, count))).is_array.small
