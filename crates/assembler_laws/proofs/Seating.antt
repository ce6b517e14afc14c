-- The arrays of a pool's drives are a set of arrays over their slices, with the absent places noted.
use Rattle.std.proofs.Common.{◌≡◌, ◌≢◌, ℕ, zero, suc, [], ◌∷◌, ◌+◌, ◌<◌, ◌≤◌, Bool, true, false, ◌&&◌, ◌||◌, not, nat_lt, is_none, is_some, if◌then◌else◌, List, length, map, slice_get, Option, Some, None, option_map, unwrap_or, refl, sym, ap, ap₂, subst, ◌∙◌, arith}
use Rattle.std.specs.Option.{option_and_then, option_map_or}
use Rattle.std.proofs.lemmas.Bool.{and_parts, both_ways}
use Rattle.std.proofs.lemmas.List.{length-map}
use Rattle.std.proofs.lemmas.Option.{slice_get_within}
use Rattle.rack.specs.Seen.{RackView}
use Rattle.slice_rack.specs.Slices.{Slices, seat_of, sectors_of}
use Rattle.slice_rack.specs.Sliced.{slices_of}
use Rattle.pool_state.specs.declared.contents.State.{State}
use Rattle.array_image.specs.Places.{data_sector, log_sectors, log_slice, member_slice}
use Rattle.array_image.specs.States.{is_current}
use Rattle.array_image.specs.Supers.{is_named, super_in}
use Rattle.array_model.specs.declared.Seat.{Seat}
use Rattle.array_model.specs.declared.Seat.TheVariants.{Missing}
use Rattle.array_model.specs.View.{View, IsArray, has_gone, is_missing_seat, place_at}
use Rattle.array_model.specs.Members.{HasSlices, slice_on}
use Rattle.array_core.specs.Opening.{view_found}
use Rattle.array_core.specs.Seats.{gone, names, restart, restarted}
use Rattle.pool_state.specs.Valid.{is_valid}
use Rattle.pool_scan.proofs.Valid.{valid_at, valid_places, valid_arrays}
use Rattle.pool_check.specs.declared.Extent.{Extent}
use Rattle.pool_check.specs.declared.Checked.{Checked}
use Rattle.pool_check.specs.Founded.{IsFounded}
use Rattle.pool_check.specs.Laying.{laid_at}
use Rattle.raid_laws.specs.Raid.{Raid, gone_in}
use Rattle.raid_laws.specs.Moves.{IsSeated, IsSet}
use Rattle.raid_laws.proofs.Founding.{founded_marks, founded_named, founded_place, founded_seated}
use Rattle.raid_laws.proofs.Noted.{current_few, gone_from}
use Rattle.raid_laws.proofs.Seated.{array_with, missing_seat, names_joined}
use Rattle.assembler_laws.specs.Members.{AreMembers}

got : {X : Type 0} (xs : List X) (n : ℕ) → n < length xs → (x : X) × (slice_get xs n ≡ Some x)
got [] n below = absurd (omega (arith, below))
got (x ∷ xs) zero below = (x, refl)
got (x ∷ xs) (suc n) below = got xs n (omega (arith, below))

restarted_array : (v : View) → IsArray v → IsArray (restarted v)
restarted_array v is_array = array_with v (map (restart v.truth.size) v.seats) v.went (length-map v.seats (restart v.truth.size)) is_array

module _ (s : State) (t : Slices) (x : RackView) (checked : Checked) (absent : List ℕ) (m : AreMembers s t x checked absent)
    (rules : (n : ℕ) (v : View) → slice_get checked.arrays.items n ≡ Some v → IsArray v)
    (gone_now : List ℕ) (more : (p : ℕ) → names absent p ≡ true → names gone_now p ≡ true) where
  -- whoever is current and isn't absent has a disk
  pub few_place : (p : ℕ) → is_current s p ≡ true → p < 16
  few_place p current = current_few s p (valid_places s 0 m.valid).1 current

  pub seated : (p : ℕ) → is_current s p ≡ true → names absent p ≡ not (is_some (seat_of t p))
  seated p current = m.absent_is p ∙ ap (λ b. is_none (seat_of t p) && b) current ∙ of (seat_of t p)
    where
      of : (o : Option ℕ) → (is_none o && true) ≡ not (is_some o)
      of None = refl
      of (Some d) = refl

  -- so does whoever isn't noted
  has_seat : (p : ℕ) → is_current s p ≡ true → names gone_now p ≡ false → is_some (seat_of t p) ≡ true
  has_seat p current here = of (names absent p) (is_some (seat_of t p)) (seated p current) (more p)
    where
      of : (a b : Bool) → a ≡ not b → (a ≡ true → names gone_now p ≡ true) → b ≡ true
      of a true is named = refl
      of a false is named = absurd (both_ways (names gone_now p) here (named is))

  module _ (n : ℕ) (v : View) (is : slice_get checked.arrays.items n ≡ Some v) where
    abbrev f : IsFounded s (seat_of t) n v
    f = m.founded.each n v is

    abbrev u : View
    u = view_found n (not (nat_lt n s.joined)) f.found f.truth

    array_of : IsArray (restarted u)
    array_of = subst (λ w. IsArray (restarted w)) f.view (restarted_array v (rules n v is))

    there : (p : ℕ) → is_named f.truth p ≡ true → is_current s p ≡ true → names gone_now p ≡ false → is_some (super_in s f.image n p) ≡ true
    there p named current here = f.there p named current ∙ has_seat p current here

    some_seat : (o : Option ℕ) → is_some o ≡ true → (d : ℕ) × (o ≡ Some d)
    some_seat None is = absurd (both_ways false refl is)
    some_seat (Some d) is = (d, refl)

    -- the place of a member that isn't missing is current, and not absent
    counted : (o : Option Seat) (current absent_now : Bool) → option_map is_missing_seat o ≡ Some (not (current && not absent_now)) → o ≢ Some Missing
        → (current ≡ true) × (absent_now ≡ false)
    counted None current absent_now is there = absurd (let bad : None ≡ Some (not (current && not absent_now)) = is in cc)
    counted (Some seat) true false is there = (refl, refl)
    counted (Some seat) true true is there = absurd (there (ap Some (missing_seat seat (ap (λ o. unwrap_or o true) is))))
    counted (Some seat) false absent_now is there = absurd (there (ap Some (missing_seat seat (ap (λ o. unwrap_or o true) is))))

    -- a member that isn't missing has its slice
    slice_there : (k : ℕ) → k < f.truth.raid_disks → slice_get (gone gone_now (restarted u)).seats k ≢ Some Missing
        → data_sector + f.truth.size ≤ sectors_of t (slice_on (gone gone_now (restarted u)) k)
    slice_there k low not_missing =
        let p = place_at u k in
        let marks = founded_marks s f.image n (not (nat_lt n s.joined)) f.truth f.found gone_now f.truth_is f.named f.usable f.some there array_of k low in
        let named : is_named v.truth p ≡ true = ap (λ (w : View). is_named w.truth p) f.view
        ∙ founded_named s f.image n (not (nat_lt n s.joined)) f.truth f.found gone_now f.truth_is f.named f.usable f.some there array_of k low in
        let is_there = counted (slice_get (gone gone_now (restarted u)).seats k) (is_current s p) (names gone_now p) marks not_missing in
        let seat = some_seat (seat_of t p) (has_seat p is_there.0 is_there.1) in
        let e = got checked.extents.items n (let count = m.slots.lengths in let below = slice_get_within checked.arrays.items n v is in omega (arith, count, below)) in
        let few : p < 16 = founded_place s f.image n (not (nat_lt n s.joined)) f.truth f.found gone_now f.truth_is f.named f.usable f.some there array_of k low in
        let small : n < 16 = subst (λ (w : View). w.number < 16) f.view (rules n v is).few in
        let laid : laid_at (seat_of t) checked.arrays.items checked.extents.items n p ≡ Some e.0 =
        ap (option_and_then (λ (w : View). if is_named w.truth p && is_some (seat_of t p) then slice_get checked.extents.items n else None)) is
        ∙ ap₂ (λ (a : Bool) (o : Option ℕ). if a && is_some o then slice_get checked.extents.items n else None) named seat.1 ∙ e.1 in
        let long : sectors_of t (member_slice p n) ≡ e.0.sectors =
        m.members.sectors n p small few ∙ ap (λ (o : Option Extent). option_map_or (λ y. y.sectors) o 0) laid in
        let size = m.slots.sizes n v e.0 is e.1 ∙ ap (λ (w : View). data_sector + w.truth.size) f.view in
        omega (arith, long, size)

    slices_there : HasSlices (gone gone_now (restarted u)) (slices_of t x)
    slices_there = record {
      fit = m.fit;
      lasting = m.lasting;
      disks = λ k low not_missing.
          let few = founded_place s f.image n (not (nat_lt n s.joined)) f.truth f.found gone_now f.truth_is f.named f.usable f.some there array_of k low in
          let small : n < 16 = subst (λ (w : View). w.number < 16) f.view (rules n v is).few in
          omega (arith, few, small);
      sectors = slice_there;
    }

    -- it is one of the pool's arrays, and whoever is absent has gone in it
    pub array_seated : IsSeated s n (gone gone_now (restarted v)) (slices_of t x)
    array_seated =
        subst (λ w. IsSeated s n (gone gone_now (restarted w)) (slices_of t x)) (sym f.view)
        (founded_seated s f.image n (not (nat_lt n s.joined)) f.truth f.found gone_now f.truth_is f.named f.usable f.some there array_of (slices_of t x) slices_there)

  -- these arrays are a set
  pub members_set : (v : Raid) → v.state ≡ s
      → ((n : ℕ) (u : View) → slice_get checked.arrays.items n ≡ Some u → v.arrays n ≡ gone gone_now (restarted u))
      → IsSet v (slices_of t x)
  members_set v state arrays =
      let arrays_are = valid_arrays s 0 m.valid in
      let made : v.state.made ≡ s.made = ap (λ (r : State). r.made) state in
      let at : (n : ℕ) → n < v.state.made → (u : View) × (slice_get checked.arrays.items n ≡ Some u) =
      λ n low. got checked.arrays.items n (let count = m.founded.count in omega (arith, low, made, count)) in
      record {
        fit = m.fit;
        lasting = m.lasting;
        disks = refl;
        few = subst (λ (r : State). length r.drives.items ≤ 16) (sym state) (valid_places s 0 m.valid).1;
        most = let most = arrays_are.1 in omega (arith, made, most);
        valid = λ place low.
            subst (λ (r : State). is_valid r place ≡ true) (sym state) (valid_at s 0 place m.valid (subst (λ (r : State). place < length r.drives.items) state low));
        logs = λ place left.
            let parts = and_parts (is_current v.state place) (not (gone_in v place)) left in
            let current : is_current s place ≡ true = subst (λ (r : State). is_current r place ≡ true) state parts.0 in
            let one = at 0 (let least = arrays_are.0 in omega (arith, made, least)) in
            of_seat place current parts.1 one (seat_of t place) refl;
        arrays = λ n low.
            let one = at n low in
            subst (λ (r : State). IsSeated r n (v.arrays n) (slices_of t x)) (sym state)
            (subst (λ u. IsSeated s n u (slices_of t x)) (sym (arrays n one.0 one.1)) (array_seated n one.0 one.1));
        marked = λ n low marked.
            let one = at n low in
            absurd (both_ways (v.arrays n).marked
            (ap (λ (u : View). u.marked) (arrays n one.0 one.1 ∙ ap (λ w. gone gone_now (restarted w)) (m.founded.each n one.0 one.1).view)) marked);
      }
    where
      of_seat : (place : ℕ) → is_current s place ≡ true → not (gone_in v place) ≡ true → (u : View) × (slice_get checked.arrays.items 0 ≡ Some u)
          → (o : Option ℕ) → seat_of t place ≡ o → sectors_of t (log_slice place) ≡ log_sectors
      of_seat place current left one (Some d) seat = m.logs place d seat
      of_seat place current left one None seat =
          let few = few_place place current in
          let absent_is : names absent place ≡ true = seated place current ∙ ap (λ o. not (is_some o)) seat in
          let gone_is : has_gone (v.arrays 0) place ≡ true =
          ap (λ (u : View). has_gone u place) (arrays 0 one.0 one.1) ∙ names_joined one.0.went gone_now place few
          ∙ ap (λ b. names one.0.went place || b) (more place absent_is) ∙ or_true (names one.0.went place) in
          absurd (both_ways (not (gone_in v place))
          (ap not (gone_from v place 0 few (let least = (valid_arrays s 0 m.valid).0 in let made : v.state.made ≡ s.made = ap (λ (r : State). r.made) state in omega (arith, made, least)) gone_is)) left)
        where
          or_true : (b : Bool) → (b || true) ≡ true
          or_true true = refl
          or_true false = refl
