-- Sectors of the slices of a pool's drives are in their log slices or in the arrays' part of their disks.
use Rattle.std.proofs.Common.{◌≡◌, ◌⊎◌, ℕ, ◌+◌, ◌-◌, ◌<◌, ◌≤◌, Bool, true, false, ◌&&◌, is_some, if◌then◌else◌, List, slice_get, Option, Some, None, unwrap_or, inl, inr, refl, sym, ap, subst, ◌∙◌, arith}
use Rattle.std.specs.Option.{option_and_then, option_map_or}
use Rattle.std.proofs.lemmas.Bool.{cases_eq}
use Rattle.std.proofs.lemmas.Option.{none-some}
use Rattle.rack.specs.Seen.{RackView}
use Rattle.rack.specs.Sequences.{OnlyReads, WritesOnly}
use Rattle.rack.proofs.Writing.{only_weaker}
use Rattle.slice_rack.specs.Runs.{IsSliced}
use Rattle.slice_rack.specs.Slices.{Slices, IsOrderly, first_of, place_of, seat_of, sectors_of}
use Rattle.pool_state.specs.declared.contents.State.{State}
use Rattle.array_image.specs.Places.{arrays_first, log_sectors, log_slice, member_slice, slice_of, state_sector}
use Rattle.array_image.specs.Supers.{is_named}
use Rattle.array_model.specs.View.{View}
use Rattle.pool_image.specs.Disks.{Seats}
use Rattle.pool_scan.specs.declared.Known.{Known}
use Rattle.pool_scan.specs.Choosing.{seat_by}
use Rattle.pool_check.specs.declared.Checked.{Checked}
use Rattle.pool_check.specs.declared.Extent.{Extent}
use Rattle.pool_check.specs.Laying.{laid_at}
use Rattle.raid_laws.proofs.Noted.{current_few}
use Rattle.pool_scan.proofs.Valid.{valid_places}
use Rattle.assembler_laws.specs.Members.{AreMembers}
use Rattle.assembler_laws.specs.Writing.{IsDriveOrTable, IsSlicedOrTable}
use Rattle.assembler_laws.proofs.Written.{rack_then, sector_around}

-- where a member's slice is laid
record IsLaidMember (seats : Seats) (arrays : List View) (extents : List Extent) (n p : ℕ) (e : Extent) : Type 0 where
  view : View
  array : slice_get arrays n ≡ Some view
  named : is_named view.truth p ≡ true
  extent : slice_get extents n ≡ Some e

laid_member : (seats : Seats) (arrays : List View) (extents : List Extent) (n p : ℕ) (e : Extent) → laid_at seats arrays extents n p ≡ Some e → IsLaidMember seats arrays extents n p e
laid_member seats arrays extents n p e is = of (slice_get arrays n) refl is
  where
    of_name : (v : View) → slice_get arrays n ≡ Some v → (b c : Bool) → is_named v.truth p ≡ b → (if b && c then slice_get extents n else None) ≡ Some e
        → IsLaidMember seats arrays extents n p e
    of_name v at true true named is = record { view = v; array = at; named = named; extent = is }
    of_name v at true false named is = absurd (none-some e is)
    of_name v at false c named is = absurd (none-some e is)

    of : (o : Option View) → slice_get arrays n ≡ o → option_and_then (λ v. if is_named v.truth p && is_some (seats p) then slice_get extents n else None) o ≡ Some e
        → IsLaidMember seats arrays extents n p e
    of None at is = absurd (none-some e is)
    of (Some v) at is = of_name v at (is_named v.truth p) (is_some (seats p)) refl is

module _ (s : State) (t : Slices) (y : RackView) (checked : Checked) (absent : List ℕ) (orderly : IsOrderly t) (m : AreMembers s t y checked absent) where
  -- a sector of a slice, on the disk of the slice's place
  module _ (k u d : ℕ) (inside : u < sectors_of t k) (seat : seat_of t (place_of k) ≡ Some d) where
    abbrev p : ℕ
    p = place_of k

    few : p < 16
    few = current_few s p (valid_places s 0 m.valid).1 (m.current p d seat)

    spot : (state_sector ≤ first_of t k + u) × ((first_of t k + u < arrays_first) ⊎ (first_of t k + u + 33 < y.sectors d))
    spot = elim (cases_eq (slice_of k) 0) [
      | inl log ↦
          let slice : k ≡ log_slice p = omega (arith, log) in
          let first : first_of t k ≡ state_sector = ap (first_of t) slice ∙ m.firsts p d seat in
          let size : sectors_of t k ≡ log_sectors = ap (sectors_of t) slice ∙ m.logs p d seat in
          (omega (arith, first), inl (omega (arith, first, size, inside)))
      | inr member ↦
          let n : ℕ = slice_of k - 1 in
          let slice : k ≡ member_slice p n = omega (arith, member) in
          let low : n < 16 = omega arith in
          of n low slice (laid_at (seat_of t) checked.arrays.items checked.extents.items n p) refl
    ]
      where
        of : (n : ℕ) → n < 16 → k ≡ member_slice p n → (o : Option Extent) → laid_at (seat_of t) checked.arrays.items checked.extents.items n p ≡ o
            → (state_sector ≤ first_of t k + u) × ((first_of t k + u < arrays_first) ⊎ (first_of t k + u + 33 < y.sectors d))
        of n low slice None is =
            let none : sectors_of t k ≡ 0 = ap (sectors_of t) slice ∙ m.members.sectors n p low few ∙ ap (λ o. option_map_or (λ (e : Extent). e.sectors) o 0) is in
            absurd (omega (arith, none, inside))
        of n low slice (Some e) is =
            let size : sectors_of t k ≡ e.sectors = ap (sectors_of t) slice ∙ m.members.sectors n p low few ∙ ap (λ o. option_map_or (λ (e : Extent). e.sectors) o 0) is in
            let first : first_of t k ≡ e.first = ap (first_of t) slice ∙ m.members.firsts n p e low few is in
            let at = laid_member (seat_of t) checked.arrays.items checked.extents.items n p e is in
            let fits = m.slots.fits n at.view e p d at.array at.extent at.named seat in
            let least = m.slots.ordered.least n e at.extent in
            (omega (arith, first, least), inr (omega (arith, first, size, inside, fits)))

  -- a sector of a slice is one of the log slices or the arrays' part of a place's disk
  pub sliced_at : (d u : ℕ) (v : List ℕ) → IsSliced t d u v
      → (p : ℕ) × (seat_of t p ≡ Some d) × (state_sector ≤ u) × ((u < arrays_first) ⊎ (u + 33 < y.sectors d))
  sliced_at d u v is = by (seat_of t (place_of is.slice)) refl
    where
      by : (o : Option ℕ) → seat_of t (place_of is.slice) ≡ o → (p : ℕ) × (seat_of t p ≡ Some d) × (state_sector ≤ u) × ((u < arrays_first) ⊎ (u + 33 < y.sectors d))
      by None seat = let none = orderly.seated is.slice seat in let within = is.within in absurd (omega (arith, none, within))
      by (Some e) seat =
          let disk : d ≡ e = is.disk_is ∙ ap (λ (o : Option ℕ). unwrap_or o 0) seat in
          let here : seat_of t (place_of is.slice) ≡ Some d = seat ∙ ap Some (sym disk) in
          let at = spot is.slice is.at d is.within here in
          let sector = is.sector_is in (
            place_of is.slice,
            here,
            (let behind = at.0 in omega (arith, behind, sector)),
            elim at.1 [
              | inl early ↦ inl (omega (arith, early, sector))
              | inr late ↦ inr (omega (arith, late, sector))
            ],
          )

-- so only drives are written after reads, where only slices and tables are
module _ (s : State) (t : Slices) (x y z w : RackView) (checked : Checked) (absent : List ℕ) (known : List Known) (orderly : IsOrderly t)
    (m : AreMembers s t y checked absent) (seats : (p d : ℕ) → seat_of t p ≡ Some d → seat_by s known p ≡ Some d)
    (reads : OnlyReads x y) (writes : WritesOnly y z (IsSlicedOrTable y z t)) (texts : WritesOnly z w (IsSliced t)) where
  earlier : (d u : ℕ) (v : List ℕ) → IsSlicedOrTable y z t d u v → IsDriveOrTable x w known s d u v
  earlier d u v (inl is) =
      let at = sliced_at s t y checked absent orderly m d u v is in
      inl (record {
        place = at.0;
        seat = seats at.0 d at.1;
        behind = at.2;
        before = subst (λ n. (u < arrays_first) ⊎ (u + 33 < n)) (reads.stays.sectors d) at.3;
      })
  earlier d u v (inr is) =
      inr (sector_around x y z w reads.stays writes.stays texts.stays (seat_of t) (seat_by s known) seats (λ p j k seat of live. reads.keeps.held j k live) d u v is)

  pub writes_drives : WritesOnly x w (IsDriveOrTable x w known s)
  writes_drives = only_weaker (IsSlicedOrTable y z t) (IsDriveOrTable x w known s) earlier (rack_then t x y z w reads writes texts)

-- in an opening: the drives' check, then the rack of arrays, then the volume
pub members_drives : (s : State) (t : Slices) (y : RackView) (checked : Checked) (absent : List ℕ) (known : List Known) (r : State) → IsOrderly t → AreMembers s t y checked absent
    → s ≡ r → ((p d : ℕ) → seat_of t p ≡ Some d → seat_by r known p ≡ Some d)
    → (x z w : RackView) → OnlyReads x y → WritesOnly y z (IsSlicedOrTable y z t) → WritesOnly z w (IsSliced t) → WritesOnly x w (IsDriveOrTable x w known r)
members_drives s t y checked absent known r orderly m same seats x z w reads one two =
    subst (λ k. WritesOnly x w (IsDriveOrTable x w known k)) same
    (writes_drives s t x y z w checked absent known orderly m (λ p d seat. subst (λ k. seat_by k known p ≡ Some d) (sym same) (seats p d seat)) reads one two)
