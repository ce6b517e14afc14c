-- On a drive that is no member of an array no superblock of it stands, whatever an opening may leave: where its slice would be slices don't lie, and what is
-- written of a partition table is none.
use Rattle.std.proofs.Common.{◌≡◌, ℕ, zero, suc, ◌+◌, ◌-◌, ◌<◌, ◌≤◌, ◌&&◌, false, nat_lt, List, Option, Some, None, option_map, unwrap_or, inl, inr, refl, sym, ap, subst, ◌∙◌, ltb-true, arith}
use Rattle.std.specs.Option.{option_and_then, option_map_or}
use Rattle.std.proofs.lemmas.Bool.{and_parts, both_ways, cases_Bool, cases_eq, cases_lt}
use Rattle.rack.specs.Moments.{Leaves}
use Rattle.rack.specs.Seen.{Image, IsLive, RackView}
use Rattle.rack.specs.Sequences.{WritesOnly}
use Rattle.rack.specs.Values.{MayLeave}
use Rattle.slice_rack.specs.Runs.{IsSliced}
use Rattle.slice_rack.specs.Slices.{IsOrderly, Slices, first_of as slice_first, seat_of, sectors_of}
use Rattle.md_super.specs.declared.superblock.Super.{Super}
use Rattle.array_image.specs.Places.{data_sector, log_sectors, log_slice, member_slice, place_of, slice_of, state_sector, super_sector}
use Rattle.array_core.proofs.Stripped.{some_same}
use Rattle.array_model.proofs.Keeping.{live_on}
use Rattle.pool_image.specs.Disks.{Disks, disks_of}
use Rattle.pool_image.specs.Drives.{Found, end_of, extent_from, extent_of, first_of}
use Rattle.pool_image.specs.Meaning.{is_member, truth_of}
use Rattle.pool_image.specs.Replay.{Extent}
use Rattle.pool_image.proofs.Founds.{first_behind}
use Rattle.pool_image.proofs.Truths.{extent_found}
use Rattle.pool_scan.specs.Scanning.{now_in}
use Rattle.pool_model.specs.Left.{NoStraySuperblock, HasNoSuper, IsPickOutsideSlices}
use Rattle.pool_model.specs.Pools.{AreSlicesOf}
use Rattle.pool_model.proofs.Layers.{IsLaid, laid}
use Rattle.pool_model.proofs.NoSuper.{no_super_replaced}
use Rattle.assembler_laws.specs.Holding.{AreSteady}
use Rattle.assembler_laws.specs.Writing.{IsSlicedOrTable}

-- ---- where the slice of a place would be that is no member of an array

log_extent_is : (f : Found) → extent_of f 0 ≡ Some (record { first = state_sector; sectors = log_sectors })
unfolding extent_of
log_extent_is f = refl

module _ (f : Found) (t : Slices) (orderly : IsOrderly t) (slices : AreSlicesOf f t) (few : f.state.made ≤ 16)
    (truths : (n : ℕ) → n < f.state.made → (u : Super) × (truth_of f n ≡ Some u)) where
  module _ (n : ℕ) (low : n < f.state.made) where
    abbrev truth : Super
    truth = (truths n low).0

    lie : IsLaid f n truth
    lie = laid f n truth (omega (arith, low, few)) (truths n low).1

    extent_is : extent_of f (suc n) ≡ Some (record { first = lie.first; sectors = data_sector + truth.size })
    extent_is = extent_found f n lie.first truth lie.begins lie.is

    next : first_of f (suc n) ≡ Some (lie.first + (data_sector + truth.size))
    unfolding first_of
    next =
        ap (option_and_then (λ first. option_map end_of (extent_from f n first))) lie.begins
        ∙ ap (λ (o : Option Super). option_map end_of (option_map (λ u. record { first = lie.first; sectors = data_sector + u.size }) o)) lie.is

  -- the slices of an array end before those of a later one begin
  ends_before : (m k first : ℕ) (low : m < f.state.made) → m < k → k ≤ f.state.made → first_of f k ≡ Some first → (lie m low).first + (data_sector + (truth m low).size) ≤ first
  ends_before m zero first low less within begins = absurd (omega (arith, less))
  ends_before m (suc k) first low less within begins = elim (cases_eq m k) [
    | inl same ↦
        (let is = some_same ((lie m low).first + (data_sector + (truth m low).size)) first (sym (next m low) ∙ ap (λ j. first_of f (suc j)) same ∙ begins) in
        omega (arith, is))
    | inr other ↦
        (let there : k < f.state.made = omega (arith, within) in
        let before = ends_before m k (lie k there).first low (omega (arith, less, other)) (omega (arith, within)) (lie k there).begins in
        let is = some_same ((lie k there).first + (data_sector + (truth k there).size)) first (sym (next k there) ∙ begins) in
        omega (arith, before, is))
  ]

  module _ (n p d first : ℕ) (low : n < f.state.made) (seat : f.seats p ≡ Some d) (none : is_member f n p ≡ false) (begins : first_of f n ≡ Some first) where
    same_first : (lie n low).first ≡ first
    same_first = some_same (lie n low).first first (sym (lie n low).begins ∙ begins)

    -- the log slice lies before
    off_log : (at : ℕ) → at < sectors_of t (log_slice p) → first + super_sector ≡ slice_first t (log_slice p) + at → ⊥
    off_log at within is =
        let same = sym (log_extent_is f) ∙ slices.logs p d seat in
        let begin : state_sector ≡ slice_first t (log_slice p) = ap (λ (o : Option Extent). option_map_or (λ e. e.first) o 0) same in
        let size : log_sectors ≡ sectors_of t (log_slice p) = ap (λ (o : Option Extent). option_map_or (λ e. e.sectors) o 0) same in
        let behind = first_behind f n first begins in
        omega (arith, within, is, begin, size, behind)

    -- and those of the arrays that it is a member of before or behind
    off_member : (m at : ℕ) → m < 16 → at < sectors_of t (member_slice p m) → first + super_sector ≡ slice_first t (member_slice p m) + at → ⊥
    off_member m at small within is = elim (cases_Bool (nat_lt m f.state.made && is_member f m p)) [
      | inr other ↦ (let nothing = slices.others m p small other in omega (arith, within, nothing))
      | inl both ↦
          (let parts = and_parts (nat_lt m f.state.made) (is_member f m p) both in
          let made = ltb-true m f.state.made parts.0 in
          let same = sym (extent_is m made) ∙ slices.members m p d made seat parts.1 in
          let begin : (lie m made).first ≡ slice_first t (member_slice p m) = ap (λ (o : Option Extent). option_map_or (λ e. e.first) o 0) same in
          let size : data_sector + (truth m made).size ≡ sectors_of t (member_slice p m) = ap (λ (o : Option Extent). option_map_or (λ e. e.sectors) o 0) same in
          elim (cases_eq m n) [
            | inl equal ↦ both_ways (is_member f m p) (ap (λ j. is_member f j p) equal ∙ none) parts.1
            | inr apart ↦ elim (cases_lt m n) [
              | inl before ↦ (let ends = ends_before m n first made before (omega (arith, low)) begins in omega (arith, ends, within, is, begin, size))
              | inr after ↦
                  (let ends = ends_before n m (lie m made).first low (omega (arith, after, apart)) (omega (arith, made)) (lie m made).begins in
                  let equal = same_first in
                  omega (arith, ends, is, begin, equal))
            ]
          ])
    ]

    -- so no slice has the sector of its superblock
    pub unsliced : (v : List ℕ) → IsSliced t d (first + super_sector) v → ⊥
    unsliced v is = by (seat_of t (place_of is.slice)) refl
      where
        at_place : place_of is.slice ≡ p → ⊥
        at_place place = elim (cases_eq (slice_of is.slice) 0) [
          | inl log ↦
              (let slice : is.slice ≡ log_slice p = omega (arith, log, place) in
              off_log is.at (subst (λ k. is.at < sectors_of t k) slice is.within) (is.sector_is ∙ ap (λ k. slice_first t k + is.at) slice))
          | inr member ↦
              (let m : ℕ = slice_of is.slice - 1 in
              let slice : is.slice ≡ member_slice p m = omega (arith, member, place) in
              off_member m is.at (omega arith) (subst (λ k. is.at < sectors_of t k) slice is.within) (is.sector_is ∙ ap (λ k. slice_first t k + is.at) slice))
        ]

        by : (o : Option ℕ) → seat_of t (place_of is.slice) ≡ o → ⊥
        by None free = (let nothing = orderly.seated is.slice free in let within = is.within in omega (arith, within, nothing))
        by (Some e) there =
            let disk : d ≡ e = is.disk_is ∙ ap (λ (o : Option ℕ). unwrap_or o 0) there in
            at_place (orderly.one_place (place_of is.slice) p d (there ∙ ap Some (sym disk)) (slices.seats p ∙ seat))

-- ---- what may be left outside the slices

-- The pool f is that of the disks x. From there on slices were written, and tables were settled.
module _ (f : Found) (t : Slices) (x w : RackView) (alone : NoStraySuperblock f (now_in x)) (steady : AreSteady x) (disks : f.disks ≡ disks_of x)
    (inside : (p d : ℕ) → f.seats p ≡ Some d → d < x.disks)
    (free : (n p d first : ℕ) → n < f.state.made → f.seats p ≡ Some d → is_member f n p ≡ false → first_of f n ≡ Some first → (v : List ℕ) → IsSliced t d (first + super_sector) v → ⊥)
    (y z : RackView) (late : WritesOnly x w (IsSlicedOrTable y z t)) where
  pub alone_off : (i : Image) → IsPickOutsideSlices t w i → NoStraySuperblock f i
  alone_off i off n p d first low seat none begins within =
      let u : ℕ = first + super_sector in
      let there : d < x.disks = inside p d seat in
      let sector : u < x.sectors d = subst (λ (k : Disks). u < k.sectors d) disks within in
      let live : IsLive x w d u = record {
        disk = subst (λ k. d < k) (sym late.stays.disks) there;
        sector = subst (λ k. u < k) (sym (late.stays.sectors d)) sector;
        is_told = steady.told d there;
        unspent = late.stays.lasts steady.lasts.lasting d u (steady.lasts.unspent d u);
      } in
      let left : MayLeave (w.held d u) (i d u) =
      off d u (record { disk = live.disk; sector = live.sector; is_told = late.stays.told d live.is_told; unspent = live.unspent })
      (λ v. free n p d first low seat none begins v) in
      elim (late.within d u (i d u) live left) [
        | inl old ↦ subst (HasNoSuper f.state.pool.0 n) (sym (steady.single d u there sector (i d u) old)) (alone n p d first low seat none begins within)
        | inr (inl slice) ↦ absurd (free n p d first low seat none begins (i d u) slice)
        | inr (inr at) ↦ no_super_replaced f.state.pool.0 n at.value.copy at.value.table u (i d u) at.value.within
      ]

-- and so it is at each stop inside calls that write slices alone
pub alone_stops : (f : Found) (t : Slices) (x y : RackView) → x.lasting → WritesOnly x y (IsSliced t) → ((i : Image) → IsPickOutsideSlices t x i → NoStraySuperblock f i) → x.traced
    → Leaves x y (NoStraySuperblock f)
alone_stops f t x y lasting only alone traced =
    let stops = only.stops traced in
    record {
      later = stops.later;
      kept = stops.kept;
      past = stops.past;
      new = λ k i late early stop.
          alone i (λ d u live never. elim (stops.new k i late early stop d u (live_on lasting only.stays live)) [
            | inl may ↦ may
            | inr slice ↦ absurd (never (i d u) slice)
          ]);
    }
