-- Where on a drive that was taken in no slice lies, and what is laid there that says nothing.
use Rattle.std.proofs.Common.{◌≡◌, ◌≢◌, ℕ, zero, suc, ◌+◌, ◌-◌, ◌<◌, ◌≤◌, ◌==◌, if◌then◌else◌, Bool, true, false, List, Option, Some, None, unwrap_or, refl, sym, ap, ◌∙◌, inl, inr, arith}
use Rattle.std.specs.Prelude.{Ok}
use Rattle.std.specs.Option.{option_map_or}
use Rattle.std.specs.Result.{result_ok}
use Rattle.std.proofs.lemmas.Bool.{both_ways, cases_eq, cases_lt, ne_eqb}
use Rattle.std.proofs.lemmas.Option.{none-some}
use Rattle.slice_rack.specs.Runs.{IsSliced}
use Rattle.slice_rack.specs.Slices.{Slices, place_of, seat_of}
use Rattle.shr_base.specs.Blocks.{bytes_at, number_at}
use Rattle.gpt_table.specs.declared.Table.{Table}
use Rattle.gpt_table.specs.Plans.{IsOfTable, in_table}
use Rattle.pool_state.specs.declared.contents.Copied.{Copied}
use Rattle.pool_state.specs.Sector.{decoded}
use Rattle.array_image.specs.Places.{arrays_first, slice_of, state_sector, super_sector}
use Rattle.array_core.proofs.Stripped.{some_same}
use Rattle.pool_image.specs.Drives.{Found, first_of}
use Rattle.pool_image.specs.Meaning.{is_member}
use Rattle.raid_laws.specs.NewDrive.{IsOfDrive, first_in, first_laid, joins, length_in, no_state, sectors_laid, slice_length}
use Rattle.raid_laws.specs.Raid.{Raid}
use Rattle.array_model.specs.View.{View}
use Rattle.pool_model.specs.Left.{HasNoSuper}
use Rattle.pool_model.specs.Pools.{AreSlicesOf}
use Rattle.pool_model.specs.Taken.{SeatsNew, views_of}
use Rattle.pool_model.proofs.Beginnings.{first_is, no_view, take_sum, view_at}
use Rattle.pool_model.proofs.NoSuper.{no_super_table}
use Rattle.pool_model.proofs.Taken.{IsKnownBefore}

-- ---- a disk that is no drive

-- it has no slice
pub free_stranger : (f : Found) (t : Slices) (d s : ℕ) (w : List ℕ) → AreSlicesOf f t → ((p : ℕ) → f.seats p ≡ Some d → ⊥) → IsSliced t d s w → ⊥
free_stranger f t d s w slices never is = by (f.seats (place_of is.slice)) refl
  where
    by : (o : Option ℕ) → f.seats (place_of is.slice) ≡ o → ⊥
    by None none = (let nothing = slices.unseated is.slice none in let within = is.within in omega (arith, nothing, within))
    by (Some e) seat =
        never (place_of is.slice)
        (seat ∙ ap Some (sym (is.disk_is ∙ ap (λ o. unwrap_or o 0) (slices.seats (place_of is.slice) ∙ seat))))

-- ---- what is laid on a new drive

-- zeros say no state
none_said : result_ok (decoded no_state) ≡ None
unfolding number_at bytes_at
none_said = refl

-- off the tables, in the state's sector
pub laid_state : (d : ℕ) (table : Table) (v : List ℕ) (copy : Copied) → 10273 ≤ table.sectors → IsOfDrive d table d state_sector v → decoded v ≡ Ok copy → ⊥
laid_state d table v copy room is says = elim is.1 [
  | inl state ↦
      none-some copy (sym none_said ∙ ap (λ w. result_ok (decoded w)) (sym state.1) ∙ ap result_ok says)
  | inr other ↦ elim other [
    | inl gate ↦ (let at = gate.0 in omega (arith, at))
    | inr tabled ↦ off_table (in_table table state_sector v tabled)
  ]
]
  where
    off_table : IsOfTable table.sectors state_sector → ⊥
    off_table (inl first) = omega (arith, first)
    off_table (inr (inl (inl header))) = omega (arith, header)
    off_table (inr (inl (inr entries))) = (let high = entries.1 in omega (arith, high))
    off_table (inr (inr (inl header))) = omega (arith, header, room)
    off_table (inr (inr (inr entries))) = (let low = entries.0 in omega (arith, low, room))

-- what is laid behind the log slice is of the table, and no superblock
pub laid_super : (pool : List ℕ) (n d : ℕ) (table : Table) (s : ℕ) (v : List ℕ) → arrays_first ≤ s → IsOfDrive d table d s v → HasNoSuper pool n v
laid_super pool n d table s v past is = elim is.1 [
  | inl state ↦ (let at = state.0 in absurd (omega (arith, at, past)))
  | inr other ↦ elim other [
    | inl gate ↦ (let at = gate.0 in absurd (omega (arith, at, past)))
    | inr tabled ↦ no_super_table pool n table s v (omega (arith, past)) tabled
  ]
]

-- ---- a drive that was taken in

module _ (f : Found) (t u : Slices) (v : Raid) (place disk sectors : ℕ) (new : SeatsNew f t u v place disk sectors) (slices : AreSlicesOf f t)
    (known : IsKnownBefore f v) (n first : ℕ) (low : n < f.state.made) (begins : first_of f n ≡ Some first) (none : is_member f n place ≡ false) where
  abbrev arrays : List View
  arrays = views_of v

  made : v.state.made ≡ f.state.made
  made = known.after.same.made

  first_at : (m : ℕ) → m ≤ f.state.made → first_of f m ≡ Some (first_in arrays m)
  first_at = first_is f v known.outset.made.1 made known.outset.truths known.geometry

  first_same : first ≡ first_in arrays n
  first_same = some_same first (first_in arrays n) (sym begins ∙ first_at n (omega (arith, low)))

  pub past_log : arrays_first ≤ first
  past_log = let same = first_same in omega (arith, same)

  length_at : (m : ℕ) → m < f.state.made → length_in arrays m ≡ slice_length (v.arrays m)
  length_at m less = ap (λ o. option_map_or slice_length o 0) (view_at v m (omega (arith, less, made)))

  next_first : (m : ℕ) → m < f.state.made → first_in arrays (suc m) ≡ first_in arrays m + length_in arrays m
  next_first m less =
      let sum = take_sum arrays m (v.arrays m) (view_at v m (omega (arith, less, made))) in
      let long = length_at m less in
      omega (arith, sum, long)

  -- the slices of an array end where those of a later one begin, or before
  ends_before : (m k : ℕ) → m < k → k ≤ f.state.made → first_in arrays m + length_in arrays m ≤ first_in arrays k
  ends_before m zero less within = absurd (omega (arith, less))
  ends_before m (suc k) less within = elim (cases_eq m k) [
    | inl same ↦
        (let next = next_first m (omega (arith, less, within)) in
        let e : first_in arrays (suc m) ≡ first_in arrays (suc k) = ap (λ j. first_in arrays (suc j)) same in
        omega (arith, next, e))
    | inr other ↦
        (let before = ends_before m k (omega (arith, less, other)) (omega (arith, within)) in
        let next = next_first k (omega (arith, within)) in
        omega (arith, before, next))
  ]

  -- a member's slice doesn't have it
  off_member : (m at : ℕ) (b : Bool) → joins arrays place sectors m ≡ b → at < (if b then length_in arrays m else 0) → first + super_sector ≡ first_in arrays m + at → ⊥
  off_member m at false is inside here = omega (arith, inside)
  off_member m at true is inside here = elim (cases_lt m f.state.made) [
    | inr past ↦
        (let nothing : length_in arrays m ≡ 0 = ap (λ o. option_map_or slice_length o 0) (no_view v m (omega (arith, past, made))) in
        omega (arith, nothing, inside))
    | inl less ↦
        (let same = first_same in
        elim (cases_eq m n) [
          | inl equal ↦
              both_ways (joins arrays place sectors m) (new.members m less ∙ ap (λ k. is_member f k place) equal ∙ none) is
          | inr other ↦ elim (cases_lt m n) [
            | inl before ↦ (let ends = ends_before m n before (omega (arith, low)) in omega (arith, ends, inside, here, same))
            | inr after ↦
                (let ends = ends_before n m (omega (arith, after, other)) (omega (arith, less)) in
                let long = length_at n low in
                omega (arith, ends, long, here, same))
          ]
        ])
  ]

  off_laid : (j at : ℕ) → at < sectors_laid arrays place sectors j → first + super_sector ≡ first_laid arrays j + at → ⊥
  off_laid zero at inside here = let past = past_log in omega (arith, inside, here, past)
  off_laid (suc m) at inside here =
      let other : (suc m == 0) ≡ false = ne_eqb (suc m) 0 (λ same. omega (arith, same)) in
      let index : suc m - 1 ≡ m = omega arith in
      let size : sectors_laid arrays place sectors (suc m) ≡ (if joins arrays place sectors m then length_in arrays m else 0) =
      ap (λ (b : Bool). if b then 8192 else if joins arrays place sectors (suc m - 1) then length_in arrays (suc m - 1) else 0) other
      ∙ ap (λ k. if joins arrays place sectors k then length_in arrays k else 0) index in
      let at_first : first_laid arrays (suc m) ≡ first_in arrays m =
      ap (λ (b : Bool). if b then state_sector else first_in arrays (suc m - 1)) other ∙ ap (first_in arrays) index in
      off_member m at (joins arrays place sectors m) refl (omega (arith, inside, size)) (omega (arith, here, at_first))

  -- Where the superblock of an array would stand that the place is no member of, the disk has no slice.
  pub free_super : (w : List ℕ) → IsSliced u disk (first + super_sector) w → ⊥
  free_super w is = elim (cases_eq (place_of is.slice) place) [
    | inl same ↦
        (let within = is.within in
        let long = new.seats.own is.slice same in
        let at_first = new.seats.own_firsts is.slice same (omega (arith, within)) in
        let here = is.sector_is in
        off_laid (slice_of is.slice) is.at (omega (arith, within, long)) (omega (arith, here, at_first)))
    | inr other ↦ away other (f.seats (place_of is.slice)) refl
  ]
    where
      away : place_of is.slice ≢ place → (o : Option ℕ) → f.seats (place_of is.slice) ≡ o → ⊥
      away other None nobody =
          (let nothing = slices.unseated is.slice nobody in
          let many = new.seats.others is.slice other in
          let within = is.within in
          omega (arith, nothing, many, within))
      away other (Some e) seat =
          (new.others (place_of is.slice) e other seat).1
          (sym (is.disk_is
          ∙ ap (λ o. unwrap_or o 0)
          (new.seats.seats (place_of is.slice)
          ∙ ap (λ (b : Bool). if b then Some disk else seat_of t (place_of is.slice)) (ne_eqb (place_of is.slice) place other)
          ∙ slices.seats (place_of is.slice) ∙ seat)))
