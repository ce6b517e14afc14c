-- A new drive has its table in whatever it may be left with outside the slices, and by it a replay finds its members' slices.
use Rattle.std.proofs.Common.{◌≡◌, ℕ, suc, ◌+◌, ◌-◌, ◌<◌, ◌≤◌, ◌==◌, if◌then◌else◌, Bool, true, false, List, unwrap_or, Option, Some, None, inl, inr, refl, sym, ap, ap₂, ◌∙◌, eq-eqb, arith}
use Rattle.std.proofs.lemmas.Bool.{cases_Bool, cases_lt, ne_eqb}
use Rattle.std.proofs.lemmas.Option.{none-some}
use Rattle.rack.specs.Seen.{Image, IsLive, RackView}
use Rattle.rack.specs.Values.{IsSingle}
use Rattle.slice_rack.specs.Runs.{IsSliced}
use Rattle.slice_rack.specs.Slices.{IsOrderly, Slices, disk_of, place_of, seat_of, sectors_of}
use Rattle.gpt_table.specs.declared.Table.{Table}
use Rattle.gpt_table.specs.declared.TableCopy.TheVariants.{Primary}
use Rattle.gpt_table.specs.Changes.{the_table}
use Rattle.gpt_table.specs.Disk.{Contents, HoldsCopy, IsOfCopy, now_on}
use Rattle.gpt_table.specs.Plans.{IsOfTable}
use Rattle.gpt_table.proofs.Copies.{copy_is_on_disk}
use Rattle.gpt_table.proofs.Joined.{table_at_agrees}
use Rattle.gpt_table.proofs.Tables.{first_says}
use Rattle.array_image.specs.Places.{log_sectors, member_slice, slice_of, state_sector}
use Rattle.array_model.specs.View.{View}
use Rattle.pool_image.specs.Replay.{extent_by}
use Rattle.raid_laws.specs.NewDrive.{SeatsDrive, drive_table, first_in, first_laid, joins, length_in}
use Rattle.raid_laws.specs.Raid.{Raid}
use Rattle.pool_model.specs.Left.{IsPickOutsideSlices}
use Rattle.pool_model.specs.Stopped.{LieOn}
use Rattle.pool_model.specs.Taken.{views_of}
use Rattle.pool_model.proofs.Beginnings.{no_view}
use Rattle.shr_tool.proofs.DriveTable.{has_room, laid_extent}

-- the table of a place's new drive, of this id, on a disk of so many sectors
abbrev pub table_in : List ℕ → Raid → (place sectors : ℕ) → Table
table_in id v place sectors = drive_table id (views_of v) place sectors v.state.made

module _ (id : List ℕ) (t u : Slices) (v : Raid) (place disk sectors : ℕ) (seats : SeatsDrive (views_of v) place disk sectors t u) where
  abbrev arrays : List View
  arrays = views_of v

  -- ---- a slice that is there

  module _ (n : ℕ) (few : n < 16) (some : 0 < sectors_of u (member_slice place n)) where
    on_place : place_of (member_slice place n) ≡ place
    on_place = omega (arith, few)

    of_array : slice_of (member_slice place n) ≡ suc n
    of_array = omega (arith, few)

    array_is : slice_of (member_slice place n) - 1 ≡ n
    array_is = omega (arith, few)

    not_log : (slice_of (member_slice place n) == 0) ≡ false
    not_log = ne_eqb (slice_of (member_slice place n)) 0 (λ none. let at = of_array in omega (arith, none, at))

    many : sectors_of u (member_slice place n) ≡ (if joins arrays place sectors n then length_in arrays n else 0)
    many =
        seats.own (member_slice place n) on_place
        ∙ ap₂ (λ (b : Bool) k. if b then log_sectors else if joins arrays place sectors k then length_in arrays k else 0) not_log array_is

    joined : joins arrays place sectors n ≡ true
    joined = elim (cases_Bool (joins arrays place sectors n)) [
      | inl in_it ↦ in_it
      | inr out ↦
          absurd (let none : sectors_of u (member_slice place n) ≡ 0 = many ∙ ap (λ (b : Bool). if b then length_in arrays n else 0) out in omega (arith, some, none))
    ]

    low : n < v.state.made
    low = elim (cases_lt n v.state.made) [
      | inl less ↦ less
      | inr past ↦ (let room = has_room id arrays place sectors n joined in absurd (none-some room.view (sym (no_view v n past) ∙ room.is_view)))
    ]

  -- The drive's table has the members' slices that the place has got.
  pub table_lies : (contents : Contents) → the_table sectors contents ≡ Some (table_in id v place sectors) → LieOn u place sectors contents
  table_lies contents is n few some =
      ap (λ o. extent_by sectors o (n + 1)) is
      ∙ laid_extent id arrays place sectors v.state.made n (low n few some) (joined n few some)
      ∙ ap₂ (λ (a b : ℕ). Some (record { first = a; sectors = b }))
      (sym (seats.own_firsts (member_slice place n) (on_place n few some) some
      ∙ ap₂ (λ (b : Bool) k. if b then state_sector else first_in arrays k) (not_log n few some) (array_is n few some)))
      (sym (many n few some ∙ ap (λ (b : Bool). if b then length_in arrays n else 0) (joined n few some)))

  -- ---- whatever it may be left with

  seat : seat_of u place ≡ Some disk
  seat = seats.seats place ∙ ap (λ (b : Bool). if b then Some disk else seat_of t place) (eq-eqb place place refl)

  -- its slices lie past the first copy of its table
  past : (j : ℕ) → 2048 ≤ first_laid arrays j
  past j = by (j == 0)
    where
      by : (b : Bool) → 2048 ≤ (if b then state_sector else first_in arrays (j - 1))
      by true = omega arith
      by false = omega arith

  first_copy : (k : ℕ) → IsOfCopy Primary sectors k → k < 34
  first_copy k (inl is) = omega (arith, is)
  first_copy k (inr among) = let high = among.1 in omega (arith, high)

  module _ (orderly : IsOrderly u) where
    -- a slice of the disk is one of the place's
    owned : (k : ℕ) → 0 < sectors_of u k → disk ≡ disk_of u k → place_of k ≡ place
    owned k some on = by (seat_of u (place_of k)) refl
      where
        by : (o : Option ℕ) → seat_of u (place_of k) ≡ o → place_of k ≡ place
        by None none = absurd (let nothing = orderly.seated k none in omega (arith, some, nothing))
        by (Some e) is = orderly.one_place (place_of k) place disk (is ∙ ap Some (sym (on ∙ ap (λ o. unwrap_or o 0) is))) seat

    unsliced : (k : ℕ) → IsOfCopy Primary sectors k → (w : List ℕ) → IsSliced u disk k w → ⊥
    unsliced k of w is =
        let within = is.within in
        let some : 0 < sectors_of u is.slice = omega (arith, within) in
        let first = seats.own_firsts is.slice (owned is.slice some is.disk_is) some in
        let high = past (slice_of is.slice) in
        let here = is.sector_is in
        let small = first_copy k of in
        omega (arith, first, high, here, small)

    -- Where the first copy of its table has one value in each sector, the disk has it outside the slices.
    pub table_left : (z : RackView) → 67 ≤ sectors → ((k : ℕ) → k < sectors → IsLive z z disk k)
        → HoldsCopy Primary (table_in id v place sectors) (now_on z disk) → ((k : ℕ) → IsOfTable sectors k → IsSingle (z.held disk k))
        → (i : Image) → IsPickOutsideSlices u z i → the_table sectors (i disk) ≡ Some (table_in id v place sectors)
    table_left z room live holds single i off =
        first_says sectors (i disk) (table_in id v place sectors)
        (table_at_agrees Primary sectors (i disk) (now_on z disk)
        (λ k of. single k (inr (inl of)) (i disk k) (off disk k (live k (copy_is_on_disk Primary sectors k room of)) (λ w is. unsliced k of w is)))
        ∙ holds.says)
