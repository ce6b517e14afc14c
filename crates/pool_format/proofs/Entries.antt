-- The tables of a new pool's drives can be written.
use Rattle.std.proofs.Common.{◌≡◌, ℕ, zero, suc, ◌+◌, ◌-◌, ◌<◌, ◌≤◌, ◌==◌, nat_le, nat_lt, true, false, List, [], ◌∷◌, All, length, slice_get, Some, if◌then◌else◌, refl, sym, subst, inl, inr, le-leb, lt-ltb, arith}
use Rattle.std.specs.List.{list_all}
use Rattle.std.proofs.lemmas.Bool.{and_from, cases_Bool}
use Rattle.std.proofs.lemmas.List.Elements.{All-nil, All-cons}
use Rattle.std.proofs.lemmas.Option.{slice_get_within}
use Rattle.rack.specs.Seen.{RackView}
use Rattle.gpt_table.specs.declared.Entry.{Entry}
use Rattle.gpt_table.specs.Format.{Ascends, IsWritable, is_inside}
use Rattle.array_image.specs.Places.{data_sector, drive_id, log_kind, log_sectors, raid_kind, state_sector}
use Rattle.pool_format.specs.declared.Birth.{Birth}
use Rattle.pool_format.specs.declared.planning.NewArray.{NewArray}
use Rattle.pool_format.specs.declared.planning.NewPool.{NewPool}
use Rattle.pool_format.specs.Parts.{entries_from, entry_of, new_table}
use Rattle.pool_format.specs.Plan.{HasRoom, IsPlan, has}
use Rattle.pool_format.proofs.Laying.{member_inside}

-- what holds of each entry
all_entries : (P : Entry → Type 0) (drive : List ℕ) (place number : ℕ) (arrays : List NewArray)
    → ((k : ℕ) (a : NewArray) → slice_get arrays k ≡ Some a → has a.members.items place ≡ true → P (entry_of drive (number + k + 1) raid_kind a.first (a.size + data_sector)))
    → All P (entries_from drive place number arrays)
all_entries P drive place number [] each = All-nil P
all_entries P drive place number (a ∷ others) each =
    let rest = all_entries P drive place (number + 1) others
    (λ k b at among. subst (λ n. P (entry_of drive n raid_kind b.first (b.size + data_sector))) (omega arith) (each (suc k) b at among)) in
    elim (cases_Bool (has a.members.items place)) [
      | inl among ↦
          let here = subst (λ n. P (entry_of drive n raid_kind a.first (a.size + data_sector))) (omega arith) (each zero a refl among) in
          subst (λ b. All P (if b then entry_of drive (number + 1) raid_kind a.first (a.size + data_sector) ∷ entries_from drive place (number + 1) others
          else entries_from drive place (number + 1) others)) (sym among)
          (All-cons P (entry_of drive (number + 1) raid_kind a.first (a.size + data_sector)) (entries_from drive place (number + 1) others) here rest)
      | inr other ↦
          subst (λ b. All P (if b then entry_of drive (number + 1) raid_kind a.first (a.size + data_sector) ∷ entries_from drive place (number + 1) others
          else entries_from drive place (number + 1) others)) (sym other) rest
    ]

-- their numbers ascend
ascending_from : (drive : List ℕ) (place number low : ℕ) (arrays : List NewArray) → low < number + 2 → Ascends low (entries_from drive place number arrays)
ascending_from drive place number low [] below = tt
ascending_from drive place number low (a ∷ others) below =
    elim (cases_Bool (has a.members.items place)) [
      | inl among ↦
          subst (λ b. Ascends low (if b then entry_of drive (number + 1) raid_kind a.first (a.size + data_sector) ∷ entries_from drive place (number + 1) others
          else entries_from drive place (number + 1) others)) (sym among)
          (omega (arith, below), ascending_from drive place (number + 1) (number + 1 + 1) others (omega arith))
      | inr other ↦
          subst (λ b. Ascends low (if b then entry_of drive (number + 1) raid_kind a.first (a.size + data_sector) ∷ entries_from drive place (number + 1) others
          else entries_from drive place (number + 1) others)) (sym other)
          (ascending_from drive place (number + 1) low others (omega (arith, below)))
    ]

entry_inside : (drive : List ℕ) (slice : ℕ) (kind : List ℕ) (first sectors whole : ℕ) → 0 < sectors → first + sectors ≤ whole
    → is_inside whole (entry_of drive slice kind first sectors).slice ≡ true
entry_inside drive slice kind first sectors whole some fits =
    and_from (nat_le first (first + sectors - 1)) (nat_lt (first + sectors - 1) whole) (le-leb first (first + sectors - 1) (omega (arith, some)))
    (lt-ltb (first + sectors - 1) whole (omega (arith, some, fits)))

module _ (plan : NewPool) (birth : Birth) (x : RackView) (is : IsPlan plan) (room : HasRoom plan x) (place : ℕ) (drive_is : place < length plan.units.items) where
  abbrev drive : List ℕ
  drive = drive_id birth.pool place

  logs : 10240 + 33 ≤ x.sectors place
  logs = room.logs place (let disks = room.disks in omega (arith, disks, drive_is))

  pub table_writable : IsWritable (new_table plan birth place (x.sectors place))
  table_writable = record {
    room = let whole = logs in omega (arith, whole);
    ascending = (omega arith, ascending_from drive place 0 1 plan.arrays.items (omega arith));
    numbered =
        let P : Entry → Type 0 = λ entry. entry.number ≤ 128 in
        All-cons P _ (entries_from drive place 0 plan.arrays.items) (omega arith)
        (all_entries P drive place 0 plan.arrays.items (λ k a at among. let low = slice_get_within plan.arrays.items k a at in let few = is.few in omega (arith, low, few)));
    used =
        let P : Entry → Type 0 = λ entry. list_all (λ byte. byte == 0) entry.slice.kind.0 ≡ false in
        All-cons P _ (entries_from drive place 0 plan.arrays.items) refl
        (all_entries P drive place 0 plan.arrays.items (λ k a at among. refl));
    inside =
        let P : Entry → Type 0 = λ entry. is_inside (x.sectors place) entry.slice ≡ true in
        All-cons P _ (entries_from drive place 0 plan.arrays.items)
        (entry_inside drive 0 log_kind state_sector log_sectors (x.sectors place) (omega arith) (let whole = logs in omega (arith, whole)))
        (all_entries P drive place 0 plan.arrays.items
        (λ k a at among.
        let in_it = member_inside plan x is room k place a at among in
        let fits = in_it.fits in
        entry_inside drive (0 + k + 1) raid_kind a.first (a.size + data_sector) (x.sectors place) (omega arith) (omega (arith, fits))));
  }
