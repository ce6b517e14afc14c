-- The table of a new pool's drive has no slice of an array of which the drive is no member.
use Rattle.std.proofs.Common.{◌≡◌, ℕ, zero, suc, ◌+◌, ◌<◌, ◌==◌, Bool, true, false, find, List, [], ◌∷◌, slice_get, if◌then◌else◌, Option, Some, None, add-one, inl, inr, refl, sym, ap, subst, ◌∙◌, ne_eqb, arith}
use Rattle.std.specs.Option.{option_and_then}
use Rattle.std.proofs.lemmas.Bool.{cases_lt}
use Rattle.std.proofs.lemmas.Option.{none-some}
use Rattle.rack.specs.Seen.{Image}
use Rattle.gpt_table.specs.declared.Entry.{Entry}
use Rattle.gpt_table.specs.declared.Table.{Table}
use Rattle.array_image.specs.Places.{data_sector, drive_id, log_kind, log_sectors, raid_kind, state_sector}
use Rattle.pool_image.specs.Disks.{Disks}
use Rattle.pool_image.specs.Drives.{Found}
use Rattle.pool_image.specs.Meaning.{is_member}
use Rattle.pool_image.specs.Replay.{Extent, entry_extent, extent_by, extents_below, slice_entry}
use Rattle.pool_rest.proofs.Extents.{extent_by_is, free_entry}
use Rattle.pool_format.specs.declared.Birth.{Birth}
use Rattle.pool_format.specs.declared.planning.NewArray.{NewArray}
use Rattle.pool_format.specs.declared.planning.NewPool.{NewPool}
use Rattle.pool_format.specs.Parts.{entries_from, entry_of, new_table}
use Rattle.pool_format.specs.Plan.{has}
use Rattle.pool_format.proofs.Lists.{got}
use Rattle.new_pool.specs.Contents.{IsNewPool}
use Rattle.new_pool.proofs.Founds.{shown}
use Rattle.new_pool.proofs.Identities.{no_seat, seat_at, table_said}
use Rattle.new_pool.proofs.Undamaged.{member_is}

-- ---- entries by their numbers

-- a number below those of the slices is no entry's
none_below : (drive : List ℕ) (place number k : ℕ) (arrays : List NewArray) → k < number + 2 → find (λ (e : Entry). e.number == k) (entries_from drive place number arrays) ≡ None
none_below drive place number k [] low = refl
none_below drive place number k (a ∷ others) low = of (has a.members.items place) (none_below drive place (number + 1) k others (omega (arith, low)))
  where
    of : (b : Bool) → find (λ (e : Entry). e.number == k) (entries_from drive place (number + 1) others) ≡ None
        → find (λ (e : Entry). e.number == k)
        (if b then entry_of drive (number + 1) raid_kind a.first (a.size + data_sector) ∷ entries_from drive place (number + 1) others else entries_from drive place (number + 1) others)
        ≡ None
    of false rest = rest
    of true rest =
        ap (λ (d : Bool). if d then Some (entry_of drive (number + 1) raid_kind a.first (a.size + data_sector)) else find (λ (e : Entry). e.number == k) (entries_from drive place (number + 1) others))
        (ne_eqb (number + 1 + 1) k (λ same. omega (arith, low, same)))
        ∙ rest

-- nor is that of an array's slice where the place is no member
none_listed : (drive : List ℕ) (place number m k : ℕ) (arrays : List NewArray) (a : NewArray) → slice_get arrays m ≡ Some a → has a.members.items place ≡ false → k ≡ number + m + 2
    → find (λ (e : Entry). e.number == k) (entries_from drive place number arrays) ≡ None
none_listed drive place number m k [] a at other is = refl
none_listed drive place number zero k (b ∷ others) a at other is =
    ap
    (λ (d : Bool). find (λ (e : Entry). e.number == k)
    (if d then entry_of drive (number + 1) raid_kind b.first (b.size + data_sector) ∷ entries_from drive place (number + 1) others else entries_from drive place (number + 1) others))
    (ap (λ (e : NewArray). has e.members.items place) (same_array b a at) ∙ other)
    ∙ none_below drive place (number + 1) k others (omega (arith, is))
  where
    same_array : (x y : NewArray) → Some x ≡ Some y → x ≡ y
    same_array x y same = cc
none_listed drive place number (suc m) k (b ∷ others) a at other is =
    of (has b.members.items place) (none_listed drive place (number + 1) m k others a at other (omega (arith, is)))
  where
    of : (t : Bool) → find (λ (e : Entry). e.number == k) (entries_from drive place (number + 1) others) ≡ None
        → find (λ (e : Entry). e.number == k)
        (if t then entry_of drive (number + 1) raid_kind b.first (b.size + data_sector) ∷ entries_from drive place (number + 1) others else entries_from drive place (number + 1) others)
        ≡ None
    of false rest = rest
    of true rest =
        ap (λ (d : Bool). if d then Some (entry_of drive (number + 1) raid_kind b.first (b.size + data_sector)) else find (λ (e : Entry). e.number == k) (entries_from drive place (number + 1) others))
        (ne_eqb (number + 1 + 1) k (λ same. omega (arith, is, same)))
        ∙ rest

-- ---- the pool

module _ (plan : NewPool) (birth : Birth) (disks : Disks) (c : Image) (is : IsNewPool plan birth disks c) where
  abbrev f : Found
  f = shown plan birth disks c is

  -- a drive's disk is the one of its number
  seat_is : (p d : ℕ) → f.seats p ≡ Some d → (d < disks.count) × (p ≡ d)
  seat_is p d seat = elim (cases_lt p disks.count) [
    | inl low ↦
        let same : p ≡ d = some_same p d (sym (seat_at plan birth disks c is p low) ∙ seat) in
        (subst (λ n. n < disks.count) same low, same)
    | inr past ↦ absurd (none-some d (sym (no_seat plan birth disks c is p past) ∙ seat))
  ]
    where
      some_same : (x y : ℕ) → Some x ≡ Some y → x ≡ y
      some_same x y same = cc

  pub no_slice : (m p d : ℕ) (e : Extent) → m < f.state.made → f.seats p ≡ Some d → is_member f m p ≡ false → extent_by (disks.sectors d) (f.identities d).table (suc m) ≡ Some e → ⊥
  no_slice m p d e made seat none lies =
      let at = seat_is p d seat in
      let a = got plan.arrays.items m (omega (arith, made)) in
      let table : Table = new_table plan birth d (disks.sectors d) in
      let other : has a.0.members.items d ≡ false =
      sym (member_is plan birth disks c is m a.0 a.1 d at.0) ∙ subst (λ q. is_member f m q ≡ false) at.1 none in
      let here : extent_by (disks.sectors d) (Some table) (suc m) ≡ Some e =
      sym (ap (λ (o : Option Table). extent_by (disks.sectors d) o (suc m)) (table_said plan birth disks c is d at.0)) ∙ lies in
      let entry : entry_extent (disks.sectors d) table m ≡ Some e =
      free_entry (extents_below (disks.sectors d) table m) (entry_extent (disks.sectors d) table m) e
      (sym (extent_by_is (disks.sectors d) table m) ∙ ap (extent_by (disks.sectors d) (Some table)) (add-one m) ∙ here) in
      none-some e
      (sym (ap (option_and_then (slice_entry (disks.sectors d)))
      (ap (λ (b : Bool). if b then Some (entry_of (drive_id birth.pool d) 0 log_kind state_sector log_sectors) else find (λ (x : Entry). x.number == m + 2) (entries_from (drive_id birth.pool d) d 0 plan.arrays.items)) (ne_eqb 1 (m + 2) (λ same. omega (arith, same)))
      ∙ none_listed (drive_id birth.pool d) d 0 m (m + 2) plan.arrays.items a.0 a.1 other (omega arith)))
      ∙ entry)
