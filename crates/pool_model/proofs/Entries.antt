-- What the entries of a disk's partition table say of the slices that a replay has there.
use Rattle.std.proofs.Common.{◌≡◌, ℕ, suc, ◌+◌, ◌-◌, ◌<◌, ◌≤◌, ◌==◌, ◌&&◌, ◌||◌, Bool, true, false, nat_le, nat_lt, bytes_eq, if◌then◌else◌, find, List, [], ◌∷◌, Option, Some, None, option_map, IfSome, add-one, inl, inr, refl, sym, ap, ap₂, subst, ◌∙◌, eqb-true, le-ltb, le-leb, lt-ltb, ltb-true, arith}
use Rattle.std.specs.List.{list_any}
use Rattle.std.specs.Option.{option_and_then, option_map_or}
use Rattle.std.proofs.lemmas.Bool.{and_parts, and_from, both_ways, cases_Bool, ne_eqb}
use Rattle.std.proofs.lemmas.Option.{none-some}
use Rattle.gpt_table.specs.declared.Entry.{Entry}
use Rattle.gpt_table.specs.declared.Seen.{Seen as SeenTable}
use Rattle.gpt_table.specs.declared.Table.{Table}
use Rattle.gpt_table.specs.Changes.{the_table}
use Rattle.gpt_table.specs.Disk.{Contents, entries_bytes, first_of, table_at}
use Rattle.gpt_table.specs.Format.{Ascends, IsWritableOn, entries_sector, header_sector}
use Rattle.gpt_table.specs.declared.TableCopy.TheVariants.{Primary, Backup}
use Rattle.gpt_table.proofs.Writable.{if_writable}
use Rattle.array_image.specs.Places.{arrays_first, log_kind, raid_kind}
use Rattle.pool_image.specs.Drives.{Found, end_of, extent_of}
use Rattle.pool_image.specs.Meaning.{has_entry, has_slice, has_slice_of, kind_of}
use Rattle.pool_image.specs.Replay.{Extent, entry_extent, extent_by, extents_below, free_of, share, shares_any, slice_entry}
use Rattle.pool_rest.proofs.Extents.{extent_at, extent_by_is, shares_below}

-- ---- entries

-- an entry of a number
abbrev is_entry : ℕ → Extent → Entry → Bool
is_entry number b entry = (entry.number == number) && (bytes_eq entry.slice.kind.0 raid_kind && ((entry.slice.first == b.first) && (entry.slice.last + 1 == end_of b)))

-- in a list that ascends no number of it comes again
past : (k number : ℕ) (b : Extent) (es : List Entry) → Ascends k es → number ≤ k → list_any (is_entry number b) es ≡ true → ⊥
past k number b [] ascends low any = both_ways false refl any
past k number b (e ∷ es) ascends low any =
    let above : k < e.number = ascends.0 in
    elim (cases_Bool (is_entry number b e)) [
      | inl is ↦ (let same = eqb-true e.number number (and_parts (e.number == number) _ is).0 in absurd (omega (arith, above, low, same)))
      | inr not ↦ past e.number number b es ascends.1 (omega (arith, above, low)) (sym (ap (λ d. d || list_any (is_entry number b) es) not) ∙ any)
    ]

-- so the one that is found by its number is it
found_entry : (k number : ℕ) (b : Extent) (es : List Entry) → Ascends k es → list_any (is_entry number b) es ≡ true
    → (e : Entry) × (find (λ e. e.number == number) es ≡ Some e) × (is_entry number b e ≡ true)
found_entry k number b [] ascends any = absurd (both_ways false refl any)
found_entry k number b (e ∷ es) ascends any = elim (cases_Bool (is_entry number b e)) [
  | inl is ↦ (e, ap (λ d. if d then Some e else find (λ e. e.number == number) es) (and_parts (e.number == number) _ is).0, is)
  | inr not ↦
      let rest = sym (ap (λ d. d || list_any (is_entry number b) es) not) ∙ any in
      elim (cases_Bool (e.number == number)) [
        | inl same ↦ absurd (past e.number number b es ascends.1 (let is = eqb-true e.number number same in omega (arith, is)) rest)
        | inr other ↦
            let later = found_entry e.number number b es ascends.1 rest in
            (later.0, ap (λ d. if d then Some e else find (λ e. e.number == number) es) other ∙ later.1, later.2)
      ]
]

-- it is the extent of its slice
entry_lies : (sectors : ℕ) (b : Extent) (number : ℕ) (e : Entry) → is_entry number b e ≡ true → arrays_first ≤ b.first → end_of b + 32 < sectors → slice_entry sectors e ≡ Some b
entry_lies sectors b number e is behind before =
    let one = and_parts (e.number == number) _ is in
    let two = and_parts (bytes_eq e.slice.kind.0 raid_kind) _ one.1 in
    let three = and_parts (e.slice.first == b.first) (e.slice.last + 1 == end_of b) two.1 in
    let first = eqb-true e.slice.first b.first three.0 in
    let last = eqb-true (e.slice.last + 1) (end_of b) three.1 in
    ap (λ d. if d then Some (record { first = e.slice.first; sectors = e.slice.last + 1 - e.slice.first }) else None)
    (and_from (bytes_eq e.slice.kind.0 raid_kind) _ two.0
    (and_from (nat_le arrays_first e.slice.first) (nat_lt (e.slice.last + 33) sectors)
    (le-leb arrays_first e.slice.first (omega (arith, behind, first)))
    (lt-ltb (e.slice.last + 33) sectors (omega (arith, last, before)))))
    ∙ ap₂ (λ i n. Some (record { first = i; sectors = n })) first (let size : e.slice.last + 1 - e.slice.first ≡ b.sectors = omega (arith, first, last) in size)

-- ---- tables

-- the table of a disk has each number once
pub ascending : (sectors : ℕ) (disk : Contents) (t : Table) → the_table sectors disk ≡ Some t → Ascends 0 t.entries.items
ascending sectors disk t is =
    by (table_at Primary sectors disk) (table_at Backup sectors disk)
    (if_writable Primary sectors (disk (header_sector Primary sectors)) (entries_bytes disk (entries_sector Primary sectors)) (table_at Primary sectors disk) refl)
    (if_writable Backup sectors (disk (header_sector Backup sectors)) (entries_bytes disk (entries_sector Backup sectors)) (table_at Backup sectors disk) refl)
    is
  where
    some_table : (x : Table) → Some x ≡ Some t → x ≡ t
    some_table x same = cc

    by : (one two : Option Table) → IfSome one (IsWritableOn sectors) → IfSome two (IsWritableOn sectors)
        → option_map (λ (found : SeenTable). found.table) (first_of one two) ≡ Some t → Ascends 0 t.entries.items
    by (Some x) two first second same = subst (λ (y : Table). Ascends 0 y.entries.items) (some_table x same) first.writable.ascending
    by None (Some x) first second same = subst (λ (y : Table). Ascends 0 y.entries.items) (some_table x same) second.writable.ascending
    by None None first second same = absurd (none-some t same)

-- ---- slices

module _ (f : Found) (sectors : ℕ) (t : Table) (ascends : Ascends 0 t.entries.items) (n : ℕ) (b : Extent) (here : extent_of f (suc n) ≡ Some b) (behind : arrays_first ≤ b.first) where
  -- where a table has a slice that the pool has, its entry says so
  pub table_entry : has_slice_of f sectors t (n + 1) ≡ true → entry_extent sectors t n ≡ Some b
  table_entry is =
      let kind : kind_of (n + 1) ≡ raid_kind = ap (λ d. if d then log_kind else raid_kind) (ne_eqb (n + 1) 0 (λ same. absurd (omega (arith, same)))) in
      let number : n + 1 + 1 ≡ n + 2 = omega arith in
      let slice : has_slice sectors t (n + 2) raid_kind b ≡ true =
      sym (ap (λ (o : Option Extent). option_map_or (has_slice sectors t (n + 1 + 1) (kind_of (n + 1))) o false) (ap (extent_of f) (add-one n) ∙ here)
      ∙ ap₂ (λ m k. has_slice sectors t m k b) number kind) ∙ is in
      let parts = and_parts (has_entry t (n + 2) raid_kind b) (nat_lt (end_of b + 32) sectors) slice in
      let found = found_entry 0 (n + 2) b t.entries.items ascends parts.0 in
      ap (option_and_then (slice_entry sectors)) found.1
      ∙ entry_lies sectors b (n + 2) found.0 found.2 behind (ltb-true (end_of b + 32) sectors parts.1)

-- a slice that isn't dropped is that of its entry
pub replays_entry : (sectors n : ℕ) (t : Table) (b : Extent) → entry_extent sectors t n ≡ Some b
    → ((m : ℕ) (a : Extent) → m < n → extent_by sectors (Some t) (suc m) ≡ Some a → share b a ≡ false) → extent_by sectors (Some t) (suc n) ≡ Some b
replays_entry sectors n t b entry apart =
    ap (extent_by sectors (Some t)) (sym (add-one n)) ∙ extent_by_is sectors t n ∙ ap (free_of (extents_below sectors t n)) entry
    ∙ elim (cases_Bool (shares_any (extents_below sectors t n) b)) [
      | inr free ↦ ap (λ (d : Bool). if d then None else Some b) free
      | inl shares ↦ (let lower = shares_below sectors t b n shares in absurd (by lower.0 lower.1 (extent_at sectors t lower.0) refl lower.2))
    ]
  where
    by : (m : ℕ) → m < n → (o : Option Extent) → extent_at sectors t m ≡ o → option_map_or (share b) o false ≡ true → ⊥
    by m low None is shares = both_ways false refl shares
    by m low (Some a) is shares = both_ways (share b a) (apart m a low (ap (extent_by sectors (Some t)) (sym (add-one m)) ∙ extent_by_is sectors t m ∙ is)) shares

-- extents one behind the other share nothing
pub no_share : (a b : Extent) → a.first + a.sectors ≤ b.first → share b a ≡ false
no_share a b before =
    ap (λ d. d && nat_lt a.first (b.first + b.sectors)) (le-ltb b.first (a.first + a.sectors) before)
