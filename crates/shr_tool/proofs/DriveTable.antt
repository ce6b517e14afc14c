-- By the table that a new drive is given, a replay finds its members' slices where they are laid.
use Rattle.std.proofs.Common.{◌≡◌, ℕ, zero, suc, ◌+◌, ◌-◌, ◌<◌, ◌≤◌, ◌==◌, ◌&&◌, Bool, true, false, nat_le, nat_lt, bytes_eq, if◌then◌else◌, filter, find, is_some, List, [], ◌∷◌, map, slice_get, sum_by, take, Option, Some, None, inl, inr, refl, sym, ap, subst, ◌∙◌, eq-eqb, le-leb, le-ltb, leb-true, lt-ltb, arith}
use Rattle.std.specs.List.{range_with_len}
use Rattle.std.specs.Option.{option_and_then, option_map_or}
use Rattle.std.proofs.lemmas.Bool.{and_from, and_parts, both_ways, cases_Bool, cases_eq, ne_eqb}
use Rattle.std.proofs.lemmas.List.Sums.{sum_by-cons}
use Rattle.std.proofs.lemmas.Option.{none-some}
use Rattle.std.proofs.lemmas.Slice.Eq.{bytes_eq-Decides}
use Rattle.gpt_table.specs.declared.Entry.{Entry}
use Rattle.gpt_table.specs.declared.Table.{Table}
use Rattle.array_core.specs.Seats.{seat_of}
use Rattle.array_core.proofs.Stripped.{some_same}
use Rattle.array_image.specs.Places.{arrays_first, log_kind, log_sectors, raid_kind, state_sector}
use Rattle.array_model.specs.View.{View}
use Rattle.pool_image.specs.Replay.{Extent, entry_extent, extent_by, extents_below, free_of, share, shares_any, slice_entry}
use Rattle.pool_rest.proofs.Extents.{extent_at, extent_by_is, free_entry, shares_below}
use Rattle.raid_laws.specs.NewDrive.{drive_table, entry_of, first_in, joins, length_in, member_entry, slice_length}
use Rattle.pool_model.proofs.Beginnings.{take_sum}

-- ---- where its slices lie

-- the first arrays' slices are no longer than those of more arrays
sum_up : (xs : List View) (m n : ℕ) → m ≤ n → sum_by slice_length (take m xs) ≤ sum_by slice_length (take n xs)
sum_up xs zero n low = let none : sum_by slice_length (take zero xs) ≡ 0 = refl in omega (arith, none)
sum_up xs (suc m) zero low = absurd (omega (arith, low))
sum_up [] (suc m) (suc n) low = let same : sum_by slice_length (take (suc m) []) ≡ sum_by slice_length (take (suc n) []) = refl in omega (arith, same)
sum_up (x ∷ xs) (suc m) (suc n) low =
    let rest = sum_up xs m n (omega (arith, low)) in
    let one = sum_by-cons slice_length x (take m xs) in
    let two = sum_by-cons slice_length x (take n xs) in
    omega (arith, rest, one, two)

module _ (id : List ℕ) (arrays : List View) (place sectors : ℕ) where
  -- where the slice of array n is laid
  abbrev laid : ℕ → Extent
  laid n = record { first = first_in arrays n; sectors = length_in arrays n }

  -- it isn't empty, and ends before the backup of the table
  pub record HasRoom (n : ℕ) : Type 0 where
    pub view : View
    pub is_view : slice_get arrays n ≡ Some view
    pub many : length_in arrays n ≡ slice_length view
    pub room : first_in arrays n + slice_length view + 33 ≤ sectors

  -- so it is of an array that the disk reaches
  pub has_room : (n : ℕ) → joins arrays place sectors n ≡ true → HasRoom n
  has_room n in_it = by (slice_get arrays n) refl
    where
      fits : Option View → Bool
      fits o = option_map_or (λ u. is_some (seat_of u place) && nat_le (first_in arrays n + slice_length u + 33) sectors) o false

      by : (o : Option View) → slice_get arrays n ≡ o → HasRoom n
      by None none = absurd (both_ways false refl (sym (ap fits none) ∙ in_it))
      by (Some u) at = record {
        view = u;
        is_view = at;
        many = ap (λ o. option_map_or slice_length o 0) at;
        room = leb-true (first_in arrays n + slice_length u + 33) sectors
            (and_parts (is_some (seat_of u place)) (nat_le (first_in arrays n + slice_length u + 33) sectors) (sym (ap fits at) ∙ in_it)).1;
      }

  -- it ends where that of a later array begins, or before
  ends_before : (m n : ℕ) → m < n → joins arrays place sectors m ≡ true → first_in arrays m + length_in arrays m ≤ first_in arrays n
  ends_before m n less in_it =
      let has = has_room m in_it in
      let next = take_sum arrays m has.view has.is_view in
      let up = sum_up arrays (suc m) n (omega (arith, less)) in
      let many = has.many in
      omega (arith, next, up, many)

  -- ---- its entries

  -- that of an array, among those of some arrays in a row
  abbrev found_in : ℕ → ℕ → ℕ → Option Entry
  found_in n a m = find (λ e. e.number == n + 2) (map (member_entry id arrays) (filter (joins arrays place sectors) (range_with_len a m)))

  -- the number of another array isn't its number
  passed : (n a m : ℕ) → (a ≡ n → ⊥) → found_in n a (suc m) ≡ found_in n (a + 1) m
  passed n a m other = by (joins arrays place sectors a)
    where
      by : (b : Bool)
          → find (λ e. e.number == n + 2)
          (map (member_entry id arrays) (if b then a ∷ filter (joins arrays place sectors) (range_with_len (a + 1) m) else filter (joins arrays place sectors) (range_with_len (a + 1) m)))
          ≡ found_in n (a + 1) m
      by false = refl
      by true =
          ap (λ (c : Bool). if c then Some (member_entry id arrays a) else found_in n (a + 1) m)
          (ne_eqb (a + 1 + 1) (n + 2) (λ same. other (let e : a ≡ n = omega (arith, same) in e)))

  -- an array that the disk doesn't reach has none
  not_found : (n a m : ℕ) → joins arrays place sectors n ≡ false → found_in n a m ≡ None
  not_found n a zero out = refl
  not_found n a (suc m) out = elim (cases_eq a n) [
    | inr other ↦ passed n a m other ∙ not_found n (a + 1) m out
    | inl same ↦
        ap
        (λ (b : Bool). find (λ e. e.number == n + 2)
        (map (member_entry id arrays) (if b then a ∷ filter (joins arrays place sectors) (range_with_len (a + 1) m) else filter (joins arrays place sectors) (range_with_len (a + 1) m))))
        (ap (joins arrays place sectors) same ∙ out)
        ∙ not_found n (a + 1) m out
  ]

  -- an array that it reaches has its own
  is_found : (n a m : ℕ) → a ≤ n → n < a + m → joins arrays place sectors n ≡ true → found_in n a m ≡ Some (member_entry id arrays n)
  is_found n a zero low high in_it = absurd (omega (arith, low, high))
  is_found n a (suc m) low high in_it = elim (cases_eq a n) [
    | inr other ↦ passed n a m other ∙ is_found n (a + 1) m (omega (arith, low, other)) (omega (arith, high)) in_it
    | inl same ↦
        ap
        (λ (b : Bool). find (λ e. e.number == n + 2)
        (map (member_entry id arrays) (if b then a ∷ filter (joins arrays place sectors) (range_with_len (a + 1) m) else filter (joins arrays place sectors) (range_with_len (a + 1) m))))
        (ap (joins arrays place sectors) same ∙ in_it)
        ∙ ap (λ (c : Bool). if c then Some (member_entry id arrays a) else found_in n (a + 1) m)
        (eq-eqb (a + 1 + 1) (n + 2) (let e : a + 1 + 1 ≡ n + 2 = omega (arith, same) in e))
        ∙ ap (λ k. Some (member_entry id arrays k)) same
  ]

  -- its extent is that of the slice
  entry_laid : (n : ℕ) → joins arrays place sectors n ≡ true → slice_entry sectors (member_entry id arrays n) ≡ Some (laid n)
  entry_laid n in_it =
      let has = has_room n in_it in
      let room = has.room in
      let many = has.many in
      let first = first_in arrays n in
      let last = first_in arrays n + length_in arrays n - 1 in
      ap (λ (b : Bool). if b then Some (record { first = first; sectors = last + 1 - first }) else None)
      (and_from (bytes_eq raid_kind raid_kind) (nat_le arrays_first first && nat_lt (last + 33) sectors) ((bytes_eq-Decides raid_kind raid_kind).1 refl)
      (and_from (nat_le arrays_first first) (nat_lt (last + 33) sectors) (le-leb arrays_first first (omega arith)) (lt-ltb (last + 33) sectors (omega (arith, room, many)))))
      ∙ ap (λ k. Some (record { first = first; sectors = k })) (let e : last + 1 - first ≡ length_in arrays n = omega (arith, many) in e)

  module _ (many : ℕ) where
    -- the drive's table
    abbrev table : Table
    table = drive_table id arrays place sectors many

    -- the log slice's number is none of them
    entry_by : (n : ℕ) → entry_extent sectors table n ≡ option_and_then (slice_entry sectors) (found_in n 0 many)
    entry_by n =
        ap (λ (c : Bool). option_and_then (slice_entry sectors) (if c then Some (entry_of id 0 log_kind state_sector log_sectors) else found_in n 0 many))
        (ne_eqb (0 + 1) (n + 2) (λ same. omega (arith, same)))

    -- an array that the disk reaches has the extent of its slice
    entry_is : (n : ℕ) → n < many → joins arrays place sectors n ≡ true → entry_extent sectors table n ≡ Some (laid n)
    entry_is n low in_it = entry_by n ∙ ap (option_and_then (slice_entry sectors)) (is_found n 0 many (omega arith) (omega (arith, low)) in_it) ∙ entry_laid n in_it

    -- another one has none
    no_entry : (n : ℕ) → joins arrays place sectors n ≡ false → entry_extent sectors table n ≡ None
    no_entry n out = entry_by n ∙ ap (option_and_then (slice_entry sectors)) (not_found n 0 many out)

    -- a slice of a lower array shares no sector with it
    apart : (m n : ℕ) (a : Extent) → m < n → n < many → extent_at sectors table m ≡ Some a → share (laid n) a ≡ false
    apart m n a less low at =
        let own : entry_extent sectors table m ≡ Some a = free_entry (extents_below sectors table m) (entry_extent sectors table m) a at in
        elim (cases_Bool (joins arrays place sectors m)) [
          | inr out ↦ absurd (none-some a (sym (no_entry m out) ∙ own))
          | inl in_it ↦
              (let same : laid m ≡ a = some_same (laid m) a (sym (entry_is m (omega (arith, less, low)) in_it) ∙ own) in
              subst (λ (e : Extent). share (laid n) e ≡ false) same
              (ap (λ d. d && nat_lt (first_in arrays m) (first_in arrays n + length_in arrays n))
              (le-ltb (first_in arrays n) (first_in arrays m + length_in arrays m) (ends_before m n less in_it))))
        ]

    -- By the table the slice of an array that the disk reaches is where it is laid.
    pub laid_extent : (n : ℕ) → n < many → joins arrays place sectors n ≡ true → extent_by sectors (Some table) (n + 1) ≡ Some (laid n)
    laid_extent n low in_it =
        extent_by_is sectors table n ∙ ap (free_of (extents_below sectors table n)) (entry_is n low in_it)
        ∙ elim (cases_Bool (shares_any (extents_below sectors table n) (laid n))) [
          | inr free ↦ ap (λ (d : Bool). if d then None else Some (laid n)) free
          | inl shares ↦ (let lower = shares_below sectors table (laid n) n shares in absurd (by lower.0 lower.1 (extent_at sectors table lower.0) refl lower.2))
        ]
      where
        by : (m : ℕ) → m < n → (o : Option Extent) → extent_at sectors table m ≡ o → option_map_or (share (laid n)) o false ≡ true → ⊥
        by m less None is shares = both_ways false refl shares
        by m less (Some a) is shares = both_ways (share (laid n) a) (apart m n a less low is) shares
