-- The state that has a new drive, and the members of it that are to be rebuilt.
use Rattle.std.proofs.Common.{◌≡◌, ℕ, zero, suc, ◌+◌, ◌-◌, ◌<◌, ◌≤◌, ◌^◌, ◌==◌, ◌&&◌, ◌||◌, not, nat_le, nat_lt, if◌then◌else◌, Bool, true, false, List, [], ◌∷◌, All, filter, length, map, set, slice_get, Some, option_map, refl, sym, ap, subst, ◌∙◌, inl, inr, eq-eqb, le-leb, lt-ltb, ltb-true, arith}
use Rattle.std.specs.List.{list_all, range_with_len}
use Rattle.std.specs.Option.{option_map_or}
use Rattle.std.proofs.lemmas.Bool.{and_from, and_parts, both_ways, cases_Bool, cases_eq, cases_lt, leb-true, ne_eqb}
use Rattle.std.proofs.lemmas.List.Elements.{All-nil, All-cons}
use Rattle.std.proofs.lemmas.Option.{slice_get-get_or, slice_get_past}
use Rattle.gpt_table.specs.declared.Entry.{Entry}
use Rattle.gpt_table.specs.Format.{Ascends, IsWritable, is_inside}
use Rattle.pool_state.specs.Valid.{is_valid, is_drive, is_extent, has_places, has_arrays, has_epoch, place_of as planned_place}
use Rattle.pool_state.specs.declared.contents.Drive.{Drive}
use Rattle.pool_state.specs.declared.contents.Plan.{Plan}
use Rattle.pool_state.specs.declared.contents.Plan.TheVariants.{Replace}
use Rattle.pool_state.specs.declared.contents.State.{State}
use Rattle.array_image.specs.Places.{log_kind, log_sectors, raid_kind, state_sector}
use Rattle.array_image.specs.States.{is_current}
use Rattle.array_model.specs.View.{View}
use Rattle.raid_laws.specs.Enlisting.{enlisted, next_drive}
use Rattle.raid_laws.specs.Missing.{marked, marked_from, missing_if}
use Rattle.raid_laws.specs.NewDrive.{drive_table, entry_of, first_in, joins, length_in, member_entry}
use Rattle.raid_laws.proofs.Committed.{valid_marked}
use Rattle.raid_laws.proofs.Each.{get_set_other, get_set_same}
use Rattle.raid_rack.proofs.LayingDrive.{joins_fits}
use Rattle.raid_rack.proofs.Steps.{length_set}

-- ---- the state

-- the state with the drive in its list, of the same epoch
abbrev pub listed : (place units : ℕ) → Plan → State → State
listed place units plan s = record (enlisted place units plan s) { epoch = s.epoch }

marked_none : (n : ℕ) (ds : List Drive) → marked_from [] n ds ≡ ds
unfolding marked_from
marked_none n [] = refl
marked_none n (d ∷ ds) = ap (λ (e : Drive). e ∷ marked_from [] (n + 1) ds) (same d) ∙ ap (λ es. d ∷ es) (marked_none (n + 1) ds)
  where
    or_false : (b : Bool) → (b || false) ≡ b
    or_false true = refl
    or_false false = refl

    same : (d : Drive) → missing_if false d ≡ d
    same d = ap (λ (b : Bool). record d { missing = b }) (or_false d.missing)

pub enlisted_marked : (place units : ℕ) (plan : Plan) (s : State) → enlisted place units plan s ≡ marked [] (listed place units plan s)
enlisted_marked place units plan s =
    let new : Drive = record { id = next_drive s; units = units; missing = false } in
    sym (ap (λ (ds : List Drive). record (enlisted place units plan s) { drives = record { items = ds } }) (marked_none 0 (set s.drives.items place new)))

-- the place is current by it, and all others are as before
pub current_enlisted : (place units : ℕ) (plan : Plan) (s : State) (p : ℕ) → place < length s.drives.items
    → is_current (enlisted place units plan s) p ≡ ((p == place) || is_current s p)
current_enlisted place units plan s p low =
    let new : Drive = record { id = next_drive s; units = units; missing = false } in
    elim (cases_eq p place) [
      | inl same ↦
          ap (λ o. option_map_or (λ (d : Drive). not d.missing) o false) (ap (slice_get (set s.drives.items place new)) same ∙ get_set_same s.drives.items place new low)
          ∙ sym (ap (λ b. b || is_current s p) (eq-eqb p place same))
      | inr other ↦
          ap (λ o. option_map_or (λ (d : Drive). not d.missing) o false) (get_set_other s.drives.items place p new other)
          ∙ sym (ap (λ b. b || is_current s p) (ne_eqb p place other))
    ]

all_set : (ds : List Drive) (i : ℕ) (d : Drive) → list_all is_drive ds ≡ true → is_drive d ≡ true → list_all is_drive (set ds i d) ≡ true
all_set [] i d all new = refl
all_set (x ∷ ds) zero d all new = and_from (is_drive d) (list_all is_drive ds) new (and_parts (is_drive x) (list_all is_drive ds) all).1
all_set (x ∷ ds) (suc i) d all new =
    let both = and_parts (is_drive x) (list_all is_drive ds) all in
    and_from (is_drive x) (list_all is_drive (set ds i d)) both.0 (all_set ds i d both.1 new)

drive_at : (ds : List Drive) (i units : ℕ) → list_all is_drive ds ≡ true → option_map (λ (d : Drive). d.units) (slice_get ds i) ≡ Some units
    → (nat_le 1 units && nat_lt units (2 ^ 41)) ≡ true
drive_at [] i units all is = cc
drive_at (x ∷ ds) zero units all is =
    subst (λ k. (nat_le 1 k && nat_lt k (2 ^ 41)) ≡ true) (ap (λ o. option_map_or (λ n. n) o 0) is) (and_parts (is_drive x) (list_all is_drive ds) all).0
drive_at (x ∷ ds) (suc i) units all is = drive_at ds i units (and_parts (is_drive x) (list_all is_drive ds) all).1 is

-- a drive of a valid state has so many units
pub listed_units : (place units : ℕ) (s : State) (own : ℕ) → option_map (λ (d : Drive). d.units) (slice_get s.drives.items place) ≡ Some units → is_valid s own ≡ true
    → (0 < units) × (units < 2 ^ 41)
listed_units place units s own of is =
    let one = and_parts (is_extent s.extent) (has_places s own && (has_arrays s && (list_all is_drive s.drives.items && has_epoch s))) is in
    let two = and_parts (has_places s own) (has_arrays s && (list_all is_drive s.drives.items && has_epoch s)) one.1 in
    let three = and_parts (has_arrays s) (list_all is_drive s.drives.items && has_epoch s) two.1 in
    let four = and_parts (list_all is_drive s.drives.items) (has_epoch s) three.1 in
    let both = and_parts (nat_le 1 units) (nat_lt units (2 ^ 41)) (drive_at s.drives.items place units four.0 of) in
    let some = leb-true 1 units both.0 in
    (omega (arith, some), ltb-true units (2 ^ 41) both.1)

pub valid_listed : (place units : ℕ) (s : State) (own : ℕ) → place < length s.drives.items → 0 < units → units < 2 ^ 41 → is_valid s own ≡ true
    → is_valid (listed place units (Replace place) s) own ≡ true
valid_listed place units s own low some most is =
    let new : Drive = record { id = next_drive s; units = units; missing = false } in
    let one = and_parts (is_extent s.extent) (has_places s own && (has_arrays s && (list_all is_drive s.drives.items && has_epoch s))) is in
    let two = and_parts (has_places s own) (has_arrays s && (list_all is_drive s.drives.items && has_epoch s)) one.1 in
    let three = and_parts (has_arrays s) (list_all is_drive s.drives.items && has_epoch s) two.1 in
    let four = and_parts (list_all is_drive s.drives.items) (has_epoch s) three.1 in
    let places = and_parts (nat_le 2 (length s.drives.items) && nat_le (length s.drives.items) 16)
    (nat_lt own (length s.drives.items) && nat_lt (planned_place s.plan) (length s.drives.items)) two.0 in
    let own_listed = and_parts (nat_lt own (length s.drives.items)) (nat_lt (planned_place s.plan) (length s.drives.items)) places.1 in
    and_from (is_extent s.extent) _ one.0
    (and_from _ _
    (ap (λ k. (nat_le 2 k && nat_le k 16) && (nat_lt own k && nat_lt place k)) (length_set s.drives.items place new)
    ∙ and_from (nat_le 2 (length s.drives.items) && nat_le (length s.drives.items) 16) (nat_lt own (length s.drives.items) && nat_lt place (length s.drives.items)) places.0
    (and_from (nat_lt own (length s.drives.items)) (nat_lt place (length s.drives.items)) own_listed.0 (lt-ltb place (length s.drives.items) low)))
    (and_from (has_arrays s) _ three.0 (and_from _ _ (all_set s.drives.items place new four.0 (and_from (nat_le 1 units) (nat_lt units (2 ^ 41)) (le-leb 1 units (omega (arith, some))) (lt-ltb units (2 ^ 41) most))) four.1)))

-- so is the state of the next epoch
pub valid_enlisted : (place units : ℕ) (s : State) (own : ℕ) → place < length s.drives.items → 0 < units → units < 2 ^ 41 → is_valid s own ≡ true
    → is_valid (enlisted place units (Replace place) s) own ≡ true
valid_enlisted place units s own low some most is =
    ap (λ (z : State). is_valid z own) (enlisted_marked place units (Replace place) s)
    ∙ valid_marked [] (listed place units (Replace place) s) own (valid_listed place units s own low some most is)

-- ---- its table can be written

module _ (drive : List ℕ) (arrays : List View) (place sectors : ℕ) where
  all_members : (P : Entry → Type 0) (a k : ℕ) → ((n : ℕ) → a ≤ n → n < a + k → joins arrays place sectors n ≡ true → P (member_entry drive arrays n))
      → All P (map (member_entry drive arrays) (filter (joins arrays place sectors) (range_with_len a k)))
  all_members P a zero each = All-nil P
  all_members P a (suc k) each =
      let rest = all_members P (a + 1) k (λ n low high is. each n (omega (arith, low)) (omega (arith, high)) is) in
      elim (cases_Bool (joins arrays place sectors a)) [
        | inl is ↦
            subst (λ b. All P (map (member_entry drive arrays) (if b then a ∷ filter (joins arrays place sectors) (range_with_len (a + 1) k)
            else filter (joins arrays place sectors) (range_with_len (a + 1) k)))) (sym is)
            (All-cons P (member_entry drive arrays a) _ (each a (omega arith) (omega arith) is) rest)
        | inr not ↦
            subst (λ b. All P (map (member_entry drive arrays) (if b then a ∷ filter (joins arrays place sectors) (range_with_len (a + 1) k)
            else filter (joins arrays place sectors) (range_with_len (a + 1) k)))) (sym not) rest
      ]

  ascending : (a k low : ℕ) → low < a + 2 → Ascends low (map (member_entry drive arrays) (filter (joins arrays place sectors) (range_with_len a k)))
  ascending a zero low below = tt
  ascending a (suc k) low below =
      elim (cases_Bool (joins arrays place sectors a)) [
        | inl is ↦
            subst (λ b. Ascends low (map (member_entry drive arrays) (if b then a ∷ filter (joins arrays place sectors) (range_with_len (a + 1) k)
            else filter (joins arrays place sectors) (range_with_len (a + 1) k)))) (sym is)
            (omega (arith, below), ascending (a + 1) k (a + 1 + 1) (omega arith))
        | inr not ↦
            subst (λ b. Ascends low (map (member_entry drive arrays) (if b then a ∷ filter (joins arrays place sectors) (range_with_len (a + 1) k)
            else filter (joins arrays place sectors) (range_with_len (a + 1) k)))) (sym not)
            (ascending (a + 1) k low (omega (arith, below)))
      ]

  entry_inside : (slice : ℕ) (kind : List ℕ) (first size whole : ℕ) → 0 < size → first + size ≤ whole → is_inside whole (entry_of drive slice kind first size).slice ≡ true
  entry_inside slice kind first size whole some fits =
      and_from (nat_le first (first + size - 1)) (nat_lt (first + size - 1) whole) (le-leb first (first + size - 1) (omega (arith, some)))
      (lt-ltb (first + size - 1) whole (omega (arith, some, fits)))

  some_length : (n : ℕ) → joins arrays place sectors n ≡ true → 2048 ≤ length_in arrays n
  some_length n is =
      let low = (joins_fits arrays place sectors n is).0 in
      of arrays low
    where
      of : (xs : List View) → n < length xs → 2048 ≤ length_in xs n
      of [] below = absurd (omega (arith, below))
      of (x ∷ xs) below =
          let at = ap (λ o. option_map_or (λ (u : View). u.truth.size + 2048) o 0) (slice_get-get_or (x ∷ xs) n x below) in
          omega (arith, at)

  pub table_writable : length arrays ≤ 16 → 10273 ≤ sectors → IsWritable (drive_table drive arrays place sectors (length arrays))
  table_writable few room = record {
    room = omega (arith, room);
    ascending = (omega arith, ascending 0 (length arrays) 1 (omega arith));
    numbered =
        let P : Entry → Type 0 = λ entry. entry.number ≤ 128 in
        All-cons P _ _ (omega arith) (all_members P 0 (length arrays) (λ n low high is. omega (arith, high, few)));
    used =
        let P : Entry → Type 0 = λ entry. list_all (λ byte. byte == 0) entry.slice.kind.0 ≡ false in
        All-cons P _ _ refl (all_members P 0 (length arrays) (λ n low high is. refl));
    inside =
        let P : Entry → Type 0 = λ entry. is_inside sectors entry.slice ≡ true in
        All-cons P _ _ (entry_inside 0 log_kind state_sector log_sectors sectors (omega arith) (omega (arith, room)))
        (all_members P 0 (length arrays)
        (λ n low high is.
        let fits = (joins_fits arrays place sectors n is).1 in
        let some = some_length n is in
        entry_inside (n + 1) raid_kind (first_in arrays n) (length_in arrays n) sectors (omega (arith, some)) (omega (arith, fits))));
  }

-- the places that it has as current are of its list, each below 16
pub listed_enlisted : (place units : ℕ) (s : State) (p : ℕ) → place < length s.drives.items → is_current (enlisted place units (Replace place) s) p ≡ true
    → p < length s.drives.items
listed_enlisted place units s p low is =
    elim (cases_lt p (length s.drives.items)) [
      | inl listed ↦ listed
      | inr past ↦
          let new : Drive = record { id = next_drive s; units = units; missing = false } in
          let long = length_set s.drives.items place new in
          absurd (both_ways false refl
          (sym (ap (λ o. option_map_or (λ (d : Drive). not d.missing) o false) (slice_get_past (set s.drives.items place new) p (omega (arith, long, past)))) ∙ is))
    ]
