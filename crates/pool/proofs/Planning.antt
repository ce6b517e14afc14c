-- A pool's state with another plan, and with a new drive at a place, is one that a book may have.
use Rattle.std.specs.Prelude.{slice_index, slice_set}
use Rattle.std.specs.List.{list_all}
use Rattle.std.proofs.Common.{◌≡◌, ℕ, zero, suc, ◌<◌, ◌≤◌, ◌^◌, ◌&&◌, nat_lt, nat_le, true, false, List, [], ◌∷◌, length, map, ap, ◌∙◌, refl, arith, le-leb, leb-true, lt-ltb, ltb-false}
use Rattle.std.proofs.lemmas.Bool.{and_from, and_parts}
use Rattle.pool_state.specs.Valid.{has_arrays, has_epoch, has_places, is_drive, is_extent, is_valid, place_of}
use Rattle.pool_state.specs.declared.contents.Drive.{Drive}
use Rattle.pool_state.specs.declared.contents.State.{State}
use Rattle.growth_plan.specs.Book.{IsBook, units_of}
use Rattle.growth_plan.specs.declared.Progress.{Progress}
use Rattle.pool.specs.Replacing.{new_drive, replacing}

length_set : (ds : List Drive) (k : ℕ) (d : Drive) → length (slice_set ds k d) ≡ length ds
length_set [] k d = refl
length_set (e ∷ ds) zero d = refl
length_set (e ∷ ds) (suc k) d = ap suc (length_set ds k d)

all_set : (ds : List Drive) (k : ℕ) (d : Drive) → list_all is_drive ds ≡ true → is_drive d ≡ true → list_all is_drive (slice_set ds k d) ≡ true
all_set [] k d all new = refl
all_set (e ∷ ds) zero d all new = and_from (is_drive d) (list_all is_drive ds) new (and_parts (is_drive e) (list_all is_drive ds) all).1
all_set (e ∷ ds) (suc k) d all new =
    let both = and_parts (is_drive e) (list_all is_drive ds) all in
    and_from (is_drive e) (list_all is_drive (slice_set ds k d)) both.0 (all_set ds k d both.1 new)

-- it stays valid where its plan names a place of its list
valid_replacing : (s : State) (place units : ℕ) → is_valid s 0 ≡ true → place < length s.drives.items → 0 < units → units < 2 ^ 41 → is_valid (replacing place units s) 0 ≡ true
valid_replacing s place units valid low some most =
    let ds = s.drives.items in
    let n = length ds in
    let d = new_drive units s in
    let rest = and_parts (is_extent s.extent) (has_places s 0 && (has_arrays s && (list_all is_drive ds && has_epoch s))) valid in
    let places = and_parts (has_places s 0) (has_arrays s && (list_all is_drive ds && has_epoch s)) rest.1 in
    let arrays = and_parts (has_arrays s) (list_all is_drive ds && has_epoch s) places.1 in
    let drives = and_parts (list_all is_drive ds) (has_epoch s) arrays.1 in
    let count = and_parts (nat_le 2 n && nat_le n 16) (nat_lt 0 n && nat_lt (place_of s.plan) n) places.0 in
    let own = and_parts (nat_lt 0 n) (nat_lt (place_of s.plan) n) count.1 in
    let drive : is_drive d ≡ true = and_from (nat_le 1 units) (nat_lt units (2 ^ 41)) (le-leb 1 units (omega (arith, some))) (lt-ltb units (2 ^ 41) most) in
    and_from (is_extent s.extent) _ rest.0
    (and_from (has_places (replacing place units s) 0) _
    (ap (λ k. (nat_le 2 k && nat_le k 16) && (nat_lt 0 k && nat_lt place k)) (length_set ds place d)
    ∙ and_from (nat_le 2 n && nat_le n 16) (nat_lt 0 n && nat_lt place n) count.0 (and_from (nat_lt 0 n) (nat_lt place n) own.0 (lt-ltb place n low)))
    (and_from (has_arrays s) _ arrays.0 (and_from (list_all is_drive (slice_set ds place d)) (has_epoch s) (all_set ds place d drives.0 drive) drives.1)))

-- and so is the book
pub book_replacing : (s : State) (p : Progress) (place units : ℕ) → IsBook s p → place < length s.drives.items → 0 < units → units < 2 ^ 41 → IsBook (replacing place units s) p
book_replacing s p place units is low some most = record {
  valid = valid_replacing s place units is.valid low some most;
  made = is.made;
  pairs = is.pairs;
  small = is.small;
  extents = is.extents;
}

-- a drive of no fewer units than one of the list has some
some_own : (ds : List Drive) (k units : ℕ) → list_all is_drive ds ≡ true → k < length ds → slice_index (map (λ (d : Drive). d.units) ds) k ≤ units → 0 < units
some_own [] k units all low more = absurd (omega (arith, low))
some_own (d ∷ ds) zero units all low more =
    let least = leb-true 1 d.units (and_parts (nat_le 1 d.units) (nat_lt d.units (2 ^ 41)) (and_parts (is_drive d) (list_all is_drive ds) all).0).0 in
    omega (arith, least, more)
some_own (d ∷ ds) (suc k) units all low more = some_own ds k units (and_parts (is_drive d) (list_all is_drive ds) all).1 (omega (arith, low)) more

pub some_units : (s : State) (place units : ℕ) → is_valid s 0 ≡ true → place < length s.drives.items → nat_lt units (slice_index (units_of s) place) ≡ false → 0 < units
some_units s place units valid low more =
    let rest = and_parts (is_extent s.extent) (has_places s 0 && (has_arrays s && (list_all is_drive s.drives.items && has_epoch s))) valid in
    let places = and_parts (has_places s 0) (has_arrays s && (list_all is_drive s.drives.items && has_epoch s)) rest.1 in
    let arrays = and_parts (has_arrays s) (list_all is_drive s.drives.items && has_epoch s) places.1 in
    let drives = (and_parts (list_all is_drive s.drives.items) (has_epoch s) arrays.1).0 in
    some_own s.drives.items place units drives low (not_less units (slice_index (units_of s) place) more)
  where
    not_less : (a b : ℕ) → nat_lt a b ≡ false → b ≤ a
    not_less a b none = ltb-false a b none
