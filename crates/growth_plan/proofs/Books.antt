-- How large the numbers of a book are together.
use Rattle.std.proofs.Common.{◌≡◌, ℕ, ◌+◌, ◌*◌, ◌^◌, ◌<◌, ◌≤◌, List, length, subst, get_or, take, true, ◌&&◌, zero, suc, sym, Some, slice_get, nat_le, nat_lt, All, arith, ap, sum, ◌∷◌, []}
use Rattle.std.specs.Int.{is_power_of_two}
use Rattle.std.specs.List.{list_all}
use Rattle.std.proofs.lemmas.Bool.{and_parts, ltb-true, leb-true}
use Rattle.std.proofs.lemmas.List.{take_more, length-map}
use Rattle.std.proofs.lemmas.List.Sums.{sum_by-le, sum_by-cons, sum_by-append, sum_by-take-drop, AllPass-from_list_all}
use Rattle.std.proofs.lemmas.List.Elements.{All-weaker, All-map, All-head, All-tail}
use Rattle.pool_state.specs.declared.contents.Drive.{Drive}
use Rattle.pool_state.specs.declared.contents.State.{State}
use Rattle.pool_state.specs.Valid.{is_extent, has_places, has_arrays, is_drive, is_valid}
use Rattle.growth_plan.specs.declared.ArrayNow.{ArrayNow}
use Rattle.growth_plan.specs.Book.{IsSmall, height_of, units_of}

pub height_small : (arrays : List ArrayNow) → length arrays ≤ 16 → All IsSmall arrays → height_of arrays ≤ 16 * 2 ^ 52
height_small arrays few small =
    omega (
      arith,
      sum_by-le (λ (a : ArrayNow). a.height) (2 ^ 52) arrays
          (All-weaker IsSmall (λ (a : ArrayNow). a.height ≤ 2 ^ 52) (λ a s. omega (arith, s.height)) arrays small),
    )

-- the level above one array more
pub height_more : (arrays : List ArrayNow) (i : ℕ) (x : ArrayNow) (level : ℕ) → i < length arrays → x ≡ get_or arrays i x →
    level ≡ height_of (take i arrays) → level + x.height ≡ height_of (take (i + 1) arrays)
height_more arrays i x level within is below =
    let same = ap (λ (a : ArrayNow). a.height) is in
    let more = ap (λ (xs : List ArrayNow). height_of xs) (take_more arrays i x within) in
    let parts = sum_by-append (λ (a : ArrayNow). a.height) (take i arrays) (get_or arrays i x ∷ []) in
    let one = sum_by-cons (λ (a : ArrayNow). a.height) (get_or arrays i x) [] in
    omega (arith, same, more, parts, one)

-- an array with those below it
pub height_below : (arrays : List ArrayNow) (i : ℕ) (x : ArrayNow) (level : ℕ) → i < length arrays → x ≡ get_or arrays i x →
    level ≡ height_of (take i arrays) → level + x.height ≤ height_of arrays
height_below arrays i x level within is below =
    omega (arith, height_more arrays i x level within is below, sum_by-take-drop (λ (a : ArrayNow). a.height) arrays (i + 1))

pub units_small : (s : State) → is_valid s 0 ≡ true → All (λ own. own < 2 ^ 41) (units_of s)
units_small s valid =
    let places = (and_parts (is_extent s.extent) _ valid).1 in
    let arrays = (and_parts (has_places s 0) _ places).1 in
    let drives = (and_parts (has_arrays s) _ arrays).1 in
    let each : list_all is_drive s.drives.items ≡ true = (and_parts (list_all is_drive s.drives.items) _ drives).0 in
    All-map (λ own. own < 2 ^ 41) (λ (drive : Drive). drive.units) s.drives.items
    (All-weaker (λ (drive : Drive). is_drive drive ≡ true) (λ (drive : Drive). drive.units < 2 ^ 41)
    (λ drive e. ltb-true drive.units (2 ^ 41) (and_parts (nat_le 1 drive.units) (nat_lt drive.units (2 ^ 41)) e).1) s.drives.items
    (AllPass-from_list_all is_drive s.drives.items each))

pub sum_small : (xs : List ℕ) → length xs ≤ 17 → All (λ x. x < 2 ^ 57) xs → sum xs < 2 ^ 64
sum_small xs few small =
    omega (arith, sum_by-le (λ (x : ℕ). x) (2 ^ 57) xs (All-weaker (λ x. x < 2 ^ 57) (λ x. x ≤ 2 ^ 57) (λ x h. omega arith) xs small))

-- at most sixteen arrays and drives
pub few_arrays : (s : State) → is_valid s 0 ≡ true → (s.made ≤ 16) × (s.joined ≤ s.made) × (length (units_of s) ≤ 16)
few_arrays s valid =
    let places = (and_parts (is_extent s.extent) _ valid).1 in
    let few = (and_parts (has_places s 0) _ places).0 in
    let rest = (and_parts (has_places s 0) _ places).1 in
    let arrays = (and_parts (has_arrays s) _ rest).0 in
    let made = (and_parts (nat_le 1 s.made && nat_le s.made 16) _ arrays).0 in
    let joined = (and_parts (nat_le 1 s.made && nat_le s.made 16) _ arrays).1 in
    let ready = (and_parts (nat_le 1 s.joined) _ joined).1 in
    let drives = (and_parts (nat_le 2 (length s.drives.items) && nat_le (length s.drives.items) 16) _ few).0 in (
      leb-true s.made 16 (and_parts (nat_le 1 s.made) (nat_le s.made 16) made).1,
      leb-true s.joined s.made (and_parts (nat_le s.joined s.made) _ ready).0,
      omega (
        arith,
        leb-true (length s.drives.items) 16 (and_parts (nat_le 2 (length s.drives.items)) _ drives).1,
        length-map {A = Drive} s.drives.items (λ drive. drive.units),
      ),
    )

pub slice_get_at : {X : Type 0} (xs : List X) (i : ℕ) (x : X) → i < length xs → x ≡ get_or xs i x → slice_get xs i ≡ Some x
slice_get_at [] i x within is = absurd (omega arith)
slice_get_at (y ∷ ys) zero x within is = ap Some (sym is)
slice_get_at (y ∷ ys) (suc i) x within is = slice_get_at ys i x (omega arith) is

pub All-slice_get : {X : Type 0} (P : X → Type 0) (xs : List X) (i : ℕ) (x : X) → All P xs → slice_get xs i ≡ Some x → P x
All-slice_get P [] i x all e = cc
All-slice_get P (y ∷ ys) zero x all e =
    let same : y ≡ x = cc e in subst P same (All-head P y ys all)
All-slice_get P (y ∷ ys) (suc i) x all e = All-slice_get P ys i x (All-tail P y ys all) e

pub extent_small : (s : State) → is_valid s 0 ≡ true → s.extent ≤ 65536
extent_small s valid =
    let extent = (and_parts (is_extent s.extent) _ valid).0 in
    let bounds = (and_parts (is_power_of_two s.extent) _ extent).1 in
    leb-true s.extent 65536 (and_parts (nat_le 128 s.extent) (nat_le s.extent 65536) bounds).1
