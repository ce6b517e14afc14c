-- The words after `layout` that are read through a function.
use Rattle.std.proofs.Common.{◌≡◌, ℕ, ◌+◌, ◌<◌, ◌^◌, ◌==◌, Bool, true, false, nat_lt, List, [], ◌∷◌, ◌++◌, length, take, map, get_or, filter_map, All, rules, Some, None, is_some, ap, sym, ◌∙◌, refl, arith}
use Rattle.std.specs.List.{list_all, cons_option}
use Rattle.std.proofs.lemmas.Bool.Decides.{nat_tests}
use Rattle.std.proofs.lemmas.List.{length-map, map-append, take_more}
use Rattle.std.proofs.lemmas.List.Folds.{list_all-map}
use Rattle.std.proofs.lemmas.List.Elements.{filter_map-append, All-append}
use Rattle.shr_words.specs.LayoutWords.{size_of, asked}

pub asked-empty : {Y : Type 0} (read : Y → List ℕ) (e : ℕ) (ys : List Y) → length ys ≡ 0 → asked (Some e) (map read ys) ≡ None
asked-empty read e ys none = rw (length-map, none) refl

pub asked-other : {Y : Type 0} (read : Y → List ℕ) (e : ℕ) (ys : List Y) → 0 < length ys →
    list_all (λ y. is_some (size_of (read y))) ys ≡ false → asked (Some e) (map read ys) ≡ None
asked-other read e ys some other =
    let test : nat_lt 0 (length ys) ≡ true = grind (arith, nat_tests) in
    rw (length-map, test, list_all-map, other) refl

pub asked-sizes : {Y : Type 0} (read : Y → List ℕ) (e : ℕ) (ys : List Y) (items : List ℕ) → 0 < length ys →
    list_all (λ y. is_some (size_of (read y))) ys ≡ true → items ≡ filter_map size_of (take 17 (map read ys)) →
    asked (Some e) (map read ys) ≡ Some (record { extent = e; sizes = record { items = items } })
asked-sizes read e ys items some all is =
    let test : nat_lt 0 (length ys) ≡ true = grind (arith, nat_tests) in
    rw (is, length-map, test, list_all-map, all) refl

-- the next word may add a size
pub sizes_more : {Y : Type 0} (read : Y → List ℕ) (ys : List Y) (i : ℕ) (y : Y) → i < length ys → y ≡ get_or ys i y →
    filter_map size_of (map read (take (i + 1) ys)) ≡ filter_map size_of (map read (take i ys)) ++ cons_option (size_of (read y)) []
sizes_more read ys i y inside is =
    ap (λ t. filter_map size_of (map read t)) (take_more ys i y inside)
    ∙ ap (filter_map size_of) (map-append read (take i ys) (get_or ys i y ∷ []))
    ∙ filter_map-append size_of (map read (take i ys)) (read (get_or ys i y) ∷ [])
    ∙ ap (λ v. filter_map size_of (map read (take i ys)) ++ cons_option (size_of (read v)) []) (sym is)

-- one size more
pub small_more : (sizes : List ℕ) (size : ℕ) → All (λ s. s < 2 ^ 48) sizes → size < 2 ^ 48 → All (λ s. s < 2 ^ 48) (sizes ++ size ∷ [])
small_more sizes size all small = All-append (λ s. s < 2 ^ 48) sizes (size ∷ []) all (search (rules, small))

pub not_empty : (n : ℕ) (empty : Bool) → empty ≡ (n == 0) → empty ≡ false → 0 < n
not_empty n empty is some = grind (arith, nat_tests, is, some)
