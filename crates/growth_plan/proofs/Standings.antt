-- Arrays that stand on one another, in two parts.
use Rattle.std.proofs.Common.{◌≡◌, ℕ, ◌+◌, ◌<◌, List, [], ◌∷◌, ◌++◌, length, get_or, take, sym, ap, ◌∙◌, arith, append-nil}
use Rattle.std.specs.List.{flat_map}
use Rattle.std.proofs.lemmas.Grind.{flat_map-append}
use Rattle.std.proofs.lemmas.List.{take_more, length-take}
use Rattle.std.proofs.lemmas.List.Sums.{sum_by-cons}
use Rattle.growth_plan.specs.declared.ArrayNow.{ArrayNow}
use Rattle.growth_plan.specs.Book.{Standing, standing_from, standing, height_of}

moved : (f : List ArrayNow → ℕ → ℕ → List Standing) (ys : List ArrayNow) (a b c d : ℕ) → a ≡ b → c ≡ d → f ys a c ≡ f ys b d
moved f ys a b c d e h = cc

pub standing-append : (number level : ℕ) (xs ys : List ArrayNow) →
    standing_from number level (xs ++ ys)
    ≡ standing_from number level xs ++ standing_from (number + length xs) (level + height_of xs) ys
standing-append number level [] ys =
    moved (λ zs n l. standing_from n l zs) ys number (number + 0) level (level + 0) (omega arith) (omega arith)
standing-append number level (x ∷ xs) ys =
    let rest = standing-append (number + 1) (level + x.height) xs ys in
    let total : height_of (x ∷ xs) ≡ x.height + height_of xs = sum_by-cons (λ (a : ArrayNow). a.height) x xs in
    let here : Standing = record { number = number; top = level + x.height; now = x } in
    ap (λ (t : List Standing). here ∷ t) rest
    ∙ ap (λ (t : List Standing). here ∷ (standing_from (number + 1) (level + x.height) xs ++ t))
    (moved (λ zs n l. standing_from n l zs) ys ((number + 1) + length xs) (number + length (x ∷ xs))
    ((level + x.height) + height_of xs) (level + height_of (x ∷ xs)) (omega arith) (omega arith))

-- one array more stands on the first ones
pub standing-more : (arrays : List ArrayNow) (i : ℕ) (x : ArrayNow) → i < length arrays → x ≡ get_or arrays i x →
    standing (take (i + 1) arrays)
    ≡ standing (take i arrays) ++ record { number = i; top = height_of (take i arrays) + x.height; now = x } ∷ []
standing-more arrays i x within is =
    let below = take i arrays in
    let count : 0 + length below ≡ i = omega (arith, length-take i arrays) in
    let level : 0 + height_of below ≡ height_of below = omega arith in
    ap (λ (xs : List ArrayNow). standing xs) (take_more arrays i x within)
    ∙ ap (λ (y : ArrayNow). standing (below ++ y ∷ [])) (sym is)
    ∙ standing-append 0 0 below (x ∷ [])
    ∙ ap (λ (n : ℕ). standing below ++ record { number = n; top = (0 + height_of below) + x.height; now = x } ∷ []) count
    ∙ ap (λ (l : ℕ). standing below ++ record { number = i; top = l + x.height; now = x } ∷ []) level

pub flat-more : {X : Type 0} (f : Standing → List X) (arrays : List ArrayNow) (i : ℕ) (x : ArrayNow) → i < length arrays → x ≡ get_or arrays i x →
    flat_map f (standing (take (i + 1) arrays))
    ≡ flat_map f (standing (take i arrays)) ++ f (record { number = i; top = height_of (take i arrays) + x.height; now = x })
flat-more {X = X} f arrays i x within is =
    ap (λ (xs : List Standing). flat_map f xs) (standing-more arrays i x within is)
    ∙ flat_map-append f (standing (take i arrays)) (record { number = i; top = height_of (take i arrays) + x.height; now = x } ∷ [])
    ∙ ap (λ (xs : List X). flat_map f (standing (take i arrays)) ++ xs) (append-nil _)
