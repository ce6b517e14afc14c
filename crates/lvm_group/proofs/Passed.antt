-- What tests on lists say of their elements.
use Rattle.std.proofs.Common.{◌≡◌, ℕ, zero, suc, Bool, true, false, ◌&&◌, List, [], ◌∷◌, Option, Some, None, refl, subst}
use Rattle.std.specs.Prelude.{slice_get, cond, is_some}
use Rattle.std.specs.Option.{option_map_or}
use Rattle.std.specs.List.{find, list_all}

nothing : false ≡ true → ⊥
nothing same = cc

no_value : {X : Type 0} {x : X} → None ≡ Some x → ⊥
no_value same = cc

one_value : {X : Type 0} {x y : X} → Some x ≡ Some y → x ≡ y
one_value same = cc

pub both : (p q : Bool) → (p && q) ≡ true → (p ≡ true) × (q ≡ true)
both true q e = (refl, e)
both false q e = absurd (nothing e)

-- what a search finds passes its test
passes_by : {X : Type 0} (p : X → Bool) (y : X) (ys : List X) (x : X) (b : Bool) → p y ≡ b → cond b (Some y) (find p ys) ≡ Some x
    → (find p ys ≡ Some x → p x ≡ true) → p x ≡ true
passes_by p y ys x true passes found others = subst (λ z. p z ≡ true) (one_value found) passes
passes_by p y ys x false passes found others = others found

pub found_passes : {X : Type 0} (p : X → Bool) (xs : List X) (x : X) → find p xs ≡ Some x → p x ≡ true
found_passes p [] x found = absurd (no_value found)
found_passes p (y ∷ ys) x found = passes_by p y ys x (p y) refl found (found_passes p ys x)

-- and each test that all pass
all_by : {X : Type 0} (p q : X → Bool) (y : X) (ys : List X) (x : X) (b : Bool) → cond b (Some y) (find p ys) ≡ Some x → q y ≡ true
    → (find p ys ≡ Some x → q x ≡ true) → q x ≡ true
all_by p q y ys x true found first others = subst (λ z. q z ≡ true) (one_value found) first
all_by p q y ys x false found first others = others found

pub found_all : {X : Type 0} (p q : X → Bool) (xs : List X) (x : X) → find p xs ≡ Some x → list_all q xs ≡ true → q x ≡ true
found_all p q [] x found all = absurd (no_value found)
found_all p q (y ∷ ys) x found all =
    let each = both (q y) (list_all q ys) all in
    all_by p q y ys x (p y) found each.0 (λ later. found_all p q ys x later each.1)

-- each element of a list passes a test that all pass
pub all_at : {X : Type 0} (p : X → Bool) (xs : List X) (i : ℕ) (x : X) → list_all p xs ≡ true → slice_get xs i ≡ Some x → p x ≡ true
all_at p [] i x all at = absurd (no_value at)
all_at p (y ∷ ys) zero x all at = subst (λ z. p z ≡ true) (one_value at) (both (p y) (list_all p ys) all).0
all_at p (y ∷ ys) (suc i) x all at = all_at p ys i x (both (p y) (list_all p ys) all).1 at

-- a test of what an option has, which nothing fails
pub some_passes : {X : Type 0} (p : X → Bool) (o : Option X) → option_map_or p o false ≡ true → (x : X) × (o ≡ Some x) × (p x ≡ true)
some_passes p None passes = absurd (nothing passes)
some_passes p (Some x) passes = (x, refl, passes)

pub is_there : {X : Type 0} (o : Option X) → is_some o ≡ true → (x : X) × (o ≡ Some x)
is_there None there = absurd (nothing there)
is_there (Some x) there = (x, refl)
