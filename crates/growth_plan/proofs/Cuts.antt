-- The least of units above a level.
use Rattle.std.proofs.Common.{◌≡◌, ℕ, ◌<◌, ◌≤◌, List, [], ◌∷◌, Option, Some, None, Contains, min, nat_lt, false, refl, subst, arith, ⊎_elim}
use Rattle.std.specs.Option.{option_map_or}
use Rattle.std.proofs.lemmas.Bool.{cases_lt, lt-ltb, le-ltb}
use Rattle.layer_plan.proofs.CutPoints.{contains_first, contains_later}
use Rattle.growth_plan.specs.Target.{least_above}

-- the lesser of two levels, where there are any
abbrev pub lesser : Option ℕ → Option ℕ → Option ℕ
lesser None b = b
lesser (Some x) b = Some (option_map_or (λ y. min x y) b x)

lesser_is : (level own cut : ℕ) (others : List ℕ) (o : Option ℕ) → least_above level others ≡ o →
    ((least : ℕ) → least_above level others ≡ Some least → (level < least) × Contains others least) →
    level < own → option_map_or (λ least. min own least) o own ≡ cut → (level < cut) × Contains (own ∷ others) cut
lesser_is level own cut others None is step above e = subst (λ (k : ℕ). (level < k) × Contains (own ∷ others) k) e (above, contains_first own others)
lesser_is level own cut others (Some least) is step above e =
    let found = step least is in
    ⊎_elim
    (λ (h : own < least).
    let same : own ≡ cut = omega (arith, e) in
    subst (λ (k : ℕ). (level < k) × Contains (own ∷ others) k) same (above, contains_first own others))
    (λ (h : least ≤ own).
    let same : least ≡ cut = omega (arith, e) in
    subst (λ (k : ℕ). (level < k) × Contains (own ∷ others) k) same (found.0, contains_later own least others found.1))
    (cases_lt own least)

-- it is above the level, and among the units
pub least_is : (level cut : ℕ) (units : List ℕ) → least_above level units ≡ Some cut → (level < cut) × Contains units cut
least_is level cut [] e = cc
least_is level cut (own ∷ others) e =
    ⊎_elim
    (λ (h : level < own). lesser_is level own cut others (least_above level others) refl (λ least is. least_is level least others is) h
    (cc (rw (lt-ltb level own h) at e)))
    (λ (h : own ≤ level).
    let no : nat_lt level own ≡ false = le-ltb level own h in
    let rest = least_is level cut others (rw no at e) in (rest.0, contains_later own cut others rest.1))
    (cases_lt level own)
