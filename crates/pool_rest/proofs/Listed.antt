-- Lists of places that a loop makes, the lowest first.
use Rattle.std.proofs.Common.{◌≡◌, ◌≢◌, ◌⊎◌, ℕ, ◌+◌, ◌≤◌, ◌==◌, ◌||◌, Bool, true, false, not, if◌then◌else◌, List, [], ◌∷◌, ◌++◌, length, refl, sym, ap, ap₂, ◌∙◌, inl, inr, arith, eq-eqb, eqb-true}
use Rattle.std.proofs.lemmas.List.{length-append}
use Rattle.std.proofs.lemmas.Bool.{ne_eqb}
use Rattle.log_laws.specs.View.{names}
use Rattle.pool_rest.proofs.CutDrives.{names_more}

-- one place more, unless it is left out
abbrev pub pushed : Bool → ℕ → List ℕ → List ℕ
pushed out m on = if out then on else on ++ m ∷ []

pub few_pushed : (out : Bool) (m : ℕ) (on : List ℕ) → length on ≤ m → length (pushed out m on) ≤ m + 1
few_pushed true m on few = omega (arith, few)
few_pushed false m on few = omega (arith, few, length-append on (m ∷ []))

pub or_true : (a b : Bool) → (a || b) ≡ true → (a ≡ true) ⊎ (b ≡ true)
or_true true b is = inl refl
or_true false b is = inr is

or_off : (b : Bool) → (b || false) ≡ b
or_off true = refl
or_off false = refl

-- a place of the longer list is one of the shorter, or the new one
pub of_pushed : (out : Bool) (m p : ℕ) (on : List ℕ) → names (pushed out m on) p ≡ true → (names on p ≡ true) ⊎ ((out ≡ false) × (p ≡ m))
of_pushed true m p on named = inl named
of_pushed false m p on named =
    elim (or_true (names on p) (m == p) (sym (names_more on m p) ∙ named)) [
      | inl earlier ↦ inl earlier
      | inr here ↦ inr (refl, sym (eqb-true m p here))
    ]

-- other places are as they were
pub pushed_other : (out : Bool) (m p : ℕ) (on : List ℕ) → p ≢ m → names (pushed out m on) p ≡ names on p
pushed_other true m p on other = refl
pushed_other false m p on other = names_more on m p ∙ ap (λ b. names on p || b) (ne_eqb m p (λ same. other (sym same))) ∙ or_off (names on p)

-- a new place stands in it unless it is left out
pub pushed_here : (out : Bool) (m : ℕ) (on : List ℕ) → names on m ≡ false → names (pushed out m on) m ≡ not out
pushed_here true m on none = none
pushed_here false m on none = names_more on m m ∙ ap₂ (λ a b. a || b) none (eq-eqb m m refl)

-- unless it is left out, it does
pub pushed_in : (out : Bool) (m : ℕ) (on : List ℕ) → out ≡ false → names (pushed out m on) m ≡ true
pushed_in true m on is = cc
pushed_in false m on is = names_more on m m ∙ ap (λ b. names on m || b) (eq-eqb m m refl) ∙ or_on (names on m)
  where
    or_on : (b : Bool) → (b || true) ≡ true
    or_on true = refl
    or_on false = refl
