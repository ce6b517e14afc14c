-- The first work of lists that follow one another.
use Rattle.std.proofs.Common.{◌≡◌, ℕ, zero, suc, ◌-◌, ◌⊎◌, List, [], ◌∷◌, ◌++◌, replicate, inl, inr, refl, ap, ◌∙◌, arith}
use Rattle.pool_state.specs.declared.contents.Work.{Work}

-- the parts of all works in their order
abbrev pub in_order : (r b g m e c : List Work) → List Work
in_order r b g m e c = r ++ (b ++ (g ++ (m ++ (e ++ c))))

pub in_order-same : (r b g m e c r1 b1 g1 m1 e1 c1 : List Work) → r1 ≡ r → b1 ≡ b → g1 ≡ g → m1 ≡ m → e1 ≡ e → c1 ≡ c →
    in_order r1 b1 g1 m1 e1 c1 ≡ in_order r b g m e c
in_order-same r b g m e c r1 b1 g1 m1 e1 c1 hr hb hg hm he hc = cc

-- the first work stands in the first part that isn't empty
pub record IsFirstOf (w : Work) (rest xs ys : List Work) : Type 0 where
  pub more : List Work
  pub here : xs ≡ w ∷ more
  pub behind : rest ≡ more ++ ys

pub first_part : (w : Work) (rest xs ys : List Work) → xs ++ ys ≡ w ∷ rest → ((xs ≡ []) × (ys ≡ w ∷ rest)) ⊎ IsFirstOf w rest xs ys
first_part w rest [] ys e = inl (refl, e)
first_part w rest (x ∷ xs) ys e =
    let same : x ≡ w = cc e in
    inr (record { more = xs; here = ap (λ (y : Work). y ∷ xs) same; behind = cc e })

pub first_copy : (k : ℕ) (v w : Work) (more : List Work) → replicate k v ≡ w ∷ more → (w ≡ v) × (more ≡ replicate (k - 1) v)
first_copy zero v w more e = cc
first_copy (suc k) v w more e =
    let same : w ≡ v = cc e in
    let less : k ≡ suc k - 1 = omega arith in
    let tail : more ≡ replicate k v = cc e in
    (same, tail ∙ ap (λ (n : ℕ). replicate n v) less)

pub both_nil : (xs ys : List Work) → xs ++ ys ≡ [] → (xs ≡ []) × (ys ≡ [])
both_nil [] ys e = (refl, e)
both_nil (x ∷ xs) ys e = cc
