use Rattle.std.proofs.Common.{◌≡◌, ℕ, ◌+◌, zero, suc, ◌∷◌, ◌++◌, [], length, ap, ◌∙◌, refl, arith}
use Rattle.std.specs.Prelude.{replicate}
use Rattle.array_core.proofs.blank.blank_roles.Goals as goal

-- one more of the same
one_more : (n x : ℕ) → replicate n x ++ x ∷ [] ≡ replicate (n + 1) x
one_more zero x = refl
one_more (suc n) x =
    let same : suc (n + 1) ≡ suc n + 1 = omega arith in
    ap (λ xs. x ∷ xs) (one_more n x) ∙ ap (λ k. replicate k x) same

count : (n x : ℕ) → length (replicate n x) ≡ n
count zero x = refl
count (suc n) x = ap suc (count n x)

pub loop-place-preserved : goal.loop-place-preserved
loop-place-preserved c =
    c.push-in-loop-place.ensures.items ∙ ap (λ xs. xs ++ 0xffff ∷ []) c.loop-place.invariant
    ∙ ap (λ xs. 0 ∷ 1 ∷ xs) (one_more c.loop-place.place 0xffff)

pub push-requires-in-loop-place : goal.push-requires-in-loop-place
push-requires-in-loop-place c =
    let n = count c.loop-place.place 0xffff in
    let e = ap length c.loop-place.invariant in omega (arith, n, e)
