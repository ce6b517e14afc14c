use Rattle.std.proofs.Common.{◌≡◌, ℕ, ◌+◌, zero, suc, ◌∷◌, ◌++◌, [], ap, ◌∙◌, refl, arith}
use Rattle.std.specs.Prelude.{replicate}
use Rattle.pool_check.specs.declared.Sight.{Sight}
use Rattle.pool_check.specs.declared.Sight.TheVariants.{Stranger}
use Rattle.pool_check.proofs.layers.strangers.Goals as goal

-- one more of the same
one_more : (n : ℕ) (x : Sight) → replicate n x ++ x ∷ [] ≡ replicate (n + 1) x
one_more zero x = refl
one_more (suc n) x =
    let same : suc (n + 1) ≡ suc n + 1 = omega arith in
    ap (λ xs. x ∷ xs) (one_more n x) ∙ ap (λ k. replicate k x) same

pub loop-place-preserved : goal.loop-place-preserved
loop-place-preserved c = record {
  made = c.push.ensures.items ∙ ap (λ xs. xs ++ Stranger ∷ []) c.loop-place.invariant.made ∙ one_more c.loop-place.place Stranger;
  many = omega arith;
}
