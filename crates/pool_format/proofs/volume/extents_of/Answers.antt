use Rattle.std.proofs.Common.{◌++◌, ◌+◌, ℕ, List, drop, length, map, ap, sym, ◌∙◌}
use Rattle.pool_format.specs.declared.planning.NewArray.{NewArray}
use Rattle.pool_format.proofs.Lists.{drop_at, length_snoc, snoc_append}
use Rattle.pool_format.proofs.volume.extents_of.Goals as goal

pub loop-number-preserved : goal.loop-number-preserved
loop-number-preserved c =
    let arrays = c.args.plan.now.arrays.items in
    let n = c.loop-number.number in
    let a = c.array_at.result.now in
    let f : NewArray → ℕ = λ b. b.extents in
    let rest : List ℕ = map f (drop (n + 1) arrays) in
    record {
      made =
          ap (λ (xs : List ℕ). xs ++ rest) c.push.ensures.items
          ∙ snoc_append c.loop-number.extents.items a.extents rest
          ∙ ap (λ (bs : List NewArray). c.loop-number.extents.items ++ map f bs) (sym (drop_at arrays n a c.array_at.ensures))
          ∙ c.loop-number.invariant.made;
      many = ap (λ (xs : List ℕ). length xs) c.push.ensures.items ∙ length_snoc c.loop-number.extents.items a.extents ∙ ap (λ k. k + 1) c.loop-number.invariant.many;
    }
