use Rattle.std.proofs.Common.{◌∷◌, ◌++◌, [], ap₂, sym, ◌∙◌, arith}
use Rattle.std.proofs.lemmas.List.FromFn.{map-range_with_len_more}
use Rattle.pool_check.specs.Layers.{sights_by}
use Rattle.pool_check.proofs.layers.sights.Goals as goal

pub loop-place-preserved : goal.loop-place-preserved
loop-place-preserved c = record {
  made =
      c.push.ensures.items ∙ ap₂ (λ xs x. xs ++ x ∷ []) c.loop-place.invariant.made c.sight.ensures
      ∙ sym (map-range_with_len_more (sights_by c.args.truth.now c.args.found.now) 0 c.loop-place.place c.loop-place.place (omega arith));
  many = omega arith;
}
