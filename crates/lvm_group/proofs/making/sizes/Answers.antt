use Rattle.std.proofs.Common.{ℕ, ◌++◌, ◌∷◌, [], List, sym, ap, ◌∙◌, arith, length, map, length-append}
use Rattle.std.specs.List.{range_with_len}
use Rattle.std.proofs.lemmas.List.FromFn.{map-range_with_len_more}
use Rattle.lvm_group.proofs.making.sizes.Goals as goal

pub loop-array-preserved : goal.loop-array-preserved
loop-array-preserved g c = (
  c.push.ensures.items ∙ ap (λ (xs : List ℕ). xs ++ c.sectors.result ∷ []) c.loop-array.invariant.0
      ∙ ap (λ n. map (g.R.Rack.seen c.args.rack.now).sectors (range_with_len 0 c.loop-array.array) ++ n ∷ []) c.sectors.ensures.number
      ∙ sym (map-range_with_len_more (g.R.Rack.seen c.args.rack.now).sectors 0 c.loop-array.array c.loop-array.array (omega arith)),
  let pushed = simp length-append at (ap length c.push.ensures.items) in
      let before = c.loop-array.invariant.1 in
      omega arith,
)
