use Rattle.std.proofs.Common.{ℕ, ◌++◌, ◌∷◌, [], List, sym, ap, ◌∙◌, arith, map}
use Rattle.std.specs.List.{range_with_len}
use Rattle.std.proofs.lemmas.List.FromFn.{map-range_with_len_more}
use Rattle.lvm_group.proofs.opening.sectors_of.Goals as goal

pub loop-array-preserved : goal.loop-array-preserved
loop-array-preserved g c =
    c.in-Ok.ensures.items ∙ ap (λ (xs : List ℕ). xs ++ c.sectors-size.result ∷ []) c.loop-array.invariant
    ∙ ap (λ n. map (g.R.Rack.seen c.args.rack.now).sectors (range_with_len 0 c.loop-array.array) ++ n ∷ []) c.sectors-size.ensures.number
    ∙ sym (map-range_with_len_more (g.R.Rack.seen c.args.rack.now).sectors 0 c.loop-array.array c.loop-array.array (omega arith))
