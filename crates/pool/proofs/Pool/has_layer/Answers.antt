use Rattle.std.proofs.Common.{◌+◌, ◌≤◌, length, take, sym, subst, arith}
use Rattle.std.specs.Prelude.{All}
use Rattle.std.proofs.lemmas.List.{length-take}
use Rattle.std.proofs.lemmas.List.Elements.{All-take}
use Rattle.growth_plan.proofs.Books.{few_arrays, height_small}
use Rattle.growth_plan.specs.Book.{IsSmall}
use Rattle.pool.specs.View.{book, view}
use Rattle.pool.proofs.Pool.has_layer.Goals as goal

pub height_of-requires : goal.height_of-requires
height_of-requires g c =
    let is = c.requires.book in
    let xs = c.as_slice-arrays.result.now in
    let first = take (c.args.number + 1) xs in
    let few = (few_arrays (book (view g.R.Rack.seen g.R.Bay.shelf c.args.self.now)).state is.valid).0 in
    let count = is.made in
    let same = c.as_slice-arrays.ensures.value in
    let long : length xs ≤ 16 = subst (λ ys. length ys ≤ 16) (sym same) (omega (arith, few, count)) in
    let cut = length-take (c.args.number + 1) xs in
    let small = height_small first (omega (arith, long, cut)) (All-take IsSmall (c.args.number + 1) xs (subst (All IsSmall) (sym same) is.small)) in
    omega (arith, small)
