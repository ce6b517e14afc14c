use Rattle.std.proofs.Common.{◌+◌, ◌^◌, ◌<◌, List, length, arith, ap, sym, ◌∙◌, subst, ℕ}
use Rattle.std.specs.List.{AllByRecursion}
use Rattle.lvm_group.specs.declared.growth.Piece.{Piece}
use Rattle.lvm_group.specs.Growth.{behind_runs, pieces}
use Rattle.lvm_group.proofs.Grown.{fits_few, pieces_small}
use Rattle.lvm_group.proofs.growth.grow.Goals as goal

pub put_behind-requires-clause-small : goal.put_behind-requires-clause-small
put_behind-requires-clause-small c =
    subst (λ (more : List Piece). AllByRecursion (λ (piece : Piece). piece.first + piece.count < 2 ^ 45) more) (sym (c.as_slice.ensures.value ∙ c.pieces-more.ensures))
    (pieces_small 0 c.args.runs.now c.args.numbers.now c.requires.below)

pub put_behind-requires-clause-room : goal.put_behind-requires-clause-room
put_behind-requires-clause-room c =
    let few = fits_few c.args.runs.now c.args.numbers.now c.requires.fits in
    let same = ap (λ (more : List Piece). length (behind_runs c.args.extents c.args.runs.now more)) (c.as_slice.ensures.value ∙ c.pieces-more.ensures) in
    let start = ap (λ (n : ℕ). length (behind_runs n c.args.runs.now (pieces 0 c.args.runs.now c.args.numbers.now))) c.requires.counted in
    let room = c.requires.room in
    omega arith
