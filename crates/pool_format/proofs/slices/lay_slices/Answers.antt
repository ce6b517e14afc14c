use Rattle.std.proofs.Common.{◌≡◌, ◌*◌, ◌∙◌, length, sym, subst, arith}
use Rattle.slice_rack.specs.SliceRack.{tables}
use Rattle.pool_format.specs.Plan.{HasRoom}
use Rattle.pool_format.specs.Slices.{AreLaid}
use Rattle.pool_format.proofs.Slicing.{laid_none}
use Rattle.pool_format.proofs.slices.lay_slices.Goals as goal

pub loop-place-init : goal.loop-place-init
loop-place-init g c = record {
  below = c.new-slices.ensures.below;
  fit = c.new-slices.ensures.fit;
  laid = laid_none c.args.plan.now.arrays.items (tables c.new-slices.result) c.new-slices.ensures.empty;
}

pub lay_drive-requires-clause-room : goal.lay_drive-requires-clause-room
lay_drive-requires-clause-room g c = subst (λ r. HasRoom c.args.plan.now (g.R.Rack.seen r)) (sym c.loop-place.invariant.below) c.requires.room

pub lay_drive-requires-clause-fit : goal.lay_drive-requires-clause-fit
lay_drive-requires-clause-fit g c = c.loop-place.invariant.fit

pub lay_drive-requires-clause-laid : goal.lay_drive-requires-clause-laid
lay_drive-requires-clause-laid g c = c.loop-place.invariant.laid

pub lay_drive-requires-clause-place : goal.lay_drive-requires-clause-place
lay_drive-requires-clause-place g c = omega (arith, c.loop-place-test.true, c.len-place-end.ensures.value)

pub loop-place-preserved : goal.loop-place-preserved
loop-place-preserved g c = record {
  below = c.lay_drive.ensures.below ∙ c.loop-place.invariant.below;
  fit = c.lay_drive.ensures.fit;
  laid = c.lay_drive.ensures.laid;
}

pub returns-clause-laid : goal.returns-clause-laid
returns-clause-laid g c =
    let all : c.loop-place.place ≡ length c.args.plan.now.units.items = omega (arith, c.loop-place-test.false, c.len-place-end.ensures.value, c.loop-place.auto.place-end) in
    subst (λ k. AreLaid c.args.plan.now.arrays.items k (17 * k) (tables c.loop-place.slices)) all c.loop-place.invariant.laid
