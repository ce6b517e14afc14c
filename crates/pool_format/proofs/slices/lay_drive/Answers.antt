use Rattle.std.proofs.Common.{◌≡◌, ◌+◌, ◌*◌, ◌∙◌, sym, subst, arith}
use Rattle.slice_rack.specs.SliceRack.{tables}
use Rattle.pool_format.specs.Plan.{HasRoom}
use Rattle.pool_format.specs.Slices.{AreLaid}
use Rattle.pool_format.proofs.slices.lay_drive.Goals as goal

pub loop-number-init : goal.loop-number-init
loop-number-init g c = record {
  below = c.lay_log.ensures.below;
  fit = c.lay_log.ensures.fit;
  laid = subst (λ k. AreLaid c.args.plan.now.arrays.items (c.args.place + 1) k (tables c.lay_log.new.slices)) (omega arith) c.lay_log.ensures.laid;
}

pub lay_member-requires-clause-room : goal.lay_member-requires-clause-room
lay_member-requires-clause-room g c = subst (λ r. HasRoom c.args.plan.now (g.R.Rack.seen r)) (sym c.loop-number.invariant.below) c.requires.room

pub lay_member-requires-clause-fit : goal.lay_member-requires-clause-fit
lay_member-requires-clause-fit g c = c.loop-number.invariant.fit

pub lay_member-requires-clause-laid : goal.lay_member-requires-clause-laid
lay_member-requires-clause-laid g c = c.loop-number.invariant.laid

pub loop-number-preserved : goal.loop-number-preserved
loop-number-preserved g c = record {
  below = c.lay_member.ensures.below ∙ c.loop-number.invariant.below;
  fit = c.lay_member.ensures.fit;
  laid = subst (λ k. AreLaid c.args.plan.now.arrays.items (c.args.place + 1) k (tables c.lay_member.new.slices)) (omega arith) c.lay_member.ensures.laid;
}

pub returns-clause-laid : goal.returns-clause-laid
returns-clause-laid g c =
    let all : 17 * c.args.place + c.loop-number.number + 1 ≡ 17 * (c.args.place + 1) = omega (arith, c.loop-number-test.false, c.loop-number.auto.number-end) in
    subst (λ k. AreLaid c.args.plan.now.arrays.items (c.args.place + 1) k (tables c.loop-number.slices)) all c.loop-number.invariant.laid
