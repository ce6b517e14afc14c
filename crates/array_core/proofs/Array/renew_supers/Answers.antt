use Rattle.std.proofs.Common.{arith}
use Rattle.array_model.proofs.Reading.{slices_then}
use Rattle.array_core.proofs.Renewing.{supers_none, supers_next}
use Rattle.array_core.proofs.Array.renew_supers.Goals as goal

pub loop-position-init : goal.loop-position-init
loop-position-init g c = (supers_none c.args.self.now (g.R.Rack.seen c.args.rack.now) c.requires.slices.fit, g.met.R.Rack.runs_same c.args.rack.now)

pub renew_super-requires-clause-slices : goal.renew_super-requires-clause-slices
renew_super-requires-clause-slices g c =
    slices_then c.args.self.now c.loop-position.self (g.R.Rack.seen c.args.rack.now) (g.R.Rack.seen c.loop-position.rack) c.loop-position.invariant.0.only.stays
    c.loop-position.invariant.0.notes c.requires.slices

pub loop-position-preserved : goal.loop-position-preserved
loop-position-preserved g c =
    let low = c.loop-position-test.true in
    let end = c.members-position-end.ensures in (
      supers_next c.args.self.now c.loop-position.self c.renew_super.new.self (g.R.Rack.seen c.args.rack.now) (g.R.Rack.seen c.loop-position.rack)
          (g.R.Rack.seen c.renew_super.new.rack) c.loop-position.position c.rules.ensures (omega (arith, low, end)) c.loop-position.invariant.0 c.renew_super.ensures.writes,
      g.met.R.Rack.runs_then _ _ _ c.loop-position.invariant.1 c.renew_super.ensures.runs,
    )
