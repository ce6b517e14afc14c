use Rattle.log_laws.specs.Phases.{went}
use Rattle.commit_log.proofs.ReplayCalls.{shuts_all, shuts_none}
use Rattle.commit_log.proofs.log.Log.close.Goals as goal

pub returns-then-has_work-clause-settles : goal.returns-then-has_work-clause-settles
returns-then-has_work-clause-settles g c =
    shuts_all c.args.self.now (went c.args.lost.now.places) (went c.close_gates.new.lost.places) c.args.on.now c.args.block.now
    (c.has_work.ensures.work c.if-has_work.true) c.close_gates.ensures.settles

pub returns-else-has_work-clause-settles : goal.returns-else-has_work-clause-settles
returns-else-has_work-clause-settles g c =
    shuts_none (g.R.Rack.seen c.args.rack.now) c.args.self.now (went c.args.lost.now.places) c.args.on.now c.args.block.now c.requires.fit
    (c.has_work.ensures.idle c.if-has_work.false)
