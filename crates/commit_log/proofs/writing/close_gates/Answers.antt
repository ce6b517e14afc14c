use Rattle.log_laws.specs.Phases.{went}
use Rattle.log_laws.proofs.Closing.{closes_all}
use Rattle.commit_log.proofs.writing.close_gates.Goals as goal

pub returns-then-is_none-clause-settles : goal.returns-then-is_none-clause-settles
returns-then-is_none-clause-settles g c =
    closes_all (went c.args.lost.now.places) (went c.settle_each.new.lost.places) c.args.on.now c.args.block.now c.settle_each.ensures.settles
    (c.is_none.ensures.none c.if-is_none.true)
