use Rattle.std.proofs.Common.{sym, ◌∙◌}
use Rattle.log_laws.specs.Phases.{went}
use Rattle.log_laws.proofs.Calling.{puts_one, puts_lost}
use Rattle.commit_log.proofs.writing.write_one.Goals as goal

pub returns-in-Err-clause-puts : goal.returns-in-Err-clause-puts
returns-in-Err-clause-puts g c =
    puts_lost (went c.args.lost.now.places) (went c.mark.new.self.places) c.args.disk c.args.sector c.args.from.now c.in-Err.field-0
    (sym c.has.ensures ∙ c.if-has.false) c.mark.ensures c.in-Err.ensures.writes

pub returns-in_default-clause-puts : goal.returns-in_default-clause-puts
returns-in_default-clause-puts g c =
    puts_one (went c.args.lost.now.places) c.args.disk c.args.sector c.args.from.now (sym c.has.ensures ∙ c.if-has.false) c.in_default.ensures.writes
