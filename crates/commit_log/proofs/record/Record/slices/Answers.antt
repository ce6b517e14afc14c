use Rattle.std.proofs.Common.{List, sym, ap, ap₂, ◌∙◌, ◌||◌, ◌==◌}
use Rattle.rack.specs.Targets.{Target}
use Rattle.log_laws.specs.Phases.{has_target}
use Rattle.log_laws.proofs.Targets.{no_targets}
use Rattle.log_laws.proofs.Rounds.{has_more}
use Rattle.commit_log.proofs.record.Record.slices.Goals as goal

pub loop-at-init : goal.loop-at-init
loop-at-init c d below = c.none-slices.ensures d ∙ sym (ap (λ (xs : List Target). has_target xs d) (no_targets c.args.self.now.bytes.items))

pub loop-at-preserved : goal.loop-at-preserved
loop-at-preserved c d below =
    c.add.ensures d below
    ∙ ap₂ (λ b k. b || (k == d)) (c.loop-at.invariant d below) c.target-disk.ensures.disk
    ∙ sym (has_more c.args.self.now.bytes.items c.loop-at.at d)
