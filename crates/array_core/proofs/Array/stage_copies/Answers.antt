use Rattle.std.proofs.Common.{◌≤◌, List, length, sym, ap, subst, arith}
use Rattle.rack.specs.Targets.{Target}
use Rattle.array_core.specs.Logging.{due_copies}
use Rattle.array_core.proofs.RowTargets.{copies_step}
use Rattle.array_core.proofs.Array.stage_copies.Goals as goal

pub loop-position-init : goal.loop-position-init
unfolding due_copies
loop-position-init c = (
  ap (λ (xs : List Target). record c.args.log.now { added = xs }) c.requires.empty,
  subst (λ (xs : List Target). length xs ≤ 0) (sym c.requires.empty) (omega arith),
)

pub loop-position-preserved : goal.loop-position-preserved
loop-position-preserved c =
    copies_step c.args.all c.args.self.now c.args.sector c.loop-position.position c.args.from.now c.args.log.now c.loop-position.log c.stage_if.new.log c.is_due-due.result
    c.is_due-due.ensures c.loop-position.invariant c.stage_if.ensures
