use Rattle.std.proofs.Common.{take}
use Rattle.std.specs.List.{flat_map}
use Rattle.growth_plan.specs.Book.{standing}
use Rattle.growth_plan.specs.Tally.{Appends}
use Rattle.growth_plan.specs.Works.{resyncs}
use Rattle.growth_plan.proofs.works.append_resyncs.Given as goal

abbrev pub invariant-loop-number : goal.invariant-loop-number
invariant-loop-number l = Appends l.initial.tally l.tally (flat_map resyncs (standing (take l.number l.arrays)))
