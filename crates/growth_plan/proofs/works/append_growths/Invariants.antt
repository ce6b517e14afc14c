use Rattle.std.proofs.Common.{◌≡◌, take}
use Rattle.std.specs.List.{flat_map}
use Rattle.growth_plan.specs.Book.{height_of, standing}
use Rattle.growth_plan.specs.Tally.{Appends}
use Rattle.growth_plan.specs.Works.{growths}
use Rattle.growth_plan.proofs.works.append_growths.Given as goal

abbrev pub invariant-loop-number : goal.invariant-loop-number
invariant-loop-number l = record {
  appended : Appends l.initial.tally l.tally (flat_map (growths l.fn.state) (standing (take l.number l.arrays)));
  level : l.top ≡ height_of (take l.number l.arrays);
}
