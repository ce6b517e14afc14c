use Rattle.std.proofs.Common.{◌≡◌, ◌<◌, ◌^◌, map, take, length, All}
use Rattle.growth_plan.specs.Book.{height_of, standing}
use Rattle.growth_plan.specs.Target.{extents_at_end}
use Rattle.growth_plan.proofs.target.Given as goal

abbrev pub invariant-loop-array : goal.invariant-loop-array
invariant-loop-array l = record {
  offered : l.extents.items ≡ map (extents_at_end l.fn.state) (standing (take l.array-index l.array-items));
  level : l.top ≡ height_of (take l.array-index l.array-items);
  count : length l.extents.items ≡ l.array-index;
  small : All (λ extents. extents < 2 ^ 57) l.extents.items;
}
