-- The units so far are those of the sizes so far.
use Rattle.std.proofs.Common.{◌≡◌, ◌<◌, ◌^◌, take, map, All}
use Rattle.shr_base.specs.Units.{units_of}
use Rattle.shr_tool.proofs.layout.print.drive_units.Given as goal

abbrev pub invariant-loop-sectors : goal.invariant-loop-sectors
invariant-loop-sectors l = record {
  units : l.all.items ≡ map (λ size. units_of size l.fn.request.extent) (take l.sectors-index l.fn.request.sizes.items);
  small : All (λ own. own < 2 ^ 41) l.all.items;
}
