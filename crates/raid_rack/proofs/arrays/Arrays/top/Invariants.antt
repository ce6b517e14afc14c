use Rattle.std.proofs.Common.{◌≡◌, ◌≤◌, ◌*◌, ◌^◌, sum_by, take}
use Rattle.growth_laws.specs.NewArrays.{height_of}
use Rattle.raid_rack.proofs.arrays.Arrays.top.Given as goal

abbrev pub invariant-loop-number : goal.invariant-loop-number
invariant-loop-number l = record {
  top : l.top ≡ sum_by (height_of l.self.state.extent) (take l.number l.self.all.items);
  low : l.top ≤ l.number * 2 ^ 48;
}
