use Rattle.std.proofs.Common.{◌≡◌, ◌≤◌, ◌*◌, ◌^◌}
use Rattle.growth_laws.specs.NewDrives as spec
use Rattle.raid_rack.proofs.adding.top_of.Given as goal

abbrev pub invariant-loop-number : goal.invariant-loop-number
invariant-loop-number l = record {
  top : l.top ≡ spec.top l.extent l.arrays l.number;
  low : l.top ≤ l.number * 2 ^ 48;
}
