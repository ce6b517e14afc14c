use Rattle.std.proofs.Common.{◌≡◌, ◌≤◌, ◌+◌, ◌*◌, ◌^◌}
use Rattle.raid_laws.specs.NewDrive as spec
use Rattle.raid_rack.proofs.new_drive.first_in.Given as goal

abbrev pub invariant-loop-lower : goal.invariant-loop-lower
invariant-loop-lower l = record {
  first : l.first ≡ spec.first_in l.arrays l.lower;
  low : l.first ≤ 10240 + l.lower * 2 ^ 49;
}
