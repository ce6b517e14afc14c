use Rattle.std.proofs.Common.{◌≡◌, ℕ, nat_lt, if◌then◌else◌, false, length}
use Rattle.raid_laws.specs.NewDrive as spec
use Rattle.raid_rack.specs.RaidRack.{is_written}
use Rattle.raid_rack.proofs.new_drive.joining.Given as goal

abbrev pub invariant-loop-number : goal.invariant-loop-number
invariant-loop-number l = record {
  count : length l.joining ≡ 16;
  flags : (n : ℕ) → is_written l.joining n ≡ (if nat_lt n l.number then spec.joins l.arrays l.place l.sectors n else false);
}
