use Rattle.std.specs.List.{list_all, range_with_len}
use Rattle.std.proofs.Common.{◌≡◌, true, length, take}
use Rattle.raid_laws.specs.NewDrive.{is_reached}
use Rattle.raid_rack.proofs.new_drive.reaches_all.Given as goal

abbrev pub invariant-loop-number : goal.invariant-loop-number
invariant-loop-number l = list_all (is_reached l.arrays l.place l.sectors) (take l.number (range_with_len 0 (length l.arrays))) ≡ true
