use Rattle.std.proofs.Common.{◌≡◌, map}
use Rattle.std.specs.List.{range_with_len}
use Rattle.shr_base.specs.Units.{units_of}
use Rattle.pool_format.proofs.planning.drive_units.Given as goal

-- those of the disks up to here
abbrev pub invariant-loop-disk : goal.invariant-loop-disk
invariant-loop-disk g l =
    l.all.items ≡ map (λ disk. units_of ((g.R.Rack.seen l.fn.rack).sectors disk) l.fn.extent) (range_with_len 0 l.disk)
