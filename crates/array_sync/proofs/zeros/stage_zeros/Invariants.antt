use Rattle.std.proofs.Common.{◌≡◌, ◌*◌, ◌-◌}
use Rattle.sync_laws.specs.Rows.{AddsCopies, AreZeros, OfCounting}
use Rattle.array_sync.proofs.zeros.stage_zeros.Given as goal

abbrev pub invariant-loop-row : goal.invariant-loop-row
invariant-loop-row l =
    AddsCopies l.fn.array (OfCounting l.fn.array (l.first * 128) (128 * (l.row - l.first)) l.fn.array.truth.raid_disks) AreZeros (l.fn.array.truth.raid_disks * 128 * (l.row - l.first)) l.fn.log.added l.log.added
    × (l.log ≡ record l.fn.log { added = l.log.added })
