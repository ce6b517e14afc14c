use Rattle.std.proofs.Common.{◌≡◌, ◌*◌}
use Rattle.sync_laws.specs.Rows.{AddsCopies, AreZeros, OfCounting}
use Rattle.array_sync.proofs.zeros.stage_row.Given as goal

abbrev pub invariant-loop-position : goal.invariant-loop-position
invariant-loop-position l =
    AddsCopies l.fn.array (OfCounting l.fn.array (l.row * 128) 128 l.position) AreZeros (l.position * 128) l.fn.log.added l.log.added
    × (l.log ≡ record l.fn.log { added = l.log.added })
