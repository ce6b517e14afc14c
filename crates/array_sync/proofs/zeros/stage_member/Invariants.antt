use Rattle.std.proofs.Common.{◌≡◌, ◌*◌, ◌-◌}
use Rattle.sync_laws.specs.Rows.{AddsCopies, AreZeros, OfMember}
use Rattle.array_sync.proofs.zeros.stage_member.Given as goal

abbrev pub invariant-loop-sector : goal.invariant-loop-sector
invariant-loop-sector l =
    AddsCopies l.fn.array (OfMember l.position (l.row * 128) (l.sector - l.row * 128)) AreZeros (l.sector - l.row * 128) l.fn.log.added l.log.added
    × (l.log ≡ record l.fn.log { added = l.log.added })
