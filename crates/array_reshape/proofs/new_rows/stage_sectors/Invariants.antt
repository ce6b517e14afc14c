use Rattle.std.proofs.Common.{◌≡◌, ◌*◌, ◌-◌}
use Rattle.rack.specs.Sequences.{OnlyReads}
use Rattle.array_model.specs.Members.{Notes}
use Rattle.reshape_laws.specs.Rows.{AddsPieces, IsNewBytes, OfSectors}
use Rattle.array_reshape.proofs.new_rows.stage_sectors.Given as goal

abbrev pub invariant-loop-sector : goal.invariant-loop-sector
invariant-loop-sector g l =
    OnlyReads (g.R.Rack.seen l.fn.rack) (g.R.Rack.seen l.rack)
    × Notes l.fn.array l.array (g.R.Rack.seen l.fn.rack) (g.R.Rack.seen l.rack)
    × g.R.Rack.runs l.fn.rack l.rack
    × AddsPieces l.fn.array (OfSectors l.fn.array.truth.raid_disks (l.first * 128) (l.sector - l.first * 128) l.absent) (IsNewBytes l.fn.array (g.R.Rack.seen l.fn.rack)) ((l.sector - l.first * 128) * l.fn.array.truth.raid_disks) l.fn.log.added l.log.added
    × (l.log ≡ record l.fn.log { added = l.log.added })
