use Rattle.std.proofs.Common.{arith}
use Rattle.slice_rack.specs.SliceRack.{below_of, tables}
use Rattle.raid_rack.proofs.LayingDrive.{laid_all}
use Rattle.raid_rack.proofs.new_drive.seat_drive.Goals as goal

pub returns-clause-seats : goal.returns-clause-seats
returns-clause-seats g c =
    laid_all c.args.arrays.now c.args.place c.args.sectors (g.R.Rack.seen (below_of c.args.slices.now)) c.args.disk c.loop-number.number (tables c.args.slices.now) (tables c.loop-number.slices)
    (omega (arith, c.loop-number-test.false)) c.loop-number.invariant.laid c.loop-number.invariant.others
