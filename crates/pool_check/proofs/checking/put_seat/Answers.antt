use Rattle.std.proofs.Common.{arith}
use Rattle.slice_rack.proofs.Tables.{put_in}
use Rattle.pool_check.proofs.checking.put_seat.Goals as goal

pub returns : goal.returns
returns c = put_in c.args.seats.now c.args.place c.args.seat (omega arith)
