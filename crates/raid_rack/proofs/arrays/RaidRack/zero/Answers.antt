use Rattle.std.proofs.Common.{Ok, Err}
use Rattle.raid_rack.specs.RaidRack.{raid_in, slices_seen}
use Rattle.raid_rack.proofs.Zeroed.{one_zeroed}
use Rattle.raid_rack.proofs.arrays.RaidRack.zero.Goals as goal

pub returns-in-Ok-clause-grows : goal.returns-in-Ok-clause-grows
returns-in-Ok-clause-grows g c due =
    one_zeroed c.args.array (raid_in c.args.self.now) (raid_in c.zero_rows.new.self) (slices_seen g.R.Rack.seen c.args.self.now) (slices_seen g.R.Rack.seen c.zero_rows.new.self)
    (Ok c.in-Ok.field-0) (c.in-Ok.ensures.grows due)

pub returns-in-Err-clause-grows : goal.returns-in-Err-clause-grows
returns-in-Err-clause-grows g c due =
    one_zeroed c.args.array (raid_in c.args.self.now) (raid_in c.zero_rows.new.self) (slices_seen g.R.Rack.seen c.args.self.now) (slices_seen g.R.Rack.seen c.zero_rows.new.self)
    (Err c.in-Err.stuck) (c.in-Err.ensures.grows due)
