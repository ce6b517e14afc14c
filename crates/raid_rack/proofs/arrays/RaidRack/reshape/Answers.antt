use Rattle.std.proofs.Common.{Ok, Err}
use Rattle.raid_rack.specs.RaidRack.{raid_in, slices_seen}
use Rattle.raid_rack.proofs.Grown.{one_moved}
use Rattle.raid_rack.proofs.arrays.RaidRack.reshape.Goals as goal

pub returns-in-Ok-clause-grows : goal.returns-in-Ok-clause-grows
returns-in-Ok-clause-grows g c due =
    (one_moved c.args.array (raid_in c.args.self.now) (raid_in c.reshape_rows.new.self) (slices_seen g.R.Rack.seen c.args.self.now) (slices_seen g.R.Rack.seen c.reshape_rows.new.self)
    (Ok c.in-Ok.field-0) (c.in-Ok.ensures.grows due)).grows

pub returns-in-Err-clause-grows : goal.returns-in-Err-clause-grows
returns-in-Err-clause-grows g c due =
    (one_moved c.args.array (raid_in c.args.self.now) (raid_in c.reshape_rows.new.self) (slices_seen g.R.Rack.seen c.args.self.now) (slices_seen g.R.Rack.seen c.reshape_rows.new.self)
    (Err c.in-Err.stuck) (c.in-Err.ensures.grows due)).grows

pub returns-in-Ok-clause-contents : goal.returns-in-Ok-clause-contents
returns-in-Ok-clause-contents g c due =
    one_moved c.args.array (raid_in c.args.self.now) (raid_in c.reshape_rows.new.self) (slices_seen g.R.Rack.seen c.args.self.now) (slices_seen g.R.Rack.seen c.reshape_rows.new.self)
    (Ok c.in-Ok.field-0) (c.in-Ok.ensures.grows due)

pub returns-in-Err-clause-contents : goal.returns-in-Err-clause-contents
returns-in-Err-clause-contents g c due =
    one_moved c.args.array (raid_in c.args.self.now) (raid_in c.reshape_rows.new.self) (slices_seen g.R.Rack.seen c.args.self.now) (slices_seen g.R.Rack.seen c.reshape_rows.new.self)
    (Err c.in-Err.stuck) (c.in-Err.ensures.grows due)
