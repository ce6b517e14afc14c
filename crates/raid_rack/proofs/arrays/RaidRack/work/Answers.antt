use Rattle.growth_laws.proofs.RowMakes.{one_made}
use Rattle.raid_rack.specs.declared.works.Stuck.{Stuck}
use Rattle.raid_rack.specs.RaidRack.{raid_in, slices_seen}
use Rattle.raid_rack.proofs.Worked.{one_work}
use Rattle.raid_rack.proofs.arrays.RaidRack.work.Goals as goal

pub returns-clause-does : goal.returns-clause-does
returns-clause-does g c due =
    one_work c.args.work.now (raid_in c.args.self.now) (raid_in c.works.new.self) (slices_seen g.R.Rack.seen c.args.self.now) (slices_seen g.R.Rack.seen c.works.new.self)
    c.in_ok-works.field-0 (c.in_ok-works.ensures.does due)

pub returns-clause-contents : goal.returns-clause-contents
returns-clause-contents g c due =
    one_made Stuck c.args.work.now (raid_in c.args.self.now) (raid_in c.works.new.self) (slices_seen g.R.Rack.seen c.args.self.now) (slices_seen g.R.Rack.seen c.works.new.self)
    c.in_ok-works.field-0 (c.in_ok-works.ensures.contents due)
