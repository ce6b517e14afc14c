use Rattle.std.proofs.Common.{◌≡◌, true, sym, subst, IfErr}
use Rattle.pool_state.specs.declared.contents.Work.{Work}
use Rattle.raid_laws.specs.Works.{array_of, is_due}
use Rattle.growth_laws.specs.Rows.{MakesWorks}
use Rattle.raid_rack.specs.RaidRack.{raid_in, slices_seen, written_in}
use Rattle.raid_laws.specs.Runs.{raid_runs_same}
use Rattle.raid_rack.proofs.arrays.RaidRack.works.Goals as goal

pub returns-in-TakeOver-clause-book : goal.returns-in-TakeOver-clause-book
returns-in-TakeOver-clause-book g c = raid_runs_same (written_in c.args.self.now) (raid_in c.args.self.now) (slices_seen g.R.Rack.seen c.args.self.now)

pub returns-in-TakeOver-2-clause-book : goal.returns-in-TakeOver-2-clause-book
returns-in-TakeOver-2-clause-book g c = raid_runs_same (written_in c.args.self.now) (raid_in c.args.self.now) (slices_seen g.R.Rack.seen c.args.self.now)

pub returns-in-TakeOver-3-clause-book : goal.returns-in-TakeOver-3-clause-book
returns-in-TakeOver-3-clause-book g c = raid_runs_same (written_in c.args.self.now) (raid_in c.args.self.now) (slices_seen g.R.Rack.seen c.args.self.now)

pub returns-in-TakeOver-4-clause-book : goal.returns-in-TakeOver-4-clause-book
returns-in-TakeOver-4-clause-book g c = raid_runs_same (written_in c.args.self.now) (raid_in c.args.self.now) (slices_seen g.R.Rack.seen c.args.self.now)

pub returns-in-TakeOver-5-clause-book : goal.returns-in-TakeOver-5-clause-book
returns-in-TakeOver-5-clause-book g c = raid_runs_same (written_in c.args.self.now) (raid_in c.args.self.now) (slices_seen g.R.Rack.seen c.args.self.now)

pub returns-in-TakeOver-6-clause-book : goal.returns-in-TakeOver-6-clause-book
returns-in-TakeOver-6-clause-book g c = raid_runs_same (written_in c.args.self.now) (raid_in c.args.self.now) (slices_seen g.R.Rack.seen c.args.self.now)

pub returns-in-TakeOver-7-clause-book : goal.returns-in-TakeOver-7-clause-book
returns-in-TakeOver-7-clause-book g c = raid_runs_same (written_in c.args.self.now) (raid_in c.args.self.now) (slices_seen g.R.Rack.seen c.args.self.now)

pub returns-in-Extend-clause-book : goal.returns-in-Extend-clause-book
returns-in-Extend-clause-book g c = raid_runs_same (written_in c.args.self.now) (raid_in c.args.self.now) (slices_seen g.R.Rack.seen c.args.self.now)

pub returns-in-Resync-clause-contents : goal.returns-in-Resync-clause-contents
returns-in-Resync-clause-contents g c =
    subst (λ (work : Work).
    is_due (raid_in c.args.self.now) work ≡ true
    → MakesWorks work c.args.most (raid_in c.args.self.now) (raid_in c.resync_rows.new.self) (slices_seen g.R.Rack.seen c.args.self.now) (slices_seen g.R.Rack.seen c.resync_rows.new.self) c.resync_rows.result)
    (sym c.in-Resync.is) c.resync_rows.ensures.contents

pub returns-in-Resync-clause-named : goal.returns-in-Resync-clause-named
returns-in-Resync-clause-named g c = subst (λ (work : Work). IfErr c.resync_rows.result (λ e. e.array ≡ array_of work)) (sym c.in-Resync.is) c.resync_rows.ensures.named

pub returns-in-Rebuild-clause-contents : goal.returns-in-Rebuild-clause-contents
returns-in-Rebuild-clause-contents g c =
    subst (λ (work : Work).
    is_due (raid_in c.args.self.now) work ≡ true
    → MakesWorks work c.args.most (raid_in c.args.self.now) (raid_in c.rebuild_rows.new.self) (slices_seen g.R.Rack.seen c.args.self.now) (slices_seen g.R.Rack.seen c.rebuild_rows.new.self) c.rebuild_rows.result)
    (sym c.in-Rebuild.is) c.rebuild_rows.ensures.contents

pub returns-in-Rebuild-clause-named : goal.returns-in-Rebuild-clause-named
returns-in-Rebuild-clause-named g c = subst (λ (work : Work). IfErr c.rebuild_rows.result (λ e. e.array ≡ array_of work)) (sym c.in-Rebuild.is) c.rebuild_rows.ensures.named
