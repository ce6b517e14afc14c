use Rattle.std.proofs.Common.{◌≡◌, ◌<◌, ◌≤◌, inl, List, length, ap, sym, subst, ◌∙◌, arith}
use Rattle.rack.specs.Joins.{stays_then}
use Rattle.rack.specs.Sequences.{WritesOnly}
use Rattle.rack.proofs.Writing.{only_weaker}
use Rattle.shr_base.specs.declared.Id.{Id}
use Rattle.gpt_table.specs.declared.Table.{Table}
use Rattle.gpt_table.specs.Format.{IsWritable}
use Rattle.slice_rack.specs.SliceRack.{below_of, tables}
use Rattle.slice_rack.specs.Slices.{Slices}
use Rattle.slice_rack.specs.Sliced.{slices_of}
use Rattle.pool_state.specs.declared.contents.Plan.{Plan}
use Rattle.slice_rack.proofs.Below.{stays_sliced}
use Rattle.array_model.specs.View.{View}
use Rattle.raid_laws.specs.Enlisting.{HasLost, next_drive}
use Rattle.raid_laws.specs.Moves.{Mends}
use Rattle.raid_laws.specs.NewDrive.{ReachesAll, SeatsDrive, joins}
use Rattle.growth_laws.specs.NewDrives.{IsLaid, IsLost, MayBegin, TakesIn, joined_in, may_join, new_table, reached_table, reaches}
use Rattle.growth_laws.proofs.Reached.{laid_sliced, may_append, reached_writable, reaches_fits, reaches_members}
use Rattle.raid_rack.specs.RaidRack.{IsFit, raid_by, slices_in}
use Rattle.raid_rack.proofs.AddDrive.{lost_early, takes_early}
use Rattle.raid_rack.proofs.NotTaken.{fit_still}
use Rattle.raid_rack.proofs.Raises.{raises_more}
use Rattle.raid_rack.proofs.arrays.RaidRack.add_drive.Given.{Over}
use Rattle.raid_rack.proofs.arrays.RaidRack.add_drive.Goals as goal
use Rattle.raid_rack.proofs.arrays.RaidRack.add_drive.Goals.{After-lay_reached}

pub lay_reached-requires-clause-writable : goal.lay_reached-requires-clause-writable
lay_reached-requires-clause-writable g c =
    let few = c.requires.fit.running.set.most in
    let count = c.requires.fit.running.count in
    let extent = c.args.self.now.arrays.state.extent in
    let arrays = c.as_slice.result.now in
    let sectors = c.sectors-sectors.result in
    let same : length arrays ≡ length c.args.self.now.arrays.all.items = ap length c.as_slice.ensures.value in
    let room : 10273 ≤ (g.R.Rack.seen c.below.result.now).sectors c.args.disk = subst (λ r. 10273 ≤ (g.R.Rack.seen r).sectors c.args.disk) (sym c.below.ensures) c.requires.room in
    let is = c.sectors-sectors.ensures.number in
    subst IsWritable (sym c.reached_table-table.ensures)
    (reached_writable c.next_drive-drive.result.0 arrays (reaches extent arrays c.args.units sectors) sectors (omega (arith, few, count, same)) (omega (arith, room, is))
    (reaches_fits extent arrays c.args.units sectors))

-- nothing was written but what is laid on the disk
laid : (g : Over) (c : After-lay_reached g)
    → WritesOnly (g.R.Rack.seen (below_of (slices_in c.args.self.now))) (g.R.Rack.seen c.lay_reached.new.rack)
    (IsLaid c.args.self.now.arrays.all.items
    (joined_in c.args.self.now.arrays.state c.args.self.now.arrays.all.items c.args.place c.args.units ((g.R.Rack.seen (below_of (slices_in c.args.self.now))).sectors c.args.disk)) c.args.disk
    (new_table c.args.self.now.arrays.state c.args.self.now.arrays.all.items c.args.units ((g.R.Rack.seen (below_of (slices_in c.args.self.now))).sectors c.args.disk)))
laid g c =
    let r = c.args.self.now.arrays in
    let disk = c.args.disk in
    let a = g.R.Rack.seen (below_of (slices_in c.args.self.now)) in
    let m = g.R.Rack.seen c.lay_reached.new.rack in
    let extent = r.state.extent in
    let table = c.reached_table-table.result in
    let size = c.sectors-sectors.ensures.number ∙ ap (λ k. (g.R.Rack.seen k).sectors disk) c.below.ensures in
    let whole : table ≡ new_table r.state r.all.items c.args.units (a.sectors disk) =
    c.reached_table-table.ensures
    ∙ ap (λ (id : Id). reached_table id.0 c.as_slice.result.now (reaches extent c.as_slice.result.now c.args.units c.sectors-sectors.result) c.sectors-sectors.result (length c.as_slice.result.now)) c.next_drive-drive.ensures
    ∙ ap (λ k. reached_table (next_drive r.state).0 c.as_slice.result.now (reaches extent c.as_slice.result.now c.args.units k) k (length c.as_slice.result.now)) size
    ∙ ap (λ (vs : List View). reached_table (next_drive r.state).0 vs (reaches extent vs c.args.units (a.sectors disk)) (a.sectors disk) (length vs)) c.as_slice.ensures.value in
    subst (λ (e : Table). WritesOnly a m (IsLaid r.all.items (may_join extent r.all.items c.args.place c.args.units (a.sectors disk)) disk e)) whole
    (subst (λ (vs : List View). WritesOnly a m (IsLaid vs (may_join extent vs c.args.place c.args.units (a.sectors disk)) disk table)) c.as_slice-2.ensures.value
    (subst (λ k. WritesOnly (g.R.Rack.seen k) m (IsLaid c.as_slice-2.result.now (may_join extent c.as_slice-2.result.now c.args.place c.args.units ((g.R.Rack.seen k).sectors disk)) disk table))
    c.inner.ensures.value c.lay_reached.ensures.lays.only))

pub returns-in-Err-clause-fit : goal.returns-in-Err-clause-fit
returns-in-Err-clause-fit g c =
    let stays = (laid g (goal.at.returns-in-Err-clause-fit g c).After-lay_reached).stays in
    fit_still _ _ _ (stays_sliced c.requires.fit.running.set.fit.1 stays) c.requires.fit

pub returns-in-Err-clause-only : goal.returns-in-Err-clause-only
returns-in-Err-clause-only g c = only_weaker _ _ (λ d s v at. inl at) (laid g (goal.at.returns-in-Err-clause-only g c).After-lay_reached)

-- the sectors of its disk
size_is : (g : Over) (c : After-lay_reached g) → c.sectors-sectors.result ≡ (g.R.Rack.seen (below_of (slices_in c.args.self.now))).sectors c.args.disk
size_is g c = c.sectors-sectors.ensures.number ∙ ap (λ k. (g.R.Rack.seen k).sectors c.args.disk) c.below.ensures

-- the arrays stand as they did once it is laid
fit_laid : (g : Over) (c : After-lay_reached g)
    → IsFit c.args.self.now.arrays (slices_of (tables (slices_in c.args.self.now)) (g.R.Rack.seen c.lay_reached.new.rack))
fit_laid g c = fit_still _ _ _ (stays_sliced c.requires.fit.running.set.fit.1 (laid g c).stays) c.requires.fit

runs_laid : (g : Over) (c : After-lay_reached g) → g.R.Rack.runs (below_of (slices_in c.args.self.now)) c.lay_reached.new.rack
runs_laid g c = subst (λ r. g.R.Rack.runs r c.lay_reached.new.rack) c.inner.ensures.value c.lay_reached.ensures.runs

-- ---- a place of the list

pub exchange-requires-clause-fit : goal.exchange-requires-clause-fit
exchange-requires-clause-fit g c = fit_laid g (goal.at.exchange-requires-clause-fit g c).After-lay_reached

pub exchange-requires-clause-reaches : goal.exchange-requires-clause-reaches
exchange-requires-clause-reaches g c =
    let r = c.args.self.now.arrays in
    let sectors = (g.R.Rack.seen (below_of (slices_in c.args.self.now))).sectors c.args.disk in
    subst (ReachesAll r.all.items c.args.place) (sym (size_is g (goal.at.exchange-requires-clause-reaches g c).After-lay_reached))
    (reaches_members r.state r.all.items c.args.place c.args.units sectors
    (subst (λ (p : Plan). MayBegin r.state r.all.items c.args.place c.args.units sectors p) c.in-Replace.is c.requires.plan).1)

pub returns-then-exchange-clause-takes : goal.returns-then-exchange-clause-takes
returns-then-exchange-clause-takes g c =
    let at = (goal.at.returns-then-exchange-clause-takes g c).After-lay_reached in
    let r = c.args.self.now.arrays in
    let v = raid_by r in
    let w = raid_by c.exchange.new.self.arrays in
    let u = tables (slices_in c.exchange.new.self) in
    let a = g.R.Rack.seen (below_of (slices_in c.args.self.now)) in
    let m = g.R.Rack.seen c.lay_reached.new.rack in
    let b = g.R.Rack.seen (below_of (slices_in c.exchange.new.self)) in
    takes_early c.args.place c.args.units c.args.plan (joins r.all.items c.args.place (a.sectors c.args.disk)) v w u a m b (laid g at).stays
    (subst (λ k. TakesIn c.args.place c.args.units c.args.plan (joins r.all.items c.args.place k) v w (slices_of u m) (slices_of u b)) (size_is g at) (c.exchange.ensures.takes c.if-exchange.true))

pub returns-then-exchange-clause-only : goal.returns-then-exchange-clause-only
returns-then-exchange-clause-only g c =
    let r = c.args.self.now.arrays in
    let a = g.R.Rack.seen (below_of (slices_in c.args.self.now)) in
    laid_sliced c.args.disk r.all.items (joined_in r.state r.all.items c.args.place c.args.units (a.sectors c.args.disk)) (new_table r.state r.all.items c.args.units (a.sectors c.args.disk))
    (tables (slices_in c.exchange.new.self)) a (g.R.Rack.seen c.lay_reached.new.rack) (g.R.Rack.seen (below_of (slices_in c.exchange.new.self)))
    (laid g (goal.at.returns-then-exchange-clause-only g c).After-lay_reached) c.exchange.ensures.only

pub returns-then-exchange-clause-raises : goal.returns-then-exchange-clause-raises
returns-then-exchange-clause-raises g c = raises_more 19 36 (raid_by c.args.self.now.arrays) (raid_by c.exchange.new.self.arrays) (omega arith) c.exchange.ensures.raises

pub returns-then-exchange-clause-runs : goal.returns-then-exchange-clause-runs
returns-then-exchange-clause-runs g c = g.met.R.Rack.runs_then _ _ _ (runs_laid g (goal.at.returns-then-exchange-clause-runs g c).After-lay_reached) c.exchange.ensures.runs

pub returns-else-exchange-clause-lost : goal.returns-else-exchange-clause-lost
returns-else-exchange-clause-lost g c is =
    let v = raid_by c.args.self.now.arrays in
    let w = raid_by c.exchange.new.self.arrays in
    let t = tables (slices_in c.args.self.now) in
    let a = g.R.Rack.seen (below_of (slices_in c.args.self.now)) in
    let m = g.R.Rack.seen c.lay_reached.new.rack in
    let b = g.R.Rack.seen (below_of (slices_in c.exchange.new.self)) in
    let same : tables (slices_in c.exchange.new.self) ≡ t = c.exchange.ensures.tables c.if-exchange.false in
    subst (λ (u : Slices). IsLost v w (slices_of t a) (slices_of u b)) (sym same)
    (lost_early v w t a m b (laid g (goal.at.returns-else-exchange-clause-lost g c).After-lay_reached).stays
    (subst (λ (u : Slices). Mends v w (slices_of t m) (slices_of u b)) same (c.exchange.ensures.mends c.if-exchange.false))
    (subst (λ (u : Slices). HasLost v w (slices_of t m) (slices_of u b)) same (c.exchange.ensures.lost c.if-exchange.false)))

pub returns-else-exchange-clause-only : goal.returns-else-exchange-clause-only
returns-else-exchange-clause-only g c =
    let r = c.args.self.now.arrays in
    let a = g.R.Rack.seen (below_of (slices_in c.args.self.now)) in
    laid_sliced c.args.disk r.all.items (joined_in r.state r.all.items c.args.place c.args.units (a.sectors c.args.disk)) (new_table r.state r.all.items c.args.units (a.sectors c.args.disk))
    (tables (slices_in c.exchange.new.self)) a (g.R.Rack.seen c.lay_reached.new.rack) (g.R.Rack.seen (below_of (slices_in c.exchange.new.self)))
    (laid g (goal.at.returns-else-exchange-clause-only g c).After-lay_reached) c.exchange.ensures.only

pub returns-else-exchange-clause-raises : goal.returns-else-exchange-clause-raises
returns-else-exchange-clause-raises g c = raises_more 19 36 (raid_by c.args.self.now.arrays) (raid_by c.exchange.new.self.arrays) (omega arith) c.exchange.ensures.raises

pub returns-else-exchange-clause-runs : goal.returns-else-exchange-clause-runs
returns-else-exchange-clause-runs g c = g.met.R.Rack.runs_then _ _ _ (runs_laid g (goal.at.returns-else-exchange-clause-runs g c).After-lay_reached) c.exchange.ensures.runs

-- ---- the next place

pub append-requires-clause-fit : goal.append-requires-clause-fit
append-requires-clause-fit g c = fit_laid g (goal.at.append-requires-clause-fit g c).After-lay_reached

pub append-requires-clause-may : goal.append-requires-clause-may
append-requires-clause-may g c =
    let r = c.args.self.now.arrays in
    (may_append r.state r.all.items c.args.place c.args.units ((g.R.Rack.seen (below_of (slices_in c.args.self.now))).sectors c.args.disk) c.args.plan c.in_default-plan.not-Replace c.requires.plan).1

pub append-requires-clause-plan : goal.append-requires-clause-plan
append-requires-clause-plan g c =
    let r = c.args.self.now.arrays in
    (may_append r.state r.all.items c.args.place c.args.units ((g.R.Rack.seen (below_of (slices_in c.args.self.now))).sectors c.args.disk) c.args.plan c.in_default-plan.not-Replace c.requires.plan).0

pub append-requires-clause-disk : goal.append-requires-clause-disk
append-requires-clause-disk g c = subst (λ n. c.args.disk < n) (sym (laid g (goal.at.append-requires-clause-disk g c).After-lay_reached).stays.disks) c.requires.disk

pub append-requires-clause-size : goal.append-requires-clause-size
append-requires-clause-size g c =
    let at = (goal.at.append-requires-clause-size g c).After-lay_reached in
    size_is g at ∙ sym ((laid g at).stays.sectors c.args.disk)

pub append-requires-clause-room : goal.append-requires-clause-room
append-requires-clause-room g c = subst (λ k. 10273 ≤ k) (sym (size_is g (goal.at.append-requires-clause-room g c).After-lay_reached)) c.requires.room

pub returns-clause-seats : goal.returns-clause-seats
returns-clause-seats g c =
    let at = (goal.at.returns-clause-seats g c).After-lay_reached in
    subst (λ k. SeatsDrive c.args.self.now.arrays.all.items c.args.place c.args.disk k (tables (slices_in c.args.self.now)) (tables (slices_in c.append.new.self))) (size_is g at) c.append.ensures.seats

pub returns-clause-takes : goal.returns-clause-takes
returns-clause-takes g c =
    let at = (goal.at.returns-clause-takes g c).After-lay_reached in
    let r = c.args.self.now.arrays in
    let v = raid_by r in
    let w = raid_by c.append.new.self.arrays in
    let u = tables (slices_in c.append.new.self) in
    let a = g.R.Rack.seen (below_of (slices_in c.args.self.now)) in
    let m = g.R.Rack.seen c.lay_reached.new.rack in
    let b = g.R.Rack.seen (below_of (slices_in c.append.new.self)) in
    takes_early c.args.place c.args.units c.args.plan (joins r.all.items c.args.place (a.sectors c.args.disk)) v w u a m b (laid g at).stays
    (subst (λ k. TakesIn c.args.place c.args.units c.args.plan (joins r.all.items c.args.place k) v w (slices_of u m) (slices_of u b)) (size_is g at) c.append.ensures.takes)

pub returns-clause-only : goal.returns-clause-only
returns-clause-only g c =
    let r = c.args.self.now.arrays in
    let a = g.R.Rack.seen (below_of (slices_in c.args.self.now)) in
    laid_sliced c.args.disk r.all.items (joined_in r.state r.all.items c.args.place c.args.units (a.sectors c.args.disk)) (new_table r.state r.all.items c.args.units (a.sectors c.args.disk))
    (tables (slices_in c.append.new.self)) a (g.R.Rack.seen c.lay_reached.new.rack) (g.R.Rack.seen (below_of (slices_in c.append.new.self)))
    (laid g (goal.at.returns-clause-only g c).After-lay_reached) c.append.ensures.only

pub returns-clause-raises : goal.returns-clause-raises
returns-clause-raises g c = raises_more 19 36 (raid_by c.args.self.now.arrays) (raid_by c.append.new.self.arrays) (omega arith) c.append.ensures.raises

pub returns-clause-stays : goal.returns-clause-stays
returns-clause-stays g c = stays_then (laid g (goal.at.returns-clause-stays g c).After-lay_reached).stays c.append.ensures.only.stays

pub returns-clause-runs : goal.returns-clause-runs
returns-clause-runs g c = g.met.R.Rack.runs_then _ _ _ (runs_laid g (goal.at.returns-clause-runs g c).After-lay_reached) c.append.ensures.runs
