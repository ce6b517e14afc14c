use Rattle.std.proofs.Common.{refl}
use Rattle.slice_rack.specs.SliceRack.{tables, below_of}
use Rattle.raid_laws.specs.Laws.{stops_inside}
use Rattle.raid_rack.specs.RaidRack.{raid_in, slices_seen, written_in}
use Rattle.raid_laws.specs.Runs.{raid_runs_same}
use Rattle.raid_rack.proofs.Serving.{brings_keep, runs_call}
use Rattle.raid_rack.proofs.arrays.RaidRack.rebuild_rows.Goals as goal

pub returns-clause-keeps : goal.returns-clause-keeps
returns-clause-keeps g c =
    brings_keep c.args.self.now.arrays c.rebuild_array.new.self _ _ c.requires.fit
    (record { running = c.rebuild_array.ensures.running; heeded = c.rebuild_array.ensures.rebuilds.rows.steps.heeded })
    (stops_inside (tables c.rebuild_array.new.rack) (g.R.Rack.seen (below_of c.rebuild_array.new.rack))) c.rebuild_array.ensures.rebuilds.rows.steps.brings

pub returns-clause-book : goal.returns-clause-book
returns-clause-book g c =
    runs_call (written_in c.args.self.now) (written_in c.args.self.now) c.args.self.now.arrays c.rebuild_array.new.self _ _ (λ n vals. vals)
    (λ n not. (not, λ was. refl)) c.requires.fit
    (record { running = c.rebuild_array.ensures.running; heeded = c.rebuild_array.ensures.rebuilds.rows.steps.heeded })
    (stops_inside (tables c.rebuild_array.new.rack) (g.R.Rack.seen (below_of c.rebuild_array.new.rack))) c.rebuild_array.ensures.rebuilds.rows.steps.brings c.rebuild_array.ensures.rebuilds.rows.steps.caused
    c.rebuild_array.ensures.truths

pub returns-then-not-is_rebuilding-clause-book : goal.returns-then-not-is_rebuilding-clause-book
returns-then-not-is_rebuilding-clause-book g c = raid_runs_same (written_in c.args.self.now) (raid_in c.args.self.now) (slices_seen g.R.Rack.seen c.args.self.now)
