use Rattle.std.proofs.Common.{nat_lt, refl, ltb-true}
use Rattle.std.proofs.lemmas.Bool.{and_parts}
use Rattle.slice_rack.specs.SliceRack.{tables, below_of}
use Rattle.array_model.specs.View.{rows_of}
use Rattle.raid_laws.specs.Laws.{stops_inside}
use Rattle.slice_rack.specs.Sliced.{slices_of}
use Rattle.raid_rack.specs.RaidRack.{raid_in, slices_seen, written_in}
use Rattle.raid_laws.specs.Runs.{raid_runs_same}
use Rattle.raid_rack.proofs.Serving.{brings_keep, runs_call}
use Rattle.raid_rack.proofs.Worked.{resyncs_one}
use Rattle.raid_rack.proofs.arrays.RaidRack.resync_rows.Goals as goal

pub returns-clause-resyncs : goal.returns-clause-resyncs
returns-clause-resyncs g c has =
    let v = raid_in c.args.self.now in
    let n = c.args.array in
    let both = and_parts (nat_lt n v.state.made) (nat_lt (v.arrays n).resync (rows_of (v.arrays n))) has in
    let x = slices_seen g.R.Rack.seen c.args.self.now in
    let y = slices_of (tables c.resync_array.new.rack) (g.R.Rack.seen (below_of c.resync_array.new.rack)) in
    resyncs_one c.args.self.now.arrays c.resync_array.new.self x y n c.args.most c.resync_array.result c.requires.fit
    (record { running = c.resync_array.ensures.running; heeded = c.resync_array.ensures.rows.steps.heeded })
    (stops_inside (tables c.resync_array.new.rack) (g.R.Rack.seen (below_of c.resync_array.new.rack)))
    (ltb-true n v.state.made both.0) (ltb-true (v.arrays n).resync (rows_of (v.arrays n)) both.1)
    c.resync_array.ensures.rows c.resync_array.ensures.answer

pub returns-clause-keeps : goal.returns-clause-keeps
returns-clause-keeps g c =
    brings_keep c.args.self.now.arrays c.resync_array.new.self _ _ c.requires.fit
    (record { running = c.resync_array.ensures.running; heeded = c.resync_array.ensures.rows.steps.heeded })
    (stops_inside (tables c.resync_array.new.rack) (g.R.Rack.seen (below_of c.resync_array.new.rack))) c.resync_array.ensures.rows.steps.brings

pub returns-clause-book : goal.returns-clause-book
returns-clause-book g c =
    runs_call (written_in c.args.self.now) (written_in c.args.self.now) c.args.self.now.arrays c.resync_array.new.self _ _ (λ n vals. vals)
    (λ n not. (not, λ was. refl)) c.requires.fit
    (record { running = c.resync_array.ensures.running; heeded = c.resync_array.ensures.rows.steps.heeded })
    (stops_inside (tables c.resync_array.new.rack) (g.R.Rack.seen (below_of c.resync_array.new.rack))) c.resync_array.ensures.rows.steps.brings c.resync_array.ensures.rows.steps.caused
    c.resync_array.ensures.truths

pub returns-then-not-has_row-clause-book : goal.returns-then-not-has_row-clause-book
returns-then-not-has_row-clause-book g c = raid_runs_same (written_in c.args.self.now) (raid_in c.args.self.now) (slices_seen g.R.Rack.seen c.args.self.now)
