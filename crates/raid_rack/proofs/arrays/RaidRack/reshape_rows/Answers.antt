use Rattle.std.proofs.Common.{sym, ◌∙◌}
use Rattle.slice_rack.specs.SliceRack.{tables, below_of}
use Rattle.raid_laws.specs.Laws.{stops_inside}
use Rattle.raid_rack.specs.RaidRack.{raid_in, raid_seen, refused_in, slices_seen}
use Rattle.raid_rack.proofs.OldKept.{moved_old, old_same, zeros_same}
use Rattle.raid_rack.proofs.arrays.RaidRack.reshape_rows.Goals as goal

pub returns-then-not-may_move-clause-old : goal.returns-then-not-may_move-clause-old
returns-then-not-may_move-clause-old g c ready = old_same c.args.self.now.arrays.state.joined (raid_seen g.R.Rack.seen c.args.self.now)

pub returns-then-not-may_move-clause-zeros : goal.returns-then-not-may_move-clause-zeros
returns-then-not-may_move-clause-zeros g c ready = zeros_same c.args.self.now.arrays.state.joined (raid_in c.args.self.now) (slices_seen g.R.Rack.seen c.args.self.now)

pub returns-clause-old : goal.returns-clause-old
returns-clause-old g c ready =
    (moved_old c.args.array c.args.most c.args.self.now.arrays c.move_rows.new.self _ _ c.move_rows.result c.requires.fit
    (record { running = c.move_rows.ensures.running; heeded = c.move_rows.ensures.grows.steps.grows.heeded })
    (stops_inside (tables c.move_rows.new.rack) (g.R.Rack.seen (below_of c.move_rows.new.rack))) (sym c.may_move.ensures ∙ c.if-not-may_move.false) c.move_rows.ensures.grows ready).0

pub returns-clause-zeros : goal.returns-clause-zeros
returns-clause-zeros g c ready =
    (moved_old {r = refused_in c.args.self.now} {q = refused_in c.args.self.now} c.args.array c.args.most c.args.self.now.arrays c.move_rows.new.self _ _ c.move_rows.result c.requires.fit
    (record { running = c.move_rows.ensures.running; heeded = c.move_rows.ensures.grows.steps.grows.heeded })
    (stops_inside (tables c.move_rows.new.rack) (g.R.Rack.seen (below_of c.move_rows.new.rack))) (sym c.may_move.ensures ∙ c.if-not-may_move.false) c.move_rows.ensures.grows ready).1
