use Rattle.std.proofs.Common.{sym, ◌∙◌}
use Rattle.slice_rack.specs.SliceRack.{tables, below_of}
use Rattle.raid_laws.specs.Laws.{stops_inside}
use Rattle.raid_rack.specs.RaidRack.{raid_in, raid_seen, refused_in, slices_seen}
use Rattle.raid_rack.proofs.OldKept.{finished_old, old_same, zeros_same}
use Rattle.raid_rack.proofs.arrays.RaidRack.finish.Goals as goal

pub returns-then-not-may_finish-clause-old : goal.returns-then-not-may_finish-clause-old
returns-then-not-may_finish-clause-old g c ready = old_same c.args.self.now.arrays.state.joined (raid_seen g.R.Rack.seen c.args.self.now)

pub returns-then-not-may_finish-clause-zeros : goal.returns-then-not-may_finish-clause-zeros
returns-then-not-may_finish-clause-zeros g c ready = zeros_same c.args.self.now.arrays.state.joined (raid_in c.args.self.now) (slices_seen g.R.Rack.seen c.args.self.now)

pub returns-then-finish_array-clause-old : goal.returns-then-finish_array-clause-old
returns-then-finish_array-clause-old g c ready =
    (finished_old c.args.array c.args.self.now.arrays c.finish_array.new.self _ _ c.finish_array.result c.requires.fit
    (record { running = c.finish_array.ensures.running; heeded = c.finish_array.ensures.grows.heeded })
    (stops_inside (tables c.finish_array.new.rack) (g.R.Rack.seen (below_of c.finish_array.new.rack))) (sym c.may_finish.ensures ∙ c.if-not-may_finish.false) c.finish_array.ensures.contents ready).0

pub returns-then-finish_array-clause-zeros : goal.returns-then-finish_array-clause-zeros
returns-then-finish_array-clause-zeros g c ready =
    (finished_old {r = refused_in c.args.self.now} {q = refused_in c.args.self.now} c.args.array c.args.self.now.arrays c.finish_array.new.self _ _ c.finish_array.result c.requires.fit
    (record { running = c.finish_array.ensures.running; heeded = c.finish_array.ensures.grows.heeded })
    (stops_inside (tables c.finish_array.new.rack) (g.R.Rack.seen (below_of c.finish_array.new.rack))) (sym c.may_finish.ensures ∙ c.if-not-may_finish.false) c.finish_array.ensures.contents ready).1

pub returns-else-finish_array-clause-old : goal.returns-else-finish_array-clause-old
returns-else-finish_array-clause-old g c ready =
    (finished_old c.args.array c.args.self.now.arrays c.finish_array.new.self _ _ c.finish_array.result c.requires.fit
    (record { running = c.finish_array.ensures.running; heeded = c.finish_array.ensures.grows.heeded })
    (stops_inside (tables c.finish_array.new.rack) (g.R.Rack.seen (below_of c.finish_array.new.rack))) (sym c.may_finish.ensures ∙ c.if-not-may_finish.false) c.finish_array.ensures.contents ready).0

pub returns-else-finish_array-clause-zeros : goal.returns-else-finish_array-clause-zeros
returns-else-finish_array-clause-zeros g c ready =
    (finished_old {r = refused_in c.args.self.now} {q = refused_in c.args.self.now} c.args.array c.args.self.now.arrays c.finish_array.new.self _ _ c.finish_array.result c.requires.fit
    (record { running = c.finish_array.ensures.running; heeded = c.finish_array.ensures.grows.heeded })
    (stops_inside (tables c.finish_array.new.rack) (g.R.Rack.seen (below_of c.finish_array.new.rack))) (sym c.may_finish.ensures ∙ c.if-not-may_finish.false) c.finish_array.ensures.contents ready).1
