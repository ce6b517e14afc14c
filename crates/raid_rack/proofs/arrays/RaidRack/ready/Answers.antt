use Rattle.slice_rack.specs.SliceRack.{tables, below_of}
use Rattle.raid_laws.specs.Laws.{stops_inside}
use Rattle.raid_rack.specs.RaidRack.{refused_in}
use Rattle.raid_rack.proofs.OldKept.{readied_old}
use Rattle.raid_rack.proofs.arrays.RaidRack.ready.Goals as goal

pub returns-clause-old : goal.returns-clause-old
returns-clause-old g c fits ready =
    (readied_old {r = refused_in c.args.self.now} {q = refused_in c.args.self.now} c.args.array c.args.self.now.arrays c.ready_array.new.self _ _ c.requires.fit
    (record { running = c.ready_array.ensures.running; heeded = c.ready_array.ensures.grows.heeded })
    (stops_inside (tables c.ready_array.new.rack) (g.R.Rack.seen (below_of c.ready_array.new.rack))) c.ready_array.ensures.grows (c.ready_array.ensures.contents fits) ready).0

pub returns-clause-zeros : goal.returns-clause-zeros
returns-clause-zeros g c fits ready =
    (readied_old {r = refused_in c.args.self.now} {q = refused_in c.args.self.now} c.args.array c.args.self.now.arrays c.ready_array.new.self _ _ c.requires.fit
    (record { running = c.ready_array.ensures.running; heeded = c.ready_array.ensures.grows.heeded })
    (stops_inside (tables c.ready_array.new.rack) (g.R.Rack.seen (below_of c.ready_array.new.rack))) c.ready_array.ensures.grows (c.ready_array.ensures.contents fits) ready).1
