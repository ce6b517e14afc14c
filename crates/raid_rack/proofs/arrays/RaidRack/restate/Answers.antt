use Rattle.slice_rack.specs.SliceRack.{tables, below_of}
use Rattle.raid_laws.specs.Laws.{stops_inside}
use Rattle.raid_rack.specs.RaidRack.{raid_by, written_in}
use Rattle.raid_rack.proofs.Truths.{makes_keeps}
use Rattle.raid_rack.proofs.Serving.{moves_keep, runs_moves}
use Rattle.raid_rack.proofs.arrays.RaidRack.restate.Goals as goal

pub returns-clause-keeps : goal.returns-clause-keeps
returns-clause-keeps g c =
    moves_keep c.args.self.now.arrays c.restate.new.self _ _ c.requires.fit
    (record { running = c.restate.ensures.running; heeded = c.restate.ensures.mends.heeded })
    (stops_inside (tables c.restate.new.rack) (g.R.Rack.seen (below_of c.restate.new.rack))) c.restate.ensures.mends.moves

pub returns-clause-book : goal.returns-clause-book
returns-clause-book g c =
    runs_moves (written_in c.args.self.now) c.args.self.now.arrays c.restate.new.self _ _ c.requires.fit
    (record { running = c.restate.ensures.running; heeded = c.restate.ensures.mends.heeded })
    (stops_inside (tables c.restate.new.rack) (g.R.Rack.seen (below_of c.restate.new.rack))) c.restate.ensures.mends.moves
    (makes_keeps (raid_by c.args.self.now.arrays) (raid_by c.restate.new.self) _ _ c.restate.ensures.truths)
