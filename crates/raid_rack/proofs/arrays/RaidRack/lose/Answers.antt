use Rattle.slice_rack.specs.SliceRack.{tables, below_of}
use Rattle.raid_laws.specs.Laws.{stops_inside}
use Rattle.raid_rack.proofs.Serving.{lose_moments, lose_stays}
use Rattle.raid_rack.proofs.arrays.RaidRack.lose.Goals as goal

pub returns-clause-keeps : goal.returns-clause-keeps
returns-clause-keeps g c =
    lose_stays c.args.self.now.arrays c.lose_place.new.self c.args.place _ _ c.requires.fit
    (record { running = c.lose_place.ensures.running; heeded = c.lose_place.ensures.mends.heeded })
    (stops_inside (tables c.lose_place.new.rack) (g.R.Rack.seen (below_of c.lose_place.new.rack))) c.requires.place c.lose_place.ensures.mends

pub returns-clause-moments : goal.returns-clause-moments
returns-clause-moments g c =
    lose_moments c.args.self.now.arrays c.lose_place.new.self c.args.place _ _ c.requires.fit
    (record { running = c.lose_place.ensures.running; heeded = c.lose_place.ensures.mends.heeded })
    (stops_inside (tables c.lose_place.new.rack) (g.R.Rack.seen (below_of c.lose_place.new.rack))) c.requires.place c.lose_place.ensures.mends
