use Rattle.slice_rack.specs.SliceRack.{tables, below_of}
use Rattle.raid_laws.specs.Laws.{stops_inside}
use Rattle.slice_rack.specs.Sliced.{slices_of}
use Rattle.raid_rack.specs.RaidRack.{IsFit, written_in}
use Rattle.raid_rack.proofs.CleanImages.{clean_images}
use Rattle.raid_rack.proofs.Serving.{moves_keep, runs_moves}
use Rattle.raid_rack.proofs.arrays.RaidRack.clean.Goals as goal

pub returns-clause-keeps : goal.returns-clause-keeps
returns-clause-keeps g c =
    moves_keep c.args.self.now.arrays c.clean_all.new.self _ _ c.requires.fit
    (record { running = c.clean_all.ensures.running; heeded = c.clean_all.ensures.cleans.heeded })
    (stops_inside (tables c.clean_all.new.rack) (g.R.Rack.seen (below_of c.clean_all.new.rack))) c.clean_all.ensures.cleans.moves

pub returns-clause-book : goal.returns-clause-book
returns-clause-book g c =
    runs_moves (written_in c.args.self.now) c.args.self.now.arrays c.clean_all.new.self _ _ c.requires.fit
    (record { running = c.clean_all.ensures.running; heeded = c.clean_all.ensures.cleans.heeded })
    (stops_inside (tables c.clean_all.new.rack) (g.R.Rack.seen (below_of c.clean_all.new.rack))) c.clean_all.ensures.cleans.moves c.clean_all.ensures.truths

pub returns-clause-images : goal.returns-clause-images
returns-clause-images g c =
    let after : IsFit c.clean_all.new.self (slices_of (tables c.clean_all.new.rack) (g.R.Rack.seen (below_of c.clean_all.new.rack))) =
    record { running = c.clean_all.ensures.running; heeded = c.clean_all.ensures.cleans.heeded } in
    clean_images (written_in c.args.self.now) (written_in c.args.self.now) c.args.self.now.arrays c.clean_all.new.self _ _ c.requires.fit after c.clean_all.ensures.cleans
    (runs_moves (written_in c.args.self.now) c.args.self.now.arrays c.clean_all.new.self _ _ c.requires.fit after
    (stops_inside (tables c.clean_all.new.rack) (g.R.Rack.seen (below_of c.clean_all.new.rack))) c.clean_all.ensures.cleans.moves c.clean_all.ensures.truths)
