use Rattle.std.proofs.Common.{sym, subst, arith}
use Rattle.rack.specs.Calls.{Reads}
use Rattle.slice_rack.specs.SliceRack.{tables, below_of}
use Rattle.slice_rack.specs.Sliced.{slices_of}
use Rattle.raid_laws.specs.Runs.{RaidRuns}
use Rattle.growth_laws.specs.Reads.{LosesAlone}
use Rattle.raid_rack.specs.RaidRack.{IsFit, SliceRuns, raid_by, raid_in, raid_seen, refused_in, slices_in, slices_seen, written_in}
use Rattle.raid_rack.specs.AllRuns.{IsOneCall, Serves, Spares}
use Rattle.raid_laws.specs.Laws.{stops_inside}
use Rattle.raid_rack.proofs.Raises.{raises_more}
use Rattle.raid_rack.proofs.Serving.{read_call, runs_moves, served_call}
use Rattle.raid_rack.proofs.disks.RaidRackRack.read.Goals as goal

pub returns-clause-reads : goal.returns-clause-reads
returns-clause-reads g c =
    subst (λ r. Reads (raid_seen g.R.Rack.seen c.args.self.now) (raid_seen g.R.Rack.seen r) c.args.disk c.args.sector c.read_array.new.into c.answer.result)
    (sym c.answer.ensures.same)
    (read_call c.args.self.now.arrays c.read_array.new.self _ _ c.args.disk c.args.sector c.read_array.new.into c.answer.result c.requires.fit
    (record { running = c.read_array.ensures.running; heeded = c.read_array.ensures.reads.heeded })
    (stops_inside (tables c.read_array.new.rack) (g.R.Rack.seen (below_of c.read_array.new.rack))) c.read_array.ensures.reads c.answer.ensures.served c.answer.ensures.refused c.answer.ensures.more)

pub returns-clause-runs : goal.returns-clause-runs
returns-clause-runs g c =
    let v = raid_in c.args.self.now in
    let w = raid_by c.read_array.new.self in
    let fit : IsFit c.read_array.new.self (slices_of (tables c.read_array.new.rack) (g.R.Rack.seen (below_of c.read_array.new.rack))) = record { running = c.read_array.ensures.running; heeded = c.read_array.ensures.reads.heeded } in
    let inside = stops_inside (tables c.read_array.new.rack) (g.R.Rack.seen (below_of c.read_array.new.rack)) in
    let reads = read_call c.args.self.now.arrays c.read_array.new.self _ _ c.args.disk c.args.sector c.read_array.new.into c.answer.result c.requires.fit
    fit inside c.read_array.ensures.reads c.answer.ensures.served c.answer.ensures.refused c.answer.ensures.more in
    subst (λ r. SliceRuns g.R.Rack.seen g.R.Rack.runs (slices_in c.args.self.now) (slices_in r)
    × RaidRuns (written_in c.args.self.now) (written_in r) v (raid_in r) (slices_seen g.R.Rack.seen c.args.self.now) (slices_seen g.R.Rack.seen r)
    × Serves v (raid_in r) (refused_in c.args.self.now) (refused_in c.answer.new.self)
    × Spares (written_in r) (slices_seen g.R.Rack.seen c.args.self.now) (slices_seen g.R.Rack.seen r)) (sym c.answer.ensures.same) (
      c.read_array.ensures.runs,
      runs_moves (written_in c.args.self.now) c.args.self.now.arrays c.read_array.new.self _ _ c.requires.fit fit inside c.read_array.ensures.reads.moves c.read_array.ensures.truths,
      served_call v w (refused_in c.args.self.now) (refused_in c.answer.new.self) c.args.disk c.args.sector c.requires.sector
          reads.stays.sectors reads.stays.spent c.read_array.ensures.reads.moves.arrays c.read_array.ensures.reads.moves.plan c.answer.ensures.uncounted,
      c.read_array.ensures.spares (written_in c.args.self.now),
    )

pub returns-clause-once : goal.returns-clause-once
returns-clause-once g c =
    subst (λ r. IsOneCall (raid_in c.args.self.now) (raid_in r)) (sym c.answer.ensures.same)
    (record { raises = raises_more 17 18 _ _ (omega arith) c.read_array.ensures.raises; made = c.read_array.ensures.reads.moves.book.same.made; arrays = c.read_array.ensures.reads.moves.arrays; plan = c.read_array.ensures.reads.moves.plan })

pub returns-clause-contents : goal.returns-clause-contents
returns-clause-contents g c =
    subst (λ r. LosesAlone (raid_in c.args.self.now) (raid_in r) (slices_seen g.R.Rack.seen c.args.self.now) (slices_seen g.R.Rack.seen r)) (sym c.answer.ensures.same)
    c.read_array.ensures.contents
