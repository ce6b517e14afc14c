use Rattle.std.proofs.Common.{refl, arith}
use Rattle.slice_rack.specs.SliceRack.{tables, below_of}
use Rattle.raid_rack.specs.RaidRack.{written_in}
use Rattle.raid_laws.specs.Laws.{stops_inside}
use Rattle.raid_rack.proofs.Raises.{raises_more}
use Rattle.raid_rack.proofs.Serving.{sync_call, runs_moves}
use Rattle.raid_rack.proofs.disks.RaidRackRack.sync.Goals as goal

pub returns-clause-syncs : goal.returns-clause-syncs
returns-clause-syncs g c =
    sync_call c.args.self.now.arrays c.sync_array.new.self _ _ c.args.disk c.requires.fit
    (record { running = c.sync_array.ensures.running; heeded = c.sync_array.ensures.syncs.heeded })
    (stops_inside (tables c.sync_array.new.rack) (g.R.Rack.seen (below_of c.sync_array.new.rack))) c.sync_array.ensures.syncs

pub returns-clause-runs : goal.returns-clause-runs
returns-clause-runs g c =
    let syncs = returns-clause-syncs g c in (
      c.sync_array.ensures.runs,
      runs_moves (written_in c.args.self.now) c.args.self.now.arrays c.sync_array.new.self _ _ c.requires.fit
          (record { running = c.sync_array.ensures.running; heeded = c.sync_array.ensures.syncs.heeded })
          (stops_inside (tables c.sync_array.new.rack) (g.R.Rack.seen (below_of c.sync_array.new.rack))) c.sync_array.ensures.syncs.moves c.sync_array.ensures.truths,
      record { sectors = syncs.stays.sectors; spent = syncs.stays.spent; arrays = c.sync_array.ensures.syncs.moves.arrays; plan = c.sync_array.ensures.syncs.moves.plan; refused = λ n alive. refl },
      c.sync_array.ensures.spares (written_in c.args.self.now),
    )

pub returns-clause-once : goal.returns-clause-once
returns-clause-once g c = record { raises = raises_more 17 18 _ _ (omega arith) c.sync_array.ensures.raises; made = c.sync_array.ensures.syncs.moves.book.same.made; arrays = c.sync_array.ensures.syncs.moves.arrays; plan = c.sync_array.ensures.syncs.moves.plan }
