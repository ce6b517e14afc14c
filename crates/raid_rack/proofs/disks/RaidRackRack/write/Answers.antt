use Rattle.std.proofs.Common.{◌<◌, ap, sym, subst, ◌∙◌}
use Rattle.rack.specs.Calls.{Writes}
use Rattle.slice_rack.specs.SliceRack.{tables, below_of}
use Rattle.slice_rack.specs.Sliced.{slices_of}
use Rattle.raid_laws.specs.Moves.{written_at}
use Rattle.raid_laws.specs.Runs.{RaidRuns}
use Rattle.raid_rack.specs.RaidRack.{IsFit, SliceRuns, raid_by, raid_in, raid_seen, refused_in, slices_in, slices_seen, is_written, written_in}
use Rattle.raid_rack.specs.AllRuns.{IsOneCall, Serves, Spares}
use Rattle.raid_laws.specs.Laws.{stops_inside}
use Rattle.raid_rack.proofs.Serving.{flags_kept, write_call, runs_call, served_call}
use Rattle.raid_rack.proofs.disks.RaidRackRack.write.Goals as goal

pub answer-requires-clause-sector : goal.answer-requires-clause-sector
answer-requires-clause-sector g c =
    subst (λ k. c.args.sector < k) (sym (c.write_array.ensures.writes.brings.sectors c.args.disk)) c.requires.sector

pub returns-clause-writes : goal.returns-clause-writes
returns-clause-writes g c =
    subst (λ r. Writes (raid_seen g.R.Rack.seen c.args.self.now) (raid_seen g.R.Rack.seen r) c.args.disk c.args.sector c.args.from.now c.answer.result)
    (sym c.answer.ensures.same)
    (write_call c.args.self.now.arrays c.write_array.new.self _ _ c.args.disk c.args.sector c.args.from.now c.answer.result c.requires.fit
    (record { running = c.write_array.ensures.running; heeded = c.write_array.ensures.writes.heeded })
    (stops_inside (tables c.write_array.new.rack) (g.R.Rack.seen (below_of c.write_array.new.rack)))
    c.write_array.ensures.writes c.answer.ensures.served c.answer.ensures.refused c.answer.ensures.more)

pub returns-clause-runs : goal.returns-clause-runs
returns-clause-runs g c =
    let v = raid_in c.args.self.now in
    let w = raid_by c.write_array.new.self in
    let flags = is_written c.note_written.new.written in
    let fit : IsFit c.write_array.new.self (slices_of (tables c.write_array.new.rack) (g.R.Rack.seen (below_of c.write_array.new.rack))) = record { running = c.write_array.ensures.running; heeded = c.write_array.ensures.writes.heeded } in
    let inside = stops_inside (tables c.write_array.new.rack) (g.R.Rack.seen (below_of c.write_array.new.rack)) in
    let writes = write_call c.args.self.now.arrays c.write_array.new.self _ _ c.args.disk c.args.sector c.args.from.now c.answer.result c.requires.fit
    fit inside c.write_array.ensures.writes c.answer.ensures.served c.answer.ensures.refused c.answer.ensures.more in
    subst (λ r. SliceRuns g.R.Rack.seen g.R.Rack.runs (slices_in c.args.self.now) (slices_in r)
    × RaidRuns (written_in c.args.self.now) (written_in r) v (raid_in r) (slices_seen g.R.Rack.seen c.args.self.now) (slices_seen g.R.Rack.seen r)
    × Serves v (raid_in r) (refused_in c.args.self.now) (refused_in c.answer.new.self)
    × Spares (written_in r) (slices_seen g.R.Rack.seen c.args.self.now) (slices_seen g.R.Rack.seen r)) (sym c.answer.ensures.same) (
      c.write_array.ensures.runs,
      runs_call (written_in c.args.self.now) flags c.args.self.now.arrays c.write_array.new.self _ _ (written_at c.args.disk c.args.sector c.args.from.now)
          (flags_kept (written_in c.args.self.now) flags c.args.disk c.args.sector c.args.from.now c.note_written.ensures.noted c.note_written.ensures.others) c.requires.fit
          fit inside c.write_array.ensures.writes.brings c.write_array.ensures.writes.caused c.write_array.ensures.truths,
      served_call v w (refused_in c.args.self.now) (refused_in c.answer.new.self) c.args.disk c.args.sector c.requires.sector
          writes.stays.sectors writes.stays.spent c.write_array.ensures.writes.arrays c.write_array.ensures.writes.plan c.answer.ensures.uncounted,
      c.write_array.ensures.spares flags c.note_written.ensures.noted,
    )

pub returns-clause-written : goal.returns-clause-written
returns-clause-written g c n apart = ap (λ r. written_in r n) c.answer.ensures.same ∙ c.note_written.ensures.others n apart

pub returns-clause-once : goal.returns-clause-once
returns-clause-once g c =
    subst (λ r. IsOneCall (raid_in c.args.self.now) (raid_in r)) (sym c.answer.ensures.same)
    (record { raises = c.write_array.ensures.raises; made = c.write_array.ensures.writes.brings.book.same.made; arrays = c.write_array.ensures.writes.arrays; plan = c.write_array.ensures.writes.plan })
