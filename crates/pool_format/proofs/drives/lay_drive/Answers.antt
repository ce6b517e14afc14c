use Rattle.std.proofs.Common.{Ok, Err, inr, refl, arith}
use Rattle.rack.specs.Joins.{stays_then}
use Rattle.pool_format.specs.Drives.{LeavesLaid}
use Rattle.pool_format.specs.Parts.{new_table}
use Rattle.pool_format.specs.Writing.{InDatas, InLaying}
use Rattle.pool_format.proofs.Laying.{data_slice, lays_after, lays_sync, lays_table, lays_weaker, table_apart}
use Rattle.pool_format.proofs.Leaving.{data_later, laid_still, on_any, sync_only, table_still, table_written}
use Rattle.pool_format.proofs.drives.lay_drive.Goals as goal

pub returns-in-Err-clause-lays : goal.returns-in-Err-clause-lays
returns-in-Err-clause-lays g c =
    let inside = c.requires.room.disks in
    let a = g.R.Rack.seen c.args.rack.now in
    lays_table c.args.plan.now a (g.R.Rack.seen c.write_table.new.rack) c.args.place (new_table c.args.plan.now c.args.birth.now c.args.place (a.sectors c.args.place)) (Err c.in-Err.gone)
    (omega (arith, inside, c.requires.place)) refl c.in-Err.ensures.writes

pub returns-in-Err-write_members-clause-lays : goal.returns-in-Err-write_members-clause-lays
returns-in-Err-write_members-clause-lays g c =
    let inside = c.requires.room.disks in
    let plan = c.args.plan.now in
    let place = c.args.place in
    let a = g.R.Rack.seen c.args.rack.now in
    let m = g.R.Rack.seen c.write_table.new.rack in
    let n = g.R.Rack.seen c.write_members.new.rack in
    let may = InLaying plan a.sectors place in
    lays_after may a m n (Err c.in-Err-write_members.gone)
    (lays_table plan a m place (new_table plan c.args.birth.now place (a.sectors place)) c.write_table.result
    (omega (arith, inside, c.requires.place)) refl c.write_table.ensures.writes).only
    (lays_weaker (InDatas plan place) may m n (Err c.in-Err-write_members.gone) (λ d s v at. (at.0, inr (at.1, at.2))) c.in-Err-write_members.ensures.lays)

pub returns-clause-lays : goal.returns-clause-lays
returns-clause-lays g c =
    let plan = c.args.plan.now in
    let place = c.args.place in
    let a = g.R.Rack.seen c.args.rack.now in
    let m = g.R.Rack.seen c.write_table.new.rack in
    let n = g.R.Rack.seen c.write_members.new.rack in
    let b = g.R.Rack.seen c.sync.new.self in
    let inside = c.requires.room.disks in
    let may = InLaying plan a.sectors place in
    let table = (lays_table plan a m place (new_table plan c.args.birth.now place (a.sectors place)) c.write_table.result
    (omega (arith, inside, c.requires.place)) refl c.write_table.ensures.writes).only in
    let datum = (lays_after may a m n c.write_members.result table
    (lays_weaker (InDatas plan place) may m n c.write_members.result (λ d s v at. (at.0, inr (at.1, at.2))) c.write_members.ensures.lays)).only in
    lays_after may a n b c.sync.result datum
    (lays_sync may n b place c.sync.result (let same = datum.stays.disks in omega (arith, inside, same, c.requires.place)) c.sync.ensures.syncs)

pub returns-clause-laid : goal.returns-clause-laid
returns-clause-laid g c =
    let plan = c.args.plan.now in
    let birth = c.args.birth.now in
    let place = c.args.place in
    let a = g.R.Rack.seen c.args.rack.now in
    let m = g.R.Rack.seen c.write_table.new.rack in
    let n = g.R.Rack.seen c.write_members.new.rack in
    let datum = c.write_members.ensures.lays.only in
    let early = c.write_table.ensures.writes.follows.stays in
    let laid : LeavesLaid plan birth place a n = record {
      table =
          table_still plan birth place (InDatas plan place) early datum
          (λ s v of at. table_apart plan a c.requires.plan c.requires.room place s of (data_slice plan c.requires.plan place at.1 s at.2))
          (table_written plan birth place a m (Ok tt) c.in_default.ensures.writes);
      members = λ k. data_later plan birth place k early (c.in_default-write_members.ensures.stand k);
    } in
    on_any c.sync.result (laid_still plan birth place (λ d s v. ⊥) (stays_then early datum.stays) (sync_only c.sync.ensures.syncs) (λ s v of none. none) laid)

pub returns-clause-runs : goal.returns-clause-runs
returns-clause-runs g c = g.met.R.Rack.runs_then _ _ _ (g.met.R.Rack.runs_then _ _ _ c.write_table.ensures.runs c.write_members.ensures.runs) c.sync.ensures.runs
