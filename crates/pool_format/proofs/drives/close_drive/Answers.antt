use Rattle.std.proofs.Common.{Err, inl, inr, refl, ◌∙◌, arith}
use Rattle.rack.specs.Joins.{live_first, live_second, stays_then}
use Rattle.pool_format.specs.Drives.{LeavesClosed}
use Rattle.pool_format.specs.Writing.{InClosing, InSupers}
use Rattle.pool_format.proofs.Laying.{lays_after, lays_sync, lays_weaker, lays_write}
use Rattle.pool_format.proofs.Leaving.{closed_still, on_any, single_synced, stands, super_behind, super_later, sync_only, written}
use Rattle.pool_format.proofs.drives.close_drive.Goals as goal

pub returns-in-Err-clause-lays : goal.returns-in-Err-clause-lays
returns-in-Err-clause-lays g c =
    let inside = c.requires.room.disks in
    lays_write (InClosing c.args.plan.now c.args.place) (g.R.Rack.seen c.args.rack.now) (g.R.Rack.seen c.write.new.self) c.args.place 2049 c.first_gate.result (Err c.in-Err.gone)
    (omega (arith, inside, c.requires.place)) (refl, c.requires.place, inl refl) c.in-Err.ensures.writes

pub returns-in-Err-write_supers-clause-lays : goal.returns-in-Err-write_supers-clause-lays
returns-in-Err-write_supers-clause-lays g c =
    let inside = c.requires.room.disks in
    let plan = c.args.plan.now in
    let place = c.args.place in
    let may = InClosing plan place in
    let a = g.R.Rack.seen c.args.rack.now in
    let m = g.R.Rack.seen c.write.new.self in
    let n = g.R.Rack.seen c.write_supers.new.rack in
    lays_after may a m n (Err c.in-Err-write_supers.gone)
    (lays_write may a m place 2049 c.first_gate.result c.write.result
    (omega (arith, inside, c.requires.place)) (refl, c.requires.place, inl refl) c.write.ensures.writes).only
    (lays_weaker (InSupers plan place) may m n (Err c.in-Err-write_supers.gone) (λ d s v at. (at.0, c.requires.place, inr (at.1, at.2))) c.in-Err-write_supers.ensures.lays)

pub returns-clause-lays : goal.returns-clause-lays
returns-clause-lays g c =
    let inside = c.requires.room.disks in
    let plan = c.args.plan.now in
    let place = c.args.place in
    let may = InClosing plan place in
    let a = g.R.Rack.seen c.args.rack.now in
    let m = g.R.Rack.seen c.write.new.self in
    let n = g.R.Rack.seen c.write_supers.new.rack in
    let b = g.R.Rack.seen c.sync.new.self in
    let gate = (lays_write may a m place 2049 c.first_gate.result c.write.result
    (omega (arith, inside, c.requires.place)) (refl, c.requires.place, inl refl) c.write.ensures.writes).only in
    let supers = (lays_after may a m n c.write_supers.result gate
    (lays_weaker (InSupers plan place) may m n c.write_supers.result (λ d s v at. (at.0, c.requires.place, inr (at.1, at.2))) c.write_supers.ensures.lays)).only in
    lays_after may a n b c.sync.result supers
    (lays_sync may n b place c.sync.result (let same = supers.stays.disks in omega (arith, inside, same, c.requires.place)) c.sync.ensures.syncs)

pub returns-clause-closed : goal.returns-clause-closed
returns-clause-closed g c =
    let plan = c.args.plan.now in
    let birth = c.args.birth.now in
    let place = c.args.place in
    let a = g.R.Rack.seen c.args.rack.now in
    let n = g.R.Rack.seen c.write_supers.new.rack in
    let early = c.write.ensures.writes.stays in
    let only = c.write_supers.ensures.lays.only in
    let closed : LeavesClosed plan birth place a n = record {
      gate = λ live.
          stands (InSupers plan place) place 2049 only (live_second early live) (λ v at. let behind = super_behind plan c.requires.plan place at.1 2049 at.2 in omega (arith, behind))
          ∙ written place 2049 c.first_gate.result c.in_default.ensures.writes (live_first only.stays live) ∙ c.first_gate.ensures;
      supers = λ k. super_later plan birth place k early (c.in_default-write_supers.ensures.stand k);
    } in
    on_any c.sync.result
    (closed_still plan birth place (λ d s v. ⊥) (stays_then early only.stays) (sync_only c.sync.ensures.syncs) (λ s v at none. none) closed)

pub returns-clause-single : goal.returns-clause-single
returns-clause-single g c =
    single_synced c.args.place (g.R.Rack.seen c.args.rack.now) (g.R.Rack.seen c.write_supers.new.rack) (g.R.Rack.seen c.sync.new.self) c.sync.result
    (stays_then c.write.ensures.writes.stays c.write_supers.ensures.lays.only.stays) c.sync.ensures.syncs
