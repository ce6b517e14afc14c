use Rattle.std.proofs.Common.{◌<◌, Err, length, arith}
use Rattle.rack.specs.Joins.{leaves_then, live_second, stays_same, stays_then}
use Rattle.rack.proofs.Writing.{only_then, only_weaker}
use Rattle.gpt_table.specs.Disk.{now_on}
use Rattle.pool_format.specs.Stops.{IsStop}
use Rattle.pool_format.specs.Writing.{InCleared, InFilling, InStates, IsPart}
use Rattle.pool_format.proofs.Building.{drive_new, parts_first}
use Rattle.pool_format.proofs.Laying.{lays_after, lays_weaker, room_then}
use Rattle.pool_format.proofs.Leaving.{cleared_part, filled_part, on_made, stated_part}
use Rattle.pool_format.proofs.Stopping.{stops_clearing, stops_filling, stops_made}
use Rattle.pool_format.proofs.formatting.write_pool.Goals as goal

pub fill_drives-requires-clause-lasting : goal.fill_drives-requires-clause-lasting
fill_drives-requires-clause-lasting g c = c.clear_states.ensures.lays.only.stays.lasting c.requires.lasting

pub fill_drives-requires-clause-room : goal.fill_drives-requires-clause-room
fill_drives-requires-clause-room g c = room_then c.args.plan.now (g.R.Rack.seen c.args.rack.now) (g.R.Rack.seen c.clear_states.new.rack) c.clear_states.ensures.lays.only.stays c.requires.room

pub write_states-requires-clause-room : goal.write_states-requires-clause-room
write_states-requires-clause-room g c =
    room_then c.args.plan.now (g.R.Rack.seen c.args.rack.now) (g.R.Rack.seen c.fill_drives.new.rack)
    (stays_then c.clear_states.ensures.lays.only.stays c.fill_drives.ensures.lays.only.stays) c.requires.room

-- ---- what is written

pub returns-in-Err-clause-lays : goal.returns-in-Err-clause-lays
returns-in-Err-clause-lays g c =
    let plan = c.args.plan.now in
    let a = g.R.Rack.seen c.args.rack.now in
    lays_weaker (InCleared plan) (IsPart plan a.sectors) a (g.R.Rack.seen c.clear_states.new.rack) (Err c.in-Err.gone) (cleared_part plan c.requires.plan a) c.in-Err.ensures.lays

pub returns-in-Err-fill_drives-clause-lays : goal.returns-in-Err-fill_drives-clause-lays
returns-in-Err-fill_drives-clause-lays g c =
    let plan = c.args.plan.now in
    let a = g.R.Rack.seen c.args.rack.now in
    let m = g.R.Rack.seen c.clear_states.new.rack in
    let n = g.R.Rack.seen c.fill_drives.new.rack in
    let begun = c.clear_states.ensures.lays.only in
    lays_after (IsPart plan a.sectors) a m n (Err c.in-Err-fill_drives.gone) (only_weaker (InCleared plan) (IsPart plan a.sectors) (cleared_part plan c.requires.plan a) begun)
    (lays_weaker (InFilling plan m.sectors) (IsPart plan a.sectors) m n (Err c.in-Err-fill_drives.gone) (filled_part plan c.requires.plan a m begun.stays) c.in-Err-fill_drives.ensures.lays)

pub returns-clause-lays : goal.returns-clause-lays
returns-clause-lays g c =
    let plan = c.args.plan.now in
    let a = g.R.Rack.seen c.args.rack.now in
    let m = g.R.Rack.seen c.clear_states.new.rack in
    let n = g.R.Rack.seen c.fill_drives.new.rack in
    let b = g.R.Rack.seen c.write_states.new.rack in
    let begun = c.clear_states.ensures.lays.only in
    lays_after (IsPart plan a.sectors) a n b c.write_states.result
    (only_then (IsPart plan a.sectors) (only_weaker (InCleared plan) (IsPart plan a.sectors) (cleared_part plan c.requires.plan a) begun)
    (only_weaker (InFilling plan m.sectors) (IsPart plan a.sectors) (filled_part plan c.requires.plan a m begun.stays) c.fill_drives.ensures.lays.only))
    (lays_weaker (InStates plan) (IsPart plan a.sectors) n b c.write_states.result (stated_part plan c.requires.plan a) c.write_states.ensures.lays)

-- ---- what stops leave

pub returns-in-Err-clause-stops : goal.returns-in-Err-clause-stops
returns-in-Err-clause-stops g c =
    let m = g.R.Rack.seen c.clear_states.new.rack in
    let begun = c.clear_states.ensures.lays.only in
    stops_clearing c.args.plan.now c.args.birth.now (g.R.Rack.seen c.args.rack.now) m m begun (stays_same m begun.stays.fit)

pub returns-in-Err-fill_drives-clause-stops : goal.returns-in-Err-fill_drives-clause-stops
returns-in-Err-fill_drives-clause-stops g c = λ traced.
    let plan = c.args.plan.now in
    let birth = c.args.birth.now in
    let a = g.R.Rack.seen c.args.rack.now in
    let m = g.R.Rack.seen c.clear_states.new.rack in
    let n = g.R.Rack.seen c.fill_drives.new.rack in
    let begun = c.clear_states.ensures.lays.only in
    let filled = c.fill_drives.ensures.lays.only in
    leaves_then (IsStop plan birth a n) (stops_clearing plan birth a n m begun filled.stays traced)
    (stops_filling plan birth a n c.requires.plan c.requires.room m begun c.in_default.ensures.cleared n filled (stays_same n filled.stays.fit) traced)

pub returns-clause-stops : goal.returns-clause-stops
returns-clause-stops g c =
    let a = g.R.Rack.seen c.args.rack.now in
    let m = g.R.Rack.seen c.clear_states.new.rack in
    let begun = c.clear_states.ensures.lays.only in
    stops_made c.args.plan.now c.args.birth.now a (g.R.Rack.seen c.write_states.new.rack) c.requires.plan c.requires.room m begun c.in_default.ensures.cleared
    (g.R.Rack.seen c.fill_drives.new.rack) c.fill_drives.ensures.lays.only c.requires.lasting c.in_default-fill_drives.ensures.parts c.in_default-fill_drives.ensures.single
    c.write_states.ensures.lays.only c.write_states.ensures.copies c.requires.read

-- ---- what stands in the end

pub returns-clause-single : goal.returns-clause-single
returns-clause-single g c =
    let disks = c.requires.room.disks in
    let early = stays_then c.clear_states.ensures.lays.only.stays c.fill_drives.ensures.lays.only.stays in
    let late = c.write_states.ensures.lays.only.stays in
    let same = (stays_then early late).disks in
    on_made c.write_states.result
    (λ states d s live. (states d (let inside = live.disk in omega (arith, disks, same, inside))).single s (live_second early live)) c.write_states.ensures.states

pub returns-clause-drives : goal.returns-clause-drives
returns-clause-drives g c =
    let plan = c.args.plan.now in
    let birth = c.args.birth.now in
    let a = g.R.Rack.seen c.args.rack.now in
    let begun = c.clear_states.ensures.lays.only in
    let early = stays_then begun.stays c.fill_drives.ensures.lays.only.stays in
    on_made c.write_states.result
    (λ states d whole.
    let low : d < length plan.units.items = let disks = c.requires.room.disks in let inside = whole.disk in omega (arith, disks, inside) in
    drive_new plan birth a (g.R.Rack.seen c.fill_drives.new.rack) (g.R.Rack.seen c.write_states.new.rack) c.requires.plan c.requires.room c.requires.lasting early c.write_states.ensures.lays.only d whole
    (parts_first plan birth a (g.R.Rack.seen c.clear_states.new.rack) begun.stays c.requires.lasting d whole (now_on (g.R.Rack.seen c.fill_drives.new.rack) d) (c.in_default-fill_drives.ensures.parts d))
    (states d low)) c.write_states.ensures.states
