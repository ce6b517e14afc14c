use Rattle.std.proofs.Common.{◌<◌, length, inl, inr, arith}
use Rattle.rack.proofs.Writing.{only_weaker}
use Rattle.pool_format.specs.Writing.{InClosings, InFilling, InLayings}
use Rattle.pool_format.proofs.Building.{drive_filled}
use Rattle.pool_format.proofs.Laying.{lays_after, lays_weaker}
use Rattle.pool_format.proofs.Leaving.{on_all, on_made, single_later}
use Rattle.pool_format.proofs.formatting.fill_drives.Goals as goal

pub returns-in-Ok-clause-lays : goal.returns-in-Ok-clause-lays
returns-in-Ok-clause-lays g c =
    let plan = c.args.plan.now in
    let a = g.R.Rack.seen c.args.rack.now in
    let m = g.R.Rack.seen c.lay_drives.new.rack in
    let b = g.R.Rack.seen c.close_drives.new.rack in
    lays_after (InFilling plan a.sectors) a m b c.close_drives.result
    (only_weaker (InLayings plan a.sectors) (InFilling plan a.sectors) (λ d s v laying. inl laying) c.lay_drives.ensures.lays.only)
    (lays_weaker (InClosings plan) (InFilling plan a.sectors) m b c.close_drives.result (λ d s v closing. inr closing) c.close_drives.ensures.lays)

pub returns-in-Err-clause-lays : goal.returns-in-Err-clause-lays
returns-in-Err-clause-lays g c =
    let plan = c.args.plan.now in
    let a = g.R.Rack.seen c.args.rack.now in
    lays_weaker (InLayings plan a.sectors) (InFilling plan a.sectors) a (g.R.Rack.seen c.lay_drives.new.rack) _ (λ d s v laying. inl laying) c.in-Err.ensures.lays

pub returns-in-Ok-clause-parts : goal.returns-in-Ok-clause-parts
returns-in-Ok-clause-parts g c =
    on_made c.close_drives.result
    (λ closed d whole.
    let low : d < length c.args.plan.now.units.items = let disks = c.requires.room.disks in let inside = whole.disk in omega (arith, disks, inside) in
    drive_filled c.args.plan.now c.args.birth.now (g.R.Rack.seen c.args.rack.now) (g.R.Rack.seen c.lay_drives.new.rack) (g.R.Rack.seen c.close_drives.new.rack) c.requires.plan c.requires.room
    c.requires.lasting c.lay_drives.ensures.lays.only c.close_drives.ensures.lays.only d whole (c.in-Ok.ensures.laid d low) (closed d low)) c.close_drives.ensures.closed

pub returns-in-Ok-clause-single : goal.returns-in-Ok-clause-single
returns-in-Ok-clause-single g c =
    on_all (length c.args.plan.now.units.items) c.close_drives.result (λ d. single_later d c.lay_drives.ensures.lays.only.stays) c.close_drives.ensures.single
