use Rattle.std.specs.Prelude.{Ok, Err}
use Rattle.std.proofs.Common.{sym, subst}
use Rattle.raid_rack.specs.RaidRack.{slices_in}
use Rattle.pool.specs.Adding.{AddsBy, AddsDrive}
use Rattle.pool.specs.Taking.{AttachesDisk}
use Rattle.pool.specs.View.{arrays_of, bay_in, view}
use Rattle.pool.proofs.AddedDrives.{added_by, added_unattached}
use Rattle.pool.proofs.Pool.add.Goals as goal

pub returns-in-Err-clause-adds : goal.returns-in-Err-clause-adds
returns-in-Err-clause-adds g c =
    let seen = g.R.Rack.seen in
    let shelf = g.R.Bay.shelf in
    let p = c.args.self.now in
    let q = c.disk_of.new.self in
    let x = view seen shelf p in
    let fault = c.in-Err.fault in
    let at = subst (λ r. AttachesDisk x (view seen shelf r) c.args.name.now (Err fault)) c.disk_of.ensures.rest c.in-Err.ensures.attaches in
    subst (λ r. AddsDrive x (view seen shelf r) c.args.name.now (Err fault)) (sym c.disk_of.ensures.rest)
    (added_unattached x (bay_in q) c.args.name.now c.requires (slices_in (arrays_of p)).orderly fault at)

pub returns-in-Ok-clause-adds : goal.returns-in-Ok-clause-adds
returns-in-Ok-clause-adds g c =
    let seen = g.R.Rack.seen in
    let shelf = g.R.Bay.shelf in
    let p = c.args.self.now in
    let q = c.disk_of.new.self in
    let x = view seen shelf p in
    let y = view seen shelf c.add_disk.new.self in
    let disk = c.in-Ok.disk in
    let at = subst (λ k. AttachesDisk x (view seen shelf k) c.args.name.now (Ok disk)) c.disk_of.ensures.rest c.in-Ok.ensures.attaches in
    let by = subst (λ k. AddsBy (view seen shelf k) y disk c.add_disk.result) c.disk_of.ensures.rest c.add_disk.ensures.adds in
    added_by x (bay_in q) c.args.name.now c.requires (slices_in (arrays_of p)).orderly disk at y c.add_disk.result by
