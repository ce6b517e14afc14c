use Rattle.std.proofs.Common.{◌<◌, ◌≤◌, ◌+◌, length, sym, subst}
use Rattle.std.proofs.lemmas.Bool.{and_parts}
use Rattle.raid_laws.specs.NewDrive.{first_in, length_in}
use Rattle.growth_laws.specs.NewDrives as spec
use Rattle.growth_laws.proofs.Reached.{declined_early, laid_reached, reaches_fits}
use Rattle.raid_rack.proofs.adding.lay_reached.Goals as goal

pub returns-in-Err-clause-lays : goal.returns-in-Err-clause-lays
returns-in-Err-clause-lays g c =
    let a = g.R.Rack.seen c.args.rack.now in
    declined_early c.args.disk c.args.arrays.now (spec.may_join c.args.extent c.args.arrays.now c.args.place c.args.units (a.sectors c.args.disk)) c.args.table.now
    a (g.R.Rack.seen c.clear_supers.new.rack) c.in-Err.gone c.in-Err.ensures.clears

pub returns-clause-lays : goal.returns-clause-lays
returns-clause-lays g c =
    let a = g.R.Rack.seen c.args.rack.now in
    let disk = c.args.disk in
    let arrays = c.args.arrays.now in
    laid_reached disk arrays (spec.may_join c.args.extent arrays c.args.place c.args.units (a.sectors disk)) c.args.table.now a (g.R.Rack.seen c.clear_supers.new.rack) (g.R.Rack.seen c.lay_drive.new.rack)
    c.lay_drive.result
    (λ n is.
    subst (λ k. (n < length arrays) × (first_in arrays n + length_in arrays n + 33 ≤ k)) (sym c.requires.size)
    (reaches_fits c.args.extent arrays c.args.units (a.sectors disk) n (and_parts (spec.reaches c.args.extent arrays c.args.units (a.sectors disk) n) _ is).0))
    c.in_default.ensures.clears c.lay_drive.ensures.lays
