use Rattle.std.proofs.Common.{◌≡◌, ◌<◌, true, None, sym, ◌∙◌, arith}
use Rattle.rack.specs.Targets.{look, target}
use Rattle.array_image.specs.Record.{is_target}
use Rattle.log_tests.proofs.Adding.{none_first, one_more}
use Rattle.log_tests.proofs.disks.takes.Goals as goal

pub returns-in-None-clause-ready : goal.returns-in-None-clause-ready
returns-in-None-clause-ready g c is v =
    let xs = c.args.log.now.added in
    let t = target c.args.at.disk c.args.at.sector v in
    let a = g.R.Rack.seen c.args.bay.now in
    let valid : is_target t ≡ true = sym c.is_valid.ensures ∙ c.if-not-is_valid.false in
    let none : look xs t.disk t.sector ≡ None = none_first _ _ c.in-None.ensures in
    let disk : t.disk < a.disks = omega (arith, c.if-at-disks.false, c.disks.ensures) in
    let sector : t.sector < a.sectors t.disk = omega (arith, c.if-at-sectors.false, c.sectors.ensures.number) in
    one_more xs t a c.requires.ready valid none (disk, sector)
