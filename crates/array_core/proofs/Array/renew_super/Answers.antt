use Rattle.std.proofs.Common.{Ok, subst}
use Rattle.rack.specs.Sequences.{WritesDurably}
use Rattle.array_image.specs.Places.{super_sector}
use Rattle.array_core.proofs.Renewing.{super_none, super_written, super_refused}
use Rattle.array_core.proofs.Array.renew_super.Goals as goal

pub returns-then-is_missing-clause-writes : goal.returns-then-is_missing-clause-writes
returns-then-is_missing-clause-writes g c =
    super_none c.args.self.now (g.R.Rack.seen c.args.rack.now) c.args.position c.requires.slices.fit (c.is_missing.ensures.missing c.if-is_missing.true)

pub returns-in-Ok-clause-writes : goal.returns-in-Ok-clause-writes
returns-in-Ok-clause-writes g c =
    let a = g.R.Rack.seen c.args.rack.now in
    let b = g.R.Rack.seen c.write_durably.new.rack in
    super_written c.args.self.now a b c.args.position c.own_sector-sector.result c.requires.position (c.is_missing.ensures.there c.if-is_missing.false) c.own_sector-sector.ensures
    (subst (λ d. WritesDurably a b d super_sector c.own_sector-sector.result {X = Unit {0}} (Ok tt)) c.slice-slice.ensures c.in-Ok.ensures.writes)

pub returns-in-Err-clause-writes : goal.returns-in-Err-clause-writes
returns-in-Err-clause-writes g c =
    super_refused c.args.self.now c.note.new.self (g.R.Rack.seen c.args.rack.now) (g.R.Rack.seen c.write_durably.new.rack) c.args.position c.place_on-place.result c.slice-slice.result
    c.own_sector-sector.result c.in-Err.field-0 c.rules.ensures.few c.requires.position (c.is_missing.ensures.there c.if-is_missing.false) c.place_on-place.ensures.place c.slice-slice.ensures
    c.own_sector-sector.ensures c.note.ensures.same c.note.ensures.loses c.in-Err.ensures.writes
