use Rattle.std.proofs.Common.{sym, ap, ◌∙◌, Err}
use Rattle.gpt_table.specs.declared.TableFault.{TableFault}
use Rattle.pool_check.specs.Drives.{seats_by}
use Rattle.pool_check.proofs.Settled.{place_agreed, place_empty, place_kept, place_lost}
use Rattle.pool_check.proofs.settling.settle_place.Goals as goal

pub settle_table-requires-clause-disk : goal.settle_table-requires-clause-disk
settle_table-requires-clause-disk g c = c.requires.inside c.in-Some.disk (sym c.in-Some.ensures)

pub returns-then-agree-clause-settles : goal.returns-then-agree-clause-settles
returns-then-agree-clause-settles g c =
    place_agreed (g.R.Rack.seen c.args.rack.now) (seats_by c.args.seats.now) c.args.place c.args.agree c.requires.fit c.if-agree.true

pub returns-in_default-clause-settles : goal.returns-in_default-clause-settles
returns-in_default-clause-settles g c =
    place_empty (g.R.Rack.seen c.args.rack.now) (seats_by c.args.seats.now) c.args.place c.args.agree c.requires.fit (sym c.seat_at.ensures ∙ c.in_default.is)

pub returns-in-Ok-clause-settles : goal.returns-in-Ok-clause-settles
returns-in-Ok-clause-settles g c =
    place_kept (g.R.Rack.seen c.args.rack.now) (g.R.Rack.seen c.settle_table.new.rack) (seats_by c.args.seats.now) c.args.place c.in-Some.disk c.args.agree
    c.settle_table.result (sym c.in-Some.ensures) c.settle_table.ensures.settles c.settle_table.ensures.none (λ is. let other = sym is ∙ c.in-Ok.is in cc)

pub returns-in-Err-NoTable-clause-settles : goal.returns-in-Err-NoTable-clause-settles
returns-in-Err-NoTable-clause-settles g c =
    place_kept (g.R.Rack.seen c.args.rack.now) (g.R.Rack.seen c.settle_table.new.rack) (seats_by c.args.seats.now) c.args.place c.in-Some.disk c.args.agree
    c.settle_table.result (sym c.in-Some.ensures) c.settle_table.ensures.settles c.settle_table.ensures.none
    (λ is. let other = sym is ∙ c.in-Err-NoTable.is ∙ ap (λ (f : TableFault). Err f) c.in-Err-NoTable.field-0-is in cc)

pub returns-in-Err-Gone-clause-settles : goal.returns-in-Err-Gone-clause-settles
returns-in-Err-Gone-clause-settles g c =
    place_lost (g.R.Rack.seen c.args.rack.now) (g.R.Rack.seen c.settle_table.new.rack) (seats_by c.args.seats.now) (seats_by c.put_seat.new.seats) c.args.place
    c.in-Some.disk c.args.agree c.settle_table.result (sym c.in-Some.ensures) c.put_seat.ensures c.settle_table.ensures.settles
    (c.settle_table.ensures.gone (c.in-Err-Gone.is ∙ ap (λ (f : TableFault). Err f) c.in-Err-Gone.field-0-is))
