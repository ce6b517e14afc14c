use Rattle.std.proofs.Common.{[], sym, refl, ◌∙◌}
use Rattle.std.proofs.lemmas.Option.{none-some}
use Rattle.pool_check.specs.Drives.{found_with, seats_by}
use Rattle.pool_check.proofs.Begins.{unseated_none}
use Rattle.pool_check.proofs.Founded.{empty_block}
use Rattle.pool_check.proofs.Supers.{super_seated}
use Rattle.pool_check.proofs.Outcomes.{if_ok, on_err}
use Rattle.pool_check.proofs.superblocks.read_place.Goals as goal

pub read_super-requires-clause-disk : goal.read_super-requires-clause-disk
read_super-requires-clause-disk g c = c.requires.seating.inside c.args.place c.in-Some.disk (sym c.in-Some.ensures)

pub returns-in-Some-clause-found : goal.returns-in-Some-clause-found
returns-in-Some-clause-found g c =
    let x = g.R.Rack.seen c.args.rack.now in
    let seats = seats_by c.args.seats.now in
    let seat = sym c.in-Some.ensures in
    let d = c.in-Some.disk in
    if_ok c.read_super.result
    (λ found says o are.
    says (are.told c.args.place d seat) (o.contents d) (are.contents c.args.place d seat)
    ∙ super_seated x c.args.state.now seats o c.args.array c.args.first c.args.place d c.requires.array seat are)
    c.read_super.ensures.found.value

pub returns-in-Some-clause-went : goal.returns-in-Some-clause-went
returns-in-Some-clause-went g c =
    on_err c.read_super.result (λ gone rose. (c.in-Some.disk, sym c.in-Some.ensures, rose)) c.read_super.ensures.found.gone

pub returns-in-None-clause-found : goal.returns-in-None-clause-found
returns-in-None-clause-found g c o are =
    sym (unseated_none (found_with c.args.state.now (seats_by c.args.seats.now) o) c.args.array c.args.first c.args.place c.requires.array (sym c.in-None.ensures))

pub returns-in-Some-clause-valid : goal.returns-in-Some-clause-valid
returns-in-Some-clause-valid g c =
    if_ok c.read_super.result
    (λ found valid. record {
      block = valid.0;
      valid = valid.1;
      unseated = λ none. absurd (none-some c.in-Some.disk (sym none ∙ sym c.in-Some.ensures));
    })
    c.read_super.ensures.valid

pub returns-in-None-clause-valid : goal.returns-in-None-clause-valid
returns-in-None-clause-valid g c =
    record { block = []; valid = sym (empty_block c.args.state.now c.args.array c.args.place); unseated = λ none. refl }
