use Rattle.std.proofs.Common.{◌≡◌, ◌∙◌, OnErr, None, Result, option_map, subst, arith}
use Rattle.std.proofs.lemmas.Result.{IfOk-weaker}
use Rattle.gpt_table.specs.declared.Compared.{Compared}
use Rattle.gpt_table.specs.declared.TableFault.{TableFault}
use Rattle.gpt_table.specs.Disk.{first_of}
use Rattle.gpt_table.proofs.Spent.{agree_said, both_say, first_said}
use Rattle.gpt_table.proofs.settling.compare_copies.Goals as goal

pub returns-clause-table : goal.returns-clause-table
returns-clause-table g c =
    let x = g.R.Rack.seen c.args.rack.now in
    IfOk-weaker c.compared.result _ _
    (λ found first told contents agrees.
    first_said (x.sectors c.args.disk) contents c.in-Ok.copies
    (both_say {a = x} {b = g.R.Rack.seen c.read_copies.new.rack} c.args.disk c.sectors-sectors.result c.in-Ok.copies
    c.sectors-sectors.ensures.number (omega (arith, c.if-sectors-lt-FEWEST_SECTORS.false)) c.in-Ok.ensures.looks told contents agrees)
    ∙ first)
    c.compared.ensures.first

pub returns-clause-agree : goal.returns-clause-agree
returns-clause-agree g c =
    let x = g.R.Rack.seen c.args.rack.now in
    IfOk-weaker c.compared.result _ _
    (λ found same told contents agrees.
    agree_said (x.sectors c.args.disk) contents c.in-Ok.copies found.agree
    (both_say {a = x} {b = g.R.Rack.seen c.read_copies.new.rack} c.args.disk c.sectors-sectors.result c.in-Ok.copies
    c.sectors-sectors.ensures.number (omega (arith, c.if-sectors-lt-FEWEST_SECTORS.false)) c.in-Ok.ensures.looks told contents agrees)
    same)
    c.compared.ensures.agree

pub returns-clause-none : goal.returns-clause-none
returns-clause-none g c none told contents agrees =
    let x = g.R.Rack.seen c.args.rack.now in
    first_said (x.sectors c.args.disk) contents c.in-Ok.copies
    (both_say {a = x} {b = g.R.Rack.seen c.read_copies.new.rack} c.args.disk c.sectors-sectors.result c.in-Ok.copies
    c.sectors-sectors.ensures.number (omega (arith, c.if-sectors-lt-FEWEST_SECTORS.false)) c.in-Ok.ensures.looks told contents agrees)
    ∙ subst (λ (r : Result Compared TableFault). OnErr r (option_map (λ seen. seen.table) (first_of c.in-Ok.copies.primary c.in-Ok.copies.backup) ≡ None)) none
    c.compared.ensures.none
