use Rattle.std.proofs.Common.{None, ap, arith, sym, ◌∙◌}
use Rattle.std.proofs.lemmas.List.{get_or_read_under}
use Rattle.std.specs.Option.{is_some}
use Rattle.lvm_text.proofs.Numbered.{noted, noted_before}
use Rattle.lvm_text.proofs.table.note.Goals as goal

pub returns-then-is_none-clause-places : goal.returns-then-is_none-clause-places
returns-then-is_none-clause-places c = λ k below.
    noted c.args.table.now.items c.args.name.now c.in-Some.k c.args.at k c.requires (omega (arith, c.in-Some.ensures.0)) (c.in-Some.ensures.1)
    (ap is_some (sym (get_or_read_under c.args.table.now.items c.in-Some.k c.len.result c.index.result.now None c.index.ensures c.in-Some.ensures.0 (omega arith))) ∙ c.if-is_none.ensures) below

pub returns-else-is_none-clause-places : goal.returns-else-is_none-clause-places
returns-else-is_none-clause-places c = λ k below.
    noted_before c.args.table.now.items c.args.name.now c.in-Some.k c.args.at k c.requires (omega (arith, c.in-Some.ensures.0)) (c.in-Some.ensures.1)
    (ap is_some (sym (get_or_read_under c.args.table.now.items c.in-Some.k c.len.result c.index.result.now None c.index.ensures c.in-Some.ensures.0 (omega arith))) ∙ c.if-is_none.ensures) below
