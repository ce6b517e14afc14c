use Rattle.std.proofs.Common.{[], arith, sym, ◌∙◌}
use Rattle.lvm_label.proofs.Sectors.{label_in-found, label_in-passed, label_in-none}
use Rattle.lvm_label.proofs.label.decode_label.Goals as goal

pub returns-then-starts_with : goal.returns-then-starts_with
returns-then-starts_with c =
    c.decode_at.ensures
    ∙ sym (label_in-found c.args.sectors.now c.loop-number.number [] (omega arith) (sym c.starts_with.ensures.value ∙ c.if-starts_with.true))
    ∙ c.loop-number.invariant

pub loop-number-preserved : goal.loop-number-preserved
loop-number-preserved c =
    sym (label_in-passed c.args.sectors.now c.loop-number.number [] (omega arith) (sym c.starts_with.ensures.value ∙ c.if-starts_with.false))
    ∙ c.loop-number.invariant

pub returns : goal.returns
returns c = sym (label_in-none c.args.sectors.now c.loop-number.number (omega arith)) ∙ c.loop-number.invariant
