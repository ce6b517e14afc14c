use Rattle.std.proofs.Common.{◌≡◌, ◌+◌, sym, ◌∙◌, arith}
use Rattle.lvm_text.proofs.Numbered.{segment_name_injective}
use Rattle.lvm_text.proofs.table.entry.Goals as goal

pub returns-in_default : goal.returns-in_default
returns-in_default c = λ k below is.
    let e : c.in-Some.number ≡ k + 1 = segment_name_injective c.in-Some.number (k + 1) (c.in-Some.ensures.0) (omega arith) (sym (c.in-Some.ensures.1) ∙ is) in absurd (omega arith)

pub returns-in_default-2 : goal.returns-in_default-2
returns-in_default-2 c = λ k below is.
    let e : c.in-Some.number ≡ k + 1 = segment_name_injective c.in-Some.number (k + 1) (c.in-Some.ensures.0) (omega arith) (sym (c.in-Some.ensures.1) ∙ is) in absurd (omega arith)
