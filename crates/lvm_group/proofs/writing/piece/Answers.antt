use Rattle.std.proofs.Common.{take, ap, sym, ◌∙◌, arith}
use Rattle.std.proofs.lemmas.List.{take_all}
use Rattle.lvm_label.specs.Fields.{padded}
use Rattle.lvm_group.specs.Writing.{piece}
use Rattle.lvm_group.proofs.writing.piece.Goals as goal

pub returns-in-None : goal.returns-in-None
unfolding piece
returns-in-None c =
    let short = c.in-None.ensures.cases in
    c.filled-in-None.ensures ∙ ap (padded 512) (sym (take_all 512 c.split_at.result.1.now (omega arith)) ∙ ap (take 512) c.split_at.ensures.back)
