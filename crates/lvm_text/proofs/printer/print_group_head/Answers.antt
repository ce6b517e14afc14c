use Rattle.std.proofs.Common.{append_assoc}
use Rattle.lvm_text.specs.Printed.{group_head}
use Rattle.lvm_text.proofs.printer.print_group_head.Goals as goal

pub returns-clause-text : goal.returns-clause-text
unfolding group_head
returns-clause-text c =
    rw (c.append-2.ensures.bytes, c.number_line-2.ensures.text, c.append.ensures.bytes, c.number_line.ensures.text, c.text_line.ensures.text, c.opening.ensures.text)
    (simp append_assoc)
