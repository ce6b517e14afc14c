use Rattle.std.proofs.Common.{append_assoc}
use Rattle.lvm_text.specs.Printed.{lv_head}
use Rattle.lvm_text.proofs.printer.print_lv_head.Goals as goal

pub returns-clause-text : goal.returns-clause-text
unfolding lv_head
returns-clause-text c =
    rw (c.number_line.ensures.text, c.append.ensures.bytes, c.text_line.ensures.text, c.opening.ensures.text)
    (simp append_assoc)
