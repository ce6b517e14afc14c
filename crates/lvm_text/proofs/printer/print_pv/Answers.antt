use Rattle.std.proofs.Common.{append_assoc}
use Rattle.lvm_text.specs.Printed.{pv_text}
use Rattle.lvm_text.proofs.printer.print_pv.Goals as goal

pub returns-clause-text : goal.returns-clause-text
unfolding pv_text
returns-clause-text c =
    rw (c.append-2.ensures.bytes, c.number_line-3.ensures.text, c.number_line-2.ensures.text, c.number_line.ensures.text, c.append.ensures.bytes, c.text_line.ensures.text, c.opening.ensures.text)
    (simp append_assoc)
