use Rattle.std.proofs.Common.{append_assoc}
use Rattle.lvm_text.specs.Printed.{segment_text}
use Rattle.lvm_text.proofs.printer.print_segment.Goals as goal

pub returns-clause-text : goal.returns-clause-text
unfolding segment_text
returns-clause-text c =
    rw (c.append-2.ensures.bytes, c.stripes_line.ensures.text, c.append.ensures.bytes, c.number_line-2.ensures.text, c.number_line.ensures.text, c.segment_opening.ensures.text)
    (simp append_assoc)
