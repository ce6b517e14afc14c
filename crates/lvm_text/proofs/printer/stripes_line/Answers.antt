use Rattle.std.proofs.Common.{append_assoc}
use Rattle.lvm_text.specs.Printed.{stripes_line}
use Rattle.lvm_text.proofs.printer.stripes_line.Goals as goal

pub returns-clause-text : goal.returns-clause-text
unfolding stripes_line
returns-clause-text c =
    rw (c.append-4.ensures.bytes, c.digits.ensures.text, c.append-3.ensures.bytes, c.append-2.ensures.bytes, c.append.ensures.bytes)
    (simp append_assoc)
