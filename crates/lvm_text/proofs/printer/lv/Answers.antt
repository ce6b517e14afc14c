use Rattle.std.proofs.Common.{append_assoc}
use Rattle.lvm_text.specs.Printed.{lv_head, lv_text}
use Rattle.lvm_text.proofs.printer.lv.Goals as goal

pub returns-clause-text : goal.returns-clause-text
unfolding lv_head lv_text
returns-clause-text c =
    rw (c.append.ensures.bytes, c.segments.ensures.text, c.print_lv_head.ensures.text, c.bytes.ensures, c.bytes-2.ensures, c.as_slice.ensures)
    (simp append_assoc)
