use Rattle.std.proofs.Common.{◌≡◌, ◌+◌, ◌++◌, ap, arith, append_assoc, length, length-append}
use Rattle.lvm_text.specs.Printed.{group_head, printed}
use Rattle.lvm_text.proofs.ReadBack.{reads_back}
use Rattle.lvm_text.proofs.printer.print.Goals as goal

pub returns-clause-text : goal.returns-clause-text
unfolding group_head printed
returns-clause-text c =
    rw (c.append-3.ensures.bytes, c.append-2.ensures.bytes, c.lvs.ensures.text, c.opening-2.ensures.text, c.append.ensures.bytes, c.pvs.ensures.text, c.opening.ensures.text, c.print_group_head.ensures.text, c.bytes.ensures, c.bytes-2.ensures)
    (simp append_assoc)

pub returns-clause-short : goal.returns-clause-short
returns-clause-short c =
    let whole = ap length (returns-clause-text c) in
    let sum : length (c.args.into.now.bytes ++ printed c.args.group.now) ≡ length c.args.into.now.bytes + length (printed c.args.group.now) = simp length-append in
    let first = simp length-append at (ap length c.append.ensures.bytes) in
    let second = simp length-append at (ap length c.append-2.ensures.bytes) in
    let third = simp length-append at (ap length c.append-3.ensures.bytes) in
    let pvs = c.requires.printable.few_pvs in
    let lvs = c.requires.printable.few_lvs in
    let segments = c.requires.printable.few_segments in
    omega arith

pub returns-clause-read_back : goal.returns-clause-read_back
returns-clause-read_back c =
    reads_back c.args.group.now c.requires.printable
    (record { seqno = c.print_group_head.ensures.range.0; extent_size = c.print_group_head.ensures.range.1; pvs = c.pvs.ensures.range; lvs = c.lvs.ensures.range })
