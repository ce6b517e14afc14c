use Rattle.std.proofs.Common.{◌≡◌, Err}
use Rattle.lvm_text.specs.Group.{group_of}
use Rattle.lvm_text.specs.declared.group.TextFault.TheVariants as fault
use Rattle.image_text.proofs.putting.put_group.Goals as goal

pub returns-in-Err-Missing : goal.returns-in-Err-Missing
returns-in-Err-Missing g c =
    let read : group_of c.args.text.now ≡ Err (fault.Missing c.in-Err-Missing.field-0-0) = rw c.in-Err-Missing.field-0-is at c.in-Err-Missing.ensures in
    rw read c.put_words.ensures

pub returns-in-Err-Range : goal.returns-in-Err-Range
returns-in-Err-Range g c =
    let read : group_of c.args.text.now ≡ Err (fault.Range c.in-Err-Range.field-0-0) = rw c.in-Err-Range.field-0-is at c.in-Err-Range.ensures in
    rw read c.put_words-in-Err-Range.ensures
