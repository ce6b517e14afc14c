use Rattle.std.proofs.Common.{refl, []}
use Rattle.lvm_label.specs.Fields.{padded}
use Rattle.lvm_group.proofs.writing.filled.Goals as goal

pub returns : goal.returns
unfolding padded
returns c = c.put_bytes.ensures 512 [] refl refl refl
