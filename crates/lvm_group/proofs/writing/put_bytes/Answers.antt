use Rattle.std.proofs.Common.{arith}
use Rattle.lvm_group.proofs.Filling.{put_known}
use Rattle.lvm_group.proofs.writing.put_bytes.Goals as goal

pub returns : goal.returns
returns c size text wide long was =
    put_known size c.args.at text c.args.bytes.now c.args.buffer.now c.copy_from_slice.new.self long (omega arith) was c.copy_from_slice.ensures.after
