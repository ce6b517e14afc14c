use Rattle.std.proofs.Common.{◌≡◌, ℕ, ◌+◌, ◌-◌, ◌≤◌, ◌++◌, List, length, ap, ◌∙◌, arith}
use borrow.Rule.Slice.PartMut.{put_mid}
use Rattle.lvm_label.specs.Fields.{padded}
use Rattle.lvm_label.proofs.Padding.{put-padded}
use Rattle.lvm_label.proofs.fields.put.Goals as goal

-- the same of buffers that are known to be so
put-known : (size at : ℕ) (text bytes old new : List ℕ) → length text ≡ at → at + length bytes ≤ size → old ≡ padded size text → new ≡ bytes → put_mid at (at + length bytes - at) old new ≡ padded size (text ++ bytes)
put-known size at text bytes old new long room was is =
    ap (λ (o : List ℕ). put_mid at (at + length bytes - at) o new) was ∙ ap (put_mid at (at + length bytes - at) (padded size text)) is ∙ put-padded size at text bytes long room

pub returns-clause-appended : goal.returns-clause-appended
returns-clause-appended c size text wide long was =
    put-known size c.args.at text c.args.bytes.now c.args.buffer.now c.copy_from_slice.new.self long (omega arith) was c.copy_from_slice.ensures.after
