-- Bytes that are put behind a text that zeros follow.
use Rattle.std.proofs.Common.{◌≡◌, ℕ, ◌+◌, ◌-◌, ◌≤◌, ◌++◌, List, length, ap, ◌∙◌}
use borrow.Rule.Slice.PartMut.{put_mid}
use Rattle.lvm_label.specs.Fields.{padded}
use Rattle.lvm_label.proofs.Padding.{put-padded}

pub put_known : (size at : ℕ) (text bytes old new : List ℕ) → length text ≡ at → at + length bytes ≤ size → old ≡ padded size text → new ≡ bytes → put_mid at (at + length bytes - at) old new ≡ padded size (text ++ bytes)
put_known size at text bytes old new long room was is =
    ap (λ (o : List ℕ). put_mid at (at + length bytes - at) o new) was ∙ ap (put_mid at (at + length bytes - at) (padded size text)) is ∙ put-padded size at text bytes long room
