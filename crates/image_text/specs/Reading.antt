-- What a call that reads an image does to the rack and gives.
use Rattle.std.specs.Prelude.{◌≡◌, ℕ, Result, Err, IfOk}
use Rattle.rack.specs.Seen.{RackView, Rose}
use Rattle.rack.specs.Sequences.{OnlyReads}
use Rattle.gpt_table.specs.Disk.{Contents}
use Rattle.image_text.specs.declared.bytes.Unread.{Unread}
use Rattle.image_text.specs.declared.bytes.Unread.TheVariants.{Gone}
use Rattle.image_text.specs.Contents.{IsImage}

-- nothing was written; the value says this of the image that the disk holds, and a fault of the disk is counted
pub record Gives (a b : RackView) (disk : ℕ) {X : Type 0} (says : Contents → X → Type 0) (result : Result X Unread)
    : Type 0 where
  pub only : OnlyReads a b
  pub value : (image : Contents) → IsImage a disk image → IfOk result (says image)
  pub gone : result ≡ Err Gone → Rose (a.faults disk) (b.faults disk)
