-- What an image holds: its sectors, and its bytes in a row.
use Rattle.std.specs.Prelude.{◌≡◌, ℕ, ◌+◌, ◌<◌, ◌/◌, ◌%◌, List, take, drop}
use Rattle.rack.specs.Seen.{RackView}
use Rattle.gpt_table.specs.Disk.{Contents, joined}

-- a disk whose sectors are told has these contents
pub record IsImage (rack : RackView) (disk : ℕ) (image : Contents) : Type 0 where
  pub told : rack.told disk
  pub same : (s : ℕ) → s < rack.sectors disk → (rack.held disk s).current ≡ image s

-- how many sectors so many bytes touch, of which the first one's lie behind so many others
abbrev pub sectors_over : ℕ → ℕ → ℕ
sectors_over skipped count = (skipped + count + 511) / 512

-- so many bytes, from one of the image on
abbrev pub bytes_from : Contents → ℕ → ℕ → List ℕ
bytes_from image at count = take count (drop (at % 512) (joined image (at / 512) (sectors_over (at % 512) count)))
