-- The disks of some names as they wait to be attached, before a run.
use Rattle.std.specs.Prelude.{◌≡◌, ℕ, ◌<◌, List, [], length, slice_get, Option, Some, None, IsSome}
use Rattle.std.specs.Option.{option_and_then}
use Rattle.rack.specs.Values.{only}
use Rattle.rack.specs.Seen.{Image, RackView}
use Rattle.rack.specs.Shelf.{Waiting}

-- the disk that waits under a number's name
abbrev pub waiting_at : (List ℕ → Option Waiting) → List (List ℕ) → ℕ → Option Waiting
waiting_at ready names d = option_and_then ready (slice_get names d)

-- its sectors, and what they contain
abbrev pub sectors_in : Option Waiting → ℕ
sectors_in None = 0
sectors_in (Some w) = w.sectors

abbrev pub contents_in : Option Waiting → ℕ → List ℕ
contents_in None = λ s. []
contents_in (Some w) = w.contents

-- the contents of all disks before a run
abbrev pub entry_image : (List ℕ → Option Waiting) → List (List ℕ) → Image
entry_image ready names = λ d. contents_in (waiting_at ready names d)

-- contents that are those of the disks before the run, in each sector that they have
abbrev pub IsEntryImage : (List ℕ → Option Waiting) → List (List ℕ) → Image → Type 0
IsEntryImage ready names image =
    (d s : ℕ)
    → d < length names
    → s < sectors_in (waiting_at ready names d)
    → image d s ≡ entry_image ready names d s

-- a disk of a rack is one that waited: one value in each sector, told
pub record IsWaiting (y : RackView) (d : ℕ) (waited : Option Waiting) : Type 0 where
  pub ready : IsSome waited
  pub sectors : y.sectors d ≡ sectors_in waited
  pub held : (s : ℕ) → s < sectors_in waited → y.held d s ≡ only (contents_in waited s)
  pub told : y.told d
