-- The image that a stop leaves, by which value of each sector it takes.
use Rattle.std.specs.Prelude.{◌≡◌, ◌≢◌, ◌⊎◌, ℕ, ◌+◌, ◌-◌, ◌*◌, Option, ◌%◌, ◌^◌, ◌<◌, List, [], length, slice_get, unwrap_or}
use Rattle.rack.specs.Values.{Values, all_of, only}
use Rattle.rack_mem.specs.declared.Pick.{Pick}
use Rattle.rack_mem.specs.declared.Pick.TheVariants.{Oldest, Newest, Seeded}
use Rattle.rack_mem.specs.Memory.{Memory, IsLeft, number_of, values_of}

-- the number of the value that is taken in a disk's sector, where older ones come before the current one
abbrev pub picked_number : Pick → ℕ → ℕ → ℕ → ℕ
picked_number Oldest disk sector older = 0
picked_number Newest disk sector older = older
picked_number (Seeded seed) disk sector older = (seed + 31 * disk + sector) % 2 ^ 64 % (older + 1)

-- the value that is taken
abbrev pub picked : Pick → ℕ → ℕ → Values → List ℕ
picked pick disk sector v = unwrap_or (slice_get (all_of v) (picked_number pick disk sector (length v.older))) v.current

-- the value that comes so many before the current one
abbrev pub from_last : Values → ℕ → Option (List ℕ)
from_last v back = slice_get (all_of v) (length v.older - back)

-- each sector of an attached disk has the value that is taken of those it had after the first calls
abbrev pub Takes : Memory → ℕ → Pick → (ℕ → ℕ → List ℕ) → Type 0
Takes a moment pick contents =
    (d s : ℕ) → d < length a.attached → contents (number_of a.attached d) s ≡ picked pick d s (values_of a d s moment)

-- a disk that isn't attached has what it had
abbrev pub KeepsOthers : Memory → (ℕ → ℕ → List ℕ) → Type 0
KeepsOthers a contents =
    (n s : ℕ) → ((d : ℕ) → d < length a.attached → number_of a.attached d ≢ n) → contents n s ≡ a.contents n s

-- a bay over the contents that a stop after the first calls leaves: the same shelf and room, nothing attached, no faults
pub record IsImage (a : Memory) (moment : ℕ) (pick : Pick) (b : Memory) : Type 0 where
  pub shelf : b.shelf ≡ a.shelf
  pub attached : b.attached ≡ []
  pub calls : b.calls ≡ []
  pub failing : b.failing ≡ []
  pub room : b.room ≡ a.room
  pub faults : b.faults ≡ 0
  pub taken : Takes a moment pick b.contents
  pub others : KeepsOthers a b.contents
  -- so a stop at that moment may leave it
  pub left : IsLeft a moment (λ d s. b.contents (number_of a.attached d) s)

-- the same of the sectors written by the first calls; the others have what they had
abbrev pub TakesSoFar : Memory → ℕ → Pick → ℕ → (ℕ → ℕ → List ℕ) → Type 0
TakesSoFar a moment pick number contents =
    (d s : ℕ) → d < length a.attached
    → (contents (number_of a.attached d) s ≡ picked pick d s (values_of a d s moment))
    ⊎ ((contents (number_of a.attached d) s ≡ a.contents (number_of a.attached d) s)
    × (values_of a d s number ≡ only (a.contents (number_of a.attached d) s)))
