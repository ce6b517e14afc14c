-- What contents of the disks give of the volume that lies on them, and of its arrays.
use Rattle.std.specs.Prelude.{◌≡◌, ℕ, ◌<◌}
use Rattle.rack.specs.Seen.{Image}
use Rattle.slice_rack.specs.Slices.{Slices, sectors_of}
use Rattle.slice_rack.specs.Sliced.{sliced}
use Rattle.array_image.specs.Arrays.{arrays_in, replayed}
use Rattle.lvm_group.specs.Images.{MeansVolume}
use Rattle.lvm_group.specs.Runs.{Linear}
use Rattle.lvm_group.specs.Shown.{contents_of}
use Rattle.array_model.specs.View.{sectors_of as sectors_in}
use Rattle.raid_laws.specs.Raid.{Raid}
use Rattle.pool_image.specs.Drives.{Found}
use Rattle.pool_image.specs.Meaning.{Volume, array_sectors, arrays_held}

-- contents give a volume by these slices and runs: each of its sectors, once the pending record is replayed
abbrev pub HoldsAt : Slices → Linear → Volume → Image → Type 0
HoldsAt t l v disks = (s : ℕ) → s < v.sectors → contents_of l (arrays_in (replayed (sectors_of t) (sliced t disks))) 0 s ≡ v.contents s

-- contents give the arrays of a pool that are ready for the volume, by these slices, once the pending record is replayed
abbrev pub GivesPool : Found → Slices → Image → Type 0
GivesPool f t disks =
    (n s : ℕ) → n < f.state.joined → s < array_sectors f n → arrays_in (replayed (sectors_of t) (sliced t disks)) n s ≡ arrays_held f n s

-- What contents give of the arrays by these slices says a volume, by the sizes that the book's arrays have: they have a group of the pool with these runs, and
-- none of them is bad.
abbrev pub SaysVolume : Raid → Slices → Linear → Image → Type 0
SaysVolume v t l disks =
    (seqno : ℕ) × MeansVolume v.state.pool.0 v.state.joined (λ n. sectors_in (v.arrays n)) l seqno (arrays_in (replayed (sectors_of t) (sliced t disks)))
