-- How the drives of a state are written.
use Rattle.std.specs.Prelude.{◌≡◌, ℕ, ◌*◌, ◌-◌, Bool, List, [], ◌∷◌, ◌++◌, length, replicate, if◌then◌else◌}
use Rattle.std.specs.List.{flat_map}
use Rattle.byteorder.specs.Endian.{little_bytes}
use Rattle.pool_state.specs.declared.contents.Drive.{Drive}
use Rattle.pool_state.specs.declared.contents.Plan.{Plan}
use Rattle.pool_state.specs.declared.contents.Plan.TheVariants.{Nothing, Add, Replace}

abbrev pub flags_of : Bool → ℕ
flags_of missing = if missing then 1 else 0

-- the 28 bytes of a drive
abbrev pub drive_bytes : Drive → List ℕ
drive_bytes d = d.id.0 ++ (little_bytes 8 d.units ++ little_bytes 4 (flags_of d.missing))

-- the kind of a plan: 0 for nothing, 1 for a new drive and 2 for one that replaces another
abbrev pub kind_of : Plan → ℕ
kind_of Nothing = 0
kind_of (Add place) = 1
kind_of (Replace place) = 2

-- the drives one after the other, and zeros for the places up to the 16th
abbrev pub table_of : List Drive → List ℕ
table_of drives = flat_map drive_bytes drives ++ replicate (28 * (16 - length drives)) 0

-- the ids of drives have 16 bytes
abbrev pub HaveIds : List Drive → Type 0
HaveIds [] = Unit {0}
HaveIds (d ∷ drives) = (length d.id.0 ≡ 16) × HaveIds drives
