-- What a rack of slices holds of an array's sectors.
use Rattle.std.specs.Prelude.{◌≡◌, ◌⊎◌, ℕ, zero, suc, ◌+◌, ◌<◌, nat_lt, if◌then◌else◌, List, [], ◌∷◌, take, Option, Some, None}
use Rattle.std.specs.Option.{option_map_or}
use Rattle.rack.specs.Values.{Values, MayLeave, IsSingle, only}
use Rattle.rack.specs.Seen.{Image, Held}
use Rattle.array_image.specs.Places.{member_slice, data_sector}
use Rattle.array_image.specs.Stripes.{Layout, mirror, parity, position_in, sector_in}
use Rattle.array_image.specs.Arrays.{Member, Shape, layout_at, value_by}

-- the contents as they read now
abbrev pub current_in : Held → Image
current_in held = λ d s. (held d s).current

-- the values of a member's sector
abbrev pub held_of : Held → ℕ → ℕ → Member → Values
held_of held array sector m = held (member_slice m.place array) (data_sector + sector)

-- a member of a list
abbrev pub Among : Member → List Member → Type 0
Among m [] = ⊥
Among m (first ∷ others) = (m ≡ first) ⊎ Among m others

-- contents that take held values in the members' data, where it counts
abbrev pub PicksData : Shape → ℕ → Held → Image → Type 0
PicksData shape array held c =
    (m : Member) (sector : ℕ) → Among m shape.members → sector < m.reach
    → MayLeave (held_of held array sector m) (c (member_slice m.place array) (data_sector + sector))

-- each sector of the members' data has one value, where it counts
abbrev pub IsSynced : Shape → ℕ → Held → Type 0
IsSynced shape array held =
    (m : Member) (sector : ℕ) → Among m shape.members → sector < m.reach → IsSingle (held_of held array sector m)

-- the first member that counts at a sector
unfoldable pub first_counting : ℕ → List Member → Option Member
first_counting sector [] = None
first_counting sector (m ∷ others) = if nat_lt sector m.reach then Some m else first_counting sector others

unfoldable pub member_at : ℕ → ℕ → List Member → Option Member
member_at sector position [] = None
member_at sector zero (m ∷ others) = if nat_lt sector m.reach then Some m else None
member_at sector (suc position) (m ∷ others) = member_at sector position others

-- the member whose own sector an array's sector is, if it counts
abbrev pub source_in : Layout → ℕ → ℕ → List Member → Option Member
source_in (mirror n) sector position members = first_counting sector (take n members)
source_in (parity n) sector position members = member_at sector position (take n members)

-- an array's sector has the values of its member's sector, or the one that the others give
unfoldable pub held_by : Shape → Held → ℕ → ℕ → Values
held_by shape held array x =
    let layout = layout_at shape x in
    option_map_or (held_of held array (sector_in layout x))
    (source_in layout (sector_in layout x) (position_in layout x) shape.members)
    (only (value_by shape (current_in held) array x))
