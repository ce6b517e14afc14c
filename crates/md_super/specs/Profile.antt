-- Which superblocks are those of a pool's arrays.
use Rattle.std.specs.Prelude.{ℕ, pos, ◌-◌, ◌%◌, Bool, ◌==◌, ◌&&◌, ◌||◌, nat_lt, nat_le, bit_and, List, [], ◌∷◌, length, if◌then◌else◌, Result, Ok, Err}
use Rattle.std.specs.Ordering.{int_eq}
use Rattle.md_super.specs.declared.superblock.Super.{Super}
use Rattle.md_super.specs.declared.superblock.Field.{Field}
use Rattle.md_super.specs.declared.superblock.Field.TheVariants.{FeatureMap, Level, Layout, Chunk, RaidDisks, Size, DataOffset, SuperOffset, DevNumber, MaxDev}
use Rattle.md_super.specs.declared.superblock.Unsupported.{Unsupported}

-- levels 1 and 5 of md
abbrev pub is_mirror : Super → Bool
is_mirror s = int_eq s.level (pos 1)

abbrev pub is_raid5 : Super → Bool
is_raid5 s = int_eq s.level (pos 5)

-- from 2 disks on: both of a mirror, up to 16 of RAID-5
abbrev pub has_disks : Super → Bool
has_disks s = nat_le 2 s.raid_disks && nat_le s.raid_disks (if is_mirror s then 2 else 16)

-- whether a size is that of one or more whole extents behind 2048 sectors
abbrev pub is_height_of : ℕ → ℕ → Bool
is_height_of extent size = nat_lt 2048 size && ((size - 2048) % extent == 0)

-- what holds of a pool's superblock, in order, and the field that shows it where it does not.
-- The feature bits are 1 and 2: a rebuild and a reshape.
abbrev pub rules : Super → ℕ → List (Bool × Field)
rules s extent =
    (bit_and s.feature_map 0xfffffff9 == 0, FeatureMap)
    ∷ (is_mirror s || is_raid5 s, Level)
    ∷ (s.layout == (if is_mirror s then 0 else 2), Layout)
    ∷ (s.chunk == (if is_mirror s then 0 else 128), Chunk)
    ∷ (has_disks s, RaidDisks)
    ∷ (is_height_of extent s.size && (s.size == s.data_size), Size)
    ∷ (s.data_offset == 2048, DataOffset)
    ∷ (s.super_offset == 8, SuperOffset)
    ∷ (nat_lt s.dev_number 16, DevNumber)
    ∷ (length s.roles.items == 128, MaxDev)
    ∷ []

-- the field of the first rule that does not hold
abbrev pub first_broken : List (Bool × Field) → Result (Unit {0}) Unsupported
first_broken [] = Ok tt
first_broken (rule ∷ others) = if rule.0 then first_broken others else Err (record { field = rule.1 })

abbrev pub profiled : Super → ℕ → Result (Unit {0}) Unsupported
profiled s extent = first_broken (rules s extent)
