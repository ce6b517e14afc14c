-- Where the parts of a drive stand, and the ids that name them.
--
-- A place is a drive's number in the pool. Its slices are disks of their own: 17 * place is the log slice,
-- and 17 * place + array + 1 the slice of that array's member. Contents that are numbered so are called slices.
use Rattle.std.specs.Prelude.{ℕ, ◌+◌, ◌*◌, ◌/◌, ◌%◌, List, [], ◌∷◌}
use Rattle.shr_base.specs.Ids.{name_based, child_name}

abbrev pub log_slice : ℕ → ℕ
log_slice place = 17 * place

abbrev pub member_slice : ℕ → ℕ → ℕ
member_slice place array = 17 * place + array + 1

abbrev pub place_of : ℕ → ℕ
place_of d = d / 17

abbrev pub slice_of : ℕ → ℕ
slice_of d = d % 17

-- on a drive: the state's sector, which is the first one of the log slice, and where the first array's slice begins
abbrev pub state_sector : ℕ
state_sector = 2048

abbrev pub log_sectors : ℕ
log_sectors = 8192

abbrev pub arrays_first : ℕ
arrays_first = 10240

-- in a member's slice: its superblock, and the first sector of its data
abbrev pub super_sector : ℕ
super_sector = 8

abbrev pub data_sector : ℕ
data_sector = 2048

-- the type of a log slice, 6B1F3C52-9D84-4E0A-A7C1-52E8D03F9B76
abbrev pub log_kind : List ℕ
log_kind = 0x6b ∷ 0x1f ∷ 0x3c ∷ 0x52 ∷ 0x9d ∷ 0x84 ∷ 0x4e ∷ 0x0a ∷ 0xa7 ∷ 0xc1 ∷ 0x52 ∷ 0xe8 ∷ 0xd0 ∷ 0x3f ∷ 0x9b ∷ 0x76 ∷ []

-- the type of Linux RAID, A19D880F-05FC-4D3B-A006-743F0F84911E
abbrev pub raid_kind : List ℕ
raid_kind = 0xa1 ∷ 0x9d ∷ 0x88 ∷ 0x0f ∷ 0x05 ∷ 0xfc ∷ 0x4d ∷ 0x3b ∷ 0xa0 ∷ 0x06 ∷ 0x74 ∷ 0x3f ∷ 0x0f ∷ 0x84 ∷ 0x91 ∷ 0x1e ∷ []

-- ids by their kind: those of a pool's drives, arrays, group, physical and logical volumes, and of a drive's members and slices
abbrev pub drive_id : List ℕ → ℕ → List ℕ
drive_id pool serial = name_based pool (child_name 1 serial 0)

abbrev pub array_id : List ℕ → ℕ → List ℕ
array_id pool array = name_based pool (child_name 2 array 0)

abbrev pub member_id : List ℕ → ℕ → List ℕ
member_id drive array = name_based drive (child_name 3 array 0)

abbrev pub group_id : List ℕ → List ℕ
group_id pool = name_based pool (child_name 5 0 0)

abbrev pub pv_id : List ℕ → ℕ → List ℕ
pv_id pool array = name_based pool (child_name 6 array 0)

abbrev pub lv_id : List ℕ → ℕ → List ℕ
lv_id pool volume = name_based pool (child_name 7 volume 0)
