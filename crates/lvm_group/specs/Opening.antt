-- What opening a volume answers: it goes by what stands in the joined arrays as they were read. A sector that was
-- refused is one that has no bytes.
use Rattle.std.specs.Prelude.{◌≡◌, ℕ, ◌<◌, ◌==◌, ◌&&◌, ◌||◌, Bool, false, true, not, is_some, List, length, map, slice_get, Option, Some, None}
use Rattle.std.specs.Option.{option_map_or}
use Rattle.std.specs.List.{find, list_all, range_with_len}
use Rattle.rack.specs.Seen.{Image, RackView, Rose}
use Rattle.lvm_text.specs.declared.group.Pv.{Pv}
use Rattle.lvm_text.specs.declared.group.Group.{Group}
use Rattle.lvm_group.specs.declared.parts.Part.{Part}
use Rattle.lvm_group.specs.declared.volume.VolumeFault.{VolumeFault}
use Rattle.lvm_group.specs.declared.volume.VolumeFault.TheVariants as fault
use Rattle.lvm_group.specs.Parts.{has_bad_text}
use Rattle.lvm_group.specs.Reading.{IsNow, IsTextOf, held_on}
use Rattle.lvm_group.specs.Found.{AreParts}
use Rattle.lvm_group.specs.Runs.{Linear}
use Rattle.lvm_group.specs.Group.{group_in, first_bad, has_own_label, highest, is_bad_by, is_own_group, linear_in, pv_of}

-- ---- by the parts of the joined arrays

-- the group text that counts
abbrev pub group_by : List Part → Option Group
group_by parts = highest (map (λ (part : Part). part.group) parts)

-- a part says a group of this seqno
abbrev pub says : ℕ → Part → Bool
says seqno part = option_map_or (λ (g : Group). g.seqno == seqno) part.group false

-- the array of this number is bad
abbrev pub is_bad_among : List ℕ → ℕ → (ℕ → ℕ) → List Part → ℕ → Bool
is_bad_among pool extent sectors parts array =
    option_map_or (is_bad_by pool extent sectors (length parts) (group_by parts) array) (slice_get parts array) false

-- the lowest bad array
abbrev pub first_bad_among : List ℕ → ℕ → (ℕ → ℕ) → List Part → Option ℕ
first_bad_among pool extent sectors parts = find (is_bad_among pool extent sectors parts) (range_with_len 0 (length parts))

-- an array is bad, where the group is the pool's and has these physical volumes
abbrev pub is_bad_with : List ℕ → List Pv → ℕ → Part → Bool
is_bad_with pool pvs array part = has_bad_text part || (is_some (pv_of pvs array) && not (has_own_label pool array part))

abbrev pub first_bad_with : List ℕ → List Pv → List Part → Option ℕ
first_bad_with pool pvs parts = find (λ array. option_map_or (is_bad_with pool pvs array) (slice_get parts array) false) (range_with_len 0 (length parts))

-- the runs of the volume, where no array is bad
pub record HasRuns (pool : List ℕ) (extent : ℕ) (sectors : ℕ → ℕ) (parts : List Part) (l : Linear) (seqno : ℕ) : Type 0 where
  pub group : Group
  pub found : group_by parts ≡ Some group
  pub own : is_own_group pool extent sectors (length parts) group ≡ true
  pub sound : first_bad_among pool extent sectors parts ≡ None
  pub volume : l ≡ linear_in (length parts) group
  pub numbered : seqno ≡ group.seqno

-- the fault where one is
abbrev pub HasFault : List ℕ → ℕ → (ℕ → ℕ) → List Part → VolumeFault → Type 0
HasFault pool extent sectors parts fault.Memory = Unit
HasFault pool extent sectors parts (fault.BadVolume array) = first_bad_among pool extent sectors parts ≡ Some array

-- ---- by the contents of the arrays

-- the parts that were read of the joined arrays
pub record WereRead (a b : RackView) (joined : ℕ) (parts : List Part) : Type 0 where
  pub count : length parts ≡ joined
  pub are : AreParts a b joined parts

-- no array's faults rose, so that each sector was read
abbrev pub AreServed : RackView → RackView → ℕ → Type 0
AreServed a b joined = (array : ℕ) → array < joined → Rose (a.faults array) (b.faults array) → ⊥

-- the contents of the joined arrays as they read, told
abbrev pub AreNow : RackView → ℕ → Image → Type 0
AreNow a joined c = (array : ℕ) → array < joined → IsNow a array (c array)

-- with nothing past the arrays' ends
abbrev pub within_sectors : RackView → Image → Image
within_sectors a c = λ array. held_on a array (c array)

-- contents whose group is the pool's, without a bad array, with this volume and seqno
pub record Means (pool : List ℕ) (extent joined : ℕ) (sectors : ℕ → ℕ) (l : Linear) (seqno : ℕ) (c : Image) : Type 0 where
  pub group : Group
  pub found : group_in c sectors joined ≡ Some group
  pub own : is_own_group pool extent sectors joined group ≡ true
  pub sound : first_bad pool extent sectors joined c ≡ None
  pub volume : l ≡ linear_in joined group
  pub numbered : seqno ≡ group.seqno

-- A volume that was opened: that of the group that was read, with no bad array. Where no sector was refused, it is the volume of
-- the contents.
pub record Opens (pool : List ℕ) (extent joined : ℕ) (a b : RackView) (l : Linear) (seqno : ℕ) : Type 0 where
  pub parts : List Part
  pub read : WereRead a b joined parts
  pub runs : HasRuns pool extent a.sectors parts l seqno
  pub means : (c : Image) → AreServed a b joined → AreNow a joined c → Means pool extent joined a.sectors l seqno (within_sectors a c)

-- A volume that was read, whether each array says a group of its seqno, and the text of its group.
pub record Finds (pool : List ℕ) (extent joined : ℕ) (a b : RackView) (l : Linear) (seqno : ℕ) (even : Bool) (text : List ℕ) : Type 0 where
  pub opens : Opens pool extent joined a b l seqno
  pub kept : IsTextOf text opens.runs.group
  pub all : even ≡ list_all (says seqno) opens.parts

-- An array for which none was opened: the lowest bad one by what was read, and where no sector was refused, by the contents.
pub record IsBadVolume (pool : List ℕ) (extent joined : ℕ) (a b : RackView) (array : ℕ) : Type 0 where
  pub parts : List Part
  pub read : WereRead a b joined parts
  pub bad : first_bad_among pool extent a.sectors parts ≡ Some array
  pub bad_in : (c : Image) → AreServed a b joined → AreNow a joined c → first_bad pool extent a.sectors joined (within_sectors a c) ≡ Some array

-- without memory nothing is said of the arrays
abbrev pub IsUnopened : List ℕ → ℕ → ℕ → RackView → RackView → VolumeFault → Type 0
IsUnopened pool extent joined a b fault.Memory = Unit
IsUnopened pool extent joined a b (fault.BadVolume array) = IsBadVolume pool extent joined a b array
