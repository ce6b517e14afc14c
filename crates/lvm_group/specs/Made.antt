-- What making a volume leaves on its arrays.
use Rattle.std.specs.Prelude.{◌≡◌, ℕ, ◌+◌, ◌-◌, ◌<◌, ◌==◌, ◌||◌, nat_le, nat_lt, if◌then◌else◌, false, nat_eq, List, [], ◌∷◌, length, replicate, Some, None, Err}
use Rattle.std.specs.List.{starts_with}
use Rattle.rack.specs.Values.{MayLeave}
use Rattle.rack.specs.Seen.{Image, RackView}
use Rattle.rack.specs.Targets.{Target}
use Rattle.lvm_label.specs.Label.{label_bytes, label_word}
use Rattle.lvm_label.specs.Header.{header_bytes}
use Rattle.lvm_text.specs.declared.group.Group.{Group}
use Rattle.lvm_text.specs.Printed.{printed}
use Rattle.lvm_group.specs.declared.volume.VolumeFault.{VolumeFault}
use Rattle.lvm_group.specs.declared.volume.VolumeFault.TheVariants as fault
use Rattle.lvm_group.specs.Writing.{Puts, new_targets, own_header, own_label, own_location, piece, text_sectors}
use Rattle.lvm_group.specs.Runs.{Linear}
use Rattle.lvm_group.specs.Shown.{contents_of}
use Rattle.lvm_group.specs.Sequences.{AreSingle, AreTold}
use Rattle.lvm_group.specs.Images.{LeavesVolume}
use Rattle.lvm_group.specs.Group.{first_bad, group_in, volume_in}
use Rattle.lvm_group.specs.Growth.{grown}
use Rattle.lvm_group.specs.Own.{own_group}

-- the first sectors of the first arrays have no label, as LVM2 would find it before that of sector 1
abbrev pub AreFree : RackView → ℕ → Type 0
AreFree a arrays = (d : ℕ) → d < arrays → starts_with nat_eq (a.held d 0).current label_word ≡ false

-- contents that a stop may leave in those sectors
abbrev pub ArePicks : RackView → ℕ → Image → Type 0
ArePicks b arrays c = (d s : ℕ) → d < arrays → s < 2048 → MayLeave (b.held d s) (c d s)

-- the runs of a new volume: the arrays' first extents, array by array
abbrev pub new_volume : ℕ → List ℕ → Linear
new_volume extent numbers = record { extent = extent; arrays = length numbers; runs = grown [] numbers }

-- the group of a new volume
abbrev pub new_group : List ℕ → ℕ → (ℕ → ℕ) → List ℕ → Group
new_group pool extent sectors numbers = own_group pool extent sectors 1 numbers (grown [] numbers)

-- whatever a stop leaves, the arrays' group and volume are the new ones, and no array is bad
pub record Means (pool : List ℕ) (extent : ℕ) (sectors : ℕ → ℕ) (numbers : List ℕ) (c : Image) : Type 0 where
  pub group : group_in c sectors (length numbers) ≡ Some (new_group pool extent sectors numbers)
  pub volume : volume_in c sectors (length numbers) ≡ Some (contents_of (new_volume extent numbers) c)
  pub sound : first_bad pool extent sectors (length numbers) c ≡ None

pub record Makes (pool : List ℕ) (extent : ℕ) (numbers : List ℕ) (a b : RackView) : Type 0 where
  pub single : AreSingle a b (length numbers)
  pub means : AreTold a b (length numbers) → AreFree a (length numbers) → (c : Image) → ArePicks b (length numbers) c → Means pool extent a.sectors numbers c
  pub settled : AreTold a b (length numbers) → AreFree a (length numbers) → LeavesVolume pool (length numbers) (new_volume extent numbers) 1 a.sectors b

-- what a sector of an array has of a text that begins behind the header
abbrev pub text_at : List ℕ → ℕ → List ℕ
text_at text s = if nat_lt s 9 || nat_le (9 + text_sectors text) s then replicate 512 0 else piece text (s - 9)

-- what a sector of an array of a new volume holds: the label, the header with the text behind it, and else zeros
abbrev pub new_sector : List ℕ → ℕ → (ℕ → ℕ) → List ℕ → ℕ → ℕ → List ℕ
new_sector pool extent sectors numbers array s =
    let text = printed (new_group pool extent sectors numbers) in
    if s == 1 then label_bytes (own_label pool array (sectors array))
    else if s == 8 then header_bytes (own_header (own_location 512 text ∷ []))
    else text_at text s

-- what making a volume writes
abbrev pub made_targets : List ℕ → ℕ → (ℕ → ℕ) → List ℕ → List Target
made_targets pool extent sectors numbers = new_targets pool sectors [] (printed (new_group pool extent sectors numbers)) (length numbers)

-- a volume that wasn't made: without memory the rack is as it was; else an array refused a call, and some of the writes were made
abbrev pub IsUnmade : {R : Type 0} → (R → RackView) → R → List Target → R → VolumeFault → Type 0
IsUnmade seen rack xs back fault.Memory = back ≡ rack
IsUnmade seen rack xs back (fault.BadVolume array) = Puts (seen rack) (seen back) xs {X = Unit {0}} (Err (record { disk = array }))
