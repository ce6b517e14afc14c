-- The meaning of contents: the volumes that they hold, or why they are refused.
use Rattle.std.specs.Prelude.{ℕ, ◌+◌, Bool, false, true, ◌==◌, ◌&&◌, ◌||◌, not, nat_lt, bytes_eq, if◌then◌else◌, List, [], ◌∷◌, find, count_by, Option, Some, None, option_map, is_some, is_none}
use Rattle.std.specs.Option.{option_and_then, option_map_or, option_or}
use Rattle.std.specs.List.{list_all, list_any, range_with_len}
use Rattle.rack.specs.Seen.{Image}
use Rattle.gpt_table.specs.declared.Table.{Table}
use Rattle.md_super.specs.declared.superblock.Super.{Super}
use Rattle.lvm_text.specs.declared.group.Group.{Group}
use Rattle.array_image.specs.Places.{log_kind, raid_kind}
use Rattle.array_image.specs.Record.{is_bad_gate, is_bad_log}
use Rattle.array_image.specs.States.{current_places, id_of}
use Rattle.array_image.specs.Supers.{is_unclean, is_named, super_in, truth_in}
use Rattle.array_image.specs.Arrays.{Shape, shape_in, sectors_by, array_in}
use Rattle.pool_image.specs.Disks.{Disks, all_disks}
use Rattle.pool_image.specs.Replay.{Extent, Standing, standing}
use Rattle.pool_image.specs.Drives.{Found, end_of, found, extent_of, slices_of}
use Rattle.lvm_group.specs.Runs.{Linear, sectors_in}
use Rattle.lvm_group.specs.Shown.{contents_of}
use Rattle.pool_image.specs.Volumes.{Arrays, first_bad, group_in, linear_of}

-- a part of a drive
pub data Part : Type 0 where
  in_table : Part
  in_state : Part
  in_log : Part
  in_superblock : Part

pub data Refusal : Type 0 where
  no_pool : Refusal
  two_pools : Refusal
  absent : ℕ → Refusal
  damaged : ℕ → Part → Refusal
  too_few : ℕ → Refusal
  dirty_degraded : ℕ → Refusal
  bad_volume : ℕ → Refusal

-- ---- the arrays that exist

abbrev pub arrays_of : Found → List ℕ
arrays_of f = range_with_len 0 f.state.made

abbrev pub truth_of : Found → ℕ → Option Super
truth_of f n = truth_in f.state (slices_of f) n

abbrev pub shape_of : Found → ℕ → Option Shape
shape_of f n = shape_in f.state (slices_of f) n

-- the superblock of a place's member
abbrev pub super_at : Found → ℕ → ℕ → Option Super
super_at f n place = super_in f.state (slices_of f) n place

-- whether the truth names a place
abbrev pub is_member : Found → ℕ → ℕ → Bool
is_member f n place = option_map_or (λ t. is_named t place) (truth_of f n) false

-- ---- what is damaged

-- a table has this entry
abbrev pub has_entry : Table → ℕ → List ℕ → Extent → Bool
has_entry table number kind e =
    list_any
    (λ entry. (entry.number == number) && (bytes_eq entry.slice.kind.0 kind && ((entry.slice.first == e.first) && (entry.slice.last + 1 == end_of e))))
    table.entries.items

-- and the slice ends before the backup's 33 sectors
abbrev pub has_slice : ℕ → Table → ℕ → List ℕ → Extent → Bool
has_slice sectors table number kind e = has_entry table number kind e && nat_lt (end_of e + 32) sectors

-- the type of a slice's entry
abbrev pub kind_of : ℕ → List ℕ
kind_of number = if number == 0 then log_kind else raid_kind

-- the slice of a number stands in the table where the pool has it
abbrev pub has_slice_of : Found → ℕ → Table → ℕ → Bool
has_slice_of f sectors table number = option_map_or (has_slice sectors table (number + 1) (kind_of number)) (extent_of f number) false

-- the table of a place's drive: its id, the log slice, and the slices of the arrays that it is a member of
abbrev pub is_table : Found → ℕ → ℕ → Table → Bool
is_table f place sectors table =
    option_map_or (bytes_eq table.disk_id.0) (id_of f.state place) false
    && (has_slice_of f sectors table 0
    && list_all (λ n. not (is_member f n place) || has_slice_of f sectors table (n + 1)) (arrays_of f))

abbrev pub has_table : Found → ℕ → ℕ → Bool
has_table f place d = option_map_or (is_table f place (f.disks.sectors d)) (f.identities d).table false

-- its gate is well formed, and so is the pending record where it was read from this place
abbrev pub has_log : Found → ℕ → Bool
has_log f place = not (is_bad_gate (slices_of f) place) && not (is_bad_log (current_places f.before.state) f.before.logs place)

-- its superblocks are valid in each array that names it
abbrev pub has_supers : Found → ℕ → Bool
has_supers f place = list_all (λ n. not (is_member f n place) || is_some (super_at f n place)) (arrays_of f)

-- the first part of a place's drive that isn't valid, on its disk
abbrev pub damage_on : Found → ℕ → ℕ → Option Part
damage_on f place d =
    if not (has_table f place d) then Some in_table
    else if is_none (f.identities d).copied then Some in_state
    else if not (has_log f place) then Some in_log
    else if not (has_supers f place) then Some in_superblock
    else None

unfoldable pub damage_of : Found → ℕ → Option Part
damage_of f place = option_and_then (damage_on f place) (f.seats place)

-- the lowest place with a damage
abbrev pub first_damaged : Found → Option Refusal
first_damaged f =
    option_and_then (λ place. option_map (damaged place) (damage_of f place)) (find (λ place. is_some (damage_of f place)) (current_places f.state))

-- ---- the refusals, in their order

-- two disks are of different pools
abbrev pub has_other_pool : Disks → Standing → Bool
has_other_pool disks x =
    list_any (λ d. option_map_or (λ copy. not (bytes_eq copy.state.pool.0 x.state.pool.0)) (x.identities d).copied false) (all_disks disks)

-- how many current places have no disk
abbrev pub absent_count : Found → ℕ
absent_count f = count_by (λ place. is_none (f.seats place)) (current_places f.state)

-- how many members are missing or rebuilding
abbrev pub lacking_of : Shape → ℕ
lacking_of shape = count_by (λ m. not m.is_whole) shape.members

-- two or more of an array, or it has no truth
abbrev pub is_too_few : Found → ℕ → Bool
is_too_few f n = option_map_or (λ shape. nat_lt 1 (lacking_of shape)) (shape_of f n) true

-- one of an array that isn't young and has rows left to resync
abbrev pub is_dirty_degraded : Found → ℕ → Bool
is_dirty_degraded f n =
    nat_lt n f.state.joined
    && (option_map_or (λ shape. nat_lt 0 (lacking_of shape)) (shape_of f n) false && option_map_or is_unclean (truth_of f n) false)

-- what the arrays hold, and how many sectors each has
abbrev pub arrays_held : Found → Image
arrays_held f = λ n x. array_in f.state (slices_of f) n x

abbrev pub array_sectors : Found → ℕ → ℕ
array_sectors f n = option_map_or sectors_by (shape_of f n) 0

-- the arrays that are ready for the volumes
abbrev pub joined_arrays : Found → Arrays
joined_arrays f =
    record { pool = f.state.pool.0; extent = f.state.extent; joined = f.state.joined; sectors = array_sectors f; contents = arrays_held f }

unfoldable pub refused_by : Found → Option Refusal
refused_by f =
    if nat_lt 1 (absent_count f) then Some (absent (absent_count f))
    else option_or (first_damaged f)
    (option_or (option_map too_few (find (is_too_few f) (arrays_of f)))
    (option_or (option_map dirty_degraded (find (is_dirty_degraded f) (arrays_of f)))
    (option_map bad_volume (first_bad (joined_arrays f)))))

-- two pools are looked for in what stands before the replay
abbrev pub refused_at : Disks → Image → Standing → Option Refusal
refused_at disks c x = if has_other_pool disks x then Some two_pools else option_map_or refused_by (found disks c) (Some no_pool)

-- why contents are refused, if they are
unfoldable pub refusal_of : Disks → Image → Option Refusal
refusal_of disks c = option_map_or (refused_at disks c) (standing disks c) (Some no_pool)

-- ---- the meaning

-- a volume: its sectors, and what they hold
pub record Volume : Type 0 where
  pub sectors : ℕ
  pub contents : ℕ → List ℕ

abbrev pub volume_by : Linear → Image → Volume
volume_by l c = record { sectors = sectors_in l; contents = contents_of l c 0 }

-- the group of the joined arrays
abbrev pub group_of : Found → Option Group
group_of f = group_in (joined_arrays f)

abbrev pub volumes_of : Found → List Volume
volumes_of f = option_map_or (λ g. volume_by (linear_of (joined_arrays f) g) (arrays_held f) ∷ []) (group_of f) []

-- the meaning of contents: none exactly where they are refused
unfoldable pub meaning : Disks → Image → Option (List Volume)
meaning disks c = option_map_or (λ why. None) (refusal_of disks c) (option_map volumes_of (found disks c))
