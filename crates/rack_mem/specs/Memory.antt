-- A bay in memory, as contracts see it.
use Rattle.std.specs.Prelude.{◌≡◌, ◌≢◌, ◌++◌, ◌∷◌, nat_lt, ℕ, ◌<◌, ◌≤◌, ◌⊎◌, Bool, true, false, List, [], length, Option, Some, None, slice_get, map, Contains, position, if◌then◌else◌}
use Rattle.std.specs.Option.{option_map, option_map_or}
use Rattle.std.specs.List.{list_any}
use Rattle.std.specs.Str.{bytes_eq}
use Rattle.rack.specs.Values.{Values, MayLeave}
use Rattle.rack.specs.Seen.{Image, RackView, Rose}
use Rattle.rack.specs.Shelf.{Shelf, Waiting}
use Rattle.rack_mem.specs.declared.DiskSpec.{DiskSpec}
use Rattle.rack_mem.specs.declared.calls.Call.{Call}
use Rattle.rack_mem.specs.declared.calls.Call.TheVariants.{Quiet}
use Rattle.rack_mem.specs.declared.memory.Attached.{Attached}
use Rattle.rack_mem.specs.Zeros.{zeros}
use Rattle.rack_mem.specs.History.{values_at}

pub record Memory : Type 0 where
  -- the disks that can be attached, and those that are
  pub shelf : List DiskSpec
  -- what a disk of the shelf held before the first call, by its number there and the sector
  pub contents : ℕ → ℕ → List ℕ
  -- the attached disks, by their numbers
  pub attached : List Attached
  -- the kept calls
  pub calls : List Call
  -- the numbers of the calls that fail
  pub failing : List ℕ
  -- how many calls are kept
  pub room : ℕ
  -- the names that weren't on the shelf
  pub faults : ℕ

-- the sectors of a disk on the shelf
abbrev pub sectors_of : List DiskSpec → ℕ → ℕ
sectors_of shelf n = option_map_or (λ disk. disk.sectors) (slice_get shelf n) 0

-- and its name
abbrev pub name_of : List DiskSpec → ℕ → List ℕ
name_of shelf n = option_map_or (λ disk. disk.name) (slice_get shelf n) []

-- the number on the shelf of an attached disk
abbrev pub number_of : List Attached → ℕ → ℕ
number_of attached d = option_map_or (λ disk. disk.number) (slice_get attached d) 0

-- its count of faults
abbrev pub faults_of : List Attached → ℕ → ℕ
faults_of attached d = option_map_or (λ disk. disk.faults) (slice_get attached d) 0

-- whether every call on it fails
abbrev pub has_failed : List Attached → ℕ → Bool
has_failed attached d = option_map_or (λ disk. disk.failed) (slice_get attached d) false

-- the values of an attached disk's sector after the first calls
abbrev pub values_of : Memory → ℕ → ℕ → ℕ → Values
values_of m d s k = values_at m.calls d s (m.contents (number_of m.attached d) s) k

-- a stop after the first calls may leave these contents: in each sector one of its values
abbrev pub IsLeft : Memory → ℕ → Image → Type 0
IsLeft m k c =
    (d s : ℕ) → d < length m.attached → s < sectors_of m.shelf (number_of m.attached d)
    → MayLeave (values_of m d s k) (c d s)

-- the bay as a rack
abbrev pub seen_of : Memory → RackView
seen_of m = record {
  disks = length m.attached;
  sectors = λ d. sectors_of m.shelf (number_of m.attached d);
  held = λ d s. values_of m d s (length m.calls);
  clock = length m.calls;
  stops = λ k c. IsLeft m k c;
  faults = λ d. faults_of m.attached d;
  spent = λ d s. false;
  lasting = Unit {0};
  steady = ⊥;
  fit = Unit {0};
  told = λ d. Unit {0};
  traced = Unit {0};
}

-- the names of the attached disks
abbrev pub names_of : List DiskSpec → List Attached → List (List ℕ)
names_of shelf attached = map (λ disk. name_of shelf disk.number) attached

-- no two of these names are the same
abbrev pub AllDiffer : List (List ℕ) → Type 0
AllDiffer names = (i j : ℕ) (name : List ℕ) → slice_get names i ≡ Some name → slice_get names j ≡ Some name → i ≡ j

-- whether a name is attached
abbrev pub is_attached : List DiskSpec → List Attached → List ℕ → Bool
is_attached shelf attached name = list_any (λ disk. bytes_eq (name_of shelf disk.number) name) attached

-- the first disk of a name on the shelf
abbrev pub first_named : List DiskSpec → List ℕ → Option ℕ
first_named shelf name = position (λ disk. bytes_eq disk.name name) shelf

-- a disk of the shelf, with its contents
abbrev pub waiting : Memory → ℕ → Waiting
waiting m n = record { sectors = sectors_of m.shelf n; contents = m.contents n }

-- the disk that can be attached by a name
abbrev pub ready_of : Memory → List ℕ → Option Waiting
ready_of m name = if is_attached m.shelf m.attached name then None else option_map (waiting m) (first_named m.shelf name)

-- the bay's names
abbrev pub shelf_of : Memory → Shelf
shelf_of m = record { names = names_of m.shelf m.attached; ready = ready_of m; told = Unit {0}; faults = m.faults }

-- a call on this disk is refused: the room is full, its number is to fail, or the disk has failed
abbrev pub IsRefused : Memory → ℕ → Type 0
IsRefused m d = (m.room ≤ length m.calls) ⊎ Contains m.failing (length m.calls) ⊎ (has_failed m.attached d ≡ true)

-- what no call of a rack changes: the disks and what they held before the first call; faults never fall
pub record Follows (a b : Memory) : Type 0 where
  pub shelf : b.shelf ≡ a.shelf
  pub contents : (n s : ℕ) → b.contents n s ≡ a.contents n s
  pub disks : length b.attached ≡ length a.attached
  pub numbers : (d : ℕ) → number_of b.attached d ≡ number_of a.attached d
  pub names : names_of b.shelf b.attached ≡ names_of a.shelf a.attached
  pub faults : (d : ℕ) → faults_of a.attached d ≤ faults_of b.attached d
  pub failed : (d : ℕ) → has_failed b.attached d ≡ has_failed a.attached d
  pub failing : b.failing ≡ a.failing
  pub room : b.room ≡ a.room
  pub bay : b.faults ≡ a.faults

-- a call was kept, with its effect
pub record Records (a b : Memory) (call : Call) : Type 0 where
  pub follows : Follows a b
  pub attached : b.attached ≡ a.attached
  pub calls : b.calls ≡ a.calls ++ call ∷ []

-- the faults of one disk rose
pub record Faults (a b : Memory) (disk : ℕ) : Type 0 where
  pub follows : Follows a b
  pub rose : Rose (faults_of a.attached disk) (faults_of b.attached disk)
  pub others : (d : ℕ) → d ≢ disk → faults_of b.attached d ≡ faults_of a.attached d

-- a call was refused: it was kept without effect where there was room, and the faults of its disk rose
pub record Refuses (a b : Memory) (disk : ℕ) : Type 0 where
  pub faulted : Faults a b disk
  pub calls : b.calls ≡ (if nat_lt (length a.calls) a.room then a.calls ++ Quiet ∷ [] else a.calls)

-- a bay that tells the values of all disks, what stops leave and what is ready
abbrev pub IsTold : Memory → Type 0
IsTold m = ((d : ℕ) → (seen_of m).told d) × (seen_of m).traced × (shelf_of m).told

-- a bay at its beginning: nothing is attached, and all disks are zeros
pub record IsNew (m : Memory) (shelf : List DiskSpec) (failing : List ℕ) (room : ℕ) : Type 0 where
  pub shelf_is : m.shelf ≡ shelf
  pub contents : (n s : ℕ) → m.contents n s ≡ zeros
  pub attached : m.attached ≡ []
  pub calls : m.calls ≡ []
  pub failing_are : m.failing ≡ failing
  pub room_is : m.room ≡ room
  pub faults : m.faults ≡ 0

-- a disk has failed for good, and all else is as before
pub record Fails (a b : Memory) (disk : ℕ) : Type 0 where
  pub shelf : b.shelf ≡ a.shelf
  pub contents : (n s : ℕ) → b.contents n s ≡ a.contents n s
  pub disks : length b.attached ≡ length a.attached
  pub numbers : (d : ℕ) → number_of b.attached d ≡ number_of a.attached d
  pub faults : (d : ℕ) → faults_of b.attached d ≡ faults_of a.attached d
  pub failed : has_failed b.attached disk ≡ true
  pub others : (d : ℕ) → d ≢ disk → has_failed b.attached d ≡ has_failed a.attached d
  pub calls : b.calls ≡ a.calls
  pub failing : b.failing ≡ a.failing
  pub room : b.room ≡ a.room
  pub bay : b.faults ≡ a.faults
