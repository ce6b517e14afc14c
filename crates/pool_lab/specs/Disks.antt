-- What a bay of attached disks shows: sizes, names and faults, and no contents.
use Rattle.std.specs.Prelude.{◌≡◌, ℕ, ◌≤◌, List, [], length, map, slice_get, Option, Some, None, false}
use Rattle.rack.specs.Values.{only}
use Rattle.rack.specs.Seen.{RackView, Rose}
use Rattle.rack.specs.Shelf.{Shelf}
use Rattle.pool_lab.specs.declared.attached.Attached.{Attached}

-- the sectors of a disk, 0 where there is none
abbrev pub sectors_of : Option Attached → ℕ
sectors_of None = 0
sectors_of (Some disk) = disk.sectors

-- its count of faults
abbrev pub faults_of : Option Attached → ℕ
faults_of None = 0
faults_of (Some disk) = disk.faults

-- the names, in the order of their disks
abbrev pub names_of : List Attached → List (List ℕ)
names_of disks = map (λ disk. disk.name) disks

-- no name stands twice
abbrev pub Differ : List (List ℕ) → Type 0
Differ names = (i j : ℕ) (name : List ℕ) → slice_get names i ≡ Some name → slice_get names j ≡ Some name → i ≡ j

-- what the rack shows
abbrev pub bay_seen : List Attached → RackView
bay_seen disks =
    record {
      disks = length disks;
      sectors = λ d. sectors_of (slice_get disks d);
      held = λ d s. only [];
      clock = 0;
      stops = λ k image. ⊥;
      faults = λ d. faults_of (slice_get disks d);
      spent = λ d s. false;
      lasting = Unit {0};
      steady = ⊥;
      fit = Unit {0};
      told = λ d. ⊥;
      traced = ⊥;
    }

-- what the bay shows
abbrev pub bay_shelf : List Attached → ℕ → Shelf
bay_shelf disks faults =
    record { names = names_of disks; ready = λ name. None; told = ⊥; faults = faults }

-- one disk's count of faults rose, and nothing else changed
pub record NotesFault (old new : List Attached) (disk : ℕ) : Type 0 where
  pub disks : length new ≡ length old
  pub names : names_of new ≡ names_of old
  pub sectors : (d : ℕ) → sectors_of (slice_get new d) ≡ sectors_of (slice_get old d)
  pub faults : (d : ℕ) → faults_of (slice_get old d) ≤ faults_of (slice_get new d)
  pub rose : Rose (faults_of (slice_get old disk)) (faults_of (slice_get new disk))
