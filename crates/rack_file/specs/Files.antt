-- What a bay of image files shows: sizes, names and faults, and no contents.
use Rattle.std.specs.Prelude.{◌≡◌, ℕ, ◌≤◌, List, [], length, map, slice_get, Option, Some, None, false}
use Rattle.rack.specs.Values.{only}
use Rattle.rack.specs.Seen.{RackView, Rose}
use Rattle.rack.specs.Shelf.{Shelf}
use Rattle.rack_file.specs.declared.disk.FileDisk.{FileDisk}

-- the sectors of a file, 0 where there is none
abbrev pub sectors_of : {F : Type 0} → Option (FileDisk F) → ℕ
sectors_of None = 0
sectors_of (Some disk) = disk.sectors

-- its count of faults
abbrev pub faults_of : {F : Type 0} → Option (FileDisk F) → ℕ
faults_of None = 0
faults_of (Some disk) = disk.faults

-- the paths, in the order of their disks
abbrev pub names_of : {F : Type 0} → List (FileDisk F) → List (List ℕ)
names_of disks = map (λ disk. disk.name) disks

-- no path stands twice
abbrev pub Differ : List (List ℕ) → Type 0
Differ names = (i j : ℕ) (name : List ℕ) → slice_get names i ≡ Some name → slice_get names j ≡ Some name → i ≡ j

-- what the rack shows
abbrev pub files_seen : {F : Type 0} → List (FileDisk F) → RackView
files_seen disks =
    record {
      disks = length disks;
      sectors = λ d. sectors_of (slice_get disks d);
      held = λ d s. only [];
      clock = 0;
      stops = λ k image. ⊥;
      faults = λ d. faults_of (slice_get disks d);
      spent = λ d s. false;
      lasting = Unit {0};
      steady = ⊥;
      fit = Unit {0};
      told = λ d. ⊥;
      traced = ⊥;
    }

-- what the bay shows
abbrev pub files_shelf : {F : Type 0} → List (FileDisk F) → ℕ → Shelf
files_shelf disks faults =
    record { names = names_of disks; ready = λ name. None; told = ⊥; faults = faults }

-- one disk's count of faults rose, and nothing else changed
pub record NotesFault {F : Type 0} (old new : List (FileDisk F)) (disk : ℕ) : Type 0 where
  pub disks : length new ≡ length old
  pub names : names_of new ≡ names_of old
  pub sectors : (d : ℕ) → sectors_of (slice_get new d) ≡ sectors_of (slice_get old d)
  pub faults : (d : ℕ) → faults_of (slice_get old d) ≤ faults_of (slice_get new d)
  pub rose : Rose (faults_of (slice_get old disk)) (faults_of (slice_get new disk))
