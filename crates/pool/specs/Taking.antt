-- The parts of a replacing: a disk is attached, and then takes the place of a drive.
use Rattle.std.specs.Prelude.{◌≡◌, ◌≢◌, ◌⊎◌, ◌↔◌, ℕ, ◌<◌, false, List, length, Some, None, Result, Err, IfErr, IfOk, OnOk}
use Rattle.rack.specs.Values.{Keeps, MayLeave, Values}
use Rattle.rack.specs.Seen.{Rose}
use Rattle.flat_array.specs.Array.{FlatArray}
use Rattle.slice_rack.specs.Runs.{IsSliced}
use Rattle.slice_rack.specs.Slices.{seat_of}
use Rattle.array_image.specs.States.{is_current}
use Rattle.raid_laws.specs.Truths.{KeepsTruths}
use Rattle.pool.specs.declared.replacing.GrowFault.{GrowFault}
use Rattle.pool.specs.declared.replacing.GrowFault.TheVariants.{Attach, Twice, Memory, NotWhole, Gone}
use Rattle.raid_laws.specs.NewDrive.{IsOfDrive as IsLaid}
use Rattle.rack.specs.Untouched.{KeepsDisk}
use Rattle.pool.specs.Continuing.{Continues, KeepsOutside, NoDisk}
use Rattle.pool.specs.Entering.{Declines, Enters, EntersBy, LeavesBy, LeavesOut, StaysStill, table_on}
use Rattle.pool.specs.Held.{KeepsHeld}
use Rattle.pool.specs.Keeping.{KeepsBook, KeepsBookBut, Raises}
use Rattle.raid_laws.specs.Moves.{RaisesBy}
use Rattle.pool.specs.Moment.{IsImage, IsNamed, Moment, moment_of}
use Rattle.pool.specs.Replaced.{HasMarked, HasMarkedOther, HasTable, IsAnswer, IsDeclined, IsOfDrive, IsReplaced, LeavesNew, MeansFormer, MeansWith, NamesDisk, faults_before, is_vacant}
use Rattle.pool.specs.Replacing.{IsAdmissible, refusal_of}
use Rattle.pool.specs.View.{View, book, slices_shown, volume}
use Rattle.pool.specs.Volume.{VolumeIs, Means, is_spent, size_of}

-- the disks are told
abbrev pub AreTold : View → Type 0
AreTold x = (d : ℕ) → d < x.bay.disks → x.bay.told d

-- What the volume tells goes on: a sector that isn't spent afterwards wasn't before, and keeps its values.
pub record Carries (x y : View) : Type 0 where
  pub spent : (s : ℕ) → is_spent y s ≡ false → is_spent x s ≡ false
  pub told : x.shelf.told → AreTold x → (s : ℕ) → s < size_of x → is_spent y s ≡ false → (volume x).told 0 → (volume y).told 0
  pub keeps :
      x.shelf.told → AreTold x → (s : ℕ) → s < size_of x → is_spent y s ≡ false → (volume x).told 0
      → Keeps ((volume x).held 0 s) ((volume y).held 0 s)
  -- superblocks that said an array's truth do so
  pub made : (book y).state.made ≡ (book x).state.made
  pub truths : x.shelf.told → AreTold x → KeepsTruths (book x) (book y) (slices_shown x) (slices_shown y)
  -- and sectors of the arrays keep their values, also those that are none of the volume's
  pub held : x.shelf.told → AreTold x → KeepsHeld (book x) (book y) (slices_shown x) (slices_shown y)

-- a disk is that of a place that isn't missing
abbrev pub IsOfPlace : Moment → ℕ → Type 0
IsOfPlace p d = (k : ℕ) × (seat_of p.slices k ≡ Some d) × (is_vacant p.book.state k ≡ false)

-- The disk of a name, attached where it wasn't: it isn't a current drive's.
pub record AttachesDisk (x y : View) (name : List ℕ) (result : Result ℕ GrowFault) : Type 0 where
  pub continues : Continues x y
  pub carries : Carries x y
  pub outside : KeepsOutside x.slices y.slices NoDisk x.shelf.told x.bay y.bay
  pub clock : y.bay.clock ≡ x.bay.clock
  pub held : (d : ℕ) → d < x.bay.disks → (s : ℕ) → y.bay.held d s ≡ x.bay.held d s
  pub faults : (d : ℕ) → d < y.bay.disks → y.bay.faults d ≡ faults_before (moment_of x) d
  pub ok : IfOk result (λ d. IsNamed (moment_of y) name d × (d < y.bay.disks) × (IsOfPlace (moment_of x) d → ⊥))
  pub names : NamesDisk (moment_of x) (moment_of y) name
  -- it holds what the name's image held
  pub image :
      x.shelf.told → (d : ℕ) → IsNamed (moment_of y) name d
      → (held : ℕ → Values) × IsImage (moment_of x) name (y.bay.sectors d) held × ((s : ℕ) → s < y.bay.sectors d → y.bay.held d s ≡ held s)
  pub err : IfErr result (λ e. (e ≡ Attach) ⊎ ((e ≡ Memory) ⊎ (e ≡ Twice)))
  pub attach : result ≡ Err Attach → Rose x.shelf.faults y.shelf.faults
  -- an image that can't be attached, or not for want of memory, comes as no disk
  pub none : (result ≡ Err Attach) ⊎ (result ≡ Err Memory) → y.bay.disks ≡ x.bay.disks
  pub used : (d : ℕ) → IsNamed (moment_of x) name d → (result ≢ Err Attach) × (result ≢ Err Memory)
  pub twice : (result ≡ Err Twice) ↔ IsOfDrive (moment_of x) name

-- A disk, which isn't a current drive's, is taken in at a place, or it isn't.
pub record TakesDisk (x y : View) (place disk : ℕ) (result : Result (Unit {0}) GrowFault) : Type 0 where
  pub continues : Continues x y
  pub carries : Carries x y
  pub keeps : KeepsBookBut place (book x) (book y)
  pub kept : IfErr result (λ e. KeepsBook (book x) (book y))
  pub outside : KeepsOutside x.slices y.slices (λ d. d ≡ disk) x.shelf.told x.bay y.bay
  pub bare : (d : ℕ) → seat_of x.slices place ≡ Some d → d ≢ disk → (y.slices ≡ x.slices) ⊎ ((s : ℕ) (v : List ℕ) → IsSliced y.slices d s v → ⊥)
  pub names : y.shelf.names ≡ x.shelf.names
  pub disks : y.bay.disks ≡ x.bay.disks
  pub gone : result ≡ Err Gone → Rose (x.bay.faults disk) (y.bay.faults disk)
  pub declined : IfErr result (IsDeclined (moment_of x) (moment_of y) place)
  pub replaced : OnOk result (IsReplaced (moment_of x) (moment_of y) place disk)
  pub table : OnOk result (HasTable x y place disk)
  pub leaves : x.bay.traced → (a : FlatArray) → VolumeIs x a → LeavesNew x y (λ i. MeansFormer (moment_of x) (moment_of y) place a i ⊎ Means y a i)
  pub moments :
      OnOk result (x.bay.traced → (a : FlatArray) → VolumeIs x a → LeavesNew x y (λ i. MeansFormer (moment_of x) (moment_of y) place a i ⊎ MeansWith x y place disk a i))

-- So it is in a pool that is ready for it: the place's drive is missing, or it gives way.
pub record TakesBy (x y : View) (place disk : ℕ) (result : Result (Unit {0}) GrowFault) : Type 0 where
  pub takes : TakesDisk x y place disk result
  pub raises : RaisesBy 19 (book x) (book y)
  -- the disk that the place had isn't written, but where a drive is found gone that isn't missing
  pub retired :
      (is_current (book x).state place ≡ false) ⊎ (result ≢ Err NotWhole) → (d : ℕ) → seat_of x.slices place ≡ Some d → d ≢ disk
      → KeepsDisk x.shelf.told x.bay y.bay d
  -- outside the slices the disk may be left with what it held, or with what is laid on a new drive
  pub laid :
      disk < x.bay.disks → AreTold x → (s : ℕ) (v : List ℕ) → s < x.bay.sectors disk → ((u : List ℕ) → IsSliced y.slices disk s u → ⊥)
      → MayLeave (y.bay.held disk s) v
      → MayLeave (x.bay.held disk s) v ⊎ IsLaid disk (table_on x place disk) disk s v
  pub answer : IsAnswer None result
  pub not_whole : result ≡ Err NotWhole → HasMarked (moment_of x) (moment_of y)
  pub left : IfErr result (λ e. LeavesBy x y place disk)
  pub out : result ≡ Err NotWhole → LeavesOut x y place disk
  pub enters : OnOk result (EntersBy x y place disk)

-- So it is in any pool, in the place of a drive: it may be refused by how the pool stands.
pub record ReplacesBy (x y : View) (place disk : ℕ) (result : Result (Unit {0}) GrowFault) : Type 0 where
  pub takes : TakesDisk x y place disk result
  pub raises : Raises 1 x y
  -- the disks of places of the list whose drives are missing aren't written any more
  pub retired :
      (k d : ℕ) → k < length (book x).state.drives.items → is_current (book x).state k ≡ false → seat_of x.slices k ≡ Some d → d ≢ disk
      → KeepsDisk x.shelf.told x.bay y.bay d
  -- outside the slices it may be left with what it held, or with what is laid on a new drive
  pub laid :
      disk < x.bay.disks → AreTold x → (s : ℕ) (v : List ℕ) → s < x.bay.sectors disk → ((u : List ℕ) → IsSliced y.slices disk s u → ⊥)
      → MayLeave (y.bay.held disk s) v
      → MayLeave (x.bay.held disk s) v
      ⊎ (IsAdmissible x.linear (book x) place (x.bay.sectors disk) × IsLaid disk (table_on x place disk) disk s v)
  pub answer : IsAnswer (refusal_of x.linear (book x) place (x.bay.sectors disk)) result
  -- the tables stay but where nothing is against it and the units are the same
  pub admitted : (y.slices ≡ x.slices) ⊎ IsAdmissible x.linear (book x) place (x.bay.sectors disk)
  pub not_whole :
      result ≡ Err NotWhole
      → (refusal_of x.linear (book x) place (x.bay.sectors disk) ≡ Some NotWhole) ⊎ HasMarkedOther (moment_of x) (moment_of y) place
  -- no time passed, or nothing had been against it
  pub left : IfErr result (λ e. StaysStill x y ⊎ Declines x y place disk)
  pub enters : OnOk result (Enters x y place disk)
