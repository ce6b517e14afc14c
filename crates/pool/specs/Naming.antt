-- The drive of a place is replaced by the disk of a name: the whole call, and its steps.
use Rattle.std.specs.Prelude.{◌⊎◌, ℕ, ◌<◌, List, length, Result, Ok, IfErr, OnOk}
use Rattle.rack.specs.Seen.{Image}
use Rattle.flat_array.specs.Array.{FlatArray}
use Rattle.raid_laws.specs.Truths.{KeepsTruths}
use Rattle.pool.specs.declared.replacing.GrowFault.{GrowFault}
use Rattle.pool.specs.Continuing.{Continues, KeepsOutside}
use Rattle.pool.specs.Entering.{Declines, Enters, StaysStill}
use Rattle.pool.specs.Keeping.{KeepsBook, KeepsBookBut, Raises}
use Rattle.pool.specs.Moment.{IsNamed, moment_of}
use Rattle.pool.specs.Replaced.{ChangesDrive, HasGrowCause, HasTable, IsDeclined, IsReplaced, LeavesNew, MeansFormer, MeansWith}
use Rattle.pool.specs.Taking.{AttachesDisk}
use Rattle.pool.specs.View.{View, book, over, slices_shown}
use Rattle.pool.specs.Volume.{VolumeIs, Means}

-- The disk of a name, which was attached where it wasn't, was taken in at a place.
pub record EntersNamed (x y : View) (place : ℕ) (name : List ℕ) (disk : ℕ) : Type 0 where
  pub bay : x.bays.one
  pub attaches : AttachesDisk x (over x bay) name (Ok disk)
  pub enters : Enters (over x bay) y place disk

-- It wasn't taken in, though nothing had been against it.
pub record LeavesNamed (x y : View) (place : ℕ) (name : List ℕ) : Type 0 where
  pub disk : ℕ
  pub named : IsNamed (moment_of y) name disk
  pub bay : x.bays.one
  pub attaches : AttachesDisk x (over x bay) name (Ok disk)
  pub leaves : Declines (over x bay) y place disk

-- The disk of the name is taken in; or it isn't, and either no time passed, or the arrays were cleaned or the disk was laid.
pub record EntersDrive (x y : View) (place : ℕ) (name : List ℕ) (result : Result (Unit {0}) GrowFault) : Type 0 where
  pub enters : OnOk result ((d : ℕ) → IsNamed (moment_of y) name d → EntersNamed x y place name d)
  pub left : IfErr result (λ e. StaysStill x y ⊎ LeavesNamed x y place name)

-- The drive of a place, missing or not, is replaced by the disk of a name, which is attached where it isn't yet. No value moves. `name` is the one disk
-- that is written outside the slices of drives. Where the place's drive isn't missing all arrays are cleaned first, and it is the place's until the new one is.
pub record ReplacesDrive (x y : View) (place : ℕ) (name : List ℕ) (result : Result (Unit {0}) GrowFault) : Type 0 where
  pub continues : Continues x y
  pub raises : Raises 1 x y
  pub keeps : KeepsBookBut place (book x) (book y)
  pub kept : IfErr result (λ e. KeepsBook (book x) (book y))
  pub outside : KeepsOutside x.slices y.slices (IsNamed (moment_of y) name) x.shelf.told x.bay y.bay
  pub changes : place < length (book x).state.drives.items → ChangesDrive x y place name
  pub cause : HasGrowCause x.linear (moment_of x) (moment_of y) place name result
  pub declined : IfErr result (IsDeclined (moment_of x) (moment_of y) place)
  pub replaced : OnOk result ((d : ℕ) → IsNamed (moment_of y) name d → IsReplaced (moment_of x) (moment_of y) place d)
  pub table : OnOk result ((d : ℕ) → IsNamed (moment_of y) name d → HasTable x y place d)
  pub holds : (a : FlatArray) → VolumeIs x a → VolumeIs y a
  -- where the disks are told, superblocks that said an array's truth do so after it, and so do those of the new members
  pub truths : x.shelf.told → ((d : ℕ) → d < x.bay.disks → x.bay.told d) → KeepsTruths (book x) (book y) (slices_shown x) (slices_shown y)
  pub leaves : x.bay.traced → (a : FlatArray) → VolumeIs x a → LeavesNew x y (λ i. MeansFormer (moment_of x) (moment_of y) place a i ⊎ Means y a i)
  -- where it is replaced, stops leave it as it was, or with the new drive and its table
  pub moments :
      OnOk result ((d : ℕ) → IsNamed (moment_of y) name d → x.bay.traced → (a : FlatArray) → VolumeIs x a
      → LeavesNew x y (λ i. MeansFormer (moment_of x) (moment_of y) place a i ⊎ MeansWith x y place d a i))
  pub steps : EntersDrive x y place name result
  pub ends : x.bay.traced → (a : FlatArray) → VolumeIs x a → (i : Image) → y.bay.stops y.bay.clock i → Means y a i
