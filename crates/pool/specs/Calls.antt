-- What each call of a pool does.
use Rattle.std.specs.Prelude.{◌≡◌, ◌↔◌, ℕ, ◌<◌, ◌≤◌, true, false, List, drop, Some, Result, Err, IfErr, IfOk, OnOk, OnErr}
use Rattle.rack.specs.Seen.{Image, Rose, SameRack}
use Rattle.rack.specs.Sequences.{WritesOnly}
use Rattle.rack.specs.Shelf.{KeepsShelf}
use Rattle.flat_array.specs.Array.{FlatArray, written, flushed}
use Rattle.md_super.specs.declared.superblock.Super.{Super}
use Rattle.array_image.specs.Left.{IsLeft}
use Rattle.array_image.specs.States.{is_current}
use Rattle.array_image.specs.Supers.{truth_in}
use Rattle.array_core.specs.Superblocks.{is_settled, left_offset}
use Rattle.slice_rack.specs.Runs.{IsSliced}
use Rattle.array_core.specs.TruthHeld.{HoldTruth}
use Rattle.lvm_group.specs.Framed.{IsShown}
use Rattle.raid_laws.specs.Agreeing.{AgreeLeaving}
use Rattle.raid_laws.specs.Book.{OnlyMarksSince}
use Rattle.raid_laws.specs.Losses.{has_other}
use Rattle.raid_laws.specs.Moves.{KeepsMarked}
use Rattle.raid_laws.specs.Raid.{IsTracked, is_failed}
use Rattle.raid_laws.specs.Runs.{CrashInvariant}
use Rattle.raid_laws.specs.Truths.{KeepsTruths}
use Rattle.pool.specs.declared.calls.LoseFault.{LoseFault}
use Rattle.pool.specs.declared.calls.LoseFault.TheVariants.{LastDrive, NoSuchDrive}
use Rattle.pool.specs.declared.calls.SectorFault.{SectorFault}
use Rattle.pool.specs.declared.calls.SectorFault.TheVariants.{Range, Spent}
use Rattle.pool.specs.Moment.{DriveWentFrom, MarksBut, moment_of}
use Rattle.pool.specs.View.{View, arrays_shown, book, slices_shown, volume}
use Rattle.raid_rack.specs.declared.works.Stuck.{Stuck}
use Rattle.pool.specs.Keeping.{KeepsBook, KeepsWorks, Raises}
use Rattle.pool.specs.Works.{HasRowsAlone, KeepsAllMembers, KeepsPlan, StopsStuck, left_of, works_of}
use Rattle.pool.specs.Volume.{Refines, VolumeIs, is_spent, size_of, unchanged}

-- What each call keeps: the volume stays where it is, marks alone come to the state, or the end of its plan, arrays lose whom these marks
-- name and nobody else, of the arrays' sectors only the volume's are written and of the bay's disks only those of slices, and its names stay. What stops
-- in it leave of the logs, of the states and of the arrays' superblocks is such as an opening asks for.
pub record CallFrame (x y : View) : Type 0 where
  pub stays : SameRack (volume x) (volume y)
  pub linear : y.linear ≡ x.linear
  pub slices : y.slices ≡ x.slices
  pub marks : OnlyMarksSince (book x).state (book y).state
  -- superblocks that said an array's truth do so after it
  pub truths : KeepsTruths (book x) (book y) (slices_shown x) (slices_shown y)
  pub moments : CrashInvariant (book x) (book y) (slices_shown x) (slices_shown y)
  -- a drive that is marked missing isn't written again
  pub unwritten : KeepsMarked (book x) (slices_shown x) (slices_shown y)
  pub book : KeepsBook (book x) (book y)
  pub arrays : WritesOnly (arrays_shown x) (arrays_shown y) (IsShown x.linear)
  pub apart : WritesOnly x.bay y.bay (IsSliced x.slices)
  pub shelf : KeepsShelf x.shelf y.shelf

-- the faults of a place's drive rose
abbrev pub DriveWent : View → View → ℕ → Type 0
DriveWent x y = DriveWentFrom (moment_of x) (moment_of y)

-- drives come to be marked lost only where their faults rose
abbrev pub Marks : View → View → Type 0
Marks x y = MarksBut (λ place. ⊥) (moment_of x) (moment_of y)

-- A sector is refused exactly where it is outside the volume, and else exactly where it is spent when the call returns.
pub record HasFault (x y : View) (sector : ℕ) {X : Type 0} (result : Result X SectorFault) : Type 0 where
  pub range : (result ≡ Err Range) ↔ (size_of x ≤ sector)
  pub served : OnOk result ((sector < size_of x) × (is_spent y sector ≡ false))
  pub refused : result ≡ Err Spent → (sector < size_of x) × (is_spent y sector ≡ true)

-- a read gives the current value and changes none
pub record ReadsSector (x y : View) (sector : ℕ) (into : List ℕ) {X : Type 0} (result : Result X SectorFault) : Type 0 where
  pub passes : CallFrame x y
  pub raises : Raises 1 x y
  pub works : KeepsWorks (book x) (book y)
  pub marks : Marks x y
  pub fault : HasFault x y sector result
  pub value : OnOk result ((a : FlatArray) → VolumeIs x a → into ≡ (a.values sector).current)
  pub does : Refines x y unchanged unchanged

-- a write appends its value; refused, it changes no sector that isn't spent
pub record WritesSector (x y : View) (sector : ℕ) (from : List ℕ) {X : Type 0} (result : Result X SectorFault) : Type 0 where
  pub passes : CallFrame x y
  pub raises : Raises 1 x y
  pub works : KeepsWorks (book x) (book y)
  pub marks : Marks x y
  pub fault : HasFault x y sector result
  pub written : OnOk result (Refines x y (λ a. written a sector from) (λ a. written a sector from))
  pub kept : OnErr result (Refines x y unchanged unchanged)

-- a flush leaves the current value of each sector alone
pub record Flushes (x y : View) : Type 0 where
  pub passes : CallFrame x y
  pub raises : Raises 1 x y
  pub works : KeepsWorks (book x) (book y)
  pub marks : Marks x y
  pub does : Refines x y unchanged flushed

-- A drive is lost. Refused exactly where the place isn't in the list or is marked missing, and else exactly where no other drive is left.
pub record LosesDrive (x y : View) (place : ℕ) {X : Type 0} (result : Result X LoseFault) : Type 0 where
  pub passes : CallFrame x y
  pub raises : Raises 1 x y
  pub works : KeepsWorks (book x) (book y)
  pub marks : MarksBut (λ p. p ≡ place) (moment_of x) (moment_of y)
  pub missing : (result ≡ Err NoSuchDrive) ↔ (is_current (book x).state place ≡ false)
  pub last : (result ≡ Err LastDrive) ↔ ((is_current (book x).state place ≡ true) × (has_other (book x).state place ≡ false))
  pub lost : OnOk result (is_current (book y).state place ≡ false)
  pub does : Refines x y unchanged unchanged

-- Where no disk's faults rose, an array whose superblocks said otherwise leaves in each image just the rows to resync that were left in it.
abbrev pub LeavesItsRows : View → View → Type 0
LeavesItsRows x y =
    ((d : ℕ) → Rose (x.bay.faults d) (y.bay.faults d) → ⊥)
    → (n : ℕ) → IsTracked (book x) (slices_shown x) n → is_failed (book y) n ≡ false → is_settled ((book x).arrays n) ≡ false
    → (r : Image) → IsLeft (slices_shown y) r → (t : Super) → truth_in (book y).state r n ≡ Some t
    → t.resync_offset ≡ left_offset ((book x).arrays n)

-- Where no disk's faults rose, superblocks that said an array's truth agree in whatever a stop leaves, and leave the rows to resync that are
-- left in the array and no others.
abbrev pub AgreesInEnd : View → View → Type 0
AgreesInEnd x y =
    ((d : ℕ) → Rose (x.bay.faults d) (y.bay.faults d) → ⊥)
    → (n : ℕ) → n < (book x).state.made → HoldTruth ((book x).arrays n) (slices_shown x) → IsTracked (book y) (slices_shown y) n → is_failed (book y) n ≡ false
    → (r : Image) → IsLeft (slices_shown y) r → AgreeLeaving ((book y).arrays n) (book y).state r n

-- The end of a run flushes the volume, and its superblocks leave no rows to resync but those that were left.
pub record Ends (x y : View) : Type 0 where
  pub passes : CallFrame x y
  pub raises : Raises 1 x y
  pub works : KeepsWorks (book x) (book y)
  pub marks : Marks x y
  pub does : Refines x y unchanged flushed
  pub rows : LeavesItsRows x y
  pub agree : AgreesInEnd x y

-- no disk of the bay has a new fault
abbrev pub IsQuiet : View → View → Type 0
IsQuiet x y = (d : ℕ) → Rose (x.bay.faults d) (y.bay.faults d) → ⊥

-- Where no disk's faults rose and only rows to resync and to rebuild were left of the arrays, the first works that were left are done, so many or all of
-- them, and the others are left.
abbrev pub DoesFirst : ℕ → View → View → Type 0
DoesFirst count x y =
    IsQuiet x y → HasRowsAlone (book x) → HasRowsAlone (book y) × (works_of y ≡ drop count (works_of x))

-- Works of maintenance are done, in their order. No value moves, what is answered is left, members stay but for losses and rebuilds, and a plan goes on, or has ended as the last
-- work. Else an array can't do a work that was left.
pub record Steps (x y : View) (count : ℕ) (result : Result ℕ Stuck) : Type 0 where
  pub passes : CallFrame x y
  pub raises : Raises count x y
  pub marks : Marks x y
  pub does : Refines x y unchanged unchanged
  pub members : KeepsAllMembers (book x) (book y)
  pub plan : KeepsPlan x.linear (book x) (book y)
  pub left : IfOk result (λ left. left ≡ left_of y)
  pub progress : OnOk result (DoesFirst count x y)
  pub stuck : IfErr result (λ e. StopsStuck (IsQuiet x y) y.linear count (book x) (book y) e.array)
