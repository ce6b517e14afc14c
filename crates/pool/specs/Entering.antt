-- A disk is taken in at a place, or is laid and then isn't: what the rack of arrays says of the call.
use Rattle.std.specs.Prelude.{◌≡◌, ◌≢◌, ◌⊎◌, ℕ, true, false, slice_get, None, Some, option_map}
use Rattle.pool_state.specs.declared.contents.Plan.TheVariants.{Replace}
use Rattle.slice_rack.specs.Changes.{Seats}
use Rattle.slice_rack.specs.Sliced.{slices_of}
use Rattle.slice_rack.specs.Slices.{IsOrderly, Slices, seat_of}
use Rattle.array_image.specs.States.{is_current}
use Rattle.gpt_table.specs.declared.Table.{Table}
use Rattle.raid_laws.specs.Enlisting.{Enlists, IsNotWhole, IsRefused, new_table}
use Rattle.raid_rack.specs.declared.arrays.Arrays.{Arrays}
use Rattle.raid_laws.specs.Moves.{KeepsArrays, RaisesBy}
use Rattle.raid_laws.specs.NewDrive.{SeatsDrive}
use Rattle.raid_rack.specs.RaidRack.{IsFit}
use Rattle.raid_laws.specs.Unlost.{KeepsUnlost}
use Rattle.pool.specs.Moment.{views_of}
use Rattle.pool.specs.Calls.{Ends}
use Rattle.rack.specs.Untouched.{KeepsDisk}
use Rattle.pool.specs.Replacing.{IsAdmitted}
use Rattle.pool.specs.View.{View, book, slices_shown}

-- the tables from which a disk is taken in at a place: where the place's drive is missing, those in which the place has given up the disk that it had, and else
-- those that there are
abbrev pub IsVacating : View → ℕ → Slices → Type 0
IsVacating x place t =
    ((is_current (book x).state place ≡ false) × Seats x.slices t place None) ⊎ ((is_current (book x).state place ≡ true) × (t ≡ x.slices))

-- the table that a disk is to have which is taken in at a place
abbrev pub table_on : View → (place disk : ℕ) → Table
table_on x place disk = new_table (book x).state (views_of (book x)) place (x.bay.sectors disk)

-- Nothing is against taking a disk in at a place, and these are the tables from which it is. Nothing was called for them.
pub record Vacates (x : View) (place disk : ℕ) : Type 0 where
  pub admits : IsAdmitted (book x) place (x.bay.sectors disk)
  pub tables : Slices
  pub seats : IsVacating x place tables
  pub orderly : IsOrderly tables
  pub fit : IsFit x.arrays (slices_of tables x.bay)

-- From such tables on the arrays took the disk in at the place, with the units of the drive that it had. The disk that the place had isn't written any more.
pub record EntersBy (x y : View) (place disk : ℕ) : Type 0 where
  pub vacates : Vacates x place disk
  pub units : ℕ
  pub units_is : option_map (λ d. d.units) (slice_get (book x).state.drives.items place) ≡ Some units
  pub seats : SeatsDrive (views_of (book x)) place disk (x.bay.sectors disk) vacates.tables y.slices
  pub enlists : Enlists vacates.tables y.slices (views_of (book x)) place disk units (Replace place) (book x) (book y) x.bay y.bay
  pub former : (d : ℕ) → seat_of x.slices place ≡ Some d → d ≢ disk → KeepsDisk x.shelf.told x.bay y.bay d

-- The disk refused a call while it was laid, and that is all that happened to the arrays.
pub record LaysAlone (x y : View) (place disk : ℕ) : Type 0 where
  pub vacates : Vacates x place disk
  pub slices : y.slices ≡ vacates.tables
  pub same : book y ≡ book x
  pub refused : IsRefused vacates.tables disk (table_on x place disk) (book x) x.bay y.bay

-- A drive was found gone, and the disk isn't taken in. It may be the place's own, where that wasn't missing.
pub record LeavesOut (x y : View) (place disk : ℕ) : Type 0 where
  pub vacates : Vacates x place disk
  pub slices : y.slices ≡ vacates.tables
  pub not_whole : IsNotWhole vacates.tables disk (table_on x place disk) (book x) (book y) x.bay y.bay

-- it was laid and not taken in, for one of these reasons
abbrev pub LeavesBy : View → View → (place disk : ℕ) → Type 0
LeavesBy x y place disk = LaysAlone x y place disk ⊎ LeavesOut x y place disk

-- ---- what comes before, where the place's drive isn't missing

-- All arrays were cleaned, as at the end of a run. Nothing comes to the book but marks.
pub record Cleaned (x y : View) : Type 0 where
  pub ends : Ends x y
  pub raises : RaisesBy 288 (book x) (book y)
  pub plan : (book y).state.plan ≡ (book x).state.plan
  pub arrays : KeepsArrays (book x) (book y)
  pub unlost : KeepsUnlost (book x).state (book y).state (slices_shown x) (slices_shown y)

-- a pool meanwhile: over the bay and with the arrays that there are then, while its slices lie where they lay
abbrev pub meanwhile : (x : View) → x.bays.one → Arrays → (ℕ → ℕ) → View
meanwhile x bay arrays refused = record x { bay = x.bays.seen bay; shelf = x.bays.shelf bay; arrays = arrays; refused = refused }

-- The place's own drive was found gone while the disk was being laid, after a cleaning: it is missing from then on.
pub record LosesOwn (x y : View) (place disk : ℕ) : Type 0 where
  pub bay : x.bays.one
  pub arrays : Arrays
  pub refused : ℕ → ℕ
  pub cleaned : Cleaned x (meanwhile x bay arrays refused)
  pub current : is_current arrays.state place ≡ true
  pub left : LeavesOut (meanwhile x bay arrays refused) y place disk
  pub lost : is_current (book y).state place ≡ false

-- A pool of which the place's drive wasn't missing is ready for the new one: it was cleaned, and it may be that the place's own drive went after that.
abbrev pub Readies : View → View → (place disk : ℕ) → Type 0
Readies x y place disk = Cleaned x y ⊎ LosesOwn x y place disk

-- From such a pool on the disk was taken in.
pub record EntersReady (x y : View) (place disk : ℕ) : Type 0 where
  pub bay : x.bays.one
  pub arrays : Arrays
  pub refused : ℕ → ℕ
  pub readies : Readies x (meanwhile x bay arrays refused) place disk
  pub enters : EntersBy (meanwhile x bay arrays refused) y place disk

-- From such a pool on it was laid and not taken in.
pub record LeavesReady (x y : View) (place disk : ℕ) : Type 0 where
  pub bay : x.bays.one
  pub arrays : Arrays
  pub refused : ℕ → ℕ
  pub readies : Readies x (meanwhile x bay arrays refused) place disk
  pub leaves : LeavesBy (meanwhile x bay arrays refused) y place disk

-- no time passed, slices lie where they lay, and the book is as it was
abbrev pub StaysStill : View → View → Type 0
StaysStill x y = (y.bay.clock ≡ x.bay.clock) × (y.slices ≡ x.slices) × (book y ≡ book x)

-- A disk was taken in at a place: at once where the place's drive was missing, and else from a pool that was made ready.
abbrev pub Enters : View → View → (place disk : ℕ) → Type 0
Enters x y place disk =
    ((is_current (book x).state place ≡ false) × EntersBy x y place disk) ⊎ ((is_current (book x).state place ≡ true) × EntersReady x y place disk)

-- It wasn't, though nothing had been against it: it was laid; or the cleaning found another drive gone.
abbrev pub Declines : View → View → (place disk : ℕ) → Type 0
Declines x y place disk =
    ((is_current (book x).state place ≡ false) × LeavesBy x y place disk)
    ⊎ ((is_current (book x).state place ≡ true) × (Cleaned x y ⊎ LeavesReady x y place disk))
