-- Why no volume was opened, by what was read of the disks, whatever these tell and whoever goes.
use Rattle.std.specs.Prelude.{◌≡◌, ◌⊎◌, ℕ, ◌≤◌, Bool, true, false, List, slice_get, Option, Some, None}
use Rattle.rack.specs.Seen.{RackView}
use Rattle.rack.specs.Sequences.{OnlyReads}
use Rattle.slice_rack.specs.Slices.{Slices, seat_of}
use Rattle.slice_rack.specs.Runs.{Runs}
use Rattle.slice_rack.specs.SliceRack.{below_of, tables}
use Rattle.slice_rack.specs.Sliced.{slices_of}
use Rattle.lvm_group.specs.Opening.{IsBadVolume}
use Rattle.pool_state.specs.declared.contents.State.{State}
use Rattle.array_model.specs.View.{View, IsSameArray}
use Rattle.log_laws.specs.View.{LogView}
use Rattle.pool_image.specs.Disks.{Seats}
use Rattle.pool_scan.specs.declared.Known.{Known}
use Rattle.pool_scan.specs.Choosing.{seat_by}
use Rattle.pool_scan.specs.Scanning.{AllTold, copied_at, copied_on, now_in}
use Rattle.pool_rest.specs.declared.standing.FindFault.{FindFault}
use Rattle.pool_rest.specs.Resting.{IsRefused, WritesDrives}
use Rattle.pool_rest.specs.Standing.{FindsLeft, IsLaid, IsLasting, IsNewest, IsOnePool, since}
use Rattle.pool_check.specs.declared.CheckFault.{CheckFault}
use Rattle.pool_check.specs.declared.Checked.{Checked}
use Rattle.pool_check.specs.Checking.{IsChecked}
use Rattle.pool_check.specs.Drives.{AreCopied, AreDrivesOf, Drives, Loses, found_with}
use Rattle.pool_check.specs.Refusing.{CountsAbsent, absent_among, is_well, refusal_by}
use Rattle.raid_rack.specs.declared.arrays.RaidRack.{RaidRack}
use Rattle.raid_laws.specs.Book.{OnlyMarksSince}
use Rattle.raid_rack.specs.declared.arrays.Arrays.{Arrays}
use Rattle.raid_rack.specs.AllRuns.{Serves}
use Rattle.raid_laws.specs.Raid.{is_used_up, raid_of}
use Rattle.raid_rack.specs.RaidRack.{IsFit, arrays_in, raid_by, refused_in, slices_in, written_in}
use Rattle.raid_laws.specs.Runs.{RaidRuns}
use Rattle.assembler.specs.declared.refusal.Refusal.{Refusal}
use Rattle.assembler.specs.declared.refusal.Refusal.TheVariants.{BadVolume, Memory}
use Rattle.assembler_laws.specs.Marking.{AreMarkedFor}
use Rattle.assembler_laws.specs.Members.{AreMembers}
use Rattle.assembler.specs.Refusing.{by_check, by_finding, refused_left}

-- No pool was found, or two, by what was read of the copies on the disks: before anything was written, or once the pending record was.
pub record FindsNoPool (x y : RackView) (why : Refusal) : Type 0 where
  pub fault : FindFault
  pub said : why ≡ by_finding fault
  pub cause : IsRefused x y fault

-- The log slices of the pool's drives were read, and the disks are y then: `bad` is the lowest place whose log isn't well formed, of those
-- whose disk refused no call.
pub record HasReadLogs (x y : RackView) (known : List Known) (s : State) (bad : Option ℕ) : Type 0 where
  pub slices : Slices
  pub on : List ℕ
  pub log : LogView
  pub is_pending : Bool
  pub laid : IsLaid y known s slices on
  pub finds : FindsLeft x y known s slices on log is_pending bad

-- The drives of a pool didn't pass their check, where the disks were x before the opening, y at rest and z after the check. A place has lost its
-- disk only where that refused a call, and of each disk that is left the copy was read that it holds. The refusal is the first one of the
-- pool that the disks left make, by what they hold. Else it is that of the log that isn't well formed, whose drive went later. Whatever the
-- disks tell it is want of drives exactly where two or more current places have none left, and says how many.
pub record RefusesDrives (x y z : RackView) (known : List Known) (s : State) (bad : Option ℕ) (why : Refusal) : Type 0 where
  pub fault : CheckFault
  pub said : why ≡ by_check fault
  pub only : OnlyReads y z
  pub seats : Seats
  pub loses : Loses x z (seat_by s known) seats
  pub counts : CountsAbsent (absent_among s seats) fault
  pub read : AllTold x → IsLasting x → (place d : ℕ) → seats place ≡ Some d → copied_at known d ≡ copied_on (y.sectors d) (now_in y d)
  pub first : (o : Drives) → AreDrivesOf y seats o → AreCopied known seats o → refused_left bad (found_with s seats o) ≡ Some (refusal_by fault)

-- The drives passed their check, by tables t of their slices: the arrays are those that the disks left make, and their members' slices are laid.
-- A place has lost its disk only where that refused a call, and at most one has none. The disks were x before the opening, y at rest and z after
-- the check.
pub record HasChecked (x y z : RackView) (known : List Known) (s : State) (t : Slices) (checked : Checked) : Type 0 where
  pub only : OnlyReads y z
  pub absent : List ℕ
  pub members : AreMembers s t z checked absent
  pub loses : Loses x z (seat_by s known) (seat_of t)
  pub few : absent_among s (seat_of t) ≤ 1
  pub are : (o : Drives) → AreDrivesOf y (seat_of t) o → AreCopied known (seat_of t) o → IsChecked (is_well None) (found_with s (seat_of t) o) checked

-- A rack of arrays, by what stands in it: the arrays with their state and log, the slices of their members, the rack of drives below, the spent
-- answers of each array so far, and the arrays that it has written.
pub record ArraysOn (R : Type 0) : Type 0 where
  pub arrays : Arrays
  pub slices : Slices
  pub below : R
  pub refused : ℕ → ℕ
  pub written : ℕ → Bool

abbrev pub arrays_on : {R : Type 0} → RaidRack R → ArraysOn R
arrays_on rack = record {
  arrays = arrays_in rack;
  slices = tables (slices_in rack);
  below = below_of (slices_in rack);
  refused = refused_in rack;
  written = written_in rack;
}

-- what its slices show, and what it shows as a rack
abbrev pub slices_on : {R : Type 0} → (R → RackView) → ArraysOn R → RackView
slices_on seen x = slices_of x.slices (seen x.below)

abbrev pub seen_on : {R : Type 0} → (R → RackView) → ArraysOn R → RackView
seen_on seen x = raid_of (IsFit x.arrays (slices_on seen x)) x.refused (raid_by x.arrays) (slices_on seen x)

-- No memory could be had to open a volume: nothing was written on the arrays, and numbers aren't used up. Or they are.
abbrev pub IsShortOn : {R : Type 0} → (R → RackView) → ArraysOn R → ArraysOn R → Type 0
IsShortOn seen x y = (OnlyReads (seen_on seen x) (seen_on seen y) × (is_used_up (raid_by y.arrays) ≡ false)) ⊎ (is_used_up (raid_by y.arrays) ≡ true)

-- An array's part of the volume group is bad, the lowest such array, by what was read of the arrays. Nothing was written on them, and numbers aren't used up.
pub record IsBadOn {R : Type 0} (seen : R → RackView) (x y : ArraysOn R) (array : ℕ) : Type 0 where
  pub reads : OnlyReads (seen_on seen x) (seen_on seen y)
  pub bad : IsBadVolume (raid_by x.arrays).state.pool.0 (raid_by x.arrays).state.extent (raid_by x.arrays).state.joined (seen_on seen x) (seen_on seen y) array
  pub unused : is_used_up (raid_by y.arrays) ≡ false

-- Arrays were made over the slices of a pool's drives, and no volume was opened on them. They are those that the disks left make, with those drives
-- marked missing that were so, had no disk or refused a call, and were `last` in the end. The rack was `mid` at rest.
pub record RefusesArrays {R : Type 0} (seen : R → RackView) (runs : R → R → Type 0) (rack mid back : R) (known : List Known) (s : State) (why : Refusal) : Type 0 where
  pub at : R
  pub made : ArraysOn R
  pub last : ArraysOn R
  pub kept : runs mid at × runs at made.below
  pub checked : Checked
  pub drives : HasChecked (seen rack) (seen mid) (seen at) known s made.slices checked
  pub book : OnlyMarksSince s (raid_by made.arrays).state
  pub marks : AreMarkedFor (seen rack) (seen made.below) (seat_by s known) s (raid_by made.arrays).state
  pub arrays : (n : ℕ) (v : View) → slice_get checked.arrays.items n ≡ Some v → IsSameArray v ((raid_by made.arrays).arrays n)
  pub fit : IsFit made.arrays (slices_on seen made)
  -- what the calls on them keep
  pub slices : Runs made.slices last.slices (seen made.below) (seen last.below) (runs made.below last.below)
  pub raid : RaidRuns made.written last.written (raid_by made.arrays) (raid_by last.arrays) (slices_on seen made) (slices_on seen last)
  pub serves : Serves (raid_by made.arrays) (raid_by last.arrays) made.refused last.refused
  pub back_is : last.below ≡ back
  pub cause : ((why ≡ Memory) × IsShortOn seen made last) ⊎ ((array : ℕ) × (why ≡ BadVolume array) × IsBadOn seen made last array)

-- A pool was found and brought to rest, and the rack was `mid` then: by what was read of its disks the state is the newest one, of one
-- pool, and the logs are those of its drives. Its drives were refused, or its arrays.
pub record RefusesPool {R : Type 0} (seen : R → RackView) (runs : R → R → Type 0) (rack back : R) (why : Refusal) : Type 0 where
  pub mid : R
  pub kept : runs rack mid
  pub early : WritesDrives (seen rack) (seen mid)
  pub known : List Known
  pub state : State
  pub newest : AllTold (seen rack) → IsLasting (seen rack) → IsNewest (since (seen rack) (seen mid)) (seen mid) known state
  pub one : IsOnePool known state
  pub bad : Option ℕ
  pub logs : HasReadLogs (seen rack) (seen mid) known state bad
  pub cause : RefusesDrives (seen rack) (seen mid) (seen back) known state bad why ⊎ ((bad ≡ None) × RefusesArrays seen runs rack mid back known state why)

-- the first cause in the order of refusals
abbrev pub HasRefusalCause : {R : Type 0} → (R → RackView) → (R → R → Type 0) → R → R → Refusal → Type 0
HasRefusalCause seen runs rack back why = FindsNoPool (seen rack) (seen back) why ⊎ RefusesPool seen runs rack back why
