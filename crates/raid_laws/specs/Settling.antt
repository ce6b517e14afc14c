-- All arrays are settled: what is added to the log.
use Rattle.std.specs.Prelude.{◌≡◌, ℕ, ◌+◌, ◌*◌, ◌<◌, ◌≤◌, ◌&&◌, Bool, true, false, List, [], length, slice_get, Some}
use Rattle.rack.specs.Values.{Values}
use Rattle.rack.specs.Seen.{RackView}
use Rattle.rack.specs.Targets.{Target}
use Rattle.rack.specs.Sequences.{OnlyReads}
use Rattle.array_image.specs.Places.{super_sector}
use Rattle.array_image.specs.Record.{are_apart}
use Rattle.array_image.specs.Held.{IsSynced}
use Rattle.array_model.specs.declared.Seat.TheVariants.{Missing}
use Rattle.array_model.specs.View.{View, has_gone, shape_of}
use Rattle.array_model.specs.Members.{slice_on}
use Rattle.array_model.specs.ArrayCalls.{IncludesSpent}
use Rattle.array_model.specs.Stages.{AmongTargets}
use Rattle.array_core.specs.Seats.{gone as without}
use Rattle.array_core.specs.Staging.{AddsSupersOf}
use Rattle.array_core.specs.Superblocks.{left_offset}
use Rattle.pool_state.specs.declared.contents.State.{State}
use Rattle.array_image.specs.States.{is_current, current_places}
use Rattle.log_laws.specs.View.{LogView, names}
use Rattle.raid_laws.specs.Missing.{marked}
use Rattle.raid_laws.specs.Losses.{AddsCopies}
use Rattle.raid_laws.specs.Raid.{Raid, gone_in, is_failed}
use Rattle.raid_laws.specs.Moves.{IsTrackedInCall, IsSet, IsUnmarked, ChangesNoData}

-- a target is the superblock of a member of one of the first arrays, one that isn't missing
pub record IsSuperOf (v : Raid) (k : ℕ) (x : Target) : Type 0 where
  pub array : ℕ
  pub low : array < k
  pub position : ℕ
  pub inside : position < (v.arrays array).truth.raid_disks
  pub there : slice_get (v.arrays array).seats position ≡ Some Missing → ⊥
  pub disk : x.disk ≡ slice_on (v.arrays array) position
  pub sector : x.sector ≡ super_sector

-- the superblocks of an array are among some targets
pub record HasSupers (u : View) (xs : List Target) : Type 0 where
  pub before : List Target
  pub added : List Target
  pub adds : AddsSupersOf u before added
  pub among : (x : Target) → AmongTargets x adds.targets → AmongTargets x xs
  pub unmarked : IsUnmarked u

-- targets are the superblocks of the first arrays, and nothing else
pub record HasStaged (v : Raid) (k : ℕ) (xs : List Target) : Type 0 where
  pub only : (x : Target) → AmongTargets x xs → IsSuperOf v k x
  pub apart : are_apart xs ≡ true
  pub each : (n : ℕ) → n < k → HasSupers (v.arrays n) xs
  pub few : length xs ≤ 16 * k

-- The first arrays were settled: their members are synced, and their superblocks added.
pub record SettlesTo (v w : Raid) (a b : RackView) (k : ℕ) (xs : List Target) : Type 0 where
  pub moves : ChangesNoData v w a b
  pub reads : OnlyReads a b
  pub same : w.state ≡ v.state
  pub number : w.number ≡ v.number
  -- with one more event each
  pub raised : (n : ℕ) → n < v.state.made → (w.arrays n).truth.events ≤ (v.arrays n).truth.events + 1
  pub rest : (n : ℕ) → n < v.state.made → k ≤ n → (w.arrays n).truth.events ≡ (v.arrays n).truth.events
  -- with the rows to resync that are left
  pub left : (n : ℕ) → n < v.state.made → n < k → (v.arrays n).young ≡ false → (w.arrays n).truth.resync_offset ≡ left_offset (v.arrays n)
  pub went : (n p : ℕ) → n < v.state.made → has_gone (v.arrays n) p ≡ true → has_gone (w.arrays n) p ≡ true
  pub staged : HasStaged w k xs
  pub settled :
      (n : ℕ) (vals : ℕ → Values) (spent : ℕ → Bool) → n < k → n < v.state.joined → is_failed w n ≡ false → IncludesSpent (w.arrays n) spent
      → IsTrackedInCall v a n vals spent → IsSynced (shape_of (w.arrays n)) n b.held

-- the state that marks the lost places, as the log is to bring it
abbrev pub state_after : Raid → List ℕ → State
state_after v lost = marked lost v.state

-- The losses that are noted in all arrays, and the log to be committed: superblocks of all arrays and copies of the marked state.
pub record IsMarking (v : Raid) (lost on : List ℕ) (l : LogView) (xs : List Target) (x : RackView) : Type 0 where
  pub set : IsSet v x
  pub staged : HasStaged v v.state.made xs
  pub copies : AddsCopies (state_after v lost) on xs l.added
  pub number : l.number ≡ v.number
  pub lost_is : (p : ℕ) → names lost p ≡ (is_current v.state p && gone_in v p)
  pub noted : (n p : ℕ) → n < v.state.made → names lost p ≡ true → has_gone (v.arrays n) p ≡ true
  -- where nobody is listed in an array once others are noted, nobody was before
  pub fresh : (n : ℕ) (gone : List ℕ) → n < v.state.made → (without gone (v.arrays n)).went ≡ [] → (v.arrays n).went ≡ []
  pub on_is : on ≡ current_places (state_after v lost)
