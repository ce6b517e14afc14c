-- Works of maintenance, as calls of a rack of arrays.
use Rattle.std.specs.Prelude.{◌≡◌, ℕ, ◌-◌, ◌/◌, ◌%◌, ◌<◌, ◌^◌, Bool, true, false, ◌==◌, ◌&&◌, ◌||◌, not, nat_lt, if◌then◌else◌, Result, IsOkAnd, OnErr, is_ok}
use Rattle.std.specs.Option.{option_map_or}
use Rattle.rack.specs.Values.{Values}
use Rattle.rack.specs.Seen.{RackView}
use Rattle.pool_state.specs.declared.contents.Plan.{Plan}
use Rattle.pool_state.specs.declared.contents.Plan.TheVariants.{Nothing, Add, Replace}
use Rattle.pool_state.specs.declared.contents.State.{State}
use Rattle.pool_state.specs.declared.contents.Work.{Work}
use Rattle.pool_state.specs.declared.contents.Work.TheVariants.{Resync, Rebuild, TakeOver, Begin, Reshape, Finish, Make, Zero, Ready, Extend, Close}
use Rattle.array_model.specs.declared.Seat.{Seat}
use Rattle.array_model.specs.declared.Seat.TheVariants.{Whole, Missing, Rebuilding}
use Rattle.array_model.specs.View.{View, rows_of}
use Rattle.array_model.specs.ArrayCalls.{IncludesSpent}
use Rattle.array_core.specs.Seats.{seat_of}
use Rattle.array_core.specs.Superblocks.{is_settled}
use Rattle.sync_laws.specs.Rows.{lacks_row, others_give}
use Rattle.sync_laws.specs.Steps.{DoesRows, reach_on, rebuilt, resynced, rows_left}
use Rattle.raid_laws.specs.Raid.{Raid, is_failed, IsTracked}
use Rattle.raid_laws.specs.Missing.{raised}
use Rattle.raid_laws.specs.Moves.{AreCaused, ChangesData, IsTrackedInCall, IsHeeded, KeepsArrays, OnlyFailures}
use Rattle.raid_laws.specs.Rows.{LeavesRows}

-- ---- which can be done

-- array n has a row left to resync
abbrev pub has_row : Raid → ℕ → Bool
has_row v n = nat_lt n v.state.made && nat_lt (v.arrays n).resync (rows_of (v.arrays n))

-- A row of array n can't be resynced: nothing is left of the array, numbers are used up, or a member of it is missing or not rebuilt
-- past the row.
abbrev pub is_stuck : Raid → ℕ → ℕ → Bool
is_stuck v n row = is_failed v n || lacks_row (v.arrays n) row

-- ---- a step of maintenance

-- the arrays with the step of array m done, which makes `next` of it, or as they were
abbrev pub stepped : Raid → ℕ → View → Bool → ℕ → View
stepped v m next is_done n = if (n == m) && is_done then next else v.arrays n

-- A step of array m, which makes `next` of it: losses are mended and no value moves. The array is as it was, or its step is done, and
-- nothing else has changed of any array but whom it lost. What is answered to have been done is.
pub record StepsOne (v w : Raid) (a b : RackView) (m : ℕ) (next : View) (answered : Bool) : Type 0 where
  pub is_done : Bool
  pub answer : answered ≡ true → is_done ≡ true
  pub brings : ChangesData v w a b (λ n vals. vals)
  pub caused : AreCaused v w a b
  pub heeded : IsHeeded w
  pub arrays : (n : ℕ) → n < v.state.made → OnlyFailures (stepped v m next is_done n) (w.arrays n)
  pub plan : w.state.plan ≡ v.state.plan
  -- once it is done it is durable: no image leaves rows to resync but those that are left after it
  pub durable :
      is_done ≡ true → is_settled next ≡ true → next.young ≡ false
      → (vals : ℕ → Values) (spent : ℕ → Bool) → m < v.state.joined → is_failed w m ≡ false → IncludesSpent (w.arrays m) spent → IsTrackedInCall v a m vals spent
      → LeavesRows w b m

-- The first rows left to resync of array m are resynced, at most so many at once, exactly where the first can be once losses are mended.
pub record Resyncs (v w : Raid) (a b : RackView) (m most : ℕ) {E : Type 0} (result : Result ℕ E) : Type 0 where
  pub rows : DoesRows (λ rows. StepsOne v w a b m (resynced (v.arrays m) rows)) (rows_of (v.arrays m) - (v.arrays m).resync) most result
  pub answer : is_ok result ≡ not (is_stuck w m (v.arrays m).resync)
  pub durable : is_ok result ≡ true → IsTracked v a m → LeavesRows w b m

-- ---- a row of a member that is rebuilt

abbrev pub is_rebuilding_seat : Seat → Bool
is_rebuilding_seat Whole = false
is_rebuilding_seat Missing = false
is_rebuilding_seat (Rebuilding to) = true

-- rows are left to resync from the beginning of a row on, or none is: so in each superblock that a pool writes
abbrev pub is_whole_row : ℕ → Bool
is_whole_row offset = (offset == 2 ^ 64 - 1) || (offset % 128 == 0)

-- array n has a member on a place that is being rebuilt
abbrev pub is_rebuilding : Raid → ℕ → ℕ → Bool
is_rebuilding v n place =
    nat_lt n v.state.made && (option_map_or is_rebuilding_seat (seat_of (v.arrays n) place) false && is_whole_row (v.arrays n).truth.resync_offset)

-- its next row
abbrev pub next_row : View → ℕ → ℕ
next_row u place = reach_on u place / 128

-- The next rows of the member of array m on a place are rebuilt, at most so many at once, where that is answered. It is refused only where, once
-- losses are mended, nothing is left of the array, numbers are used up, another member is missing or not rebuilt past the first of them, or that is left to resync.
pub record Rebuilds (v w : Raid) (a b : RackView) (m place most : ℕ) {E : Type 0} (result : Result ℕ E) : Type 0 where
  pub rows : DoesRows (λ rows. StepsOne v w a b m (rebuilt (v.arrays m) place rows)) (rows_left (v.arrays m) place) most result
  pub refused : OnErr result ((is_failed w m || not (others_give (w.arrays m) place (next_row (v.arrays m) place))) ≡ true)

-- ---- the end of a plan

-- the state without its plan, of the next epoch
abbrev pub closed : State → State
closed s = record s { epoch = raised s.epoch; plan = Nothing }

-- The plan has ended: losses are mended, no value moves, and nothing has changed of any array but whom it lost.
pub record ClosesPlan (v w : Raid) (a b : RackView) : Type 0 where
  pub brings : ChangesData v w a b (λ n vals. vals)
  pub caused : AreCaused v w a b
  pub heeded : IsHeeded w
  pub arrays : KeepsArrays v w
  pub plan : w.state.plan ≡ Nothing

-- a plan that has to end
abbrev pub is_plan : Plan → Bool
is_plan Nothing = false
is_plan (Add place) = true
is_plan (Replace place) = true

-- ---- any work

-- a work is due: its array has such a row left, or the plan hasn't ended
abbrev pub is_due : Raid → Work → Bool
is_due v (Resync array) = has_row v array
is_due v (Rebuild array place) = is_rebuilding v array place
is_due v (TakeOver array) = false
is_due v (Begin array place) = false
is_due v (Reshape array) = false
is_due v (Finish array) = false
is_due v (Make array height) = false
is_due v (Zero array) = false
is_due v (Ready array) = false
is_due v Extend = false
is_due v Close = is_plan v.state.plan

-- what a work does that is due, with those after it of its kind, at most so many at once, and how many are answered to have been done
abbrev pub Does : Work → ℕ → Raid → Raid → RackView → RackView → {E : Type 0} → Result ℕ E → Type 0
Does (Resync array) most v w a b result = Resyncs v w a b array most result
Does (Rebuild array place) most v w a b result = Rebuilds v w a b array place most result
Does (TakeOver array) most v w a b result = ⊥
Does (Begin array place) most v w a b result = ⊥
Does (Reshape array) most v w a b result = ⊥
Does (Finish array) most v w a b result = ⊥
Does (Make array height) most v w a b result = ⊥
Does (Zero array) most v w a b result = ⊥
Does (Ready array) most v w a b result = ⊥
Does Extend most v w a b result = ⊥
Does Close most v w a b result = IsOkAnd result (λ k. k ≡ 1) × ClosesPlan v w a b

-- the array that a work belongs to
abbrev pub array_of : Work → ℕ
array_of (Resync array) = array
array_of (Rebuild array place) = array
array_of (TakeOver array) = array
array_of (Begin array place) = array
array_of (Reshape array) = array
array_of (Finish array) = array
array_of (Make array height) = array
array_of (Zero array) = array
array_of (Ready array) = array
array_of Extend = 0
array_of Close = 0
