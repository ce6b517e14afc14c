-- What a step of maintenance does to an array.
use Rattle.std.specs.Prelude.{◌≡◌, ◌⊎◌, ℕ, ◌+◌, ◌-◌, ◌*◌, ◌/◌, ◌%◌, ◌<◌, ◌≤◌, ◌^◌, Bool, true, false, ◌==◌, nat_lt, if◌then◌else◌, List, map, Some, Result, is_ok, IfOk}
use Rattle.std.specs.Option.{option_map_or}
use Rattle.rack.specs.Values.{Values}
use Rattle.rack.specs.Seen.{Image, RackView}
use Rattle.rack.specs.Sequences.{OnlyReads}
use Rattle.pool_state.specs.declared.contents.State.{State}
use Rattle.parity.specs.Xor.{zeros}
use Rattle.raid_map.specs.LeftSymmetric.{row_at}
use Rattle.array_image.specs.Arrays.{layout_at, value_by}
use Rattle.array_image.specs.Held.{IsSynced, current_in}
use Rattle.array_image.specs.Left.{IsLeft}
use Rattle.array_image.specs.SoundArray.{first_unsynced}
use Rattle.array_image.specs.Stripes.{sector_in}
use Rattle.log_laws.specs.Kept.{LogInvariant}
use Rattle.array_model.specs.declared.Seat.{Seat}
use Rattle.array_model.specs.declared.Seat.TheVariants.{Whole, Rebuilding}
use Rattle.array_model.specs.View.{View, has_gone, rows_of, seat_reach, shape_of, spent_in}
use Rattle.array_model.specs.Says.{ArrayInvariant, IsOpen}
use Rattle.array_model.specs.Members.{Notes}
use Rattle.array_model.specs.ArrayCalls.{IncludesSpent, StepRefines, HasFields}
use Rattle.array_core.specs.declared.Spent.{Spent}
use Rattle.array_core.specs.Pool.{MayCommit}
use Rattle.array_core.specs.Seats.{seat_of}
use Rattle.array_core.specs.Slots.{slots_of}
use Rattle.array_core.specs.Staging.{HasRowRebuilds}
use Rattle.array_core.specs.Superblocks.{raised}
use Rattle.array_core.specs.TruthHeld.{HasFewBits, HoldTruth}

-- the member sector from which rows are left to resync once so many aren't, and all ones where none is
abbrev pub offset_after : View → ℕ → ℕ
offset_after v rows = if nat_lt rows (rows_of v) then rows * 128 else 2 ^ 64 - 1

-- the array once its next so many rows left to resync are resynced
abbrev pub resynced : View → (rows : ℕ) → View
resynced v rows = record v {
  truth = record v.truth { events = raised v.truth.events; resync_offset = offset_after v (v.resync + rows) };
  resync = v.resync + rows;
  marked = false;
}

-- how many sectors of a place's member count
abbrev pub reach_on : View → ℕ → ℕ
reach_on v place = option_map_or (seat_reach v.truth.size) (seat_of v place) 0

-- The member of a place is being rebuilt by whole rows, and a row of it is left.
pub record HasRowLeft (v : View) (place : ℕ) : Type 0 where
  pub seat : seat_of v place ≡ Some (Rebuilding (reach_on v place))
  pub left : reach_on v place < v.truth.size
  pub whole : reach_on v place % 128 ≡ 0

-- how many rows of a place's member are left to rebuild
abbrev pub rows_left : View → ℕ → ℕ
rows_left v place = (v.truth.size - reach_on v place) / 128

-- the seat of a member of which so many sectors are rebuilt: it is whole where these are all
abbrev pub rebuilt_seat : ℕ → ℕ → Seat
rebuilt_seat size to = if to == size then Whole else Rebuilding to

-- the array once the next so many rows of a place's member are rebuilt
abbrev pub rebuilt : View → (place rows : ℕ) → View
rebuilt v place rows = record v {
  seats = map (λ s. if s.place == place then rebuilt_seat v.truth.size (reach_on v place + 128 * rows) else s.seat) (slots_of v);
}

-- The array is as it was, or its step is done; places that went are noted, and nothing else has changed.
pub data Stepped (v next w : View) (a b : RackView) : Bool → Type 0 where
  as_it_was : Notes v w a b → Stepped v next w a b false
  done : Notes next w a b → Stepped v next w a b true

-- what an array's sectors hold after it
abbrev pub if_done : {X : Type 0} → Bool → X → X → X
if_done is_done before after = if is_done then after else before

-- What a step needs of the pool, where `next` is the array once it is done: what a commit needs, each sector that counts after it can
-- be called and is told, and its rows left to resync begin with a whole one.
pub record MayStep (s : State) (v next w : View) (number : ℕ) (on : List ℕ) (a : RackView) : Type 0 where
  pub commit : MayCommit s v w number on a
  pub opened : IsOpen (shape_of next) v.number a
  pub whole : (next.truth.resync_offset ≡ 2 ^ 64 - 1) ⊎ (next.truth.resync_offset % 128 ≡ 0)

-- A step of an array by one commit, which makes `next` of it: its values stay.
pub record Steps (v next w : View) (number next_number : ℕ) (on : List ℕ) (a b : RackView) (answered : Bool) : Type 0 where
  pub is_done : Bool
  pub answer : answered ≡ true → is_done ≡ true
  pub view : Stepped v next w a b is_done
  -- where it isn't done nothing was written
  pub idle : is_done ≡ false → OnlyReads a b
  -- what was spent stays so
  pub spent : HasRowRebuilds v → (y : ℕ) → spent_in w y ≡ false → spent_in v y ≡ false
  -- images go by the array before it or after it, and then the array holds what it held
  pub moving :
      (s : State) (vals : ℕ → Values) (spent : ℕ → Bool) → IncludesSpent w spent → MayStep s v next w number on a
      → StepRefines s v next w spent a b vals (if_done is_done (shape_of v) (shape_of next)) vals
  -- once it is done it is durable
  pub durable :
      is_done ≡ true → (s : State) (vals : ℕ → Values) (spent : ℕ → Bool) → IncludesSpent w spent → MayStep s v next w number on a
      → ArrayInvariant s (shape_of v) v vals spent a → (r : Image) → IsLeft b r → HasFields s v.number next.truth r
  -- the log is kept for the next commit
  pub kept : (s : State) → MayStep s v next w number on a → LogInvariant s next_number (has_gone w) b
  -- superblocks that said the array's truth do so after it
  pub truth : HasFewBits v.truth → HoldTruth v a → HoldTruth w b

-- Rows of an array by one commit: at least one, at most so many, and no more than are left. `does rows answered` is what becomes of so
-- many. Where it is answered, it is answered how many.
pub record DoesRows (does : ℕ → Bool → Type 0) (rows_left most : ℕ) {E : Type 0} (result : Result ℕ E) : Type 0 where
  pub rows : ℕ
  pub some : 0 < rows
  pub few : rows ≤ most
  pub left : rows ≤ rows_left
  pub steps : does rows (is_ok result)
  pub answer : IfOk result (λ k. k ≡ rows)

-- rows by a step: `next rows` is the array once so many are done
abbrev pub StepsRows : (v w : View) (next : ℕ → View) (left most number next_number : ℕ) (on : List ℕ) (a b : RackView) (result : Result ℕ Spent) → Type 0
StepsRows v w next left most number next_number on a b result = DoesRows (λ rows. Steps v (next rows) w number next_number on a b) left most result

-- ---- rows of a young array

-- the array as one whose rows left to zero are left to resync
abbrev pub zeroing : View → View
zeroing v = record v { young = false; resync = first_unsynced v.truth }

-- the array once its next so many rows are zeroed
abbrev pub zeroed : View → (rows : ℕ) → View
zeroed v rows = record v {
  truth = record v.truth { events = raised v.truth.events; resync_offset = offset_after v (first_unsynced v.truth + rows) };
  resync = rows_of v;
  marked = false;
}

-- the row of a sector of the array
abbrev pub row_in : View → ℕ → ℕ
row_in v y = row_at (sector_in (layout_at (shape_of v) y) y)

-- a sector of the next so many rows left to zero
abbrev pub IsOfNext : View → (rows y : ℕ) → Type 0
IsOfNext v rows y = (first_unsynced v.truth ≤ row_in (zeroing v) y) × (row_in (zeroing v) y < first_unsynced v.truth + rows)

-- What zeroing rows needs: what a step needs where rows left to zero count as left to resync, the sectors of these rows are spent, and
-- each sector of a member that counts has one value.
pub record MayZero (s : State) (v w : View) (rows : ℕ) (spent : ℕ → Bool) (number : ℕ) (on : List ℕ) (a : RackView) : Type 0 where
  pub step : MayStep s (zeroing v) (resynced (zeroing v) rows) (zeroing w) number on a
  pub covers : IncludesSpent (zeroing w) spent
  pub aside : (y : ℕ) → spent y ≡ false → row_in (zeroing v) y < first_unsynced v.truth
  pub single : IsSynced (shape_of (zeroing v)) v.number a.held

-- Each stop leaves the new superblocks, and zeros in the rows; the members that are left give zeros there, and each sector of theirs has
-- one value.
pub record HasZeros (s : State) (v w : View) (rows : ℕ) (b : RackView) : Type 0 where
  pub durable : (r : Image) → IsLeft b r → HasFields s v.number (zeroed v rows).truth r
  pub current : (y : ℕ) → IsOfNext v rows y → value_by (shape_of (zeroing w)) (current_in b.held) w.number y ≡ zeros 512
  pub zeros : (r : Image) → IsLeft b r → (y : ℕ) → IsOfNext v rows y → value_by (shape_of (zeroing v)) r v.number y ≡ zeros 512
  pub single : IsSynced (shape_of (zeroing w)) w.number b.held

-- A young array zeroes its next so many rows by one commit: the values of the rows before them stay, and those of the rows are zeros.
pub record Zeroes (v w : View) (rows number next_number : ℕ) (on : List ℕ) (a b : RackView) (answered : Bool) : Type 0 where
  pub is_done : Bool
  pub answer : answered ≡ true → is_done ≡ true
  pub view : Stepped v (zeroed v rows) w a b is_done
  pub moving :
      (s : State) (vals : ℕ → Values) (spent : ℕ → Bool) → MayZero s v w rows spent number on a
      → StepRefines s (zeroing v) (resynced (zeroing v) rows) (zeroing w) spent a b vals (if_done is_done (shape_of (zeroing v)) (shape_of (resynced (zeroing v) rows))) vals
  pub row :
      is_done ≡ true → (s : State) (vals : ℕ → Values) (spent : ℕ → Bool) → MayZero s v w rows spent number on a
      → ArrayInvariant s (shape_of (zeroing v)) (zeroing v) vals spent a → HasZeros s v w rows b
  pub kept : (s : State) → MayStep s (zeroing v) (resynced (zeroing v) rows) (zeroing w) number on a → LogInvariant s next_number (has_gone w) b

-- rows of a young array by one commit, as many as are answered
abbrev pub ZeroesRows : (v w : View) (left most number next_number : ℕ) (on : List ℕ) (a b : RackView) (result : Result ℕ Spent) → Type 0
ZeroesRows v w left most number next_number on a b result = DoesRows (λ rows. Zeroes v w rows number next_number on a b) left most result
