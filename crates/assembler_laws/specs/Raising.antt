-- How far an opening raises the numbers that end: those of states, of the log and of superblocks.
use Rattle.std.specs.Prelude.{◌≡◌, ℕ, ◌+◌, ◌≤◌, ◌^◌, List, slice_get, Some}
use Rattle.pool_state.specs.declared.contents.State.{State}
use Rattle.array_model.specs.View.{View}
use Rattle.raid_laws.specs.Raid.{Raid}

-- An opening raises each of them by so many at most. Making a rack of arrays raises them by 35 at most, and then each call of these by 18: an array
-- is called 1039 times at most, and once more all are made to agree.
abbrev pub most_opening : ℕ
most_opening = 2 ^ 20

-- A rack is made of these arrays, a state and a log's number: each rises by so many at most.
pub record RaisesOver (k : ℕ) (s : State) (log : ℕ) (arrays : List View) (v : Raid) : Type 0 where
  pub number : v.number ≤ log + k
  pub epoch : v.state.epoch ≤ s.epoch + k
  pub events : (n : ℕ) (u : View) → slice_get arrays n ≡ Some u → (v.arrays n).truth.events ≤ u.truth.events + k
