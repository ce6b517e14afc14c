-- What calls of a pool keep of its book: the state and the arrays, by which sectors are spent.
use Rattle.std.specs.Prelude.{◌≡◌, ◌≢◌, ℕ, ◌*◌, ◌^◌, ◌<◌, ◌≤◌, true}
use Rattle.pool_state.specs.declared.contents.State.{State}
use Rattle.array_image.specs.States.{is_current}
use Rattle.array_model.specs.View.{View as ArrayView, HasGeometry, member_on, place_at}
use Rattle.raid_laws.specs.Moves.{KeepsArrays, RaisesBy}
pub use Rattle.raid_laws.specs.Raid.{HasMarkedSeats}
use Rattle.raid_laws.specs.Raid.{Raid}
use Rattle.pool.specs.View.{View, book}

-- An array after calls: it has the members and the sectors that it had, no row is left to resync that wasn't, and each member counts as
-- far as it did, unless its drive is marked missing by the state.
pub record KeepsArray (s : State) (u w : ArrayView) : Type 0 where
  pub geometry : HasGeometry u.truth w.truth
  pub young : w.young ≡ u.young
  pub rows : u.resync ≤ w.resync
  pub members : (k : ℕ) → k < u.truth.raid_disks → is_current s (place_at w k) ≡ true → (member_on u k).reach ≤ (member_on w k).reach

-- So each array of a book. What is spent after calls and wasn't before them is so by drives that were marked meanwhile, or by numbers that
-- came to their end.
abbrev pub KeepsBook : Raid → Raid → Type 0
KeepsBook v w = (n : ℕ) → n < v.state.made → KeepsArray w.state (v.arrays n) (w.arrays n)

-- Works are left as they were but for losses: nothing of an array changes but whom it lost, its events, the rows that its superblocks leave, and its mark; and the plan stays.
pub record KeepsWorks (v w : Raid) : Type 0 where
  pub arrays : KeepsArrays v w
  pub plan : w.state.plan ≡ v.state.plan

-- The same of an array of which the member of one place is a new one: that is to be rebuilt from its start.
pub record KeepsArrayBut (place : ℕ) (s : State) (u w : ArrayView) : Type 0 where
  pub geometry : HasGeometry u.truth w.truth
  pub young : w.young ≡ u.young
  pub rows : u.resync ≤ w.resync
  pub members :
      (k : ℕ) → k < u.truth.raid_disks → is_current s (place_at w k) ≡ true → place_at w k ≢ place → (member_on u k).reach ≤ (member_on w k).reach

abbrev pub KeepsBookBut : ℕ → Raid → Raid → Type 0
KeepsBookBut place v w = (n : ℕ) → n < v.state.made → KeepsArrayBut place w.state (v.arrays n) (w.arrays n)

-- No call raises the log's number, the epoch or an array's events by more.
abbrev pub most_raised : ℕ
most_raised = 2 ^ 20

-- so many calls
abbrev pub Raises : ℕ → View → View → Type 0
Raises calls x y = RaisesBy (most_raised * calls) (book x) (book y)
