-- What happens to the book of a rack of arrays between two changes of it: losses alone.
use Rattle.std.specs.Prelude.{◌≡◌, ℕ, ◌<◌, ◌≤◌}
use Rattle.raid_laws.specs.Book.{OnlyMarksSince}
use Rattle.raid_laws.specs.Moves.{KeepsArrays}
use Rattle.raid_laws.specs.Raid.{Raid}

-- Marks alone come to the book, and numbers rise: the plan goes on, and nothing of an array changes but whom it lost, its events, the rows
-- that its superblocks leave and its mark.
pub record LosesBook (v w : Raid) : Type 0 where
  pub marks : OnlyMarksSince v.state w.state
  pub plan : w.state.plan ≡ v.state.plan
  pub arrays : KeepsArrays v w
  pub number : v.number ≤ w.number
  pub events : (n : ℕ) → n < v.state.made → (v.arrays n).truth.events ≤ (w.arrays n).truth.events
