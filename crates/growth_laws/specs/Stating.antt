-- The commit of a book's state, which the book has made already what it is to be.
use Rattle.std.specs.Prelude.{◌≡◌, ℕ, ◌<◌, List}
use Rattle.rack.specs.Seen.{RackView}
use Rattle.rack.specs.Targets.{Target}
use Rattle.array_image.specs.States.{current_places}
use Rattle.log_laws.specs.Commits.{CommitCall}
use Rattle.log_laws.specs.View.{LogView, next_number}
use Rattle.array_core.specs.Seats.{gone as without}
use Rattle.raid_laws.specs.Losses.{AddsCopies}
use Rattle.raid_laws.specs.Raid.{Raid}

-- One commit has these superblocks and a copy of the state for each of its current places. Whoever goes in it is noted in all arrays, and nothing else
-- of the book changes but the log's number.
pub record CommitsState (v w : Raid) (supers : List Target) (a b : RackView) : Type 0 where
  pub on : List ℕ
  pub gone : List ℕ
  pub log : LogView
  pub on_is : on ≡ current_places v.state
  pub copies : AddsCopies v.state on supers log.added
  pub number : log.number ≡ v.number
  pub call : CommitCall log on gone a b
  pub arrays : (n : ℕ) → n < v.state.made → w.arrays n ≡ without gone (v.arrays n)
  pub state : w.state ≡ v.state
  pub next : w.number ≡ next_number log.number
