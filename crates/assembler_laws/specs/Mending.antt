-- What an opening writes to the partition tables of a pool's drives.
use Rattle.std.specs.Prelude.{◌≡◌, ◌⊎◌, ℕ, ◌<◌, Bool, true, is_none, List, filter, Some, None}
use Rattle.rack.specs.Seen.{RackView}
use Rattle.rack.specs.Sequences.{WritesOnly}
use Rattle.pool_state.specs.declared.contents.State.{State}
use Rattle.array_image.specs.States.{current_places}
use Rattle.log_laws.specs.View.{names}
use Rattle.pool_image.specs.Disks.{Seats}
use Rattle.pool_check.specs.Drives.{Goes, flag_by}
use Rattle.pool_check.specs.Settling.{IsSettled, IsTableSector, IsTrueOf, KeepsTable}

-- Both copies of the table of each place's disk were made to agree, but of those places that had gone, where the place's flag is true of it. `left` are the disks of those that are
-- left, and `now` the current places without one: each had none, had gone, or its disk refused a call.
pub record MendsTables (x y : RackView) (s : State) (seats : Seats) (agreed : List Bool) (gone now : List ℕ) : Type 0 where
  pub only : WritesOnly x y (IsTableSector x y seats 16)
  pub left : Seats
  pub listed : now ≡ filter (λ p. is_none (left p)) (current_places s)
  pub out : (p : ℕ) → p < 16 → names gone p ≡ true → left p ≡ None
  pub loses : (p : ℕ) → (left p ≡ seats p) ⊎ ((left p ≡ None) × ((names gone p ≡ true) ⊎ Goes x y seats p))
  pub tables : (d : ℕ) → KeepsTable x y d
  pub settled : (p d : ℕ) → p < 16 → left p ≡ Some d → IsTrueOf x d (flag_by agreed p) → IsSettled x y d
