-- What the mending of losses makes of a book: marks, and superblocks written anew.
use Rattle.std.proofs.Common.{◌≡◌, ℕ, ◌<◌, true, false, List, [], ◌∷◌, length, slice_get, Some}
use Rattle.rack.specs.Values.{Values}
use Rattle.rack.specs.Seen.{RackView}
use Rattle.pool_state.specs.declared.contents.State.{State}
use Rattle.array_image.specs.Held.{IsSynced}
use Rattle.array_image.specs.States.{is_current}
use Rattle.array_model.specs.declared.Seat.TheVariants.{Missing}
use Rattle.array_model.specs.View.{place_at, shape_of, View}
use Rattle.array_core.specs.Superblocks.{left_offset}
use Rattle.raid_laws.specs.Moves.{AreMarked, OnlyFailures}
use Rattle.raid_laws.specs.Raid.{Raid}
use Rattle.transition_laws.specs.Changes.{by, Change, closed, enlists, failed, makes as makes_array, readied, steps, wrote}
use Rattle.transition_laws.specs.Holds.{IsPromised, Promise, Stands}
use Rattle.transition_laws.specs.Makes.{Makes}

-- ---- a run of a book

-- An array of a run, w, where the book has u by this state: it has lost members alone, whom the book may still have, and leaves the rows that u leaves.
-- Members of the book's array are missing whose places aren't current.
pub record IsRunArray (s : State) (u w : View) : Type 0 where
  pub only : OnlyFailures u w
  pub count : length u.seats ≡ u.truth.raid_disks
  pub missing : (k : ℕ) → k < u.truth.raid_disks → is_current s (place_at u k) ≡ false → slice_get u.seats k ≡ Some Missing
  pub left : left_offset w ≡ left_offset u

-- v is a run of the book d: nobody who went in it is marked in the book, and nothing else is between them.
pub record IsRunOf (d v : Raid) : Type 0 where
  pub same : v.state ≡ d.state
  pub arrays : (n : ℕ) → n < d.state.made → IsRunArray d.state (d.arrays n) (v.arrays n)

-- ---- losses

-- the change marks places and writes superblocks anew
abbrev pub is_loss : Change → Type 0
is_loss (steps n next) = ⊥
is_loss (makes_array next) = ⊥
is_loss readied = ⊥
is_loss closed = ⊥
is_loss (enlists place units plan joining) = ⊥
is_loss (failed lost events) = Unit {0}
is_loss (wrote n) = ⊥

abbrev pub AreLosses : List Change → Type 0
AreLosses [] = Unit {0}
AreLosses (x ∷ xs) = is_loss x × AreLosses xs

-- Calls mark losses, of a run of the book d: this is all that they make of the book, and after them the run is one of the book that has the marks.
pub record MakesLosses (d v w : Raid) (a b : RackView) : Type 0 where
  pub changes : List Change
  pub losses : AreLosses changes
  pub makes : (vals : ℕ → ℕ → Values) → Makes changes d v w vals vals a b
  pub run : IsRunOf (by changes d) w
  -- none where whoever went is marked
  pub none : AreMarked v → changes ≡ []

-- The first arrays were settled: this makes no change of any book that the run has. Each member has one value a sector then, and the array's truth leaves
-- the rows that are left in it.
pub record SettlesBook (v w : Raid) (k : ℕ) (a b : RackView) : Type 0 where
  pub makes : (d : Raid) (vals : ℕ → ℕ → Values) → v.state ≡ d.state → Makes [] d v w vals vals a b
  pub settled :
      (d : Raid) (vals : ℕ → ℕ → Values) (p : Promise) → v.state ≡ d.state → IsPromised p w → Stands d v p vals a → (n : ℕ) → p.live n ≡ true → n < d.state.made → n < k
      → IsSynced (shape_of (w.arrays n)) n b.held
  pub left : (n : ℕ) → n < v.state.made → left_offset (w.arrays n) ≡ left_offset (v.arrays n)
  pub offset : (n : ℕ) → n < v.state.made → n < k → (w.arrays n).truth.resync_offset ≡ left_offset (w.arrays n)
