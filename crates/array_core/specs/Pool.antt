-- What calls that write need of the pool.
use Rattle.std.specs.Prelude.{◌≡◌, ℕ, ◌-◌, ◌<◌, ◌^◌, true, false, List, []}
use Rattle.rack.specs.Seen.{RackView, SameRack, IsLive}
use Rattle.rack.specs.Moments.{Leaves}
use Rattle.pool_state.specs.declared.contents.State.{State}
use Rattle.array_image.specs.Places.{member_slice, super_sector}
use Rattle.array_image.specs.States.{is_current}
use Rattle.log_laws.specs.Kept.{LogInvariant, AreLeft}
use Rattle.array_model.specs.View.{View, has_gone, is_whole_array, shape_of}
use Rattle.array_model.specs.Says.{IsOpen}
use Rattle.array_model.specs.Stages.{IsStateOf}
use Rattle.array_core.specs.Staging.{HasRowRebuilds}

-- What superblocks that are written directly need: images go by the run's marks, nobody went since they were last heeded, each
-- superblock is told, members are rebuilt by whole rows, and one more event can be told from the one before.
pub record MayRenew (s : State) (v : View) (a : RackView) : Type 0 where
  pub state : IsStateOf v s
  pub fresh : v.went ≡ []
  pub supers : (place : ℕ) → place < 16 → super_sector < a.sectors (member_slice place v.number) → IsLive a a (member_slice place v.number) super_sector
  pub rows : HasRowRebuilds v
  pub events : v.truth.events < 2 ^ 63 - 1

-- What a write needs, where v and w are the array before it and after it: images go by the run's marks, nobody went since they were
-- last heeded, an array that was marked is whole still, the log is kept for the places of `on`, which are all current ones, its
-- number isn't at its end, and one of them is left.
pub record MayCommit (s : State) (v w : View) (number : ℕ) (on : List ℕ) (a : RackView) : Type 0 where
  pub renew : MayRenew s v a
  pub opened : IsOpen (shape_of v) v.number a
  pub steady : v.marked ≡ true → is_whole_array v ≡ true
  pub log : LogInvariant s number (λ place. false) a
  pub room : number < 2 ^ 63 - 1
  pub places : AreLeft s (λ place. false) on
  pub someone : (place : ℕ) × (is_current s place ≡ true) × (has_gone w place ≡ false)

-- the frame of calls, whatever holds: time goes on, and the past stays
pub record Goes (a b : RackView) : Type 0 where
  pub stays : SameRack a b
  pub leaves : a.traced → Leaves a b (λ c. Unit {0})

-- What one commit of a row needs of the pool, where v and w are the array before it and after it.
pub record MayLog (s : State) (v w : View) (number : ℕ) (on : List ℕ) (a : RackView) : Type 0 where
  pub state : IsStateOf v s
  pub opened : IsOpen (shape_of v) v.number a
  pub log : LogInvariant s number (λ place. false) a
  pub room : number < 2 ^ 63 - 1
  pub places : AreLeft s (λ place. false) on
  pub someone : (place : ℕ) × (is_current s place ≡ true) × (has_gone w place ≡ false)
