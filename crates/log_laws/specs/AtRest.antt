-- Slices as an opening finds them, and what a record that is pending there may bring of a state.
use Rattle.std.specs.Prelude.{◌≡◌, ◌⊎◌, ℕ, ◌<◌, nat_lt, Bool, true, false, ◌&&◌, List, [], Some, None}
use Rattle.rack.specs.Values.{IsSingle}
use Rattle.rack.specs.Seen.{Image, RackView, IsLive}
use Rattle.rack.specs.Targets.{Target, look}
use Rattle.pool_state.specs.declared.contents.Copied.{Copied}
use Rattle.pool_state.specs.declared.contents.State.{State}
use Rattle.array_image.specs.Places.{log_slice}
use Rattle.array_image.specs.Record.{GateAt, pending_at}
use Rattle.array_image.specs.States.{copy_in, state_in, is_current, current_places, id_of}
use Rattle.array_image.specs.Left.{reading}
use Rattle.log_laws.specs.View.{LogView, names, left_of}
use Rattle.log_laws.specs.Phases.{AreLogs}
use Rattle.log_laws.specs.Opening.{Finds}
use Rattle.log_laws.specs.Kept.{IsCopyOf}

-- Slices at rest: each sector of a log slice has one value, `s` is the state that they say, and `on` are its current places that
-- have a log slice, which is whole.
pub record AtRest (s : State) (on : List ℕ) (x : RackView) : Type 0 where
  pub lasting : x.lasting
  pub live : (d t : ℕ) → d < 272 → t < x.sectors d → IsLive x x d t
  pub single : (p t : ℕ) → p < 16 → t < x.sectors (log_slice p) → IsSingle (x.held (log_slice p) t)
  pub state : state_in (reading x) ≡ Some s
  pub places : (p : ℕ) → names on p ≡ (is_current s p && nat_lt 0 (x.sectors (log_slice p)))
  pub slices : AreLogs x.sectors on

-- another state than the one that stands: later, without a current place that wasn't one, and the record is read from one
pub record IsNext (s t : State) (c : Image) : Type 0 where
  pub later : s.epoch < t.epoch
  pub current : (p : ℕ) → is_current t p ≡ true → is_current s p ≡ true
  pub source : (a : GateAt) → pending_at (current_places s) c ≡ Some a → is_current t a.place ≡ true

-- The targets have copies of one state at most, each its place's: of the one that contents have, or of the next.
pub record BringsCopies (s t : State) (xs : List Target) (c : Image) : Type 0 where
  pub copies : (p : ℕ) (u : List ℕ) → look xs (log_slice p) 0 ≡ Some u → IsCopyOf t p u
  pub either : (t ≡ s) ⊎ IsNext s t c

-- What an opening knows once it has looked for the pending record among these places: nobody went, and no log is damaged.
pub record Opened (s t : State) (l : LogView) (on : List ℕ) (x : RackView) : Type 0 where
  pub rest : AtRest s on x
  pub is_pending : Bool
  pub finds : Finds l on (left_of on []) is_pending None (reading x)
  pub brings : BringsCopies s t l.pending (reading x)

-- The copies of the state on slices at rest: on each current place that is there its copy of this state, no other one of its
-- epoch, and on a place that isn't current an earlier one at most.
pub record CopiesAgree (s : State) (gone : ℕ → Bool) (x : RackView) : Type 0 where
  pub own : (p : ℕ) → is_current s p ≡ true → gone p ≡ false → (k : ℕ) × (copy_in (reading x) p ≡ Some (record { state = s; own = k })) × (id_of s k ≡ id_of s p)
  pub same : (p : ℕ) (copy : Copied) → p < 16 → copy_in (reading x) p ≡ Some copy → copy.state.epoch ≡ s.epoch → copy.state ≡ s
  pub earlier : (p : ℕ) (copy : Copied) → p < 16 → is_current s p ≡ false → copy_in (reading x) p ≡ Some copy → copy.state.epoch < s.epoch
