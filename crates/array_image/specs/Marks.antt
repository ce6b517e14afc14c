-- Lost drives: what a mark in the state does to the arrays, and what must hold before it is made.
use Rattle.std.specs.Prelude.{◌≡◌, ℕ, Bool, ◌&&◌, not, if◌then◌else◌, map, length}
use Rattle.rack.specs.Values.{Values, MayLeave}
use Rattle.rack.specs.Seen.{Image, Held}
use Rattle.pool_state.specs.declared.contents.State.{State}
use Rattle.array_image.specs.States.{is_current}
use Rattle.array_image.specs.Arrays.{Member, Shape, value_by}
use Rattle.array_image.specs.Held.{current_in, PicksData}

-- a member that has gone counts no more
abbrev pub unless_gone : Bool → Member → Member
unless_gone gone m = record { place = m.place; reach = if gone then 0 else m.reach; is_there = not gone && m.is_there; is_whole = not gone && m.is_whole }

-- so does each one whose place is lost
abbrev pub lower : (ℕ → Bool) → Member → Member
lower lost m = unless_gone (lost m.place) m

-- an array without some places
abbrev pub lowered : (ℕ → Bool) → Shape → Shape
lowered lost shape = record {
  members = map (lower lost) shape.members;
  size = shape.size;
  moved = shape.moved;
  layout = shape.layout;
  reached = shape.reached;
}

-- a state that marks some places more, and is the same in all else that arrays go by
pub record Marks (before : State) (lost : ℕ → Bool) (after : State) : Type 0 where
  pub current : (place : ℕ) → is_current after place ≡ (is_current before place && not (lost place))
  pub pool : after.pool ≡ before.pool
  pub extent : after.extent ≡ before.extent
  pub drives : length after.drives.items ≡ length before.drives.items

-- What the arrays' sectors hold, while a loss is noted and not yet marked. Images go by `durable`, the shape that their marks
-- give; the run goes by `noted`, without the places that are lost.
pub record IsCarried (durable noted : Shape) (array : ℕ) (vals : ℕ → Values) (live : ℕ → Type 0) (held : Held) : Type 0 where
  -- whatever a stop leaves gives a value that the sector holds
  pub picks : (c : Image) → PicksData durable array held c → (x : ℕ) → live x → MayLeave (vals x) (value_by durable c array x)
  -- those that are left give its current value
  pub current : (x : ℕ) → live x → value_by noted (current_in held) array x ≡ (vals x).current
