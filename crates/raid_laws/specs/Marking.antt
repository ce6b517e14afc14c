-- The commit that marks losses: what its targets make of an array.
use Rattle.std.specs.Prelude.{◌≡◌, ◌⊎◌, ℕ, Bool, true, List, Some}
use Rattle.rack.specs.Values.{Values}
use Rattle.rack.specs.Seen.{Image, RackView}
use Rattle.rack.specs.Moments.{Leaves}
use Rattle.rack.specs.Seen.{SameRack}
use Rattle.rack.specs.Targets.{Target, look, put}
use Rattle.md_super.specs.declared.superblock.Super.{Super}
use Rattle.pool_state.specs.declared.contents.State.{State}
use Rattle.array_image.specs.Places.{slice_of, super_sector}
use Rattle.array_image.specs.States.{state_in}
use Rattle.array_image.specs.Supers.{truth_in}
use Rattle.array_image.specs.SoundArray.{array_fields, IsSoundArray}
use Rattle.array_image.specs.Arrays.{Shape, shape_in, replayed}
use Rattle.array_image.specs.Left.{IsInside, Picks}
use Rattle.array_model.specs.View.{View}
use Rattle.array_model.specs.Says.{ImageShowsArray, HasNoOthers}
use Rattle.log_laws.specs.Saying.{HoldsCopies}
use Rattle.raid_laws.specs.Book.{OnlyMarksSince}
use Rattle.raid_laws.specs.Frames.{Frame, KeepsFrame, frame_of}
use Rattle.raid_laws.specs.Logs.{KeepsLogs}
use Rattle.raid_laws.specs.Raid.{Raid, InvariantInCall}
use Rattle.raid_laws.specs.Reach.{KeepsReach}

-- the targets are copies of a state and superblocks
abbrev pub NoData : List Target → Type 0
NoData xs = (d t : ℕ) (w : List ℕ) → look xs d t ≡ Some w → (slice_of d ≡ 0) ⊎ (t ≡ super_sector)

-- By the new state and with the targets written, an array has the shape that the run noted, with superblocks that agree; where
-- the run has it marked, its rows are left to resync. No other place has a superblock of it.
pub record Restates (t : State) (noted : Shape) (marked : Bool) (view : View) (xs : List Target) (a : RackView) (n : ℕ) : Type 0 where
  pub shape_is : (c : Image) → Picks a c → shape_in t (put a.sectors xs c) n ≡ Some noted
  pub sound : (c : Image) → Picks a c → (u : Super) → truth_in t (put a.sectors xs c) n ≡ Some u → IsSoundArray t (put a.sectors xs c) n u
  pub dirty : marked ≡ true → (c : Image) → Picks a c → (u : Super) → truth_in t (put a.sectors xs c) n ≡ Some u → u.resync_offset ≡ 0
  pub truth : (c : Image) → Picks a c → (u : Super) → truth_in t (put a.sectors xs c) n ≡ Some u → array_fields u ≡ array_fields view.truth
  pub alone : (c : Image) → Picks a c → HasNoOthers view t (put a.sectors xs c)

-- Replayed contents have a state between two, and say by it an array whose sectors hold these values.
pub record SaysBetween (s t : State) (n : ℕ) (vals : ℕ → Values) (spent : ℕ → Bool) (r : Image) : Type 0 where
  pub state : State
  pub is_state : state_in r ≡ Some state
  pub later : OnlyMarksSince s state
  pub sooner : OnlyMarksSince state t
  pub shape : Shape
  pub says : ImageShowsArray state n shape vals spent r

-- So they do, and by that shape its members count at least as far as by the first one, and no further than by the last one.
pub record TiedBetween (s t : State) (first last : Shape) (n : ℕ) (vals : ℕ → Values) (spent : ℕ → Bool) (r : Image) : Type 0 where
  pub says : SaysBetween s t n vals spent r
  pub from : KeepsReach says.state first says.shape
  pub to : KeepsReach t says.shape last

-- A part of a call, seen from an array that stands before it: at each moment contents say it by a state between the two, and it
-- stands after it.
pub record Part (s t : State) (durable after : Shape) (vals vals_after : ℕ → Values) (spent gone gone_after : ℕ → Bool) (v w : Raid) (a b : RackView) (n : ℕ)
    : Type 0 where
  pub stays : SameRack a b
  pub book : OnlyMarksSince s t
  pub leaves :
      a.traced
      → Leaves a b (λ c. IsInside a.sectors c → InvariantInCall s durable vals spent gone v a n → TiedBetween s t durable after n vals_after spent (replayed a.sectors c))
  pub reach : KeepsReach t durable after
  pub holds : InvariantInCall s durable vals spent gone v a n → InvariantInCall t after vals_after spent gone_after w b n
  pub logs : HoldsCopies s a → InvariantInCall s durable vals spent gone v a n → KeepsLogs s t a b
  pub frame : (g : Frame) → frame_of (v.arrays n).truth ≡ g → InvariantInCall s durable vals spent gone v a n → KeepsFrame g n (w.arrays n) a b
