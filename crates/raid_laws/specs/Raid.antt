-- What contracts see of a rack of arrays, and what it shows as a rack.
use Rattle.std.specs.Prelude.{◌≡◌, ℕ, ◌-◌, ◌<◌, ◌^◌, Bool, true, false, ◌==◌, ◌&&◌, ◌||◌, not, nat_lt, slice_get, Some, option_map}
use Rattle.std.specs.List.{list_any, range_with_len}
use Rattle.rack.specs.Values.{Values}
use Rattle.rack.specs.Seen.{Image, Held, RackView, IsLive}
use Rattle.pool_state.specs.declared.contents.State.{State}
use Rattle.array_image.specs.Arrays.{Shape, arrays_in, replayed}
use Rattle.array_image.specs.Places.{member_slice}
use Rattle.array_image.specs.States.{is_current}
use Rattle.array_image.specs.Left.{IsInside}
use Rattle.array_image.specs.SoundArray.{IsWrittenSuper}
use Rattle.array_image.specs.Held.{held_by}
use Rattle.log_laws.specs.Kept.{LogInvariant}
use Rattle.array_model.specs.View.{View, is_missing_seat, place_at, shape_of, sectors_of, spent_in, present, has_gone}
use Rattle.array_model.specs.Says.{ArrayInvariant}

-- what contracts see of it, but for the rack below
pub record Raid : Type 0 where
  pub state : State
  -- by number, those below `made`
  pub arrays : ℕ → View
  -- the number of the log
  pub number : ℕ

-- In each array just those members are missing whose drives are marked.
abbrev pub HasMarkedSeats : Raid → Type 0
HasMarkedSeats v =
    (n k : ℕ) → n < v.state.made → k < (v.arrays n).truth.raid_disks
    → option_map is_missing_seat (slice_get (v.arrays n).seats k) ≡ Some (not (is_current v.state (place_at (v.arrays n) k)))

-- ---- sectors that can't be had

-- Epochs, events and log numbers end at 2^63. Before the last ones every sector is refused, since a change could no more be told
-- from the one before it. A call uses fewer than these.
abbrev pub last_number : ℕ
last_number = 2 ^ 63 - 1024

abbrev pub is_used_up : Raid → Bool
is_used_up v =
    nat_lt last_number v.number
    || (nat_lt last_number v.state.epoch || list_any (λ n. nat_lt last_number (v.arrays n).truth.events) (range_with_len 0 v.state.made))

-- whether a place has gone in a call of one of the arrays, and isn't heeded yet
abbrev pub gone_in : Raid → ℕ → Bool
gone_in v place = nat_lt place 16 && list_any (λ n. has_gone (v.arrays n) place) (range_with_len 0 v.state.made)

-- whether the drive of a place is left
abbrev pub is_left : Raid → ℕ → Bool
is_left v place = is_current v.state place && not (gone_in v place)

-- no drive is left: then two members of each array are missing, and nothing can be marked
abbrev pub is_empty : Raid → Bool
is_empty v = not (list_any (is_left v) (range_with_len 0 16))

-- an array of which nothing is left, or of a pool at its end
abbrev pub is_failed : Raid → ℕ → Bool
is_failed v n = is_empty v || (is_used_up v || (present (v.arrays n).seats == 0))

-- the sectors of an array that can't be had any more
abbrev pub spent_of : Raid → ℕ → ℕ → Bool
spent_of v n y = is_failed v n || spent_in (v.arrays n) y

abbrev pub live_of : Raid → ℕ → ℕ → Type 0
live_of v n y = spent_of v n y ≡ false

-- ---- what is kept

-- what its sectors hold
abbrev pub held_in : Raid → RackView → Held
held_in v x n = held_by (shape_of (v.arrays n)) x.held n

-- An array's truth has the fields that a pool writes. So it is where it was opened on sound contents; nothing is promised of others.
abbrev pub IsWritten : View → Type 0
IsWritten v = IsWrittenSuper v.number v.truth

-- An array in the middle of a call: images have the state s, and go by `durable`, the array's shape by the marks of s; its sectors
-- hold `vals`. `gone` are the places that are noted and not yet marked.
pub record InvariantInCall (s : State) (durable : Shape) (vals : ℕ → Values) (spent : ℕ → Bool) (gone : ℕ → Bool) (v : Raid) (x : RackView) (n : ℕ) : Type 0 where
  pub joined : n < s.joined
  pub few : s.joined < 17
  pub number : (v.arrays n).number ≡ n
  pub log : LogInvariant s v.number gone x
  -- a place is left that images have as current
  pub someone : (place : ℕ) × (is_current s place ≡ true) × (gone place ≡ false)
  pub written : IsWritten (v.arrays n)
  pub holds : ArrayInvariant s durable (v.arrays n) vals spent x

-- each sector of the arrays' slices is told
abbrev pub AreLive : ℕ → RackView → Type 0
AreLive made x =
    (n place t : ℕ) → n < made → place < 16 → t < x.sectors (member_slice place n) → IsLive x x (member_slice place n) t

-- an array between calls, where all marks are durable
pub record IsTracked (v : Raid) (x : RackView) (n : ℕ) : Type 0 where
  pub joined : n < v.state.joined
  pub stood : is_failed v n ≡ false → InvariantInCall v.state (shape_of (v.arrays n)) (held_in v x n) (spent_of v n) (λ place. false) v x n
  pub slices : is_failed v n ≡ false → AreLive v.state.made x

-- ---- as a rack

-- Contents of the arrays that a stop leaves: what the slices that it leaves say once replayed. The run's own sizes and marks are
-- not in it, so it never changes for a moment that is past.
abbrev pub Stops : RackView → ℕ → Image → Type 0
Stops x k c = (below : Image) × x.stops k below × ((n y : ℕ) → c n y ≡ arrays_in (replayed x.sectors below) n y)

-- what stops leave of the slices has nothing where there is no sector
abbrev pub StopsInside : RackView → Type 0
StopsInside x = (k : ℕ) (c : Image) → x.stops k c → IsInside x.sectors c

-- As a rack, where `fit` holds between calls, and `refused` are the spent answers of each array so far.
abbrev pub raid_of : Type 0 → (ℕ → ℕ) → Raid → RackView → RackView
raid_of fit refused v x = record {
  disks = v.state.made;
  sectors = λ n. sectors_of (v.arrays n);
  held = held_in v x;
  clock = x.clock;
  stops = Stops x;
  faults = refused;
  spent = spent_of v;
  lasting = ⊥;
  steady = Unit {0};
  fit = fit;
  told = IsTracked v x;
  traced = x.traced;
}
