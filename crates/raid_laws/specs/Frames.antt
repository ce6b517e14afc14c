-- The size of an array, its layout and the places of its members, as its truth has them: no call changes them.
use Rattle.std.specs.Prelude.{◌≡◌, ℕ, List, map, Some, unwrap_or}
use Rattle.std.specs.List.{range_with_len}
use Rattle.rack.specs.Seen.{Image, RackView}
use Rattle.rack.specs.Moments.{Leaves}
use Rattle.md_super.specs.declared.superblock.Super.{Super}
use Rattle.pool_state.specs.declared.contents.State.{State}
use Rattle.array_image.specs.Arrays.{first_layout, place_with, replayed}
use Rattle.array_image.specs.Left.{IsInside}
use Rattle.array_image.specs.States.{state_in}
use Rattle.array_image.specs.Stripes.{Layout}
use Rattle.array_image.specs.Supers.{truth_in}
use Rattle.array_model.specs.View.{View}

-- the sectors of a member's data, the layout of its rows, but for those that a reshape has moved, and the place of each position
pub record Frame : Type 0 where
  pub size : ℕ
  pub layout : Layout
  pub places : List ℕ

abbrev pub frame_of : Super → Frame
frame_of t = record {
  size = t.size;
  layout = first_layout t;
  places = map (λ k. unwrap_or (place_with t.roles.items k) 16) (range_with_len 0 t.raid_disks);
}

-- where contents have a truth of array n, it has this frame
abbrev pub HasFrame : Frame → ℕ → Image → Type 0
HasFrame g n r = (s : State) (t : Super) → state_in r ≡ Some s → truth_in s r n ≡ Some t → frame_of t ≡ g

-- A part of a call, seen from array n: at each moment contents have its frame, and so has the array after it, which is w then.
pub record KeepsFrame (g : Frame) (n : ℕ) (w : View) (a b : RackView) : Type 0 where
  pub leaves : a.traced → Leaves a b (λ c. IsInside a.sectors c → HasFrame g n (replayed a.sectors c))
  pub after : frame_of w.truth ≡ g
