-- The arrays of a pool over the slices of its drives, before they are a rack, whatever the disks tell.
use Rattle.std.specs.Prelude.{◌≡◌, ℕ, ◌+◌, ◌<◌, ◌&&◌, true, is_none, List, filter, Some}
use Rattle.rack.specs.Seen.{RackView}
use Rattle.slice_rack.specs.Slices.{Slices, first_of, seat_of, sectors_of}
use Rattle.slice_rack.specs.Sliced.{slices_of}
use Rattle.pool_state.specs.declared.contents.State.{State}
use Rattle.pool_state.specs.Valid.{is_valid}
use Rattle.array_image.specs.Places.{arrays_first, log_slice, log_sectors, state_sector}
use Rattle.array_image.specs.States.{current_places, is_current}
use Rattle.log_laws.specs.View.{names}
use Rattle.pool_check.specs.declared.Checked.{Checked}
use Rattle.pool_check.specs.Founded.{AreFounded}
use Rattle.pool_check.specs.Slots.{AreSlots}
use Rattle.pool_check.specs.Laying.{HasMembers}

-- The state is valid, each current place has a disk with its log slice or is absent, the arrays are those of the superblocks on these
-- disks, and their members' slices are laid.
pub record AreMembers (s : State) (t : Slices) (x : RackView) (checked : Checked) (absent : List ℕ) : Type 0 where
  pub valid : is_valid s 0 ≡ true
  pub fit : (slices_of t x).fit
  pub lasting : x.lasting
  pub current : (p d : ℕ) → seat_of t p ≡ Some d → is_current s p ≡ true
  pub absent_is : (p : ℕ) → names absent p ≡ (is_none (seat_of t p) && is_current s p)
  pub listed : absent ≡ filter (λ p. is_none (seat_of t p)) (current_places s)
  pub room : (p d : ℕ) → seat_of t p ≡ Some d → arrays_first + 32 < x.sectors d
  pub logs : (p d : ℕ) → seat_of t p ≡ Some d → sectors_of t (log_slice p) ≡ log_sectors
  pub firsts : (p d : ℕ) → seat_of t p ≡ Some d → first_of t (log_slice p) ≡ state_sector
  pub founded : AreFounded s (seat_of t) checked.arrays.items checked.stale.items
  pub slots : AreSlots x.sectors (seat_of t) checked.arrays.items checked.extents.items
  pub members : HasMembers (seat_of t) checked.arrays.items checked.extents.items t
