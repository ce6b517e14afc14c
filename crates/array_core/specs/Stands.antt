-- Members and rows, as the code names them.
use Rattle.std.specs.Prelude.{◌≡◌, ℕ, ◌<◌, ◌≤◌, List, map, take, slice_get, Some}
use Rattle.rack.specs.Seen.{Image}
use Rattle.parity.specs.Xor.{zeros}
use Rattle.array_image.specs.Stripes.{Layout, mirror, parity, width, given}
use Rattle.array_image.specs.Arrays.{column}
use Rattle.array_model.specs.View.{View, place_at}
use Rattle.array_model.specs.Members.{members_of}
use Rattle.array_core.specs.declared.slots.Slot.{Slot}
use Rattle.array_core.specs.declared.members.Spread.{Spread}
use Rattle.array_core.specs.declared.members.Spread.TheVariants.{Mirror, Parity}
use Rattle.array_core.specs.declared.members.Stand.{Stand}

-- what is known of the member at a position
pub record IsSlot (v : View) (n : ℕ) (s : Slot) : Type 0 where
  pub place : s.place ≡ place_at v n
  pub few : s.place < 16
  pub seat : slice_get v.seats n ≡ Some s.seat
  pub device : slice_get v.devices n ≡ Some s.device

abbrev pub layout_of : Spread → Layout
layout_of (Mirror n) = mirror n
layout_of (Parity n) = parity n

-- a sector of the members' data, and a position of its row
pub record IsStand (v : View) (at : Stand) : Type 0 where
  pub members : width (layout_of at.spread) ≤ v.truth.raid_disks
  pub position : at.position < width (layout_of at.spread)
  pub sector : at.sector < v.truth.size

-- what the row's members give there
abbrev pub given_at : View → Stand → Image → List ℕ
given_at v at c = given (layout_of at.spread) (map (column c v.number at.sector) (take (width (layout_of at.spread)) (members_of v))) at.position

-- a sector of zeros
unfoldable pub blank : List ℕ
blank = zeros 512
