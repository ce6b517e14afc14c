-- The parity that a row needs for a new value.
use Rattle.std.specs.Prelude.{◌≡◌, ◌⊎◌, ℕ, Bool, false, nat_lt, List, Some}
use Rattle.rack.specs.Seen.{RackView}
use Rattle.parity.specs.Xor.{xor}
use Rattle.raid_map.specs.LeftSymmetric.{row_at}
use Rattle.array_image.specs.Arrays.{column}
use Rattle.array_image.specs.Held.{current_in}
use Rattle.array_image.specs.Spent.{wanting, spent_with}
use Rattle.array_model.specs.View.{View, LosesPlaces, member_on, shape_of}
use Rattle.array_model.specs.Says.{IsOpen}
use Rattle.array_model.specs.Members.{members_of, IsSameButSeats}
use Rattle.array_core.specs.declared.members.Stand.{Stand}
use Rattle.array_core.specs.Stands.{given_at}

-- the old value of a sector, as the members that were left then gave it, and the old parity, which make the new one
pub record HasParts (v u : View) (a : RackView) (at side : Stand) (from new : List ℕ) : Type 0 where
  pub old : List ℕ
  pub side_old : List ℕ
  pub old_is : old ≡ given_at u at (current_in a.held)
  pub side_is : column (current_in a.held) v.number side.sector (member_on v side.position) ≡ Some side_old
  pub new_is : new ≡ xor (xor side_old old) from

-- the old value was found, and the parity is made of it, unless its member has gone
pub record FoundParity (v w : View) (a : RackView) (at side : Stand) (from new : List ℕ) : Type 0 where
  pub found : View
  pub same : IsSameButSeats v found
  pub lost : ℕ → Bool
  pub loses : LosesPlaces v found lost
  pub unspent : spent_with (wanting at.sector (members_of found)) (nat_lt (row_at at.sector) found.resync) ≡ false
  pub value :
      (nat_lt side.sector (member_on w side.position).reach ≡ false)
      ⊎ (IsOpen (shape_of v) v.number a → HasParts v found a at side from new)
