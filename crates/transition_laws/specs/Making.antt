-- What the making of an array asks for where contents are spoken of.
use Rattle.std.proofs.Common.{◌≡◌, ℕ, ◌+◌, ◌<◌, length}
use Rattle.rack.specs.Seen.{Image, IsLive, RackView}
use Rattle.array_image.specs.Arrays.{Member}
use Rattle.array_image.specs.Held.{Among, IsSynced}
use Rattle.array_image.specs.Left.{Picks}
use Rattle.array_image.specs.Places.{data_sector, member_slice}
use Rattle.array_model.specs.Says.{HasNoOthers}
use Rattle.array_model.specs.View.{shape_of, View}
use Rattle.pool_state.specs.declared.contents.State.{State}
use Rattle.raid_laws.specs.Raid.{IsWritten}

-- The truth of array n has the fields that a pool writes. Its slices are told, and each sector of its members' data has one value, of 512
-- bytes. No other current place has a valid superblock of it.
pub record FitsMake (s : State) (n : ℕ) (next : View) (x : RackView) : Type 0 where
  pub written : IsWritten next
  pub told : (place t : ℕ) → place < 16 → t < x.sectors (member_slice place n) → IsLive x x (member_slice place n) t
  pub synced : IsSynced (shape_of next) n x.held
  pub sized :
      (m : Member) (sector : ℕ) → Among m (shape_of next).members → sector < m.reach
      → length (x.held (member_slice m.place n) (data_sector + sector)).current ≡ 512
  pub alone : (c : Image) → Picks x c → HasNoOthers next s c
