-- The state of a pool, as its log slices say it.
use Rattle.std.specs.Prelude.{ℕ, Bool, not, List, length, map, filter, slice_get, Option, option_map, false}
use Rattle.std.specs.Option.{option_map_or}
use Rattle.std.specs.Result.{result_ok}
use Rattle.std.specs.List.{range_with_len}
use Rattle.rack.specs.Seen.{Image}
use Rattle.pool_state.specs.declared.contents.Copied.{Copied}
use Rattle.pool_state.specs.declared.contents.State.{State}
use Rattle.pool_state.specs.Sector.{decoded}
use Rattle.array_image.specs.Foremost.{foremost}
use Rattle.array_image.specs.Places.{log_slice}

-- the copy on a place
abbrev pub copy_in : Image → ℕ → Option Copied
copy_in c place = result_ok (decoded (c (log_slice place) 0))

abbrev pub epoch_of : Copied → ℕ
epoch_of copy = copy.state.epoch

-- the state of highest epoch, of equal ones that of the lowest place
unfoldable pub state_in : Image → Option State
state_in c = option_map (λ copy. copy.state) (foremost epoch_of (map (copy_in c) (range_with_len 0 16)))

-- the id of a place's drive
abbrev pub id_of : State → ℕ → Option (List ℕ)
id_of s place = option_map (λ drive. drive.id.0) (slice_get s.drives.items place)

-- whether a place is listed and not marked missing
abbrev pub is_current : State → ℕ → Bool
is_current s place = option_map_or (λ drive. not drive.missing) (slice_get s.drives.items place) false

unfoldable pub current_places : State → List ℕ
current_places s = filter (is_current s) (range_with_len 0 (length s.drives.items))
