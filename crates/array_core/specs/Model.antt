-- How an array is seen, and what holds of its fields.
use Rattle.std.specs.Prelude.{◌≡◌, ◌<◌, ◌≤◌, ◌^◌, ◌/◌, Bool, true, ◌&&◌, nat_lt, is_ok, map}
use Rattle.std.specs.List.{list_all}
use Rattle.md_super.specs.declared.superblock.Super.{Super}
use Rattle.md_super.specs.Profile.{profiled}
use Rattle.array_image.specs.Supers.{has_roles, has_whole_row}
use Rattle.array_image.specs.SoundArray.{first_unsynced}
use Rattle.array_model.specs.View.{View}
use Rattle.array_core.specs.declared.Array.TheInside.{Inside}
use Rattle.array_core.specs.Slots.{places_by}

-- A superblock that an array can go by: it meets the pool's profile, a reshape stands between two rows, each position has one
-- place below 16, and its size is that of a member. The profile is asked with extents of 128 sectors, of which each pool's
-- extents are multiples.
abbrev pub is_truth : Super → Bool
is_truth t = is_ok (profiled t 128) && (has_whole_row t && (has_roles 16 t && nat_lt t.size (2 ^ 48)))

abbrev pub view_of : Inside → View
view_of a = record {
  number = a.number;
  truth = a.truth;
  seats = map (λ s. s.seat) a.slots.items;
  devices = map (λ s. s.device) a.slots.items;
  went = a.went.items;
  resync = a.resync;
  young = a.young;
  marked = a.marked;
}

pub record IsMade (a : Inside) : Type 0 where
  pub few : a.number < 16
  pub truth : is_truth a.truth ≡ true
  pub slots : map (λ s. s.place) a.slots.items ≡ places_by a.truth
  -- each row that its truth leaves to resync is left, and none past the last
  pub unsynced : first_unsynced a.truth ≤ a.resync
  pub synced : a.resync ≤ a.truth.size / 128
  pub went : list_all (λ place. nat_lt place 16) a.went.items ≡ true
