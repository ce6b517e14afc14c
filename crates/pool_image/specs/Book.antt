-- The book of contents: how the pool stands, and what is left to do.
use Rattle.std.specs.Prelude.{◌≡◌, ℕ, ℤ, zero, suc, ◌+◌, ◌-◌, ◌/◌, Bool, false, true, ◌==◌, ◌&&◌, not, nat_lt, if◌then◌else◌, List, map, find, sum, Option, Some, None, option_map}
use Rattle.std.specs.Option.{option_map_or}
use Rattle.std.specs.List.{list_all}
use Rattle.md_super.specs.declared.superblock.Super.{Super}
use Rattle.pool_state.specs.declared.contents.Plan.{Plan}
use Rattle.pool_state.specs.declared.contents.Plan.TheVariants.{Nothing, Add, Replace}
use Rattle.pool_state.specs.declared.contents.State.{State}
use Rattle.lvm_text.specs.declared.group.Group.{Group}
use Rattle.array_image.specs.States.{is_current}
use Rattle.array_image.specs.Supers.{is_rebuilding, is_reshaping, named_places, new_row}
use Rattle.array_image.specs.SoundArray.{first_unsynced}
use Rattle.array_image.specs.Spent.{spent_by}
use Rattle.pool_image.specs.Drives.{Found}
use Rattle.pool_image.specs.Volumes.{all_segments, extents_on, linear_of, spot_in}
use Rattle.pool_image.specs.Meaning.{truth_of, shape_of, super_at, joined_arrays, group_of}

-- ---- arrays

-- How an array stands; `resync`, `rebuild`, `reshape` and `zero_rows` are rows still to do. Where no member is rebuilding,
-- `rebuild` and `rebuilding`, the place of which it speaks, are 0.
pub record ArrayNow : Type 0 where
  pub level : ℤ
  pub members : List ℕ
  pub height : ℕ
  pub rows : ℕ
  pub resync : ℕ
  pub rebuild : ℕ
  pub rebuilding : ℕ
  pub reshaping : Bool
  pub reshape : ℕ
  pub zero_rows : ℕ

pub record Book : Type 0 where
  pub state : State
  pub arrays : ℕ → Option ArrayNow
  -- the extents of all volumes
  pub extents : ℕ

-- the height of an array in extents, behind its head of 2048 sectors
abbrev pub height_of : State → Super → ℕ
height_of s t = (t.size - 2048) / s.extent

abbrev pub rows_of : Super → ℕ
rows_of t = t.size / 128

-- the rows that the truth leaves to resync, or in a young array to zero
abbrev pub unsynced : Super → ℕ
unsynced t = rows_of t - first_unsynced t

-- whether a current place's member is rebuilding, by its own superblock
abbrev pub is_rebuilding_at : Found → ℕ → ℕ → Bool
is_rebuilding_at f n place = is_current f.state place && option_map_or is_rebuilding (super_at f n place) false

-- the place of the member that is rebuilding
abbrev pub rebuilding_in : Found → ℕ → Super → Option ℕ
rebuilding_in f n t = find (is_rebuilding_at f n) (named_places t)

-- the rows that a place's member still has to rebuild
abbrev pub rows_to_rebuild : Found → ℕ → Super → ℕ → ℕ
rows_to_rebuild f n t place = option_map_or (λ own. rows_of t - own.recovery_offset / 128) (super_at f n place) 0

abbrev pub array_now : Found → ℕ → Super → ArrayNow
array_now f n t = record {
  level = t.level;
  members = named_places t;
  height = height_of f.state t;
  rows = rows_of t;
  resync = if nat_lt n f.state.joined then unsynced t else 0;
  rebuild = option_map_or (rows_to_rebuild f n t) (rebuilding_in f n t) 0;
  rebuilding = option_map_or (λ place. place) (rebuilding_in f n t) 0;
  reshaping = is_reshaping t;
  reshape = if is_reshaping t then rows_of t - t.reshape_position / new_row t else 0;
  zero_rows = if nat_lt n f.state.joined then 0 else unsynced t;
}

-- ---- the book

-- how many extents of an array the volumes use
abbrev pub used_by : Group → ℕ → ℕ
used_by g n = sum (map (extents_on n) (all_segments g))

abbrev pub used_in : Found → ℕ → ℕ
used_in f n = option_map_or (λ g. used_by g n) (group_of f) 0

unfoldable pub book_of : Found → Book
book_of f = record {
  state = f.state;
  arrays = λ n. if nat_lt n f.state.made then option_map (array_now f n) (truth_of f n) else None;
  extents = option_map_or (λ g. sum (map (λ segment. segment.count) (all_segments g))) (group_of f) 0;
}

-- a pool with nothing lost and nothing left to resync, rebuild or zero
pub record IsWhole (b : Book) : Type 0 where
  pub drives : list_all (λ drive. not drive.missing) b.state.drives.items ≡ true
  pub rows :
      (n : ℕ) (now : ArrayNow) → b.arrays n ≡ Some now → (now.resync ≡ 0) × (now.rebuild ≡ 0) × (now.zero_rows ≡ 0)

-- ---- spent sectors

-- the first row of an array left to resync; none is in a young one
abbrev pub resync_from : Found → ℕ → Super → ℕ
resync_from f n t = if nat_lt n f.state.joined then first_unsynced t else rows_of t

-- a sector of an array is spent: two of its members are wanting there, or one where the row is left to resync
abbrev pub is_spent_in : Found → ℕ → ℕ → Bool
is_spent_in f n x = option_map_or (λ shape. option_map_or (λ t. spent_by shape (resync_from f n t) x) (truth_of f n) true) (shape_of f n) true

-- a volume's sector is spent where that of its array is
abbrev pub is_spent : Found → ℕ → Bool
is_spent f v =
    option_map_or (λ g. option_map_or (λ spot. is_spent_in f spot.array spot.sector) (spot_in (linear_of (joined_arrays f) g) v) true) (group_of f) true

-- ---- plans

-- the place of a plan's drive
abbrev pub planned : Plan → Option ℕ
planned Nothing = None
planned (Add place) = Some place
planned (Replace place) = Some place

abbrev pub is_planned : State → ℕ → Bool
is_planned s place = option_map_or (λ p. p == place) (planned s.plan) false

-- the top of an array: the heights of it and all arrays below it; here of the first n arrays
unfoldable pub top_of : Found → ℕ → ℕ
top_of f zero = 0
top_of f (suc n) = top_of f n + option_map_or (height_of f.state) (truth_of f n) 0
