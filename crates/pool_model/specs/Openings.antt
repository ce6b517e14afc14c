-- What a stop inside an opening leaves on the disks of a pool.
use Rattle.std.specs.Prelude.{◌≡◌, ◌⊎◌, ℕ, ◌+◌, ◌<◌, ◌≤◌, true, false, [], None, Some}
use Rattle.std.specs.Option.{option_map_or}
use Rattle.rack.specs.Seen.{Image}
use Rattle.gpt_table.specs.Changes.{the_table}
use Rattle.pool_state.specs.declared.contents.Copied.{Copied}
use Rattle.array_image.specs.Arrays.{Shape}
use Rattle.array_image.specs.States.{is_current}
use Rattle.array_image.specs.Supers.{is_unclean}
use Rattle.pool_image.specs.Disks.{Disks}
use Rattle.pool_image.specs.Drives.{Found, found}
use Rattle.pool_image.specs.Meaning.{array_sectors, arrays_held, damage_of, has_table, shape_of, is_dirty_degraded, truth_of}
use Rattle.pool_image.specs.Replay.{Standing, standing}
use Rattle.pool_rest.specs.Moments.{TakesLowerIn}
use Rattle.pool_rest.specs.SoundLogs.{HasSoundLogs}
use Rattle.raid_laws.specs.Book.{OnlyMarksSince}
use Rattle.raid_laws.specs.Reach.{KeepsReach}
use Rattle.pool_model.specs.Left.{NoStraySuperblock}
use Rattle.pool_model.specs.Pools.{IsSoundPool}
use Rattle.pool_model.specs.Stopped.{LieApart, StoodInLog}

-- ---- sectors of tables

-- a sector of a partition table on the drive of one of a pool's places: before sector 34, or one of the last 33
pub record IsOfTable (f : Found) (d u : ℕ) : Type 0 where
  pub place : ℕ
  pub seat : f.seats place ≡ Some d
  pub at_end : (u < 34) ⊎ (f.disks.sectors d ≤ u + 33)

-- Contents i of a pool's disks are as c but for sectors of partition tables on its drives, and each disk has the table that it had.
pub record IsButTables (f : Found) (c i : Image) : Type 0 where
  pub tables : (d : ℕ) → d < f.disks.count → the_table (f.disks.sectors d) (i d) ≡ the_table (f.disks.sectors d) (c d)
  pub others : (d u : ℕ) → d < f.disks.count → u < f.disks.sectors d → (IsOfTable f d u → ⊥) → i d u ≡ c d u

-- each drive of a pool has a table with its slices
abbrev pub HaveGoodTables : Found → Type 0
HaveGoodTables f = (p d : ℕ) → f.seats p ≡ Some d → has_table f p d ≡ true

-- ---- one pool

-- no disk had the state of another pool, before the pending record was replayed
abbrev pub HadOnePool : Found → Type 0
HadOnePool f = (d : ℕ) (copy : Copied) → d < f.disks.count → (f.before.identities d).copied ≡ Some copy → copy.state.pool ≡ f.state.pool

-- nor once it was
abbrev pub HaveOnePool : Found → Type 0
HaveOnePool f = (d : ℕ) (copy : Copied) → d < f.disks.count → (f.identities d).copied ≡ Some copy → copy.state.pool ≡ f.state.pool

-- ---- contents that an opening leaves

-- nothing is pending in contents of disks
abbrev pub IsIdleIn : Disks → Image → Type 0
IsIdleIn disks i = (before : Standing) → standing disks i ≡ Some before → before.targets ≡ []

-- Nothing is pending in contents of a pool, or a record that an opening may replay, wherever that is stopped, where its targets land in the pool's slices:
-- one of the drives has the state that stands and a log slice, and those that are taken in have gates of lower numbers.
abbrev pub MayReplay : Disks → Image → Found → Type 0
MayReplay disks i g = IsIdleIn disks i ⊎ (StoodInLog g × TakesLowerIn disks i)

-- the truth of array n of a pool leaves rows to resync
abbrev pub IsUnsynced : Found → ℕ → Type 0
IsUnsynced f n = option_map_or is_unclean (truth_of f n) false ≡ true

-- Contents of the disks of a pool f, as a stop inside an opening leaves them, hold it still: they have a sound pool, whose logs are sound, by f's state or
-- one to which just marks of places have come that have no disk, and whose plan is the same. Each place that is current by it has the disk that it had, and the arrays have their sizes
-- and hold what they held, from a sector of theirs on: from the first one up to when the volume's texts are brought up to date, from the first extent's on meanwhile. Members count
-- as far as they did, so that no row that was rebuilt is left again, and where an array lacks a member and has rows left to resync, it had such rows in f. Targets land where its slices
-- are by the drives' tables, no superblock of an array stands on a drive that is no member of it, and a record that is pending may be replayed. No disk has another pool's state, before
-- that is replayed, where none had one in f.
pub record RecoversInOpening (f : Found) (from : ℕ) (i : Image) : Type 0 where
  pub now : Found
  pub found_is : found f.disks i ≡ Some now
  pub sound : IsSoundPool now
  pub logs : HasSoundLogs f.disks i
  pub after : OnlyMarksSince f.state now.state
  pub plan : now.state.plan ≡ f.state.plan
  pub marks : (p : ℕ) → is_current f.state p ≡ true → is_current now.state p ≡ false → f.seats p ≡ None
  pub seats : (p : ℕ) → is_current now.state p ≡ true → now.seats p ≡ f.seats p
  pub values : (n x : ℕ) → n < f.state.made → from ≤ x → x < array_sectors f n → arrays_held now n x ≡ arrays_held f n x
  pub apart : LieApart now
  pub alone : NoStraySuperblock now now.contents
  pub stops : MayReplay f.disks i now
  pub sectors : (n : ℕ) → n < f.state.made → array_sectors now n ≡ array_sectors f n
  -- members on places that are current by its state count at least as far as they did
  pub reach : (n : ℕ) (before left : Shape) → n < f.state.made → shape_of f n ≡ Some before → shape_of now n ≡ Some left → KeepsReach now.state before left
  -- no row of an array that lacks a member is left to resync, unless the pool's truth leaves some
  pub unsynced : (n : ℕ) → n < f.state.made → is_dirty_degraded now n ≡ true → IsUnsynced f n
  -- the drive of a place that had all its parts keeps them
  pub parts : (p : ℕ) → is_current now.state p ≡ true → damage_of f p ≡ None → damage_of now p ≡ None
  pub one_pool : HadOnePool f → HadOnePool now
