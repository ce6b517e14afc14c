-- What the identities that were read say of the drives.
use Rattle.std.specs.Prelude.{◌≡◌, ◌==◌, ℕ, ◌<◌, Bool, false, not, bytes_eq, if◌then◌else◌, List, length, map, position, slice_get, Option, Some, None}
use Rattle.std.specs.Option.{option_and_then, option_map_or}
use Rattle.std.specs.List.{list_any, range_with_len}
use Rattle.pool_state.specs.declared.contents.Copied.{Copied}
use Rattle.pool_state.specs.declared.contents.State.{State}
use Rattle.array_image.specs.Foremost.{foremost}
use Rattle.array_image.specs.States.{epoch_of, is_current}
use Rattle.pool_image.specs.Disks.{Disks, Identities, all_disks, id_by}
use Rattle.pool_scan.specs.declared.Known.{Known}
use Rattle.pool_scan.specs.Scanning.{copied_at, id_in}

-- the id of the drive that a disk is
abbrev pub id_at : List Known → ℕ → Option (List ℕ)
id_at known disk = option_and_then id_in (slice_get known disk)

-- the disks say so, by a scan's list
pub record AreOf (disks : Disks) (identities : Identities) (known : List Known) : Type 0 where
  pub count : length known ≡ disks.count
  pub copied : (d : ℕ) → d < disks.count → (identities d).copied ≡ copied_at known d
  pub id : (d : ℕ) → d < disks.count → id_by (identities d).table (identities d).copied ≡ id_at known d

-- a disk was read to have a copy of this state
pub record HasCopyOf (known : List Known) (s : State) : Type 0 where
  pub disk : ℕ
  pub copy : Copied
  pub read : copied_at known disk ≡ Some copy
  pub state : copy.state ≡ s

-- the copy of a disk is of another pool
abbrev pub is_of_other : List ℕ → Known → Bool
is_of_other pool known = option_map_or (λ copy. not (bytes_eq copy.state.pool.0 pool)) known.copied false

-- the epoch of a disk's copy; one without a copy has the lowest
abbrev pub epoch_at : List Known → ℕ → ℕ
epoch_at known disk = option_map_or epoch_of (copied_at known disk) 0

-- a disk, if it stands for a place
abbrev pub standing : State → List Known → ℕ → ℕ → Option ℕ
standing s known place disk =
    if option_map_or (λ p. p == place)
    (option_and_then (λ id. position (λ drive. bytes_eq drive.id.0 id) s.drives.items) (id_at known disk)) false
    then Some disk
    else None

-- the place for which a disk stands
abbrev pub place_at : State → List Known → ℕ → Option ℕ
place_at s known disk = option_and_then (λ id. position (λ drive. bytes_eq drive.id.0 id) s.drives.items) (id_at known disk)

-- the disk that is taken for a place: for a current one, of those that stand for it that of highest epoch, of equal ones the lowest
unfoldable pub seat_by : State → List Known → ℕ → Option ℕ
seat_by s known place =
    if is_current s place then foremost (epoch_at known) (map (standing s known place) (range_with_len 0 (length known))) else None

-- a disk has a copy of another pool's state
abbrev pub has_pool_other_than : List ℕ → Disks → Identities → Bool
has_pool_other_than pool disks identities =
    list_any (λ d. option_map_or (λ copy. not (bytes_eq copy.state.pool.0 pool)) (identities d).copied false) (all_disks disks)
