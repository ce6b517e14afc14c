-- Slices of arrays' members on the drives, by the drives' own tables.
use Rattle.std.specs.Prelude.{◌≡◌, ◌≢◌, ◌⊎◌, ℕ, ◌+◌, ◌<◌, ◌≤◌, Bool, true, false, List, length, Option, Some}
use Rattle.std.specs.Option.{option_map_or}
use Rattle.rack.specs.Seen.{RackView, Rose}
use Rattle.gpt_table.specs.declared.Table.{Table}
use Rattle.gpt_table.specs.Changes.{the_table}
use Rattle.gpt_table.specs.Disk.{Contents, AgreesUnspent, now_on}
use Rattle.slice_rack.specs.Slices.{Slices, seat_of, first_of, sectors_of, disk_of}
use Rattle.array_image.specs.Places.{place_of, slice_of, member_slice, arrays_first}
use Rattle.pool_image.specs.Replay.{Extent, extent_by}
use Rattle.log_laws.specs.View.{names}

-- a slice is these sectors of its disk, or isn't there
pub record Lies (t : Slices) (k : ℕ) (extent : Option Extent) : Type 0 where
  pub sectors : sectors_of t k ≡ option_map_or (λ e. e.sectors) extent 0
  pub first : 0 < sectors_of t k → first_of t k ≡ option_map_or (λ e. e.first) extent 0

-- log slices end before the arrays' part of their disks begins
abbrev pub AreLogsCut : Slices → Type 0
AreLogsCut t = (k : ℕ) → slice_of k ≡ 0 → 0 < sectors_of t k → first_of t k + sectors_of t k ≤ arrays_first

-- the first arrays' slices of a place are those of a table, and the others aren't there
pub record IsCutTo (x : RackView) (t : Slices) (table : Table) (place many : ℕ) : Type 0 where
  pub disk : ℕ
  pub seat : seat_of t place ≡ Some disk
  pub size : x.sectors disk ≡ table.sectors
  pub log : AreLogsCut t
  pub lower : (n : ℕ) → n < many → Lies t (member_slice place n) (extent_by table.sectors (Some table) (n + 1))
  pub upper : (n : ℕ) → many ≤ n → n < 16 → sectors_of t (member_slice place n) ≡ 0

-- the members' slices of one place alone have changed
pub record KeepsOthers (t u : Slices) (place : ℕ) : Type 0 where
  pub seats : (p : ℕ) → seat_of u p ≡ seat_of t p
  pub firsts : (k : ℕ) → (place_of k ≢ place) ⊎ (slice_of k ≡ 0) → first_of u k ≡ first_of t k
  pub sectors : (k : ℕ) → (place_of k ≢ place) ⊎ (slice_of k ≡ 0) → sectors_of u k ≡ sectors_of t k

-- a slice lies in the arrays' part of its disk: behind the log slice, and before the backup of the table
pub record IsInArrays (x : RackView) (t : Slices) (k : ℕ) : Type 0 where
  pub behind : arrays_first ≤ first_of t k
  pub before : first_of t k + sectors_of t k + 33 ≤ x.sectors (disk_of t k)

-- The members' slices of a place are those of its disk's table, whatever its spent sectors held. Where this can't be read the disk refused a call, and they aren't there.
pub record IsCut (x y : RackView) (t : Slices) (place : ℕ) (read : Bool) : Type 0 where
  pub lies :
      (n disk : ℕ) → n < 16 → read ≡ true → seat_of t place ≡ Some disk → x.told disk → (contents : Contents) → AgreesUnspent x disk contents
      → Lies t (member_slice place n) (extent_by (x.sectors disk) (the_table (x.sectors disk) contents) (n + 1))
  pub within : (n : ℕ) → n < 16 → 0 < sectors_of t (member_slice place n) → IsInArrays x t (member_slice place n)
  pub refused : read ≡ false → (disk : ℕ) × (seat_of t place ≡ Some disk) × Rose (x.faults disk) (y.faults disk)

-- So it is with the first places, of which `unread` are those whose table can't be read; the others have no members' slices yet.
pub record IsCutBelow (x y : RackView) (many : ℕ) (t u : Slices) (unread : List ℕ) : Type 0 where
  pub seats : (p : ℕ) → seat_of u p ≡ seat_of t p
  pub firsts : (k : ℕ) → slice_of k ≡ 0 → first_of u k ≡ first_of t k
  pub sectors : (k : ℕ) → slice_of k ≡ 0 → sectors_of u k ≡ sectors_of t k
  pub lies :
      (place n disk : ℕ) → place < many → n < 16 → names unread place ≡ false → seat_of u place ≡ Some disk → x.told disk
      → Lies u (member_slice place n) (extent_by (x.sectors disk) (the_table (x.sectors disk) (now_on x disk)) (n + 1))
  pub within : (k : ℕ) → 0 < slice_of k → 0 < sectors_of u k → IsInArrays x u k
  pub upper : (k : ℕ) → many ≤ place_of k → 0 < slice_of k → sectors_of u k ≡ 0
  pub refused : (p : ℕ) → names unread p ≡ true → (p < many) × (disk : ℕ) × (seat_of u p ≡ Some disk) × Rose (x.faults disk) (y.faults disk)
  pub few : length unread ≤ many
