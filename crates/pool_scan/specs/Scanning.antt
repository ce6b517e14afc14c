-- What a scan reads of each disk.
use Rattle.std.specs.Prelude.{◌≡◌, ◌⊎◌, ℕ, ◌<◌, nat_lt, true, false, ◌||◌, if◌then◌else◌, List, length, slice_get, Option, Some, None, option_map, is_some, IfSome, Result, IfOk, IfErr}
use Rattle.std.specs.Option.{option_and_then}
use Rattle.rack.specs.declared.Gone.{Gone}
use Rattle.rack.specs.Seen.{RackView, Rose}
use Rattle.gpt_table.specs.declared.Table.{Table}
use Rattle.rack.specs.Sequences.{OnlyReads}
use Rattle.gpt_table.specs.Changes.{the_table}
use Rattle.gpt_table.specs.Disk.{Contents, AgreesUnspent}
use Rattle.pool_state.specs.declared.contents.Copied.{Copied}
use Rattle.pool_state.specs.Valid.{is_valid}
use Rattle.pool_scan.specs.declared.Known.{Known}
use Rattle.std.specs.Result.{result_ok}
use Rattle.rack.specs.Seen.{Image}
use Rattle.pool_state.specs.Sector.{decoded}
use Rattle.array_image.specs.Places.{state_sector}
use Rattle.pool_image.specs.Disks.{Identities, disks_of, id_by, identities_of}

-- the copy of a state on a disk of so many sectors
abbrev pub copied_on : ℕ → Contents → Option Copied
copied_on sectors disk = if nat_lt state_sector sectors then result_ok (decoded (disk state_sector)) else None

-- contents of a rack's disks as they read now
abbrev pub now_in : RackView → Image
now_in x = λ d s. (x.held d s).current

-- a part of a disk was read, or the disk refused a call and the part isn't known
abbrev pub IsReadOr : {X : Type 0} → RackView → RackView → ℕ → Option X → Option X → Type 0
IsReadOr x y disk shown read = (read ≡ shown) ⊎ ((read ≡ None) × Rose (x.faults disk) (y.faults disk))

-- nothing was written, and what was read of a told disk is so, whatever its spent sectors held before
pub record Finds (x y : RackView) (disk : ℕ) {X : Type 0} (says : Contents → X → Type 0) (result : Result X Gone) : Type 0 where
  pub only : OnlyReads x y
  pub value :
      IfOk result (λ found. x.told disk → (contents : Contents) → AgreesUnspent x disk contents → says contents found)
  pub gone : IfErr result (λ gone. Rose (x.faults disk) (y.faults disk))

-- a copy is that of a valid state
abbrev pub IsValidCopy : Option Copied → Type 0
IsValidCopy copied = IfSome copied (λ copy. is_valid copy.state copy.own ≡ true)

-- the id of the drive that a disk is, as its bytes
abbrev pub id_in : Known → Option (List ℕ)
id_in known = option_map (λ id. id.0) known.id

-- the table that was read: none of a disk without an id
abbrev pub table_in : Option Table → Known → Option Table
table_in table known = if is_some known.copied || is_some known.id then table else None

-- a disk's id is that which its copy names, or else its table
pub record IsNamed (x y : RackView) (disk : ℕ) (contents : Contents) (known : Known) : Type 0 where
  pub table :
      IsReadOr x y disk (the_table (x.sectors disk) contents) (table_in (the_table (x.sectors disk) contents) known)
  pub read : known.gone ≡ false → table_in (the_table (x.sectors disk) contents) known ≡ the_table (x.sectors disk) contents
  pub id : id_in known ≡ id_by (table_in (the_table (x.sectors disk) contents) known) known.copied

-- what was seen of a disk with these contents
pub record Sees (x y : RackView) (disk : ℕ) (contents : Contents) (known : Known) : Type 0 where
  pub copied : IsReadOr x y disk (copied_on (x.sectors disk) contents) known.copied
  pub read : known.gone ≡ false → known.copied ≡ copied_on (x.sectors disk) contents
  pub named : IsNamed x y disk contents known

-- what was seen of a disk as it was before
pub record IsKnown (x y : RackView) (disk : ℕ) (known : Known) : Type 0 where
  pub sees : x.told disk → Sees x y disk (now_in x disk) known
  pub gone : known.gone ≡ true → Rose (x.faults disk) (y.faults disk)
  pub valid : IsValidCopy known.copied

-- what was seen of all disks
pub record IsScan (x y : RackView) (known : List Known) : Type 0 where
  pub count : length known ≡ x.disks
  pub each : (d : ℕ) (s : Known) → slice_get known d ≡ Some s → IsKnown x y d s

-- the copy that was seen of a disk
abbrev pub copied_at : List Known → ℕ → Option Copied
copied_at known disk = option_and_then (λ s. s.copied) (slice_get known disk)

-- What the disks say, as far as it was read: the copy of each disk, and of one without a copy its table.
abbrev pub as_read : RackView → List Known → Identities
as_read x known = λ d. record {
  copied = copied_at known d;
  table = option_and_then (table_in (identities_of (disks_of x) (now_in x) d).table) (slice_get known d);
}

-- no disk refused a call
abbrev pub IsUnfaulted : RackView → RackView → Type 0
IsUnfaulted x y = (d : ℕ) → Rose (x.faults d) (y.faults d) → ⊥

-- the contents of all disks are told
abbrev pub AllTold : RackView → Type 0
AllTold x = (d : ℕ) → d < x.disks → x.told d
