-- The input's bytes, written to a volume from its first sector on: a sector a piece, and how that came out.
use Rattle.std.specs.Prelude.{◌≡◌, ℕ, ◌+◌, ◌-◌, ◌*◌, ◌<◌, ◌≤◌, List, [], ◌∷◌, ◌++◌, length, take, drop, map, replicate, codes, decimal, Result, Ok, Err}
use Rattle.std.specs.List.{range_with_len}
use Rattle.rack.specs.Seen.{RackView, Rose}
use Rattle.lvm_group.specs.Runs.{sectors_in}
use Rattle.shr_script.specs.declared.Command.TheVariants.{Write}
use Rattle.shr_script.specs.Reply.{as_line, refused_line}
use Rattle.flat_array.specs.Array.{FlatArray}
use Rattle.flat_array.specs.Reply.{spent_line}
use Rattle.pool.specs.View.{View}
use Rattle.pool.specs.Volume.{size_of}
use Rattle.shr_tool.specs.declared.status.Status.{Status}
use Rattle.shr_tool.specs.declared.status.Status.TheVariants.{Done, Refused, Spent, Source as OfSource}
use Rattle.shr_tool.specs.declared.importing.ImportFault.{ImportFault}
use Rattle.shr_tool.specs.declared.importing.ImportFault.TheVariants.{Source, Long, Spent as AtSpent}
use Rattle.shr_tool.specs.Events.{Event}
use Rattle.shr_tool.specs.Events.Event.{answered, spent}
use Rattle.shr_tool.specs.Outcome.{RunContract}
use Rattle.shr_tool.specs.Saying.{Says}
use Rattle.shr_tool.specs.Serving.{Ran}
use Rattle.pool.specs.Moment.{Moment}

-- at most a sector's bytes, and zeros behind them
abbrev pub filled_up : List ℕ → List ℕ
filled_up part = part ++ replicate (512 - length part) 0

-- the piece of bytes that belongs into a sector
abbrev pub piece_of : List ℕ → ℕ → List ℕ
piece_of bytes sector = filled_up (take 512 (drop (512 * sector) bytes))

-- so many sectors are filled by a number of bytes, the last one of them maybe in part
pub record AreFilledBy (sectors bytes : ℕ) : Type 0 where
  pub enough : bytes ≤ 512 * sectors
  pub fewest : 512 * sectors < bytes + 512

-- the writes of the pieces for the first so many sectors
abbrev pub write_of : List ℕ → ℕ → Event
write_of bytes sector = answered (Ok (Write sector (piece_of bytes sector)))

abbrev pub writes_of : List ℕ → ℕ → List Event
writes_of bytes sectors = map (write_of bytes) (range_with_len 0 sectors)

-- the whole input was taken, it fits into a volume of `size` sectors, and all pieces of it were written
pub record WritesAll (size : ℕ) (text rest : List ℕ) (bytes : ℕ) (events : List Event) : Type 0 where
  pub all : rest ≡ []
  pub bytes_are : bytes ≡ length text
  pub fits : length text ≤ 512 * size
  pub sectors : ℕ
  pub filled : AreFilledBy sectors (length text)
  pub events_are : events ≡ writes_of text sectors

-- more bytes were taken than the volume has, and each of its sectors was written
pub record WritesMost (size : ℕ) (text rest : List ℕ) (events : List Event) : Type 0 where
  pub longer : 512 * size + length rest < length text
  pub events_are : events ≡ writes_of text size

-- the pieces before a sector were written, and at it the write of its piece was refused, since the sector is spent
pub record WritesToSpent (size : ℕ) (text : List ℕ) (sector : ℕ) (events : List Event) : Type 0 where
  pub inside : sector < size
  pub some : 512 * sector < length text
  pub events_are : events ≡ writes_of text sector ++ spent (Ok (Write sector (piece_of text sector))) sector ∷ []

-- the source failed after bytes that fit into the volume, and all whole sectors of these were written
pub record WritesToFault (size : ℕ) (text rest : List ℕ) (events : List Event) : Type 0 where
  pub taken : List ℕ
  pub text_is : text ≡ taken ++ rest
  pub fits : length taken ≤ 512 * size
  pub sectors : ℕ
  pub whole : 512 * sectors ≤ length taken
  pub part : length taken < 512 * sectors + 512
  pub events_are : events ≡ writes_of text sectors

-- what a sector takes of bytes: the first 512 of them, and zeros behind the last one; or a fault came after fewer
abbrev pub TakesSector : {E : Type 0} → Result ℕ E → List ℕ → List ℕ → List ℕ → Type 0
TakesSector (Ok count) before after into =
    (count ≡ length (take 512 before)) × (into ≡ filled_up (take 512 before)) × (after ≡ drop 512 before)
TakesSector (Err fault) before after into = (part : List ℕ) × (before ≡ part ++ after) × (length part < 512)

-- a fault of the source is answered only where its count rose
abbrev pub HasImportCause : Result ℕ ImportFault → ℕ → ℕ → Type 0
HasImportCause (Ok bytes) source source' = Unit {0}
HasImportCause (Err Source) source source' = Rose source source'
HasImportCause (Err Long) source source' = Unit {0}
HasImportCause (Err (AtSpent sector)) source source' = Unit {0}

-- how the pieces were written
abbrev pub Writes : ℕ → List ℕ → List ℕ → Result ℕ ImportFault → List Event → Type 0
Writes size text rest (Ok bytes) events = WritesAll size text rest bytes events
Writes size text rest (Err Source) events = WritesToFault size text rest events
Writes size text rest (Err Long) events = WritesMost size text rest events
Writes size text rest (Err (AtSpent sector)) events = WritesToSpent size text sector events

-- The pieces were written on a pool so. Of the input at most the volume's bytes and one sector's more are taken.
pub record Imports (x y : View) (text rest : List ℕ) (result : Result ℕ ImportFault) : Type 0 where
  pub events : List Event
  pub writes : Writes (size_of x) text rest result events
  pub most : length text ≤ 512 * size_of x + 512 + length rest
  pub ran : Ran x y events

-- `imported B`
abbrev pub imported_line : ℕ → List ℕ
imported_line bytes = as_line (codes "imported " ++ decimal bytes)

-- what is put about it, and the status
abbrev pub SaysWritten : Result ℕ ImportFault → List ℕ → List ℕ → Status → Type 0
SaysWritten (Ok bytes) out out' status = Says Done (imported_line bytes) out out' status
SaysWritten (Err Source) out out' status = (status ≡ OfSource) × (out' ≡ out)
SaysWritten (Err Long) out out' status = Says Refused (refused_line (codes "long")) out out' status
SaysWritten (Err (AtSpent sector)) out out' status = Says Spent (spent_line sector) out out' status

-- How an import came out on a pool that held an array, where that was told: `text` is the input before it, `rest` after it. Of the input
-- at most the volume's bytes and one sector's more are taken.
pub record ImportOutcome (status : Status) (Told Traced : Type 0) (x y : RackView) (from : Moment) (a : FlatArray) (text rest out out' : List ℕ)
    : Type 0 where
  pub result : Result ℕ ImportFault
  pub events : List Event
  pub writes : Writes (sectors_in from.linear) text rest result events
  pub most : length text ≤ 512 * sectors_in from.linear + 512 + length rest
  pub lasts : RunContract Told Traced x y from a events
  pub says : SaysWritten result out out' status
