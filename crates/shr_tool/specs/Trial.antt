-- A trial: the turns that a generator draws, over the first sectors of a volume, and how that came out.
use Rattle.std.specs.Prelude.{◌≡◌, ℕ, zero, suc, ◌+◌, ◌*◌, ◌/◌, ◌%◌, ◌^◌, ◌<◌, ◌≤◌, ◌==◌, nat_lt, if◌then◌else◌, cond, min, Bool, true, false, List, [], ◌∷◌, ◌++◌, map, length, count_by, get_or, codes, decimal, Result, Ok, Err, IfOk}
use Rattle.std.specs.List.{range_with_len}
use Rattle.rack.specs.Seen.{RackView}
use Rattle.lvm_group.specs.Runs.{sectors_in}
use Rattle.shr_script.specs.declared.Command.TheVariants.{Read as ReadLine, Write as WriteLine, Fill as FillLine, Flush as FlushLine}
use Rattle.shr_script.specs.Line.{Line}
use Rattle.shr_script.specs.Reply.{as_line}
use Rattle.flat_array.specs.Array.{FlatArray, fresh}
use Rattle.flat_array.specs.Reply.{after, spent_line, uniform_sector}
use Rattle.shr_tool.specs.declared.status.Status.{Status}
use Rattle.shr_tool.specs.declared.status.Status.TheVariants.{Done, Spent}
use Rattle.shr_tool.specs.declared.perform.SpentAt.{SpentAt}
use Rattle.shr_tool.specs.declared.trial.Tally.{Tally}
use Rattle.shr_tool.specs.declared.trial.Turn.{Turn}
use Rattle.shr_tool.specs.declared.trial.Turn.TheVariants.{Write, Read, Flush}
use Rattle.shr_tool.specs.Events.{Event}
use Rattle.shr_tool.specs.Events.Event.{answered, spent}
use Rattle.shr_tool.specs.Outcome.{RunContract}
use Rattle.shr_tool.specs.Saying.{Says}
use Rattle.shr_tool.specs.Serving.{Ran}
use Rattle.shr_tool.specs.Timeline.{LineContract}
use Rattle.pool.specs.Moment.{Moment}
use Rattle.pool.specs.View.{View}
use Rattle.pool.specs.Volume.{VolumeIs, size_of}

-- ---- the generator

-- the state after a draw: a linear congruential generator of 64 bits
abbrev pub next : ℕ → ℕ
next state = (state * 6364136223846793005 + 1442695040888963407) % 2 ^ 64

-- the number that it gives: the upper bits, since the lower ones repeat soon
abbrev pub drawn : ℕ → ℕ
drawn state = state / 2 ^ 33

-- the state after so many draws
unfoldable pub state_at : ℕ → ℕ → ℕ
state_at seed zero = seed
state_at seed (suc draws) = next (state_at seed draws)

-- ---- turns

-- a turn by its three draws, on the first so many sectors
abbrev pub turn_of : ℕ → ℕ → ℕ → ℕ → Turn
turn_of span a b c =
    if nat_lt (b % 8) 5 then Write (a % span) (c % 256) else if nat_lt (b % 8) 7 then Read (a % span) else Flush

-- by the next three draws
abbrev pub turn_from : ℕ → ℕ → Turn
turn_from span state = turn_of span (drawn (next state)) (drawn (next (next state))) (drawn (next (next (next state))))

-- turn number n, the first one being 0
abbrev pub turn_at : ℕ → ℕ → ℕ → Turn
turn_at span seed n = turn_from span (state_at seed (3 * n))

-- the first so many
unfoldable pub turns : ℕ → ℕ → ℕ → List Turn
turns span seed count = map (turn_at span seed) (range_with_len 0 count)

-- how many sectors of a volume a trial is over: the first ones
abbrev pub span_of : ℕ → ℕ
span_of size = min size 4096

-- how many turns it has: none where the volume has no sector
abbrev pub turns_over : ℕ → ℕ
turns_over span = if span == 0 then 0 else 20000

-- those of a trial of a seed on a volume of so many sectors
abbrev pub turns_for : ℕ → ℕ → List Turn
turns_for seed size = turns (span_of size) seed (turns_over (span_of size))

-- ---- lines

-- a turn as a line
abbrev pub line_for : Turn → Line
line_for (Write sector byte) = Ok (WriteLine sector (uniform_sector byte))
line_for (Read sector) = Ok (ReadLine sector)
line_for Flush = Ok FlushLine

-- all lines of a trial: its sectors are filled with zeros first
abbrev pub lines_for : ℕ → ℕ → List Line
lines_for seed size = Ok (FillLine 0 (span_of size) 0) ∷ map line_for (turns_for seed size)

-- ---- the tally

abbrev pub is_write : Turn → Bool
is_write (Write sector byte) = true
is_write (Read sector) = false
is_write Flush = false

abbrev pub is_read : Turn → Bool
is_read (Write sector byte) = false
is_read (Read sector) = true
is_read Flush = false

abbrev pub is_flush : Turn → Bool
is_flush (Write sector byte) = false
is_flush (Read sector) = false
is_flush Flush = true

-- what a turn adds to the sum: the first byte that it reads
abbrev pub byte_of : FlatArray → Turn → ℕ
byte_of a (Write sector byte) = 0
byte_of a (Read sector) = get_or (a.values sector).current 0 0
byte_of a Flush = 0

-- the sum of turns in a row
abbrev pub sum_of : FlatArray → List Turn → ℕ
sum_of a [] = 0
sum_of a (turn ∷ turns) = byte_of a turn + sum_of (after a (line_for turn)) turns

abbrev pub tally_of : FlatArray → List Turn → Tally
tally_of a turns = record {
  turns = length turns;
  writes = count_by is_write turns;
  reads = count_by is_read turns;
  flushes = count_by is_flush turns;
  sum = sum_of a turns;
}

-- with one turn more, which adds this to the sum
abbrev pub counted : Turn → ℕ → Tally → Tally
counted turn byte tally = record {
  turns = tally.turns + 1;
  writes = tally.writes + cond (is_write turn) 1 0;
  reads = tally.reads + cond (is_read turn) 1 0;
  flushes = tally.flushes + cond (is_flush turn) 1 0;
  sum = tally.sum + byte;
}

-- a turn is counted once, and adds at most a byte
pub record IsSmall (tally : Tally) : Type 0 where
  pub writes : tally.writes ≤ tally.turns
  pub reads : tally.reads ≤ tally.turns
  pub flushes : tally.flushes ≤ tally.turns
  pub sum : tally.sum ≤ 255 * tally.turns

-- That of a trial, by its seed and the volume's size alone: it is over zeros.
abbrev pub tally_for : ℕ → ℕ → Tally
tally_for seed size = tally_of (fresh (span_of size) (λ s. uniform_sector 0)) (turns_for seed size)

-- `trial turns N writes W reads R flushes F sum S`
abbrev pub tally_line : Tally → List ℕ
tally_line tally =
    as_line
    (codes "trial turns " ++ decimal tally.turns
    ++ codes " writes " ++ decimal tally.writes
    ++ codes " reads " ++ decimal tally.reads
    ++ codes " flushes " ++ decimal tally.flushes
    ++ codes " sum " ++ decimal tally.sum)

-- ---- how it came out

-- all lines were answered; or those before one, which was refused at a sector
abbrev pub Tries : List Line → Result Tally SpentAt → List Event → Type 0
Tries lines (Ok tally) events = events ≡ map answered lines
Tries lines (Err at) events =
    (before : List Line) × (line : Line) × (more : List Line)
    × (lines ≡ before ++ line ∷ more) × (events ≡ map answered before ++ spent line at.sector ∷ [])

-- what is put about it, and the status
abbrev pub SaysTried : Result Tally SpentAt → List ℕ → List ℕ → Status → Type 0
SaysTried (Ok tally) out out' status = Says Done (tally_line tally) out out' status
SaysTried (Err at) out out' status = Says Spent (spent_line at.sector) out out' status

-- a turn reads or writes one of the first so many sectors, or none
abbrev pub IsWithin : ℕ → Turn → Type 0
IsWithin size (Write sector byte) = sector < size
IsWithin size (Read sector) = sector < size
IsWithin size Flush = Unit {0}

-- A turn was done on a pool and added this to the sum, or it was refused at a sector.
abbrev pub Takes : View → View → Turn → Result ℕ SpentAt → Type 0
Takes x y turn (Ok byte) =
    ((text : List ℕ) × LineContract x y (answered (line_for turn)) text) × ((a : FlatArray) → VolumeIs x a → byte ≡ byte_of a turn)
Takes x y turn (Err at) = (text : List ℕ) × LineContract x y (spent (line_for turn) at.sector) text

-- The lines of a trial were done on a pool so.
pub record TriesOn (x y : View) (seed : ℕ) (result : Result Tally SpentAt) : Type 0 where
  pub events : List Event
  pub tries : Tries (lines_for seed (size_of x)) result events
  pub tallied : (a : FlatArray) → VolumeIs x a → IfOk result (λ tally. tally ≡ tally_for seed (size_of x))
  pub ran : Ran x y events

-- How a trial came out on a pool that held an array, where that was told. Where no sector was refused, what is put is the line of the seed and the volume's
-- size, whatever the array was and whichever drives the pool lost. The end of the pool is the flush that ends the trial.
pub record TrialOutcome (seed : ℕ) (status : Status) (Told Traced : Type 0) (x y : RackView) (from : Moment) (a : FlatArray) (out out' : List ℕ) : Type 0 where
  pub result : Result Tally SpentAt
  pub events : List Event
  pub tries : Tries (lines_for seed (sectors_in from.linear)) result events
  pub tallied : Told → IfOk result (λ tally. tally ≡ tally_for seed (sectors_in from.linear))
  pub lasts : RunContract Told Traced x y from a events
  pub says : SaysTried result out out' status
