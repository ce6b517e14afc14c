-- What a line of a script does on a pool: as a flat array of sectors has it, or what lost drives make of it.
use Rattle.std.specs.Prelude.{◌≡◌, ◌⊎◌, ℕ, ◌+◌, ◌<◌, ◌≤◌, ◌||◌, not, Bool, true, false, slice_get, Some, List, [], ◌∷◌, ◌++◌, codes, decimal, Ok, Err}
use Rattle.shr_script.specs.declared.Command.TheVariants.{Read, Write, Fill, Size, Lose, Replace, Add, Step, Status, Quit}
use Rattle.shr_script.specs.Line.{Line}
use Rattle.shr_script.specs.Reply.{as_line, left_line, refused_line}
use Rattle.flat_array.specs.Array.{FlatArray}
use Rattle.pool.specs.declared.replacing.GrowFault.{GrowFault}
use Rattle.pool.specs.declared.replacing.GrowFault.TheVariants.{NoSuchDrive, Attach, Twice, Memory as NoMemory, PlanPending, NotWhole, NotResynced, Size as OfSize, Smaller, TooManyDrives, TooManyLayers, TooManySegments, Gone}
use Rattle.shr_tool.specs.declared.perform.Answer.{Answer}
use Rattle.shr_tool.specs.declared.perform.Answer.TheVariants.{Given, Spent, Memory}
use Rattle.flat_array.specs.Reply.{after, after_spent, reply, spent_line}

pub data Event : Type 0 where
  -- the line was answered as the flat array answers it: `lose` so where no drive has the place
  answered : Line → Event
  -- it was refused at this sector, of which too many copies are lost
  spent : Line → ℕ → Event
  -- the drive of a place was lost
  lost : ℕ → Event
  -- it wasn't, being the last one
  last : ℕ → Event
  -- the drive of a place was replaced by the image of a name
  replaced : ℕ → List ℕ → Event
  -- it wasn't, and this says why
  declined : ℕ → List ℕ → GrowFault → Event
  -- so many works of maintenance were asked for, and after them so many are left
  stepped : ℕ → ℕ → Event
  -- they ended at one that this array can't do
  stuck : ℕ → ℕ → Event
  -- how the pool stands was said by this text
  shown : List ℕ → Event

-- the line
abbrev pub line_of : Event → Line
line_of (answered line) = line
line_of (spent line sector) = line
line_of (lost place) = Ok (Lose place)
line_of (last place) = Ok (Lose place)
line_of (replaced place name) = Ok (Replace place name)
line_of (declined place name fault) = Ok (Replace place name)
line_of (stepped count left) = Ok (Step count)
line_of (stuck count array) = Ok (Step count)
line_of (shown text) = Ok Status

-- how many calls of a pool a line has: one for each sector of a fill and each work of a step
abbrev pub calls_in : Line → ℕ
calls_in (Ok (Fill sector count byte)) = count
calls_in (Ok (Step count)) = count
calls_in line = 1

-- the reply where an array can't do a work
abbrev pub stuck_line : ℕ → List ℕ
stuck_line array = refused_line (codes "stuck " ++ decimal array)

-- the word of a fault where a drive isn't replaced
abbrev pub grow_word : GrowFault → List ℕ
grow_word NoSuchDrive = codes "no-such-drive"
grow_word Attach = codes "attach"
grow_word Twice = codes "twice"
grow_word NoMemory = codes "memory"
grow_word PlanPending = codes "plan-pending"
grow_word NotWhole = codes "not-whole"
grow_word NotResynced = codes "not-resynced"
grow_word OfSize = codes "size"
grow_word Smaller = codes "smaller"
grow_word TooManyDrives = codes "too-many-drives"
grow_word TooManyLayers = codes "too-many-layers"
grow_word TooManySegments = codes "too-many-segments"
grow_word Gone = codes "drive-gone"

-- its reply
abbrev pub text_of : FlatArray → Event → List ℕ
text_of a (answered line) = reply a line
text_of a (spent line sector) = spent_line sector
text_of a (lost place) = as_line (codes "ok")
text_of a (last place) = refused_line (codes "last-drive")
text_of a (replaced place name) = as_line (codes "ok")
text_of a (declined place name fault) = refused_line (grow_word fault)
text_of a (stepped count left) = left_line left
text_of a (stuck count array) = stuck_line array
text_of a (shown text) = text

-- the array after it
abbrev pub becomes : FlatArray → Event → FlatArray
becomes a (answered line) = after a line
becomes a (spent line sector) = after_spent a line sector
becomes a event = a

-- the replies to events in a row, and the array after them
abbrev pub texts : FlatArray → List Event → List ℕ
texts a [] = []
texts a (event ∷ events) = text_of a event ++ texts (becomes a event) events

abbrev pub array_by : FlatArray → List Event → FlatArray
array_by a [] = a
array_by a (event ∷ events) = array_by (becomes a event) events

-- their lines
abbrev pub lines_of : List Event → List Line
lines_of [] = []
lines_of (event ∷ events) = line_of event ∷ lines_of events

-- what the status has to say of a drive that isn't replaced
abbrev pub answer_by : GrowFault → Answer
answer_by NoMemory = Memory
answer_by fault = Given

-- what the status has to say of an event
abbrev pub answer_of : Event → Answer
answer_of (spent line sector) = Spent
answer_of (declined place name fault) = answer_by fault
answer_of (stuck count array) = Spent
answer_of event = Given

-- the worse of two answers: want of memory before a refused sector or work
abbrev pub worse : Answer → Answer → Answer
worse Given other = other
worse Spent Given = Spent
worse Spent Spent = Spent
worse Spent Memory = Memory
worse Memory other = Memory

-- the worst of all
abbrev pub worst_of : List Event → Answer
worst_of [] = Given
worst_of (event ∷ events) = worse (answer_of event) (worst_of events)

-- a drive of the list was to be replaced
abbrev pub looks_at : GrowFault → Bool
looks_at NoSuchDrive = false
looks_at fault = true

-- a disk may be attached, or slices be taken from a place: a drive of the list was to be replaced
abbrev pub takes_disk : Event → Bool
takes_disk (replaced place name) = true
takes_disk (declined place name fault) = looks_at fault
takes_disk event = false

-- works are done, or begun by a new drive
abbrev pub works_on : Event → Bool
works_on (replaced place name) = true
works_on (stepped count left) = true
works_on (stuck count array) = true
works_on event = false

abbrev pub any_takes : List Event → Bool
any_takes [] = false
any_takes (event ∷ events) = takes_disk event || any_takes events

-- by these names of disks, an event took this one, or tried to
abbrev pub Takes : List (List ℕ) → Event → ℕ → Type 0
Takes names (replaced place name) d = slice_get names d ≡ Some name
Takes names (declined place name fault) d = slice_get names d ≡ Some name
Takes names event d = ⊥

-- one of these did
abbrev pub AnyTakes : List (List ℕ) → List Event → ℕ → Type 0
AnyTakes names [] d = ⊥
AnyTakes names (event ∷ events) d = Takes names event d ⊎ AnyTakes names events d

-- no disk is asked for the answer: to a wrong line, of the size, how the pool stands, a place that isn't in the list
abbrev pub calls_none : Event → Bool
calls_none (answered (Ok Size)) = true
calls_none (answered (Ok Quit)) = true
calls_none (answered (Err fault)) = true
calls_none (declined place name fault) = not (looks_at fault)
calls_none (shown text) = true
calls_none event = false

-- a line that is answered as a flat array answers it, and not by the drives, the works that are left or how the pool stands
abbrev pub IsOfArray : Line → Type 0
IsOfArray (Ok (Replace place name)) = ⊥
IsOfArray (Ok (Add name)) = ⊥
IsOfArray (Ok (Step count)) = ⊥
IsOfArray (Ok Status) = ⊥
IsOfArray line = Unit {0}

-- a sector that a line reads or writes, of a volume of so many sectors
abbrev pub Touches : ℕ → Line → ℕ → Type 0
Touches size (Ok (Read sector)) s = (s ≡ sector) × (sector < size)
Touches size (Ok (Write sector bytes)) s = (s ≡ sector) × (sector < size)
Touches size (Ok (Fill sector count byte)) s = (sector ≤ s) × (s < sector + count) × (sector + count ≤ size)
Touches size line s = ⊥

-- the last one of them
abbrev pub TouchesLast : ℕ → Line → ℕ → Type 0
TouchesLast size (Ok (Read sector)) s = (s ≡ sector) × (sector < size)
TouchesLast size (Ok (Write sector bytes)) s = (s ≡ sector) × (sector < size)
TouchesLast size (Ok (Fill sector count byte)) s = (s + 1 ≡ sector + count) × (sector ≤ s) × (sector + count ≤ size)
TouchesLast size line s = ⊥
