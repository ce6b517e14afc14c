-- Lines of a script from the first one on that grows the pool. Of what the volume holds nothing is said after it: only how the pool stands before each line and after it.
use Rattle.std.specs.Prelude.{◌≡◌, ◌⊎◌, ℕ, ◌*◌, ◌≤◌, min, true, false, List, [], ◌∷◌, ◌++◌, codes, Result, Ok, Err}
use Rattle.flat_array.specs.Array.{FlatArray}
use Rattle.growth_laws.specs.Growing.{GetsLonger}
use Rattle.lvm_group.specs.Runs.{sectors_in}
use Rattle.rack.specs.Seen.{RackView}
use Rattle.raid_laws.specs.Moves.{RaisesBy}
use Rattle.slice_rack.specs.Slices.{seat_of}
use Rattle.shr_script.specs.declared.Command.TheVariants.{Lose, Replace, Add, Step}
use Rattle.shr_script.specs.Line.{Line}
use Rattle.shr_script.specs.Reply.{as_line, left_line, refused_line}
use Rattle.pool.specs.declared.replacing.GrowFault.{GrowFault}
use Rattle.pool.specs.Adding.{AddsNamed}
use Rattle.pool.specs.Enlarging.{EnlargesNamed, IsEnlarging}
use Rattle.pool.specs.Growing.{DoesMany, StopsBetween}
use Rattle.pool.specs.Keeping.{Raises, most_raised}
use Rattle.pool.specs.Moment.{KeepsDisks, MarksBut, Moment, moment_of}
use Rattle.pool.specs.Proceeding.{Proceeds, has_growth}
use Rattle.pool.specs.Replaced.{DriveWentSince}
use Rattle.pool.specs.View.{View}
use Rattle.pool.specs.Works.{left_by}
use Rattle.shr_tool.specs.declared.perform.Answer.{Answer}
use Rattle.shr_tool.specs.declared.perform.Answer.TheVariants.{Given, Spent}
use Rattle.shr_tool.specs.Events.{Event, answer_by, answer_of, calls_in, grow_word, line_of, stuck_line, text_of, worse}
use Rattle.shr_tool.specs.Timeline.{EventContract}

-- A line grows the pool as it stands: it adds a drive; it replaces one by a disk of other units, where nothing is against it; or it asks for works while one of a growth is
-- left. `q` is the pool after the line, by which the disk of a name is known.
abbrev pub IsGrowing : (p q : Moment) → Line → Type 0
IsGrowing p q (Ok (Replace place name)) = IsEnlarging p q place name
IsGrowing p q (Ok (Add name)) = Unit {0}
IsGrowing p q (Ok (Step count)) = has_growth p.linear p.book ≡ true
IsGrowing p q line = ⊥

-- ---- a line that takes a drive in

-- its reply, by how that came out
abbrev pub taking_text : Result (Unit {0}) GrowFault → List ℕ
taking_text (Ok done) = as_line (codes "ok")
taking_text (Err fault) = refused_line (grow_word fault)

-- what the status has to say of it
abbrev pub taking_answer : Result (Unit {0}) GrowFault → Answer
taking_answer (Ok done) = Given
taking_answer (Err fault) = answer_by fault

-- The drive is taken in, or it isn't, as this says of its result. The volume lies where it lay.
abbrev pub TakesIn : (p q : Moment) → Answer → List ℕ → (Result (Unit {0}) GrowFault → Type 0) → Type 0
TakesIn p q answer text Takes =
    (result : Result (Unit {0}) GrowFault) × (answer ≡ taking_answer result) × (text ≡ taking_text result) × (q.linear ≡ p.linear) × Takes result

-- ---- works

-- The bay has the disks that it had, with their names, and what waits to be attached.
abbrev pub KeepsBay : (p q : Moment) → Type 0
KeepsBay p q = (q.disks ≡ p.disks) × ((d : ℕ) → q.sectors d ≡ p.sectors d) × (q.names ≡ p.names) × ((name : List ℕ) → q.ready name ≡ p.ready name)

-- The bay at a moment. Of what its disks hold and of stops nothing is told.
abbrev pub bay_at : Moment → RackView
bay_at p = record {
  disks = p.disks;
  sectors = p.sectors;
  held = p.held;
  clock = p.clock;
  stops = λ k i. ⊥;
  faults = p.faults;
  spent = λ d s. false;
  lasting = ⊥;
  steady = ⊥;
  fit = ⊥;
  told = λ d. ⊥;
  traced = ⊥;
}

-- Fewer works were done, and then the first that was left couldn't be, which is one of this array.
abbrev pub Stops : ℕ → (p q : Moment) → (array : ℕ) → Type 0
Stops count p q array = StopsBetween bay_at KeepsBay (KeepsBay p) count p q array

-- ---- what lines do

-- what a line that grows the pool does, by what the status has to say of it and by its reply
abbrev pub IsGrownBy : (p q : Moment) → Line → Answer → List ℕ → Type 0
IsGrownBy p q (Ok (Replace place name)) answer text = TakesIn p q answer text (EnlargesNamed p q place name)
IsGrownBy p q (Ok (Add name)) answer text = TakesIn p q answer text (AddsNamed p q name)
IsGrownBy p q (Ok (Step count)) answer text =
    KeepsBay p q
    × ((place : ℕ) → seat_of q.slices place ≡ seat_of p.slices place)
    × GetsLonger p.book q.book
    × (((answer ≡ Given) × (text ≡ left_line (left_by q.linear q.book)) × DoesMany (min count (left_by p.linear p.book)) p q)
    ⊎ ((array : ℕ) × (answer ≡ Spent) × (text ≡ stuck_line array) × Stops count p q array))
IsGrownBy p q line answer text = ⊥

-- A line was answered as an event of a run, by how the pool stood before it and after it. Of stops nothing is told, and of what the volume holds only that some array of so many
-- sectors is answered so.
pub record IsEvent (p q : Moment) (line : Line) (answer : Answer) (text : List ℕ) : Type 0 where
  pub event : Event
  pub line_is : line_of event ≡ line
  pub answer_is : answer_of event ≡ answer
  pub array : FlatArray
  pub size : array.size ≡ sectors_in p.linear
  pub text_is : text ≡ text_of array event
  pub happens : EventContract ⊥ (λ k i. ⊥) p q array event

-- it was, or it grew the pool
abbrev pub IsAnswered : (p q : Moment) → Line → Answer → List ℕ → Type 0
IsAnswered p q line answer text = IsEvent p q line answer text ⊎ (IsGrowing p q line × IsGrownBy p q line answer text)

-- ---- what lines keep

-- a line loses or replaces the drive of a place
abbrev pub IsAgainst : Line → ℕ → Type 0
IsAgainst line place = (line ≡ Ok (Lose place)) ⊎ ((name : List ℕ) × (line ≡ Ok (Replace place name)))

-- A drive that was current is marked missing only where the faults of its disk rose, by where its slices lay or lie, or where it was lost so.
abbrev pub MarksWent : (Lost : ℕ → Type 0) → (p q : Moment) → Type 0
MarksWent Lost p q = MarksBut (λ place. DriveWentSince p q place ⊎ Lost place) p q

-- What so many calls do to a pool: its bay has the disks that it had, marks have their cause, and numbers rise by a bounded number for each call.
pub record ProceedsTo (Traced : Type 0) (Lost : ℕ → Type 0) (calls : ℕ) (p q : Moment) : Type 0 where
  pub later : Traced → p.clock ≤ q.clock
  pub disks : KeepsDisks p q
  pub marks : MarksWent Lost p q
  pub raises : RaisesBy (most_raised * calls) p.book q.book

-- a line that is answered by this text on a pool that has grown, or grows by it
pub record GrowsOn (x y : View) (line : Line) (answer : Answer) (text : List ℕ) : Type 0 where
  pub proceeds : Proceeds x y
  pub marks : MarksWent (IsAgainst line) (moment_of x) (moment_of y)
  pub raises : Raises (calls_in line) x y
  pub answered : IsAnswered (moment_of x) (moment_of y) line answer text

-- lines in a row, from one moment to another, their replies, and the worst of their answers
abbrev pub GrowsAlong : Type 0 → Moment → List Line → List ℕ → Answer → Moment → Type 0
GrowsAlong Traced p [] said worst q = (p ≡ q) × (said ≡ []) × (worst ≡ Given)
GrowsAlong Traced p (line ∷ lines) said worst q =
    (at : Moment) × (answer : Answer) × (text : List ℕ) × (others : Answer) × (more : List ℕ)
    × ProceedsTo Traced (IsAgainst line) (calls_in line) p at
    × IsAnswered p at line answer text
    × (worst ≡ worse answer others) × (said ≡ text ++ more)
    × GrowsAlong Traced at lines more others q
