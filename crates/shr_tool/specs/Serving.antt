-- A script that is answered on a pool: what was answered, and why it stopped.
use Rattle.std.specs.Prelude.{◌≡◌, ◌≢◌, ◌⊎◌, true, false, ℕ, ◌<◌, ◌≤◌, ◌^◌, List, [], ◌∷◌, ◌++◌, length, take, Option, Some, None, Result, Ok, Err}
use Rattle.rack.specs.Seen.{Image, Rose}
use Rattle.io_ends.specs.Sink.{AddsPrefix}
use Rattle.shr_script.specs.Line.{Line}
use Rattle.shr_script.specs.declared.Command.TheVariants.{Quit}
use Rattle.flat_array.specs.Array.{FlatArray}
use Rattle.shr_script.specs.Script.{script_of, cut_script_of}
use Rattle.pool.specs.Calls.{CallFrame}
use Rattle.pool.specs.Continuing.{Continues, KeepsOutside}
use Rattle.pool.specs.View.{View, book, slices_shown, volume}
use Rattle.pool.specs.Volume.{VolumeIs}
use Rattle.shr_tool.specs.declared.perform.Answer.{Answer}
use Rattle.shr_tool.specs.declared.perform.Answer.TheVariants.{Given}
use Rattle.shr_tool.specs.declared.serve.Stop.{Stop}
use Rattle.shr_tool.specs.declared.serve.Stop.TheVariants.{Quit as AtQuit, Input, SourceFault, Limit, SinkFault}
use Rattle.shr_tool.specs.Events.{AnyTakes, Event, answer_of, any_takes, array_by, line_of, lines_of, text_of, texts, worse, worst_of}
use Rattle.pool.specs.Moment.{Moment, moment_of}
use Rattle.pool.specs.Proceeding.{Proceeds}
use Rattle.shr_tool.specs.Timeline.{Timeline, LineContract, Steps, steps_of}
use Rattle.shr_tool.specs.Growing.{GrowsAlong, GrowsOn, IsGrowing}
use Rattle.shr_tool.specs.Heads.{KeepsHeads}
use Rattle.shr_tool.specs.Service.{AreFit, AreLone, BeginsOn, GoesBy, GoesOn, IsServed, Lone, none_out, pool_by}
use Rattle.shr_tool.specs.Between.{HaveOthers, HoldsEach}
use Rattle.assembler.specs.Sound.{TargetsLand}
use Rattle.pool_image.specs.Drives.{Found}
use Rattle.pool_model.specs.Grouped.{HaveOwnAreas}
use Rattle.pool_model.specs.Taken.{AreSerial}

-- the volume is told to hold an array, be there a sector that can be had or none
abbrev pub IsServing : View → FlatArray → Type 0
IsServing x a = VolumeIs x a × (volume x).told 0

-- a line that isn't `quit`
abbrev pub IsReplied : Line → Type 0
IsReplied (Ok Quit) = ⊥
IsReplied line = Unit {0}

-- A line was done on the pool, with this reply.
pub record Answers (x y : View) (line : Line) (answer : Answer) (text : List ℕ) : Type 0 where
  pub event : Event
  pub line_is : line_of event ≡ line
  pub answer_is : answer_of event ≡ answer
  pub performs : LineContract x y event text

-- So it was, or it grew the pool.
abbrev pub Acts : View → View → Line → Answer → List ℕ → Type 0
Acts x y line answer text = Answers x y line answer text ⊎ (IsGrowing (moment_of x) (moment_of y) line × GrowsOn x y line answer text)

-- a line was answered, and its reply put
pub record Replies (x y : View) (line : Line) (answer : Answer) (out out' : List ℕ) : Type 0 where
  pub replied : IsReplied line
  pub text : List ℕ
  pub acts : Acts x y line answer text
  pub put : out' ≡ out ++ text

-- a line was answered, and the sink refused its reply after a prefix of it
pub record Refuses (x y : View) (line : Line) (out out' : List ℕ) : Type 0 where
  pub replied : IsReplied line
  pub answer : Answer
  pub text : List ℕ
  pub acts : Acts x y line answer text
  pub prefix : AddsPrefix out out' text

-- the line in hand was answered so; `shown` is what the pool shows
abbrev pub LineAnswers : {P : Type 0} → (P → View) → Result Answer Stop → Option Line → P → P → List ℕ → List ℕ → Type 0
LineAnswers shown (Ok answer) None p q out out' = (answer ≡ Given) × (q ≡ p) × (out' ≡ out)
LineAnswers shown (Ok answer) (Some line) p q out out' = Replies (shown p) (shown q) line answer out out'
LineAnswers shown (Err AtQuit) line p q out out' = (line ≡ Some (Ok Quit)) × (q ≡ p) × (out' ≡ out)
LineAnswers shown (Err Input) line p q out out' = ⊥
LineAnswers shown (Err SourceFault) line p q out out' = ⊥
LineAnswers shown (Err Limit) line p q out out' = ⊥
LineAnswers shown (Err SinkFault) line p q out out' =
    (c : Line) × (line ≡ Some c) × Refuses (shown p) (shown q) c out out'

-- Events were done in a row: what the pool keeps, the array that it holds, and the events at their moments. What stops leave is told of
-- an array that the pool held.
pub record Ran (x y : View) (events : List Event) : Type 0 where
  pub fit : (volume x).fit
  pub continues : Continues x y
  pub passes : any_takes events ≡ false → CallFrame x y
  pub outside : KeepsOutside x.slices y.slices (AnyTakes y.shelf.names events) x.shelf.told x.bay y.bay
  pub holds : (a : FlatArray) → VolumeIs x a → VolumeIs y (array_by a events)
  pub timeline : (a : FlatArray) → Timeline (x.bay.traced × VolumeIs x a) y.bay.stops (moment_of x) a events (moment_of y)
  pub steps : Steps (moment_of x) events (moment_of y)
  pub steps_are :
      (a : FlatArray)
      → steps_of (x.bay.traced × VolumeIs x a) y.bay.stops (moment_of x) a events (moment_of y) (timeline a) ≡ steps
  -- a pool by which the run goes, with the drives that it took in
  pub service :
      (a : FlatArray) → VolumeIs x a → IsServed (moment_of y) events → (f : Found) → GoesBy (TargetsLand f) None f x → (any_takes events ≡ true → AreSerial f.state)
      → AreFit f (moment_of x) events (moment_of y) steps → GoesOn (TargetsLand f) None f (pool_by f (moment_of x) events (moment_of y) steps) y
  -- one that stands alone on its disks
  pub lone :
      (a : FlatArray) → VolumeIs x a → IsServed (moment_of y) events → (f : Found) → (l : Lone) → GoesBy (TargetsLand f) (Some l) f x
      → (book y).state.serial ≤ l.bound → (any_takes events ≡ true → AreSerial f.state) → AreFit f (moment_of x) events (moment_of y) steps
      → AreLone f l (moment_of x) events (moment_of y) steps
      → GoesOn (TargetsLand f) (Some l) f (pool_by f (moment_of x) events (moment_of y) steps) y
  -- then, where none is left out, no other disk has the id of a drive that it took in, while that comes to be one of the pool
  pub others :
      (a : FlatArray) → VolumeIs x a → x.bay.traced → IsServed (moment_of y) events → (f : Found) → (bound : ℕ) → GoesBy (TargetsLand f) (Some (none_out bound)) f x
      → (book y).state.serial ≤ bound → (any_takes events ≡ true → AreSerial f.state) → AreFit f (moment_of x) events (moment_of y) steps
      → AreLone f (none_out bound) (moment_of x) events (moment_of y) steps → HaveOthers y.bay.stops f (moment_of x) events (moment_of y) steps
  pub heads : x.shelf.told → ((d : ℕ) → d < x.bay.disks → x.bay.told d) → KeepsHeads (book x) (book y) (slices_shown x) (slices_shown y)
  -- what a stop between two of them or inside one leaves holds that pool again
  pub between :
      (a : FlatArray) → IsServing x a → x.bay.traced → (f : Found) → BeginsOn (HaveOwnAreas f) x → GoesBy (TargetsLand f) None f x
      → HoldsEach y.bay.stops (AreSerial f.state) (TargetsLand f) (HaveOwnAreas f) [] f (moment_of x) events (moment_of y) steps

-- all these were done, and their replies put
pub record Answered (x y : View) (events : List Event) (out out' : List ℕ) : Type 0 where
  pub ran : Ran x y events
  pub put : (a : FlatArray) → VolumeIs x a → out' ≡ out ++ texts a events

-- the sink refused the reply to the last one, after a prefix of it
pub record StopsAtSink (x y : View) (text out out' : List ℕ) : Type 0 where
  pub before : List Event
  pub last : Event
  pub more : List Line
  pub script : script_of text ≡ lines_of (before ++ last ∷ []) ++ more
  pub ran : Ran x y (before ++ last ∷ [])
  pub put : (a : FlatArray) → VolumeIs x a → AddsPrefix (out ++ texts a before) out' (text_of (array_by a before) last)

-- all lines of the text were answered, and this is the worst of the answers
pub record StopsAtEnd (x y : View) (text out out' : List ℕ) (worst : Answer) : Type 0 where
  pub events : List Event
  pub script : script_of text ≡ lines_of events
  pub worst_is : worst_of events ≡ worst
  pub answered : Answered x y events out out'

-- the source failed: the bytes before were taken, and the lines that ended in them answered
pub record StopsAtSource (x y : View) (text rest out out' : List ℕ) : Type 0 where
  pub taken : List ℕ
  pub text_is : text ≡ taken ++ rest
  pub events : List Event
  pub script : cut_script_of taken ≡ lines_of events
  pub answered : Answered x y events out out'

-- a script's limit was reached with more to come: the lines that ended before it are answered
pub record StopsAtLimit (x y : View) (text out out' : List ℕ) : Type 0 where
  pub longer : 2 ^ 32 < length text
  pub events : List Event
  pub script : cut_script_of (take (2 ^ 32) text) ≡ lines_of events
  pub answered : Answered x y events out out'

-- how a script was answered that didn't grow the pool, by why it stopped
abbrev pub ServesEvents : Stop → View → View → List ℕ → List ℕ → List ℕ → List ℕ → Answer → Type 0
ServesEvents AtQuit x y text rest out out' worst = StopsAtEnd x y text out out' worst
ServesEvents Input x y text rest out out' worst = StopsAtEnd x y text out out' worst × (length text ≤ 2 ^ 32)
ServesEvents SourceFault x y text rest out out' worst = StopsAtSource x y text rest out out'
ServesEvents Limit x y text rest out out' worst = StopsAtLimit x y text out out'
ServesEvents SinkFault x y text rest out out' worst = StopsAtSink x y text out out'

-- ---- a script that grew it

-- Events of a run from a pool on to a moment, by what stops leave: at their moments, and what a stop between two of them or inside one leaves holds the pool
-- by which the run goes.
pub record HasGone (x : View) (stops : ℕ → Image → Type 0) (events : List Event) (last : Moment) : Type 0 where
  pub timeline : (a : FlatArray) → Timeline (x.bay.traced × VolumeIs x a) stops (moment_of x) a events last
  pub steps : Steps (moment_of x) events last
  pub steps_are : (a : FlatArray) → steps_of (x.bay.traced × VolumeIs x a) stops (moment_of x) a events last (timeline a) ≡ steps
  pub between :
      (a : FlatArray) → IsServing x a → x.bay.traced → (f : Found) → BeginsOn (HaveOwnAreas f) x → GoesBy (TargetsLand f) None f x
      → HoldsEach stops (AreSerial f.state) (TargetsLand f) (HaveOwnAreas f) [] f (moment_of x) events last steps

-- Events were done in a row, and then lines of which the first one grew the pool. `worst` is the worst of all answers, and `Put` is what is known of all replies.
pub record Grew (x y : View) (lines : List Line) (worst : Answer) (Put : List ℕ → Type 0) : Type 0 where
  pub events : List Event
  pub first : Line
  pub more : List Line
  pub lines_are : lines ≡ lines_of events ++ first ∷ more
  pub proceeds : Proceeds x y
  pub last : Moment
  pub gone : HasGone x y.bay.stops events last
  pub later : x.shelf.told → x.bay.traced → last.clock ≤ y.bay.clock
  pub said : List ℕ
  pub answer : Answer
  pub worst_is : worse (worst_of events) answer ≡ worst
  pub grown : GrowsAlong (x.shelf.told × x.bay.traced) last (first ∷ more) said answer (moment_of y)
  pub growing : IsGrowing last grown.0 first
  pub put : (a : FlatArray) → VolumeIs x a → Put (texts a events ++ said)

-- these are the lines of a text that were begun, by why it was left
abbrev pub AreBegun : Stop → List ℕ → List ℕ → List Line → Type 0
AreBegun AtQuit text rest lines = script_of text ≡ lines
AreBegun Input text rest lines = (script_of text ≡ lines) × (length text ≤ 2 ^ 32)
AreBegun SourceFault text rest lines = (taken : List ℕ) × (text ≡ taken ++ rest) × (cut_script_of taken ≡ lines)
AreBegun Limit text rest lines = (2 ^ 32 < length text) × (cut_script_of (take (2 ^ 32) text) ≡ lines)
AreBegun SinkFault text rest lines = (more : List Line) × (script_of text ≡ lines ++ more)

-- these replies were put, or a prefix of them where the sink refused one
abbrev pub ArePut : Stop → List ℕ → List ℕ → List ℕ → Type 0
ArePut AtQuit out out' replies = out' ≡ out ++ replies
ArePut Input out out' replies = out' ≡ out ++ replies
ArePut SourceFault out out' replies = out' ≡ out ++ replies
ArePut Limit out out' replies = out' ≡ out ++ replies
ArePut SinkFault out out' replies = AddsPrefix out out' replies

-- How it was answered. Where the sink refused the reply to the last line, that one's answer isn't among those of which the worst is told.
pub record ServesGrown (stop : Stop) (x y : View) (text rest out out' : List ℕ) (worst : Answer) : Type 0 where
  pub lines : List Line
  pub begun : AreBegun stop text rest lines
  pub all : Answer
  pub worst_is : stop ≢ SinkFault → all ≡ worst
  pub grew : Grew x y lines all (ArePut stop out out')

-- How a script was answered, by why it stopped. No line grew the pool, or one did.
abbrev pub Serves : Stop → View → View → List ℕ → List ℕ → List ℕ → List ℕ → Answer → Type 0
Serves stop x y text rest out out' worst = ServesEvents stop x y text rest out out' worst ⊎ ServesGrown stop x y text rest out out' worst

-- The last line was answered, by why the script stopped; `before` and `now`: the worst answer.
abbrev pub LastAnswers : {P : Type 0} → (P → View) → Answer → Answer → Stop → Option Line → P → P → List ℕ → List ℕ → Type 0
LastAnswers shown before now AtQuit line p q out out' = (now ≡ before) × LineAnswers shown (Err AtQuit) line p q out out'
LastAnswers shown before now Input line p q out out' =
    (answer : Answer) × (now ≡ worse before answer) × LineAnswers shown (Ok answer) line p q out out'
LastAnswers shown before now SourceFault line p q out out' = ⊥
LastAnswers shown before now Limit line p q out out' = ⊥
LastAnswers shown before now SinkFault line p q out out' = LineAnswers shown (Err SinkFault) line p q out out'

-- a fault stops a script only where its count rose
abbrev pub HasStopCause : Stop → ℕ → ℕ → ℕ → ℕ → Type 0
HasStopCause AtQuit source source' sink sink' = Unit {0}
HasStopCause Input source source' sink sink' = Unit {0}
HasStopCause SourceFault source source' sink sink' = Rose source source'
HasStopCause Limit source source' sink sink' = Unit {0}
HasStopCause SinkFault source source' sink sink' = Rose sink sink'
