-- A task on an open pool ends for want of memory only where a line of its script names an image.
use Rattle.std.proofs.Common.{◌≡◌, ◌⊎◌, ℕ, ◌||◌, Bool, true, false, List, [], ◌∷◌, ◌++◌, codes, Result, Ok, Err, refl, sym, ap, subst, ◌∙◌, inl, inr}
use Rattle.std.specs.List.{list_any}
use Rattle.std.proofs.lemmas.List.Folds.{list_any-append}
use Rattle.rack.specs.Seen.{RackView}
use Rattle.flat_array.specs.Array.{FlatArray}
use Rattle.shr_script.specs.declared.Command.TheVariants.{Replace, Add, Step, Status as ShowLine, Quit}
use Rattle.shr_script.specs.Line.{Line}
use Rattle.shr_script.specs.Script.{script_of}
use Rattle.pool.specs.Moment.{Moment}
use Rattle.shr_tool.specs.declared.opening.Task.{Task}
use Rattle.shr_tool.specs.declared.opening.Task.TheVariants as tasks
use Rattle.shr_tool.specs.declared.perform.Answer.{Answer}
use Rattle.shr_tool.specs.declared.perform.Answer.TheVariants.{Given, Spent, Memory}
use Rattle.shr_tool.specs.declared.perform.SpentAt.{SpentAt}
use Rattle.shr_tool.specs.declared.serve.Stop.{Stop}
use Rattle.shr_tool.specs.declared.serve.Stop.TheVariants as stops
use Rattle.shr_tool.specs.declared.status.Status.{Status}
use Rattle.shr_tool.specs.declared.status.Status.TheVariants as ends
use Rattle.shr_tool.specs.declared.importing.ImportFault.{ImportFault}
use Rattle.shr_tool.specs.declared.importing.ImportFault.TheVariants as importing
use Rattle.shr_tool.specs.declared.trial.Tally.{Tally}
use Rattle.shr_tool.specs.Complete.{NamesImage, names_image}
use Rattle.shr_tool.specs.Events.{Event, answer_of, line_of, lines_of, worse, worst_of}
use Rattle.shr_tool.specs.Events.Event.{answered, spent, lost, last, replaced, declined, stepped, stuck, shown}
use Rattle.shr_tool.specs.Growing.{GrowsAlong, IsAnswered, IsGrownBy}
use Rattle.shr_tool.specs.Importing.{SaysWritten}
use Rattle.shr_tool.specs.Outcome.{GrownOutcome, status_by}
use Rattle.shr_tool.specs.Saying.{Says}
use Rattle.shr_tool.specs.Serving.{AreBegun}
use Rattle.shr_tool.specs.Tasks.{TaskOutcome}
use Rattle.shr_tool.specs.Trial.{SaysTried}

abbrev AnyNames : List Line → Type 0
AnyNames lines = list_any names_image lines ≡ true

-- ---- answers

-- the worse of two is want of memory only where one is
worse_memory : (one other : Answer) → worse one other ≡ Memory → (one ≡ Memory) ⊎ (other ≡ Memory)
worse_memory Given other is = inr is
worse_memory Spent Given is = cc is
worse_memory Spent Spent is = cc is
worse_memory Spent Memory is = inr refl
worse_memory Memory other is = inl refl

event_names : (event : Event) → answer_of event ≡ Memory → names_image (line_of event) ≡ true
event_names (answered line) is = cc is
event_names (spent line sector) is = cc is
event_names (lost place) is = cc is
event_names (last place) is = cc is
event_names (replaced place name) is = refl
event_names (declined place name fault) is = refl
event_names (stepped count left) is = cc is
event_names (stuck count array) is = cc is
event_names (shown text) is = cc is

-- the first of lines names one, or another one does
first_names : (line : Line) (lines : List Line) → names_image line ≡ true → AnyNames (line ∷ lines)
first_names line lines is = ap (λ (b : Bool). b || list_any names_image lines) is

or_true : (a b : Bool) → b ≡ true → (a || b) ≡ true
or_true true b is = refl
or_true false b is = is

other_names : (line : Line) (lines : List Line) → AnyNames lines → AnyNames (line ∷ lines)
other_names line lines is = or_true (names_image line) (list_any names_image lines) is

events_name : (events : List Event) → worst_of events ≡ Memory → AnyNames (lines_of events)
events_name [] is = cc is
events_name (event ∷ events) is = elim (worse_memory (answer_of event) (worst_of events) is) [
  | inl here ↦ first_names (line_of event) (lines_of events) (event_names event here)
  | inr there ↦ other_names (line_of event) (lines_of events) (events_name events there)
]

-- ---- lines that grow the pool

grown_names : (p q : Moment) (line : Line) (text : List ℕ) → IsGrownBy p q line Memory text → names_image line ≡ true
grown_names p q (Ok (Replace place name)) text grows = refl
grown_names p q (Ok (Add name)) text grows = refl
grown_names p q (Ok (Step count)) text grows = elim grows.3 [ inl done ↦ cc done.0 | inr stops ↦ cc stops.1 ]
grown_names p q line text grows = absurd grows

answered_names : (p q : Moment) (line : Line) (text : List ℕ) → IsAnswered p q line Memory text → names_image line ≡ true
answered_names p q line text answers = elim answers [
  | inl is ↦ subst (λ (l : Line). names_image l ≡ true) is.line_is (event_names is.event is.answer_is)
  | inr grows ↦ grown_names p q line text grows.1
]

along_names : (Traced : Type 0) (p : Moment) (lines : List Line) (said : List ℕ) (worst : Answer) (q : Moment) → GrowsAlong Traced p lines said worst q → worst ≡ Memory → AnyNames lines
along_names Traced p [] said worst q grows is = cc (grows.2, is)
along_names Traced p (line ∷ lines) said worst q (at, answer, text, others, more, proceeds, answers, worse_is, said_is, rest) is =
    elim (worse_memory answer others (sym worse_is ∙ is)) [
      | inl here ↦ first_names line lines (answered_names p at line text (subst (λ (a : Answer). IsAnswered p at line a text) here answers))
      | inr there ↦ other_names line lines (along_names Traced at lines more others q rest there)
    ]

-- ---- scripts

-- a script that ended for want of memory was answered whole
whole_script :
    (stop : Stop) (worst : Answer) (text rest : List ℕ) (lines : List Line) → status_by stop worst ≡ ends.Memory → AreBegun stop text rest lines → (worst ≡ Memory) × (script_of text ≡ lines)
whole_script stops.Quit Given text rest lines is begun = cc is
whole_script stops.Quit Spent text rest lines is begun = cc is
whole_script stops.Quit Memory text rest lines is begun = (refl, begun)
whole_script stops.Input Given text rest lines is begun = cc is
whole_script stops.Input Spent text rest lines is begun = cc is
whole_script stops.Input Memory text rest lines is begun = (refl, begun.0)
whole_script stops.SourceFault worst text rest lines is begun = cc is
whole_script stops.Limit worst text rest lines is begun = cc is
whole_script stops.SinkFault worst text rest lines is begun = cc is

or_either : (a b : Bool) → (a ≡ true) ⊎ (b ≡ true) → (a || b) ≡ true
or_either true b is = refl
or_either false b is = elim is [ inl one ↦ cc one | inr other ↦ other ]

grown_script :
    (Told Traced : Type 0) (x y : RackView) (from : Moment) (a : FlatArray) (text rest out out' : List ℕ) → GrownOutcome ends.Memory Told Traced x y from a text rest out out'
    → AnyNames (script_of text)
grown_script Told Traced x y from a text rest out out' came =
    let lines = lines_of came.events ++ came.first ∷ came.more in
    let whole = whole_script came.stop (worse (worst_of came.events) came.answer) text rest lines came.status_is came.begun in
    let either : AnyNames (lines_of came.events) ⊎ AnyNames (came.first ∷ came.more) =
    elim (worse_memory (worst_of came.events) came.answer whole.0) [
      | inl before ↦ inl (events_name came.events before)
      | inr after ↦ inr (along_names (Traced × Told) came.lasts.last (came.first ∷ came.more) came.said came.answer came.lasts.grown came.lasts.lines after)
    ] in
    subst (λ (ls : List Line). AnyNames ls) (sym whole.1)
    (list_any-append names_image (lines_of came.events) (came.first ∷ came.more)
    ∙ or_either (list_any names_image (lines_of came.events)) (list_any names_image (came.first ∷ came.more)) either)

-- ---- tasks

-- a line was put by which another status than that of want of memory ends the run
says_other : (wanted : Status) (line out out' : List ℕ) → (wanted ≡ ends.Memory → ⊥) → Says wanted line out out' ends.Memory → ⊥
says_other wanted line out out' other says = elim says.said [ inl is ↦ other (sym is.0) | inr failed ↦ cc failed.0 ]

pub memory_names :
    (task : Task) (Told Traced : Type 0) (x y : RackView) (from : Moment) (a : FlatArray) (text rest out out' : List ℕ)
    → TaskOutcome task ends.Memory Told Traced x y from a text rest out out' → NamesImage task text
memory_names tasks.Serve Told Traced x y from a text rest out out' came = elim came [
  | inl done ↦ subst (λ (ls : List Line). AnyNames ls) (sym done.script) (events_name done.events done.worst_is)
  | inr grown ↦ grown_script Told Traced x y from a text rest out out' grown
]
memory_names tasks.Import Told Traced x y from a text rest out out' came = of came.result came.says
  where
    of : (result : Result ℕ ImportFault) → SaysWritten result out out' ends.Memory → ⊥
    of (Ok bytes) says = says_other ends.Done _ out out' (λ e. cc e) says
    of (Err importing.Source) says = cc says.0
    of (Err importing.Long) says = says_other ends.Refused _ out out' (λ e. cc e) says
    of (Err (importing.Spent sector)) says = says_other ends.Spent _ out out' (λ e. cc e) says
memory_names tasks.Export Told Traced x y from a text rest out out' came = came
memory_names tasks.Show Told Traced x y from a text rest out out' came =
    let one : script_of (codes "status") ≡ Ok ShowLine ∷ [] = refl in
    let named : AnyNames (Ok ShowLine ∷ []) = subst (λ (ls : List Line). AnyNames ls) (sym came.script ∙ one) (events_name came.events came.worst_is) in
    cc named
memory_names (tasks.Trial seed) Told Traced x y from a text rest out out' came = of came.result came.says
  where
    of : (result : Result Tally SpentAt) → SaysTried result out out' ends.Memory → ⊥
    of (Ok tally) says = says_other ends.Done _ out out' (λ e. cc e) says
    of (Err at) says = says_other ends.Spent _ out out' (λ e. cc e) says
