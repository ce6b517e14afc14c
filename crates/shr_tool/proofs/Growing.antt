-- What lines of a script keep whatever becomes of the pool's volume.
use Rattle.std.proofs.Common.{◌≡◌, ℕ, ◌||◌, true, false, List, [], ◌∷◌, ◌++◌, append_assoc, Ok, refl, sym, ◌∙◌, ap, subst, inl, inr}
use Rattle.std.proofs.lemmas.Bool.{both_ways, cases_Bool, cases_eq, ne_eqb}
use Rattle.std.proofs.lemmas.List.{append-nil}
use Rattle.array_image.specs.States.{is_current}
use Rattle.pool_state.specs.declared.contents.Plan.TheVariants.{Replace as Replacing}
use Rattle.raid_rack.proofs.Enlisted.{current_enlisted}
use Rattle.shr_script.specs.declared.Command.TheVariants.{Replace}
use Rattle.shr_script.specs.Line.{Line}
use Rattle.pool.specs.Keeping.{Raises}
use Rattle.pool.specs.Moment.{Moment, moment_of}
use Rattle.pool.specs.Proceeding.{Proceeds}
use Rattle.pool.specs.View.{View, book, volume}
use Rattle.shr_tool.specs.declared.perform.Answer.{Answer}
use Rattle.shr_tool.specs.declared.perform.Answer.TheVariants.{Given}
use Rattle.shr_tool.specs.Events.{Event, calls_in, line_of, takes_disk, worse}
use Rattle.shr_tool.specs.Events.Event.{answered, spent, lost, last, replaced, declined, stepped, stuck, shown}
use Rattle.shr_tool.specs.Growing.{GrowsAlong, GrowsOn, IsAgainst, IsAnswered, IsEvent, MarksWent, ProceedsTo}
use Rattle.shr_tool.specs.Serving.{Acts, Answers}
use Rattle.shr_tool.specs.Timeline.{LineContract}
use Rattle.shr_tool.proofs.History.{IsLawful, performed}
use Rattle.shr_tool.proofs.Serial.{listed_by, replaced_by}
use Rattle.shr_tool.proofs.Timelines.{happens_for, worse_assoc, worse_given}

-- ---- an event

-- a drive that is replaced is marked, or another one by its own fault
marks_replaced : (x y : View) (place : ℕ) (name text : List ℕ) → LineContract x y (replaced place name) text
    → MarksWent (IsAgainst (Ok (Replace place name))) (moment_of x) (moment_of y)
marks_replaced x y place name text performs k was now =
    let by = replaced_by x y place name text performs in
    let is = by.2 in
    elim (cases_eq k place) [
      | inl same ↦ inr (inr (inr (name, ap (λ p. Ok (Replace p name)) (sym same))))
      | inr other ↦
          inr
          (inl
          (is.cause k
          (current_enlisted place is.units (Replacing place) (book x).state k (listed_by x y place name text performs)
          ∙ (ap (λ b. b || is_current (book x).state k) (ne_eqb k place other) ∙ was))
          now))
    ]

-- one that names a disk
marks_taking : (x y : View) (event : Event) (text : List ℕ) → takes_disk event ≡ true → LineContract x y event text
    → MarksWent (IsAgainst (line_of event)) (moment_of x) (moment_of y)
marks_taking x y (answered line) text takes does = absurd (both_ways false refl takes)
marks_taking x y (spent line sector) text takes does = absurd (both_ways false refl takes)
marks_taking x y (lost place) text takes does = absurd (both_ways false refl takes)
marks_taking x y (last place) text takes does = absurd (both_ways false refl takes)
marks_taking x y (replaced place name) text takes does = marks_replaced x y place name text does
marks_taking x y (declined place name fault) text takes does = λ k was now. inl (does.cause.1.cause k was now)
marks_taking x y (stepped count left) text takes does = absurd (both_ways false refl takes)
marks_taking x y (stuck count array) text takes does = absurd (both_ways false refl takes)
marks_taking x y (shown text') text takes does = absurd (both_ways false refl takes)

-- drives are marked in an event that refused a call, or that its line names
marks_performed : (x y : View) (event : Event) (text : List ℕ) → LineContract x y event text → MarksWent (IsAgainst (line_of event)) (moment_of x) (moment_of y)
marks_performed x y event text performs = elim (cases_Bool (takes_disk event)) [
  | inl takes ↦ marks_taking x y event text takes performs
  | inr none ↦ λ k was now. elim ((performs.marks none).cause k was now) [
    | inl rose ↦ inl rose
    | inr same ↦ inr (inr (inl (ap line_of same)))
  ]
]

-- what is known of it where nothing is told of stops and of what the volume holds
event_of :
    (x y : View) (line : Line) (answer : Answer) (text : List ℕ) → (volume x).fit → IsLawful y → Answers x y line answer text
    → IsEvent (moment_of x) (moment_of y) line answer text
event_of x y line answer text fit laws answers =
    let performs = answers.performs in
    let array = performs.reply.0 in
    record {
      event = answers.event;
      line_is = answers.line_is;
      answer_is = answers.answer_is;
      array = array;
      size = performs.reply.1;
      text_is = performs.reply.2;
      happens =
          happens_for ⊥ ⊥ y.bay.stops (λ k i. ⊥) (moment_of x) (moment_of y) array answers.event (λ never. never) (λ never. absurd never)
          (performed x y answers.event text ⊥ array fit performs laws (λ never. absurd never) (λ never. absurd never));
    }

pub proceeds_by : (x y : View) (line : Line) (answer : Answer) (text : List ℕ) → Acts x y line answer text → Proceeds x y
proceeds_by x y line answer text acts = elim acts [ inl answers ↦ answers.performs.continues.proceeds | inr grows ↦ grows.1.proceeds ]

-- a line that was done on a pool keeps what one keeps on a pool that has grown
pub grows_by :
    (x y : View) (line : Line) (answer : Answer) (text : List ℕ) → (volume x).fit → IsLawful y → Acts x y line answer text → GrowsOn x y line answer text
grows_by x y line answer text fit laws (inr grows) = grows.1
grows_by x y line answer text fit laws (inl answers) =
    let performs = answers.performs in
    record {
      proceeds = performs.continues.proceeds;
      marks = subst (λ l. MarksWent (IsAgainst l) (moment_of x) (moment_of y)) answers.line_is (marks_performed x y answers.event text performs);
      raises = subst (λ l. Raises (calls_in l) x y) answers.line_is performs.raises;
      answered = inl (event_of x y line answer text fit laws answers);
    }

-- ---- lines in a row

-- as calls between two moments
pub proceeds_to :
    (x y : View) (Traced : Type 0) (Lost : ℕ → Type 0) (calls : ℕ) → (Traced → x.shelf.told × x.bay.traced)
    → Proceeds x y → MarksWent Lost (moment_of x) (moment_of y) → Raises calls x y → ProceedsTo Traced Lost calls (moment_of x) (moment_of y)
proceeds_to x y Traced Lost calls told proceeds marks raises = record {
  later = λ traced. proceeds.later (told traced).0 (told traced).1;
  disks = proceeds.disks;
  marks = marks;
  raises = raises;
}

pub proceeds_for : (P Q : Type 0) (Lost : ℕ → Type 0) (calls : ℕ) (p q : Moment) → (Q → P) → ProceedsTo P Lost calls p q → ProceedsTo Q Lost calls p q
proceeds_for P Q Lost calls p q for proceeds =
    record { later = λ traced. proceeds.later (for traced); disks = proceeds.disks; marks = proceeds.marks; raises = proceeds.raises }

-- one line more
abbrev pub along_more :
    (Traced : Type 0) (p : Moment) (lines : List Line) (said : List ℕ) (worst : Answer) (q r : Moment) (line : Line) (answer : Answer) (text : List ℕ)
    → GrowsAlong Traced p lines said worst q
    → ProceedsTo Traced (IsAgainst line) (calls_in line) q r
    → IsAnswered q r line answer text
    → GrowsAlong Traced p (lines ++ line ∷ []) (said ++ text) (worse worst answer) r
along_more Traced p [] said worst q r line answer text along proceeds does = (
  r,
  answer,
  text,
  Given,
  [],
  subst (λ m. ProceedsTo Traced (IsAgainst line) (calls_in line) m r) (sym along.0) proceeds,
  subst (λ m. IsAnswered m r line answer text) (sym along.0) does,
  ap (λ b. worse b answer) along.2 ∙ sym (worse_given answer),
  ap (λ s. s ++ text) along.1 ∙ sym (append-nil text),
  (refl, refl, refl),
)
along_more Traced p (first ∷ lines) said worst q r line answer text along proceeds does =
    let at = along.0 in
    let others = along.3 in
    let more = along.4 in (
      at,
      along.1,
      along.2,
      worse others answer,
      more ++ text,
      along.5,
      along.6,
      ap (λ b. worse b answer) along.7 ∙ sym (worse_assoc along.1 others answer),
      ap (λ s. s ++ text) along.8 ∙ append_assoc along.2 more text,
      along_more Traced at lines more others q r line answer text along.9 proceeds does,
    )

-- where stops are told for another reason
abbrev pub along_for :
    (P Q : Type 0) (p : Moment) (lines : List Line) (said : List ℕ) (worst : Answer) (q : Moment)
    → (Q → P) → GrowsAlong P p lines said worst q → GrowsAlong Q p lines said worst q
along_for P Q p [] said worst q for along = along
along_for P Q p (line ∷ lines) said worst q for along = (
  along.0,
  along.1,
  along.2,
  along.3,
  along.4,
  proceeds_for P Q (IsAgainst line) (calls_in line) p along.0 for along.5,
  along.6,
  along.7,
  along.8,
  along_for P Q along.0 lines along.4 along.3 q for along.9,
)
