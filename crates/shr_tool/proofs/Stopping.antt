-- A line that is answered, and why a script stops.
use Rattle.std.proofs.Common.{◌≡◌, ℕ, ◌<◌, ◌≤◌, ◌^◌, List, [], ◌∷◌, ◌++◌, length, slice_get, take, Option, Some, None, Ok, Err, append_assoc, length-append, refl, sym, ◌∙◌, ap, subst, inl, inr, arith}
use Rattle.std.proofs.lemmas.List.{append-nil}
use Rattle.std.proofs.Math.Seq.{take-append_seam}
use Rattle.array_core.proofs.Stripped.{some_same}
use Rattle.pool.specs.View.{View}
use Rattle.shr_script.specs.declared.Command.TheVariants.{Read, Write, Fill, Flush, Size, Lose, Replace, Add, Step, Status, Quit}
use Rattle.shr_script.specs.Line.{Line, line_of as line_in}
use Rattle.shr_script.specs.Script.{without_return, script_of, cut_script_of}
use Rattle.shr_script.specs.Reading.{ReadsPart, ReadsLine, ReadsRest, ReadsMost}
use Rattle.shr_script.specs.ScriptLaws.{prepend, script_of-line, script_of-last, cut_script_of-line, cut_script_of-last}
use Rattle.shr_tool.specs.declared.perform.Answer.{Answer}
use Rattle.shr_tool.specs.declared.perform.Answer.TheVariants.{Given}
use Rattle.shr_tool.specs.declared.serve.Stop.{Stop}
use Rattle.shr_tool.specs.declared.serve.Stop.TheVariants.{Quit as AtQuit, Input, SourceFault, Limit, SinkFault}
use Rattle.shr_tool.specs.Events.{Event, answer_of, array_by, line_of, lines_of, texts, worse, worst_of}
use Rattle.shr_tool.specs.Growing.{IsGrowing}
use Rattle.shr_tool.specs.Serving.{Acts, Answered, ArePut, Grew, IsReplied, LastAnswers, LineAnswers, Refuses, Serves, ServesEvents}
use Rattle.shr_tool.proofs.Grown.{grew_first, grew_more, grew_put, prefix_more, put_more}
use Rattle.shr_tool.proofs.Growing.{grows_by}
use Rattle.shr_tool.proofs.History.{History, IsLawful, SoFar, answered_more, ran_more}
use Rattle.shr_tool.proofs.Timelines.{lines_of-snoc, worse_given, worst_of-snoc}

-- a line with a reply stands before those after it
prepend-replied : (line : Line) (tail : List Line) → IsReplied line → prepend (Some line) tail ≡ line ∷ tail
prepend-replied (Ok (Read sector)) tail replied = refl
prepend-replied (Ok (Write sector bytes)) tail replied = refl
prepend-replied (Ok (Fill sector count byte)) tail replied = refl
prepend-replied (Ok Flush) tail replied = refl
prepend-replied (Ok Size) tail replied = refl
prepend-replied (Ok (Lose place)) tail replied = refl
prepend-replied (Ok (Replace place name)) tail replied = refl
prepend-replied (Ok (Add name)) tail replied = refl
prepend-replied (Ok (Step count)) tail replied = refl
prepend-replied (Ok Status) tail replied = refl
prepend-replied (Ok Quit) tail replied = absurd replied
prepend-replied (Err fault) tail replied = refl

-- a line more moves over the seam
lines_over : (lines : List Line) (line : Line) (tail : List Line) → IsReplied line → lines ++ prepend (Some line) tail ≡ (lines ++ line ∷ []) ++ tail
lines_over lines line tail replied = ap (λ ls. lines ++ ls) (prepend-replied line tail replied) ∙ sym (append_assoc lines (line ∷ []) tail)

-- it is that of one event more
lines_more :
    (lines : List Line) (events : List Event) (event : Event) (line : Line)
    → lines ≡ lines_of events
    → line_of event ≡ line
    → lines ++ line ∷ [] ≡ lines_of (events ++ event ∷ [])
lines_more lines events event line are is =
    ap (λ ls. ls ++ line ∷ []) are ∙ (ap (λ l. lines_of events ++ l ∷ []) (sym is) ∙ sym (lines_of-snoc events event))

-- the worst of the answers, with one event more
worst_over :
    (events : List Event) (event : Event) (answer before : Answer)
    → worst_of events ≡ before
    → answer_of event ≡ answer
    → worst_of (events ++ event ∷ []) ≡ worse before answer
worst_over events event answer before old new =
    worst_of-snoc events event ∙ (ap (λ b. worse b (answer_of event)) old ∙ ap (worse before) new)

-- nothing was called and nothing put
answered_still :
    {P : Type 0} (shown : P → View) (p q : P) (x : View) (events : List Event) (out out' out'' : List ℕ)
    → Answered x (shown p) events out out'
    → q ≡ p
    → out'' ≡ out'
    → Answered x (shown q) events out out''
answered_still shown p q x events out out' out'' answered same put =
    subst (λ bytes. Answered x (shown q) events out bytes) (sym put)
    (subst (λ b. Answered x (shown b) events out out') (sym same) answered)

-- an empty line refuses nothing
worst_still :
    (events : List Event) (answer before : Answer)
    → worst_of events ≡ before
    → answer ≡ Given
    → worst_of events ≡ worse before answer
worst_still events answer before old none = old ∙ (sym (worse_given before) ∙ ap (worse before) (sym none))

-- after it
so_far_still :
    {P : Type 0} (shown : P → View) (p q : P) (x : View) (lines : List Line) (out out' out'' : List ℕ) (before now answer : Answer)
    → SoFar x (shown p) lines out out' before
    → answer ≡ Given
    → now ≡ worse before answer
    → q ≡ p
    → out'' ≡ out'
    → SoFar x (shown q) lines out out'' now
so_far_still shown p q x lines out out' out'' before now answer so_far none worse_is same put = elim so_far [
  | inl plain ↦ inl (record {
    events = plain.events;
    lines_are = plain.lines_are;
    worst_is = worst_still plain.events answer before plain.worst_is none ∙ sym worse_is;
    answered = answered_still shown p q x plain.events out out' out'' plain.answered same put;
  })
  | inr grew ↦ inr
      (subst (λ b. Grew x (shown b) lines now (λ all. out'' ≡ out ++ all)) (sym same)
      (grew_put x (shown p) lines now (λ all. out' ≡ out ++ all) (λ all. out'' ≡ out ++ all) (λ all is. put ∙ is)
      (subst (λ b. Grew x (shown p) lines b (λ all. out' ≡ out ++ all)) (sym (worse_is ∙ (ap (worse before) none ∙ worse_given before))) grew)))
]

-- with one line more
so_far_more :
    (x y z : View) (lines : List Line) (line : Line) (answer before now : Answer) (text out out' out'' : List ℕ)
    → IsLawful z
    → SoFar x y lines out out' before
    → Acts y z line answer text
    → out'' ≡ out' ++ text
    → now ≡ worse before answer
    → SoFar x z (lines ++ line ∷ []) out out'' now
so_far_more x y z lines line answer before now text out out' out'' laws so_far acts put worse_is = elim so_far [
  | inl plain ↦ elim acts [
    | inl answers ↦ inl (record {
      events = plain.events ++ answers.event ∷ [];
      lines_are = lines_more lines plain.events answers.event line plain.lines_are answers.line_is;
      worst_is = worst_over plain.events answers.event answer before plain.worst_is answers.answer_is ∙ sym worse_is;
      answered = answered_more x y z plain.events line answer text out out' out'' laws plain.answered answers put;
    })
    | inr grows ↦ inr
        (subst (λ ls. Grew x z (ls ++ line ∷ []) now (λ all. out'' ≡ out ++ all)) (sym plain.lines_are)
        (subst (λ b. Grew x z (lines_of plain.events ++ line ∷ []) b (λ all. out'' ≡ out ++ all)) (ap (λ b. worse b answer) plain.worst_is ∙ sym worse_is)
        (grew_first x y z plain.events line answer text out out' (λ all. out'' ≡ out ++ all) plain.answered grows.0 grows.1
        (λ all. put_more out out' out'' text all put))))
  ]
  | inr grew ↦ inr
      (subst (λ b. Grew x z (lines ++ line ∷ []) b (λ all. out'' ≡ out ++ all)) (sym worse_is)
      (grew_more x y z lines before line answer text out out' (λ all. out'' ≡ out ++ all) grew (grows_by y z line answer text grew.proceeds.fit laws acts)
      (λ all. put_more out out' out'' text all put)))
]

-- ---- a script that goes on

-- a line that ended has been read over
history_next :
    (x y z : View) (text rest rest' line : List ℕ) (count to : ℕ) (out out' out'' : List ℕ) (before now : Answer)
    (h : History x y text rest count out out' before)
    (r : ReadsLine rest rest' line count to)
    (lines : List Line)
    → ((tail : List Line) → h.lines ++ prepend (line_in (without_return r.part.bytes)) tail ≡ lines ++ tail)
    → SoFar x z lines out out'' now
    → History x z text rest' to out out'' now
history_next x y z text rest rest' line count to out out' out'' before now h r lines moves so_far =
    let bytes = r.part.bytes in
    let seam : (more : List ℕ) → (h.done ++ (bytes ++ 10 ∷ [])) ++ more ≡ h.done ++ (bytes ++ 10 ∷ more) =
    λ more.
    append_assoc h.done (bytes ++ 10 ∷ []) more
    ∙ ap (λ xs. h.done ++ xs) (append_assoc bytes (10 ∷ []) more) in
    record {
      done = h.done ++ (bytes ++ 10 ∷ []);
      text_is = h.text_is ∙ (ap (λ xs. h.done ++ xs) r.part.text ∙ sym (seam rest'));
      counted =
          let counted = h.counted in
          let count = r.part.count in
          let last = r.count in
          simp length-append (omega arith);
      lines = lines;
      script =
          λ more.
          ap script_of (seam more)
          ∙ (h.script (bytes ++ 10 ∷ more)
          ∙ (ap (λ ls. h.lines ++ ls) (script_of-line bytes more r.part.no_feed) ∙ moves (script_of more)));
      cut =
          λ more.
          ap cut_script_of (seam more)
          ∙ (h.cut (bytes ++ 10 ∷ more)
          ∙ (ap (λ ls. h.lines ++ ls) (cut_script_of-line bytes more r.part.no_feed) ∙ moves (cut_script_of more)));
      so_far = so_far;
    }

-- a line was answered
pub line_answered :
    {P : Type 0} (shown : P → View) (laws : (r : P) → IsLawful (shown r)) (p q : P) (x : View) (text rest rest' line : List ℕ) (count to : ℕ)
    (out out' out'' : List ℕ) (before now : Answer) (answer : Answer) (said : Option Line)
    → (h : History x (shown p) text rest count out out' before)
    → (r : ReadsLine rest rest' line count to)
    → said ≡ line_in (without_return r.part.bytes)
    → now ≡ worse before answer
    → LineAnswers shown (Ok answer) said p q out' out''
    → History x (shown q) text rest' to out out'' now
line_answered shown laws p q x text rest rest' line count to out out' out'' before now answer None h r is worse_is answers =
    history_next x (shown p) (shown q) text rest rest' line count to out out' out'' before now h r h.lines
    (λ tail. ap (λ l. h.lines ++ prepend l tail) (sym is))
    (so_far_still shown p q x h.lines out out' out'' before now answer h.so_far answers.0 worse_is answers.1 answers.2)
line_answered shown laws p q x text rest rest' line count to out out' out'' before now answer (Some l) h r is worse_is answers =
    history_next x (shown p) (shown q) text rest rest' line count to out out' out'' before now h r (h.lines ++ l ∷ [])
    (λ tail. ap (λ d. h.lines ++ prepend d tail) (sym is) ∙ lines_over h.lines l tail answers.replied)
    (so_far_more x (shown p) (shown q) h.lines l answer before now answers.text out out' out'' (laws q) h.so_far answers.acts answers.put worse_is)

-- ---- a script that stops

-- all lines were answered, up to a `quit`
all_answered :
    (x y : View) (text rest out out' : List ℕ) (worst : Answer) (lines : List Line)
    → SoFar x y lines out out' worst → script_of text ≡ lines → Serves AtQuit x y text rest out out' worst
all_answered x y text rest out out' worst lines so_far script = elim so_far [
  | inl plain ↦ inl (record { events = plain.events; script = script ∙ plain.lines_are; worst_is = plain.worst_is; answered = plain.answered })
  | inr grew ↦ inr (record { lines = lines; begun = script; all = worst; worst_is = λ other. refl; grew = grew })
]

-- or all of the input
input_answered :
    (x y : View) (text rest out out' : List ℕ) (worst : Answer) (lines : List Line)
    → SoFar x y lines out out' worst → script_of text ≡ lines → length text ≤ 2 ^ 32 → Serves Input x y text rest out out' worst
input_answered x y text rest out out' worst lines so_far script short = elim so_far [
  | inl plain ↦ inl (record { events = plain.events; script = script ∙ plain.lines_are; worst_is = plain.worst_is; answered = plain.answered }, short)
  | inr grew ↦ inr (record { lines = lines; begun = (script, short); all = worst; worst_is = λ other. refl; grew = grew })
]

-- the sink refused the reply to a line
refused_put :
    (x y z : View) (text rest out out' out'' : List ℕ) (worst : Answer) (lines tail : List Line) (line : Line)
    → IsLawful z
    → SoFar x y lines out out' worst
    → script_of text ≡ (lines ++ line ∷ []) ++ tail
    → Refuses y z line out' out''
    → Serves SinkFault x z text rest out out'' worst
refused_put x y z text rest out out' out'' worst lines tail line laws so_far script refuses = elim so_far [
  | inl plain ↦ elim refuses.acts [
    | inl answers ↦ inl (record {
      before = plain.events;
      last = answers.event;
      more = tail;
      script = script ∙ ap (λ ls. ls ++ tail) (lines_more lines plain.events answers.event line plain.lines_are answers.line_is);
      ran = ran_more x y z plain.events answers.event refuses.text laws plain.answered.ran answers.performs;
      put =
          λ a holds.
          let told = answers.performs.text_is (array_by a plain.events) (plain.answered.ran.holds a holds) in
          record {
            count = refuses.prefix.count;
            within = subst (λ bytes. refuses.prefix.count ≤ length bytes) told refuses.prefix.within;
            bytes =
                refuses.prefix.bytes
                ∙ (ap (λ bytes. bytes ++ take refuses.prefix.count refuses.text) (plain.answered.put a holds)
                ∙ ap (λ bytes. (out ++ texts a plain.events) ++ take refuses.prefix.count bytes) told);
          };
    })
    | inr grows ↦ inr (record {
      lines = lines ++ line ∷ [];
      begun = (tail, script);
      all = worse (worst_of plain.events) refuses.answer;
      worst_is = λ other. absurd (other refl);
      grew =
          subst (λ ls. Grew x z (ls ++ line ∷ []) (worse (worst_of plain.events) refuses.answer) (ArePut SinkFault out out'')) (sym plain.lines_are)
          (grew_first x y z plain.events line refuses.answer refuses.text out out' (ArePut SinkFault out out'') plain.answered grows.0 grows.1
          (λ all. prefix_more out out' out'' refuses.text all refuses.prefix));
    })
  ]
  | inr grew ↦ inr (record {
    lines = lines ++ line ∷ [];
    begun = (tail, script);
    all = worse worst refuses.answer;
    worst_is = λ other. absurd (other refl);
    grew =
        grew_more x y z lines worst line refuses.answer refuses.text out out' (ArePut SinkFault out out'') grew
        (grows_by y z line refuses.answer refuses.text grew.proceeds.fit laws refuses.acts)
        (λ all. prefix_more out out' out'' refuses.text all refuses.prefix);
  })
]

-- the lines before a `quit`
quit_script :
    (lines whole tail : List Line) (said : Option Line)
    → whole ≡ lines ++ prepend said tail
    → said ≡ Some (Ok Quit)
    → whole ≡ lines
quit_script lines whole tail said script is = script ∙ (ap (λ l. lines ++ prepend l tail) is ∙ append-nil lines)

-- at a line that was answered
pub line_stopped :
    {P : Type 0} (shown : P → View) (laws : (r : P) → IsLawful (shown r)) (p q : P) (x : View) (text rest : List ℕ) (out out' out'' : List ℕ) (worst : Answer)
    (lines : List Line) (tail : List Line) (said : Option Line) (stop : Stop)
    → SoFar x (shown p) lines out out' worst
    → script_of text ≡ lines ++ prepend said tail
    → LineAnswers shown (Err stop) said p q out' out''
    → Serves stop x (shown q) text rest out out'' worst
line_stopped shown laws p q x text rest out out' out'' worst lines tail said AtQuit so_far script answers =
    all_answered x (shown q) text rest out out'' worst lines
    (so_far_still shown p q x lines out out' out'' worst worst Given so_far refl (sym (worse_given worst)) answers.1 answers.2)
    (quit_script lines (script_of text) tail said script answers.0)
line_stopped shown laws p q x text rest out out' out'' worst lines tail said Input so_far script answers = absurd answers
line_stopped shown laws p q x text rest out out' out'' worst lines tail said SourceFault so_far script answers = absurd answers
line_stopped shown laws p q x text rest out out' out'' worst lines tail said Limit so_far script answers = absurd answers
line_stopped shown laws p q x text rest out out' out'' worst lines tail said SinkFault so_far script answers =
    refused_put x (shown p) (shown q) text rest out out' out'' worst lines tail answers.0 (laws q) so_far
    (script ∙ (ap (λ d. lines ++ prepend d tail) answers.1 ∙ lines_over lines answers.0 tail answers.2.replied))
    answers.2

-- the last line was answered
last_replied :
    {P : Type 0} (shown : P → View) (laws : (r : P) → IsLawful (shown r)) (p q : P) (x : View) (text rest : List ℕ) (out out' out'' : List ℕ) (before now : Answer)
    (answer : Answer) (lines : List Line) (said : Option Line)
    → SoFar x (shown p) lines out out' before
    → script_of text ≡ lines ++ prepend said []
    → length text ≤ 2 ^ 32
    → now ≡ worse before answer
    → LineAnswers shown (Ok answer) said p q out' out''
    → Serves Input x (shown q) text rest out out'' now
last_replied shown laws p q x text rest out out' out'' before now answer lines None so_far script short worse_is answers =
    input_answered x (shown q) text rest out out'' now lines
    (so_far_still shown p q x lines out out' out'' before now answer so_far answers.0 worse_is answers.1 answers.2)
    (script ∙ append-nil lines) short
last_replied shown laws p q x text rest out out' out'' before now answer lines (Some l) so_far script short worse_is answers =
    input_answered x (shown q) text rest out out'' now (lines ++ l ∷ [])
    (so_far_more x (shown p) (shown q) lines l answer before now answers.text out out' out'' (laws q) so_far answers.acts answers.put worse_is)
    (script ∙ (lines_over lines l [] answers.replied ∙ append-nil (lines ++ l ∷ []))) short

pub last_answered :
    {P : Type 0} (shown : P → View) (laws : (r : P) → IsLawful (shown r)) (p q : P) (x : View) (text rest : List ℕ) (out out' out'' : List ℕ) (before now : Answer)
    (lines : List Line) (said : Option Line) (stop : Stop)
    → SoFar x (shown p) lines out out' before
    → script_of text ≡ lines ++ prepend said []
    → length text ≤ 2 ^ 32
    → LastAnswers shown before now stop said p q out' out''
    → Serves stop x (shown q) text rest out out'' now
last_answered shown laws p q x text rest out out' out'' before now lines said AtQuit so_far script short answers =
    line_stopped shown laws p q x text rest out out' out'' now lines [] said AtQuit (subst (SoFar x (shown p) lines out out') (sym answers.0) so_far) script answers.1
last_answered shown laws p q x text rest out out' out'' before now lines said Input so_far script short answers =
    last_replied shown laws p q x text rest out out' out'' before now answers.0 lines said so_far script short answers.1 answers.2
last_answered shown laws p q x text rest out out' out'' before now lines said SourceFault so_far script short answers = absurd answers
last_answered shown laws p q x text rest out out' out'' before now lines said Limit so_far script short answers = absurd answers
last_answered shown laws p q x text rest out out' out'' before now lines said SinkFault so_far script short answers =
    sink_worst x (shown q) text rest out out'' before now
    (line_stopped shown laws p q x text rest out out' out'' before lines [] said SinkFault so_far script answers)
  where
    -- the worst answer isn't told where the sink refused a reply
    sink_worst : (x y : View) (text rest out out' : List ℕ) (before now : Answer) → Serves SinkFault x y text rest out out' before → Serves SinkFault x y text rest out out' now
    sink_worst x y text rest out out' before now serves = elim serves [
      | inl events ↦ inl events
      | inr grown ↦
          inr (record { lines = grown.lines; begun = grown.begun; all = grown.all; worst_is = λ other. absurd (other refl); grew = grown.grew })
    ]

-- ---- a script of one line that grows no pool

-- it is the first one of those that were begun
first_alone : (line : Line) (events : List Event) (first : Line) (more rest : List Line) → line ∷ [] ≡ (lines_of events ++ first ∷ more) ++ rest → first ≡ line
first_alone line [] first more rest same = some_same first line (sym (ap (λ ls. slice_get ls 0) same))
first_alone line (event ∷ events) first more rest same =
    let long : length (line ∷ []) ≡ length ((lines_of (event ∷ events) ++ first ∷ more) ++ rest) = ap length same in absurd (omega (arith, simp length-append at long))

never_grown :
    (x y : View) (line : Line) (lines rest : List Line) (worst : Answer) (Put : List ℕ → Type 0)
    → ((m n : _) → IsGrowing m n line → ⊥)
    → line ∷ [] ≡ lines ++ rest
    → Grew x y lines worst Put
    → ⊥
never_grown x y line lines rest worst Put never same grew =
    never grew.last grew.grown.0
    (subst (IsGrowing grew.last grew.grown.0) (first_alone line grew.events grew.first grew.more rest (same ∙ ap (λ ls. ls ++ rest) grew.lines_are)) grew.growing)

pub one_answered :
    {P : Type 0} (shown : P → View) (p q : P) (x : View) (text rest : List ℕ) (out out' : List ℕ) (before now : Answer) (line : Line) (said : Option Line) (stop : Stop)
    → script_of text ≡ line ∷ []
    → ((m n : _) → IsGrowing m n line → ⊥)
    → LastAnswers shown before now stop said p q out out'
    → Serves stop x (shown q) text rest out out' now
    → ServesEvents stop x (shown q) text rest out out' now
one_answered shown p q x text rest out out' before now line said AtQuit script never answers serves = elim serves [
  | inl events ↦ events
  | inr grown ↦ absurd (never_grown x (shown q) line grown.lines [] grown.all (ArePut AtQuit out out') never (sym script ∙ (grown.begun ∙ sym (append-nil grown.lines))) grown.grew)
]
one_answered shown p q x text rest out out' before now line said Input script never answers serves = elim serves [
  | inl events ↦ events
  | inr grown ↦ absurd (never_grown x (shown q) line grown.lines [] grown.all (ArePut Input out out') never (sym script ∙ (grown.begun.0 ∙ sym (append-nil grown.lines))) grown.grew)
]
one_answered shown p q x text rest out out' before now line said SourceFault script never answers serves = absurd answers
one_answered shown p q x text rest out out' before now line said Limit script never answers serves = absurd answers
one_answered shown p q x text rest out out' before now line said SinkFault script never answers serves = elim serves [
  | inl events ↦ events
  | inr grown ↦ absurd (never_grown x (shown q) line grown.lines grown.begun.0 grown.all (ArePut SinkFault out out') never (sym script ∙ grown.begun.1) grown.grew)
]

-- ---- the text

-- what a line that ended says of the script
pub line_script :
    (x y : View) (text rest rest' line : List ℕ) (count to : ℕ) (out out' : List ℕ) (worst : Answer)
    (h : History x y text rest count out out' worst)
    (r : ReadsLine rest rest' line count to)
    (said : Option Line)
    → said ≡ line_in (without_return r.part.bytes)
    → script_of text ≡ h.lines ++ prepend said (script_of rest')
line_script x y text rest rest' line count to out out' worst h r said is =
    ap script_of (h.text_is ∙ ap (λ xs. h.done ++ xs) r.part.text)
    ∙ (h.script (r.part.bytes ++ 10 ∷ rest')
    ∙ (ap (λ ls. h.lines ++ ls) (script_of-line r.part.bytes rest' r.part.no_feed)
    ∙ ap (λ l. h.lines ++ prepend l (script_of rest')) (sym is)))

-- what the last line says of it
pub last_script :
    (x y : View) (text rest rest' line : List ℕ) (count to : ℕ) (out out' : List ℕ) (worst : Answer)
    (h : History x y text rest count out out' worst)
    (r : ReadsRest rest rest' line count to)
    (said : Option Line)
    → said ≡ line_in (without_return r.part.bytes)
    → script_of text ≡ h.lines ++ prepend said []
last_script x y text rest rest' line count to out out' worst h r said is =
    let bytes = r.part.bytes in
    let whole : rest ≡ bytes = r.part.text ∙ (ap (λ xs. bytes ++ xs) r.none ∙ append-nil bytes) in
    ap script_of (h.text_is ∙ ap (λ xs. h.done ++ xs) whole)
    ∙ (h.script bytes
    ∙ (ap (λ ls. h.lines ++ ls) (script_of-last bytes r.part.no_feed)
    ∙ ap (λ l. h.lines ++ prepend l []) (sym is)))

-- and of the length of the text
pub last_length :
    (x y : View) (text rest rest' line : List ℕ) (count to : ℕ) (out out' : List ℕ) (worst : Answer)
    (h : History x y text rest count out out' worst)
    (r : ReadsRest rest rest' line count to)
    → to ≤ 2 ^ 32
    → length text ≤ 2 ^ 32
last_length x y text rest rest' line count to out out' worst h r most =
    let counted = h.counted in
    let read = r.part.count in
    rw h.text_is (rw r.part.text (rw r.none (simp length-append (omega arith))))

-- the source failed
pub source_stopped :
    (x y : View) (text rest rest' left line : List ℕ) (count to : ℕ) (out out' : List ℕ) (worst : Answer)
    → History x y text rest count out out' worst
    → ReadsPart rest rest' line count to
    → rest' ≡ left
    → Serves SourceFault x y text left out out' worst
source_stopped x y text rest rest' left line count to out out' worst h r emptied =
    let taken = h.done ++ r.bytes in
    let text_is : text ≡ taken ++ left =
    h.text_is
    ∙ (ap (λ xs. h.done ++ xs) (r.text ∙ ap (λ xs. r.bytes ++ xs) emptied)
    ∙ sym (append_assoc h.done r.bytes left)) in
    let script : cut_script_of taken ≡ h.lines =
    h.cut r.bytes
    ∙ (ap (λ ls. h.lines ++ ls) (cut_script_of-last r.bytes r.no_feed) ∙ append-nil h.lines) in
    elim h.so_far [
      | inl plain ↦ inl (record { taken = taken; text_is = text_is; events = plain.events; script = script ∙ plain.lines_are; answered = plain.answered })
      | inr grew ↦ inr (record { lines = h.lines; begun = (taken, text_is, script); all = worst; worst_is = λ other. refl; grew = grew })
    ]

-- some bytes are left
some_left : (xs : List ℕ) → (xs ≡ [] → ⊥) → 0 < length xs
some_left [] some = absurd (some refl)
some_left (x ∷ xs) some = omega arith

-- the limit was reached
pub limit_stopped :
    (x y : View) (text rest rest' left line : List ℕ) (count to : ℕ) (out out' : List ℕ) (worst : Answer)
    → History x y text rest count out out' worst
    → ReadsMost (2 ^ 32) rest rest' line count to
    → Serves Limit x y text left out out' worst
limit_stopped x y text rest rest' left line count to out out' worst h r =
    let bytes = r.part.bytes in
    let whole : text ≡ (h.done ++ bytes) ++ rest' =
    h.text_is ∙ (ap (λ xs. h.done ++ xs) r.part.text ∙ sym (append_assoc h.done bytes rest')) in
    let counted = h.counted in
    let read = r.part.count in
    let full = r.full in
    let size : length (h.done ++ bytes) ≡ 2 ^ 32 = simp length-append (omega arith) in
    let first : take (2 ^ 32) text ≡ h.done ++ bytes =
    ap (take (2 ^ 32)) whole
    ∙ (ap (λ n. take n ((h.done ++ bytes) ++ rest')) (sym size) ∙ take-append_seam (h.done ++ bytes) rest') in
    let longer : 2 ^ 32 < length text = (let more = some_left rest' r.more in rw whole (simp length-append (omega (arith, simp length-append at size)))) in
    let script : cut_script_of (take (2 ^ 32) text) ≡ h.lines =
    ap cut_script_of first
    ∙ (h.cut bytes
    ∙ (ap (λ ls. h.lines ++ ls) (cut_script_of-last bytes r.part.no_feed) ∙ append-nil h.lines)) in
    elim h.so_far [
      | inl plain ↦ inl (record { longer = longer; events = plain.events; script = script ∙ plain.lines_are; answered = plain.answered })
      | inr grew ↦ inr (record { lines = h.lines; begun = (longer, script); all = worst; worst_is = λ other. refl; grew = grew })
    ]

-- ---- the cause that is answered

-- the same cause
pub serves_as :
    (x y : View) (text rest out out' : List ℕ) (cause stop : Stop) (now before : Answer)
    → cause ≡ stop
    → now ≡ before
    → Serves stop x y text rest out out' before
    → Serves cause x y text rest out out' now
serves_as x y text rest out out' cause stop now before is same serves =
    subst (λ s. Serves s x y text rest out out' now) (sym is)
    (subst (λ b. Serves stop x y text rest out out' b) (sym same) serves)

-- another cause than the limit
pub no_limit : (cause stop : Stop) → cause ≡ stop → (stop ≡ Limit → ⊥) → cause ≡ Limit → ⊥
no_limit cause stop is other same = other (sym is ∙ same)
