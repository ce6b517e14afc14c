-- Events in a row: their array, replies, lines and answers with one event more, and their timeline, with one more and seen after calls more.
use Rattle.std.proofs.Common.{◌≡◌, ℕ, ◌≤◌, List, [], ◌∷◌, ◌++◌, append_assoc, refl, sym, ◌∙◌, ap, subst, arith}
use Rattle.std.proofs.lemmas.List.{append-nil}
use Rattle.rack.specs.Seen.{Image}
use Rattle.flat_array.specs.Array.{FlatArray}
use Rattle.shr_tool.specs.declared.perform.Answer.{Answer}
use Rattle.shr_tool.specs.declared.perform.Answer.TheVariants.{Given, Memory, Spent}
use Rattle.shr_tool.specs.Events.{Event, answer_of, array_by, becomes, line_of, lines_of, text_of, texts, worse, worst_of}
use Rattle.pool.specs.Moment.{Moment}
use Rattle.shr_tool.specs.Timeline.{EventContract, Steps, Timeline, steps_of}
use Rattle.shr_tool.proofs.Between.{timeline_order}
use Rattle.shr_tool.proofs.Chains.{steps_more}

-- the array after it
pub array_by-snoc :
    (a : FlatArray) (events : List Event) (event : Event) → array_by a (events ++ event ∷ []) ≡ becomes (array_by a events) event
array_by-snoc a [] event = refl
array_by-snoc a (first ∷ events) event = array_by-snoc (becomes a first) events event

-- the replies
pub texts-snoc :
    (a : FlatArray) (events : List Event) (event : Event)
    → texts a (events ++ event ∷ []) ≡ texts a events ++ text_of (array_by a events) event
texts-snoc a [] event = append-nil (text_of a event)
texts-snoc a (first ∷ events) event =
    ap (λ bytes. text_of a first ++ bytes) (texts-snoc (becomes a first) events event)
    ∙ sym (append_assoc (text_of a first) (texts (becomes a first) events) (text_of (array_by (becomes a first) events) event))

-- the lines
pub lines_of-snoc : (events : List Event) (event : Event) → lines_of (events ++ event ∷ []) ≡ lines_of events ++ line_of event ∷ []
lines_of-snoc [] event = refl
lines_of-snoc (first ∷ events) event = ap (λ lines. line_of first ∷ lines) (lines_of-snoc events event)

-- the worst of the answers
pub worse_given : (a : Answer) → worse a Given ≡ a
worse_given Given = refl
worse_given Spent = refl
worse_given Memory = refl

pub worse_assoc : (a b c : Answer) → worse a (worse b c) ≡ worse (worse a b) c
worse_assoc Given b c = refl
worse_assoc Spent Given c = refl
worse_assoc Spent Spent Given = refl
worse_assoc Spent Spent Spent = refl
worse_assoc Spent Spent Memory = refl
worse_assoc Spent Memory c = refl
worse_assoc Memory b c = refl

pub worst_of-snoc : (events : List Event) (event : Event) → worst_of (events ++ event ∷ []) ≡ worse (worst_of events) (answer_of event)
worst_of-snoc [] event = worse_given (answer_of event)
worst_of-snoc (first ∷ events) event =
    ap (λ b. worse (answer_of first) b) (worst_of-snoc events event)
    ∙ worse_assoc (answer_of first) (worst_of events) (answer_of event)

-- ---- timelines

-- an event, where what stops leave is told for another reason, and later calls have left the past as it was
pub happens_for :
    (P Q : Type 0) (old new : ℕ → Image → Type 0) (p q : Moment) (a : FlatArray) (event : Event)
    → (Q → P)
    → (Q → (k : ℕ) (i : Image) → k ≤ q.clock → new k i → old k i)
    → EventContract P old p q a event
    → EventContract Q new p q a event
happens_for P Q old new p q a event for past happens = record {
  later = λ told. happens.later (for told);
  still = happens.still;
  cause = happens.cause;
  linear = happens.linear;
  disks = happens.disks;
  held = λ told. happens.held (for told);
  named = λ told. happens.named (for told);
  missing = λ told. happens.missing (for told);
  slices = happens.slices;
  marks = happens.marks;
  stands = happens.stands;
  works = happens.works;
  during = λ told k i since until stopped. happens.during (for told) k i since until (past told k i until stopped);
  ended = λ told i stopped. happens.ended (for told) i (past told q.clock i (omega arith) stopped);
}

-- later calls leave the past as it was
pub timeline_kept :
    (Traced : Type 0) (old new : ℕ → Image → Type 0) (limit : ℕ)
    → (Traced → (k : ℕ) (i : Image) → k ≤ limit → new k i → old k i)
    → (p : Moment) (a : FlatArray) (events : List Event) (q : Moment)
    → q.clock ≤ limit
    → Timeline Traced old p a events q
    → Timeline Traced new p a events q
timeline_kept Traced old new limit past p a [] q within line = line
timeline_kept Traced old new limit past p a (event ∷ events) q within line =
    let at = line.0 in (
      at,
      happens_for Traced Traced old new p at a event (λ traced. traced)
          (λ traced k i until.
          past traced k i (let rest = timeline_order Traced old at (becomes a event) events q traced line.2 in omega (arith, until, rest, within)))
          line.1,
      timeline_kept Traced old new limit past at (becomes a event) events q within line.2,
    )

-- so the moments are the same
pub steps_kept :
    (Traced : Type 0) (old new : ℕ → Image → Type 0) (limit : ℕ)
    (past : Traced → (k : ℕ) (i : Image) → k ≤ limit → new k i → old k i)
    (p : Moment) (a : FlatArray) (events : List Event) (q : Moment) (within : q.clock ≤ limit) (line : Timeline Traced old p a events q)
    → steps_of Traced new p a events q (timeline_kept Traced old new limit past p a events q within line) ≡ steps_of Traced old p a events q line
unfolding timeline_kept
steps_kept Traced old new limit past p a [] q within line = refl
steps_kept Traced old new limit past p a (event ∷ events) q within line =
    ap (λ (rest : Steps line.0 events q). (line.0, rest)) (steps_kept Traced old new limit past line.0 (becomes a event) events q within line.2)

-- one event more
pub timeline_more :
    (Traced : Type 0) (stops : ℕ → Image → Type 0) (p : Moment) (a : FlatArray) (events : List Event) (mid : Moment)
    (event : Event) (q : Moment)
    → Timeline Traced stops p a events mid
    → EventContract Traced stops mid q (array_by a events) event
    → Timeline Traced stops p a (events ++ event ∷ []) q
timeline_more Traced stops p a [] mid event q same happens =
    (q, subst (λ m. EventContract Traced stops m q a event) (sym same) happens, refl)
timeline_more Traced stops p a (first ∷ events) mid event q line happens =
    (line.0, line.1, timeline_more Traced stops line.0 (becomes a first) events mid event q line.2 happens)

pub steps_added :
    (Traced : Type 0) (stops : ℕ → Image → Type 0) (p : Moment) (a : FlatArray) (events : List Event) (mid : Moment)
    (event : Event) (q : Moment) (line : Timeline Traced stops p a events mid) (happens : EventContract Traced stops mid q (array_by a events) event)
    → steps_of Traced stops p a (events ++ event ∷ []) q (timeline_more Traced stops p a events mid event q line happens)
    ≡ steps_more p events mid event q (steps_of Traced stops p a events mid line)
unfolding timeline_more
steps_added Traced stops p a [] mid event q same happens = refl
steps_added Traced stops p a (first ∷ events) mid event q line happens =
    ap (λ (rest : Steps line.0 (events ++ event ∷ []) q). (line.0, rest))
    (steps_added Traced stops line.0 (becomes a first) events mid event q line.2 happens)
