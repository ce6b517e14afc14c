-- What the turns of a trial give that were taken on a pool in a row.
use Rattle.std.proofs.Common.{◌≡◌, ℕ, ◌+◌, ◌-◌, ◌<◌, ◌≤◌, ◌==◌, Bool, true, false, if◌then◌else◌, List, [], ◌∷◌, ◌++◌, map, Result, Ok, Err, codes, refl, sym, ◌∙◌, ap, ap₂, subst, inl, inr, arith}
use Rattle.std.proofs.lemmas.Bool.{both_ways, cases_lt}
use Rattle.std.proofs.lemmas.Bool.Decides.{nat_tests}
use Rattle.std.proofs.lemmas.List.{map-append}
use Rattle.shr_script.specs.declared.Command.TheVariants.{Fill}
use Rattle.shr_script.specs.Line.{Line}
use Rattle.shr_script.specs.Reply.{as_line}
use Rattle.flat_array.specs.Array.{FlatArray, fresh}
use Rattle.flat_array.specs.Reply.{after, array_after, spent_line, uniform_sector}
use Rattle.pool.specs.Calls.{Ends, CallFrame}
use Rattle.pool.specs.Moment.{moment_of}
use Rattle.pool.specs.View.{View, volume}
use Rattle.pool.specs.Volume.{VolumeIs, size_of}
use Rattle.shr_tool.specs.declared.perform.SpentAt.{SpentAt}
use Rattle.shr_tool.specs.declared.status.Status.{Status}
use Rattle.shr_tool.specs.declared.trial.Tally.{Tally}
use Rattle.shr_tool.specs.declared.trial.Turn.{Turn}
use Rattle.shr_tool.specs.Events.{array_by}
use Rattle.shr_tool.specs.Events.Event.{answered, spent}
use Rattle.shr_tool.specs.Filling.{Fills}
use Rattle.shr_tool.specs.Serving.{IsServing, Ran}
use Rattle.shr_tool.specs.Trial.{SaysTried, Takes, TrialOutcome, TriesOn, byte_of, counted, line_for, lines_for, span_of, tally_of, turn_at, turns, turns_over}
use Rattle.shr_tool.proofs.Drawn.{tally_filled, tally_more, turns_more, turns_none, turns_split}
use Rattle.shr_tool.proofs.Finishing.{lasts_of}
use Rattle.shr_tool.proofs.History.{IsLawful, ran_more, ran_none}
use Rattle.shr_tool.proofs.Performing.{fill_done, fill_spent}

-- the sectors are filled
abbrev pub fill_of : ℕ → Line
fill_of span = Ok (Fill 0 span 0)

-- and so many turns taken
abbrev pub lines_to : ℕ → ℕ → ℕ → List Line
lines_to span seed n = fill_of span ∷ map line_for (turns span seed n)

-- The turns before the one in hand were taken.
pub record HasTried (x y : View) (span seed : ℕ) (tally : Tally) : Type 0 where
  pub ran : Ran x y (map answered (lines_to span seed tally.turns))
  pub tallied : (a : FlatArray) → VolumeIs x a → tally ≡ tally_of (after a (fill_of span)) (turns span seed tally.turns)

lines_start : (span seed n : ℕ) → n ≡ 0 → lines_to span seed n ≡ fill_of span ∷ []
lines_start span seed n none = ap (λ ts. fill_of span ∷ map line_for ts) (ap (turns span seed) none ∙ turns_none span seed)

lines_more : (span seed n : ℕ) → lines_to span seed (n + 1) ≡ lines_to span seed n ++ line_for (turn_at span seed n) ∷ []
lines_more span seed n =
    ap (λ lines. fill_of span ∷ lines)
    (ap (map line_for) (turns_more span seed n) ∙ map-append line_for (turns span seed n) (turn_at span seed n ∷ []))

-- none was
pub tried_start :
    (x y : View) (span seed : ℕ) (tally : Tally) (r : Result (Unit {0}) SpentAt)
    → (volume x).fit
    → IsLawful x
    → IsLawful y
    → span ≤ size_of x
    → r ≡ Ok tt
    → Fills x y 0 span (uniform_sector 0) r
    → tally.turns ≡ 0
    → ((a : FlatArray) → tally ≡ tally_of a [])
    → HasTried x y span seed tally
tried_start x y span seed tally r fit laws laws' inside is fills none zero = record {
  ran =
      subst (λ lines. Ran x y (map answered lines)) (sym (lines_start span seed tally.turns none))
      (ran_more x x y [] (answered (fill_of span)) (as_line (codes "ok")) laws' (ran_none x fit laws)
      (fill_done x y 0 span 0 (as_line (codes "ok")) r (omega (arith, inside)) is refl fills));
  tallied =
      λ a holds.
      zero (after a (fill_of span))
      ∙ ap (tally_of (after a (fill_of span))) (sym (ap (turns span seed) none ∙ turns_none span seed));
}

-- what an array becomes by lines that are answered
array_answered : (a : FlatArray) (lines : List Line) → array_by a (map answered lines) ≡ array_after a lines
array_answered a [] = refl
array_answered a (line ∷ lines) = array_answered (after a line) lines

-- a turn more
pub tried_more :
    (x y z : View) (span seed : ℕ) (tally : Tally) (turn : Turn) (r : Result ℕ SpentAt) (byte : ℕ)
    → r ≡ Ok byte
    → IsLawful z
    → turn ≡ turn_at span seed tally.turns
    → HasTried x y span seed tally
    → Takes y z turn r
    → HasTried x z span seed (counted turn byte tally)
tried_more x y z span seed tally turn r byte is laws drawn has takes_r =
    let n = tally.turns in
    let lines = lines_to span seed n in
    let takes : Takes y z turn (Ok byte) = subst (Takes y z turn) is takes_r in
    let same : map answered (lines_to span seed (n + 1)) ≡ map answered lines ++ answered (line_for turn) ∷ [] =
    ap (map answered) (lines_more span seed n)
    ∙ (map-append answered lines (line_for (turn_at span seed n) ∷ [])
    ∙ ap (λ t. map answered lines ++ answered (line_for t) ∷ []) (sym drawn)) in
    record {
      ran =
          subst (Ran x z) (sym same)
          (ran_more x y z (map answered lines) (answered (line_for turn)) takes.0.0 laws has.ran takes.0.1);
      tallied =
          λ a holds.
          let b = after a (fill_of span) in
          let ts = turns span seed n in
          let at : array_by a (map answered lines) ≡ array_after b (map line_for ts) = array_answered a lines in
          let read : byte ≡ byte_of (array_after b (map line_for ts)) turn =
          takes.1 (array_by a (map answered lines)) (has.ran.holds a holds) ∙ ap (λ c. byte_of c turn) at in
          ap₂ (counted turn) read (has.tallied a holds)
          ∙ (tally_more b ts turn
          ∙ ap (tally_of b) (ap (λ t. ts ++ t ∷ []) drawn ∙ sym (turns_more span seed n)));
    }

pub takes_passes : (y z : View) (turn : Turn) (r : Result ℕ SpentAt) → Takes y z turn r → CallFrame y z
takes_passes y z turn (Ok byte) takes = takes.0.1.passes refl
takes_passes y z turn (Err at) takes = takes.1.passes refl

-- ---- how many there are

not_zero : (n : ℕ) → 0 < n → (n == 0) ≡ false
not_zero n some = grind (arith, nat_tests)

pub none_over : (span n : ℕ) → span ≡ 0 → n ≡ 0 → n ≡ turns_over span
none_over span n none is = is ∙ sym (ap turns_over none)

pub some_over : (span n : ℕ) → 0 < span → n ≡ 20000 → n ≡ turns_over span
some_over span n some is = at (span == 0) (not_zero span some) where
  at : (none : Bool) → none ≡ false → n ≡ (if none then 0 else 20000)
  at true has = absurd (both_ways true has refl)
  at false has = is

pub has_sector : (span n : ℕ) → n < turns_over span → 0 < span
has_sector span n early =
    elim (cases_lt 0 span) [
      | inl some ↦ some
      | inr none ↦ let zero : turns_over span ≡ 0 = ap turns_over (let same : span ≡ 0 = omega arith in same) in absurd (omega (arith, zero, early))
    ]

-- ---- the ends

-- by the volume's size
tally_of_size : (span seed : ℕ) (a : FlatArray) (size : ℕ) → span ≡ span_of size → a.size ≡ size
    → tally_of (after a (fill_of span)) (turns span seed (turns_over span)) ≡ tally_of (fresh span (λ s. uniform_sector 0)) (turns span seed (turns_over span))
tally_of_size span seed a size is same =
    elim (cases_lt 0 span) [
      | inl some ↦ tally_filled span seed (turns_over span) a some (omega arith)
      | inr none ↦
          let zero : span ≡ 0 = omega arith in
          let empty : turns span seed (turns_over span) ≡ [] = ap (λ n. turns span seed (turns_over n)) zero ∙ turns_none span seed in
          ap (tally_of (after a (fill_of span))) empty ∙ sym (ap (tally_of (fresh span (λ s. uniform_sector 0))) empty)
    ]

-- all turns were taken
pub tried_all :
    (x y : View) (span seed : ℕ) (tally : Tally)
    → span ≡ span_of (size_of x)
    → tally.turns ≡ turns_over span
    → HasTried x y span seed tally
    → TriesOn x y seed (Ok tally)
tried_all x y span seed tally is all has = record {
  events = map answered (lines_for seed (size_of x));
  tries = refl;
  tallied =
      λ a holds.
      has.tallied a holds
      ∙ (ap (λ n. tally_of (after a (fill_of span)) (turns span seed n)) all
      ∙ (tally_of_size span seed a (size_of x) is holds.size
      ∙ ap (λ n. tally_of (fresh n (λ s. uniform_sector 0)) (turns n seed (turns_over n))) is));
  ran = subst (λ n. Ran x y (map answered (lines_to n seed (turns_over n)))) is (subst (λ n. Ran x y (map answered (lines_to span seed n))) all has.ran);
}

-- a sector was refused as they were filled
pub tried_not :
    (x y : View) (span seed : ℕ) (r : Result (Unit {0}) SpentAt) (at : SpentAt)
    → (volume x).fit
    → IsLawful x
    → IsLawful y
    → span ≡ span_of (size_of x)
    → r ≡ Err at
    → Fills x y 0 span (uniform_sector 0) r
    → TriesOn x y seed (Err at)
tried_not x y span seed r at fit laws laws' is refused fills =
    let line = fill_of (span_of (size_of x)) in
    record {
      events = spent line at.sector ∷ [];
      tries = ([], line, map line_for (turns (span_of (size_of x)) seed (turns_over (span_of (size_of x)))), refl, refl);
      tallied = λ a holds. tt;
      ran =
          subst (λ n. Ran x y (spent (fill_of n) at.sector ∷ [])) is
          (ran_more x x y [] (spent (fill_of span) at.sector) (spent_line at.sector) laws' (ran_none x fit laws)
          (fill_spent x y 0 span 0 (spent_line at.sector) r at (omega arith) refused refl fills));
    }

-- a turn was refused
pub tried_some :
    (x y z : View) (span seed : ℕ) (tally : Tally) (turn : Turn) (r : Result ℕ SpentAt) (at : SpentAt)
    → r ≡ Err at
    → IsLawful z
    → span ≡ span_of (size_of x)
    → tally.turns < turns_over span
    → turn ≡ turn_at span seed tally.turns
    → HasTried x y span seed tally
    → Takes y z turn r
    → TriesOn x z seed (Err at)
tried_some x y z span seed tally turn r at refused laws is some drawn has takes_r =
    let n = tally.turns in
    let lines = lines_to span seed n in
    let takes : Takes y z turn (Err at) = subst (Takes y z turn) refused takes_r in
    let split = turns_split span seed n (turns_over span - (n + 1)) in
    let count : n + 1 + (turns_over span - (n + 1)) ≡ turns_over span = omega arith in
    let all : lines_for seed (size_of x) ≡ lines ++ line_for turn ∷ map line_for split.0 =
    ap (λ m. lines_to m seed (turns_over m)) (sym is)
    ∙ ap (λ ls. fill_of span ∷ ls)
    (ap (λ m. map line_for (turns span seed m)) (sym count)
    ∙ (ap (map line_for) split.1
    ∙ (map-append line_for (turns span seed n) (turn_at span seed n ∷ split.0)
    ∙ ap (λ t. map line_for (turns span seed n) ++ line_for t ∷ map line_for split.0) (sym drawn)))) in
    record {
      events = map answered lines ++ spent (line_for turn) at.sector ∷ [];
      tries = (lines, line_for turn, map line_for split.0, all, refl);
      tallied = λ a holds. tt;
      ran = ran_more x y z (map answered lines) (spent (line_for turn) at.sector) takes.0 laws has.ran takes.1;
    }

-- a trial, once the pool was ended
pub trial_outcome :
    (x m y : View) (a : FlatArray) (seed : ℕ) (out out' : List ℕ) (result : Result Tally SpentAt) (status : Status)
    → IsLawful y
    → TriesOn x m seed result
    → Ends m y
    → SaysTried result out out' status
    → TrialOutcome seed status (IsServing x a) x.bay.traced x.bay y.bay (moment_of x) a out out'
trial_outcome x m y a seed out out' result status laws tries ends says = record {
  result = result;
  events = tries.events;
  tries = tries.tries;
  tallied = λ serving. tries.tallied a serving.0;
  lasts = lasts_of x m y a tries.events laws tries.ran ends;
  says = says;
}
