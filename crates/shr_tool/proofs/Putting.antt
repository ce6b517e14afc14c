-- Texts that are put one after the other.
use Rattle.std.proofs.Common.{◌≡◌, ℕ, ◌+◌, List, ◌++◌, length, take, Result, Ok, Err, inl, inr, ap, sym, ◌∙◌, arith, append_assoc, length-append}
use Rattle.std.proofs.lemmas.List.{take-append-le}
use Rattle.std.proofs.Math.Seq.{take-append-add}
use Rattle.io_ends.specs.Sink.{AddsPrefix}
use Rattle.std.specs.Result.{IsErrAnd}
use Rattle.layer_plan.specs.declared.Layers.{Layers}
use Rattle.layer_plan.specs.declared.PlanError.{PlanError}
use Rattle.shr_tool.specs.declared.status.Status.{Status}
use Rattle.shr_tool.specs.LayoutText.{Puts, Prints, IsAnswer, ended, answer_status, answer_text}

-- a prefix of the first text is one of both
pub prefix-first : (before after first second : List ℕ) → AddsPrefix before after first → AddsPrefix before after (first ++ second)
prefix-first before after first second p = record {
  count = p.count;
  within = let l = length-append first second in let w = p.within in omega arith;
  bytes = let w = p.within in rw (take-append-le p.count first second) p.bytes;
}

-- a prefix of the second text after the first is one of both
pub prefix-second : (before after first second : List ℕ) → AddsPrefix (before ++ first) after second → AddsPrefix before after (first ++ second)
prefix-second before after first second p = record {
  count = length first + p.count;
  within = let l = length-append first second in let w = p.within in omega arith;
  bytes = p.bytes ∙ append_assoc before first (take p.count second) ∙ ap (λ t. before ++ t) (sym (take-append-add first second p.count));
}

-- what was put after a first text
pub puts-second :
    {E : Type 0} (result : Result (Unit {0}) E) (before between after first second : List ℕ)
    → between ≡ before ++ first
    → Puts result between after second
    → Puts result before after (first ++ second)
puts-second (Ok done) before between after first second at put = rw at at put ∙ append_assoc before first second
puts-second (Err e) before between after first second at put = prefix-second before after first second (rw at at put)

-- a text of which a prefix was put
pub puts-failed :
    {E : Type 0} (Q : E → Type 0) (result : Result (Unit {0}) E) (before after text : List ℕ)
    → IsErrAnd result Q
    → AddsPrefix before after text
    → Puts result before after text
puts-failed Q (Ok done) before after text failed put = absurd failed
puts-failed Q (Err e) before after text failed put = put

-- an answer whose text was put
pub printed :
    {E : Type 0} (Told : Type 0) (units before after : List ℕ) (answer : Result Layers PlanError) (put : Result (Unit {0}) E) (status : Status)
    → IsAnswer units answer
    → status ≡ ended put (answer_status answer)
    → (Told → Puts put before after (answer_text units answer))
    → Prints Told status units before after
printed Told units before after (Ok plan) (Ok done) status is e put = record { answer = Ok plan; is_answer = is; status_is = inl e; puts = λ told. rw e (put told) }
printed Told units before after (Ok plan) (Err f) status is e put = record { answer = Ok plan; is_answer = is; status_is = inr e; puts = λ told. rw e (put told) }
printed Told units before after (Err why) (Ok done) status is e put = record { answer = Err why; is_answer = is; status_is = inl e; puts = λ told. rw e (put told) }
printed Told units before after (Err why) (Err f) status is e put = record { answer = Err why; is_answer = is; status_is = inr e; puts = λ told. rw e (put told) }
