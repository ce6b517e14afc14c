-- Works of maintenance answer a line as its event has it.
use Rattle.std.proofs.Common.{◌≡◌, ℕ, true, false, List, Result, Ok, Err, refl, subst, inl}
use Rattle.std.proofs.lemmas.Bool.{both_ways}
use Rattle.shr_script.specs.Reply.{left_line}
use Rattle.pool.specs.View.{View, book}
use Rattle.pool.specs.Volume.{unchanged}
use Rattle.pool.specs.Calls.{IsQuiet, Steps}
use Rattle.pool.specs.Proceeding.{has_growth}
use Rattle.pool.specs.Works.{StopsStuck}
use Rattle.raid_rack.specs.declared.works.Stuck.{Stuck}
use Rattle.shr_tool.specs.Events.{stuck_line}
use Rattle.shr_tool.specs.Events.Event.{stepped, stuck}
use Rattle.shr_tool.specs.Timeline.{LineContract}
use Rattle.shr_tool.proofs.Performing.{marks_for, performs_by}

pub step_done :
    (x y : View) (count left : ℕ) (text : List ℕ) (r : Result ℕ Stuck)
    → r ≡ Ok left
    → text ≡ left_line left
    → has_growth x.linear (book x) ≡ false
    → Steps x y count r
    → LineContract x y (stepped count left) text
step_done x y count left text r is_ok is none steps_r =
    let steps : Steps x y count (Ok left) = subst (λ q. Steps x y count q) is_ok steps_r in
    performs_by x y (stepped count left) text unchanged unchanged refl (λ none. absurd (both_ways false refl none)) steps.passes steps.raises
    (λ still. absurd (both_ways true still refl))
    (none, record { left_is = steps.left; progress = steps.progress; members = steps.members; plan = steps.plan })
    (marks_for x y _ steps.passes steps.marks)
    (λ a sized. is)
    (λ a holds. refl)
    (λ a holds. inl refl)
    steps.does

pub step_stuck :
    (x y : View) (count : ℕ) (at : Stuck) (text : List ℕ) (r : Result ℕ Stuck)
    → r ≡ Err at
    → text ≡ stuck_line at.array
    → has_growth x.linear (book x) ≡ false
    → Steps x y count r
    → LineContract x y (stuck count at.array) text
step_stuck x y count at text r refused is none steps_r =
    let steps : Steps x y count (Err at) = subst (λ q. Steps x y count q) refused steps_r in
    performs_by x y (stuck count at.array) text unchanged unchanged refl (λ none. absurd (both_ways false refl none)) steps.passes steps.raises
    (λ still. absurd (both_ways true still refl)) (none, subst (λ l. StopsStuck (IsQuiet x y) l count (book x) (book y) at.array) steps.passes.linear steps.stuck)
    (marks_for x y _ steps.passes steps.marks)
    (λ a sized. is)
    (λ a holds. refl)
    (λ a holds. inl refl)
    steps.does
