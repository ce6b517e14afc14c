-- A step of maintenance in a call of all arrays, and the mending after it, make its change of the book and losses.
use Rattle.std.proofs.Common.{◌≡◌, ℕ, ◌<◌, ◌≤◌, Bool, true, false, List, [], refl, sym, ap, subst, ◌∙◌, inl, inr, arith, Ok}
use Rattle.std.proofs.lemmas.Bool.{both_ways, cases_Bool, cases_eq}
use Rattle.rack.specs.Seen.{RackView, SameRack}
use Rattle.pool_state.specs.declared.contents.Work.{Work}
use Rattle.pool_state.specs.declared.contents.Work.TheVariants.{Resync, Rebuild, TakeOver, Begin, Reshape, Finish, Make, Zero, Ready, Extend, Close}
use Rattle.array_image.specs.SoundArray.{first_unsynced}
use Rattle.array_model.specs.Members.{Notes}
use Rattle.array_model.specs.View.{is_whole_array, View}
use Rattle.array_core.specs.Superblocks.{is_settled, left_offset}
use Rattle.sync_laws.specs.Steps.{DoesRows, rebuilt, resynced}
use Rattle.raid_laws.specs.Moves.{IsSet}
use Rattle.raid_laws.specs.Raid.{Raid}
use Rattle.raid_laws.proofs.Changed.{called, keeps_arrays}
use Rattle.raid_laws.proofs.Rows.{settled_rows}
use Rattle.raid_laws.proofs.Seated.{view_with}
use Rattle.raid_laws.proofs.Stepped.{StepCall}
use Rattle.raid_laws.proofs.Whole.{heeded_whole, own_rows}
use Rattle.transition_laws.specs.Changes.{changed, steps}
use Rattle.transition_laws.specs.Holds.{has_sector}
use Rattle.transition_laws.specs.Losses.{IsRunOf, MakesLosses}
use Rattle.transition_laws.specs.Makes.{makes_then}
use Rattle.transition_laws.proofs.RunsOf.{run_loses, run_of_itself}
use Rattle.transition_laws.proofs.SteppedMakes.{framed_sectors, idle_makes, idle_noted, step_noted, stepped_makes}
use Rattle.growth_laws.specs.Growing.{MakesTurn}
use Rattle.growth_laws.specs.Rows.{MakesWorks}
use Rattle.growth_laws.proofs.Steps.{MayBecome, notes_views, stepped_other, stepped_own, stepped_set}
use Rattle.growth_laws.proofs.Turning.{turn_then}

-- whoever goes in a call of one array is noted in it alone, and then the run is one of the book that it was
pub run_noted : (v : Raid) (f : ℕ → View) (m number : ℕ) (a b : RackView) → IsSet v a → m < v.state.made → SameRack a b
    → ((n : ℕ) → (n ≡ m → ⊥) → f n ≡ v.arrays n) → Notes (v.arrays m) (f m) a b → IsRunOf v (called v f number)
run_noted v f m number a b set low stays others notes =
    let seen = notes_views v f m a b set low stays others notes in
    run_loses v v (called v f number) refl (λ n there. keeps_arrays v f m a b set seen.views seen.loses n there)
    (λ n there. elim (cases_eq n m) [
      | inl same ↦ subst (λ k. left_offset (f k) ≡ left_offset (v.arrays k)) (sym same) (ap left_offset (view_with (v.arrays m) (f m) notes.same))
      | inr other ↦ ap left_offset (others n other)
    ])
    (run_of_itself v a set)

module _ (v : Raid) (f : ℕ → View) (next : View) (number m : ℕ) (a b : RackView) (on : List ℕ) (answered : Bool) (set : IsSet v a)
    (call : StepCall v f next number m a b on answered) (rows : next.young ≡ false → next.resync ≤ first_unsynced next.truth) (unmarked : next.marked ≡ false)
    (sectors : (y : ℕ) → has_sector (v.arrays m) y ≡ has_sector next y) where
  becomes : MayBecome v m next a
  becomes = record {
    low = call.low;
    seated = call.is_next.seated;
    went = call.is_next.went ∙ call.heeded m call.low;
    whole = λ marked. absurd (both_ways next.marked unmarked marked);
  }

  -- the run after the call is one of the book after it
  run_done : call.steps.is_done ≡ true → IsRunOf (changed (steps m next) v) (called v f number)
  run_done is =
      run_noted (changed (steps m next) v) f m number a b (stepped_set v m next a set call.heeded becomes) call.low call.goes.stays
      (λ n other. call.others n other ∙ sym (stepped_other v m next n other))
      (subst (λ (u : View). Notes u (f m) a b) (sym (stepped_own v m next)) (step_noted call.steps.is_done (v.arrays m) next (f m) a b call.steps.view is))

  run_idle : call.steps.is_done ≡ false → IsRunOf v (called v f number)
  run_idle is = run_noted v f m number a b set call.low call.goes.stays call.others (idle_noted call.steps.is_done (v.arrays m) next (f m) a b call.steps.view is)

  pub step_turn : (w : Raid) (c : RackView) → ((d : Raid) → IsRunOf d (called v f number) → MakesLosses d (called v f number) w b c)
      → MakesTurn (steps m next) call.steps.is_done (λ vals. (v.arrays m).young ≡ false) v w a c
  step_turn w c losses = of call.steps.is_done refl
    where
      of : (d : Bool) → call.steps.is_done ≡ d → MakesTurn (steps m next) d (λ vals. (v.arrays m).young ≡ false) v w a c
      of true is =
          turn_then (steps m next) (λ vals. (v.arrays m).young ≡ false) v (called v f number) w a b c
          (λ vals fits. stepped_makes v f next number m a b on answered set call is (call.young ∙ fits) rows unmarked sectors vals) (losses (changed (steps m next) v) (run_done is))
      of false is =
          let after = losses v (run_idle is) in
          record {
            before = [];
            after = after.changes;
            losses_before = tt;
            losses_after = after.losses;
            makes = λ vals fits.
                makes_then [] after.changes v v (called v f number) w vals vals vals a b c (idle_makes v f next number m a b on answered set call is vals) (after.makes vals);
          }

-- ---- rows that are resynced or rebuilt

-- the superblocks leave the rows that are left in an array that isn't young, and the array has the sectors that it had
pub resync_turn : (v : Raid) (f : ℕ → View) (number m rows : ℕ) (a b : RackView) (on : List ℕ) (answered : Bool) (set : IsSet v a)
    (call : StepCall v f (resynced (v.arrays m) rows) number m a b on answered) → (v.arrays m).young ≡ false → is_settled (resynced (v.arrays m) rows) ≡ true
    → (w : Raid) (c : RackView) → ((d : Raid) → IsRunOf d (called v f number) → MakesLosses d (called v f number) w b c)
    → MakesTurn (steps m (resynced (v.arrays m) rows)) call.steps.is_done (λ vals. (v.arrays m).young ≡ false) v w a c
resync_turn v f number m rows a b on answered set call young settled w c losses =
    let next = resynced (v.arrays m) rows in
    step_turn v f next number m a b on answered set call (λ old. settled_rows next call.is_next.seated.is_array old settled) refl
    (framed_sectors (v.arrays m) next call.framed refl young young) w c losses

-- one of which a member is being rebuilt isn't whole, so it isn't marked
pub rebuild_turn : (v : Raid) (f : ℕ → View) (number m place rows : ℕ) (a b : RackView) (on : List ℕ) (answered : Bool) (set : IsSet v a)
    (call : StepCall v f (rebuilt (v.arrays m) place rows) number m a b on answered) → is_whole_array (v.arrays m) ≡ false
    → (w : Raid) (c : RackView) → ((d : Raid) → IsRunOf d (called v f number) → MakesLosses d (called v f number) w b c)
    → MakesTurn (steps m (rebuilt (v.arrays m) place rows)) call.steps.is_done (λ vals. (v.arrays m).young ≡ false) v w a c
rebuild_turn v f number m place rows a b on answered set call part w c losses =
    let u = v.arrays m in
    step_turn v f (rebuilt u place rows) number m a b on answered set call
    (λ old. let same = (own_rows v a m set call.heeded call.low).rows old part in omega (arith, same))
    (elim (cases_Bool u.marked) [
      | inl marked ↦ absurd (both_ways (is_whole_array u) part (heeded_whole v m call.heeded (set.marked m call.low) marked))
      | inr unmarked ↦ unmarked
    ])
    (λ y. refl) w c losses

-- ---- one work

-- where one was asked for, it is answered that one is done
pub one_made : (E : Type 0) (work : Work) (v w : Raid) (a b : RackView) (k : ℕ) → MakesWorks work 1 v w a b {E = E} (Ok k) → MakesWorks work 1 v w a b {E = E} (Ok 1)
one_made E work v w a b k makes = of work makes
  where
    of_rows : {does : ℕ → Bool → Type 0} {left : ℕ} → DoesRows does left 1 {E = E} (Ok k) → DoesRows does left 1 {E = E} (Ok 1)
    of_rows rows = record {
      rows = rows.rows;
      some = rows.some;
      few = rows.few;
      left = rows.left;
      steps = rows.steps;
      answer = let some = rows.some in let few = rows.few in omega (arith, some, few);
    }

    of : (work : Work) → MakesWorks work 1 v w a b {E = E} (Ok k) → MakesWorks work 1 v w a b {E = E} (Ok 1)
    of (Resync m) makes = of_rows makes
    of (Rebuild m place) makes = of_rows makes
    of (TakeOver m) makes = absurd makes
    of (Begin m place) makes = absurd makes
    of (Reshape m) makes = absurd makes
    of (Finish m) makes = absurd makes
    of (Make m height) makes = absurd makes
    of (Zero m) makes = absurd makes
    of (Ready m) makes = absurd makes
    of Extend makes = absurd makes
    of Close makes = makes
