-- A step of maintenance in a call of all arrays makes its change of the book.
use Rattle.std.proofs.Common.{◌≡◌, ◌≤◌, ℕ, Bool, true, false, List, [], ◌∷◌, refl, sym, ap, ap₂, subst, ◌∙◌, arith}
use Rattle.std.proofs.lemmas.Bool.{both_ways}
use Rattle.rack.specs.Values.{Values}
use Rattle.rack.specs.Seen.{RackView}
use Rattle.array_image.specs.SoundArray.{first_unsynced}
use Rattle.log_laws.specs.Kept.{LogInvariant}
use Rattle.log_laws.proofs.KeptAfter.{kept_more}
use Rattle.array_model.specs.View.{has_gone, shape_of, View}
use Rattle.array_model.specs.Members.{Notes}
use Rattle.array_model.specs.Says.{ArrayInvariant, IsOpen}
use Rattle.sync_laws.specs.Steps.{as_it_was, done, if_done, MayStep, Stepped}
use Rattle.raid_laws.specs.Frames.{frame_of}
use Rattle.raid_laws.specs.Moves.{IsSet}
use Rattle.raid_laws.specs.Raid.{gone_in, Raid}
use Rattle.raid_laws.proofs.Changed.{called, further, ViewsOne}
use Rattle.raid_laws.proofs.Noted.{gone_from}
use Rattle.raid_laws.proofs.Over.{over_still, someone_left}
use Rattle.raid_laws.proofs.Stepped.{StepCall, views}
use Rattle.raid_laws.proofs.Views.{next_same, next_shape}
use Rattle.raid_laws.proofs.Whole.{heeded_gone}
use Rattle.raid_laws.proofs.Written.{may_commit, opened}
use Rattle.transition_laws.specs.Changes.{steps}
use Rattle.transition_laws.specs.Holds.{has_sector, IsPromised, is_sector, moved_to, Promise, Stands}
use Rattle.transition_laws.specs.Makes.{Makes}
use Rattle.transition_laws.proofs.ReadMakes.{keeps_noted, read_one_makes}
use Rattle.transition_laws.proofs.StepMakes.{holds_next, step_makes, steps_become, StepsOnce}

pub step_noted : (d : Bool) (u next z : View) (a b : RackView) → Stepped u next z a b d → d ≡ true → Notes next z a b
step_noted false u next z a b (as_it_was notes) is = absurd (both_ways false refl is)
step_noted true u next z a b (done notes) is = notes

-- arrays that aren't young have the same sectors where their frame is the same and a reshape stands where it stood
pub framed_sectors : (u w : View) → frame_of w.truth ≡ frame_of u.truth → moved_to w.truth ≡ moved_to u.truth → u.young ≡ false → w.young ≡ false → (y : ℕ) → has_sector u y ≡ has_sector w y
framed_sectors u w framed moved old new y =
    ap (λ young. is_sector (frame_of u.truth) (moved_to u.truth) young (first_unsynced u.truth) y) old
    ∙ ap₂ (λ f m. is_sector f m false (first_unsynced u.truth) y) (sym framed) (sym moved)
    ∙ sym (ap (λ young. is_sector (frame_of w.truth) (moved_to w.truth) young (first_unsynced w.truth) y) new)

-- what the step needs of the pool
step_allowed : (v : Raid) (f : ℕ → View) (next : View) (number m : ℕ) (a b : RackView) (on : List ℕ) (answered : Bool) → IsSet v a → StepCall v f next number m a b on answered
    → (vals : ℕ → ℕ → Values) (p : Promise) → IsPromised p (called v f number) → Stands v v p vals a → MayStep v.state (v.arrays m) next (f m) v.number on a
step_allowed v f next number m a b on answered set call vals p promised stands = record {
  commit = may_commit v f number m p.one a b on set call.heeded (views v f next number m a b on answered set call) call.later call.on_is stands.one
      (promised.goes p.one promised.is_one stands.one) stands.slices
      (subst (λ g. LogInvariant v.state v.number g a) (λ i q. heeded_gone v call.heeded q i) stands.log);
  opened = subst (λ k. IsOpen (shape_of next) k a) (call.is_next.seated.number ∙ sym (set.arrays m call.low).number)
      (opened v.state v.state.made m next a call.is_next.seated stands.slices call.low);
  whole = call.whole;
}

-- of an array that isn't young, with the sectors that it had, which isn't marked, and whose superblocks leave no row that isn't left
module _ (v : Raid) (f : ℕ → View) (next : View) (number m : ℕ) (a b : RackView) (on : List ℕ) (answered : Bool) (set : IsSet v a)
    (call : StepCall v f next number m a b on answered) (is : call.steps.is_done ≡ true) (young : next.young ≡ false) (rows : next.young ≡ false → next.resync ≤ first_unsynced next.truth)
    (unmarked : next.marked ≡ false) (same_sectors : (y : ℕ) → has_sector (v.arrays m) y ≡ has_sector next y) (vals : ℕ → ℕ → Values) where
  noted : Notes next (f m) a b
  noted = step_noted call.steps.is_done (v.arrays m) next (f m) a b call.steps.view is

  changed_one : ViewsOne v f m a b
  changed_one = views v f next number m a b on answered set call

  steps_once : StepsOnce m next v (called v f number) vals a b
  steps_once = record {
    few = let low = call.low in let most = set.most in omega (arith, low, most);
    low = call.low;
    lasting = set.lasting;
    stays = call.goes.stays;
    marked = λ q current. heeded_gone v call.heeded q;
    others = call.others;
    same = refl;
    goes = λ n low goes. over_still v (called v f number) (further v f m a b set changed_one number call.later) n low goes;
    someone = λ n goes. someone_left (called v f number) n goes;
    becomes = λ p promised stands.
        steps_become v.state (v.arrays m) next (f m) v.number number on answered (vals m) a b call.steps is
        (step_allowed v f next number m a b on answered set call vals p promised stands);
    gone = λ kept.
        kept_more v.state number (has_gone (f m)) (gone_in (called v f number)) b
        (λ q went. gone_from (called v f number) q m (call.few q went) call.low went) kept;
    grown = young;
    number = (set.arrays m call.low).number;
    next_number = call.is_next.seated.number;
    unmarked = unmarked;
    rows = rows;
    truth = noted.same.truth;
    young = noted.same.young;
    number_after = noted.same.number ∙ call.is_next.seated.number;
    unmarked_after = noted.same.marked ∙ unmarked;
    written = changed_one.written;
    lost = λ are. record {
      shape = sym (next_shape v f m a b next set call.low call.goes.stays call.is_next noted are);
      frame = ap frame_of noted.same.truth;
      resync = noted.same.resync;
      young = noted.same.young;
    };
    spares = λ y either alive. call.steps.spent (set.arrays m call.low).is_of_pool.rows y alive;
    sectors = λ y has. sym (same_sectors y) ∙ has;
    holds = λ p promised stands live. holds_next m next v p vals a stands live call.low (sym call.young ∙ young) same_sectors;
  }

  pub stepped_makes : Makes (steps m next ∷ []) v v (called v f number) vals vals a b
  stepped_makes = step_makes m next v (called v f number) vals a b steps_once

-- ---- where it isn't done

pub idle_noted : (d : Bool) (u next z : View) (a b : RackView) → Stepped u next z a b d → d ≡ false → Notes u z a b
idle_noted false u next z a b (as_it_was notes) is = notes
idle_noted true u next z a b (done notes) is = absurd (both_ways true is refl)

module _ (v : Raid) (f : ℕ → View) (next : View) (number m : ℕ) (a b : RackView) (on : List ℕ) (answered : Bool) (set : IsSet v a)
    (call : StepCall v f next number m a b on answered) (is : call.steps.is_done ≡ false) (vals : ℕ → ℕ → Values) where
  noted_as_it_was : Notes (v.arrays m) (f m) a b
  noted_as_it_was = idle_noted call.steps.is_done (v.arrays m) next (f m) a b call.steps.view is

  -- nothing was written, and whoever went is noted
  pub idle_makes : Makes [] v v (called v f number) vals vals a b
  idle_makes =
      let one = views v f next number m a b on answered set call in
      read_one_makes m v v (called v f number) vals a b
      (record {
        lasting = set.lasting;
        reads = call.steps.idle is;
        state = refl;
        others = call.others;
        noted = keeps_noted (v.arrays m) (f m) noted_as_it_was.same;
        written = one.written;
        shape = λ are. (
          λ q current. heeded_gone v call.heeded q,
          sym (next_shape v f m a b (v.arrays m) set call.low call.goes.stays (next_same v.state m (v.arrays m) a (set.arrays m call.low)) noted_as_it_was are),
        );
        kept = λ p promised stands.
            kept_more v.state number (has_gone (f m)) (gone_in (called v f number)) b
            (λ q went. gone_from (called v f number) q m (call.few q went) call.low went)
            (call.steps.kept v.state (step_allowed v f next number m a b on answered set call vals p promised stands));
        holds = λ p promised stands spent covers holds.
            subst (λ (d : Bool). ArrayInvariant v.state (if_done d (shape_of (v.arrays m)) (shape_of next)) (f m) (vals m) spent b) is
            ((call.steps.moving v.state (vals m) spent covers (step_allowed v f next number m a b on answered set call vals p promised stands)).holds holds);
        is_array = (set.arrays m call.low).is_array;
        synced = f m;
        notes = noted_as_it_was;
        same_shape = refl;
        same_went = refl;
        same_zeroed = λ young. refl;
        goes = λ n low goes. over_still v (called v f number) (further v f m a b set one number call.later) n low goes;
        someone = λ n goes. someone_left (called v f number) n goes;
        spares = λ y alive. call.steps.spent (set.arrays m call.low).is_of_pool.rows y alive;
      })
