-- A step of a reshape in a call of all arrays makes its change of the book.
use Rattle.std.proofs.Common.{◌≡◌, ℕ, ◌+◌, ◌<◌, ◌≤◌, Bool, true, false, ◌==◌, ◌&&◌, not, List, length, refl, sym, ap, subst, ◌∙◌, inl, inr, ne_eqb, arith, ◌||◌, []}
use Rattle.std.proofs.lemmas.Bool.{and_parts, both_ways, cases_eq, cases_lt}
use Rattle.rack.specs.Values.{IsSingle, Values}
use Rattle.rack.specs.Seen.{RackView}
use Rattle.pool_state.specs.declared.contents.State.{State}
use Rattle.array_image.specs.Arrays.{Member}
use Rattle.array_image.specs.Held.{Among}
use Rattle.array_image.specs.Places.{data_sector, member_slice}
use Rattle.array_image.specs.SoundArray.{array_fields, first_unsynced}
use Rattle.array_image.specs.States.{current_places, is_current}
use Rattle.log_laws.specs.Kept.{LogInvariant}
use Rattle.log_laws.specs.View.{names}
use Rattle.log_laws.proofs.KeptAfter.{kept_more}
use Rattle.array_model.specs.ArrayCalls.{IncludesSpent}
use Rattle.array_model.specs.Members.{Notes}
use Rattle.array_core.specs.Superblocks.{left_offset}
use Rattle.array_model.specs.Says.{ArrayInvariant, IsOpen}
use Rattle.array_model.specs.Stages.{IsStateOf}
use Rattle.array_model.specs.View.{has_gone, present, sectors_of, shape_of, spent_in, View}
use Rattle.array_core.specs.Pool.{Goes}
use Rattle.sync_laws.specs.Steps.{as_it_was, done, Stepped}
use Rattle.reshape_laws.specs.Reshapes.{MayReshape, Reshapes}
use Rattle.raid_laws.specs.Frames.{frame_of}
use Rattle.raid_laws.specs.Moves.{IsHeeded, IsSet}
use Rattle.raid_laws.specs.Raid.{gone_in, is_empty, is_failed, is_used_up, IsWritten, Raid}
use Rattle.raid_laws.proofs.Added.{names_current}
use Rattle.raid_laws.proofs.Changed.{called, further as further_read, keeps_arrays}
use Rattle.raid_laws.proofs.Noted.{current_few, gone_from, gone_not}
use Rattle.raid_laws.proofs.Over.{IsFurther, member_left, number_room, or_from, or_parts, over_still, someone_left}
use Rattle.raid_laws.proofs.Seated.{view_with}
use Rattle.raid_laws.proofs.Views.{NotesOne}
use Rattle.raid_laws.proofs.Whole.{heeded_gone, heeded_left, heeded_whole}
use Rattle.raid_laws.proofs.Written.{may_renew, opened, state_of}
use Rattle.transition_laws.specs.Changes.{changed, Maintains, steps}
use Rattle.transition_laws.specs.Holds.{has_sector, IsPromised, Promise, spent_at, Stands}
use Rattle.transition_laws.specs.Losses.{IsRunOf, MakesLosses}
use Rattle.transition_laws.specs.Makes.{makes_then}
use Rattle.transition_laws.specs.Reshaping.{LeavesWholeRows}
use Rattle.transition_laws.proofs.ReadMakes.{keeps_noted}
use Rattle.transition_laws.proofs.RunsOf.{run_loses, run_of_itself}
use Rattle.transition_laws.proofs.Shown.{spent_other}
use Rattle.transition_laws.proofs.RenewMakes.{RenewsOne, same_renewed, supers_truths, undone_makes}
use Rattle.transition_laws.proofs.StepMakes.{reshapes_become, step_makes, StepsOnce}
use Rattle.growth_laws.specs.Growing.{MakesTurn}
use Rattle.growth_laws.proofs.Becoming.{IsAtRest}
use Rattle.growth_laws.proofs.Turning.{turn_then}
use Rattle.growth_laws.proofs.Steps.{MayBecome, notes_views, stepped_heeded, stepped_own, stepped_other, stepped_set}

-- What a step of a reshape leaves of an array: its mark and its rows, and some member where it has one after it. A member that joins holds one value in
-- each sector. The array has the sectors that it had, and those past its end, which are moved already, are spent where they were.
pub record KeepsMembers (u next : View) (a : RackView) : Type 0 where
  pub joining :
      (k : Member) (t : ℕ) → Among k (shape_of next).members → (Among k (shape_of u).members → ⊥) → t < k.reach
      → IsSingle (a.held (member_slice k.place u.number) (data_sector + t)) × (length (a.held (member_slice k.place u.number) (data_sector + t)).current ≡ 512)
  pub some : 0 < present next.seats → 0 < present u.seats
  pub marked : next.marked ≡ u.marked
  pub resync : next.resync ≡ u.resync
  pub young : next.young ≡ u.young
  pub unsynced : first_unsynced next.truth ≡ first_unsynced u.truth
  pub events : u.truth.events ≤ next.truth.events
  pub written : IsWritten u → IsWritten next
  pub sectors : (y : ℕ) → has_sector u y ≡ true → has_sector next y ≡ true
  pub spent : (y : ℕ) → has_sector u y ≡ true → sectors_of u ≤ y → spent_in next y ≡ spent_in u y
  pub new : (s : State) → Maintains s u next → ⊥

-- where nobody joins
pub none_joins : (u next : View) (a : RackView) → (shape_of next).members ≡ (shape_of u).members → (k : Member) (t : ℕ) → Among k (shape_of next).members
    → (Among k (shape_of u).members → ⊥) → t < k.reach
    → IsSingle (a.held (member_slice k.place u.number) (data_sector + t)) × (length (a.held (member_slice k.place u.number) (data_sector + t)).current ≡ 512)
none_joins u next a same k t among old inside = absurd (old (subst (λ (ms : List Member). Among k ms) same among))

-- a run of which the arrays have the members of another
abbrev seated_as : Raid → Raid → Raid
seated_as v w = record w { arrays = λ k. record (w.arrays k) { seats = (v.arrays k).seats } }

-- a pool that isn't at its end after a step wasn't before it, where an array has a member left after it only if it had one
over_but : (v w : Raid) → IsFurther v (seated_as v w) → (n : ℕ) → n < v.state.made → (0 < present (w.arrays n).seats → 0 < present (v.arrays n).seats) → is_failed w n ≡ false
    → is_failed v n ≡ false
over_but v w further n low some goes =
    let parts = or_parts (is_empty w) (is_used_up w || (present (w.arrays n).seats == 0)) goes in
    let rest = or_parts (is_used_up w) (present (w.arrays n).seats == 0) parts.1 in
    let left = some (member_left w n goes) in
    over_still v (seated_as v w) further n low
    (or_from (is_empty w) (is_used_up w || (present (v.arrays n).seats == 0)) parts.0
    (or_from (is_used_up w) (present (v.arrays n).seats == 0) rest.0 (ne_eqb (present (v.arrays n).seats) 0 (λ none. absurd (omega (arith, left, none))))))

-- Such a step of array m in a call of all.
pub record ReshapeCall (v : Raid) (f : ℕ → View) (next : View) (number m : ℕ) (a b : RackView) (on : List ℕ) (answered : Bool) : Type 0 where
  pub set : IsSet v a
  pub heeded : IsHeeded v
  pub rest : IsAtRest v m
  pub may : MayBecome v m next a
  pub keeps : KeepsMembers (v.arrays m) next a
  pub others : (n : ℕ) → (n ≡ m → ⊥) → f n ≡ v.arrays n
  pub goes : Goes a b
  pub later : v.number ≤ number
  pub on_is : on ≡ current_places v.state
  pub few : (p : ℕ) → has_gone (f m) p ≡ true → p < 16
  pub reshapes : Reshapes (v.arrays m) next (f m) v.number number on a b answered

same_if : (d : Bool) (u next z : View) (a b : RackView) → Stepped u next z a b d → d ≡ false → Notes u z a b
same_if false u next z a b (as_it_was notes) is = notes
same_if true u next z a b (done notes) is = absurd (both_ways true is refl)

noted_if : (d : Bool) (u next z : View) (a b : RackView) → Stepped u next z a b d → d ≡ true → Notes next z a b
noted_if false u next z a b (as_it_was notes) is = absurd (both_ways false refl is)
noted_if true u next z a b (done notes) is = notes

module _ (v : Raid) (f : ℕ → View) (next : View) (number m : ℕ) (a b : RackView) (on : List ℕ) (answered : Bool) (call : ReshapeCall v f next number m a b on answered) where
  low : m < v.state.made
  low = call.may.low

  -- what the step needs of the pool, where not all is over after it
  allowed : LeavesWholeRows (v.arrays m) → ((n : ℕ) → n < v.state.made → is_failed (called v f number) n ≡ false → is_failed v n ≡ false) → (p : Promise) → IsPromised p (called v f number) → (vals : ℕ → ℕ → Values) → Stands v v p vals a
      → MayReshape v.state (v.arrays m) next (f m) v.number on a
  allowed whole still p promised vals stands =
      let goes = promised.goes p.one promised.is_one stands.one in
      let before = still p.one stands.one goes in
      let some = someone_left (called v f number) p.one goes in
      record {
        commit = record {
          renew = may_renew v a m p.one call.set call.heeded low stands.slices before;
          opened = opened v.state v.state.made m (v.arrays m) a (call.set.arrays m low) stands.slices low;
          steady = heeded_whole v m call.heeded (call.set.marked m low);
          log = subst (λ g. LogInvariant v.state v.number g a) (λ i q. heeded_gone v call.heeded q i) stands.log;
          room = let room = (number_room v p.one before).0 in omega (arith, room);
          places = λ q. ap (λ ps. names ps q) call.on_is ∙ names_current v.state q ∙ sym (and_true (is_current v.state q));
          someone = (some.0, some.1, gone_not (called v f number) some.0 m (current_few v.state some.0 call.set.few some.1) low some.2);
        };
        state =
            subst (λ (u : View). IsStateOf u v.state) (stepped_own v m next)
            (state_of (changed (steps m next) v) a m (stepped_set v m next a call.set call.heeded call.may) (stepped_heeded v m next call.heeded call.may.went) low);
        opened = subst (λ k. IsOpen (shape_of next) k a) (call.may.seated.number ∙ sym (call.set.arrays m low).number)
            (opened v.state v.state.made m next a call.may.seated stands.slices low);
        joining = call.keeps.joining;
        unmarked = call.rest.unmarked;
        whole = whole;
      }
    where
      and_true : (c : Bool) → (c && true) ≡ c
      and_true true = refl
      and_true false = refl

  module _ (is : call.reshapes.steps.is_done ≡ true) where
    noted : Notes next (f m) a b
    noted = noted_if call.reshapes.steps.is_done (v.arrays m) next (f m) a b call.reshapes.steps.view is

    -- the book after the step, of which whoever went is noted
    abbrev after_it : Raid
    after_it = changed (steps m next) v

    views : NotesOne (changed (steps m next) v) f m a b
    views =
        notes_views (changed (steps m next) v) f m a b (stepped_set v m next a call.set call.heeded call.may) low call.goes.stays
        (λ n other. call.others n other ∙ sym (stepped_other v m next n other)) (subst (λ (u : View). Notes u (f m) a b) (sym (stepped_own v m next)) noted)

    further : IsFurther v (seated_as v (called v f number))
    further = record {
      left = λ q left. heeded_left v q call.heeded (and_parts (is_current v.state q) (not (gone_in (called v f number) q)) left).0;
      number = call.later;
      epoch = omega arith;
      made = refl;
      events = λ n there. elim (cases_eq n m) [
        | inl same ↦
            subst (λ k. (v.arrays k).truth.events ≤ (f k).truth.events) (sym same)
            (let up = call.keeps.events in let more = subst (λ (u : View). u.truth.events ≤ (f m).truth.events) (stepped_own v m next) views.views.events in omega (arith, up, more))
        | inr other ↦ subst (λ (u : View). (v.arrays n).truth.events ≤ u.truth.events) (sym (call.others n other)) (omega arith)
      ];
      seats = λ n there. omega arith;
    }

    some : (n : ℕ) → 0 < present (f n).seats → 0 < present (v.arrays n).seats
    some n left = elim (cases_eq n m) [
      | inl same ↦
          subst (λ k. 0 < present (v.arrays k).seats) (sym same)
          (call.keeps.some
          (let fewer = subst (λ (u : View). present (f m).seats ≤ present u.seats) (stepped_own v m next) views.views.seats in
          let own = subst (λ k. 0 < present (f k).seats) same left in
          omega (arith, fewer, own)))
      | inr other ↦ subst (λ (u : View). 0 < present u.seats) (call.others n other) left
    ]

    still : (n : ℕ) → n < v.state.made → is_failed (called v f number) n ≡ false → is_failed v n ≡ false
    still n there goes = over_but v (called v f number) further n there (some n) goes

    unspent : (y : ℕ) → spent_in (f m) y ≡ false → spent_in next y ≡ false
    unspent y alive = subst (λ (u : View). spent_in u y ≡ false) (stepped_own v m next) (views.views.spent y alive)

    pub reshape_once : (vals : ℕ → ℕ → Values) → LeavesWholeRows (v.arrays m) → ((p : Promise) → IsPromised p (called v f number) → Stands v v p vals a → p.live m ≡ true
        → ArrayInvariant v.state (shape_of (v.arrays m)) (v.arrays m) (vals m) (spent_at p m next) a)
        → StepsOnce m next v (called v f number) vals a b
    reshape_once vals whole holds = record {
      few = let there = low in let most = call.set.most in omega (arith, there, most);
      low = low;
      lasting = call.set.lasting;
      stays = call.goes.stays;
      marked = λ q current. heeded_gone v call.heeded q;
      others = call.others;
      same = refl;
      goes = still;
      someone = λ n goes. someone_left (called v f number) n goes;
      becomes = λ p promised stands. reshapes_become v.state (v.arrays m) next (f m) v.number number on answered (vals m) a b call.reshapes is (allowed whole still p promised vals stands);
      gone = λ kept.
          kept_more v.state number (has_gone (f m)) (gone_in (called v f number)) b (λ q went. gone_from (called v f number) q m (call.few q went) low went) kept;
      grown = call.keeps.young ∙ call.rest.grown;
      number = (call.set.arrays m low).number;
      next_number = call.may.seated.number;
      unmarked = call.keeps.marked ∙ call.rest.unmarked;
      rows = λ old. let same = call.keeps.resync in let first = call.keeps.unsynced in let rows = call.rest.rows in omega (arith, same, first, rows);
      truth = noted.same.truth;
      young = noted.same.young;
      number_after = noted.same.number ∙ call.may.seated.number;
      unmarked_after = noted.same.marked ∙ call.keeps.marked ∙ call.rest.unmarked;
      written = λ was. views.views.written (subst IsWritten (sym (stepped_own v m next)) (call.keeps.written was));
      lost = λ are. record {
        shape = sym (ap shape_of (sym (stepped_own v m next)) ∙ views.loses.shape are);
        frame = ap frame_of noted.same.truth;
        resync = noted.same.resync;
        young = noted.same.young;
      };
      spares = λ y either alive. elim either [
        | inr maintains ↦ absurd (call.keeps.new v.state maintains)
        | inl has ↦
            elim (cases_lt y (sectors_of (v.arrays m))) [
              | inl inside ↦ call.reshapes.steps.spent (call.set.arrays m low).is_of_pool.rows y inside alive
              | inr past ↦ sym (call.keeps.spent y has past) ∙ unspent y alive
            ]
      ];
      sectors = call.keeps.sectors;
      holds = holds;
    }

    -- and the run after the call is one of the book after it
    run_done : IsRunOf (changed (steps m next) v) (called v f number)
    run_done =
        let set = stepped_set v m next a call.set call.heeded call.may in
        run_loses (changed (steps m next) v) (changed (steps m next) v) (called v f number) refl
        (λ n there. keeps_arrays (changed (steps m next) v) f m a b set views.views views.loses n there)
        (λ n there. elim (cases_eq n m) [
          | inl same ↦
              subst (λ k. left_offset (f k) ≡ left_offset ((changed (steps m next) v).arrays k)) (sym same)
              (ap left_offset (view_with next (f m) noted.same) ∙ ap left_offset (sym (stepped_own v m next)))
          | inr other ↦ ap left_offset (call.others n other ∙ sym (stepped_other v m next n other))
        ])
        (run_of_itself (changed (steps m next) v) a set)

  -- ---- where it isn't done

  module _ (is : call.reshapes.steps.is_done ≡ false) where
    as_before : Notes (v.arrays m) (f m) a b
    as_before = same_if call.reshapes.steps.is_done (v.arrays m) next (f m) a b call.reshapes.steps.view is

    views_before : NotesOne v f m a b
    views_before = notes_views v f m a b call.set low call.goes.stays call.others as_before

    further_before : IsFurther v (called v f number)
    further_before = further_read v f m a b call.set views_before.views number call.later

    still_before : (n : ℕ) → n < v.state.made → is_failed (called v f number) n ≡ false → is_failed v n ≡ false
    still_before n there goes = over_still v (called v f number) further_before n there goes

    pub reshape_undone : (vals : ℕ → ℕ → Values) → LeavesWholeRows (v.arrays m) → RenewsOne m (v.arrays m) v (called v f number) vals a b
    reshape_undone vals whole = record {
      few = let there = low in let most = call.set.most in omega (arith, there, most);
      low = low;
      lasting = call.set.lasting;
      stays = call.goes.stays;
      marked = λ q current. heeded_gone v call.heeded q;
      others = call.others;
      same = refl;
      back = λ p promised. record {
        is_one = promised.is_one;
        goes = λ n live there. still_before n there (promised.goes n live there);
        covers = λ n live there. elim (cases_eq n m) [
          | inl same ↦ subst (λ k. IncludesSpent (v.arrays k) (spent_at p k (v.arrays k))) (sym same) (λ y alive.
              views_before.views.spent y
              (promised.covers m (subst (λ k. p.live k ≡ true) same live) low y
              (spent_other p m (f m) (v.arrays m) (λ z. (keeps_noted (v.arrays m) (f m) as_before.same).sectors z) y ∙ alive)))
          | inr other ↦ subst (λ (u : View). IncludesSpent u (spent_at p n u)) (call.others n other) (promised.covers n live there)
        ];
      };
      someone = λ n goes. someone_left (called v f number) n goes;
      acts = λ p promised stands spent covers. call.reshapes.undone is v.state (vals m) spent covers (allowed whole still_before p promised vals stands);
      truths = λ p promised stands spent covers.
          supers_truths v.state (v.arrays m).number (λ t. array_fields t ≡ array_fields (v.arrays m).truth)
          (ArrayInvariant v.state (shape_of (v.arrays m)) (v.arrays m) (vals m) spent a) a b (call.reshapes.kept_supers is);
      renewed = same_renewed (v.arrays m) call.rest.unmarked (let rows = call.rest.rows in omega (arith, rows));
      kept = λ p promised stands.
          kept_more v.state number (has_gone (f m)) (gone_in (called v f number)) b (λ q went. gone_from (called v f number) q m (call.few q went) low went)
          (call.reshapes.kept v.state (allowed whole still_before p promised vals stands));
      number = (call.set.arrays m low).number;
      grown = call.rest.grown;
      noted = as_before.same;
      written = views_before.views.written;
      lost = λ are. record {
        shape = sym (views_before.loses.shape are);
        frame = ap frame_of as_before.same.truth;
        resync = as_before.same.resync;
        young = as_before.same.young;
      };
    }

    run_undone : IsRunOf v (called v f number)
    run_undone =
        run_loses v v (called v f number) refl (λ n there. keeps_arrays v f m a b call.set views_before.views views_before.loses n there)
        (λ n there. elim (cases_eq n m) [
          | inl same ↦ subst (λ k. left_offset (f k) ≡ left_offset (v.arrays k)) (sym same) (ap left_offset (view_with (v.arrays m) (f m) as_before.same))
          | inr other ↦ ap left_offset (call.others n other)
        ])
        (run_of_itself v a call.set)

  -- ---- and the mending after it

  pub reshape_then : (w : Raid) (c : RackView) (Fits : (ℕ → ℕ → Values) → Type 0) → ((vals : ℕ → ℕ → Values) → Fits vals → LeavesWholeRows (v.arrays m))
      → ((vals : ℕ → ℕ → Values) → Fits vals → (p : Promise) → Stands v v p vals a → p.live m ≡ true → ArrayInvariant v.state (shape_of (v.arrays m)) (v.arrays m) (vals m) (spent_at p m next) a)
      → ((d : Raid) → IsRunOf d (called v f number) → MakesLosses d (called v f number) w b c)
      → MakesTurn (steps m next) call.reshapes.steps.is_done Fits v w a c
  reshape_then w c Fits whole holds losses = of call.reshapes.steps.is_done refl
    where
      of : (d : Bool) → call.reshapes.steps.is_done ≡ d → MakesTurn (steps m next) d Fits v w a c
      of true is =
          turn_then (steps m next) Fits v (called v f number) w a b c
          (λ vals fits. step_makes m next v (called v f number) vals a b (reshape_once is vals (whole vals fits) (λ p promised stands live. holds vals fits p stands live)))
          (losses (changed (steps m next) v) (run_done is))
      of false is =
          let after = losses v (run_undone is) in
          record {
            before = [];
            after = after.changes;
            losses_before = tt;
            losses_after = after.losses;
            makes = λ vals fits.
                makes_then [] after.changes v v (called v f number) w vals vals vals a b c
                (undone_makes m v (called v f number) vals a b (reshape_undone is vals (whole vals fits))) (after.makes vals);
          }
