-- A call of all arrays that zeroes rows of a young one, and the mending after it, make its change of the book and losses.
use Rattle.std.proofs.Common.{◌≡◌, ℕ, ◌-◌, ◌<◌, ◌≤◌, ◌==◌, ◌&&◌, not, Bool, true, false, List, [], refl, sym, ap, subst, ◌∙◌, inl, inr, arith}
use Rattle.std.proofs.lemmas.Bool.{and_parts, both_ways, cases_Bool}
use Rattle.std.specs.List.{list_all}
use Rattle.rack.specs.Values.{Values}
use Rattle.rack.specs.Seen.{RackView}
use Rattle.rack.specs.Sequences.{OnlyReads}
use Rattle.pool_state.specs.declared.contents.State.{State}
use Rattle.array_image.specs.Arrays.{Shape}
use Rattle.array_image.specs.SoundArray.{first_unsynced}
use Rattle.array_image.specs.Spent.{spent_by}
use Rattle.array_image.specs.States.{current_places}
use Rattle.array_image.specs.Supers.{is_reshaping}
use Rattle.log_laws.specs.Kept.{LogInvariant}
use Rattle.log_laws.proofs.KeptAfter.{kept_more}
use Rattle.array_model.specs.Members.{Notes}
use Rattle.array_model.specs.Says.{IsOpen}
use Rattle.array_model.specs.View.{has_gone, is_whole_array, is_whole_seat, rows_of, shape_of, spent_in, View}
use Rattle.array_model.proofs.Noting.{covers_before, losing_by, read_acts}
use Rattle.array_core.specs.Pool.{Goes, MayCommit}
use Rattle.array_core.proofs.Stripped.{strip_written, whole_written}
use Rattle.raid_laws.proofs.Calls.{raised_low}
use Rattle.sync_laws.specs.Steps.{MayStep, resynced, zeroed, Zeroes, zeroing}
use Rattle.sync_laws.proofs.Views.{next_shape as resynced_shape, whole_offset}
use Rattle.sync_laws.proofs.ZeroStaged.{IsYoung, zeroed_array}
use Rattle.raid_laws.specs.Frames.{frame_of}
use Rattle.raid_laws.specs.Moves.{IsHeeded, IsSet}
use Rattle.raid_laws.specs.Raid.{gone_in, is_failed, Raid}
use Rattle.raid_laws.proofs.Changed.{called, further, ViewsOne}
use Rattle.raid_laws.proofs.Noted.{gone_from}
use Rattle.raid_laws.proofs.Over.{over_still, someone_left}
use Rattle.raid_laws.proofs.Views.{IsNext, next_same, next_shape, views_next}
use Rattle.raid_laws.proofs.Whole.{heeded_gone, heeded_whole}
use Rattle.raid_laws.proofs.Written.{may_commit, opened}
use Rattle.transition_laws.specs.Changes.{changed, steps}
use Rattle.transition_laws.specs.Holds.{IsPromised, moved_to, Promise, Stands}
use Rattle.transition_laws.specs.Losses.{IsRunOf, MakesLosses}
use Rattle.transition_laws.specs.Makes.{Makes, makes_then}
use Rattle.transition_laws.proofs.ArraysFor.{IsLaid, laid_of}
use Rattle.transition_laws.proofs.ReadMakes.{keeps_noted, read_one_makes}
use Rattle.transition_laws.proofs.SteppedMakes.{idle_noted, step_noted}
use Rattle.transition_laws.proofs.ZeroMakes.{ZeroesOnce}
use Rattle.growth_laws.specs.Growing.{MakesTurn, zeroes}
use Rattle.growth_laws.proofs.RowMakes.{run_noted}
use Rattle.growth_laws.proofs.Steps.{MayBecome, stepped_other, stepped_own, stepped_set}
use Rattle.growth_laws.proofs.Turning.{turn_then}
use Rattle.growth_laws.proofs.Zeroed.{HasRowToZero, may_zero}
use Rattle.zero_laws.specs.Zeroing.{FitsZero}
use Rattle.zero_laws.proofs.NextRows.{zeroed_first, zeroed_shape, zeroing_shape}
use Rattle.zero_laws.proofs.ZeroTurn.{zeroes_makes, ZeroesYoung}

-- A call that zeroes so many rows of array m on the places `on`, or writes nothing.
pub record ZeroCall (v : Raid) (f : ℕ → View) (rows number m : ℕ) (a b : RackView) (on : List ℕ) (answered : Bool) : Type 0 where
  pub set : IsSet v a
  pub heeded : IsHeeded v
  pub has : HasRowToZero v m
  pub some : 0 < rows
  pub left : rows ≤ rows_of (v.arrays m) - first_unsynced (v.arrays m).truth
  pub others : (n : ℕ) → (n ≡ m → ⊥) → f n ≡ v.arrays n
  pub goes : Goes a b
  pub later : v.number ≤ number
  pub on_is : on ≡ current_places v.state
  pub few : (p : ℕ) → has_gone (f m) p ≡ true → p < 16
  pub zeroes : Zeroes (v.arrays m) (f m) rows v.number number on a b answered
  pub idle : zeroes.is_done ≡ false → OnlyReads a b

-- what a commit needs does not go by rows left to zero
zeroing_commit : (s : State) (u z : View) (number : ℕ) (on : List ℕ) (a : RackView) → u.marked ≡ false → shape_of (zeroing u) ≡ shape_of u → MayCommit s u z number on a
    → MayCommit s (zeroing u) (zeroing z) number on a
zeroing_commit s u z number on a unmarked same may =
    let renew = may.renew in
    let state = renew.state in
    record {
      renew = record {
        state = record {
          set = state.set;
          profile = state.profile;
          events = state.events;
          events_end = state.events_end;
          row = state.row;
          roles = state.roles;
          marks = state.marks;
        };
        fresh = renew.fresh;
        supers = renew.supers;
        rows = renew.rows;
        events = renew.events;
      };
      opened = subst (λ (sh : Shape). IsOpen sh u.number a) (sym same) may.opened;
      steady = λ marked. absurd (both_ways u.marked unmarked marked);
      log = may.log;
      room = may.room;
      places = may.places;
      someone = may.someone;
    }

module _ (v : Raid) (f : ℕ → View) (rows number m : ℕ) (a b : RackView) (on : List ℕ) (answered : Bool) (call : ZeroCall v f rows number m a b on answered) where
  low : m < v.state.made
  low = call.has.low

  -- a young array isn't whole, so no mark stands on it
  not_whole : is_whole_array (v.arrays m) ≡ true → ⊥
  not_whole whole =
      let u = v.arrays m in
      let rest = and_parts (list_all is_whole_seat u.seats) ((u.resync == rows_of u) && (not u.young && not (is_reshaping u.truth))) whole in
      let more = and_parts (u.resync == rows_of u) (not u.young && not (is_reshaping u.truth)) rest.1 in
      both_ways (not u.young) (ap not call.has.young) (and_parts (not u.young) (not (is_reshaping u.truth)) more.1).0

  unmarked : (v.arrays m).marked ≡ false
  unmarked = elim (cases_Bool (v.arrays m).marked) [
    | inr none ↦ none
    | inl marked ↦ absurd (not_whole (heeded_whole v m call.heeded (call.set.marked m low) marked))
  ]

  is_young : IsYoung (v.arrays m) rows
  is_young = record {
    is_array = (call.set.arrays m low).is_array;
    young = call.has.young;
    some = call.some;
    rows_left = let left = call.left in let row = call.has.row in omega (arith, left, row);
  }

  becomes : MayBecome v m (zeroed (v.arrays m) rows) a
  becomes = may_zero v m rows a call.set call.heeded call.has

  -- all its rows count for what is spent, before it and after it
  resync : (v.arrays m).resync ≡ rows_of (v.arrays m)
  resync =
      let most = is_young.is_array.synced in
      let least = (call.set.arrays m low).is_of_pool.zeroed call.has.young in
      omega (arith, most, least)

  -- what the call needs of the pool
  may_step : ViewsOne v f m a b → (p : Promise) → IsPromised p (called v f number) → (vals : ℕ → ℕ → Values) → Stands v v p vals a
      → MayStep v.state (zeroing (v.arrays m)) (resynced (zeroing (v.arrays m)) rows) (zeroing (f m)) v.number on a
  may_step views p promised vals stands =
      let u = v.arrays m in
      let same = zeroing_shape u in
      record {
        commit = zeroing_commit v.state u (f m) v.number on a unmarked same
            (may_commit v f number m p.one a b on call.set call.heeded views call.later call.on_is stands.one (promised.goes p.one promised.is_one stands.one) stands.slices
            (subst (λ g. LogInvariant v.state v.number g a) (λ i q. heeded_gone v call.heeded q i) stands.log));
        opened = subst (λ (sh : Shape). IsOpen sh u.number a) (sym (resynced_shape (zeroing u) rows ∙ same)) (opened v.state v.state.made m u a (call.set.arrays m low) stands.slices low);
        whole = whole_offset (zeroing u) rows;
      }

  log_after : LogInvariant v.state number (has_gone (f m)) b → LogInvariant v.state number (gone_in (called v f number)) b
  log_after kept = kept_more v.state number (has_gone (f m)) (gone_in (called v f number)) b (λ q went. gone_from (called v f number) q m (call.few q went) low went) kept

  -- ---- where it is done

  module _ (is : call.zeroes.is_done ≡ true) where
    noted : Notes (zeroed (v.arrays m) rows) (f m) a b
    noted = step_noted call.zeroes.is_done (v.arrays m) (zeroed (v.arrays m) rows) (f m) a b call.zeroes.view is

    is_next : IsNext v.state m (v.arrays m) (zeroed (v.arrays m) rows) a
    is_next = record {
      seated = becomes.seated;
      went = refl;
      sectors = refl;
      written = λ was. whole_written (v.arrays m).number (zeroed (v.arrays m) rows).truth (whole_offset (zeroing (v.arrays m)) rows) (strip_written (v.arrays m).number (v.arrays m).truth was);
      events = let pool = (call.set.arrays m low).is_of_pool in (raised_low (v.arrays m).truth.events pool.events pool.events_end).0;
      seats = omega arith;
      was = λ marked. absurd (both_ways false refl marked);
      whole = λ whole. absurd (not_whole whole);
    }

    -- what is spent stays so
    spares : (y : ℕ) → spent_in (f m) y ≡ false → spent_in (v.arrays m) y ≡ false
    spares y alive =
        let u = v.arrays m in
        let next = zeroed u rows in
        let was : spent_in next y ≡ false = covers_before next (f m) noted.lost (losing_by next (f m) a b noted) (spent_in (f m)) (λ x spared. spared) y alive in
        ap (λ r. spent_by (shape_of u) r y) resync ∙ subst (λ (sh : Shape). spent_by sh (rows_of u) y ≡ false) (zeroed_shape u rows) was

    views : ViewsOne v f m a b
    views = views_next v f m a b (zeroed (v.arrays m) rows) call.set low call.goes.stays is_next noted call.others spares

    still : (n : ℕ) → n < v.state.made → is_failed (called v f number) n ≡ false → is_failed v n ≡ false
    still n there goes = over_still v (called v f number) (further v f m a b call.set views number call.later) n there goes

    once : (vals : ℕ → ℕ → Values) → ZeroesOnce m rows v (called v f number) on vals a b answered
    once vals = record {
      low = low;
      same = refl;
      number = (call.set.arrays m low).number;
      is_array = is_young.is_array;
      young = call.has.young;
      call = call.zeroes;
      step = λ p promised stands. may_step views p promised vals stands;
      frame = ap frame_of noted.same.truth;
      moved = ap moved_to noted.same.truth;
      young_after = noted.same.young ∙ call.has.young;
      laid = subst IsLaid (sym noted.same.truth) (laid_of (zeroed (v.arrays m) rows) (zeroed_array (v.arrays m) rows is_young));
      more = let same = ap first_unsynced noted.same.truth in let first = zeroed_first (v.arrays m) rows is_young in omega (arith, same, first);
      others = call.others;
      goes = still;
      spares = λ y had alive. spares y alive;
    }

    young_zeroes : (vals : ℕ → ℕ → Values) → FitsZero v m a vals → ZeroesYoung m rows v (called v f number) on vals a b answered
    unfolding once
    young_zeroes vals fits = record {
      once = once vals;
      done = is;
      few = let there = low in let most = call.set.most in omega (arith, there, most);
      lasting = call.set.lasting;
      stays = call.goes.stays;
      marked = λ q current. heeded_gone v call.heeded q;
      someone = λ n goes. someone_left (called v f number) n goes;
      is_young = is_young;
      gone = log_after;
      written = views.written;
      lost = λ are. record {
        shape = sym (next_shape v f m a b (zeroed (v.arrays m) rows) call.set low call.goes.stays is_next noted are);
        frame = ap frame_of noted.same.truth;
        resync = noted.same.resync;
        young = noted.same.young;
      };
      fits = fits;
    }

    run_done : IsRunOf (changed (steps m (zeroed (v.arrays m) rows)) v) (called v f number)
    run_done =
        let next = zeroed (v.arrays m) rows in
        run_noted (changed (steps m next) v) f m number a b (stepped_set v m next a call.set call.heeded becomes) low call.goes.stays
        (λ n other. call.others n other ∙ sym (stepped_other v m next n other)) (subst (λ (u : View). Notes u (f m) a b) (sym (stepped_own v m next)) noted)

  -- ---- where it isn't done

  module _ (is : call.zeroes.is_done ≡ false) where
    as_before : Notes (v.arrays m) (f m) a b
    as_before = idle_noted call.zeroes.is_done (v.arrays m) (zeroed (v.arrays m) rows) (f m) a b call.zeroes.view is

    same_next : IsNext v.state m (v.arrays m) (v.arrays m) a
    same_next = next_same v.state m (v.arrays m) a (call.set.arrays m low)

    spares_still : (y : ℕ) → spent_in (f m) y ≡ false → spent_in (v.arrays m) y ≡ false
    spares_still = covers_before (v.arrays m) (f m) as_before.lost (losing_by (v.arrays m) (f m) a b as_before) (spent_in (f m)) (λ x spared. spared)

    views_still : ViewsOne v f m a b
    views_still = views_next v f m a b (v.arrays m) call.set low call.goes.stays same_next as_before call.others spares_still

    idle_makes : (vals : ℕ → ℕ → Values) → Makes [] v v (called v f number) vals vals a b
    idle_makes vals =
        let reads = call.idle is in
        read_one_makes m v v (called v f number) vals a b
        (record {
          lasting = call.set.lasting;
          reads = reads;
          state = refl;
          others = call.others;
          noted = keeps_noted (v.arrays m) (f m) as_before.same;
          written = views_still.written;
          shape = λ are. (λ q current. heeded_gone v call.heeded q, sym (next_shape v f m a b (v.arrays m) call.set low call.goes.stays same_next as_before are));
          kept = λ p promised stands. log_after (call.zeroes.kept v.state (may_step views_still p promised vals stands));
          holds = λ p promised stands spent covers holds.
              (read_acts a b (v.arrays m) (f m) call.set.lasting reads is_young.is_array as_before v.state (shape_of (v.arrays m)) (vals m) spent covers).holds holds;
          is_array = is_young.is_array;
          synced = f m;
          notes = as_before;
          same_shape = refl;
          same_went = refl;
          same_zeroed = λ young. refl;
          goes = λ n there goes. over_still v (called v f number) (further v f m a b call.set views_still number call.later) n there goes;
          someone = λ n goes. someone_left (called v f number) n goes;
          spares = spares_still;
        })

    run_idle : IsRunOf v (called v f number)
    run_idle = run_noted v f m number a b call.set low call.goes.stays call.others as_before

  -- ---- and the mending after it

  pub zero_turn : (w : Raid) (c : RackView) → ((d : Raid) → IsRunOf d (called v f number) → MakesLosses d (called v f number) w b c)
      → MakesTurn (zeroes m rows v) call.zeroes.is_done (FitsZero v m a) v w a c
  zero_turn w c losses = of call.zeroes.is_done refl
    where
      of : (d : Bool) → call.zeroes.is_done ≡ d → MakesTurn (steps m (zeroed (v.arrays m) rows)) d (FitsZero v m a) v w a c
      of true is =
          turn_then (steps m (zeroed (v.arrays m) rows)) (FitsZero v m a) v (called v f number) w a b c
          (λ vals fits. zeroes_makes m rows v (called v f number) on vals a b answered (young_zeroes is vals fits)) (losses (changed (steps m (zeroed (v.arrays m) rows)) v) (run_done is))
      of false is =
          let after = losses v (run_idle is) in
          record {
            before = [];
            after = after.changes;
            losses_before = tt;
            losses_after = after.losses;
            makes = λ vals fits. makes_then [] after.changes v v (called v f number) w vals vals vals a b c (idle_makes is vals) (after.makes vals);
          }
