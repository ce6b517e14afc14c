-- The cleaning of an array, where its superblocks are written, and losses after it.
use Rattle.std.proofs.Common.{◌≡◌, ◌⊎◌, ℕ, ◌<◌, true, false, ◌∷◌, refl, sym, ap, subst, ◌∙◌, inl, inr, arith, ◌||◌, []}
use Rattle.std.proofs.lemmas.Bool.{both_ways, cases_eq}
use Rattle.rack.specs.Values.{Values}
use Rattle.rack.specs.Seen.{RackView}
use Rattle.log_laws.specs.Kept.{LogInvariant}
use Rattle.log_laws.proofs.KeptAfter.{kept_more}
use Rattle.array_model.specs.ArrayCalls.{IncludesSpent}
use Rattle.array_model.specs.Members.{IsSameButSeats, Notes}
use Rattle.array_model.specs.View.{View}
use Rattle.array_model.proofs.Views.{either_of, loses_then, same_view_then}
use Rattle.array_core.specs.Pool.{MayRenew}
use Rattle.array_core.specs.Settling.{IsCleaned, IsSynced}
use Rattle.array_core.specs.Superblocks.{left_offset, raised, settled}
use Rattle.raid_laws.specs.Frames.{frame_of}
use Rattle.raid_laws.specs.Moves.{IsSet}
use Rattle.raid_laws.specs.Raid.{gone_in, Raid}
use Rattle.raid_laws.proofs.Calls.{may_settle, settled_notes}
use Rattle.raid_laws.proofs.Changed.{called, further, keeps_arrays, marked_before, more_gone}
use Rattle.raid_laws.proofs.Cleaned.{CleanCall}
use Rattle.raid_laws.proofs.Over.{IsFurther, over_still, someone_left}
use Rattle.raid_laws.proofs.Seated.{view_with}
use Rattle.raid_laws.proofs.Views.{NotesOne, views_notes}
use Rattle.raid_laws.proofs.Whole.{heeded_gone}
use Rattle.raid_laws.proofs.Written.{may_renew}
use Rattle.transition_laws.specs.Changes.{changed, steps}
use Rattle.transition_laws.specs.Holds.{IsPromised, Promise, spent_at, Stands}
use Rattle.transition_laws.specs.Losses.{IsRunArray, IsRunOf, MakesLosses}
use Rattle.transition_laws.specs.Makes.{Makes, makes_then}
use Rattle.transition_laws.proofs.RenewMakes.{renew_makes, settled_renewed, settled_shape}
use Rattle.transition_laws.proofs.ReadMakes.{keeps_noted, read_log, read_one_makes}
use Rattle.transition_laws.proofs.RunsOf.{run_loses, run_of_itself}
use Rattle.transition_laws.proofs.SettledMakes.{settled_sectors}
use Rattle.transition_laws.proofs.Shown.{spent_other}
use Rattle.growth_laws.specs.Growing.{MakesClean}
use Rattle.growth_laws.proofs.Steps.{notes_views, stepped_other, stepped_own}
use Rattle.growth_laws.proofs.Turning.{turn_then}

module _ (v : Raid) (f : ℕ → View) (m : ℕ) (a b : RackView) (set : IsSet v a) (call : CleanCall v f m a b) (one : NotesOne v f m a b) where
  low : m < v.state.made
  low = call.low

  still : IsFurther v (called v f v.number)
  still = further v f m a b set one.views v.number (omega arith)

  may : (p : Promise) → IsPromised p (called v f v.number) → (vals : ℕ → ℕ → Values) → Stands v v p vals a → MayRenew v.state (v.arrays m) a
  may p promised vals stands =
      may_renew v a m p.one set call.heeded low stands.slices (over_still v (called v f v.number) still p.one stands.one (promised.goes p.one promised.is_one stands.one))

  -- ---- where nothing is written

  module _ (done : IsSynced call.view.synced (f m) a b) where
    as_before : Notes (v.arrays m) (f m) a b
    as_before = subst (λ (k : View). Notes (v.arrays m) k a b) (sym done.same) call.view.notes

    read_makes : (vals : ℕ → ℕ → Values) → Makes [] v v (called v f v.number) vals vals a b
    read_makes vals =
        read_one_makes m v v (called v f v.number) vals a b
        (record {
          lasting = set.lasting;
          reads = done.reads;
          state = refl;
          others = call.others;
          noted = keeps_noted (v.arrays m) (f m) as_before.same;
          written = one.views.written;
          shape = λ are. (marked_before v f m a b set one.views are, sym (one.loses.shape are));
          kept = λ p promised stands. read_log v v (called v f v.number) a b set.lasting done.reads refl (more_gone v f m a b set one.views) stands.log;
          holds = λ p promised stands spent covers. (call.cleans (vals m) spent covers (may p promised vals stands)).holds;
          is_array = (set.arrays m low).is_array;
          synced = f m;
          notes = as_before;
          same_shape = refl;
          same_went = refl;
          same_zeroed = λ young. refl;
          goes = λ n there goes. over_still v (called v f v.number) still n there goes;
          someone = λ n goes. someone_left (called v f v.number) n goes;
          spares = one.views.spent;
        })

    read_run : IsRunOf v (called v f v.number)
    read_run =
        run_loses v v (called v f v.number) refl (λ n there. keeps_arrays v f m a b set one.views one.loses n there)
        (λ n there. elim (cases_eq n m) [
          | inl same ↦ subst (λ k. left_offset (f k) ≡ left_offset (v.arrays k)) (sym same) (ap left_offset (view_with (v.arrays m) (f m) as_before.same))
          | inr other ↦ ap left_offset (call.others n other)
        ])
        (run_of_itself v a set)

  -- ---- where superblocks are

  module _ (now : IsCleaned call.view.synced (f m) a b) where
    noted : IsSameButSeats (settled (v.arrays m)) (f m)
    noted =
        same_view_then (settled (v.arrays m)) (settled call.view.synced) (f m) (settled_notes (v.arrays m) call.view.synced a b call.view.notes).same now.notes.same

    written_makes : (v.arrays m).young ≡ false → (vals : ℕ → ℕ → Values) → Makes (steps m (settled (v.arrays m)) ∷ []) v v (called v f v.number) vals vals a b
    written_makes grown vals =
        renew_makes m (settled (v.arrays m)) v (called v f v.number) vals a b
        (record {
          few = let there = low in let most = set.most in omega (arith, there, most);
          low = low;
          lasting = set.lasting;
          stays = call.goes.stays;
          marked = λ q current. heeded_gone v call.heeded q;
          others = call.others;
          same = refl;
          back = λ p promised. record {
            is_one = promised.is_one;
            goes = λ n live there. over_still v (called v f v.number) still n there (promised.goes n live there);
            covers = λ n live there. elim (cases_eq n m) [
              | inl same ↦ subst (λ k. IncludesSpent (v.arrays k) (spent_at p k (v.arrays k))) (sym same) (λ y alive.
                  one.views.spent y
                  (promised.covers m (subst (λ k. p.live k ≡ true) same live) low y
                  (spent_other p m (f m) (v.arrays m)
                  (λ z. (keeps_noted (settled (v.arrays m)) (f m) noted).sectors z ∙ settled_sectors (v.arrays m) (let small = (set.arrays m low).is_array.small in small) z) y
                  ∙ alive)))
              | inr other ↦ subst (λ (u : View). IncludesSpent u (spent_at p n u)) (call.others n other) (promised.covers n live there)
            ];
          };
          someone = λ n goes. someone_left (called v f v.number) n goes;
          acts = λ p promised stands spent covers. call.cleans (vals m) spent covers (may p promised vals stands);
          truths = λ p promised stands spent covers. call.truths (vals m) spent covers (may p promised vals stands);
          kept = λ p promised stands.
              kept_more v.state v.number (λ q. false) (gone_in (called v f v.number)) b (λ q none. absurd (both_ways false refl none))
              (call.kept (subst (λ g. LogInvariant v.state v.number g a) (λ i q. heeded_gone v call.heeded q i) stands.log));
          number = (set.arrays m low).number;
          grown = grown;
          renewed = settled_renewed (v.arrays m) (set.arrays m low).is_array;
          noted = noted;
          written = one.views.written;
          lost = λ are. record {
            shape = sym (one.loses.shape are) ∙ sym (settled_shape (v.arrays m));
            frame = ap frame_of noted.truth;
            resync = noted.resync;
            young = noted.young;
          };
        })

    written_run : IsRunOf (changed (steps m (settled (v.arrays m))) v) (called v f v.number)
    written_run = record {
      same = refl;
      arrays = λ n there.
          let at = (run_of_itself v a set).arrays in
          elim (cases_eq n m) [
            | inl same ↦
                subst (λ k. IsRunArray v.state ((changed (steps m (settled (v.arrays m))) v).arrays k) (f k)) (sym same)
                (subst (λ u. IsRunArray v.state u (f m)) (sym (stepped_own v m (settled (v.arrays m))))
                (let only = one.loses.only in
                let g = only.same.geometry in
                let own = at m low in
                record {
                  only = record {
                    same = record {
                      number = only.same.number;
                      geometry = record { set = g.set; level = g.level; size = g.size; disks = g.disks; roles = g.roles; features = g.features; position = g.position };
                      devices = only.same.devices;
                      resync = only.same.resync;
                      young = only.same.young;
                    };
                    seats = only.seats;
                  };
                  count = own.count;
                  missing = own.missing;
                  left = ap left_offset (view_with (settled (v.arrays m)) (f m) noted);
                }))
            | inr other ↦
                subst (λ u. IsRunArray v.state u (f n)) (sym (stepped_other v m (settled (v.arrays m)) n other))
                (subst (IsRunArray v.state (v.arrays n)) (sym (call.others n other)) (at n there))
          ];
    }

-- what was noted in both parts
both_notes : (u z w : View) (a b : RackView) → Notes u z a b → Notes z w a b → Notes u w a b
both_notes u z w a b first last = record {
  same = same_view_then u z w first.same last.same;
  lost = λ p. last.lost p || first.lost p;
  loses = loses_then u z w first.lost last.lost first.same.truth first.loses last.loses;
  cause = λ p is. elim (either_of (last.lost p) (first.lost p) is) [ inl late ↦ last.cause p late | inr early ↦ first.cause p early ];
}

module _ (v : Raid) (f : ℕ → View) (m : ℕ) (a b : RackView) (set : IsSet v a) (call : CleanCall v f m a b) where
  one_read : IsSynced call.view.synced (f m) a b → NotesOne v f m a b
  one_read done = notes_views v f m a b set call.low call.goes.stays call.others (subst (λ (k : View). Notes (v.arrays m) k a b) (sym done.same) call.view.notes)

  one_written : IsCleaned call.view.synced (f m) a b → NotesOne v f m a b
  one_written now =
      let seated = set.arrays m call.low in
      views_notes v f m a b (raised (v.arrays m).truth.events) (left_offset (v.arrays m)) false set call.low call.goes.stays call.others
      (may_settle v.state (v.arrays m) seated.is_array seated.is_of_pool) (λ marked. absurd (both_ways false refl marked))
      (both_notes (settled (v.arrays m)) (settled call.view.synced) (f m) a b (settled_notes (v.arrays m) call.view.synced a b call.view.notes) now.notes)

  pub clean_turn : (w : Raid) (c : RackView) → ((d : Raid) → IsRunOf d (called v f v.number) → MakesLosses d (called v f v.number) w b c) → MakesClean m v w a c
  clean_turn w c losses = of call.view.either
    where
      of : IsSynced call.view.synced (f m) a b ⊎ IsCleaned call.view.synced (f m) a b → MakesClean m v w a c
      of (inl done) =
          let after = losses v (read_run v f m a b set call (one_read done) done) in (
            false,
            record {
              before = [];
              after = after.changes;
              losses_before = tt;
              losses_after = after.losses;
              makes = λ vals fits. makes_then [] after.changes v v (called v f v.number) w vals vals vals a b c (read_makes v f m a b set call (one_read done) done vals) (after.makes vals);
            },
          )
      of (inr now) = (
        true,
        turn_then (steps m (settled (v.arrays m))) (λ vals. (v.arrays m).young ≡ false) v (called v f v.number) w a b c (λ vals grown. written_makes v f m a b set call (one_written now) now grown vals)
            (losses (changed (steps m (settled (v.arrays m))) v) (written_run v f m a b set call (one_written now) now)),
      )
