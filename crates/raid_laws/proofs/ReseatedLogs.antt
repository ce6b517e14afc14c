-- Slices of which those of one place alone differ, where the place isn't current: the logs are as a commit finds them. On its new log slice
-- a stop leaves no copy of a state.
use Rattle.std.proofs.Common.{◌≡◌, ◌≢◌, ℕ, ◌<◌, ◌≤◌, Bool, true, false, ◌==◌, if◌then◌else◌, List, [], Ok, Some, None, refl, sym, ap, subst, ◌∙◌, inl, inr, eq-eqb}
use Rattle.std.specs.Option.{option_map_or}
use Rattle.std.specs.Result.{result_ok}
use Rattle.std.proofs.lemmas.Bool.{both_ways, cases_eq, eqb-true, ne_eqb}
use Rattle.std.proofs.lemmas.Option.{none-some}
use Rattle.rack.specs.Values.{MayLeave}
use Rattle.rack.specs.Seen.{Image, RackView, IsLive}
use Rattle.rack.specs.Targets.{Target, look, put}
use Rattle.shr_base.specs.Blocks.{bytes_at, number_at}
use Rattle.pool_state.specs.declared.contents.Copied.{Copied}
use Rattle.pool_state.specs.declared.contents.State.{State}
use Rattle.pool_state.specs.Sector.{decoded}
use Rattle.array_image.specs.Arrays.{replayed}
use Rattle.array_image.specs.Left.{Picks, reading}
use Rattle.array_image.specs.Places.{log_slice, place_of, slice_of}
use Rattle.array_image.specs.Record.{GateAt, damaged_log, gate_sector, pending, pending_at, record_in, record_of}
use Rattle.array_image.specs.States.{current_places, is_current, state_in}
use Rattle.array_image.proofs.Frames.{state_same}
use Rattle.array_image.proofs.Replays.{replayed_as_is}
use Rattle.array_model.proofs.Keeping.{reading_live, reading_outside}
use Rattle.log_laws.specs.Commits.{Stands}
use Rattle.log_laws.specs.Kept.{CarriesState, CopiesStand, IsCopyOf, IsNoLater, LogInvariant}
use Rattle.log_laws.specs.Standing.{LogsStand, deciding}
use Rattle.log_laws.specs.View.{names}
use Rattle.commit_log.proofs.Amid.{log_of_place}
use Rattle.commit_log.proofs.Committing.{off_log, on_log}
use Rattle.log_laws.proofs.Kept.{brought_state, kept_idle, kept_state, place_of_log, put_none}
use Rattle.commit_log.proofs.Replayable.{pending_named}
use Rattle.commit_log.proofs.Restored.{pending_at_by, pending_by, restored, restored_inside, restored_picks, restored_there}
use Rattle.commit_log.proofs.Undamaged.{whole_by}
use Rattle.raid_laws.specs.NewDrive.{no_state}
use Rattle.raid_laws.specs.Vacated.{DiffersAt}
use Rattle.raid_laws.proofs.Added.{names_current}
use Rattle.raid_laws.proofs.Over.{not_false}
use Rattle.raid_laws.proofs.Own.{look_nothing}

-- contents with the place's slices as they read before
abbrev pub put_back : ℕ → RackView → Image → Image
put_back place x c = λ d t. if place_of d == place then reading x d t else c d t

pub put_back_off : (place : ℕ) (x : RackView) (c : Image) (d t : ℕ) → place_of d ≢ place → put_back place x c d t ≡ c d t
put_back_off place x c d t other = ap (λ b. if b then reading x d t else c d t) (ne_eqb (place_of d) place other)

put_back_on : (place : ℕ) (x : RackView) (c : Image) (d t : ℕ) → place_of d ≡ place → put_back place x c d t ≡ reading x d t
put_back_on place x c d t same = ap (λ b. if b then reading x d t else c d t) (eq-eqb (place_of d) place same)

-- zeros say no state
zeros_say_none : result_ok (decoded no_state) ≡ None
unfolding number_at bytes_at
zeros_say_none = refl

pub no_copy : (u : List ℕ) (copy : Copied) → u ≡ no_state → decoded u ≡ Ok copy → ⊥
no_copy u copy zeros is = none-some copy (sym (ap (λ v. result_ok (decoded v)) zeros ∙ zeros_say_none) ∙ ap result_ok is)

-- no target, on no place
pub no_targets : (s : State) → CarriesState s s [] []
unfolding look
no_targets s = record {
  current = λ p is. is;
  left = λ p named. absurd (both_ways false refl named);
  inside = λ p none. absurd (both_ways false refl none);
  either = inl (refl, λ p. refl);
}

-- contents whose log slices stand, as such contents of all slices
pub stands_logs : (x : RackView) (c : Image) → LogsStand x c → Stands x (restored off_log x c)
stands_logs x c stand = record {
  picks = restored_picks off_log x c (λ d t live here.
      let slice : slice_of d ≡ 0 = eqb-true (slice_of d) 0 (not_false (slice_of d == 0) here) in
      subst (λ k. MayLeave (x.held k t) (c k t)) (log_of_place d slice)
      (stand.picks (place_of d) t (subst (λ k. IsLive x x k t) (sym (log_of_place d slice)) live)));
  inside = restored_inside off_log x c (λ p t past. on_log p t) stand.inside;
}

module _ (place : ℕ) (x y : RackView) (differs : DiffersAt place x y) where
  -- a sector of it, or of another place
  pub live_now : (d t : ℕ) → ((t < x.sectors d → IsLive x x d t)) → t < y.sectors d → IsLive y y d t
  live_now d t was within =
      elim (cases_eq (place_of d) place) [
        | inl same ↦ differs.own d t same within
        | inr other ↦ differs.live d t other (was (subst (λ n. t < n) (differs.sectors d other) within))
      ]

  pick_back : (c : Image) (d t : ℕ) → IsLive x x d t → (IsLive y y d t → MayLeave (y.held d t) (c d t)) → MayLeave (x.held d t) (put_back place x c d t)
  pick_back c d t live left =
      elim (cases_eq (place_of d) place) [
        | inl same ↦ inl (put_back_on place x c d t same ∙ reading_live x d t live)
        | inr other ↦
            subst (MayLeave (x.held d t)) (sym (put_back_off place x c d t other))
            (subst (λ h. MayLeave h (c d t)) (differs.held d t other) (left (differs.live d t other live)))
      ]

  inside_back : (c : Image) (d t : ℕ) → x.sectors d ≤ t → (y.sectors d ≤ t → c d t ≡ []) → put_back place x c d t ≡ []
  inside_back c d t past none =
      elim (cases_eq (place_of d) place) [
        | inl same ↦ put_back_on place x c d t same ∙ reading_outside x d t past
        | inr other ↦ put_back_off place x c d t other ∙ none (subst (λ n. n ≤ t) (sym (differs.sectors d other)) past)
      ]

  pub picks_back : (c : Image) → Picks y c → Picks x (put_back place x c)
  picks_back c picks = record {
    picks = λ d t live. pick_back c d t live (picks.picks d t);
    inside = λ d t past. inside_back c d t past (picks.inside d t);
  }

  pub logs_back : (c : Image) → LogsStand y c → LogsStand x (put_back place x c)
  logs_back c stand = record {
    picks = λ p t live. pick_back c (log_slice p) t live (stand.picks p t);
    inside = λ p t past. inside_back c (log_slice p) t past (stand.inside p t);
  }

  pub stands_back : (c : Image) → Stands y c → Stands x (put_back place x c)
  stands_back c stand = record {
    picks = λ d t live. pick_back c d t live (stand.picks d t);
    inside = λ p t past. inside_back c (log_slice p) t past (stand.inside p t);
  }

  module _ (s : State) (number : ℕ) (gone : ℕ → Bool) (kept : LogInvariant s number gone x) (missing : is_current s place ≡ false)
      (someone : (p : ℕ) × (is_current s p ≡ true) × (gone p ≡ false)) (all : (p : ℕ) → is_current s p ≡ true → gone p ≡ false)
      (cleared : 0 < y.sectors (log_slice place) → (v : List ℕ) → MayLeave (y.held (log_slice place) 0) v → v ≡ no_state) where
    away : (p : ℕ) → is_current s p ≡ true → p ≢ place
    away p current same = both_ways (is_current s p) (subst (λ q. is_current s q ≡ false) (sym same) missing) current

    log_away : (p : ℕ) → p ≢ place → place_of (log_slice p) ≢ place
    log_away p other same = other (sym (place_of_log p) ∙ same)

    pub logs_live : (p t : ℕ) → p < 16 → t < y.sectors (log_slice p) → IsLive y y (log_slice p) t
    logs_live p t few within = live_now (log_slice p) t (λ was. kept.logs p t few was) within

    -- a copy of a place's log slice is one from before
    old_copy : (p : ℕ) (u : List ℕ) (copy : Copied) → 0 < y.sectors (log_slice p) → MayLeave (y.held (log_slice p) 0) u → decoded u ≡ Ok copy
        → (p ≢ place) × MayLeave (x.held (log_slice p) 0) u
    old_copy p u copy there left is =
        elim (cases_eq p place) [
          | inl same ↦ absurd (no_copy u copy (cleared (subst (λ q. 0 < y.sectors (log_slice q)) same there) u (subst (λ q. MayLeave (y.held (log_slice q) 0) u) same left)) is)
          | inr other ↦ (other, subst (λ h. MayLeave h u) (differs.held (log_slice p) 0 (log_away p other)) left)
        ]

    old_sector : (p : ℕ) → p ≢ place → 0 < y.sectors (log_slice p) → 0 < x.sectors (log_slice p)
    old_sector p other there = subst (λ n. 0 < n) (differs.sectors (log_slice p) (log_away p other)) there

    old_own : (p : ℕ) (u : List ℕ) → is_current s p ≡ true → gone p ≡ false → MayLeave (y.held (log_slice p) 0) u → IsCopyOf s p u
    old_own p u current left may = kept.copies.own p u current left (subst (λ h. MayLeave h u) (differs.held (log_slice p) 0 (log_away p (away p current))) may)

    old_others : (p : ℕ) (u : List ℕ) (copy : Copied) → p < 16 → 0 < y.sectors (log_slice p) → MayLeave (y.held (log_slice p) 0) u
        → decoded u ≡ Ok copy → IsNoLater s copy
    old_others p u copy few there left is =
        let old = old_copy p u copy there left is in
        kept.copies.others p u copy few (old_sector p old.0 there) old.1 is

    old_there : (p : ℕ) → is_current s p ≡ true → gone p ≡ false → 0 < y.sectors (log_slice p)
    old_there p current left = subst (λ n. 0 < n) (sym (differs.sectors (log_slice p) (log_away p (away p current)))) (kept.there p current left)

    copies_now : CopiesStand s gone y
    copies_now = record {
      own = old_own;
      others = old_others;
      earlier = λ p u copy few current there left is.
          let old = old_copy p u copy there left is in
          kept.copies.earlier p u copy few current (old_sector p old.0 there) old.1 is;
    }

    -- both contents have the state
    pub state_now : (c : Image) → LogsStand y c → state_in c ≡ Some s
    state_now c stand =
        let e : Image = restored off_log y c in
        let p = someone.0 in
        state_same c (put y.sectors [] e)
        (λ q. sym (put_none y.sectors [] e (log_slice q) 0 (look_nothing (log_slice q) 0) ∙ restored_there off_log y c (log_slice q) 0 (on_log q 0)))
        ∙ brought_state s s gone [] [] y e p logs_live copies_now (no_targets s) (stands_logs y c stand) (kept.few p someone.1) (old_there p someone.1 someone.2)
        someone.1 someone.2 someone.1

    decided_now : (c : Image) → LogsStand y c → deciding c ≡ current_places s
    decided_now c stand = ap (λ o. option_map_or current_places o []) (state_now c stand)

    decided_back : (c : Image) → LogsStand y c → deciding (put_back place x c) ≡ current_places s
    decided_back c stand =
        ap (λ o. option_map_or current_places o []) (kept_state s number gone x (put_back place x c) someone.0 kept (logs_back c stand) someone.1 someone.2)

    -- the places that decide have the same logs
    logs_same : (c : Image) (p t : ℕ) → names (current_places s) p ≡ true → c (log_slice p) t ≡ put_back place x c (log_slice p) t
    logs_same c p t named = sym (put_back_off place x c (log_slice p) t (log_away p (away p (sym (names_current s p) ∙ named))))

    records_same : (c : Image) (a : GateAt) → pending_at (current_places s) (put_back place x c) ≡ Some a
        → record_in c a.place a.gate.number ≡ record_in (put_back place x c) a.place a.gate.number
    records_same c a is =
        let named = (pending_named (current_places s) (put_back place x c) a is).0 in
        ap (record_of a.gate.number) (λ i t. logs_same c a.place t named i)

    pub idle_now : (c : Image) → LogsStand y c → pending (deciding c) c ≡ []
    idle_now c stand =
        ap (λ ps. pending ps c) (decided_now c stand)
        ∙ pending_by c (put_back place x c) (current_places s) (λ p named. logs_same c p gate_sector named) (records_same c)
        ∙ ap (λ ps. pending ps (put_back place x c)) (sym (decided_back c stand))
        ∙ kept_idle s number gone x (put_back place x c) kept (logs_back c stand) all

    -- so replaying changes nothing
    pub as_is_now : (c : Image) (d t : ℕ) → LogsStand y c → replayed y.sectors c d t ≡ c d t
    as_is_now c d t stand = replayed_as_is y.sectors c d t (ap (λ (xs : List Target). look xs d t) (idle_now c stand) ∙ look_nothing d t)

    logs_of_stands : (c : Image) → Stands y c → LogsStand y c
    logs_of_stands c stand = record { picks = λ p t live. stand.picks (log_slice p) t live; inside = stand.inside }

    pub logs_kept : LogInvariant s number gone y
    logs_kept = record {
      logs = logs_live;
      few = kept.few;
      there = old_there;
      copies = copies_now;
      numbers = λ p current there v left.
          let off = log_away p (away p current) in
          kept.numbers p current (subst (λ n. gate_sector < n) (differs.sectors (log_slice p) off) there) v
          (subst (λ h. MayLeave h v) (differs.held (log_slice p) gate_sector off) left);
      halves = λ c stand a is.
          kept.halves (put_back place x c) (logs_back c stand) a
          (ap (λ ps. pending_at ps (put_back place x c)) (decided_back c stand)
          ∙ sym (pending_at_by c (put_back place x c) (current_places s) (λ p named. logs_same c p gate_sector named))
          ∙ ap (λ ps. pending_at ps c) (sym (decided_now c stand)) ∙ is);
      whole = λ c stands.
          let stand = logs_of_stands c stands in
          subst (λ ps. damaged_log ps c ≡ None) (sym (decided_now c stand))
          (whole_by c (put_back place x c) (current_places s) (λ p named. logs_same c p gate_sector named) (records_same c)
          (subst (λ ps. damaged_log ps (put_back place x c) ≡ None) (decided_back c stand) (kept.whole (put_back place x c) (stands_back c stands))));
      idle = λ c stand. inl (idle_now c stand);
      closed = λ all_left p current there v g left.
          let off = log_away p (away p current) in
          kept.closed all_left p current (subst (λ n. gate_sector < n) (differs.sectors (log_slice p) off) there) v g
          (subst (λ h. MayLeave h v) (differs.held (log_slice p) gate_sector off) left);
      quiet = λ c stands d t left. as_is_now c d t (logs_of_stands c stands);
      brought = λ c p copy stands few there is.
          old_others p (c (log_slice p) 0) copy few there (stands.picks (log_slice p) 0 (logs_live p 0 few there))
          (subst (λ u. decoded u ≡ Ok copy) (as_is_now c (log_slice p) 0 (logs_of_stands c stands)) is);
    }
