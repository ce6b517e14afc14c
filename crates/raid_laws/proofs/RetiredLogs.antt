-- Slices of which those of one place alone differ, where the place is current and is to get another drive: it has gone from then on. On its new
-- log slice a stop leaves no copy of a state, and a first gate. The logs are as a commit on the other places finds them.
use Rattle.std.proofs.Common.{◌≡◌, ◌≢◌, ℕ, ◌<◌, ◌≤◌, Bool, true, false, is_none, List, [], ◌∷◌, Ok, Some, None, refl, sym, ap, subst, ◌∙◌, inl, inr, arith}
use Rattle.std.specs.Option.{option_map_or}
use Rattle.std.proofs.lemmas.Bool.{both_ways, cases_eq, cases_lt}
use Rattle.std.proofs.lemmas.Option.{none-some}
use Rattle.rack.specs.Values.{MayLeave}
use Rattle.rack.specs.Seen.{Image, RackView, IsLive}
use Rattle.rack.specs.Targets.{Target, look, put}
use Rattle.pool_state.specs.declared.contents.Copied.{Copied}
use Rattle.pool_state.specs.declared.contents.State.{State}
use Rattle.pool_state.specs.Sector.{decoded}
use Rattle.array_image.specs.Arrays.{replayed}
use Rattle.array_image.specs.Places.{log_slice, place_of}
use Rattle.array_image.specs.Record.{Gate, gate_in, gate_of, gate_sector, is_bad_gate, damaged_log, pending, pending_at}
use Rattle.array_image.specs.States.{current_places, is_current, state_in}
use Rattle.array_image.proofs.Frames.{state_same}
use Rattle.array_image.proofs.Replays.{replayed_as_is}
use Rattle.log_laws.specs.Commits.{Stands}
use Rattle.log_laws.specs.Kept.{CopiesStand, HasClosedGate, IsNoLater, LogInvariant, MayJoin}
use Rattle.log_laws.specs.Standing.{IsNumbered, LogsStand, deciding}
use Rattle.commit_log.proofs.Amid.{no_gate_in_nothing}
use Rattle.commit_log.proofs.Committing.{off_log, on_log}
use Rattle.commit_log.proofs.Deciding.{nothing_pending}
use Rattle.log_laws.proofs.FirstGate.{closed_gate}
use Rattle.log_laws.proofs.Kept.{brought_state, kept_state, place_of_log, put_none}
use Rattle.commit_log.proofs.Restored.{restored, restored_there}
use Rattle.commit_log.proofs.Retired.{closed_none}
use Rattle.commit_log.proofs.Undamaged.{whole_from, whole_gates}
use Rattle.raid_laws.specs.Vacated.{DiffersAt}
use Rattle.raid_laws.specs.Enlisting.{IsNewLog}
use Rattle.raid_laws.proofs.Added.{names_current}
use Rattle.raid_laws.proofs.Own.{look_nothing}
use Rattle.raid_laws.proofs.ReseatedLogs.{live_now, logs_back, no_copy, no_targets, put_back, put_back_off, stands_back, stands_logs}

module _ (place : ℕ) (x y : RackView) (differs : DiffersAt place x y) (s : State) (number : ℕ) (gone now : ℕ → Bool) (kept : LogInvariant s number gone x)
    (was : is_current s place ≡ true) (all : (p : ℕ) → is_current s p ≡ true → gone p ≡ false)
    (went : now place ≡ true) (left : (p : ℕ) → now p ≡ false → gone p ≡ false)
    (someone : (p : ℕ) × (is_current s p ≡ true) × (now p ≡ false)) (new_log : IsNewLog place y) where
  away : (p : ℕ) → now p ≡ false → p ≢ place
  away p stays same = both_ways (now place) (ap now (sym same) ∙ stays) went

  log_away : (p : ℕ) → p ≢ place → place_of (log_slice p) ≢ place
  log_away p other same = other (sym (place_of_log p) ∙ same)

  logs_live : (p t : ℕ) → p < 16 → t < y.sectors (log_slice p) → IsLive y y (log_slice p) t
  logs_live p t few within = live_now place x y differs (log_slice p) t (λ was_there. kept.logs p t few was_there) within

  sectors_same : (p : ℕ) → p ≢ place → y.sectors (log_slice p) ≡ x.sectors (log_slice p)
  sectors_same p other = differs.sectors (log_slice p) (log_away p other)

  held_was : (p t : ℕ) (u : List ℕ) → p ≢ place → MayLeave (y.held (log_slice p) t) u → MayLeave (x.held (log_slice p) t) u
  held_was p t u other = subst (λ h. MayLeave h u) (differs.held (log_slice p) t (log_away p other))

  -- ---- copies of states

  old_copy : (p : ℕ) (u : List ℕ) (copy : Copied) → MayLeave (y.held (log_slice p) 0) u → decoded u ≡ Ok copy → p ≢ place
  old_copy p u copy may is same = no_copy u copy (new_log.state u (subst (λ q. MayLeave (y.held (log_slice q) 0) u) same may)) is

  old_others : (p : ℕ) (u : List ℕ) (copy : Copied) → p < 16 → 0 < y.sectors (log_slice p) → MayLeave (y.held (log_slice p) 0) u → decoded u ≡ Ok copy → IsNoLater s copy
  old_others p u copy few there may is =
      let other = old_copy p u copy may is in
      kept.copies.others p u copy few (subst (λ n. 0 < n) (sectors_same p other) there) (held_was p 0 u other may) is

  copies_now : CopiesStand s now y
  copies_now = record {
    own = λ p u current stays may. kept.copies.own p u current (left p stays) (held_was p 0 u (away p stays) may);
    others = old_others;
    earlier = λ p u copy few former there may is.
        let other = old_copy p u copy may is in
        kept.copies.earlier p u copy few former (subst (λ n. 0 < n) (sectors_same p other) there) (held_was p 0 u other may) is;
  }

  old_there : (p : ℕ) → is_current s p ≡ true → now p ≡ false → 0 < y.sectors (log_slice p)
  old_there p current stays = subst (λ n. 0 < n) (sym (sectors_same p (away p stays))) (kept.there p current (left p stays))

  -- contents have the state
  pub retired_state : (c : Image) → LogsStand y c → state_in c ≡ Some s
  retired_state c stand =
      let e : Image = restored off_log y c in
      let p = someone.0 in
      state_same c (put y.sectors [] e)
      (λ q. sym (put_none y.sectors [] e (log_slice q) 0 (look_nothing (log_slice q) 0) ∙ restored_there off_log y c (log_slice q) 0 (on_log q 0)))
      ∙ brought_state s s now [] [] y e p logs_live copies_now (no_targets s) (stands_logs y c stand) (kept.few p someone.1) (old_there p someone.1 someone.2)
      someone.1 someone.2 someone.1

  decided : (c : Image) → LogsStand y c → deciding c ≡ current_places s
  decided c stand = ap (λ o. option_map_or current_places o []) (retired_state c stand)

  -- ---- gates

  first_numbered : IsNumbered number y place
  first_numbered block may = (record { is_open = false; number = 0 }, ap gate_of (new_log.gate block may) ∙ closed_gate, omega arith)

  first_closed : HasClosedGate y place
  first_closed block gate may is = ap (λ o. option_map_or (λ (g : Gate). g.is_open) o false) (sym is ∙ ap gate_of (new_log.gate block may) ∙ closed_gate)

  -- the place may join
  pub retired_joins : gate_sector < y.sectors (log_slice place) → MayJoin number y place
  retired_joins there = record { few = kept.few place was; there = there; numbered = first_numbered; closed = first_closed }

  nothing_there : (c : Image) (p : ℕ) → LogsStand y c → y.sectors (log_slice p) ≤ gate_sector → gate_in c p ≡ None
  nothing_there c p stand past = ap gate_of (stand.inside p gate_sector past) ∙ no_gate_in_nothing

  picked : (c : Image) (p : ℕ) → LogsStand y c → is_current s p ≡ true → gate_sector < y.sectors (log_slice p) → MayLeave (y.held (log_slice p) gate_sector) (c (log_slice p) gate_sector)
  picked c p stand current there = stand.picks p gate_sector (logs_live p gate_sector (kept.few p current) there)

  gates_closed : (c : Image) (p : ℕ) (g : Gate) → LogsStand y c → is_current s p ≡ true → gate_in c p ≡ Some g → g.is_open ≡ false
  gates_closed c p g stand current is =
      elim (cases_lt gate_sector (y.sectors (log_slice p))) [
        | inr past ↦ absurd (none-some g (sym (nothing_there c p stand past) ∙ is))
        | inl there ↦
            let may = picked c p stand current there in
            elim (cases_eq p place) [
              | inl same ↦ first_closed (c (log_slice p) gate_sector) g (subst (λ q. MayLeave (y.held (log_slice q) gate_sector) (c (log_slice p) gate_sector)) same may) is
              | inr other ↦
                  kept.closed all p current (subst (λ n. gate_sector < n) (sectors_same p other) there) (c (log_slice p) gate_sector) g
                  (held_was p gate_sector (c (log_slice p) gate_sector) other may) is
            ]
      ]

  none_pending : (c : Image) → LogsStand y c → pending_at (current_places s) c ≡ None
  none_pending c stand = closed_none c (current_places s) (λ p g named is. gates_closed c p g stand (sym (names_current s p) ∙ named) is)

  pub retired_idle : (c : Image) → LogsStand y c → pending (deciding c) c ≡ []
  retired_idle c stand = ap (λ ps. pending ps c) (decided c stand) ∙ nothing_pending c (current_places s) (none_pending c stand)

  pub retired_as_is : (c : Image) (d t : ℕ) → LogsStand y c → replayed y.sectors c d t ≡ c d t
  retired_as_is c d t stand = replayed_as_is y.sectors c d t (ap (λ (xs : List Target). look xs d t) (retired_idle c stand) ∙ look_nothing d t)

  -- ---- no log is damaged

  logs_of_stands : (c : Image) → Stands y c → LogsStand y c
  logs_of_stands c stand = record { picks = λ p t live. stand.picks (log_slice p) t live; inside = stand.inside }

  decided_back : (c : Image) → LogsStand y c → deciding (put_back place x c) ≡ current_places s
  decided_back c stand =
      ap (λ o. option_map_or current_places o [])
      (kept_state s number gone x (put_back place x c) someone.0 kept (logs_back place x y differs c stand) someone.1 (left someone.0 someone.2))

  first_whole : (c : Image) → LogsStand y c → is_bad_gate c place ≡ false
  first_whole c stand =
      elim (cases_lt gate_sector (y.sectors (log_slice place))) [
        | inr past ↦ empty (c (log_slice place) gate_sector) (stand.inside place gate_sector past)
        | inl there ↦ formed (c (log_slice place) gate_sector) (ap gate_of (new_log.gate (c (log_slice place) gate_sector) (picked c place stand was there)) ∙ closed_gate)
      ]
    where
      empty : (block : List ℕ) → block ≡ [] → is_bad_gate (λ d t. block) place ≡ false
      empty block none = ap (λ (b : List ℕ). is_bad_gate (λ d t. b) place) none

      formed : (block : List ℕ) → gate_of block ≡ Some (record { is_open = false; number = 0 }) → is_bad_gate (λ d t. block) place ≡ false
      formed [] is = refl
      formed (byte ∷ bytes) is = ap is_none is

  pub retired_whole : (c : Image) → Stands y c → damaged_log (deciding c) c ≡ None
  retired_whole c stands =
      let stand = logs_of_stands c stands in
      let e : Image = put_back place x c in
      let before : damaged_log (current_places s) e ≡ None = subst (λ ps. damaged_log ps e ≡ None) (decided_back c stand) (kept.whole e (stands_back place x y differs c stands)) in
      subst (λ ps. damaged_log ps c ≡ None) (sym (decided c stand))
      (whole_from c (current_places s)
      (λ p named.
      elim (cases_eq p place) [
        | inl same ↦ ap (is_bad_gate c) same ∙ first_whole c stand
        | inr other ↦
            ap (λ (block : List ℕ). is_bad_gate (λ d t. block) p) (sym (put_back_off place x c (log_slice p) gate_sector (log_away p other)))
            ∙ whole_gates e (current_places s) p before named
      ])
      (λ a is. absurd (none-some a (sym (none_pending c stand) ∙ is))))

  -- what a commit on the others finds
  pub retired_logs : LogInvariant s number now y
  retired_logs = record {
    logs = logs_live;
    few = kept.few;
    there = old_there;
    copies = copies_now;
    numbers = λ p current there.
        elim (cases_eq p place) [
          | inl same ↦ subst (IsNumbered number y) (sym same) first_numbered
          | inr other ↦
              λ block may. kept.numbers p current (subst (λ n. gate_sector < n) (sectors_same p other) there) block (held_was p gate_sector block other may)
        ];
    halves = λ c stand a is. absurd (none-some a (sym (ap (λ ps. pending_at ps c) (decided c stand) ∙ none_pending c stand) ∙ is));
    whole = retired_whole;
    idle = λ c stand. inl (retired_idle c stand);
    closed = λ all_left. absurd (both_ways (now place) (all_left place was) went);
    quiet = λ c stands d t stays. retired_as_is c d t (logs_of_stands c stands);
    brought = λ c p copy stands few there is.
        old_others p (c (log_slice p) 0) copy few there (stands.picks (log_slice p) 0 (logs_live p 0 few there))
        (subst (λ u. decoded u ≡ Ok copy) (retired_as_is c (log_slice p) 0 (logs_of_stands c stands)) is);
  }
