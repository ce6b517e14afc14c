-- A commit on the other places, over slices in which a current place has another drive's already: while its record doesn't count, contents say by the slices
-- before what contents said that a stop before the commit might leave. There the place has its old drive, which isn't written.
use Rattle.std.proofs.Common.{◌≡◌, ◌≢◌, ℕ, ◌<◌, ◌≤◌, ◌==◌, Bool, true, false, if◌then◌else◌, List, [], Some, None, sym, ap, subst, ◌∙◌, inl, inr, eq-eqb, arith}
use Rattle.std.specs.Option.{option_map_or}
use Rattle.std.proofs.lemmas.Bool.{cases_eq, ne_eqb}
use Rattle.rack.specs.Values.{MayLeave}
use Rattle.rack.specs.Seen.{Image, RackView}
use Rattle.rack.specs.Targets.{Target, look}
use Rattle.pool_state.specs.declared.contents.State.{State}
use Rattle.array_image.specs.Arrays.{replayed}
use Rattle.array_image.specs.Left.{Picks}
use Rattle.array_image.specs.Places.{log_slice, place_of}
use Rattle.array_image.specs.Record.{Gate, damaged_log, gate_in, gate_of, gate_sector, pending}
use Rattle.array_image.specs.States.{current_places, is_current, state_in}
use Rattle.array_image.proofs.Frames.{state_same}
use Rattle.array_image.proofs.Replays.{replayed_as_is}
use Rattle.array_model.proofs.Keeping.{logs_of}
use Rattle.log_laws.specs.Commits.{IsPendingYet, Stands}
use Rattle.log_laws.specs.Kept.{LogInvariant}
use Rattle.log_laws.specs.Standing.{IsAlike, IsWhole, LogsStand, StatesStand, deciding}
use Rattle.log_laws.proofs.FirstGate.{closed_gate}
use Rattle.log_laws.proofs.Kept.{brings_none, brings_to, kept_idle, place_of_log, stands_latest}
use Rattle.commit_log.proofs.Retired.{pending_retired, whole_retired}
use Rattle.raid_laws.specs.Vacated.{AgreesOff, DiffersAt, IsFormerly}
use Rattle.raid_laws.specs.Enlisting.{HasNoCopy, IsNewLog}
use Rattle.raid_laws.proofs.Own.{look_nothing}
use Rattle.raid_laws.proofs.ReseatedLogs.{no_copy}
use Rattle.raid_laws.proofs.RetiredLogs.{retired_as_is, retired_idle, retired_logs, retired_state}

module _ (place : ℕ) (x y : RackView) (differs : DiffersAt place x y) (s : State) (number : ℕ) (gone now : ℕ → Bool) (kept : LogInvariant s number gone x)
    (was : is_current s place ≡ true) (all : (p : ℕ) → is_current s p ≡ true → gone p ≡ false)
    (went : now place ≡ true) (left : (p : ℕ) → now p ≡ false → gone p ≡ false)
    (someone : (p : ℕ) × (is_current s p ≡ true) × (now p ≡ false)) (new_log : IsNewLog place y)
    (room : gate_sector < x.sectors (log_slice place)) (room_now : gate_sector < y.sectors (log_slice place))
    (c e : Image) (agrees : AgreesOff place x c e) (former : IsFormerly place y e) where
  log_away : (p : ℕ) → p ≢ place → place_of (log_slice p) ≢ place
  log_away p away here = away (sym (place_of_log p) ∙ here)

  as_is : (i : Image) (d k : ℕ) → LogsStand y i → replayed y.sectors i d k ≡ i d k
  as_is i d k = retired_as_is place x y differs s number gone now kept was all went left someone new_log i d k

  stands_logs : (i : Image) → Stands y i → LogsStand y i
  stands_logs i stand = record { picks = λ p k live. stand.picks (log_slice p) k live; inside = stand.inside }

  kept_now : LogInvariant s number now y
  kept_now = retired_logs place x y differs s number gone now kept was all went left someone new_log

  abbrev yet : IsPendingYet y e
  yet = former.yet

  -- ---- nothing is pending, by the slices before or after

  idle_e : pending (deciding e) e ≡ []
  idle_e = yet.same ∙ retired_idle place x y differs s number gone now kept was all went left someone new_log yet.before (stands_logs yet.before yet.stands)

  state_e : state_in e ≡ Some s
  state_e = state_same e yet.before yet.copies ∙ retired_state place x y differs s number gone now kept was all went left someone new_log yet.before (stands_logs yet.before yet.stands)

  -- so by those after they say the state before, replayed or not
  pub replayed_e : state_in (replayed y.sectors e) ≡ Some s
  replayed_e =
      state_same (replayed y.sectors e) e (λ p. replayed_as_is y.sectors e (log_slice p) 0 (ap (λ (xs : List Target). look xs (log_slice p) 0) idle_e ∙ look_nothing (log_slice p) 0))
      ∙ state_e

  states_c : StatesStand [] x c
  states_c = record {
    picks = λ p live.
        inl (elim (cases_eq p place) [
          | inl here ↦ agrees.own (log_slice p) 0 (place_of_log p ∙ here) live
          | inr away ↦
              let off = log_away p away in
              subst (MayLeave (x.held (log_slice p) 0)) (sym (agrees.same (log_slice p) 0 off ∙ yet.copies p))
              (subst (λ h. MayLeave h (yet.before (log_slice p) 0)) (differs.held (log_slice p) 0 off) (yet.stands.picks (log_slice p) 0 (differs.live (log_slice p) 0 off live)))
        ]);
    inside = λ p none. agrees.inside (log_slice p) 0 (omega (arith, none));
  }

  pub state_c : state_in c ≡ Some s
  state_c =
      elim (stands_latest s s number gone [] [] [] x c someone.0 kept.logs kept.copies (brings_to s s number x [] [] (brings_none s)) states_c
      (kept.few someone.0 someone.1) (kept.there someone.0 someone.1 (left someone.0 someone.2)) someone.1 (left someone.0 someone.2)) [
        | inl is ↦ is.0
        | inr is ↦ is.0
      ]

  decided_c : deciding c ≡ current_places s
  decided_c = ap (λ o. option_map_or current_places o []) state_c

  decided_e : deciding e ≡ current_places s
  decided_e = ap (λ o. option_map_or current_places o []) state_e

  old_gate : (g : Gate) × (gate_in c place ≡ Some g) × (g.is_open ≡ false)
  old_gate =
      let may = agrees.own (log_slice place) gate_sector (place_of_log place) (kept.logs place gate_sector (kept.few place was) room) in
      let at = kept.numbers place was room (c (log_slice place) gate_sector) may in
      (at.0, at.1, kept.closed all place was room (c (log_slice place) gate_sector) at.0 may at.1)

  new_gate : gate_in e place ≡ Some (record { is_open = false; number = 0 })
  new_gate =
      ap gate_of (new_log.gate (e (log_slice place) gate_sector) (former.gate (kept_now.logs place gate_sector (kept.few place was) room_now))) ∙ closed_gate

  pub idle_c : pending (deciding c) c ≡ []
  idle_c =
      ap (λ ps. pending ps c) decided_c
      ∙ elim (pending_retired c e place (λ p k away. agrees.same (log_slice p) k (log_away p away)) old_gate.0 old_gate.1 old_gate.2 new_gate (current_places s)) [
        | inl none ↦ none
        | inr alike ↦ alike ∙ ap (λ ps. pending ps e) (sym decided_e) ∙ idle_e
      ]

  pub as_is_c : (d k : ℕ) → replayed x.sectors c d k ≡ c d k
  as_is_c d k = replayed_as_is x.sectors c d k (ap (λ (xs : List Target). look xs d k) idle_c ∙ look_nothing d k)

  -- and no log is damaged by the slices before
  pub whole_c : IsWhole c
  whole_c =
      subst (λ ps. damaged_log ps c ≡ None) (sym decided_c)
      (whole_retired c e place (λ p k away. agrees.same (log_slice p) k (log_away p away)) old_gate.0 old_gate.1 old_gate.2 new_gate (current_places s)
      (subst (λ ps. damaged_log ps e ≡ None) decided_e former.whole))

  -- ---- contents from before

  back : Image
  back = λ d k. if place_of d == place then c d k else former.before d k

  back_off : (d k : ℕ) → place_of d ≢ place → back d k ≡ former.before d k
  unfolding back
  back_off d k away = ap (λ b. if b then c d k else former.before d k) (ne_eqb (place_of d) place away)

  back_on : (d k : ℕ) → place_of d ≡ place → back d k ≡ c d k
  unfolding back
  back_on d k here = ap (λ b. if b then c d k else former.before d k) (eq-eqb (place_of d) place here)

  back_picks : Picks x back
  back_picks = record {
    picks = λ d k live. elim (cases_eq (place_of d) place) [
      | inl here ↦ subst (MayLeave (x.held d k)) (sym (back_on d k here)) (agrees.own d k here live)
      | inr away ↦
          subst (MayLeave (x.held d k)) (sym (back_off d k away))
          (subst (λ h. MayLeave h (former.before d k)) (differs.held d k away) (former.picks.picks d k (differs.live d k away live)))
    ];
    inside = λ d k past. elim (cases_eq (place_of d) place) [
      | inl here ↦ back_on d k here ∙ agrees.inside d k past
      | inr away ↦ back_off d k away ∙ former.picks.inside d k (subst (λ n. n ≤ k) (sym (differs.sectors d away)) past)
    ];
  }

  as_is_back : (d k : ℕ) → replayed x.sectors back d k ≡ back d k
  as_is_back d k =
      replayed_as_is x.sectors back d k
      (ap (λ (xs : List Target). look xs d k) (kept_idle s number gone x back kept (logs_of back back_picks) all) ∙ look_nothing d k)

  alike : IsAlike (replayed x.sectors c) (replayed x.sectors back)
  alike d k outside =
      as_is_c d k
      ∙ elim (cases_eq (place_of d) place) [
        | inl here ↦ sym (back_on d k here)
        | inr away ↦
            agrees.same d k away
            ∙ sym (replayed_as_is y.sectors e d k (ap (λ (xs : List Target). look xs d k) idle_e ∙ look_nothing d k))
            ∙ former.alike d k outside ∙ as_is former.before d k (logs_of former.before former.picks) ∙ sym (back_off d k away)
      ]
      ∙ sym (as_is_back d k)

  -- the new drive has no copy of a state
  pub bare_e : HasNoCopy place e
  bare_e copy is =
      no_copy (e (log_slice place) 0) copy
      (new_log.state (e (log_slice place) 0)
      (subst (MayLeave (y.held (log_slice place) 0)) (sym (yet.copies place))
      (yet.stands.picks (log_slice place) 0 (kept_now.logs place 0 (kept.few place was) (omega (arith, room_now)))))) is

  -- By the slices before, contents are as some that a stop before the commit might leave.
  pub retired_before : (i : Image) × Picks x i × IsAlike (replayed x.sectors c) (replayed x.sectors i)
  retired_before = (back, back_picks, alike)
