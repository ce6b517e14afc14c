-- Slices at rest are as a commit needs them once open gates are closed, where drives may be absent.
use Rattle.std.proofs.Common.{◌≡◌, ◌⊎◌, ℕ, ◌<◌, Bool, true, false, nat_lt, if◌then◌else◌, List, [], Result, Some, None, Ok, Err, refl, sym, ap, subst, ◌∙◌, inl, inr, arith, lt-ltb}
use Rattle.std.specs.Result.{result_ok}
use Rattle.std.proofs.lemmas.Bool.{and_from, cases_Bool, cases_lt}
use Rattle.std.proofs.lemmas.Option.{none-some}
use Rattle.rack.specs.Values.{MayLeave}
use Rattle.rack.specs.Seen.{RackView}
use Rattle.rack.specs.Targets.{look}
use Rattle.pool_state.specs.declared.contents.Copied.{Copied}
use Rattle.pool_state.specs.declared.contents.State.{State}
use Rattle.pool_state.specs.Sector.{decoded}
use Rattle.array_image.specs.Places.{log_slice}
use Rattle.array_image.specs.Record.{Gate, gate_of, gate_sector}
use Rattle.array_image.specs.States.{copy_in, is_current}
use Rattle.array_image.specs.Left.{reading}
use Rattle.log_laws.specs.View.{LogView, names}
use Rattle.log_laws.specs.Standing.{StatesStand}
use Rattle.log_laws.specs.Opening.{ReplayCall}
use Rattle.log_laws.specs.Kept.{CopiesStand, HasClosedGate, LogInvariant}
use Rattle.log_laws.specs.AtRest.{AtRest, CopiesAgree, Opened}
use Rattle.log_laws.proofs.Counting.{decides_small}
use Rattle.log_laws.proofs.Epochs.{state_latest}
use Rattle.log_laws.proofs.Kept.{live_on}
use Rattle.commit_log.proofs.KeptReplayed.{kept_opened}
use Rattle.commit_log.proofs.Replayable.{names_left, opened_can_replay, opened_someone}

ok_of : {X Y : Type 0} (r : Result X Y) (x : X) → result_ok r ≡ Some x → r ≡ Ok x
ok_of (Ok y) x is = cc
ok_of (Err e) x is = absurd (none-some x is)

-- a sector of a log slice that has one value is what it reads
read_now : (s : State) (on : List ℕ) (x : RackView) (p : ℕ) (u : List ℕ) → AtRest s on x → p < 16 → 0 < x.sectors (log_slice p)
    → MayLeave (x.held (log_slice p) 0) u → u ≡ reading x (log_slice p) 0
read_now s on x p u rest few inside may =
    rest.single p 0 few inside u may
    ∙ sym (ap (λ (b : Bool). if b then (x.held (log_slice p) 0).current else []) (lt-ltb 0 (x.sectors (log_slice p)) inside))

copies_rest : (s : State) (on : List ℕ) (gone : ℕ → Bool) (x : RackView) → AtRest s on x
    → ((p : ℕ) → is_current s p ≡ true → gone p ≡ false → 0 < x.sectors (log_slice p))
    → CopiesAgree s gone x → CopiesStand s gone x
copies_rest s on gone x rest there agree =
    record {
      own = λ p u current left may.
          let at = agree.own p current left in
          record {
            own = at.0;
            copy =
                ap decoded (read_now s on x p u rest (decides_small (reading x) p (s, rest.state, current)) (there p current left) may)
                ∙ ok_of (decoded (reading x (log_slice p) 0)) _ at.1;
            drive = at.2;
          };
      others = λ p u copy small inside may is.
          let here : copy_in (reading x) p ≡ Some copy = ap result_ok (ap decoded (sym (read_now s on x p u rest small inside may)) ∙ is) in
          let low = state_latest s (reading x) p copy rest.state small here in
          elim (cases_lt copy.state.epoch s.epoch) [
            | inl less ↦ inl less
            | inr most ↦ inr (agree.same p copy small here (omega (arith, low, most)))
          ];
      earlier = λ p u copy small former inside may is.
          agree.earlier p copy small former (ap result_ok (ap decoded (sym (read_now s on x p u rest small inside may)) ∙ is));
    }

-- the places that are looked at have their gate
named_at : (s : State) (on : List ℕ) (x : RackView) → AtRest s on x → (p : ℕ) → is_current s p ≡ true → gate_sector < x.sectors (log_slice p) → names on p ≡ true
named_at s on x rest p current within =
    rest.places p ∙ and_from (is_current s p) (nat_lt 0 (x.sectors (log_slice p))) current (lt-ltb 0 (x.sectors (log_slice p)) (omega (arith, within)))

-- Where no gate that was read is open, those of current places are closed.
pub closed_rest : (s : State) (l : LogView) (on : List ℕ) (x : RackView) → Opened s s l on x → (l.is_open ≡ true → ⊥)
    → (p : ℕ) → is_current s p ≡ true → gate_sector < x.sectors (log_slice p) → HasClosedGate x p
closed_rest s l on x opened none p current within v g left is =
    let rest = opened.rest in
    let few : p < 16 = decides_small (reading x) p (s, rest.state, current) in
    let reads : v ≡ reading x (log_slice p) gate_sector =
    rest.single p gate_sector few within v left
    ∙ sym (ap (λ (b : Bool). if b then (x.held (log_slice p) gate_sector).current else []) (lt-ltb gate_sector (x.sectors (log_slice p)) within)) in
    elim (cases_Bool g.is_open) [
      | inr shut ↦ shut
      | inl is_open ↦
          absurd (none (opened.finds.open_is p g (names_left s on x p rest ∙ named_at s on x rest p current within) (ap gate_of (sym reads) ∙ is) is_open))
    ]

-- Where nothing is pending, closing the gates that are open leaves the log as the next commit needs it.
pub rest_kept : (s : State) (gone : ℕ → Bool) (l : LogView) (on : List ℕ) (one : ℕ) (a b : RackView)
    → Opened s s l on a → l.pending ≡ [] → names on one ≡ true → ReplayCall l on [] a b
    → ((p : ℕ) → is_current s p ≡ true → gone p ≡ false → 0 < a.sectors (log_slice p))
    → CopiesAgree s gone a
    → LogInvariant s l.number gone b
unfolding look
rest_kept s gone l on one a b opened idle named replay there agree =
    let rest = opened.rest in
    let can = opened_can_replay s s l on a opened in
    let few : (p : ℕ) → is_current s p ≡ true → p < 16 = λ p current. decides_small (reading a) p (s, rest.state, current) in
    let before = copies_rest s on gone a rest there agree in
    let same : (p : ℕ) (u : List ℕ) → p < 16 → 0 < a.sectors (log_slice p) → MayLeave (b.held (log_slice p) 0) u → MayLeave (a.held (log_slice p) 0) u =
    λ p u small inside may.
    (replay.apart (log_slice p) 0 (live_on rest.lasting replay.stays (can.logs p 0 small inside)) (λ shutting. let gate = shutting.gate in absurd (omega (arith, gate)))
    (ap (λ xs. look xs (log_slice p) 0) idle ∙ nothing (log_slice p))).within u may in
    let had : (p : ℕ) → 0 < b.sectors (log_slice p) → 0 < a.sectors (log_slice p) = λ p. subst (λ n. 0 < n) (replay.stays.sectors (log_slice p)) in
    kept_opened s gone l on a b replay can (opened_someone s s l on a one opened named) few there
    (λ p current within. can.numbers (reading a) stand p (s, rest.state, current) within)
    (λ p current within. named_at s on a rest p current within)
    (λ none p current within. closed_rest s l on a opened (λ is_open. none (inr is_open)) p current within)
    (record {
      own = λ p u current left may. before.own p u current left (same p u (few p current) (there p current left) may);
      others = λ p u copy small inside may is. before.others p u copy small (had p inside) (same p u small (had p inside) may) is;
      earlier = λ p u copy small former inside may is. before.earlier p u copy small former (had p inside) (same p u small (had p inside) may) is;
    })
  where
    nothing : (d : ℕ) → look [] d 0 ≡ None
    nothing d = refl

    stand : StatesStand l.pending a (reading a)
    stand = record {
      picks = λ p live. inl (inl (ap (λ (b : Bool). if b then (a.held (log_slice p) 0).current else []) (lt-ltb 0 (a.sectors (log_slice p)) live.sector)));
      inside = λ p none. ap (λ n. if nat_lt 0 n then (a.held (log_slice p) 0).current else []) none;
    }
