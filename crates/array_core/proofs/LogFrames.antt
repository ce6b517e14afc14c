-- Calls that write no log slice keep what a log finds of them.
use Rattle.std.proofs.Common.{◌≡◌, ℕ, ◌<◌, false, List, [], None, Ok, refl, sym, ap, subst, ◌∙◌, inl, inr}
use Rattle.std.proofs.lemmas.Bool.{both_ways}
use Rattle.rack.specs.Values.{MayLeave, Keeps}
use Rattle.rack.specs.Seen.{Image, RackView, IsLive, SameRack}
use Rattle.rack.specs.Targets.{Target, look}
use Rattle.pool_state.specs.declared.contents.State.{State}
use Rattle.pool_state.specs.Sector.{decoded}
use Rattle.array_image.specs.Places.{log_slice}
use Rattle.array_image.specs.Record.{gate_sector, pending}
use Rattle.array_image.specs.Arrays.{replayed}
use Rattle.array_image.proofs.Replays.{replayed_as_is}
use Rattle.log_laws.specs.Standing.{LogsStand, deciding}
use Rattle.log_laws.specs.Commits.{Stands}
use Rattle.log_laws.specs.Kept.{LogInvariant}
use Rattle.commit_log.proofs.WholeLogs.{whole_logs}
use Rattle.array_model.proofs.Keeping.{live_on, live_after, logs_before}

pub look_nothing : (d t : ℕ) → look [] d t ≡ None
unfolding look
look_nothing d t = refl

pub kept_logs : (s : State) (number : ℕ) (a b : RackView) → a.lasting → SameRack a b
    → ((place t : ℕ) → IsLive a b (log_slice place) t → Keeps (a.held (log_slice place) t) (b.held (log_slice place) t))
    → LogInvariant s number (λ place. false) a → LogInvariant s number (λ place. false) b
kept_logs s number a b lasting stays keeps kept =
    let before : (p t : ℕ) (u : List ℕ) → p < 16 → t < a.sectors (log_slice p) → MayLeave (b.held (log_slice p) t) u → MayLeave (a.held (log_slice p) t) u =
    λ p t u few inside now. (keeps p t (live_on lasting stays (kept.logs p t few inside))).within u now in
    let logs : (c : Image) → LogsStand b c → LogsStand a c = λ c stand. logs_before lasting stays keeps c stand in
    let of : (c : Image) → Stands b c → LogsStand b c = λ c stand. record { picks = λ p t live. stand.picks (log_slice p) t live; inside = stand.inside } in
    let none : (c : Image) → LogsStand b c → pending (deciding c) c ≡ [] =
    λ c stand. elim (kept.idle c (logs c stand)) [ inl nothing ↦ nothing | inr one ↦ absurd (both_ways false refl one.2) ] in
    let same : (c : Image) → Stands b c → (d t : ℕ) → replayed b.sectors c d t ≡ c d t =
    λ c stand d t. replayed_as_is b.sectors c d t (ap (λ (xs : List Target). look xs d t) (none c (of c stand)) ∙ look_nothing d t) in
    record {
      logs = λ p t few inside. live_after stays (live_on lasting stays (kept.logs p t few (subst (λ n. t < n) (stays.sectors (log_slice p)) inside)));
      few = kept.few;
      there = λ p current left. subst (λ n. 0 < n) (sym (stays.sectors (log_slice p))) (kept.there p current left);
      copies = record {
        own = λ p u current left now. kept.copies.own p u current left (before p 0 u (kept.few p current) (kept.there p current left) now);
        others = λ p u copy few there now is.
            let inside = subst (λ n. 0 < n) (stays.sectors (log_slice p)) there in
            kept.copies.others p u copy few inside (before p 0 u few inside now) is;
        earlier = λ p u copy few former there now is.
            let inside = subst (λ n. 0 < n) (stays.sectors (log_slice p)) there in
            kept.copies.earlier p u copy few former inside (before p 0 u few inside now) is;
      };
      numbers = λ p current there v now.
          let inside = subst (λ n. 1 < n) (stays.sectors (log_slice p)) there in
          kept.numbers p current inside v (before p 1 v (kept.few p current) inside now);
      halves = λ c stand. kept.halves c (logs c stand);
      whole = λ c stand. whole_logs a kept.whole c (logs c (of c stand));
      idle = λ c stand. kept.idle c (logs c stand);
      closed = λ all p current there v g now.
          let inside = subst (λ n. gate_sector < n) (stays.sectors (log_slice p)) there in
          kept.closed all p current inside v g (before p gate_sector v (kept.few p current) inside now);
      quiet = λ c stand d t left. same c stand d t;
      brought = λ c p copy stand few there is.
          let inside = subst (λ n. 0 < n) (stays.sectors (log_slice p)) there in
          let live = live_after stays (live_on lasting stays (kept.logs p 0 few inside)) in
          let here = same c stand (log_slice p) 0 in
          kept.copies.others p (c (log_slice p) 0) copy few inside
          (before p 0 (c (log_slice p) 0) few inside (stand.picks (log_slice p) 0 live))
          (subst (λ u. decoded u ≡ Ok copy) here is);
    }
