-- Slices at rest on which nothing is pending, as calls find them though no gate was closed.
use Rattle.std.proofs.Common.{◌≡◌, ℕ, ◌<◌, Bool, true, false, nat_lt, if◌then◌else◌, List, [], Result, Some, Ok, Err, refl, sym, ap, subst, ◌∙◌, inl, inr, lt-ltb, arith}
use Rattle.std.specs.Result.{result_ok}
use Rattle.std.proofs.lemmas.Bool.{both_ways, cases_lt}
use Rattle.std.proofs.lemmas.Option.{none-some}
use Rattle.rack.specs.Values.{MayLeave}
use Rattle.rack.specs.Seen.{Image, RackView}
use Rattle.rack.specs.Targets.{look}
use Rattle.pool_state.specs.declared.contents.Copied.{Copied}
use Rattle.pool_state.specs.declared.contents.State.{State}
use Rattle.pool_state.specs.Sector.{decoded}
use Rattle.array_image.specs.Places.{log_slice, member_slice}
use Rattle.array_image.specs.Record.{pending}
use Rattle.array_image.specs.States.{copy_in, is_current}
use Rattle.array_image.specs.Arrays.{replayed}
use Rattle.array_image.specs.Left.{NothingPending, reading}
use Rattle.log_laws.specs.View.{LogView}
use Rattle.log_laws.specs.Standing.{LogsStand, StatesStand, deciding}
use Rattle.log_laws.specs.Commits.{Stands}
use Rattle.log_laws.specs.Opening.{CanReplay, StandsAmid}
use Rattle.log_laws.specs.Kept.{IsNoLater, LogInvariant}
use Rattle.log_laws.specs.AtRest.{CopiesAgree, Opened}
use Rattle.commit_log.proofs.Amid.{replayed_as}
use Rattle.log_laws.proofs.Counting.{decides_small}
use Rattle.log_laws.proofs.Epochs.{state_latest}
use Rattle.log_laws.proofs.Kept.{put_none}
use Rattle.commit_log.proofs.Replayable.{opened_can_replay}
use Rattle.raid_laws.specs.Raid.{Raid, gone_in}
use Rattle.raid_laws.specs.Opening.{OpensRaid}
use Rattle.raid_laws.proofs.Opening.{IsAtRest}

module _ (s : State) (l : LogView) (on : List ℕ) (a : RackView) (opened : Opened s s l on a) (idle : l.pending ≡ []) where
  -- what a stop leaves of the log slices is as a replay that has nothing to write leaves them
  amid : (c : Image) → LogsStand a c → StandsAmid l.pending a c
  amid c stand = record {
    states = record { picks = λ p live. inl (stand.picks p 0 live); inside = λ p none. stand.inside p 0 (omega (arith, none)) };
    parts = λ p k some live. stand.picks p k live;
    inside = stand.inside;
  }

  -- nothing is pending there
  pub none_pending : (c : Image) → LogsStand a c → pending (deciding c) c ≡ []
  none_pending c stand = (opened_can_replay s s l on a opened).same c (amid c stand) ∙ idle

  pub replays_nothing : (c : Image) (d k : ℕ) → LogsStand a c → replayed a.sectors c d k ≡ c d k
  unfolding look
  replays_nothing c d k stand = replayed_as a c [] d k (none_pending c stand) ∙ put_none a.sectors [] c d k refl

  -- nothing is pending for an array
  pub rest_closed : (n : ℕ) → NothingPending n a
  rest_closed n c picks place k = replays_nothing c (member_slice place n) k picks

  -- a sector of a log slice is what it reads
  reads : (p : ℕ) (u : List ℕ) → p < 16 → 0 < a.sectors (log_slice p) → MayLeave (a.held (log_slice p) 0) u → u ≡ reading a (log_slice p) 0
  reads p u few inside may =
      opened.rest.single p 0 few inside u may
      ∙ sym (ap (λ (b : Bool). if b then (a.held (log_slice p) 0).current else []) (lt-ltb 0 (a.sectors (log_slice p)) inside))

  ok_of : {X Y : Type 0} (r : Result X Y) (y : X) → result_ok r ≡ Some y → r ≡ Ok y
  ok_of (Ok z) y is = cc
  ok_of (Err why) y is = absurd (none-some y is)

  -- The log is as a commit finds it, where a current place has gone.
  pub still_kept : (gone : ℕ → Bool) → (p : ℕ) × (is_current s p ≡ true) × (gone p ≡ true)
      → ((p : ℕ) → is_current s p ≡ true → gone p ≡ false → 0 < a.sectors (log_slice p)) → CopiesAgree s gone a
      → LogInvariant s l.number gone a
  still_kept gone away there agree = record {
    logs = λ p k few inside. can.logs p k few inside;
    few = few_places;
    there = there;
    copies = record {
      own = λ p u current left may.
          let at = agree.own p current left in
          record {
            own = at.0;
            copy = ap decoded (reads p u (few_places p current) (there p current left) may) ∙ ok_of (decoded (reading a (log_slice p) 0)) _ at.1;
            drive = at.2;
          };
      others = no_later;
      earlier = λ p u copy small former inside may is. agree.earlier p copy small former (ap result_ok (ap decoded (sym (reads p u small inside may)) ∙ is));
    };
    numbers = λ p current within. can.numbers (reading a) now p (s, opened.rest.state, current) within;
    halves = λ c stand g is. can.number c (amid c stand) g is;
    whole = λ c stand. can.whole c (amid c (logs_of c stand));
    idle = λ c stand. inl (none_pending c stand);
    closed = λ all. absurd (both_ways (gone away.0) (all away.0 away.1) away.2);
    quiet = λ c stand d k left. replays_nothing c d k (logs_of c stand);
    brought = λ c p copy stand small within is.
        no_later p (c (log_slice p) 0) copy small within (stand.picks (log_slice p) 0 (can.logs p 0 small within))
        (subst (λ u. decoded u ≡ Ok copy) (replays_nothing c (log_slice p) 0 (logs_of c stand)) is);
  }
    where
      can : CanReplay l a
      can = opened_can_replay s s l on a opened

      few_places : (p : ℕ) → is_current s p ≡ true → p < 16
      few_places p current = decides_small (reading a) p (s, opened.rest.state, current)

      logs_of : (c : Image) → Stands a c → LogsStand a c
      logs_of c stand = record { picks = λ p k live. stand.picks (log_slice p) k live; inside = stand.inside }

      no_later : (p : ℕ) (u : List ℕ) (copy : Copied) → p < 16 → 0 < a.sectors (log_slice p) → MayLeave (a.held (log_slice p) 0) u → decoded u ≡ Ok copy → IsNoLater s copy
      no_later p u copy small inside may is =
          let here : copy_in (reading a) p ≡ Some copy = ap result_ok (ap decoded (sym (reads p u small inside may)) ∙ is) in
          let low = state_latest s (reading a) p copy opened.rest.state small here in
          elim (cases_lt copy.state.epoch s.epoch) [
            | inl less ↦ inl less
            | inr most ↦ inr (agree.same p copy small here (omega (arith, low, most)))
          ]

      now : StatesStand l.pending a (reading a)
      now = record {
        picks = λ p live. inl (inl (ap (λ (b : Bool). if b then (a.held (log_slice p) 0).current else []) (lt-ltb 0 (a.sectors (log_slice p)) live.sector)));
        inside = λ p none. ap (λ n. if nat_lt 0 n then (a.held (log_slice p) 0).current else []) none;
      }

-- Where a drive is absent no gate is closed: the slices hold the arrays as they are.
pub opens_still : (v : Raid) (l : LogView) (on : List ℕ) (a : RackView) → IsAtRest v l on a → (p : ℕ) × (is_current v.state p ≡ true) × (gone_in v p ≡ true) → OpensRaid v a
opens_still v l on a at away = record {
  few = at.few;
  log = subst (λ k. LogInvariant v.state k (gone_in v) a) (sym at.number) (still_kept v.state l on a at.opened at.idle (gone_in v) away at.there at.copies);
  someone = at.someone;
  slices = λ n place k below small inside. let made = at.made in at.opened.rest.live (member_slice place n) k (omega (arith, below, made, small)) inside;
  numbers = at.numbers;
  arrays = at.arrays;
}
