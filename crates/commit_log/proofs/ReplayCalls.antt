-- A replay from its two parts: the targets are written, and then the gates closed.
use Rattle.std.proofs.Common.{◌≡◌, ◌⊎◌, ℕ, ◌<◌, ◌≤◌, Bool, true, false, List, [], length, Some, refl, sym, ap, subst, ◌∙◌, inl, inr, arith}
use Rattle.rack.specs.Values.{MayLeave}
use Rattle.rack.specs.Seen.{Image, RackView, IsLive, IsPick, SameRack}
use Rattle.rack.specs.Moments.{Leaves}
use Rattle.rack.specs.Targets.{Target}
use Rattle.rack.specs.Joins.{stays_same, live_first, live_second, leaves_weaker, leaves_then}
use Rattle.rack.specs.Sequences.{IsPayload}
use Rattle.rack.proofs.Phases.{payload_none}
use Rattle.array_image.specs.Places.{place_of, log_slice, log_sectors}
use Rattle.array_image.specs.Record.{gate_sector, gate_of}
use Rattle.log_laws.specs.View.{LogView, names, in_order}
use Rattle.log_laws.specs.Standing.{IsLogPart, IsInside, LogsStand, SomeoneDecides}
use Rattle.log_laws.specs.Commits.{Stands, Rests}
use Rattle.log_laws.specs.Phases.{Calls, Settles, IsLogOf, IsWanted, IsTargeted, AllLeft, IsClosing}
use Rattle.log_laws.specs.Opening.{CanReplay, Replays, StandsReplaying, HasWork, IsShut, IsShutting, ReplayCall}
use Rattle.log_laws.proofs.Calling.{calls_weaker, calls_then, calls_none}
use Rattle.commit_log.proofs.Amid.{slice_of_log, log_of_place}
use Rattle.commit_log.proofs.Story.{log_named, named_log, log_is_slice, payload_is, payload_look, valid_apart, each_no_other}
use Rattle.commit_log.proofs.Since.{live_to, live_between}
use Rattle.commit_log.proofs.Committing.{off_log, rests_by_logs, off_log_pick, on_log, has_of_place}
use Rattle.commit_log.proofs.Restored.{restored, restored_there}
use Rattle.commit_log.proofs.Replaying.{IsSound, can_sound, IsClosed, IsAmid, HavePayloads, replaying_of, replays_of, rests_amid}

pub shuts_all : {a b : RackView} (l : LogView) (went now : ℕ → Bool) (on : List ℕ) (block : List ℕ) → HasWork l
    → Settles a b (IsLogOf on (length on)) (IsClosing went on block) (IsClosing went on block) went now
    → Settles a b (IsLogOf on (length on)) (IsShut l went on block) (IsShut l went on block) went now
shuts_all l went now on block work settles = record {
  calls = calls_weaker _ _ _ (IsShut l went on block) went now (λ d is. is) (λ d s v is. (work, is)) settles.calls;
  durable = λ d s w v live here is left. settles.durable d s w v live here is.1 left;
}

pub shuts_none : (a : RackView) (l : LogView) (went : ℕ → Bool) (on : List ℕ) (block : List ℕ) → a.fit → (HasWork l → ⊥)
    → Settles a a (IsLogOf on (length on)) (IsShut l went on block) (IsShut l went on block) went went
shuts_none a l went on block fit none = record {
  calls = calls_none a (IsLogOf on (length on)) (IsShut l went on block) went fit;
  durable = λ d s w v live here is left. absurd (none is.0);
}

-- what a replay's calls did
pub record Replayed (l : LogView) (on lost : List ℕ) (closed : List ℕ) (a t b : RackView) (w0 w1 w2 : ℕ → Bool) : Type 0 where
  pub writes : Settles a t (IsTargeted l.pending) (IsPayload l.pending) (IsWanted a l.pending) w0 w1
  pub closes : Settles t b (IsLogOf on (length on)) (IsShut l w1 on closed) (IsShut l w1 on closed) w1 w2
  pub closed_is : gate_of closed ≡ Some (record { is_open = false; number = l.number })
  pub sized : length closed ≡ 512
  pub logs : (p : ℕ) → names on p ≡ true → (p < 16) × (a.sectors (log_slice p) ≡ log_sectors)
  pub lost_are : (p : ℕ) → names lost p ≡ w2 p
  pub ordered : lost ≡ in_order lost
  pub none_before : AllLeft w0
  pub disks : a.disks ≡ 272

-- ---- all calls as one

abbrev IsCalled : LogView → List ℕ → ℕ → Type 0
IsCalled l on d = IsLogOf on (length on) d ⊎ IsTargeted l.pending d

abbrev MayWrite : LogView → (ℕ → Bool) → List ℕ → List ℕ → ℕ → ℕ → List ℕ → Type 0
MayWrite l went on closed d s v = IsPayload l.pending d s v ⊎ IsShut l went on closed d s v

calls_of : (l : LogView) (on lost : List ℕ) (closed : List ℕ) (a t b : RackView) (w0 w1 w2 : ℕ → Bool) → Replayed l on lost closed a t b w0 w1 w2
    → Calls a b (IsCalled l on) (MayWrite l w1 on closed) w0 w2
calls_of l on lost closed a t b w0 w1 w2 done =
    calls_then (IsCalled l on) (MayWrite l w1 on closed) w0 w1 w2
    (calls_weaker _ (IsCalled l on) _ (MayWrite l w1 on closed) w0 w1 (λ d is. inr is) (λ d s v is. inl is) done.writes.calls)
    (calls_weaker _ (IsCalled l on) _ (MayWrite l w1 on closed) w1 w2 (λ d is. inl is) (λ d s v is. inr is) done.closes.calls)

-- what is closed is a gate of `on`
shutting : (l : LogView) (went : ℕ → Bool) (on : List ℕ) (closed : List ℕ) (d s : ℕ) (v : List ℕ) → IsShut l went on closed d s v → IsShutting l on d s
shutting l went on closed d s v shuts = record {
  work = shuts.0;
  named = log_named on (length on) d (omega arith) shuts.1.1.disk;
  slice = sym (log_of_place d (log_is_slice on (length on) d shuts.1.1.disk));
  gate = shuts.1.1.there;
}

-- ---- what stands at each moment

-- a target is no part of the log, and of targets that differ a payload is the last
target_other : (l : LogView) (d s : ℕ) (v : List ℕ) → IsSound l.pending → IsPayload l.pending d s v → IsLogPart d s → ⊥
target_other l d s v sound is part =
    let has = payload_look l.pending d s v is in
    valid_apart l.pending d s has.0 sound.valid has.1 part

amid_at_targets : (l : LogView) (closed : List ℕ) (a : RackView) (c : Image) → CanReplay l a → IsInside a.sectors c
    → ((d s : ℕ) → IsLive a a d s → MayLeave (a.held d s) (c d s) ⊎ IsPayload l.pending d s (c d s)) → IsAmid l closed a c
amid_at_targets l closed a c can inside mix =
    let sound : IsSound l.pending = can_sound l a can in
    let log : (p s : ℕ) → 0 < s → IsLive a a (log_slice p) s → MayLeave (a.held (log_slice p) s) (c (log_slice p) s) =
    λ p s some live.
    elim (mix (log_slice p) s live) [
      | inl old ↦ old
      | inr new ↦ absurd (target_other l (log_slice p) s (c (log_slice p) s) sound new (slice_of_log p, some))
    ] in
    record {
      inside = inside;
      parts = λ p s some more live. log p s some live;
      gates = λ p live. inl (log p gate_sector (omega arith) live);
      others = λ d s live other. elim (mix d s live) [ inl old ↦ inl old | inr new ↦ inr (payload_is l.pending d s (c d s) sound.apart new) ];
    }

-- contents that the writing of the targets left, but for gates that were closed
abbrev IsEnding : LogView → List ℕ → List ℕ → RackView → RackView → (ℕ → Bool) → Image → Type 0
IsEnding l on closed a t w1 c = (d s : ℕ) → IsLive a a d s → MayLeave (t.held d s) (c d s) ⊎ IsShut l w1 on closed d s (c d s)

-- where gates are closed all targets were written
ending_written : (l : LogView) (on lost : List ℕ) (closed : List ℕ) (a t b : RackView) (w0 w1 w2 : ℕ → Bool) (c : Image) → Replayed l on lost closed a t b w0 w1 w2
    → CanReplay l a → IsEnding l on closed a t w1 c → AllLeft w1 → HavePayloads a l.pending c
ending_written l on lost closed a t b w0 w1 w2 c done can ending all d s w is there =
    let live : IsLive a a d s = can.targets d s w is there in
    let sound : IsSound l.pending = can_sound l a can in
    elim (ending d s live) [
      | inl left ↦ done.writes.durable d s w (c d s) (live_to d s done.writes.calls.only.stays can.lasting live) (all (place_of d)) ((live.disk, there), is) left
      | inr shuts ↦ absurd (each_no_other on closed d s (c d s) (valid_apart l.pending d s w sound.valid is) shuts.1.1)
    ]

amid_at_end : (l : LogView) (on lost : List ℕ) (closed : List ℕ) (a t b : RackView) (w0 w1 w2 : ℕ → Bool) (c : Image) → Replayed l on lost closed a t b w0 w1 w2
    → CanReplay l a → IsInside a.sectors c → IsEnding l on closed a t w1 c → IsAmid l closed a c
amid_at_end l on lost closed a t b w0 w1 w2 c done can inside ending =
    let sound : IsSound l.pending = can_sound l a can in
    let mix : (d s : ℕ) → IsLive a a d s → (MayLeave (a.held d s) (c d s) ⊎ IsPayload l.pending d s (c d s)) ⊎ IsShut l w1 on closed d s (c d s) =
    λ d s live.
    elim (ending d s live) [
      | inr shuts ↦ inr shuts
      | inl left ↦
          elim (done.writes.calls.only.within d s (c d s) (live_to d s done.writes.calls.only.stays can.lasting live) left) [
            | inl old ↦ inl (inl old)
            | inr new ↦ inl (inr new.1)
          ]
    ] in
    record {
      inside = inside;
      parts = λ p s some more live.
          elim (mix (log_slice p) s live) [
            | inr shuts ↦ absurd (more shuts.1.1.there)
            | inl held ↦ log_part sound p s some held
          ];
      gates = λ p live.
          elim (mix (log_slice p) gate_sector live) [
            | inr shuts ↦ inr (record { gate = shuts.1.1.value; written = ending_written l on lost closed a t b w0 w1 w2 c done can ending shuts.1.0 })
            | inl held ↦ inl (log_part sound p gate_sector (omega arith) held)
          ];
      others = λ d s live other.
          elim (mix d s live) [
            | inr shuts ↦ absurd (each_no_other on closed d s (c d s) other shuts.1.1)
            | inl held ↦ elim held [ inl old ↦ inl old | inr new ↦ inr (payload_is l.pending d s (c d s) sound.apart new) ]
          ];
    }
  where
    log_part : IsSound l.pending → (p s : ℕ) → 0 < s → MayLeave (a.held (log_slice p) s) (c (log_slice p) s) ⊎ IsPayload l.pending (log_slice p) s (c (log_slice p) s)
        → MayLeave (a.held (log_slice p) s) (c (log_slice p) s)
    log_part sound p s some held =
        elim held [
          | inl old ↦ old
          | inr new ↦ absurd (target_other l (log_slice p) s (c (log_slice p) s) sound new (slice_of_log p, some))
        ]

-- what a stop after the call leaves
ending_after : (l : LogView) (on lost : List ℕ) (closed : List ℕ) (a t b : RackView) (w0 w1 w2 : ℕ → Bool) (c : Image) → Replayed l on lost closed a t b w0 w1 w2
    → CanReplay l a → ((d s : ℕ) → IsLive a a d s → MayLeave (b.held d s) (c d s)) → IsEnding l on closed a t w1 c
ending_after l on lost closed a t b w0 w1 w2 c done can picks d s live =
    elim (done.closes.calls.only.within d s (c d s) (live_between d s done.writes.calls.only.stays done.closes.calls.only.stays can.lasting live) (picks d s live)) [
      | inl left ↦ inl left
      | inr new ↦ inr new.1
    ]

-- where nobody went all gates are closed
shut_after : (l : LogView) (on lost : List ℕ) (closed : List ℕ) (a t b : RackView) (w0 w1 w2 : ℕ → Bool) (c : Image) → Replayed l on lost closed a t b w0 w1 w2
    → CanReplay l a → ((d s : ℕ) → IsLive a a d s → MayLeave (b.held d s) (c d s))
    → HasWork l → lost ≡ [] → (p : ℕ) → names on p ≡ true → IsClosed l closed a c p
shut_after l on lost closed a t b w0 w1 w2 c done can picks work none p named =
    let left2 : AllLeft w2 = λ q. sym (done.lost_are q) ∙ ap (λ ps. names ps q) none in
    let left1 : AllLeft w1 = λ q. done.closes.calls.still q (left2 q) in
    let log = done.logs p named in
    let live : IsLive a a (log_slice p) gate_sector = can.logs p gate_sector log.0 (omega (arith, log.1)) in
    record {
      gate =
          done.closes.durable (log_slice p) gate_sector closed (c (log_slice p) gate_sector)
          (live_between (log_slice p) gate_sector done.writes.calls.only.stays done.closes.calls.only.stays can.lasting live)
          (left2 (place_of (log_slice p)))
          (work, (left1, record { disk = named_log on p named; there = refl; value = refl })) (picks (log_slice p) gate_sector live);
      written = ending_written l on lost closed a t b w0 w1 w2 c done can (ending_after l on lost closed a t b w0 w1 w2 c done can picks) left1;
    }

-- ---- the clauses

amid_leaves : (l : LogView) (on lost : List ℕ) (closed : List ℕ) (a t b : RackView) (w0 w1 w2 : ℕ → Bool) → Replayed l on lost closed a t b w0 w1 w2
    → a.traced → CanReplay l a → Leaves a b (λ c. IsInside a.sectors c → IsAmid l closed a c)
amid_leaves l on lost closed a t b w0 w1 w2 done traced can =
    let P : Image → Type 0 = λ c. IsInside a.sectors c → IsAmid l closed a c in
    let to_t : SameRack a t = done.writes.calls.only.stays in
    leaves_then P
    (leaves_weaker _ P
    (λ c mix inside.
    amid_at_targets l closed a c can inside
    (λ d s live. elim (mix d s (live_to d s to_t can.lasting live)) [ inl old ↦ inl old | inr new ↦ inr new.1 ]))
    (done.writes.calls.only.stops traced))
    (leaves_weaker _ P
    (λ c mix inside.
    amid_at_end l on lost closed a t b w0 w1 w2 c done can inside
    (λ d s live. elim (mix d s (live_between d s to_t done.closes.calls.only.stays can.lasting live)) [ inl old ↦ inl old | inr new ↦ inr new.1 ]))
    (done.closes.calls.only.stops (to_t.traced traced)))

stops_of : (l : LogView) (on lost : List ℕ) (closed : List ℕ) (a t b : RackView) (w0 w1 w2 : ℕ → Bool) → Replayed l on lost closed a t b w0 w1 w2
    → a.traced → CanReplay l a → Leaves a b (λ c. IsInside a.sectors c → Replays a c)
stops_of l on lost closed a t b w0 w1 w2 done traced can =
    leaves_weaker (λ c. IsInside a.sectors c → IsAmid l closed a c) (λ c. IsInside a.sectors c → Replays a c)
    (λ c amid inside. replays_of l closed a c can (amid inside) done.closed_is)
    (amid_leaves l on lost closed a t b w0 w1 w2 done traced can)

midway_of : (l : LogView) (on lost : List ℕ) (closed : List ℕ) (a t b : RackView) (w0 w1 w2 : ℕ → Bool) → Replayed l on lost closed a t b w0 w1 w2
    → a.traced → CanReplay l a → Leaves a b (λ c. IsInside a.sectors c → StandsReplaying l.pending a c)
midway_of l on lost closed a t b w0 w1 w2 done traced can =
    leaves_weaker (λ c. IsInside a.sectors c → IsAmid l closed a c) (λ c. IsInside a.sectors c → StandsReplaying l.pending a c)
    (λ c amid inside. replaying_of l closed a c done.disks can (amid inside) done.closed_is)
    (amid_leaves l on lost closed a t b w0 w1 w2 done traced can)

after_of : (l : LogView) (on lost : List ℕ) (closed : List ℕ) (a t b : RackView) (w0 w1 w2 : ℕ → Bool) (c : Image) → Replayed l on lost closed a t b w0 w1 w2
    → SameRack a b → CanReplay l a → Stands b c → IsAmid l closed a c
after_of l on lost closed a t b w0 w1 w2 c done stays can stands =
    amid_at_end l on lost closed a t b w0 w1 w2 c done can
    (λ p s past. stands.inside p s (subst (λ n. n ≤ s) (sym (stays.sectors (log_slice p))) past))
    (ending_after l on lost closed a t b w0 w1 w2 c done can
    (λ d s live. stands.picks d s (live_between d s stays (stays_same b stays.fit) can.lasting live)))

rests_of : (l : LogView) (on lost : List ℕ) (closed : List ℕ) (a t b : RackView) (w0 w1 w2 : ℕ → Bool) (c : Image) → Replayed l on lost closed a t b w0 w1 w2
    → SameRack a b → CanReplay l a → SomeoneDecides l.pending on lost a → LogsStand b c → Rests l.number l.pending lost c
rests_of l on lost closed a t b w0 w1 w2 c done stays can someone stands =
    let e : Image = restored off_log b c in
    let picks : (d s : ℕ) → IsLive a a d s → MayLeave (b.held d s) (e d s) = λ d s live. off_log_pick stays can.lasting c stands d s live in
    let same : (p s : ℕ) → c (log_slice p) s ≡ e (log_slice p) s = λ p s. sym (restored_there off_log b c (log_slice p) s (on_log p s)) in
    rests_by_logs l.number l.pending lost c e same
    (rests_amid l on lost closed a e can
    (amid_at_end l on lost closed a t b w0 w1 w2 e done can
    (λ p s past. sym (same p s) ∙ stands.inside p s (subst (λ n. n ≤ s) (sym (stays.sectors (log_slice p))) past))
    (ending_after l on lost closed a t b w0 w1 w2 e done can picks))
    done.closed_is someone (shut_after l on lost closed a t b w0 w1 w2 e done can picks))

-- without work nothing is written
nothing_written : (l : LogView) (went : ℕ → Bool) (on : List ℕ) (closed : List ℕ) (d s : ℕ) (v : List ℕ) → (HasWork l → ⊥) → MayWrite l went on closed d s v → ⊥
nothing_written l went on closed d s v none (inr shuts) = none shuts.0
nothing_written l went on closed d s v none (inl new) = none (inl (λ empty. subst (λ (xs : List Target). IsPayload xs d s v) empty new))

pub replay_call : (l : LogView) (on lost : List ℕ) (closed : List ℕ) (a t b : RackView) (w0 w1 w2 : ℕ → Bool) → Replayed l on lost closed a t b w0 w1 w2
    → ReplayCall l on lost a b
replay_call l on lost closed a t b w0 w1 w2 done =
    let all : Calls a b (IsCalled l on) (MayWrite l w1 on closed) w0 w2 = calls_of l on lost closed a t b w0 w1 w2 done in
    let stays : SameRack a b = all.only.stays in
    let to_t : SameRack a t = done.writes.calls.only.stays in
    let shut : HasWork l → lost ≡ [] → (p : ℕ) → names on p ≡ true → IsLive a b (log_slice p) gate_sector
    → (v : List ℕ) → MayLeave (b.held (log_slice p) gate_sector) v → v ≡ closed =
    λ work none p named live v left.
    let left2 : AllLeft w2 = λ q. sym (done.lost_are q) ∙ ap (λ ps. names ps q) none in
    done.closes.durable (log_slice p) gate_sector closed v (live_second to_t live) (left2 (place_of (log_slice p)))
    (work, (λ q. done.closes.calls.still q (left2 q), record { disk = named_log on p named; there = refl; value = refl })) left in
    record {
      stays = stays;
      gone = record {
        ordered = done.ordered;
        cause = λ p is. let by = all.cause p (done.none_before p) (sym (done.lost_are p) ∙ is) in (by.disk, by.of_place, by.rose);
        called = λ p is.
            let by = all.cause p (done.none_before p) (sym (done.lost_are p) ∙ is) in
            elim by.was_called [
              | inl log ↦ inl (sym (ap (names on) by.of_place) ∙ log_named on (length on) by.disk (omega arith) log)
              | inr target ↦ inr (has_of_place l.pending by.disk p by.of_place target)
            ];
      };
      leaves = λ traced. leaves_weaker _ (λ c. Unit {0}) (λ c mix. tt) (all.only.stops traced);
      stops = λ traced can. stops_of l on lost closed a t b w0 w1 w2 done traced can;
      midway = λ traced can. midway_of l on lost closed a t b w0 w1 w2 done traced can;
      after = λ can c stands. replays_of l closed a c can (after_of l on lost closed a t b w0 w1 w2 c done stays can stands) done.closed_is;
      rests = λ can someone c stands. rests_of l on lost closed a t b w0 w1 w2 c done stays can someone stands;
      gates = λ work none p v named live left. ap gate_of (shut work none p named live v left) ∙ done.closed_is;
      durable = λ work none p named live.
          let shuts = shut work none p named live in
          let now = shuts (b.held (log_slice p) gate_sector).current (inl refl) in
          (λ v left. shuts v left ∙ sym now, ap length now ∙ done.sized);
      numbers = λ can p live numbered v left.
          elim (all.only.within (log_slice p) gate_sector v live left) [
            | inl old ↦ numbered v old
            | inr new ↦ elim new.1 [
              | inl target ↦ absurd (target_other l (log_slice p) gate_sector v (can_sound l a can) target (slice_of_log p, omega arith))
              | inr shuts ↦ (record { is_open = false; number = l.number }, ap gate_of shuts.1.1.value ∙ done.closed_is, omega arith)
            ]
          ];
      idle = λ none. record {
        held = λ d s live. all.only.others d s live (λ v new. nothing_written l w1 on closed d s v none new.1);
        stops = λ traced.
            leaves_weaker _ (IsPick a b a.held)
            (λ c mix d s live. elim (mix d s live) [ inl old ↦ old | inr new ↦ absurd (nothing_written l w1 on closed d s (c d s) none new.1) ])
            (all.only.stops traced);
      };
      apart = λ d s live other none.
          all.only.others d s live
          (λ v new.
          elim new.1 [
            | inl target ↦ payload_none l.pending d s none v target
            | inr shuts ↦ other (shutting l w1 on closed d s v shuts)
          ]);
      within = λ d s v live other left.
          elim (all.only.within d s v live left) [
            | inl old ↦ inl old
            | inr new ↦ elim new.1 [ inl target ↦ inr target | inr shuts ↦ absurd (each_no_other on closed d s v other shuts.1.1) ]
          ];
      written = λ d s w v live other left is held.
          let at_t : w1 (place_of d) ≡ false = done.closes.calls.still (place_of d) (sym (done.lost_are (place_of d)) ∙ left) in
          let live_t : IsLive a t d s = live_first done.closes.calls.only.stays live in
          let kept = done.closes.calls.only.others d s (live_second to_t live) (λ u new. each_no_other on closed d s u other new.1.1.1) in
          done.writes.durable d s w v live_t at_t
          ((subst (λ n. d < n) to_t.disks live_t.disk, subst (λ n. s < n) (to_t.sectors d) live_t.sector), is)
          (kept.within v held);
    }
