-- A commit from its four parts.
use Rattle.std.proofs.Common.{◌≡◌, ◌⊎◌, ℕ, ◌+◌, ◌<◌, not, Bool, true, false, List, [], length, refl, sym, ap, subst, ◌∙◌, inl, inr, arith}
use Rattle.std.proofs.lemmas.Bool.{both_ways, and_parts}
use Rattle.rack.specs.Values.{MayLeave}
use Rattle.rack.specs.Seen.{Image, RackView, IsLive, SameRack}
use Rattle.rack.specs.Joins.{stays_then}
use Rattle.rack.specs.Sequences.{IsPayload, IsMix}
use Rattle.array_image.specs.Places.{place_of, log_slice}
use Rattle.array_image.specs.Record.{gate_sector, half_of}
use Rattle.log_laws.specs.View.{LogView, names, is_left}
use Rattle.log_laws.specs.Standing.{IsInside}
use Rattle.log_laws.specs.Phases.{Settles, IsLogOf, IsOnEach, IsOfRecord, IsWanted, IsTargeted, AllLeft, IsClosing}
use Rattle.log_laws.specs.Commits.{IsWritten}
use Rattle.commit_log.proofs.Amid.{IsShut, IsEarly, IsLate, place_of_log}
use Rattle.commit_log.proofs.Story.{named_log, record_no_gate, record_no_other, each_no_other, target_no_log}
use Rattle.commit_log.proofs.Since.{live_to, live_between, Since, from_record, from_opening, from_target, from_closing, HasSince, Begun, since_around, since_others, since_new, since_gates, record_part}

-- all that a commit's theorem stands on
pub record Told (l : LogView) (on lost : List ℕ) (number : ℕ) (opened closed bytes : List ℕ) (count : ℕ) (a r g t b : RackView) (w0 w1 w2 w3 w4 : ℕ → Bool) : Type 0 where
  pub begun : Begun l on number opened closed bytes count a r w0 w1
  pub opens : Settles r g (IsLogOf on (length on)) (IsOnEach on (length on) gate_sector opened) (IsOnEach on (length on) gate_sector opened) w1 w2
  pub writes : Settles g t (IsTargeted l.added) (IsPayload l.added) (IsWanted g l.added) w2 w3
  pub closes : Settles t b (IsLogOf on (length on)) (IsClosing w3 on closed) (IsClosing w3 on closed) w3 w4
  pub lost_are : (p : ℕ) → names lost p ≡ w4 p

-- a place that is left at the end was left all the time
left_last : (on lost : List ℕ) (w4 : ℕ → Bool) (p : ℕ) → ((q : ℕ) → names lost q ≡ w4 q) → is_left on lost p ≡ true → (names on p ≡ true) × (w4 p ≡ false)
left_last on lost w4 p are left =
    let parts = and_parts (names on p) (not (names lost p)) left in
    (parts.0, sym (are p) ∙ not_true (names lost p) parts.1)
  where
    not_true : (b : Bool) → not b ≡ true → b ≡ false
    not_true true is = absurd (both_ways false refl is)
    not_true false is = refl

-- ---- while the record is written

pub early_at_first : (l : LogView) (on : List ℕ) (number : ℕ) (opened closed bytes : List ℕ) (count : ℕ) (a r : RackView) (w0 w1 : ℕ → Bool) (c : Image)
    → Begun l on number opened closed bytes count a r w0 w1
    → IsInside a.sectors c → IsMix a r (λ d s v. (w0 (place_of d) ≡ false) × IsOfRecord on (half_of number) bytes (96 + count) d s v) c
    → IsEarly l on number opened a c
early_at_first l on number opened closed bytes count a r w0 w1 c begun inside mix =
    let live : (d s : ℕ) → IsLive a a d s → IsLive a r d s = λ d s is. live_to d s begun.writes.calls.only.stays begun.ready.lasting is in
    record {
      around = record {
        inside = inside;
        parts = λ p s is more out.
            elim (mix (log_slice p) s (live (log_slice p) s is)) [
              | inl old ↦ old
              | inr new ↦ absurd (record_part on number bytes count p s (c (log_slice p) s) begun.parts.sealed.few out new.1)
            ];
      };
      gates = λ p is.
          elim (mix (log_slice p) gate_sector (live (log_slice p) gate_sector is)) [
            | inl old ↦ inl old
            | inr new ↦ absurd (record_no_gate on number bytes (96 + count) (log_slice p) (c (log_slice p) gate_sector) new.1)
          ];
      others = λ d s is other.
          elim (mix d s (live d s is)) [
            | inl old ↦ old
            | inr new ↦ absurd (record_no_other on number bytes (96 + count) d s (c d s) other new.1)
          ];
    }

-- ---- while the gates are opened

open_since : (l : LogView) (on : List ℕ) (number : ℕ) (opened closed bytes : List ℕ) (count : ℕ) (a r g : RackView) (w0 w1 : ℕ → Bool) (c : Image)
    → Begun l on number opened closed bytes count a r w0 w1 → SameRack r g
    → IsInside a.sectors c → IsMix r g (λ d s v. (w1 (place_of d) ≡ false) × IsOnEach on (length on) gate_sector opened d s v) c
    → HasSince l on opened closed a r w1 ⊥ c
open_since l on number opened closed bytes count a r g w0 w1 c begun stays inside mix = record {
  inside = inside;
  each = λ d s is.
      elim (mix d s (live_between d s begun.writes.calls.only.stays stays begun.ready.lasting is)) [
        | inl old ↦ from_record old
        | inr new ↦ from_opening new.0 new.1
      ];
}

pub early_at_opening : (l : LogView) (on : List ℕ) (number : ℕ) (opened closed bytes : List ℕ) (count : ℕ) (a r g : RackView) (w0 w1 : ℕ → Bool) (c : Image)
    → Begun l on number opened closed bytes count a r w0 w1 → SameRack r g
    → IsInside a.sectors c → IsMix r g (λ d s v. (w1 (place_of d) ≡ false) × IsOnEach on (length on) gate_sector opened d s v) c
    → IsEarly l on number opened a c
early_at_opening l on number opened closed bytes count a r g w0 w1 c begun stays inside mix =
    let since : HasSince l on opened closed a r w1 ⊥ c = open_since l on number opened closed bytes count a r g w0 w1 c begun stays inside mix in
    record {
      around = since_around l on number opened closed bytes count a r w0 w1 ⊥ c begun since;
      gates = λ p is.
          elim (since_gates l on number opened closed bytes count a r w0 w1 ⊥ c begun since p is) [
            | inl old ↦ inl old
            | inr new ↦ elim new.1 [ inl opening ↦ inr (new.0, opening) | inr shut ↦ absurd shut.0 ]
          ];
      others = λ d s is other.
          elim (mix d s (live_between d s begun.writes.calls.only.stays stays begun.ready.lasting is)) [
            | inr new ↦ absurd (each_no_other on opened d s (c d s) other new.1)
            | inl left ↦
                elim (begun.writes.calls.only.within d s (c d s) (live_to d s begun.writes.calls.only.stays begun.ready.lasting is) left) [
                  | inl old ↦ old
                  | inr new ↦ absurd (record_no_other on number bytes (96 + count) d s (c d s) other new.1)
                ]
          ];
    }

-- ---- while the targets are written

-- what the opening of the gates left
opened_since : (l : LogView) (on : List ℕ) (opened closed : List ℕ) (r g : RackView) (w1 w2 : ℕ → Bool) (shutting : Type 0) (d s : ℕ) (v : List ℕ)
    → Settles r g (IsLogOf on (length on)) (IsOnEach on (length on) gate_sector opened) (IsOnEach on (length on) gate_sector opened) w1 w2
    → IsLive r g d s → MayLeave (g.held d s) v → Since l on opened closed r w1 shutting d s v
opened_since l on opened closed r g w1 w2 shutting d s v opens live left =
    elim (opens.calls.only.within d s v live left) [
      | inl old ↦ from_record old
      | inr new ↦ from_opening new.0 new.1
    ]

pub late_at_targets : (l : LogView) (on lost : List ℕ) (number : ℕ) (opened closed bytes : List ℕ) (count : ℕ) (a r g t b : RackView) (w0 w1 w2 w3 w4 : ℕ → Bool) (c : Image)
    → Told l on lost number opened closed bytes count a r g t b w0 w1 w2 w3 w4
    → IsInside a.sectors c → IsMix g t (λ d s v. (w2 (place_of d) ≡ false) × IsPayload l.added d s v) c
    → IsLate l on lost number opened closed a c
late_at_targets l on lost number opened closed bytes count a r g t b w0 w1 w2 w3 w4 c told inside mix =
    let begun : Begun l on number opened closed bytes count a r w0 w1 = told.begun in
    let to_r : SameRack a r = begun.writes.calls.only.stays in
    let to_g : SameRack a g = stays_then to_r told.opens.calls.only.stays in
    let since : HasSince l on opened closed a r w1 ⊥ c =
    record {
      inside = inside;
      each = λ d s is.
          elim (mix d s (live_between d s to_g told.writes.calls.only.stays begun.ready.lasting is)) [
            | inr new ↦ from_target new.1
            | inl left ↦ opened_since l on opened closed r g w1 w2 ⊥ d s (c d s) told.opens (live_between d s to_r told.opens.calls.only.stays begun.ready.lasting is) left
          ];
    } in
    record {
      around = since_around l on number opened closed bytes count a r w0 w1 ⊥ c begun since;
      gates = λ p is.
          elim (since_gates l on number opened closed bytes count a r w0 w1 ⊥ c begun since p is) [
            | inl old ↦ inl old
            | inr new ↦ elim new.1 [ inl opening ↦ inr (new.0, inl opening) | inr shut ↦ absurd shut.0 ]
          ];
      others = since_others l on number opened closed bytes count a r w0 w1 ⊥ c begun since;
      left = λ p is_in.
          let last = left_last on lost w4 p told.lost_are is_in in
          let log = begun.terms.logs p last.0 in
          let live : IsLive a a (log_slice p) gate_sector = begun.ready.logs p gate_sector log.0 (omega (arith, log.1)) in
          let at_t : w3 p ≡ false = told.closes.calls.still p last.1 in
          let at_g : w2 p ≡ false = told.writes.calls.still p at_t in
          elim (mix (log_slice p) gate_sector (live_between (log_slice p) gate_sector to_g told.writes.calls.only.stays begun.ready.lasting live)) [
            | inr new ↦ absurd (target_no_log l on number opened closed bytes count a p gate_sector (c (log_slice p) gate_sector) begun.parts (omega arith) new.1)
            | inl held ↦
                inl
                (since_new l on number opened closed bytes count a r w0 w1 ⊥ c p begun since last.0 (told.opens.calls.still p at_g)
                (told.opens.durable (log_slice p) gate_sector opened (c (log_slice p) gate_sector)
                (live_between (log_slice p) gate_sector to_r told.opens.calls.only.stays begun.ready.lasting live)
                (ap w2 (place_of_log p) ∙ at_g)
                (record { disk = named_log on p last.0; there = refl; value = refl }) held))
          ];
    }

-- ---- while the gates are closed, and afterwards

-- contents that the writing of the targets left, but for gates that were closed
abbrev pub IsEnding : LogView → List ℕ → List ℕ → RackView → RackView → (ℕ → Bool) → Image → Type 0
IsEnding l on closed a t w3 c =
    (d s : ℕ) → IsLive a a d s → MayLeave (t.held d s) (c d s) ⊎ ((w3 (place_of d) ≡ false) × IsClosing w3 on closed d s (c d s))

-- where gates are closed all targets were written
ending_written : (l : LogView) (on lost : List ℕ) (number : ℕ) (opened closed bytes : List ℕ) (count : ℕ) (a r g t b : RackView) (w0 w1 w2 w3 w4 : ℕ → Bool) (c : Image)
    → Told l on lost number opened closed bytes count a r g t b w0 w1 w2 w3 w4
    → IsEnding l on closed a t w3 c → AllLeft w3 → IsWritten l.added c
ending_written l on lost number opened closed bytes count a r g t b w0 w1 w2 w3 w4 c told ending all d s w is =
    let begun : Begun l on number opened closed bytes count a r w0 w1 = told.begun in
    let to_g : SameRack a g = stays_then begun.writes.calls.only.stays told.opens.calls.only.stays in
    let live : IsLive a a d s = begun.ready.targets d s w is in
    let live_t : IsLive g t d s = live_between d s to_g told.writes.calls.only.stays begun.ready.lasting live in
    let had = begun.parts.targets d s w is in
    elim (ending d s live) [
      | inl left ↦
          told.writes.durable d s w (c d s) live_t (all (place_of d))
          (((subst (λ n. d < n) (sym to_g.disks) had.0.0), (subst (λ n. s < n) (sym (to_g.sectors d)) had.0.1)), is) left
      | inr closing ↦ absurd (each_no_other on closed d s (c d s) had.1 closing.1.1)
    ]

ending_since : (l : LogView) (on lost : List ℕ) (number : ℕ) (opened closed bytes : List ℕ) (count : ℕ) (a r g t b : RackView) (w0 w1 w2 w3 w4 : ℕ → Bool) (c : Image)
    → Told l on lost number opened closed bytes count a r g t b w0 w1 w2 w3 w4
    → IsInside a.sectors c → IsEnding l on closed a t w3 c → HasSince l on opened closed a r w1 (IsWritten l.added c) c
ending_since l on lost number opened closed bytes count a r g t b w0 w1 w2 w3 w4 c told inside ending =
    let begun : Begun l on number opened closed bytes count a r w0 w1 = told.begun in
    let to_r : SameRack a r = begun.writes.calls.only.stays in
    let to_g : SameRack a g = stays_then to_r told.opens.calls.only.stays in
    record {
      inside = inside;
      each = λ d s is.
          elim (ending d s is) [
            | inr closing ↦ from_closing (ending_written l on lost number opened closed bytes count a r g t b w0 w1 w2 w3 w4 c told ending closing.1.0) closing.1.1
            | inl left ↦
                elim (told.writes.calls.only.within d s (c d s) (live_between d s to_g told.writes.calls.only.stays begun.ready.lasting is) left) [
                  | inr new ↦ from_target new.1
                  | inl old ↦
                      opened_since l on opened closed r g w1 w2 (IsWritten l.added c) d s (c d s) told.opens
                      (live_between d s to_r told.opens.calls.only.stays begun.ready.lasting is) old
                ]
          ];
    }

pub late_at_end : (l : LogView) (on lost : List ℕ) (number : ℕ) (opened closed bytes : List ℕ) (count : ℕ) (a r g t b : RackView) (w0 w1 w2 w3 w4 : ℕ → Bool) (c : Image)
    → Told l on lost number opened closed bytes count a r g t b w0 w1 w2 w3 w4
    → IsInside a.sectors c → IsEnding l on closed a t w3 c → IsLate l on lost number opened closed a c
late_at_end l on lost number opened closed bytes count a r g t b w0 w1 w2 w3 w4 c told inside ending =
    let begun : Begun l on number opened closed bytes count a r w0 w1 = told.begun in
    let to_r : SameRack a r = begun.writes.calls.only.stays in
    let to_g : SameRack a g = stays_then to_r told.opens.calls.only.stays in
    let since : HasSince l on opened closed a r w1 (IsWritten l.added c) c =
    ending_since l on lost number opened closed bytes count a r g t b w0 w1 w2 w3 w4 c told inside ending in
    record {
      around = since_around l on number opened closed bytes count a r w0 w1 (IsWritten l.added c) c begun since;
      gates = λ p is.
          elim (since_gates l on number opened closed bytes count a r w0 w1 (IsWritten l.added c) c begun since p is) [
            | inl old ↦ inl old
            | inr new ↦
                elim new.1 [
                  | inl opening ↦ inr (new.0, inl opening)
                  | inr shut ↦ inr (new.0, inr (record { gate = shut.1; written = shut.0 }))
                ]
          ];
      others = since_others l on number opened closed bytes count a r w0 w1 (IsWritten l.added c) c begun since;
      left = λ p is_in.
          let last = left_last on lost w4 p told.lost_are is_in in
          let log = begun.terms.logs p last.0 in
          let live : IsLive a a (log_slice p) gate_sector = begun.ready.logs p gate_sector log.0 (omega (arith, log.1)) in
          let at_g : w2 p ≡ false = told.writes.calls.still p (told.closes.calls.still p last.1) in
          elim (ending (log_slice p) gate_sector live) [
            | inr closing ↦
                inr
                (record {
                  gate = closing.1.1.value;
                  written = ending_written l on lost number opened closed bytes count a r g t b w0 w1 w2 w3 w4 c told ending closing.1.0;
                })
            | inl held ↦
                elim (told.writes.calls.only.within (log_slice p) gate_sector (c (log_slice p) gate_sector)
                (live_between (log_slice p) gate_sector to_g told.writes.calls.only.stays begun.ready.lasting live) held) [
                  | inr new ↦ absurd (target_no_log l on number opened closed bytes count a p gate_sector (c (log_slice p) gate_sector) begun.parts (omega arith) new.1)
                  | inl older ↦
                      inl
                      (since_new l on number opened closed bytes count a r w0 w1 (IsWritten l.added c) c p begun since last.0 (told.opens.calls.still p at_g)
                      (told.opens.durable (log_slice p) gate_sector opened (c (log_slice p) gate_sector)
                      (live_between (log_slice p) gate_sector to_r told.opens.calls.only.stays begun.ready.lasting live)
                      (ap w2 (place_of_log p) ∙ at_g)
                      (record { disk = named_log on p last.0; there = refl; value = refl }) older))
                ]
          ];
    }

-- what a stop after the commit leaves
pub ending_after : (l : LogView) (on lost : List ℕ) (number : ℕ) (opened closed bytes : List ℕ) (count : ℕ) (a r g t b : RackView) (w0 w1 w2 w3 w4 : ℕ → Bool) (c : Image)
    → Told l on lost number opened closed bytes count a r g t b w0 w1 w2 w3 w4
    → ((d s : ℕ) → IsLive a a d s → MayLeave (b.held d s) (c d s)) → IsEnding l on closed a t w3 c
ending_after l on lost number opened closed bytes count a r g t b w0 w1 w2 w3 w4 c told picks d s live =
    let begun : Begun l on number opened closed bytes count a r w0 w1 = told.begun in
    let to_t : SameRack a t = stays_then (stays_then begun.writes.calls.only.stays told.opens.calls.only.stays) told.writes.calls.only.stays in
    told.closes.calls.only.within d s (c d s) (live_between d s to_t told.closes.calls.only.stays begun.ready.lasting live) (picks d s live)

-- where nobody went all gates are closed
pub shut_after : (l : LogView) (on lost : List ℕ) (number : ℕ) (opened closed bytes : List ℕ) (count : ℕ) (a r g t b : RackView) (w0 w1 w2 w3 w4 : ℕ → Bool) (c : Image)
    → Told l on lost number opened closed bytes count a r g t b w0 w1 w2 w3 w4
    → ((d s : ℕ) → IsLive a a d s → MayLeave (b.held d s) (c d s)) → lost ≡ [] → (p : ℕ) → names on p ≡ true → IsShut l.added closed c p
shut_after l on lost number opened closed bytes count a r g t b w0 w1 w2 w3 w4 c told picks none p here =
    let begun : Begun l on number opened closed bytes count a r w0 w1 = told.begun in
    let to_t : SameRack a t = stays_then (stays_then begun.writes.calls.only.stays told.opens.calls.only.stays) told.writes.calls.only.stays in
    let all4 : AllLeft w4 = λ q. sym (told.lost_are q) ∙ ap (λ ps. names ps q) none in
    let all3 : AllLeft w3 = λ q. told.closes.calls.still q (all4 q) in
    let log = begun.terms.logs p here in
    let live : IsLive a a (log_slice p) gate_sector = begun.ready.logs p gate_sector log.0 (omega (arith, log.1)) in
    record {
      gate =
          told.closes.durable (log_slice p) gate_sector closed (c (log_slice p) gate_sector)
          (live_between (log_slice p) gate_sector to_t told.closes.calls.only.stays begun.ready.lasting live)
          (all4 (place_of (log_slice p)))
          (all3, record { disk = named_log on p here; there = refl; value = refl })
          (picks (log_slice p) gate_sector live);
      written =
          ending_written l on lost number opened closed bytes count a r g t b w0 w1 w2 w3 w4 c told
          (ending_after l on lost number opened closed bytes count a r g t b w0 w1 w2 w3 w4 c told picks) all3;
    }
