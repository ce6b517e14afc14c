-- The clauses of a commit.
use Rattle.std.proofs.Common.{◌≡◌, ◌≢◌, ◌⊎◌, ℕ, ◌+◌, ◌-◌, ◌<◌, ◌≤◌, ◌^◌, ◌==◌, ◌||◌, not, Bool, true, false, nat_lt, List, [], ◌∷◌, length, Option, Some, refl, sym, ap, subst, ◌∙◌, inl, inr, arith, eq-eqb, eqb-true, lt-ltb}
use Rattle.std.specs.Option.{option_map_or}
use Rattle.std.specs.List.{list_any}
use Rattle.std.proofs.lemmas.Bool.{cases_Bool, cases_eq, ne_eqb, both_ways, cond-true, cond-false}
use Rattle.rack.specs.Values.{MayLeave}
use Rattle.rack.specs.Seen.{Image, RackView, IsLive, SameRack}
use Rattle.rack.specs.Moments.{Leaves}
use Rattle.rack.specs.Targets.{Target}
use Rattle.rack.specs.Joins.{stays_same, stays_then, live_first, live_second, leaves_weaker, leaves_then}
use Rattle.rack.specs.Sequences.{IsPayload}
use Rattle.rack.proofs.Phases.{payload_none}
use Rattle.array_image.specs.Places.{slice_of, place_of, log_slice, log_sectors}
use Rattle.array_image.specs.Record.{Gate, gate_sector, gate_of, half_of, pending_at, pending, are_apart}
use Rattle.array_image.specs.States.{current_places}
use Rattle.array_image.proofs.Frames.{state_same}
use Rattle.array_image.proofs.Replays.{SameLogs, pending_same}
use Rattle.pool_state.specs.declared.contents.State.{State}
use Rattle.log_laws.specs.View.{LogView, names, next_number, in_order}
use Rattle.log_laws.specs.Standing.{IsLogPart, IsInside, LogsStand, deciding, IsReady, SomeoneDecides}
use Rattle.log_laws.specs.Commits.{Stands, ImageInCommit, ImageAfterCommit, Rests, StandsMidway, IsOutside, CommitCall}
use Rattle.log_laws.specs.Phases.{Calls, IsLogOf, IsOnEach, IsOfRecord, IsTargeted, has_target, AllLeft}
use Rattle.log_laws.proofs.Calling.{calls_weaker, calls_then}
use Rattle.commit_log.proofs.Restored.{restored, restored_there, pending_at_by}
use Rattle.commit_log.proofs.Amid.{IsEarly, IsLate, place_of_log, slice_of_log, log_of_place}
use Rattle.commit_log.proofs.Early.{early_commits, early_midway}
use Rattle.commit_log.proofs.Story.{Parts, Story, log_named, named_log, record_no_gate, record_no_other, each_no_other, target_no_log, payload_is}
use Rattle.commit_log.proofs.Since.{live_between}
use Rattle.commit_log.proofs.Ended.{late_committed, late_midway, late_rests}
use Rattle.commit_log.proofs.Told.{Told, early_at_first, early_at_opening, late_at_targets, late_at_end, ending_after, shut_after}

-- what a commit's calls did
pub record Done (l : LogView) (on lost : List ℕ) (number : ℕ) (opened closed bytes : List ℕ) (count : ℕ) (a r g t b : RackView) (w0 w1 w2 w3 w4 : ℕ → Bool) : Type 0 where
  pub story : Story l on number opened closed bytes count a r g t b w0 w1 w2 w3 w4
  pub parts : Parts l on number opened closed bytes count a
  pub number_is : number ≡ next_number l.number
  pub opened_is : gate_of opened ≡ Some (record { is_open = true; number = number })
  pub closed_is : gate_of closed ≡ Some (record { is_open = false; number = number })
  pub logs : (p : ℕ) → names on p ≡ true → (p < 16) × (a.sectors (log_slice p) ≡ log_sectors)
  pub lost_are : (p : ℕ) → names lost p ≡ w4 p
  pub ordered : lost ≡ in_order lost
  pub none_before : AllLeft w0

-- the disks that it calls, and the values that it writes
abbrev IsCalled : LogView → List ℕ → ℕ → Type 0
IsCalled l on d = IsLogOf on (length on) d ⊎ IsTargeted l.added d

data IsOfCommit (l : LogView) (on : List ℕ) (number : ℕ) (opened closed bytes : List ℕ) (count d s : ℕ) (v : List ℕ) : Type 0 where
  of_record : IsOfRecord on (half_of number) bytes (96 + count) d s v → IsOfCommit l on number opened closed bytes count d s v
  of_opening : IsOnEach on (length on) gate_sector opened d s v → IsOfCommit l on number opened closed bytes count d s v
  of_target : IsPayload l.added d s v → IsOfCommit l on number opened closed bytes count d s v
  of_closing : IsOnEach on (length on) gate_sector closed d s v → IsOfCommit l on number opened closed bytes count d s v

calls_of : (l : LogView) (on : List ℕ) (number : ℕ) (opened closed bytes : List ℕ) (count : ℕ) (a r g t b : RackView) (w0 w1 w2 w3 w4 : ℕ → Bool)
    → Story l on number opened closed bytes count a r g t b w0 w1 w2 w3 w4
    → Calls a b (IsCalled l on) (IsOfCommit l on number opened closed bytes count) w0 w4
calls_of l on number opened closed bytes count a r g t b w0 w1 w2 w3 w4 story =
    let all : ℕ → ℕ → List ℕ → Type 0 = IsOfCommit l on number opened closed bytes count in
    calls_then (IsCalled l on) all w0 w1 w4
    (calls_weaker _ (IsCalled l on) _ all w0 w1 (λ d is. inl is) (λ d s v is. of_record is) story.writes_record.calls)
    (calls_then (IsCalled l on) all w1 w2 w4
    (calls_weaker _ (IsCalled l on) _ all w1 w2 (λ d is. inl is) (λ d s v is. of_opening is) story.opens.calls)
    (calls_then (IsCalled l on) all w2 w3 w4
    (calls_weaker _ (IsCalled l on) _ all w2 w3 (λ d is. inr is) (λ d s v is. of_target is) story.writes_targets.calls)
    (calls_weaker _ (IsCalled l on) _ all w3 w4 (λ d is. inl is) (λ d s v is. of_closing is.1) story.closes.calls)))

other_place : (on : List ℕ) (p : ℕ) → names on p ≡ false → IsLogOf on (length on) (log_slice p) → ⊥
other_place on p other is = both_ways (names on p) other (sym (ap (names on) (place_of_log p)) ∙ log_named on (length on) (log_slice p) (omega arith) is)

-- sectors but for the log's are written as targets alone
other_of : (l : LogView) (on : List ℕ) (number : ℕ) (opened closed bytes : List ℕ) (count d s : ℕ) (v : List ℕ) → (IsLogPart d s → ⊥)
    → IsOfCommit l on number opened closed bytes count d s v → IsPayload l.added d s v
other_of l on number opened closed bytes count d s v other (of_record is) = absurd (record_no_other on number bytes (96 + count) d s v other is)
other_of l on number opened closed bytes count d s v other (of_opening is) = absurd (each_no_other on opened d s v other is)
other_of l on number opened closed bytes count d s v other (of_target is) = is
other_of l on number opened closed bytes count d s v other (of_closing is) = absurd (each_no_other on closed d s v other is)

-- gates as its own alone
gate_number : (l : LogView) (on lost : List ℕ) (number : ℕ) (opened closed bytes : List ℕ) (count : ℕ) (a r g t b : RackView) (w0 w1 w2 w3 w4 : ℕ → Bool) (p : ℕ) (v : List ℕ)
    → Done l on lost number opened closed bytes count a r g t b w0 w1 w2 w3 w4
    → IsOfCommit l on number opened closed bytes count (log_slice p) gate_sector v
    → (h : Gate) × (gate_of v ≡ Some h) × (h.number ≤ next_number l.number)
gate_number l on lost number opened closed bytes count a r g t b w0 w1 w2 w3 w4 p v done (of_record is) = absurd (record_no_gate on number bytes (96 + count) (log_slice p) v is)
gate_number l on lost number opened closed bytes count a r g t b w0 w1 w2 w3 w4 p v done (of_opening is) =
    (record { is_open = true; number = number }, ap gate_of is.value ∙ done.opened_is, omega (arith, done.number_is))
gate_number l on lost number opened closed bytes count a r g t b w0 w1 w2 w3 w4 p v done (of_target is) =
    absurd (target_no_log l on number opened closed bytes count a p gate_sector v done.parts (omega arith) is)
gate_number l on lost number opened closed bytes count a r g t b w0 w1 w2 w3 w4 p v done (of_closing is) =
    (record { is_open = false; number = number }, ap gate_of is.value ∙ done.closed_is, omega (arith, done.number_is))

-- the log's other sectors it doesn't write
not_around : (l : LogView) (on : List ℕ) (number : ℕ) (opened closed bytes : List ℕ) (count : ℕ) (a : RackView) (p t : ℕ) (v : List ℕ)
    → Parts l on number opened closed bytes count a → 0 < t → (names on p ≡ false) ⊎ ((t ≢ gate_sector) × IsOutside number t)
    → IsOfCommit l on number opened closed bytes count (log_slice p) t v → ⊥
not_around l on number opened closed bytes count a p t v parts some out (of_record is) =
    elim out [
      | inl other ↦ other_place on p other is.each.disk
      | inr both ↦
          elim both.1 [
            | inl below ↦ absurd (omega (arith, below, is.each.there))
            | inr past ↦ absurd (omega (arith, past, is.each.there, is.below, parts.sealed.few))
          ]
    ]
not_around l on number opened closed bytes count a p t v parts some out (of_opening is) =
    elim out [ inl other ↦ other_place on p other is.disk | inr both ↦ both.0 is.there ]
not_around l on number opened closed bytes count a p t v parts some out (of_target is) =
    target_no_log l on number opened closed bytes count a p t v parts some is
not_around l on number opened closed bytes count a p t v parts some out (of_closing is) =
    elim out [ inl other ↦ other_place on p other is.disk | inr both ↦ both.0 is.there ]

next_above : (n : ℕ) → n ≤ next_number n
next_above n = elim (cases_Bool (nat_lt n (2 ^ 63 - 1))) [
  | inl less ↦ let is : next_number n ≡ n + 1 = cond-true (nat_lt n (2 ^ 63 - 1)) (n + 1) n less in omega (arith, is)
  | inr not_less ↦ let is : next_number n ≡ n = cond-false (nat_lt n (2 ^ 63 - 1)) (n + 1) n not_less in omega (arith, is)
]

-- with room for numbers all that the theorem stands on is there
told_of : (l : LogView) (on lost : List ℕ) (number : ℕ) (opened closed bytes : List ℕ) (count : ℕ) (a r g t b : RackView) (w0 w1 w2 w3 w4 : ℕ → Bool)
    → Done l on lost number opened closed bytes count a r g t b w0 w1 w2 w3 w4 → IsReady l on a
    → Told l on lost number opened closed bytes count a r g t b w0 w1 w2 w3 w4
told_of l on lost number opened closed bytes count a r g t b w0 w1 w2 w3 w4 done ready = record {
  begun = record {
    ready = ready;
    terms = record {
      number_is = done.number_is ∙ cond-true (nat_lt l.number (2 ^ 63 - 1)) (l.number + 1) l.number (lt-ltb l.number (2 ^ 63 - 1) ready.room);
      opened_is = done.opened_is;
      closed_is = done.closed_is;
      logs = done.logs;
      targets = λ d s v is. ((done.parts.targets d s v is).0.1, (done.parts.targets d s v is).1);
    };
    parts = done.parts;
    writes = done.story.writes_record;
  };
  opens = done.story.opens;
  writes = done.story.writes_targets;
  closes = done.story.closes;
  lost_are = done.lost_are;
}

-- at each moment contents are as in one of its parts
moments_of : (P : Image → Type 0) (l : LogView) (on lost : List ℕ) (number : ℕ) (opened closed bytes : List ℕ) (count : ℕ) (a r g t b : RackView) (w0 w1 w2 w3 w4 : ℕ → Bool)
    → Done l on lost number opened closed bytes count a r g t b w0 w1 w2 w3 w4 → a.traced → IsReady l on a
    → ((c : Image) → IsEarly l on number opened a c → P c) → ((c : Image) → IsLate l on lost number opened closed a c → P c)
    → Leaves a b (λ c. IsInside a.sectors c → P c)
moments_of P l on lost number opened closed bytes count a r g t b w0 w1 w2 w3 w4 done traced ready early late =
    let told : Told l on lost number opened closed bytes count a r g t b w0 w1 w2 w3 w4 = told_of l on lost number opened closed bytes count a r g t b w0 w1 w2 w3 w4 done ready in
    let to_r : SameRack a r = told.begun.writes.calls.only.stays in
    let to_g : SameRack a g = stays_then to_r told.opens.calls.only.stays in
    let to_t : SameRack a t = stays_then to_g told.writes.calls.only.stays in
    let Q : Image → Type 0 = λ c. IsInside a.sectors c → P c in
    leaves_then Q
    (leaves_weaker _ Q
    (λ c mix inside. early c (early_at_first l on number opened closed bytes count a r w0 w1 c told.begun inside mix))
    (told.begun.writes.calls.only.stops traced))
    (leaves_then Q
    (leaves_weaker _ Q
    (λ c mix inside. early c (early_at_opening l on number opened closed bytes count a r g w0 w1 c told.begun told.opens.calls.only.stays inside mix))
    (told.opens.calls.only.stops (to_r.traced traced)))
    (leaves_then Q
    (leaves_weaker _ Q
    (λ c mix inside. late c (late_at_targets l on lost number opened closed bytes count a r g t b w0 w1 w2 w3 w4 c told inside mix))
    (told.writes.calls.only.stops (to_g.traced traced)))
    (leaves_weaker _ Q
    (λ c mix inside. late c (late_at_end l on lost number opened closed bytes count a r g t b w0 w1 w2 w3 w4 c told inside
    (λ d s live. mix d s (live_between d s to_t told.closes.calls.only.stays ready.lasting live))))
    (told.closes.calls.only.stops (to_t.traced traced)))))

-- all or nothing
stops_of : (l : LogView) (on lost : List ℕ) (number : ℕ) (opened closed bytes : List ℕ) (count : ℕ) (a r g t b : RackView) (w0 w1 w2 w3 w4 : ℕ → Bool)
    → Done l on lost number opened closed bytes count a r g t b w0 w1 w2 w3 w4 → a.traced → IsReady l on a → SomeoneDecides l.added on lost a
    → Leaves a b (λ c. IsInside a.sectors c → ImageInCommit l.added a c)
stops_of l on lost number opened closed bytes count a r g t b w0 w1 w2 w3 w4 done traced ready someone =
    let terms = (told_of l on lost number opened closed bytes count a r g t b w0 w1 w2 w3 w4 done ready).begun.terms in
    moments_of (ImageInCommit l.added a) l on lost number opened closed bytes count a r g t b w0 w1 w2 w3 w4 done traced ready
    (λ c early. early_commits l on number opened closed a c ready terms early)
    (λ c late.
    let all = late_committed l on lost number opened closed a c ready terms someone late in
    record { before = all.before; stands = all.stands; either = inr all.all; whole = λ before. all.whole })

-- and what the log slices say
midway_of : (l : LogView) (on lost : List ℕ) (number : ℕ) (opened closed bytes : List ℕ) (count : ℕ) (a r g t b : RackView) (w0 w1 w2 w3 w4 : ℕ → Bool)
    → Done l on lost number opened closed bytes count a r g t b w0 w1 w2 w3 w4 → a.traced → IsReady l on a → SomeoneDecides l.added on lost a
    → Leaves a b (λ c. IsInside a.sectors c → StandsMidway l on a c)
midway_of l on lost number opened closed bytes count a r g t b w0 w1 w2 w3 w4 done traced ready someone =
    let terms = (told_of l on lost number opened closed bytes count a r g t b w0 w1 w2 w3 w4 done ready).begun.terms in
    moments_of (StandsMidway l on a) l on lost number opened closed bytes count a r g t b w0 w1 w2 w3 w4 done traced ready
    (λ c early. early_midway l on number opened closed a c ready terms early)
    (λ c late. late_midway l on lost number opened closed a c ready terms someone late)

-- contents that agree on the log slices leave the same pending
pub logs_deciding : (c e : Image) → SameLogs c e → deciding c ≡ deciding e
logs_deciding c e same = ap (λ (s : Option State). option_map_or current_places s []) (state_same c e (λ p. same p 0))

pub rests_by_logs : (number : ℕ) (xs : List Target) (lost : List ℕ) (c e : Image) → SameLogs c e → Rests number xs lost e → Rests number xs lost c
rests_by_logs number xs lost c e same rests =
    let places : deciding c ≡ deciding e = logs_deciding c e same in
    let targets : pending (deciding c) c ≡ pending (deciding e) e = pending_same c e same (deciding c) ∙ ap (λ ps. pending ps e) places in
    record {
      numbers = λ g is. rests.numbers g (sym (pending_at_by c e (deciding c) (λ p among. same p gate_sector) ∙ ap (λ ps. pending_at ps e) places) ∙ is);
      targets = elim rests.targets [ inl none ↦ inl (targets ∙ none) | inr all ↦ inr (all.0, targets ∙ all.1) ];
    }

-- contents with a stop's log slices, and elsewhere as they read
abbrev pub off_log : ℕ → ℕ → Bool
off_log d s = not (slice_of d == 0)

pub on_log : (p s : ℕ) → off_log (log_slice p) s ≡ false
on_log p s = ap not (eq-eqb (slice_of (log_slice p)) 0 (slice_of_log p))

pub off_log_pick : {a b : RackView} → SameRack a b → a.lasting → (c : Image) → LogsStand b c → (d s : ℕ) → IsLive a a d s → MayLeave (b.held d s) (restored off_log b c d s)
off_log_pick {a} {b} stays lasting c stands d s live =
    elim (cases_Bool (off_log d s)) [
      | inl other ↦ inl (cond-true (off_log d s) (b.held d s).current (c d s) other)
      | inr here ↦
          let slice : slice_of d ≡ 0 = eqb-true (slice_of d) 0 (not_false (slice_of d == 0) here) in
          subst (MayLeave (b.held d s)) (sym (restored_there off_log b c d s here))
          (subst (λ k. MayLeave (b.held k s) (c k s)) (log_of_place d slice)
          (stands.picks (place_of d) s (subst (λ k. IsLive b b k s) (sym (log_of_place d slice)) (live_between d s stays (stays_same b stays.fit) lasting live))))
    ]
  where
    not_false : (x : Bool) → not x ≡ false → x ≡ true
    not_false true is = refl
    not_false false is = absurd (both_ways true is refl)

rests_of : (l : LogView) (on lost : List ℕ) (number : ℕ) (opened closed bytes : List ℕ) (count : ℕ) (a r g t b : RackView) (w0 w1 w2 w3 w4 : ℕ → Bool) (c : Image)
    → Done l on lost number opened closed bytes count a r g t b w0 w1 w2 w3 w4 → SameRack a b → IsReady l on a → SomeoneDecides l.added on lost a
    → LogsStand b c → Rests number l.added lost c
rests_of l on lost number opened closed bytes count a r g t b w0 w1 w2 w3 w4 c done stays ready someone stands =
    let told : Told l on lost number opened closed bytes count a r g t b w0 w1 w2 w3 w4 = told_of l on lost number opened closed bytes count a r g t b w0 w1 w2 w3 w4 done ready in
    let e : Image = restored off_log b c in
    let same : SameLogs c e = λ p s. sym (restored_there off_log b c (log_slice p) s (on_log p s)) in
    let picks : (d s : ℕ) → IsLive a a d s → MayLeave (b.held d s) (e d s) = λ d s live. off_log_pick stays ready.lasting c stands d s live in
    let inside : IsInside a.sectors e =
    λ p s past. sym (same p s) ∙ stands.inside p s (subst (λ n. n ≤ s) (sym (stays.sectors (log_slice p))) past) in
    rests_by_logs number l.added lost c e same
    (late_rests l on lost number opened closed a e ready told.begun.terms someone
    (late_at_end l on lost number opened closed bytes count a r g t b w0 w1 w2 w3 w4 e told inside
    (ending_after l on lost number opened closed bytes count a r g t b w0 w1 w2 w3 w4 e told picks))
    (shut_after l on lost number opened closed bytes count a r g t b w0 w1 w2 w3 w4 e told picks))

after_of : (l : LogView) (on lost : List ℕ) (number : ℕ) (opened closed bytes : List ℕ) (count : ℕ) (a r g t b : RackView) (w0 w1 w2 w3 w4 : ℕ → Bool) (c : Image)
    → Done l on lost number opened closed bytes count a r g t b w0 w1 w2 w3 w4 → SameRack a b → IsReady l on a → SomeoneDecides l.added on lost a
    → Stands b c → ImageAfterCommit l.added a c
after_of l on lost number opened closed bytes count a r g t b w0 w1 w2 w3 w4 c done stays ready someone stands =
    let told : Told l on lost number opened closed bytes count a r g t b w0 w1 w2 w3 w4 = told_of l on lost number opened closed bytes count a r g t b w0 w1 w2 w3 w4 done ready in
    let picks : (d s : ℕ) → IsLive a a d s → MayLeave (b.held d s) (c d s) =
    λ d s live. stands.picks d s (live_between d s stays (stays_same b stays.fit) ready.lasting live) in
    late_committed l on lost number opened closed a c ready told.begun.terms someone
    (late_at_end l on lost number opened closed bytes count a r g t b w0 w1 w2 w3 w4 c told
    (λ p s past. stands.inside p s (subst (λ n. n ≤ s) (sym (stays.sectors (log_slice p))) past))
    (ending_after l on lost number opened closed bytes count a r g t b w0 w1 w2 w3 w4 c told picks))

or_true : (x y : Bool) → y ≡ true → (x || y) ≡ true
or_true true y is = refl
or_true false y is = is

-- a slice that has a target is of its place
pub has_of_place : (xs : List Target) (d p : ℕ) → place_of d ≡ p → has_target xs d ≡ true → list_any (λ (x : Target). place_of x.disk == p) xs ≡ true
has_of_place [] d p is has = absurd (both_ways false refl has)
has_of_place (x ∷ xs) d p is has =
    elim (cases_eq x.disk d) [
      | inl here ↦ ap (λ y. y || list_any (λ (x : Target). place_of x.disk == p) xs) (eq-eqb (place_of x.disk) p (ap place_of here ∙ is))
      | inr other ↦
          or_true (place_of x.disk == p) (list_any (λ (x : Target). place_of x.disk == p) xs)
          (has_of_place xs d p is (sym (ap (λ y. y || has_target xs d) (ne_eqb x.disk d other)) ∙ has))
    ]

pub commit_call : (l : LogView) (on lost : List ℕ) (number : ℕ) (opened closed bytes : List ℕ) (count : ℕ) (a r g t b : RackView) (w0 w1 w2 w3 w4 : ℕ → Bool)
    → Done l on lost number opened closed bytes count a r g t b w0 w1 w2 w3 w4 → CommitCall l on lost a b
commit_call l on lost number opened closed bytes count a r g t b w0 w1 w2 w3 w4 done =
    let all : Calls a b (IsCalled l on) (IsOfCommit l on number opened closed bytes count) w0 w4 =
    calls_of l on number opened closed bytes count a r g t b w0 w1 w2 w3 w4 done.story in
    let to_r : SameRack a r = done.story.writes_record.calls.only.stays in
    let to_g : SameRack a g = stays_then to_r done.story.opens.calls.only.stays in
    record {
      stays = all.only.stays;
      gone = record {
        ordered = done.ordered;
        cause = λ p is. let by = all.cause p (done.none_before p) (sym (done.lost_are p) ∙ is) in (by.disk, by.of_place, by.rose);
        called = λ p is.
            let by = all.cause p (done.none_before p) (sym (done.lost_are p) ∙ is) in
            elim by.was_called [
              | inl log ↦ inl (sym (ap (names on) by.of_place) ∙ log_named on (length on) by.disk (omega arith) log)
              | inr target ↦ inr (has_of_place l.added by.disk p by.of_place target)
            ];
      };
      leaves = λ traced. leaves_weaker _ (λ c. Unit {0}) (λ c mix. tt) (all.only.stops traced);
      stops = λ traced ready someone. stops_of l on lost number opened closed bytes count a r g t b w0 w1 w2 w3 w4 done traced ready someone;
      midway = λ traced ready someone. midway_of l on lost number opened closed bytes count a r g t b w0 w1 w2 w3 w4 done traced ready someone;
      after = λ ready someone c stands. after_of l on lost number opened closed bytes count a r g t b w0 w1 w2 w3 w4 c done all.only.stays ready someone stands;
      rests = λ ready someone c stands.
          subst (λ n. Rests n l.added lost c) done.number_is
          (rests_of l on lost number opened closed bytes count a r g t b w0 w1 w2 w3 w4 c done all.only.stays ready someone stands);
      numbers = λ p live numbered v left.
          elim (all.only.within (log_slice p) gate_sector v live left) [
            | inl old ↦ let h = numbered v old in (h.0, h.1, omega (arith, h.2, next_above l.number))
            | inr new ↦ gate_number l on lost number opened closed bytes count a r g t b w0 w1 w2 w3 w4 p v done new.1
          ];
      gates = λ none p v named live left.
          let all4 : AllLeft w4 = λ q. sym (done.lost_are q) ∙ ap (λ ps. names ps q) none in
          let to_t : SameRack a t = stays_then to_g done.story.writes_targets.calls.only.stays in
          let is : v ≡ closed =
          done.story.closes.durable (log_slice p) gate_sector closed v (live_second to_t live) (all4 (place_of (log_slice p)))
          ((λ q. done.story.closes.calls.still q (all4 q)), record { disk = named_log on p named; there = refl; value = refl }) left in
          ap gate_of is ∙ done.closed_is ∙ ap (λ n. Some (record { is_open = false; number = n })) done.number_is;
      apart = λ d s live other none.
          all.only.others d s live (λ v both. payload_none l.added d s none v (other_of l on number opened closed bytes count d s v other both.1));
      around = λ p t live some out.
          all.only.others (log_slice p) t live
          (λ v both. not_around l on number opened closed bytes count a p t v done.parts some
          (subst (λ n. (names on p ≡ false) ⊎ ((t ≢ gate_sector) × IsOutside n t)) (sym done.number_is) out) both.1);
      within = λ d s v live other left.
          elim (all.only.within d s v live left) [
            | inl old ↦ inl old
            | inr new ↦
                inr
                (payload_is l.added d s v (ap are_apart done.parts.added ∙ done.parts.apart) (other_of l on number opened closed bytes count d s v other new.1))
          ];
      written = λ d s w v live left is held.
          let had = done.parts.targets d s w is in
          let at_t : w3 (place_of d) ≡ false = done.story.closes.calls.still (place_of d) (sym (done.lost_are (place_of d)) ∙ left) in
          let to_t : SameRack a t = stays_then to_g done.story.writes_targets.calls.only.stays in
          let live_t : IsLive a t d s = live_first done.story.closes.calls.only.stays live in
          let kept = done.story.closes.calls.only.others d s (live_second to_t live) (λ u both. each_no_other on closed d s u had.1 both.1.1) in
          done.story.writes_targets.durable d s w v (live_second to_g live_t) at_t
          ((subst (λ n. d < n) (sym to_g.disks) had.0.0, subst (λ n. s < n) (sym (to_g.sectors d)) had.0.1), is)
          (kept.within v held);
    }
