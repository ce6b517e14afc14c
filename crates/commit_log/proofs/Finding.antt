-- What the log finds, by the gates that were read and the record that was loaded.
use Rattle.std.proofs.Common.{◌≡◌, ◌⊎◌, ℕ, ◌<◌, ◌==◌, ◌&&◌, ◌||◌, not, Bool, true, false, if◌then◌else◌, List, [], find, Option, Some, None, option_map, is_some, is_none, unwrap_or, refl, sym, ap, ap₂, ◌∙◌, inl, inr, arith, eq-eqb, lt-ltb}
use Rattle.std.specs.Option.{option_and_then, option_map_or}
use Rattle.std.specs.List.{list_all, list_any, range_with_len}
use Rattle.std.proofs.lemmas.Bool.{cases_Bool, cases_eq, both_ways, and_from, and_parts, ne_eqb}
use Rattle.std.proofs.lemmas.Option.{none-some}
use Rattle.rack.specs.Seen.{Image, RackView}
use Rattle.rack.specs.Joins.{rose_early, rose_later}
use Rattle.rack.specs.Targets.{Target}
use Rattle.rack.proofs.Reading.{only_reads_join}
use Rattle.array_image.specs.Places.{log_slice}
use Rattle.array_image.specs.Record.{Gate, GateAt, gate_sector, gate_of, gate_in, is_there, is_bad_gate, record_in, gates_in, is_open_if_of, pending_at, pending, is_bad_log}
use Rattle.array_image.specs.Left.{reading}
use Rattle.commit_log.specs.declared.gates.Gate as read
use Rattle.commit_log.specs.declared.scan.Scan.{Scan}
use Rattle.log_laws.specs.View.{LogView, names, is_left, left_of, in_order}
use Rattle.log_laws.specs.Phases.{went}
use Rattle.log_laws.specs.Opening.{Finds, PendingCall}
use Rattle.commit_log.specs.Scans.{gate_seen, at_seen, all_seen, number_of, decisive_seen, pending_seen, is_open_gate, is_damaged, IsScan, Drops, Loads}
use Rattle.commit_log.proofs.Deciding.{foremost_among, gate_at}
use Rattle.log_laws.proofs.Naming.{names_range, names_listed}
use Rattle.commit_log.proofs.Scanning.{pending_has, drops_had, agrees_later}
use Rattle.commit_log.proofs.LeftPlaces.{foremost_left, all_left, any_left, find_left, any_found, any_named, any_one, foremost_most, AreOnly}

-- ---- a scan after places went

pub scan_dropped : {a b c : RackView} (on : List ℕ) (s t : Scan) → IsScan on 16 a b s → Drops b c s t → IsScan on 16 a c t
scan_dropped {a} {b} {c} on s t scan drops = record {
  reads = only_reads_join scan.reads drops.reads;
  cause = λ p is.
      elim (drops.each p) [
        | inl same ↦ let old = scan.cause p (sym same.0 ∙ is) in (old.0, rose_early a b c (log_slice p) drops.reads.stays old.1)
        | inr gone ↦ (asked p gone.gate gone.had, rose_later a b c (log_slice p) scan.reads.stays gone.rose)
      ];
  later = λ p past.
      elim (drops.each p) [
        | inl same ↦ same.0 ∙ scan.later p past
        | inr gone ↦ absurd (none-some gone.gate (sym (scan.out p (inr (inr past))).0 ∙ gone.had))
      ];
  out = λ p cause.
      elim (drops.each p) [
        | inr gone ↦ (gone.none, damaged p ∙ scan.apart p gone.gate gone.had)
        | inl same ↦
            let old = scan.out p (elim cause [ inl is ↦ inl (sym same.0 ∙ is) | inr rest ↦ inr rest ]) in
            (same.1 ∙ old.0, damaged p ∙ old.1)
      ];
  apart = λ p g is. damaged p ∙ scan.apart p g (drops_had s t p g drops is);
  each = λ p below named left told.
      elim (drops.each p) [
        | inr gone ↦ absurd (both_ways (went t.lost.places p) left gone.lost)
        | inl same ↦
            let old = scan.each p below named (sym same.0 ∙ left) told in
            (same.1 ∙ old.0, damaged p ∙ old.1)
      ];
  either = λ p below named left.
      elim (drops.each p) [
        | inr gone ↦ absurd (both_ways (went t.lost.places p) left gone.lost)
        | inl same ↦ damaged p ∙ scan.either p below named (sym same.0 ∙ left) ∙ ap (λ (o : Option Gate). is_none o) (sym same.1)
      ];
}
  where
    damaged : (p : ℕ) → went t.damaged.places p ≡ went s.damaged.places p
    damaged p = ap (λ l. went l.places p) drops.damaged

    asked : (p : ℕ) (g : Gate) → gate_seen s.gates p ≡ Some g → names on p ≡ true
    asked p g had =
        elim (cases_Bool (names on p)) [
          | inl is ↦ is
          | inr other ↦ absurd (none-some g (sym (scan.out p (inr (inl other))).0 ∙ had))
        ]

-- ---- what stands in the contents

pub record Looks (on gone : List ℕ) (a r b : RackView) (s t : Scan) (broken : Option ℕ) (xs : List Target) : Type 0 where
  pub scan : IsScan on 16 a r s
  pub drops : Drops r b s t
  pub loads : Loads r t.gates broken xs
  pub few : (p : ℕ) → names on p ≡ true → p < 16
  pub disks : a.disks ≡ 272
  pub lost_are : (p : ℕ) → names gone p ≡ went t.lost.places p
  pub told : (p : ℕ) → names on p ≡ true → a.told (log_slice p)
  pub slices : (p : ℕ) → names on p ≡ true → gate_sector < a.sectors (log_slice p)

-- a gate as it reads now
reads_gate : (a : RackView) (p : ℕ) → gate_sector < a.sectors (log_slice p) → reading a (log_slice p) gate_sector ≡ (a.held (log_slice p) gate_sector).current
reads_gate a p there = ap (λ b. if b then (a.held (log_slice p) gate_sector).current else []) (lt-ltb gate_sector (a.sectors (log_slice p)) there)

-- what a scan says of a place that was asked for and is left
each_reads : {a r : RackView} (on : List ℕ) (s : Scan) (p : ℕ) → IsScan on 16 a r s → p < 16 → names on p ≡ true → went s.lost.places p ≡ false → a.told (log_slice p)
    → gate_sector < a.sectors (log_slice p)
    → (gate_seen s.gates p ≡ gate_in (reading a) p) × (went s.damaged.places p ≡ is_bad_gate (reading a) p)
each_reads {a} on s p scan few named left told there =
    let is = scan.each p few named left told in
    let same : (a.held (log_slice p) gate_sector).current ≡ reading a (log_slice p) gate_sector = sym (reads_gate a p there) in
    (is.0 ∙ ap gate_of same, is.1 ∙ ap (λ (block : List ℕ). is_there block && is_none (gate_of block)) same)

not_true : (b : Bool) → not b ≡ true → b ≡ false
not_true true is = absurd (both_ways false refl is)
not_true false is = refl

-- a place that is left, and one that isn't
is_here : (on gone : List ℕ) (a r b : RackView) (s t : Scan) (broken : Option ℕ) (xs : List Target) (p : ℕ) → Looks on gone a r b s t broken xs
    → is_left on gone p ≡ true → (names on p ≡ true) × (went t.lost.places p ≡ false)
is_here on gone a r b s t broken xs p looks left =
    let parts = and_parts (names on p) (not (names gone p)) left in
    (parts.0, sym (looks.lost_are p) ∙ not_true (names gone p) parts.1)

each_after : (on gone : List ℕ) (a r b : RackView) (s t : Scan) (broken : Option ℕ) (xs : List Target) (p : ℕ) → Looks on gone a r b s t broken xs
    → (names on p ≡ true) × (went t.lost.places p ≡ false)
    → (gate_seen t.gates p ≡ gate_in (reading a) p) × (went t.damaged.places p ≡ is_bad_gate (reading a) p)
each_after on gone a r b s t broken xs p looks here =
    each_reads on t p (scan_dropped on s t looks.scan looks.drops) (looks.few p here.0) here.0 here.1 (looks.told p here.0) (looks.slices p here.0)

nothing_else : (on gone : List ℕ) (a r b : RackView) (s t : Scan) (broken : Option ℕ) (xs : List Target) (p : ℕ) → Looks on gone a r b s t broken xs
    → is_left on gone p ≡ false → (gate_seen t.gates p ≡ None) × (went t.damaged.places p ≡ false)
nothing_else on gone a r b s t broken xs p looks other =
    (scan_dropped on s t looks.scan looks.drops).out p
    (elim (cases_Bool (names on p)) [
      | inr none ↦ inr (inl none)
      | inl named ↦ elim (cases_Bool (names gone p)) [
        | inl lost ↦ inl (sym (looks.lost_are p) ∙ lost)
        | inr stays ↦ absurd (both_ways (is_left on gone p) other (and_from (names on p) (not (names gone p)) named (ap not stays)))
      ]
    ])

seen_left : (on gone : List ℕ) (a r b : RackView) (s t : Scan) (broken : Option ℕ) (xs : List Target) → Looks on gone a r b s t broken xs
    → AreOnly (is_left on gone) None (gate_at (reading a)) (at_seen t.gates)
seen_left on gone a r b s t broken xs looks = (
  λ p left.
      let here = is_here on gone a r b s t broken xs p looks left in
      let each = each_after on gone a r b s t broken xs p looks here in
      ap (λ (o : Option Gate). option_map (λ g. record { place = p; gate = g }) o) (sym each.0),
  λ p other. ap (λ (o : Option Gate). option_map (λ g. record { place = p; gate = g }) o) (nothing_else on gone a r b s t broken xs p looks other).0,
)

bad_left : (on gone : List ℕ) (a r b : RackView) (s t : Scan) (broken : Option ℕ) (xs : List Target) → Looks on gone a r b s t broken xs
    → AreOnly (is_left on gone) false (is_bad_gate (reading a)) (went t.damaged.places)
bad_left on gone a r b s t broken xs looks = (
  λ p left.
      let here = is_here on gone a r b s t broken xs p looks left in
      sym (each_after on gone a r b s t broken xs p looks here).1,
  λ p other. (nothing_else on gone a r b s t broken xs p looks other).1,
)

-- a gate that was read, when it was
read_in : (on gone : List ℕ) (a r b : RackView) (s t : Scan) (broken : Option ℕ) (xs : List Target) (p : ℕ) (g : Gate) → Looks on gone a r b s t broken xs
    → gate_seen s.gates p ≡ Some g → (names on p ≡ true) × (gate_in (reading a) p ≡ Some g)
read_in on gone a r b s t broken xs p g looks has =
    elim (cases_Bool (names on p)) [
      | inr none ↦ absurd (none-some g (sym (looks.scan.out p (inr (inl none))).0 ∙ has))
      | inl named ↦ elim (cases_Bool (went s.lost.places p)) [
        | inl lost ↦ absurd (none-some g (sym (looks.scan.out p (inl lost)).0 ∙ has))
        | inr stays ↦ (named, sym (each_reads on s p looks.scan (looks.few p named) named stays (looks.told p named) (looks.slices p named)).0 ∙ has)
      ]
    ]

-- a gate and its place
at_gate : (gates : List (Option read.Gate)) (p : ℕ) (z : GateAt) → at_seen gates p ≡ Some z → gate_seen gates p ≡ Some z.gate
at_gate gates p z is = of_gate (gate_seen gates p) is
  where
    of_gate : (o : Option Gate) → option_map (λ g. record { place = p; gate = g }) o ≡ Some z → o ≡ Some z.gate
    of_gate None is = absurd (none-some z is)
    of_gate (Some g) is =
        let same : record { place = p; gate = g } ≡ z = (cc) in
        ap (λ (x : GateAt). Some x.gate) same

-- ---- the pending record

pending_same : (on gone : List ℕ) (a r b : RackView) (s t : Scan) (broken : Option ℕ) (xs : List Target) → Looks on gone a r b s t broken xs
    → pending_at (left_of on gone) (reading a) ≡ pending_seen t.gates
unfolding pending_at pending_seen
pending_same on gone a r b s t broken xs looks =
    let only : AreOnly (is_left on gone) None (gate_at (reading a)) (at_seen t.gates) = seen_left on gone a r b s t broken xs looks in
    ap (λ (o : Option GateAt). option_and_then (λ x. if list_all (is_open_if_of x.gate.number) (gates_in (left_of on gone) (reading a)) then Some x else None) o)
    (foremost_left (is_left on gone) (gate_at (reading a)) (at_seen t.gates) (range_with_len 0 16) only)
    ∙ by_each (decisive_seen t.gates)
    (λ n. all_left (is_open_if_of n) (is_left on gone) (gate_at (reading a)) (at_seen t.gates) (range_with_len 0 16) refl only)
  where
    by_each : (o : Option GateAt)
        → ((n : ℕ) → list_all (is_open_if_of n) (gates_in (left_of on gone) (reading a)) ≡ list_all (is_open_if_of n) (all_seen t.gates))
        → option_and_then (λ x. if list_all (is_open_if_of x.gate.number) (gates_in (left_of on gone) (reading a)) then Some x else None) o
        ≡ option_and_then (λ x. if list_all (is_open_if_of x.gate.number) (all_seen t.gates) then Some x else None) o
    by_each None each = refl
    by_each (Some x) each = ap (λ b. if b then Some x else None) (each x.gate.number)

-- it is read from a place that is left
pending_left : (on gone : List ℕ) (a r b : RackView) (s t : Scan) (broken : Option ℕ) (xs : List Target) (x : GateAt) → Looks on gone a r b s t broken xs
    → pending_seen t.gates ≡ Some x → is_left on gone x.place ≡ true
pending_left on gone a r b s t broken xs x looks is =
    elim (cases_Bool (is_left on gone x.place)) [
      | inl left ↦ left
      | inr other ↦ absurd (none-some x.gate (sym (nothing_else on gone a r b s t broken xs x.place looks other).0 ∙ pending_has t.gates x is))
    ]

record_is : (on gone : List ℕ) (a r b : RackView) (s t : Scan) (broken : Option ℕ) (xs : List Target) (x : GateAt) → Looks on gone a r b s t broken xs
    → pending_seen t.gates ≡ Some x → record_in (reading a) x.place x.gate.number ≡ (if is_none broken then Some xs else None)
record_is on gone a r b s t broken xs x looks is =
    let here = is_here on gone a r b s t broken xs x.place looks (pending_left on gone a r b s t broken xs x looks is) in
    let told : a.told (log_slice x.place) = looks.told x.place here.0 in
    looks.loads.loaded x is (looks.scan.reads.stays.told (log_slice x.place) told) (reading a (log_slice x.place))
    (agrees_later (log_slice x.place) (reading a (log_slice x.place)) looks.scan.reads (omega (arith, looks.disks, looks.few x.place here.0)) told
    (λ k below unspent. ap (λ b. if b then (a.held (log_slice x.place) k).current else []) (lt-ltb k (a.sectors (log_slice x.place)) below)))

and_false : (b : Bool) → (b && false) ≡ false
and_false true = refl
and_false false = refl

and_true : (b : Bool) → (b && true) ≡ b
and_true true = refl
and_true false = refl

or_swap : (b c : Bool) → (b || c) ≡ (c || b)
or_swap true true = refl
or_swap true false = refl
or_swap false true = refl
or_swap false false = refl

eq_swap : (m n : ℕ) → (m == n) ≡ (n == m)
eq_swap m n =
    elim (cases_eq m n) [
      | inl same ↦ eq-eqb m n same ∙ sym (eq-eqb n m (sym same))
      | inr other ↦ ne_eqb m n other ∙ sym (ne_eqb n m (λ same. other (sym same)))
    ]

-- ---- what is damaged

damaged_left : (on gone : List ℕ) (a r b : RackView) (s t : Scan) (broken : Option ℕ) (xs : List Target) → Looks on gone a r b s t broken xs
    → AreOnly (is_left on gone) false (is_bad_log (left_of on gone) (reading a)) (is_damaged broken t)
damaged_left on gone a r b s t broken xs looks =
    let c : Image = reading a in
    let bad : AreOnly (is_left on gone) false (is_bad_gate c) (went t.damaged.places) = bad_left on gone a r b s t broken xs looks in (
      λ p left.
          ap₂ (λ x y. x || y) (bad.0 p left)
          (ap (λ (o : Option GateAt). option_map_or (λ x. (x.place == p) && is_none (record_in c x.place x.gate.number)) o false) (pending_same on gone a r b s t broken xs looks)
          ∙ of_pending p (pending_seen t.gates) refl)
          ∙ or_swap (went t.damaged.places p) (option_map_or (λ q. p == q) broken false),
      λ p other. ap₂ (λ x y. x || y) (not_broken p other (pending_seen t.gates) refl) (bad.1 p other),
    )
  where
    of_pending : (p : ℕ) (o : Option GateAt) → pending_seen t.gates ≡ o
        → option_map_or (λ x. (x.place == p) && is_none (record_in (reading a) x.place x.gate.number)) o false ≡ option_map_or (λ q. p == q) broken false
    of_pending p None is = sym (ap (λ (o : Option ℕ). option_map_or (λ q. p == q) o false) (looks.loads.none is).1)
    of_pending p (Some x) is =
        ap (λ (o : Option (List Target)). (x.place == p) && is_none o) (record_is on gone a r b s t broken xs x looks is)
        ∙ elim (looks.loads.some x is) [
          | inl none ↦
              ap (λ (o : Option ℕ). (x.place == p) && is_none (if is_none o then Some xs else None)) none ∙ and_false (x.place == p)
              ∙ sym (ap (λ (o : Option ℕ). option_map_or (λ q. p == q) o false) none)
          | inr at ↦
              ap (λ (o : Option ℕ). (x.place == p) && is_none (if is_none o then Some xs else None)) at.0 ∙ and_true (x.place == p) ∙ eq_swap x.place p
              ∙ sym (ap (λ (o : Option ℕ). option_map_or (λ q. p == q) o false) at.0)
        ]

    not_broken : (p : ℕ) → is_left on gone p ≡ false → (o : Option GateAt) → pending_seen t.gates ≡ o → option_map_or (λ q. p == q) broken false ≡ false
    not_broken p other None is = ap (λ (o : Option ℕ). option_map_or (λ q. p == q) o false) (looks.loads.none is).1
    not_broken p other (Some x) is =
        elim (looks.loads.some x is) [
          | inl none ↦ ap (λ (o : Option ℕ). option_map_or (λ q. p == q) o false) none
          | inr at ↦
              ap (λ (o : Option ℕ). option_map_or (λ q. p == q) o false) at.0
              ∙ ne_eqb p x.place (λ same. both_ways (is_left on gone p) other (ap (is_left on gone) same ∙ pending_left on gone a r b s t broken xs x looks is))
        ]

-- ---- its targets

targets_are : (on gone : List ℕ) (a r b : RackView) (s t : Scan) (broken : Option ℕ) (xs : List Target) → Looks on gone a r b s t broken xs
    → (if is_none (find (is_damaged broken t) (range_with_len 0 16)) then xs else []) ≡ pending (left_of on gone) (reading a)
unfolding pending
targets_are on gone a r b s t broken xs looks =
    of_pending (pending_seen t.gates) refl
    ∙ sym
    (ap₂ (λ (bad : Bool) (o : Option GateAt). if bad then [] else unwrap_or (option_and_then (λ x. record_in (reading a) x.place x.gate.number) o) [])
    (any_left (is_left on gone) (is_bad_gate (reading a)) (went t.damaged.places) (range_with_len 0 16) (bad_left on gone a r b s t broken xs looks))
    (pending_same on gone a r b s t broken xs looks))
  where
    same : (b : Bool) (ys : List Target) → (if b then ys else ys) ≡ ys
    same true ys = refl
    same false ys = refl

    is_free : (o : Option ℕ) (b : Bool) → is_some o ≡ b → (if is_none o then xs else []) ≡ (if b then [] else xs)
    is_free None b is = ap (λ (d : Bool). if d then [] else xs) is
    is_free (Some q) b is = ap (λ (d : Bool). if d then [] else xs) is

    of_pending : (o : Option GateAt) → pending_seen t.gates ≡ o
        → (if is_none (find (is_damaged broken t) (range_with_len 0 16)) then xs else [])
        ≡ (if list_any (went t.damaged.places) (range_with_len 0 16) then [] else unwrap_or (option_and_then (λ x. record_in (reading a) x.place x.gate.number) o) [])
    of_pending None is =
        ap (λ (ys : List Target). if is_none (find (is_damaged broken t) (range_with_len 0 16)) then ys else []) (looks.loads.none is).0
        ∙ same (is_none (find (is_damaged broken t) (range_with_len 0 16))) [] ∙ sym (same (list_any (went t.damaged.places) (range_with_len 0 16)) [])
    of_pending (Some x) is =
        elim (looks.loads.some x is) [
          | inl none ↦
              ap (λ (o : Option ℕ). if is_none (find (is_damaged o t) (range_with_len 0 16)) then xs else []) none
              ∙ is_free (find (went t.damaged.places) (range_with_len 0 16)) (list_any (went t.damaged.places) (range_with_len 0 16)) (any_found (went t.damaged.places) (range_with_len 0 16))
              ∙ ap (λ (o : Option (List Target)). if list_any (went t.damaged.places) (range_with_len 0 16) then [] else unwrap_or o [])
              (sym (record_is on gone a r b s t broken xs x looks is ∙ ap (λ (o : Option ℕ). if is_none o then Some xs else None) none))
          | inr at ↦
              ap (λ (ys : List Target). if is_none (find (is_damaged broken t) (range_with_len 0 16)) then ys else []) at.1
              ∙ same (is_none (find (is_damaged broken t) (range_with_len 0 16))) [] ∙ sym (same (list_any (went t.damaged.places) (range_with_len 0 16)) [])
              ∙ ap (λ (o : Option (List Target)). if list_any (went t.damaged.places) (range_with_len 0 16) then [] else unwrap_or o [])
              (sym (record_is on gone a r b s t broken xs x looks is ∙ ap (λ (o : Option ℕ). if is_none o then Some xs else None) at.0))
        ]

-- ---- all of it

pub finds_of : (on gone : List ℕ) (a r b : RackView) (s t : Scan) (broken : Option ℕ) (xs : List Target) (m : LogView) → Looks on gone a r b s t broken xs
    → m.pending ≡ (if is_none (find (is_damaged broken t) (range_with_len 0 16)) then xs else [])
    → m.number ≡ option_map_or number_of (decisive_seen s.gates) 0 → m.is_open ≡ list_any is_open_gate (all_seen s.gates)
    → Finds m on (left_of on gone) (is_some (pending_seen t.gates)) (find (is_damaged broken t) (range_with_len 0 16)) (reading a)
finds_of on gone a r b s t broken xs m looks targets number openness = record {
  damaged_is = sym (find_left (is_left on gone) (is_bad_log (left_of on gone) (reading a)) (is_damaged broken t) (range_with_len 0 16) (damaged_left on gone a r b s t broken xs looks));
  is_pending_is = ap (λ (o : Option GateAt). is_some o) (sym (pending_same on gone a r b s t broken xs looks));
  targets = targets ∙ targets_are on gone a r b s t broken xs looks;
  each = λ p named.
      let here = is_here on gone a r b s t broken xs p looks (left p named) in
      let after = scan_dropped on s t looks.scan looks.drops in
      let is = each_after on gone a r b s t broken xs p looks here in
      sym is.1 ∙ after.either p (looks.few p here.0) here.0 here.1 ∙ ap (λ (o : Option Gate). is_none o) is.0;
  above = λ p g named is.
      let top = foremost_most (at_seen s.gates) (range_with_len 0 16) p (record { place = p; gate = g }) (in_range p named) (seen p g named is) in
      let most : m.number ≡ number_of top.0 = number ∙ ap (λ (o : Option GateAt). option_map_or number_of o 0) top.1 in
      omega (arith, most, top.2);
  number = of_decisive (decisive_seen s.gates) refl;
  open_is = λ p g named is opened.
      openness
      ∙ any_named is_open_gate (at_seen s.gates) (range_with_len 0 16) p (in_range p named) (ap is_open_gate (seen p g named is) ∙ opened);
  opened = λ is.
      let one = any_one is_open_gate (at_seen s.gates) (range_with_len 0 16) (sym openness ∙ is) in
      of_open one.0 (gate_seen s.gates one.0) refl one.2;
}
  where
    left : (p : ℕ) → names (left_of on gone) p ≡ true → is_left on gone p ≡ true
    left p named =
        sym (names_listed (is_left on gone)
        (λ q past. elim (cases_Bool (is_left on gone q)) [
          | inr other ↦ other
          | inl here ↦ absurd (omega (arith, past, looks.few q (is_here on gone a r b s t broken xs q looks here).0))
        ]) p) ∙ named

    in_range : (p : ℕ) → names (left_of on gone) p ≡ true → names (range_with_len 0 16) p ≡ true
    in_range p named = names_range 0 16 p (omega arith) (looks.few p (is_here on gone a r b s t broken xs p looks (left p named)).0)

    seen : (p : ℕ) (g : Gate) → names (left_of on gone) p ≡ true → gate_in (reading a) p ≡ Some g → at_seen s.gates p ≡ Some (record { place = p; gate = g })
    seen p g named is =
        let here = is_here on gone a r b s t broken xs p looks (left p named) in
        let each = each_after on gone a r b s t broken xs p looks here in
        ap (λ (o : Option Gate). option_map (λ h. record { place = p; gate = h }) o) (drops_had s t p g looks.drops (each.0 ∙ is))

    of_decisive : (o : Option GateAt) → decisive_seen s.gates ≡ o
        → (m.number ≡ 0) ⊎ ((p : ℕ) × (g : Gate) × (names on p ≡ true) × (gate_in (reading a) p ≡ Some g) × (g.number ≡ m.number))
    of_decisive None is = inl (number ∙ ap (λ (o : Option GateAt). option_map_or number_of o 0) is)
    of_decisive (Some z) is =
        let of = foremost_among (at_seen s.gates) (range_with_len 0 16) z is in
        let has = read_in on gone a r b s t broken xs of.place z.gate looks (at_gate s.gates of.place z of.gives) in
        inr (of.place, z.gate, has.0, has.1, sym (number ∙ ap (λ (o : Option GateAt). option_map_or number_of o 0) is))

    of_open : (p : ℕ) (o : Option Gate) → gate_seen s.gates p ≡ o → is_open_gate (at_seen s.gates p) ≡ true
        → (p : ℕ) × (g : Gate) × (names on p ≡ true) × (gate_in (reading a) p ≡ Some g) × (g.is_open ≡ true)
    of_open p None seen is =
        absurd (both_ways false refl (sym (ap (λ (o : Option Gate). is_open_gate (option_map (λ h. record { place = p; gate = h }) o)) seen) ∙ is))
    of_open p (Some g) seen is =
        let has = read_in on gone a r b s t broken xs p g looks seen in
        (p, g, has.0, has.1, sym (ap (λ (o : Option Gate). is_open_gate (option_map (λ h. record { place = p; gate = h }) o)) seen) ∙ is)

-- a gate is one of a place that was asked for
pub scan_asked : {a b : RackView} (on : List ℕ) (s : Scan) (p : ℕ) → IsScan on 16 a b s → is_some (gate_seen s.gates p) ≡ true → names on p ≡ true
scan_asked on s p scan has =
    elim (cases_Bool (names on p)) [
      | inl is ↦ is
      | inr other ↦ absurd (both_ways (is_some (gate_seen s.gates p)) (ap (λ (o : Option Gate). is_some o) (scan.out p (inr (inl other))).0) has)
    ]

-- looking for the pending record
pub looks_call : (on gone : List ℕ) (a r b : RackView) (s t : Scan) (broken : Option ℕ) (xs : List Target) (l m : LogView)
    → IsScan on 16 a r s → Drops r b s t → Loads r t.gates broken xs → ((p : ℕ) → names on p ≡ true → p < 16) → a.disks ≡ 272
    → ((p : ℕ) → names on p ≡ true → gate_sector < a.sectors (log_slice p)) → ((p : ℕ) → names gone p ≡ went t.lost.places p) → gone ≡ in_order gone
    → m.added ≡ l.added → m.is_lent ≡ true
    → m.pending ≡ (if is_none (find (is_damaged broken t) (range_with_len 0 16)) then xs else [])
    → m.number ≡ option_map_or number_of (decisive_seen s.gates) 0 → m.is_open ≡ list_any is_open_gate (all_seen s.gates)
    → PendingCall l m on gone (is_some (pending_seen t.gates)) (find (is_damaged broken t) (range_with_len 0 16)) a b
looks_call on gone a r b s t broken xs l m scan drops loads few disks slices lost_are ordered added lent targets number openness =
    let after : IsScan on 16 a b t = scan_dropped on s t scan drops in
    record {
      reads = after.reads;
      ordered = ordered;
      cause = λ p is. after.cause p (sym (lost_are p) ∙ is);
      added = added;
      lent = lent;
      finds = λ told.
          finds_of on gone a r b s t broken xs m
          (record { scan = scan; drops = drops; loads = loads; few = few; disks = disks; lost_are = lost_are; told = told; slices = slices }) targets number openness;
    }
