-- The gates of places, read one by one.
use Rattle.std.proofs.Common.{◌≡◌, ◌≢◌, ℕ, zero, suc, ◌+◌, ◌-◌, ◌<◌, ◌≤◌, ◌==◌, ◌&&◌, ◌||◌, Bool, true, false, if◌then◌else◌, List, ◌∷◌, map, Option, Some, None, option_map, is_none, refl, sym, ap, subst, ◌∙◌, inl, inr, arith}
use Rattle.std.specs.Option.{option_and_then}
use Rattle.std.specs.List.{list_all, list_any, range_with_len}
use Rattle.std.proofs.lemmas.Bool.{cases_eq, cases_lt, both_ways, ne_eqb}
use Rattle.std.proofs.lemmas.Option.{none-some}
use Rattle.rack.specs.Seen.{RackView, Rose}
use Rattle.rack.specs.Joins.{rose_early, rose_later}
use Rattle.rack.specs.Sequences.{OnlyReads}
use Rattle.rack.proofs.Reading.{only_reads_start, only_reads_join, same_after}
use Rattle.array_image.specs.Foremost.{ahead, foremost}
use Rattle.array_image.specs.Places.{log_slice}
use Rattle.array_image.specs.Record.{Gate, GateAt, gate_sector, gate_of, gate_in, is_there, is_bad_gate, is_open_if_of}
use Rattle.array_image.specs.Held.{current_in}
use Rattle.commit_log.specs.declared.gates.Gate as read
use Rattle.commit_log.specs.declared.scan.Scan.{Scan}
use Rattle.log_laws.specs.View.{names}
use Rattle.log_laws.specs.Phases.{went}
use Rattle.commit_log.specs.Scans.{gate_seen, at_seen, all_seen, number_of, decisive_seen, pending_seen, one_if, count_seen, Agrees, IsFound, IsScan, Drops}
use Rattle.log_laws.proofs.Calling.{is_marked}
use Rattle.commit_log.proofs.Deciding.{foremost_among}

-- before the first one
pub scan_start : (on : List ℕ) (a : RackView) (s : Scan) → a.fit
    → ((p : ℕ) → gate_seen s.gates p ≡ None) → ((p : ℕ) → went s.damaged.places p ≡ false) → ((p : ℕ) → went s.lost.places p ≡ false)
    → IsScan on 0 a a s
scan_start on a s fit gates damaged lost = record {
  reads = only_reads_start a fit;
  cause = λ p is. absurd (both_ways (went s.lost.places p) (lost p) is);
  later = λ p past. lost p;
  out = λ p cause. (gates p, damaged p);
  apart = λ p g is. damaged p;
  each = λ p below named left told. absurd (omega (arith, below));
  either = λ p below named left. absurd (omega (arith, below));
}

-- a place that isn't asked for
pub scan_over : {a b : RackView} (on : List ℕ) (k : ℕ) (s : Scan) → names on k ≡ false → IsScan on k a b s → IsScan on (k + 1) a b s
scan_over on k s other scan = record {
  reads = scan.reads;
  cause = scan.cause;
  later = λ p past. scan.later p (omega (arith, past));
  out = λ p cause. scan.out p (elim cause [ inl gone ↦ inl gone | inr rest ↦ elim rest [ inl none ↦ inr (inl none) | inr past ↦ inr (inr (omega (arith, past))) ] ]);
  apart = scan.apart;
  each = λ p below named left told.
      elim (cases_lt p k) [
        | inl early ↦ scan.each p early named left told
        | inr late ↦ let last : p ≡ k = omega (arith, below, late) in absurd (both_ways (names on k) other (ap (names on) (sym last) ∙ named))
      ];
  either = λ p below named left.
      elim (cases_lt p k) [
        | inl early ↦ scan.either p early named left
        | inr late ↦ let last : p ≡ k = omega (arith, below, late) in absurd (both_ways (names on k) other (ap (names on) (sym last) ∙ named))
      ];
}

-- one that was read
pub scan_found : {a b c : RackView} (on : List ℕ) (k : ℕ) (s t : Scan) → names on k ≡ true → log_slice k < a.disks → gate_sector < a.sectors (log_slice k)
    → IsScan on k a b s → OnlyReads b c → IsFound k b c s t → IsScan on (k + 1) a c t
scan_found {a} {b} {c} on k s t here has within scan reads found = record {
  reads = only_reads_join scan.reads reads;
  cause = λ p is.
      elim (cases_eq p k) [
        | inl last ↦
            let gone = found.gone (ap (went t.lost.places) (sym last) ∙ is) in
            (ap (names on) last ∙ here, subst (λ q. Rose (a.faults (log_slice q)) (c.faults (log_slice q))) (sym last) (rose_later a b c (log_slice k) scan.reads.stays gone.2))
        | inr other ↦
            let old = scan.cause p (sym (found.lost p other) ∙ is) in
            (old.0, rose_early a b c (log_slice p) reads.stays old.1)
      ];
  later = λ p past. found.lost p (λ last. absurd (omega (arith, past, last))) ∙ scan.later p (omega (arith, past));
  out = λ p cause.
      elim (cases_eq p k) [
        | inl last ↦ elim cause [
          | inl gone ↦
              let is = found.gone (ap (went t.lost.places) (sym last) ∙ gone) in
              (ap (gate_seen t.gates) last ∙ is.0, ap (went t.damaged.places) last ∙ is.1)
          | inr rest ↦ elim rest [
            | inl none ↦ absurd (both_ways (names on p) none (ap (names on) last ∙ here))
            | inr past ↦ absurd (omega (arith, past, last))
          ]
        ]
        | inr other ↦
            let old = scan.out p (elim cause [
              | inl gone ↦ inl (sym (found.lost p other) ∙ gone)
              | inr rest ↦ elim rest [ inl none ↦ inr (inl none) | inr past ↦ inr (inr (omega (arith, past))) ]
            ]) in
            (found.gates p other ∙ old.0, found.damaged p other ∙ old.1)
      ];
  apart = λ p g is.
      elim (cases_eq p k) [
        | inl last ↦ ap (went t.damaged.places) last ∙ found.apart g (ap (gate_seen t.gates) (sym last) ∙ is)
        | inr other ↦ found.damaged p other ∙ scan.apart p g (sym (found.gates p other) ∙ is)
      ];
  each = λ p below named left told.
      elim (cases_eq p k) [
        | inl last ↦
            let told_k : a.told (log_slice k) = subst (λ q. a.told (log_slice q)) last told in
            let is = found.here (ap (went t.lost.places) (sym last) ∙ left) (scan.reads.stays.told (log_slice k) told_k) in
            let same : (b.held (log_slice k) gate_sector).current ≡ (a.held (log_slice k) gate_sector).current =
            same_after (log_slice k) gate_sector scan.reads has within told_k is.0 in (
              ap (gate_seen t.gates) last ∙ is.1 ∙ ap gate_of same ∙ ap (gate_in (current_in a.held)) (sym last),
              ap (went t.damaged.places) last ∙ is.2 ∙ ap (λ (block : List ℕ). is_there block && is_none (gate_of block)) same ∙ ap (is_bad_gate (current_in a.held)) (sym last),
            )
        | inr other ↦
            let old = scan.each p (omega (arith, below, other)) named (sym (found.lost p other) ∙ left) told in
            (found.gates p other ∙ old.0, found.damaged p other ∙ old.1)
      ];
  either = λ p below named left.
      elim (cases_eq p k) [
        | inl last ↦
            ap (went t.damaged.places) last ∙ found.either (ap (went t.lost.places) (sym last) ∙ left)
            ∙ ap (λ q. is_none (gate_seen t.gates q)) (sym last)
        | inr other ↦
            found.damaged p other ∙ scan.either p (omega (arith, below, other)) named (sym (found.lost p other) ∙ left)
            ∙ ap (λ (o : Option Gate). is_none o) (sym (found.gates p other))
      ];
}

-- ---- folds over the gates, from the last

-- one more number at the front, from its successor
pub range_front : (n : ℕ) → 0 < n → n ≤ 16 → range_with_len (n - 1) (16 - (n - 1)) ≡ (n - 1) ∷ range_with_len n (16 - n)
range_front n some most =
    let more : 16 - (n - 1) ≡ suc (16 - n) = omega (arith, some, most) in
    let next : n - 1 + 1 ≡ n = omega (arith, some) in
    ap (range_with_len (n - 1)) more ∙ ap (λ m. (n - 1) ∷ range_with_len m (16 - n)) next

pub front_some : (gates : List (Option read.Gate)) (n : ℕ) (g : Gate) → 0 < n → n ≤ 16 → gate_seen gates (n - 1) ≡ Some g
    → foremost number_of (map (at_seen gates) (range_with_len (n - 1) (16 - (n - 1))))
    ≡ ahead number_of (record { place = n - 1; gate = g }) (foremost number_of (map (at_seen gates) (range_with_len n (16 - n))))
unfolding foremost
front_some gates n g some most is =
    ap (λ ks. foremost number_of (map (at_seen gates) ks)) (range_front n some most)
    ∙ ap (λ (o : Option Gate). foremost number_of (option_map (λ g. record { place = n - 1; gate = g }) o ∷ map (at_seen gates) (range_with_len n (16 - n)))) is

pub front_none : (gates : List (Option read.Gate)) (n : ℕ) → 0 < n → n ≤ 16 → gate_seen gates (n - 1) ≡ None
    → foremost number_of (map (at_seen gates) (range_with_len (n - 1) (16 - (n - 1)))) ≡ foremost number_of (map (at_seen gates) (range_with_len n (16 - n)))
unfolding foremost
front_none gates n some most is =
    ap (λ ks. foremost number_of (map (at_seen gates) ks)) (range_front n some most)
    ∙ ap (λ (o : Option Gate). foremost number_of (option_map (λ g. record { place = n - 1; gate = g }) o ∷ map (at_seen gates) (range_with_len n (16 - n)))) is

pub all_front : (test : Option GateAt → Bool) (gates : List (Option read.Gate)) (n : ℕ) (o : Option Gate) → 0 < n → n ≤ 16 → gate_seen gates (n - 1) ≡ o
    → list_all test (map (at_seen gates) (range_with_len (n - 1) (16 - (n - 1))))
    ≡ (test (option_map (λ g. record { place = n - 1; gate = g }) o) && list_all test (map (at_seen gates) (range_with_len n (16 - n))))
all_front test gates n o some most is =
    ap (λ ks. list_all test (map (at_seen gates) ks)) (range_front n some most)
    ∙ ap (λ (o : Option Gate). test (option_map (λ g. record { place = n - 1; gate = g }) o) && list_all test (map (at_seen gates) (range_with_len n (16 - n)))) is

pub any_front : (test : Option GateAt → Bool) (gates : List (Option read.Gate)) (n : ℕ) (o : Option Gate) → 0 < n → n ≤ 16 → gate_seen gates (n - 1) ≡ o
    → list_any test (map (at_seen gates) (range_with_len (n - 1) (16 - (n - 1))))
    ≡ (test (option_map (λ g. record { place = n - 1; gate = g }) o) || list_any test (map (at_seen gates) (range_with_len n (16 - n))))
any_front test gates n o some most is =
    ap (λ ks. list_any test (map (at_seen gates) ks)) (range_front n some most)
    ∙ ap (λ (o : Option Gate). test (option_map (λ g. record { place = n - 1; gate = g }) o) || list_any test (map (at_seen gates) (range_with_len n (16 - n)))) is

-- ---- the pending record

-- its gate was read
pub pending_has : (gates : List (Option read.Gate)) (a : GateAt) → pending_seen gates ≡ Some a → gate_seen gates a.place ≡ Some a.gate
unfolding pending_seen
pending_has gates a is =
    let of = foremost_among (at_seen gates) (range_with_len 0 16) a (of_foremost (decisive_seen gates) is) in
    of_gate of.place (gate_seen gates of.place) refl of.gives
  where
    some_if : (b : Bool) (x : GateAt) → (if b then Some x else None) ≡ Some a → Some x ≡ Some a
    some_if true x is = is
    some_if false x is = absurd (none-some a is)

    of_foremost : (o : Option GateAt) → option_and_then (λ x. if list_all (is_open_if_of x.gate.number) (all_seen gates) then Some x else None) o ≡ Some a → o ≡ Some a
    of_foremost None is = absurd (none-some a is)
    of_foremost (Some x) is = some_if (list_all (is_open_if_of x.gate.number) (all_seen gates)) x is

    of_gate : (p : ℕ) (o : Option Gate) → gate_seen gates p ≡ o → option_map (λ g. record { place = p; gate = g }) o ≡ Some a → gate_seen gates a.place ≡ Some a.gate
    of_gate p None seen is = absurd (none-some a is)
    of_gate p (Some g) seen is =
        let same : record { place = p; gate = g } ≡ a = (cc) in
        subst (λ (x : GateAt). gate_seen gates x.place ≡ Some x.gate) same seen

-- as many, where none of the first changed
count_most : (h e : ℕ → Option Gate) (n : ℕ) → ((p : ℕ) → p < n → e p ≡ h p) → count_seen e n ≤ count_seen h n
unfolding count_seen
count_most h e zero same = omega arith
count_most h e (suc n) same =
    let low : count_seen e n ≤ count_seen h n = count_most h e n (λ p less. same p (omega (arith, less))) in
    let one : one_if (e n) ≡ one_if (h n) = ap one_if (same n (omega arith)) in
    omega (arith, low, one)

-- fewer gates are left
pub count_less : (h e : ℕ → Option Gate) (n place : ℕ) (g : Gate) → place < n → h place ≡ Some g → e place ≡ None → ((p : ℕ) → p ≢ place → e p ≡ h p)
    → count_seen e n < count_seen h n
unfolding count_seen
count_less h e zero place g below had none others = absurd (omega (arith, below))
count_less h e (suc n) place g below had none others =
    elim (cases_eq n place) [
      | inl here ↦
          let was : h n ≡ Some g = ap h here ∙ had in
          let is : e n ≡ None = ap e here ∙ none in
          let low : count_seen e n ≤ count_seen h n = count_most h e n (λ p less. others p (λ same. absurd (omega (arith, same, less, here)))) in
          let one : one_if (h n) ≡ 1 = ap one_if was in
          let none_left : one_if (e n) ≡ 0 = ap one_if is in
          omega (arith, low, one, none_left)
      | inr other ↦
          let less : count_seen e n < count_seen h n = count_less h e n place g (omega (arith, below, other)) had none others in
          let same : one_if (e n) ≡ one_if (h n) = ap one_if (others n other) in
          omega (arith, less, same)
    ]

-- ---- places that go while it is loaded

pub drops_start : (a : RackView) (s : Scan) → a.fit → Drops a a s s
drops_start a s fit = record { reads = only_reads_start a fit; damaged = refl; each = λ p. inl (refl, refl) }

pub drops_read : {a b c : RackView} (s t : Scan) → Drops a b s t → OnlyReads b c → Drops a c s t
drops_read {a} {b} {c} s t drops reads = record {
  reads = only_reads_join drops.reads reads;
  damaged = drops.damaged;
  each = λ p.
      elim (drops.each p) [
        | inl same ↦ inl same
        | inr gone ↦
            inr
            (record { gate = gone.gate; had = gone.had; none = gone.none; lost = gone.lost; rose = rose_early a b c (log_slice p) reads.stays gone.rose })
      ];
}

pub drops_then : {a b c : RackView} (s t u : Scan) (place : ℕ) (g : Gate) → Drops a b s t → OnlyReads b c → gate_seen t.gates place ≡ Some g
    → Rose (b.faults (log_slice place)) (c.faults (log_slice place))
    → gate_seen u.gates place ≡ None → ((p : ℕ) → p ≢ place → gate_seen u.gates p ≡ gate_seen t.gates p) → u.damaged ≡ t.damaged
    → ((p : ℕ) → went u.lost.places p ≡ ((p == place) || went t.lost.places p))
    → Drops a c s u
drops_then {a} {b} {c} s t u place g drops reads had rose none others damaged lost =
    let before : Drops a c s t = drops_read s t drops reads in
    record {
      reads = before.reads;
      damaged = damaged ∙ drops.damaged;
      each = λ p.
          elim (cases_eq p place) [
            | inr other ↦
                let still : went u.lost.places p ≡ went t.lost.places p = lost p ∙ ap (λ b. b || went t.lost.places p) (ne_eqb p place other) in
                elim (before.each p) [
                  | inl same ↦ inl (still ∙ same.0, others p other ∙ same.1)
                  | inr gone ↦ inr (record { gate = gone.gate; had = gone.had; none = others p other ∙ gone.none; lost = still ∙ gone.lost; rose = gone.rose })
                ]
            | inl here ↦
                let gate : gate_seen t.gates p ≡ Some g = ap (gate_seen t.gates) here ∙ had in
                elim (before.each p) [
                  | inr gone ↦ absurd (none-some g (sym gone.none ∙ gate))
                  | inl same ↦
                      inr
                      (record {
                        gate = g;
                        had = sym same.1 ∙ gate;
                        none = ap (gate_seen u.gates) here ∙ none;
                        lost = ap (went u.lost.places) here ∙ is_marked (went t.lost.places) (went u.lost.places) place lost;
                        rose = subst (λ q. Rose (a.faults (log_slice q)) (c.faults (log_slice q))) (sym here) (rose_later a b c (log_slice place) drops.reads.stays rose);
                      })
                ]
          ];
    }

-- ---- what was loaded

-- what is the same before reads is so after them
pub agrees_later : {a b : RackView} (d : ℕ) (slice : ℕ → List ℕ) → OnlyReads a b → d < a.disks → a.told d → Agrees a d slice → Agrees b d slice
agrees_later {a} {b} d slice reads has told agrees t below unspent =
    let within : t < a.sectors d = subst (λ n. t < n) (reads.stays.sectors d) below in
    agrees t within (reads.stays.spent d t unspent) ∙ sym (same_after d t reads has within told unspent)

-- a gate that is left was read
pub drops_had : {a b : RackView} (s t : Scan) (p : ℕ) (g : Gate) → Drops a b s t → gate_seen t.gates p ≡ Some g → gate_seen s.gates p ≡ Some g
drops_had s t p g drops is =
    elim (drops.each p) [
      | inl same ↦ sym same.1 ∙ is
      | inr gone ↦ absurd (none-some g (sym gone.none ∙ is))
    ]
