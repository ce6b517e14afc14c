-- Once the gates of those left are open, and after the commit.
use Rattle.std.proofs.Common.{◌≡◌, ◌≢◌, ◌⊎◌, ℕ, true, not, List, [], ◌∷◌, refl, sym, ◌∙◌, inl, inr, arith}
use Rattle.std.proofs.lemmas.Bool.{cases_lt, and_parts, both_ways}
use Rattle.rack.specs.Seen.{Image, RackView}
use Rattle.array_image.specs.Places.{log_slice}
use Rattle.array_image.specs.Record.{gate_sector, pending}
use Rattle.log_laws.specs.View.{LogView, names}
use Rattle.log_laws.specs.Standing.{StatesStand, deciding, Decides, IsReady, SomeoneDecides}
use Rattle.log_laws.specs.Commits.{ImageAfterCommit, Rests, StandsMidway}
use Rattle.log_laws.proofs.Counting.{decides_small}
use Rattle.commit_log.proofs.Amid.{Terms, IsShut, IsLate, absent, lower, not_state}
use Rattle.commit_log.proofs.Late.{Decider, is_old, is_new, is_shut, Deciders, late_pending, late_whole, shut_pending, pending_number}
use Rattle.commit_log.proofs.Midway.{HasGates, deciders_pends}
use Rattle.commit_log.proofs.Whole.{all_committed}

late_states : (l : LogView) (on lost : List ℕ) (number : ℕ) (opened closed : List ℕ) (a : RackView) (c : Image)
    → IsLate l on lost number opened closed a c → StatesStand l.added a c
late_states l on lost number opened closed a c late = record {
  picks = λ p live. late.others (log_slice p) 0 live (not_state p);
  inside = λ p none. late.around.inside p 0 (omega (arith, none));
}

late_gate : (l : LogView) (on lost : List ℕ) (number : ℕ) (opened closed : List ℕ) (a : RackView) (c : Image) → IsReady l on a
    → IsLate l on lost number opened closed a c → (p : ℕ) → Decides c p → Decider l number opened closed a c p
late_gate l on lost number opened closed a c ready late p decides =
    elim (cases_lt gate_sector (a.sectors (log_slice p))) [
      | inr none ↦ is_old (absent (late.around.inside p gate_sector none))
      | inl there ↦
          elim (late.gates p (ready.logs p gate_sector (decides_small c p decides) there)) [
            | inl old ↦
                let g = ready.numbers c (late_states l on lost number opened closed a c late) p decides there (c (log_slice p) gate_sector) old in
                is_old (lower g.0 g.1 g.2)
            | inr new ↦ elim new.1 [ inl opening ↦ is_new opening | inr shut ↦ is_shut shut ]
          ]
    ]

-- a place that is left decides
late_deciders : (l : LogView) (on lost : List ℕ) (number : ℕ) (opened closed : List ℕ) (a : RackView) (c : Image) → IsReady l on a
    → SomeoneDecides l.added on lost a → IsLate l on lost number opened closed a c → Deciders l number opened closed a c
late_deciders l on lost number opened closed a c ready someone late =
    let one = someone c (late_states l on lost number opened closed a c late) in
    record {
      each = late_gate l on lost number opened closed a c ready late;
      one = one.0;
      one_decides = one.2;
      has = late.left one.0 one.1;
    }

-- all targets are there
pub late_committed : (l : LogView) (on lost : List ℕ) (number : ℕ) (opened closed : List ℕ) (a : RackView) (c : Image) → IsReady l on a
    → Terms l on number opened closed a → SomeoneDecides l.added on lost a → IsLate l on lost number opened closed a c → ImageAfterCommit l.added a c
late_committed l on lost number opened closed a c ready terms someone late =
    all_committed l on number opened closed a c terms late.around
    (λ p live. elim (late.gates p live) [ inl old ↦ inl old | inr new ↦ inr new.0 ])
    late.others
    (late_pending l on number opened closed a c terms (late_deciders l on lost number opened closed a c ready someone late))
    (late_whole l on number opened closed a c terms (late_deciders l on lost number opened closed a c ready someone late))

-- what the log slices say, as they stand
pub late_midway : (l : LogView) (on lost : List ℕ) (number : ℕ) (opened closed : List ℕ) (a : RackView) (c : Image) → IsReady l on a
    → Terms l on number opened closed a → SomeoneDecides l.added on lost a → IsLate l on lost number opened closed a c → StandsMidway l on a c
late_midway l on lost number opened closed a c ready terms someone late =
    let states = late_states l on lost number opened closed a c late in
    let gates : HasGates on a c = λ p live. elim (late.gates p live) [ inl old ↦ inl old | inr new ↦ inr new.0 ] in
    record {
      states = states;
      gates = λ p other live. elim (gates p live) [ inl old ↦ old | inr named ↦ absurd (both_ways (names on p) other named) ];
      inside = late.around.inside;
      pends =
          inr (deciders_pends l on number opened closed a c ready terms (late_deciders l on lost number opened closed a c ready someone late) states late.around.inside gates);
    }

-- nothing but they is pending, and nothing where nobody went
pub late_rests : (l : LogView) (on lost : List ℕ) (number : ℕ) (opened closed : List ℕ) (a : RackView) (c : Image) → IsReady l on a
    → Terms l on number opened closed a → SomeoneDecides l.added on lost a → IsLate l on lost number opened closed a c
    → (lost ≡ [] → (p : ℕ) → names on p ≡ true → IsShut l.added closed c p)
    → Rests number l.added lost c
late_rests l on lost number opened closed a c ready terms someone late shut =
    let deciders : Deciders l number opened closed a c = late_deciders l on lost number opened closed a c ready someone late in
    record {
      numbers = λ g is. pending_number l on number opened closed a c g terms deciders is;
      targets = by_lost lost refl;
    }
  where
    some_none : (p : ℕ) (ps : List ℕ) → p ∷ ps ≡ [] → ⊥
    some_none p ps is = (cc)

    by_lost : (gone : List ℕ) → lost ≡ gone → (pending (deciding c) c ≡ []) ⊎ ((lost ≢ []) × (pending (deciding c) c ≡ l.added))
    by_lost [] none =
        let deciders : Deciders l number opened closed a c = late_deciders l on lost number opened closed a c ready someone late in
        let one = someone c (late_states l on lost number opened closed a c late) in
        inl
        (shut_pending l on number opened closed a c one.0 terms deciders one.2
        (shut none one.0 (and_parts (names on one.0) (not (names lost one.0)) one.1).0))
    by_lost (p ∷ others) some =
        elim (late_pending l on number opened closed a c terms (late_deciders l on lost number opened closed a c ready someone late)) [
          | inl all ↦ inr (λ none. absurd (some_none p others (sym some ∙ none)), all)
          | inr none ↦ inl none.0
        ]
