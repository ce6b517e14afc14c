-- Once the gates of those left are open, all targets count.
use Rattle.std.proofs.Common.{◌≡◌, ◌⊎◌, ℕ, ◌≤◌, ◌==◌, ◌&&◌, ◌||◌, not, Bool, true, false, is_none, List, [], map, Option, Some, option_map, refl, sym, ap, ap₂, ◌∙◌, inl, inr, arith, eq-eqb}
use Rattle.std.specs.List.{list_all}
use Rattle.std.proofs.lemmas.Bool.{cases_Bool, both_ways, ne_eqb}
use Rattle.std.proofs.lemmas.Option.{none-some}
use Rattle.rack.specs.Seen.{Image, RackView}
use Rattle.array_image.specs.Places.{log_slice}
use Rattle.array_image.specs.Record.{Gate, GateAt, gate_sector, gate_of, gate_in, is_there, is_bad_gate, record_in, is_open_if_of, pending_at, pending}
use Rattle.commit_log.specs.Scans.{number_of}
use Rattle.log_laws.specs.View.{LogView, names}
use Rattle.log_laws.specs.Standing.{deciding, IsWhole, Decides}
use Rattle.commit_log.proofs.Deciding.{IsTop, top, gate_at, gate_at_is, all_or, all_at, nothing_pending, record_pending, pending_of_top, none_of_top, pending_is_decisive}
use Rattle.commit_log.proofs.Undamaged.{whole_from}
use Rattle.log_laws.proofs.Counting.{named_decides, decides_named}
use Rattle.log_laws.specs.Commits.{IsWritten}
use Rattle.commit_log.proofs.Amid.{Terms, IsNew, IsShut, IsOld, absent, lower, no_gate_in_nothing}

-- ---- what is pending

-- the gate of a place that decides
pub data Decider (l : LogView) (number : ℕ) (opened closed : List ℕ) (a : RackView) (c : Image) (p : ℕ) : Type 0 where
  is_old : IsOld l a c p → Decider l number opened closed a c p
  is_new : IsNew number l.added opened c p → Decider l number opened closed a c p
  is_shut : IsShut l.added closed c p → Decider l number opened closed a c p

-- what it reads
gate_read : (c : Image) (p : ℕ) (block : List ℕ) (g : Gate) → c (log_slice p) gate_sector ≡ block → gate_of block ≡ Some g → gate_in c p ≡ Some g
gate_read c p block g is reads = ap gate_of is ∙ reads

some_gate : (x y : Gate) → Some x ≡ Some y → x ≡ y
some_gate x y is = (cc)

-- its number
number_at_most : (l : LogView) (on : List ℕ) (number : ℕ) (opened closed : List ℕ) (a : RackView) (c : Image) (p : ℕ) (g : Gate)
    → Terms l on number opened closed a → Decider l number opened closed a c p → gate_in c p ≡ Some g → g.number ≤ number
number_at_most l on number opened closed a c p g terms (is_old (absent none)) has = absurd (none-some g (sym no_gate_in_nothing ∙ sym (ap gate_of none) ∙ has))
number_at_most l on number opened closed a c p g terms (is_old (lower h is below)) has =
    let same : h ≡ g = some_gate h g (sym is ∙ has) in
    omega (arith, ap (λ (x : Gate). x.number) same, below, terms.number_is)
number_at_most l on number opened closed a c p g terms (is_new new) has =
    let same : record { is_open = true; number = number } ≡ g = some_gate _ g (sym (gate_read c p opened _ new.gate terms.opened_is) ∙ has) in
    omega (arith, ap (λ (x : Gate). x.number) same)
number_at_most l on number opened closed a c p g terms (is_shut shut) has =
    let same : record { is_open = false; number = number } ≡ g = some_gate _ g (sym (gate_read c p closed _ shut.gate terms.closed_is) ∙ has) in
    omega (arith, ap (λ (x : Gate). x.number) same)

and_off : (b c : Bool) → c ≡ false → (b && c) ≡ false
and_off true c is = is
and_off false c is = refl

-- it isn't bad
not_bad : (l : LogView) (on : List ℕ) (number : ℕ) (opened closed : List ℕ) (a : RackView) (c : Image) (p : ℕ)
    → Terms l on number opened closed a → Decider l number opened closed a c p → is_bad_gate c p ≡ false
not_bad l on number opened closed a c p terms (is_old (absent none)) = ap (λ (block : List ℕ). is_there block && is_none (gate_of block)) none
not_bad l on number opened closed a c p terms (is_old (lower h is below)) = and_off (is_there (c (log_slice p) gate_sector)) _ (ap (λ (o : Option Gate). is_none o) is)
not_bad l on number opened closed a c p terms (is_new new) =
    and_off (is_there (c (log_slice p) gate_sector)) _ (ap (λ (o : Option Gate). is_none o) (gate_read c p opened _ new.gate terms.opened_is))
not_bad l on number opened closed a c p terms (is_shut shut) =
    and_off (is_there (c (log_slice p) gate_sector)) _ (ap (λ (o : Option Gate). is_none o) (gate_read c p closed _ shut.gate terms.closed_is))

gate_at_read : (c : Image) (p : ℕ) (g : Gate) → gate_in c p ≡ Some g → gate_at c p ≡ Some (record { place = p; gate = g })
gate_at_read c p g is = ap (λ (o : Option Gate). option_map (λ g. record { place = p; gate = g }) o) is

or_true : (b : Bool) → (b || true) ≡ true
or_true true = refl
or_true false = refl

-- it is open if it has the number, or all targets are written
open_or_written : (l : LogView) (on : List ℕ) (number : ℕ) (opened closed : List ℕ) (a : RackView) (c : Image) (p : ℕ)
    → Terms l on number opened closed a → Decider l number opened closed a c p
    → (is_open_if_of number (gate_at c p) ≡ true) ⊎ IsWritten l.added c
open_or_written l on number opened closed a c p terms (is_old (absent none)) =
    inl (ap (λ (o : Option Gate). is_open_if_of number (option_map (λ g. record { place = p; gate = g }) o)) (ap gate_of none ∙ no_gate_in_nothing))
open_or_written l on number opened closed a c p terms (is_old (lower h is below)) =
    inl
    (ap (is_open_if_of number) (gate_at_read c p h is)
    ∙ ap (λ b. not b || h.is_open) (ne_eqb h.number number (λ same. absurd (omega (arith, same, below, terms.number_is)))))
open_or_written l on number opened closed a c p terms (is_new new) =
    inl
    (ap (is_open_if_of number) (gate_at_read c p (record { is_open = true; number = number }) (gate_read c p opened _ new.gate terms.opened_is))
    ∙ or_true (not (number == number)))
open_or_written l on number opened closed a c p terms (is_shut shut) = inr shut.written

-- the record that is read where all are open
top_record : (l : LogView) (on : List ℕ) (number : ℕ) (opened closed : List ℕ) (a : RackView) (c : Image) (g : GateAt) (p : ℕ)
    → Terms l on number opened closed a → Decider l number opened closed a c p
    → gate_at c p ≡ Some g → number_of g ≡ number → is_open_if_of number (gate_at c p) ≡ true
    → record_in c g.place g.gate.number ≡ Some l.added
top_record l on number opened closed a c g p terms (is_old (absent none)) is number_is open_is =
    absurd (none-some g.gate (sym no_gate_in_nothing ∙ sym (ap gate_of none) ∙ (gate_at_is c p g is).1))
top_record l on number opened closed a c g p terms (is_old (lower h has below)) is number_is open_is =
    let same : h ≡ g.gate = some_gate h g.gate (sym has ∙ (gate_at_is c p g is).1) in
    absurd (omega (arith, ap (λ (x : Gate). x.number) same, below, terms.number_is, number_is))
top_record l on number opened closed a c g p terms (is_new new) is number_is open_is =
    ap₂ (λ q n. record_in c q n) (gate_at_is c p g is).0 number_is ∙ new.holds
top_record l on number opened closed a c g p terms (is_shut shut) is number_is open_is =
    absurd
    (both_ways (not (number == number) || false)
    (ap (λ b. not b || false) (eq-eqb number number refl))
    (sym (ap (is_open_if_of number) (gate_at_read c p (record { is_open = false; number = number }) (gate_read c p closed _ shut.gate terms.closed_is))) ∙ open_is))

-- each place that decides has such a gate, and one of them has the number
pub record Deciders (l : LogView) (number : ℕ) (opened closed : List ℕ) (a : RackView) (c : Image) : Type 0 where
  pub each : (p : ℕ) → Decides c p → Decider l number opened closed a c p
  pub one : ℕ
  pub one_decides : Decides c one
  pub has : IsNew number l.added opened c one ⊎ IsShut l.added closed c one

one_gate : (l : LogView) (on : List ℕ) (number : ℕ) (opened closed : List ℕ) (a : RackView) (c : Image) (p : ℕ)
    → Terms l on number opened closed a → IsNew number l.added opened c p ⊎ IsShut l.added closed c p
    → (g : GateAt) × (gate_at c p ≡ Some g) × (number_of g ≡ number)
one_gate l on number opened closed a c p terms (inl new) =
    (record { place = p; gate = record { is_open = true; number = number } }, gate_at_read c p _ (gate_read c p opened _ new.gate terms.opened_is), refl)
one_gate l on number opened closed a c p terms (inr shut) =
    (record { place = p; gate = record { is_open = false; number = number } }, gate_at_read c p _ (gate_read c p closed _ shut.gate terms.closed_is), refl)

-- the greatest number is that of the commit
pub number_top : (l : LogView) (on : List ℕ) (number : ℕ) (opened closed : List ℕ) (a : RackView) (c : Image)
    → Terms l on number opened closed a → Deciders l number opened closed a c → IsTop (gate_at c) (deciding c) number
number_top l on number opened closed a c terms deciders =
    let one = one_gate l on number opened closed a c deciders.one terms deciders.has in
    top (gate_at c) (deciding c) number deciders.one one.0
    (λ p g among is.
    let has = gate_at_is c p g is in
    number_at_most l on number opened closed a c p g.gate terms (deciders.each p (named_decides c p among)) has.1)
    (decides_named c deciders.one deciders.one_decides) one.1 one.2

-- so all targets are pending, or nothing is and all are written
pub late_pending : (l : LogView) (on : List ℕ) (number : ℕ) (opened closed : List ℕ) (a : RackView) (c : Image)
    → Terms l on number opened closed a → Deciders l number opened closed a c
    → (pending (deciding c) c ≡ l.added) ⊎ ((pending (deciding c) c ≡ []) × IsWritten l.added c)
late_pending l on number opened closed a c terms deciders =
    let ps : List ℕ = deciding c in
    let t : IsTop (gate_at c) ps number = number_top l on number opened closed a c terms deciders in
    let either : (p : ℕ) → names ps p ≡ true → (is_open_if_of number (gate_at c p) ≡ true) ⊎ IsWritten l.added c =
    λ p among. open_or_written l on number opened closed a c p terms (deciders.each p (named_decides c p among)) in
    elim (cases_Bool (list_all (is_open_if_of number) (map (gate_at c) ps))) [
      | inl all ↦
          inl
          (record_pending c ps t.gate l.added
          (λ p among. not_bad l on number opened closed a c p terms (deciders.each p (named_decides c p among)))
          (pending_of_top c ps number t all)
          (top_record l on number opened closed a c t.gate t.is_of.place terms (deciders.each t.is_of.place (named_decides c t.is_of.place t.is_of.is_among))
          t.is_of.gives t.number_is (all_at (is_open_if_of number) (gate_at c) ps t.is_of.place all t.is_of.is_among)))
      | inr some ↦
          elim (all_or (is_open_if_of number) (gate_at c) (IsWritten l.added c) ps either) [
            | inl all ↦ absurd (both_ways (list_all (is_open_if_of number) (map (gate_at c) ps)) some all)
            | inr written ↦ inr (nothing_pending c ps (none_of_top c ps number t some), written)
          ]
    ]

-- no log is damaged
pub late_whole : (l : LogView) (on : List ℕ) (number : ℕ) (opened closed : List ℕ) (a : RackView) (c : Image)
    → Terms l on number opened closed a → Deciders l number opened closed a c → IsWhole c
late_whole l on number opened closed a c terms deciders =
    let ps : List ℕ = deciding c in
    let t : IsTop (gate_at c) ps number = number_top l on number opened closed a c terms deciders in
    whole_from c ps (λ p among. not_bad l on number opened closed a c p terms (deciders.each p (named_decides c p among)))
    (λ x is.
    elim (cases_Bool (list_all (is_open_if_of number) (map (gate_at c) ps))) [
      | inr some ↦ absurd (none-some x (sym (none_of_top c ps number t some) ∙ is))
      | inl all ↦
          let same : t.gate ≡ x = some_gate_at t.gate x (sym (pending_of_top c ps number t all) ∙ is) in (
            l.added,
            ap (λ (y : GateAt). record_in c y.place y.gate.number) (sym same)
                ∙ top_record l on number opened closed a c t.gate t.is_of.place terms (deciders.each t.is_of.place (named_decides c t.is_of.place t.is_of.is_among))
                t.is_of.gives t.number_is (all_at (is_open_if_of number) (gate_at c) ps t.is_of.place all t.is_of.is_among),
          )
    ])
  where
    some_gate_at : (x y : GateAt) → Some x ≡ Some y → x ≡ y
    some_gate_at x y is = (cc)

-- and nothing is pending where one that decides is closed
pub shut_pending : (l : LogView) (on : List ℕ) (number : ℕ) (opened closed : List ℕ) (a : RackView) (c : Image) (p : ℕ)
    → Terms l on number opened closed a → Deciders l number opened closed a c → Decides c p → IsShut l.added closed c p
    → pending (deciding c) c ≡ []
shut_pending l on number opened closed a c p terms deciders decides shut =
    let ps : List ℕ = deciding c in
    let t : IsTop (gate_at c) ps number = number_top l on number opened closed a c terms deciders in
    let is_shut : is_open_if_of number (gate_at c p) ≡ false =
    ap (is_open_if_of number) (gate_at_read c p (record { is_open = false; number = number }) (gate_read c p closed _ shut.gate terms.closed_is))
    ∙ ap (λ b. not b || false) (eq-eqb number number refl) in
    elim (cases_Bool (list_all (is_open_if_of number) (map (gate_at c) ps))) [
      | inl all ↦ absurd (both_ways (is_open_if_of number (gate_at c p)) is_shut (all_at (is_open_if_of number) (gate_at c) ps p all (decides_named c p decides)))
      | inr some ↦ nothing_pending c ps (none_of_top c ps number t some)
    ]

-- what is pending has the number
pub pending_number : (l : LogView) (on : List ℕ) (number : ℕ) (opened closed : List ℕ) (a : RackView) (c : Image) (g : GateAt)
    → Terms l on number opened closed a → Deciders l number opened closed a c → pending_at (deciding c) c ≡ Some g → g.gate.number ≡ number
pending_number l on number opened closed a c g terms deciders is =
    let t : IsTop (gate_at c) (deciding c) number = number_top l on number opened closed a c terms deciders in
    let same : t.gate ≡ g = some_gate_at t.gate g (sym t.foremost_is ∙ pending_is_decisive c (deciding c) g is) in
    sym (ap number_of same) ∙ t.number_is
  where
    some_gate_at : (x y : GateAt) → Some x ≡ Some y → x ≡ y
    some_gate_at x y is = (cc)
