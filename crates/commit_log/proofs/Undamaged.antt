-- Contents of which no log is damaged.
use Rattle.std.proofs.Common.{◌≡◌, ℕ, ◌==◌, ◌&&◌, ◌||◌, Bool, true, false, cond, is_none, List, [], ◌∷◌, find, Option, Some, None, refl, sym, ap, ap₂, ◌∙◌, inl, inr, eq-eqb}
use Rattle.std.specs.Option.{option_map_or}
use Rattle.std.proofs.lemmas.Bool.{cases_Bool, both_ways, or_parts, cond-true}
use Rattle.std.proofs.lemmas.Option.{none-some}
use Rattle.rack.specs.Seen.{Image}
use Rattle.rack.specs.Targets.{Target}
use Rattle.array_image.specs.Places.{log_slice}
use Rattle.array_image.specs.Record.{GateAt, gate_sector, gate_of, is_there, is_bad_gate, record_in, pending_at, is_bad_log, damaged_log}
use Rattle.log_laws.specs.View.{names}
use Rattle.commit_log.proofs.Deciding.{foremost_among, gate_at, gate_at_is, pending_is_decisive, names_first, names_later, names_either}
use Rattle.commit_log.proofs.Restored.{pending_at_by}

-- nothing is found where none passes
find_none : (g : ℕ → Bool) (ps : List ℕ) → ((p : ℕ) → names ps p ≡ true → g p ≡ false) → find g ps ≡ None
find_none g [] none = refl
find_none g (q ∷ ps) none = ap₂ (λ b o. cond b (Some q) o) (none q (names_first q ps)) (find_none g ps (λ p among. none p (names_later q ps p among)))

none_found : (g : ℕ → Bool) (ps : List ℕ) (p : ℕ) → find g ps ≡ None → names ps p ≡ true → g p ≡ false
none_found g [] p none among = absurd (both_ways false refl among)
none_found g (q ∷ ps) p none among =
    elim (cases_Bool (g q)) [
      | inl is ↦ absurd (none-some q (sym none ∙ cond-true (g q) (Some q) (find g ps) is))
      | inr is_not ↦
          elim (names_either q ps p among) [
            | inl here ↦ ap g (sym here) ∙ is_not
            | inr later ↦ none_found g ps p (sym (ap (λ b. cond b (Some q) (find g ps)) is_not) ∙ none) later
          ]
    ]

-- the pending record's place and number give a record
abbrev pub HasRecord : List ℕ → Image → Type 0
HasRecord ps c = (x : GateAt) → pending_at ps c ≡ Some x → (xs : List Target) × (record_in c x.place x.gate.number ≡ Some xs)

-- whole gates and a whole record
pub whole_from : (c : Image) (ps : List ℕ) → ((p : ℕ) → names ps p ≡ true → is_bad_gate c p ≡ false) → HasRecord ps c → damaged_log ps c ≡ None
whole_from c ps gates has = find_none (is_bad_log ps c) ps (λ p among. ap₂ (λ x y. x || y) (gates p among) (of_pending p (pending_at ps c) has))
  where
    and_false : (b : Bool) → (b && false) ≡ false
    and_false true = refl
    and_false false = refl

    of_pending : (p : ℕ) (o : Option GateAt) → ((x : GateAt) → o ≡ Some x → (xs : List Target) × (record_in c x.place x.gate.number ≡ Some xs))
        → option_map_or (λ x. (x.place == p) && is_none (record_in c x.place x.gate.number)) o false ≡ false
    of_pending p None each = refl
    of_pending p (Some x) each = ap (λ (o : Option (List Target)). (x.place == p) && is_none o) (each x refl).1 ∙ and_false (x.place == p)

-- and these from contents that are whole
pub whole_gates : (c : Image) (ps : List ℕ) (p : ℕ) → damaged_log ps c ≡ None → names ps p ≡ true → is_bad_gate c p ≡ false
whole_gates c ps p none among =
    (or_parts (is_bad_gate c p) (option_map_or (λ x. (x.place == p) && is_none (record_in c x.place x.gate.number)) (pending_at ps c) false)
    (none_found (is_bad_log ps c) ps p none among)).0

pub whole_record : (c : Image) (ps : List ℕ) → damaged_log ps c ≡ None → HasRecord ps c
whole_record c ps none x is =
    let of = foremost_among (gate_at c) ps x (pending_is_decisive c ps x is) in
    let place = (gate_at_is c of.place x of.gives).0 in
    let rest = (or_parts (is_bad_gate c of.place) (option_map_or (λ y. (y.place == of.place) && is_none (record_in c y.place y.gate.number)) (pending_at ps c) false)
    (none_found (is_bad_log ps c) ps of.place none of.is_among)).1 in
    of_record (record_in c x.place x.gate.number)
    (sym (ap (λ b. b && is_none (record_in c x.place x.gate.number)) (eq-eqb x.place of.place place))
    ∙ sym (ap (λ (o : Option GateAt). option_map_or (λ y. (y.place == of.place) && is_none (record_in c y.place y.gate.number)) o false) is) ∙ rest)
  where
    of_record : (o : Option (List Target)) → is_none o ≡ false → (xs : List Target) × (o ≡ Some xs)
    of_record None some = absurd (both_ways true some refl)
    of_record (Some xs) some = (xs, refl)

-- contents with the same gates, and the same record where one is pending
pub whole_by : (c e : Image) (ps : List ℕ) → ((p : ℕ) → names ps p ≡ true → c (log_slice p) gate_sector ≡ e (log_slice p) gate_sector)
    → ((x : GateAt) → pending_at ps e ≡ Some x → record_in c x.place x.gate.number ≡ record_in e x.place x.gate.number)
    → damaged_log ps e ≡ None → damaged_log ps c ≡ None
whole_by c e ps gates records none =
    whole_from c ps
    (λ p among. ap (λ (block : List ℕ). is_there block && is_none (gate_of block)) (gates p among) ∙ whole_gates e ps p none among)
    (λ x is.
    let there : pending_at ps e ≡ Some x = sym (pending_at_by c e ps gates) ∙ is in
    let has = whole_record e ps none x there in
    (has.0, records x there ∙ has.1))
