-- Which gates decide, and what is pending by them.
use Rattle.std.proofs.Common.{◌≡◌, ◌⊎◌, ℕ, ◌≤◌, ◌==◌, ◌||◌, Bool, true, false, nat_lt, if◌then◌else◌, List, [], ◌∷◌, map, Option, Some, None, unwrap_or, option_map, refl, sym, ap, ap₂, ◌∙◌, inl, inr, arith, eq-eqb, ltb-true, lt-ltb}
use Rattle.std.specs.Option.{option_and_then}
use Rattle.std.specs.List.{list_all, list_any}
use Rattle.std.proofs.lemmas.Bool.{cases_Bool, cases_eq, cases_lt, both_ways, and_from, and_parts, ne_eqb, cond-true, cond-false}
use Rattle.std.proofs.lemmas.Option.{none-some}
use Rattle.rack.specs.Seen.{Image}
use Rattle.rack.specs.Targets.{Target}
use Rattle.array_image.specs.Foremost.{ahead, foremost}
use Rattle.array_image.specs.Record.{Gate, GateAt, gate_in, is_bad_gate, record_in, gates_in, is_open_if_of, pending_at, pending_record, pending}
use Rattle.log_laws.specs.View.{names}
use Rattle.commit_log.specs.Scans.{number_of}

-- ---- the foremost of what places have

-- a value of a place
pub record IsOf (h : ℕ → Option GateAt) (ps : List ℕ) (a : GateAt) : Type 0 where
  pub place : ℕ
  pub is_among : names ps place ≡ true
  pub gives : h place ≡ Some a

pub names_later : (q : ℕ) (ps : List ℕ) (p : ℕ) → names ps p ≡ true → names (q ∷ ps) p ≡ true
names_later q ps p is = or_true (q == p) (names ps p) is
  where
    or_true : (b c : Bool) → c ≡ true → (b || c) ≡ true
    or_true true c is = refl
    or_true false c is = is

pub names_first : (q : ℕ) (ps : List ℕ) → names (q ∷ ps) q ≡ true
names_first q ps = ap (λ b. b || names ps q) (eq-eqb q q refl)

-- one of a list is the first or a later one
pub names_either : (q : ℕ) (ps : List ℕ) (p : ℕ) → names (q ∷ ps) p ≡ true → (q ≡ p) ⊎ (names ps p ≡ true)
names_either q ps p is =
    elim (cases_eq q p) [
      | inl here ↦ inl here
      | inr other ↦ inr (sym (ap (λ b. b || names ps p) (ne_eqb q p other)) ∙ is)
    ]

is_later : {h : ℕ → Option GateAt} {ps : List ℕ} {a : GateAt} (q : ℕ) → IsOf h ps a → IsOf h (q ∷ ps) a
is_later {ps = ps} q is = record { place = is.place; is_among = names_later q ps is.place is.is_among; gives = is.gives }

-- of one more and the foremost of others
among_two : (h : ℕ → Option GateAt) (q : ℕ) (ps : List ℕ) (a x : GateAt) (o : Option GateAt)
    → (foremost number_of (map h ps) ≡ Some a → IsOf h ps a)
    → h q ≡ Some x → foremost number_of (map h ps) ≡ o → ahead number_of x o ≡ Some a → IsOf h (q ∷ ps) a
among_two h q ps a x None later here rest is = record { place = q; is_among = names_first q ps; gives = here ∙ is }
among_two h q ps a x (Some y) later here rest is =
    elim (cases_Bool (nat_lt (number_of x) (number_of y))) [
      | inl less ↦ is_later q (later (rest ∙ sym (cond-true (nat_lt (number_of x) (number_of y)) (Some y) (Some x) less) ∙ is))
      | inr not_less ↦ record { place = q; is_among = names_first q ps; gives = here ∙ sym (cond-false (nat_lt (number_of x) (number_of y)) (Some y) (Some x) not_less) ∙ is }
    ]

among_one : (h : ℕ → Option GateAt) (q : ℕ) (ps : List ℕ) (a : GateAt) (o : Option GateAt)
    → (foremost number_of (map h ps) ≡ Some a → IsOf h ps a)
    → h q ≡ o → foremost number_of (o ∷ map h ps) ≡ Some a → IsOf h (q ∷ ps) a
unfolding foremost
among_one h q ps a None later here is = is_later q (later is)
among_one h q ps a (Some x) later here is = among_two h q ps a x (foremost number_of (map h ps)) later here refl is

-- the foremost is one of them
pub foremost_among : (h : ℕ → Option GateAt) (ps : List ℕ) (a : GateAt) → foremost number_of (map h ps) ≡ Some a → IsOf h ps a
unfolding foremost
foremost_among h [] a is = absurd (none-some a is)
foremost_among h (q ∷ ps) a is = among_one h q ps a (h q) (foremost_among h ps a) refl is

-- the foremost of those of which none has a greater number, and one has this
pub record IsTop (h : ℕ → Option GateAt) (ps : List ℕ) (m : ℕ) : Type 0 where
  pub gate : GateAt
  pub is_of : IsOf h ps gate
  pub number_is : number_of gate ≡ m
  pub foremost_is : foremost number_of (map h ps) ≡ Some gate

-- none has a greater number
abbrev pub NoneAbove : (ℕ → Option GateAt) → List ℕ → ℕ → Type 0
NoneAbove h ps m = (p : ℕ) (a : GateAt) → names ps p ≡ true → h p ≡ Some a → number_of a ≤ m

none_later : (h : ℕ → Option GateAt) (q : ℕ) (ps : List ℕ) (m : ℕ) → NoneAbove h (q ∷ ps) m → NoneAbove h ps m
none_later h q ps m none p a among is = none p a (names_later q ps p among) is

-- the first has the number
pub top_first : (h : ℕ → Option GateAt) (q : ℕ) (ps : List ℕ) (m : ℕ) (x : GateAt) (o : Option GateAt) → NoneAbove h (q ∷ ps) m
    → h q ≡ Some x → number_of x ≡ m → foremost number_of (map h ps) ≡ o → foremost number_of (Some x ∷ map h ps) ≡ Some x
unfolding foremost
top_first h q ps m x None none here number rest = ap (ahead number_of x) rest
top_first h q ps m x (Some y) none here number rest =
    let of : IsOf h ps y = foremost_among h ps y rest in
    let below : number_of y ≤ m = none of.place y (names_later q ps of.place of.is_among) of.gives in
    ap (ahead number_of x) rest ∙ cond-false (nat_lt (number_of x) (number_of y)) (Some y) (Some x) (not_lt (number_of x) (number_of y) (omega arith))
  where
    not_lt : (m n : ℕ) → n ≤ m → nat_lt m n ≡ false
    not_lt m n le = elim (cases_Bool (nat_lt m n)) [ inl less ↦ absurd (omega (arith, ltb-true m n less)) | inr is ↦ is ]

-- a later one has it
top_later : (h : ℕ → Option GateAt) (q : ℕ) (ps : List ℕ) (m : ℕ) (o : Option GateAt) → NoneAbove h (q ∷ ps) m
    → h q ≡ o → (t : IsTop h ps m) → IsTop h (q ∷ ps) m
unfolding foremost
top_later h q ps m None none here t = record {
  gate = t.gate;
  is_of = is_later q t.is_of;
  number_is = t.number_is;
  foremost_is = ap (λ o. foremost number_of (o ∷ map h ps)) here ∙ t.foremost_is;
}
top_later h q ps m (Some x) none here t =
    let joined : foremost number_of (map h (q ∷ ps)) ≡ ahead number_of x (Some t.gate) =
    ap (λ o. foremost number_of (o ∷ map h ps)) here ∙ ap (ahead number_of x) t.foremost_is in
    elim (cases_Bool (nat_lt (number_of x) (number_of t.gate))) [
      | inl less ↦ record {
        gate = t.gate;
        is_of = is_later q t.is_of;
        number_is = t.number_is;
        foremost_is = joined ∙ cond-true (nat_lt (number_of x) (number_of t.gate)) (Some t.gate) (Some x) less;
      }
      | inr not_less ↦ record {
        gate = x;
        is_of = record { place = q; is_among = names_first q ps; gives = here };
        number_is = let below : number_of x ≤ m = none q x (names_first q ps) here in omega (arith, t.number_is, below, not_lt (number_of x) (number_of t.gate) not_less);
        foremost_is = joined ∙ cond-false (nat_lt (number_of x) (number_of t.gate)) (Some t.gate) (Some x) not_less;
      }
    ]
  where
    not_lt : (m n : ℕ) → nat_lt m n ≡ false → n ≤ m
    not_lt m n is = elim (cases_lt m n) [ inl less ↦ absurd (both_ways (nat_lt m n) is (lt-ltb m n less)) | inr le ↦ le ]

pub top : (h : ℕ → Option GateAt) (ps : List ℕ) (m p : ℕ) (a : GateAt) → NoneAbove h ps m
    → names ps p ≡ true → h p ≡ Some a → number_of a ≡ m → IsTop h ps m
top h [] m p a none among is number = absurd (both_ways false refl among)
top h (q ∷ ps) m p a none among is number =
    elim (names_either q ps p among) [
      | inl here ↦
          let first : h q ≡ Some a = ap h here ∙ is in
          record {
            gate = a;
            is_of = record { place = q; is_among = names_first q ps; gives = first };
            number_is = number;
            foremost_is = ap (λ o. foremost number_of (o ∷ map h ps)) first ∙ top_first h q ps m a (foremost number_of (map h ps)) none first number refl;
          }
      | inr later ↦ top_later h q ps m (h q) none refl (top h ps m p a (none_later h q ps m none) later is number)
    ]

-- each passes a test, or something else holds
pub all_or : (test : Option GateAt → Bool) (h : ℕ → Option GateAt) (W : Type 0) (ps : List ℕ)
    → ((p : ℕ) → names ps p ≡ true → (test (h p) ≡ true) ⊎ W) → (list_all test (map h ps) ≡ true) ⊎ W
all_or test h W [] each = inl refl
all_or test h W (q ∷ ps) each =
    elim (each q (names_first q ps)) [
      | inl here ↦
          elim (all_or test h W ps (λ p among. each p (names_later q ps p among))) [
            | inl later ↦ inl (and_from (test (h q)) (list_all test (map h ps)) here later)
            | inr other ↦ inr other
          ]
      | inr other ↦ inr other
    ]

-- where all do, one does
pub all_at : (test : Option GateAt → Bool) (h : ℕ → Option GateAt) (ps : List ℕ) (p : ℕ) → list_all test (map h ps) ≡ true → names ps p ≡ true → test (h p) ≡ true
all_at test h [] p all among = absurd (both_ways false refl among)
all_at test h (q ∷ ps) p all among =
    let parts = and_parts (test (h q)) (list_all test (map h ps)) all in
    elim (names_either q ps p among) [
      | inl here ↦ ap (λ k. test (h k)) (sym here) ∙ parts.0
      | inr later ↦ all_at test h ps p parts.1 later
    ]

-- ---- gates in contents

abbrev pub gate_at : Image → ℕ → Option GateAt
gate_at c place = option_map (λ g. record { place = place; gate = g }) (gate_in c place)

-- no gate of these places is there and not well formed
abbrev pub NoneBad : Image → List ℕ → Type 0
NoneBad c ps = (p : ℕ) → names ps p ≡ true → is_bad_gate c p ≡ false

none_bad : (c : Image) (ps : List ℕ) → NoneBad c ps → list_any (is_bad_gate c) ps ≡ false
none_bad c [] none = refl
none_bad c (q ∷ ps) none =
    ap₂ (λ b d. b || d) (none q (names_first q ps)) (none_bad c ps (λ p among. none p (names_later q ps p among)))

-- what the gate of a place is, where it has one
pub gate_at_is : (c : Image) (p : ℕ) (a : GateAt) → gate_at c p ≡ Some a → (a.place ≡ p) × (gate_in c p ≡ Some a.gate)
gate_at_is c p a is = of_gate (gate_in c p) is
  where
    of_gate : (o : Option Gate) → option_map (λ g. record { place = p; gate = g }) o ≡ Some a → (a.place ≡ p) × (o ≡ Some a.gate)
    of_gate None is = absurd (none-some a is)
    of_gate (Some g) is =
        let same : record { place = p; gate = g } ≡ a = (cc) in
        (ap (λ (b : GateAt). b.place) (sym same), ap (λ (b : GateAt). Some b.gate) same)

-- nothing is pending
pub nothing_pending : (c : Image) (ps : List ℕ) → pending_at ps c ≡ None → pending ps c ≡ []
unfolding pending
nothing_pending c ps none =
    ap (λ (o : Option GateAt). if list_any (is_bad_gate c) ps then [] else unwrap_or (option_and_then (λ a. record_in c a.place a.gate.number) o) []) none
    ∙ if_same (list_any (is_bad_gate c) ps) []
  where
    if_same : (b : Bool) (xs : List Target) → (if b then xs else xs) ≡ xs
    if_same true xs = refl
    if_same false xs = refl

-- a record is
pub record_pending : (c : Image) (ps : List ℕ) (a : GateAt) (xs : List Target) → NoneBad c ps
    → pending_at ps c ≡ Some a → record_in c a.place a.gate.number ≡ Some xs → pending ps c ≡ xs
unfolding pending
record_pending c ps a xs none is has =
    cond-false (list_any (is_bad_gate c) ps) [] (unwrap_or (pending_record ps c) []) (none_bad c ps none)
    ∙ ap (λ (o : Option GateAt). unwrap_or (option_and_then (λ a. record_in c a.place a.gate.number) o) []) is
    ∙ ap (λ (o : Option (List Target)). unwrap_or o []) has

-- what is pending is that of the decisive gate
pub pending_of_top : (c : Image) (ps : List ℕ) (m : ℕ) (t : IsTop (gate_at c) ps m) → list_all (is_open_if_of m) (map (gate_at c) ps) ≡ true
    → pending_at ps c ≡ Some t.gate
unfolding pending_at
pending_of_top c ps m t all =
    ap (λ (o : Option GateAt). option_and_then (λ a. if list_all (is_open_if_of a.gate.number) (gates_in ps c) then Some a else None) o) t.foremost_is
    ∙ cond-true (list_all (is_open_if_of (number_of t.gate)) (map (gate_at c) ps)) (Some t.gate) None
    (ap (λ (n : ℕ). list_all (is_open_if_of n) (map (gate_at c) ps)) t.number_is ∙ all)

pub none_of_top : (c : Image) (ps : List ℕ) (m : ℕ) (t : IsTop (gate_at c) ps m) → list_all (is_open_if_of m) (map (gate_at c) ps) ≡ false
    → pending_at ps c ≡ None
unfolding pending_at
none_of_top c ps m t all =
    ap (λ (o : Option GateAt). option_and_then (λ a. if list_all (is_open_if_of a.gate.number) (gates_in ps c) then Some a else None) o) t.foremost_is
    ∙ cond-false (list_all (is_open_if_of (number_of t.gate)) (map (gate_at c) ps)) (Some t.gate) None
    (ap (λ (n : ℕ). list_all (is_open_if_of n) (map (gate_at c) ps)) t.number_is ∙ all)

-- a pending gate is the decisive one
pub pending_is_decisive : (c : Image) (ps : List ℕ) (a : GateAt) → pending_at ps c ≡ Some a → foremost number_of (map (gate_at c) ps) ≡ Some a
unfolding pending_at
pending_is_decisive c ps a is = of_foremost (foremost number_of (map (gate_at c) ps)) is
  where
    some_if : (b : Bool) (x : GateAt) → (if b then Some x else None) ≡ Some a → Some x ≡ Some a
    some_if true x is = is
    some_if false x is = absurd (none-some a is)

    of_foremost : (o : Option GateAt) → option_and_then (λ x. if list_all (is_open_if_of x.gate.number) (gates_in ps c) then Some x else None) o ≡ Some a → o ≡ Some a
    of_foremost None is = absurd (none-some a is)
    of_foremost (Some x) is = some_if (list_all (is_open_if_of x.gate.number) (gates_in ps c)) x is
