-- What is pending by the gates of fewer places.
use Rattle.std.proofs.Common.{◌≡◌, ℕ, zero, suc, ◌+◌, ◌-◌, ◌≤◌, Bool, true, false, ◌&&◌, nat_lt, cond, if◌then◌else◌, List, [], ◌∷◌, ◌++◌, length, map, filter, Option, Some, None, option_map, unwrap_or, refl, sym, ap, ap₂, ◌∙◌, inl, inr, arith, ◌==◌, eqb-true}
use Rattle.std.specs.Option.{option_and_then}
use Rattle.std.specs.List.{list_all, range_with_len}
use Rattle.std.proofs.lemmas.Bool.{cases_Bool, and_parts, and_from, cond-true, cond-false}
use Rattle.std.proofs.lemmas.List.{append-nil}
use Rattle.std.proofs.lemmas.Map.Views.{any-filter_same}
use Rattle.std.proofs.lemmas.Option.{none-some}
use Rattle.rack.specs.Seen.{Image}
use Rattle.pool_state.specs.declared.contents.State.{State}
use Rattle.array_image.specs.Foremost.{ahead, foremost}
use Rattle.array_image.specs.Record.{GateAt, gate_in, is_bad_gate, record_in, gates_in, is_open_if_of, pending_at, pending}
use Rattle.array_image.specs.States.{is_current, current_places}
use Rattle.log_laws.specs.View.{names}
use Rattle.commit_log.specs.Scans.{number_of}
use Rattle.commit_log.proofs.Deciding.{IsTop, NoneAbove, foremost_among, top_first, gate_at, gate_at_is, all_or, all_at, names_first, names_later, names_either, pending_of_top, pending_is_decisive}
use Rattle.log_laws.proofs.Counting.{is_listed}
use Rattle.commit_log.proofs.LeftPlaces.{filter_in, filter_out, foremost_left, all_left, any_left, foremost_most}
use Rattle.log_laws.proofs.Naming.{filter_more}

-- ---- lists of places

pub filter_names : (f : ℕ → Bool) (ps : List ℕ) (p : ℕ) → f p ≡ true → names ps p ≡ true → names (filter f ps) p ≡ true
filter_names f ps p is named =
    any-filter_same (λ q. q == p) f (f p) (λ q same. ap f (eqb-true q p same)) ps ∙ and_from (f p) (names ps p) is named

pub names_filter : (f : ℕ → Bool) (ps : List ℕ) (p : ℕ) → names (filter f ps) p ≡ true → (f p ≡ true) × (names ps p ≡ true)
names_filter f ps p named =
    and_parts (f p) (names ps p) (sym (any-filter_same (λ q. q == p) f (f p) (λ q same. ap f (eqb-true q p same)) ps) ∙ named)

-- those of some of them that pass another test
pub filter_both : (f g h : ℕ → Bool) (ps : List ℕ) → ((p : ℕ) → h p ≡ (g p && f p)) → filter f (filter g ps) ≡ filter h ps
filter_both f g h [] both = refl
filter_both f g h (q ∷ ps) both =
    elim (cases_Bool (g q)) [
      | inr out ↦
          ap (filter f) (filter_out g q ps out) ∙ filter_both f g h ps both
          ∙ sym (filter_out h q ps (both q ∙ ap (λ b. b && f q) out))
      | inl is ↦
          let as_f : h q ≡ f q = both q ∙ ap (λ b. b && f q) is in
          ap (filter f) (filter_in g q ps is)
          ∙ ap₂ (λ b ks. cond b (q ∷ ks) ks) (sym as_f) (filter_both f g h ps both)
    ]

-- none passes past some number
pub filter_past : (f : ℕ → Bool) (n k : ℕ) → ((p : ℕ) → n ≤ p → f p ≡ false) → filter f (range_with_len 0 (n + k)) ≡ filter f (range_with_len 0 n)
filter_past f n zero none = let same : n + 0 ≡ n = omega arith in ap (λ m. filter f (range_with_len 0 m)) same
filter_past f n (suc k) none =
    let next : n + suc k ≡ n + k + 1 = omega arith in
    ap (λ m. filter f (range_with_len 0 m)) next ∙ filter_more f (n + k)
    ∙ ap (λ b. filter f (range_with_len 0 (n + k)) ++ cond b ((n + k) ∷ []) []) (none (n + k) (omega arith))
    ∙ append-nil (filter f (range_with_len 0 (n + k))) ∙ filter_past f n k none

-- the current places of a state are those of all places
pub current_of_all : (s : State) → length s.drives.items ≤ 16 → current_places s ≡ filter (is_current s) (range_with_len 0 16)
unfolding current_places
current_of_all s few =
    let n : ℕ = length s.drives.items in
    let past : (p : ℕ) → n ≤ p → is_current s p ≡ false =
    λ p most. elim (cases_Bool (is_current s p)) [ inl is ↦ absurd (omega (arith, is_listed s p is, most)) | inr none ↦ none ] in
    let more = extra n few in
    sym (ap (λ m. filter (is_current s) (range_with_len 0 m)) more.1 ∙ filter_past (is_current s) n more.0 past)
  where
    extra : (n : ℕ) → n ≤ 16 → (k : ℕ) × (16 ≡ n + k)
    extra n few = (16 - n, omega arith)

-- ---- places without a gate count for nothing

pub pending_at_left : (f : ℕ → Bool) (c : Image) (ps : List ℕ) → ((p : ℕ) → f p ≡ false → gate_in c p ≡ None) → pending_at (filter f ps) c ≡ pending_at ps c
unfolding pending_at
pending_at_left f c ps none =
    let empty : (p : ℕ) → f p ≡ false → gate_at c p ≡ None = λ p out. ap (λ o. option_map (λ g. record { place = p; gate = g }) o) (none p out) in
    ap (λ (o : Option GateAt). option_and_then (λ a. if list_all (is_open_if_of a.gate.number) (gates_in (filter f ps) c) then Some a else None) o)
    (foremost_left f (gate_at c) (gate_at c) ps (λ p is. refl, empty))
    ∙ by_each (foremost number_of (map (gate_at c) ps)) (λ n. all_left (is_open_if_of n) f (gate_at c) (gate_at c) ps refl (λ p is. refl, empty))
  where
    by_each : (o : Option GateAt) → ((n : ℕ) → list_all (is_open_if_of n) (gates_in (filter f ps) c) ≡ list_all (is_open_if_of n) (gates_in ps c))
        → option_and_then (λ a. if list_all (is_open_if_of a.gate.number) (gates_in (filter f ps) c) then Some a else None) o
        ≡ option_and_then (λ a. if list_all (is_open_if_of a.gate.number) (gates_in ps c) then Some a else None) o
    by_each None each = refl
    by_each (Some a) each = ap (λ b. if b then Some a else None) (each a.gate.number)

pub pending_left : (f : ℕ → Bool) (c : Image) (ps : List ℕ) → ((p : ℕ) → f p ≡ false → gate_in c p ≡ None) → ((p : ℕ) → f p ≡ false → is_bad_gate c p ≡ false)
    → pending (filter f ps) c ≡ pending ps c
unfolding pending
pending_left f c ps none whole =
    ap₂ (λ (bad : Bool) (o : Option GateAt). if bad then [] else unwrap_or (option_and_then (λ a. record_in c a.place a.gate.number) o) [])
    (any_left f (is_bad_gate c) (is_bad_gate c) ps (λ p is. refl, whole))
    (pending_at_left f c ps none)

-- ---- the foremost stays so among fewer

foremost_kept : (h : ℕ → Option GateAt) (f : ℕ → Bool) (ps : List ℕ) (a : GateAt)
    → ((p : ℕ) (x : GateAt) → h p ≡ Some x → x.place ≡ p) → f a.place ≡ true → NoneAbove h ps (number_of a)
    → foremost number_of (map h ps) ≡ Some a → foremost number_of (map h (filter f ps)) ≡ Some a
unfolding foremost
foremost_kept h f [] a placed kept none is = absurd (none-some a is)
foremost_kept h f (q ∷ ps) a placed kept none is =
    of_first (foremost_kept h f ps a placed kept (λ p x named at. none p x (names_later q ps p named) at)) (h q) refl is
  where
    -- the first one is it
    here : h q ≡ Some a → foremost number_of (map h (filter f (q ∷ ps))) ≡ Some a
    here at =
        let kept_q : f q ≡ true = ap f (sym (placed q a at)) ∙ kept in
        let fewer : NoneAbove h (q ∷ filter f ps) (number_of a) =
        λ p x named has. elim (names_either q (filter f ps) p named) [
          | inl first ↦ none p x (ap (names (q ∷ ps)) (sym first) ∙ names_first q ps) has
          | inr rest ↦ none p x (names_later q ps p (names_filter f ps p rest).1) has
        ] in
        ap (λ ks. foremost number_of (map h ks)) (filter_in f q ps kept_q) ∙ ap (λ o. foremost number_of (o ∷ map h (filter f ps))) at
        ∙ top_first h q (filter f ps) (number_of a) a (foremost number_of (map h (filter f ps))) fewer at refl refl

    -- it is a later one
    after : (o : Option GateAt) → h q ≡ o → foremost number_of (o ∷ map h (filter f ps)) ≡ Some a → foremost number_of (map h (filter f ps)) ≡ Some a
        → foremost number_of (map h (filter f (q ∷ ps))) ≡ Some a
    after o at joined rest =
        elim (cases_Bool (f q)) [
          | inl is ↦ ap (λ ks. foremost number_of (map h ks)) (filter_in f q ps is) ∙ ap (λ x. foremost number_of (x ∷ map h (filter f ps))) at ∙ joined
          | inr out ↦ ap (λ ks. foremost number_of (map h ks)) (filter_out f q ps out) ∙ rest
        ]

    of_rest : (foremost number_of (map h ps) ≡ Some a → foremost number_of (map h (filter f ps)) ≡ Some a) → (x : GateAt) (o : Option GateAt) → h q ≡ Some x → foremost number_of (map h ps) ≡ o → ahead number_of x o ≡ Some a
        → foremost number_of (map h (filter f (q ∷ ps))) ≡ Some a
    of_rest later x None at rest is = here (at ∙ is)
    of_rest later x (Some y) at rest is =
        elim (cases_Bool (nat_lt (number_of x) (number_of y))) [
          | inr not_less ↦ here (at ∙ sym (cond-false (nat_lt (number_of x) (number_of y)) (Some y) (Some x) not_less) ∙ is)
          | inl less ↦
              let last : Some y ≡ Some a = sym (cond-true (nat_lt (number_of x) (number_of y)) (Some y) (Some x) less) ∙ is in
              let below : foremost number_of (map h (filter f ps)) ≡ Some a = later (rest ∙ last) in
              after (Some x) at (ap (ahead number_of x) (below ∙ sym last) ∙ is) below
        ]

    of_first : (foremost number_of (map h ps) ≡ Some a → foremost number_of (map h (filter f ps)) ≡ Some a) → (o : Option GateAt) → h q ≡ o → foremost number_of (o ∷ map h ps) ≡ Some a → foremost number_of (map h (filter f (q ∷ ps))) ≡ Some a
    of_first later None at is = after None at (later is) (later is)
    of_first later (Some x) at is = of_rest later x (foremost number_of (map h ps)) at refl is

-- all gates of its number are open
pub pending_all : (c : Image) (ps : List ℕ) (a : GateAt) → pending_at ps c ≡ Some a → list_all (is_open_if_of (number_of a)) (map (gate_at c) ps) ≡ true
unfolding pending_at
pending_all c ps a is = of_foremost (foremost number_of (map (gate_at c) ps)) is
  where
    same_gate : (x : GateAt) → Some x ≡ Some a → x ≡ a
    same_gate x same = (cc)

    of_test : (b : Bool) (x : GateAt) → list_all (is_open_if_of x.gate.number) (gates_in ps c) ≡ b → (if b then Some x else None) ≡ Some a
        → list_all (is_open_if_of (number_of a)) (map (gate_at c) ps) ≡ true
    of_test true x all is = ap (λ (y : GateAt). list_all (is_open_if_of (number_of y)) (map (gate_at c) ps)) (sym (same_gate x is)) ∙ all
    of_test false x all is = absurd (none-some a is)

    of_foremost : (o : Option GateAt) → option_and_then (λ x. if list_all (is_open_if_of x.gate.number) (gates_in ps c) then Some x else None) o ≡ Some a
        → list_all (is_open_if_of (number_of a)) (map (gate_at c) ps) ≡ true
    of_foremost None is = absurd (none-some a is)
    of_foremost (Some x) is = of_test (list_all (is_open_if_of x.gate.number) (gates_in ps c)) x refl is

-- none has a greater number than the one that is pending
pub pending_most : (c : Image) (ps : List ℕ) (a : GateAt) → pending_at ps c ≡ Some a → NoneAbove (gate_at c) ps (number_of a)
pending_most c ps a is p x named at =
    let top = foremost_most (gate_at c) ps p x named at in
    let same : top.0 ≡ a = some_gate top.0 (sym top.1 ∙ pending_is_decisive c ps a is) in
    omega (arith, top.2, ap number_of same)
  where
    some_gate : (z : GateAt) → Some z ≡ Some a → z ≡ a
    some_gate z same = (cc)

-- what is pending is so among fewer places, if its own is one of them
pub pending_kept : (c : Image) (f : ℕ → Bool) (ps : List ℕ) (a : GateAt) → f a.place ≡ true → pending_at ps c ≡ Some a → pending_at (filter f ps) c ≡ Some a
pending_kept c f ps a kept is =
    let first : foremost number_of (map (gate_at c) (filter f ps)) ≡ Some a =
    foremost_kept (gate_at c) f ps a (λ p x at. (gate_at_is c p x at).0) kept (pending_most c ps a is) (pending_is_decisive c ps a is) in
    let top : IsTop (gate_at c) (filter f ps) (number_of a) =
    record { gate = a; is_of = foremost_among (gate_at c) (filter f ps) a first; number_is = refl; foremost_is = first } in
    pending_of_top c (filter f ps) (number_of a) top (all (pending_all c ps a is))
  where
    all : list_all (is_open_if_of (number_of a)) (map (gate_at c) ps) ≡ true → list_all (is_open_if_of (number_of a)) (map (gate_at c) (filter f ps)) ≡ true
    all opens =
        elim (all_or (is_open_if_of (number_of a)) (gate_at c) ⊥ (filter f ps)
        (λ p named. inl (all_at (is_open_if_of (number_of a)) (gate_at c) ps p opens (names_filter f ps p named).1))) [
          | inl is ↦ is
          | inr none ↦ absurd none
        ]
