-- Contents that differ in the log slice of one place alone, whose gate is closed in both, and of number 0 in the second: what is pending in the
-- first is so in the second.
use Rattle.std.proofs.Common.{◌≡◌, ◌≢◌, ◌⊎◌, ℕ, ◌≤◌, ◌==◌, ◌&&◌, ◌||◌, Bool, true, false, not, is_none, if◌then◌else◌, List, [], ◌∷◌, map, filter, Option, Some, None, option_map, unwrap_or, refl, sym, ap, ap₂, subst, ◌∙◌, inl, inr, eq-eqb, arith}
use Rattle.std.specs.Option.{option_and_then}
use Rattle.std.specs.List.{list_all, list_any}
use Rattle.std.proofs.lemmas.Bool.{both_ways, cases_eq, ne_eqb}
use Rattle.rack.specs.Seen.{Image}
use Rattle.rack.specs.Targets.{Target}
use Rattle.array_image.specs.Places.{log_slice}
use Rattle.array_image.specs.Record.{Gate, GateAt, damaged_log, gate_in, gate_of, gate_sector, is_bad_gate, is_open_if_of, is_there, pending, pending_at, record_in, record_of}
use Rattle.log_laws.specs.View.{names}
use Rattle.commit_log.specs.Scans.{number_of}
use Rattle.commit_log.proofs.Deciding.{IsTop, NoneAbove, all_at, all_or, foremost_among, gate_at, gate_at_is, nothing_pending, pending_is_decisive, pending_of_top, top}
use Rattle.commit_log.proofs.Fewer.{names_filter, pending_all, pending_kept, pending_most}
use Rattle.commit_log.proofs.Restored.{pending_at_by}
use Rattle.commit_log.proofs.Undamaged.{whole_from, whole_gates, whole_record}

some_gate : (x y : GateAt) → Some x ≡ Some y → x ≡ y
some_gate x y same = (cc)

the_gate : (g h : Gate) → Some g ≡ Some h → g ≡ h
the_gate g h same = (cc)

-- a gate that is pending is open
pub pending_open : (c : Image) (ps : List ℕ) (a : GateAt) → pending_at ps c ≡ Some a → (names ps a.place ≡ true) × (gate_in c a.place ≡ Some a.gate) × (a.gate.is_open ≡ true)
pending_open c ps a is =
    let of = foremost_among (gate_at c) ps a (pending_is_decisive c ps a is) in
    let at = gate_at_is c of.place a of.gives in
    let passes : is_open_if_of (number_of a) (Some a) ≡ true =
    ap (is_open_if_of (number_of a)) (sym of.gives) ∙ all_at (is_open_if_of (number_of a)) (gate_at c) ps of.place (pending_all c ps a is) of.is_among in (
      ap (names ps) at.0 ∙ of.is_among,
      ap (gate_in c) at.0 ∙ at.1,
      sym (ap (λ b. not b || a.gate.is_open) (eq-eqb (number_of a) (number_of a) refl)) ∙ passes,
    )

-- so where the gates of some places are closed nothing is pending
pub closed_none : (c : Image) (ps : List ℕ) → ((p : ℕ) (g : Gate) → names ps p ≡ true → gate_in c p ≡ Some g → g.is_open ≡ false) → pending_at ps c ≡ None
closed_none c ps closed = of (pending_at ps c) refl
  where
    of : (o : Option GateAt) → pending_at ps c ≡ o → o ≡ None
    of None is = refl
    of (Some a) is = let at = pending_open c ps a is in absurd (both_ways a.gate.is_open (closed a.place a.gate at.0 at.1) at.2)

any_same : (f g : ℕ → Bool) (ps : List ℕ) → ((p : ℕ) → f p ≡ g p) → list_any f ps ≡ list_any g ps
any_same f g [] same = refl
any_same f g (q ∷ ps) same = ap₂ (λ b d. b || d) (same q) (any_same f g ps same)

module _ (c e : Image) (place : ℕ) (same : (p t : ℕ) → p ≢ place → c (log_slice p) t ≡ e (log_slice p) t)
    (g : Gate) (is_g : gate_in c place ≡ Some g) (shut : g.is_open ≡ false)
    (is_first : gate_in e place ≡ Some (record { is_open = false; number = 0 })) (ps : List ℕ) where
  abbrev others : ℕ → Bool
  others p = not (p == place)

  away : (p : ℕ) → others p ≡ true → p ≢ place
  away p is here = both_ways true (sym is ∙ ap not (eq-eqb p place here)) refl

  apart : (p : ℕ) → p ≢ place → others p ≡ true
  apart p other = ap not (ne_eqb p place other)

  bad_same : (p : ℕ) → is_bad_gate c p ≡ is_bad_gate e p
  bad_same p =
      elim (cases_eq p place) [
        | inr other ↦ ap (λ (gate : List ℕ). is_there gate && is_none (gate_of gate)) (same p gate_sector other)
        | inl here ↦ no_bad c p g (ap (gate_in c) here ∙ is_g) ∙ sym (no_bad e p (record { is_open = false; number = 0 }) (ap (gate_in e) here ∙ is_first))
      ]
    where
      no_bad : (i : Image) (q : ℕ) (h : Gate) → gate_in i q ≡ Some h → is_bad_gate i q ≡ false
      no_bad i q h is = ap (λ (o : Option Gate). is_there (i (log_slice q) gate_sector) && is_none o) is ∙ and_false (is_there (i (log_slice q) gate_sector))
        where
          and_false : (b : Bool) → (b && false) ≡ false
          and_false true = refl
          and_false false = refl

  gate_same : (p : ℕ) → p ≢ place → gate_at c p ≡ gate_at e p
  gate_same p other = ap (λ (block : List ℕ). option_map (λ h. record { place = p; gate = h }) (gate_of block)) (same p gate_sector other)

  first_at : gate_at e place ≡ Some (record { place = place; gate = record { is_open = false; number = 0 } })
  first_at = ap (λ o. option_map (λ h. record { place = place; gate = h }) o) is_first

  module _ (a : GateAt) (is : pending_at ps c ≡ Some a) where
    abbrev m : ℕ
    m = number_of a

    opened : (names ps a.place ≡ true) × (gate_in c a.place ≡ Some a.gate) × (a.gate.is_open ≡ true)
    opened = pending_open c ps a is

    pub source_away : a.place ≢ place
    source_away here =
        let gate : a.gate ≡ g = the_gate a.gate g (sym opened.1 ∙ ap (gate_in c) here ∙ is_g) in
        both_ways a.gate.is_open (ap (λ (h : Gate). h.is_open) gate ∙ shut) opened.2

    here_c : gate_at c place ≡ Some (record { place = place; gate = g })
    here_c = ap (λ o. option_map (λ h. record { place = place; gate = h }) o) is_g

    -- where the place decides, its gate in the first has a lower number
    some_number : names ps place ≡ true → m ≡ 0 → ⊥
    some_number named zero =
        let low : g.number ≤ number_of a = pending_most c ps a is place (record { place = place; gate = g }) named here_c in
        let passes : is_open_if_of (number_of a) (Some (record { place = place; gate = g })) ≡ true =
        ap (is_open_if_of (number_of a)) (sym here_c) ∙ all_at (is_open_if_of (number_of a)) (gate_at c) ps place (pending_all c ps a is) named in
        let equal : g.number ≡ number_of a = omega (arith, low, zero) in
        both_ways true (sym passes ∙ ap₂ (λ (b : Bool) (d : Bool). not b || d) (eq-eqb g.number (number_of a) equal) shut) refl

    among_e : gate_at e a.place ≡ Some a
    among_e = sym (gate_same a.place source_away) ∙ ap (λ o. option_map (λ h. record { place = a.place; gate = h }) o) opened.1

    none_above : NoneAbove (gate_at e) ps m
    none_above p x named at =
        elim (cases_eq p place) [
          | inr other ↦ pending_most c ps a is p x named (gate_same p other ∙ at)
          | inl here ↦
              let same_gate : x ≡ record { place = place; gate = record { is_open = false; number = 0 } } = some_gate x _ (sym at ∙ ap (gate_at e) here ∙ first_at) in
              let zero : number_of x ≡ 0 = ap number_of same_gate in
              omega (arith, zero)
        ]

    highest : IsTop (gate_at e) ps m
    highest = top (gate_at e) ps m a.place a none_above opened.0 among_e refl

    all_open : list_all (is_open_if_of m) (map (gate_at e) ps) ≡ true
    all_open =
        elim (all_or (is_open_if_of (number_of a)) (gate_at e) ⊥ ps
        (λ p named. inl (elim (cases_eq p place) [
          | inr other ↦ ap (is_open_if_of (number_of a)) (sym (gate_same p other)) ∙ all_at (is_open_if_of (number_of a)) (gate_at c) ps p (pending_all c ps a is) named
          | inl here ↦
              ap (is_open_if_of (number_of a)) (ap (gate_at e) here ∙ first_at)
              ∙ ap (λ b. not b || false) (ne_eqb 0 (number_of a) (λ zero. some_number (subst (λ q. names ps q ≡ true) here named) (sym zero)))
        ]))) [
          | inl all ↦ all
          | inr none ↦ absurd none
        ]

    now_at : pending_at ps e ≡ Some highest.gate
    now_at = pending_of_top e ps m highest all_open

    -- it is the same gate: both are pending among the other places
    top_away : highest.gate.place ≢ place
    top_away here =
        let at = pending_open e ps highest.gate now_at in
        let gate : highest.gate.gate ≡ record { is_open = false; number = 0 } = the_gate highest.gate.gate _ (sym at.1 ∙ ap (gate_in e) here ∙ is_first) in
        both_ways highest.gate.gate.is_open (ap (λ (h : Gate). h.is_open) gate) at.2

    fewer_same : pending_at (filter others ps) c ≡ pending_at (filter others ps) e
    fewer_same = pending_at_by c e (filter others ps) (λ p named. same p gate_sector (away p (names_filter others ps p named).0))

    pub pending_still : pending_at ps e ≡ Some a
    pending_still =
        now_at
        ∙ sym (pending_kept e others ps highest.gate (apart highest.gate.place top_away) now_at)
        ∙ sym fewer_same
        ∙ pending_kept c others ps a (apart a.place source_away) is

    pub record_still : record_in c a.place a.gate.number ≡ record_in e a.place a.gate.number
    record_still = ap (record_of a.gate.number) (λ i t. same a.place t source_away i)

  -- Nothing is pending in the first, or what is pending in the second.
  pub pending_retired : (pending ps c ≡ []) ⊎ (pending ps c ≡ pending ps e)
  unfolding pending
  pending_retired = of (pending_at ps c) refl
    where
      of : (o : Option GateAt) → pending_at ps c ≡ o → (pending ps c ≡ []) ⊎ (pending ps c ≡ pending ps e)
      of None is = inl (nothing_pending c ps is)
      of (Some a) is =
          inr (ap₂ (λ (bad : Bool) (o : Option (List Target)). if bad then [] else unwrap_or o [])
          (any_same (is_bad_gate c) (is_bad_gate e) ps bad_same)
          (ap (λ (o : Option GateAt). option_and_then (λ x. record_in c x.place x.gate.number) o) is
          ∙ record_still a is
          ∙ sym (ap (λ (o : Option GateAt). option_and_then (λ x. record_in e x.place x.gate.number) o) (pending_still a is))))

  -- And the first is whole where the second is.
  pub whole_retired : damaged_log ps e ≡ None → damaged_log ps c ≡ None
  whole_retired none =
      whole_from c ps (λ p among. bad_same p ∙ whole_gates e ps p none among)
      (λ a is. let has = whole_record e ps none a (pending_still a is) in (has.0, record_still a is ∙ has.1))
