-- The foremost of a row in which some values were replaced by ones of the greatest measure.
use Rattle.std.proofs.Common.{◌≡◌, ◌⊎◌, ℕ, zero, suc, ◌+◌, ◌<◌, ◌≤◌, if◌then◌else◌, List, ◌∷◌, map, Option, Some, None, refl, sym, ap, subst, ◌∙◌, inl, inr, arith, lt-ltb, le-ltb}
use Rattle.std.specs.List.{range_with_len}
use Rattle.std.proofs.lemmas.Bool.{cases_lt}
use Rattle.std.proofs.lemmas.Option.{none-some}
use Rattle.array_image.specs.Foremost.{ahead, foremost}

-- a value is as it was, or a new one
abbrev pub Front : {X : Type 0} → (X → Type 0) → Option X → Option X → Type 0
Front {X} New o r = (o ≡ r) ⊎ ((y : X) × (o ≡ Some y) × New y)

-- it isn't above this measure
abbrev pub IsLow : {X : Type 0} → (X → ℕ) → ℕ → Option X → Type 0
IsLow {X} measure most o = (z : X) → o ≡ Some z → measure z ≤ most

module _ {X : Type 0} (measure : X → ℕ) where
  abbrev joined : Option X → Option X → Option X
  joined None rest = rest
  joined (Some k) rest = ahead measure k rest

  foremost_joined : (o : Option X) (others : List (Option X)) → foremost measure (o ∷ others) ≡ joined o (foremost measure others)
  unfolding foremost
  foremost_joined None others = refl
  foremost_joined (Some k) others = refl

  some_value : (x z : X) → Some x ≡ Some z → x ≡ z
  some_value x z is = (cc)

  stays_first : (k : X) (o : Option X) → ((z : X) → o ≡ Some z → measure z ≤ measure k) → ahead measure k o ≡ Some k
  stays_first k None low = refl
  stays_first k (Some z) low = ap (λ b. if b then Some z else Some k) (le-ltb (measure k) (measure z) (low z refl))

  -- of two that aren't above neither is
  low_parts : (most : ℕ) (k : X) (o : Option X) → IsLow measure most (ahead measure k o) → (measure k ≤ most) × IsLow measure most o
  low_parts most k None low = (low k refl, λ z is. absurd (none-some z is))
  low_parts most k (Some y) low =
      elim (cases_lt (measure k) (measure y)) [
        | inl less ↦
            let top : measure y ≤ most = low y (ap (λ b. if b then Some y else Some k) (lt-ltb (measure k) (measure y) less)) in
            (omega (arith, less, top), λ z is. subst (λ (x : X). measure x ≤ most) (some_value y z is) top)
        | inr le ↦
            let top : measure k ≤ most = low k (ap (λ b. if b then Some y else Some k) (le-ltb (measure k) (measure y) le)) in
            (top, λ z is. subst (λ (x : X). measure x ≤ most) (some_value y z is) (omega (arith, le, top)))
      ]

  -- where the foremost isn't above, none is
  pub low_all : (most : ℕ) (h : ℕ → Option X) (a n p : ℕ) (x : X) → IsLow measure most (foremost measure (map h (range_with_len a n)))
      → a ≤ p → p < a + n → h p ≡ Some x → measure x ≤ most
  low_all most h a zero p x low from past is = absurd (omega (arith, from, past))
  low_all most h a (suc n) p x low from past is =
      let later : Option X = foremost measure (map h (range_with_len (a + 1) n)) in
      let both : IsLow measure most (joined (h a) later) = λ z now. low z (foremost_joined (h a) (map h (range_with_len (a + 1) n)) ∙ now) in
      elim (cases_lt a p) [
        | inl below ↦ low_all most h (a + 1) n p x (of_rest (h a) later both) (omega (arith, below)) (omega (arith, past)) is
        | inr same ↦
            let here : a ≡ p = omega (arith, from, same) in
            (low_parts most x later (subst (λ (o : Option X). IsLow measure most (joined o later)) (ap h here ∙ is) both)).0
      ]
    where
      of_rest : (o later : Option X) → IsLow measure most (joined o later) → IsLow measure most later
      of_rest None later low = low
      of_rest (Some k) later low = (low_parts most k later low).1

  -- where there is no foremost, there is none
  pub none_all : (h : ℕ → Option X) (a n p : ℕ) (x : X) → foremost measure (map h (range_with_len a n)) ≡ None → a ≤ p → p < a + n → h p ≡ Some x → ⊥
  none_all h a zero p x none from past is = absurd (omega (arith, from, past))
  none_all h a (suc n) p x none from past is =
      of_first (λ later below. none_all h (a + 1) n p x later (omega (arith, below)) (omega (arith, past)) is)
      (h a) refl (sym (foremost_joined (h a) (map h (range_with_len (a + 1) n))) ∙ none)
    where
      no_ahead : (k : X) (o : Option X) → ahead measure k o ≡ None → ⊥
      no_ahead k None at = none-some k (sym at)
      no_ahead k (Some y) at =
          elim (cases_lt (measure k) (measure y)) [
            | inl less ↦ none-some y (sym at ∙ ap (λ b. if b then Some y else Some k) (lt-ltb (measure k) (measure y) less))
            | inr le ↦ none-some k (sym at ∙ ap (λ b. if b then Some y else Some k) (le-ltb (measure k) (measure y) le))
          ]

      of_first : (foremost measure (map h (range_with_len (a + 1) n)) ≡ None → a < p → ⊥)
          → (o : Option X) → h a ≡ o → joined o (foremost measure (map h (range_with_len (a + 1) n))) ≡ None → ⊥
      of_first rest (Some k) at later = no_ahead k (foremost measure (map h (range_with_len (a + 1) n))) later
      of_first rest None at later =
          elim (cases_lt a p) [
            | inl below ↦ rest later below
            | inr same ↦ (let here : a ≡ p = omega (arith, from, same) in none-some x (sym at ∙ ap h here ∙ is))
          ]

  -- where none is above, the foremost isn't
  pub low_foremost : (most : ℕ) (h : ℕ → Option X) (a n : ℕ) → ((p : ℕ) (x : X) → a ≤ p → p < a + n → h p ≡ Some x → measure x ≤ most)
      → IsLow measure most (foremost measure (map h (range_with_len a n)))
  unfolding foremost
  low_foremost most h a zero each z is = absurd (none-some z is)
  low_foremost most h a (suc n) each z is =
      of_joined (h a) refl (foremost measure (map h (range_with_len (a + 1) n)))
      (low_foremost most h (a + 1) n (λ p x from past at. each p x (omega (arith, from)) (omega (arith, past)) at))
      (sym (foremost_joined (h a) (map h (range_with_len (a + 1) n))) ∙ is)
    where
      of_joined : (o : Option X) → h a ≡ o → (later : Option X) → IsLow measure most later → joined o later ≡ Some z → measure z ≤ most
      of_joined None at later low is = low z is
      of_joined (Some k) at None low is = subst (λ (x : X). measure x ≤ most) (some_value k z is) (each a k (omega arith) (omega arith) at)
      of_joined (Some k) at (Some y) low is =
          elim (cases_lt (measure k) (measure y)) [
            | inl less ↦
                subst (λ (x : X). measure x ≤ most) (some_value y z (sym (ap (λ b. if b then Some y else Some k) (lt-ltb (measure k) (measure y) less)) ∙ is)) (low y refl)
            | inr le ↦
                subst (λ (x : X). measure x ≤ most) (some_value k z (sym (ap (λ b. if b then Some y else Some k) (le-ltb (measure k) (measure y) le)) ∙ is))
                (each a k (omega arith) (omega arith) at)
          ]

module _ {X : Type 0} (measure : X → ℕ) (New : X → Type 0) (top : ℕ) (new_top : (y : X) → New y → measure y ≡ top) where
  front_low : (o r : Option X) → Front New o r → IsLow measure top r → IsLow measure top o
  front_low o r (inl same) low z is = low z (sym same ∙ is)
  front_low o r (inr new) low z is =
      let same : new.0 ≡ z = some_value measure new.0 z (sym new.1 ∙ is) in
      subst (λ (x : X). measure x ≤ top) same (omega (arith, new_top new.0 new.2))

  -- a value that stays, before others
  front_ahead : (k : X) (o r : Option X) → Front New o r → IsLow measure top (ahead measure k r) → Front New (ahead measure k o) (ahead measure k r)
  front_ahead k o r (inl same) low = inl (ap (ahead measure k) same)
  front_ahead k o r (inr new) low =
      let is_top : measure new.0 ≡ top = new_top new.0 new.2 in
      elim (cases_lt (measure k) (measure new.0)) [
        | inl less ↦
            inr (new.0, ap (ahead measure k) new.1 ∙ ap (λ b. if b then Some new.0 else Some k) (lt-ltb (measure k) (measure new.0) less), new.2)
        | inr le ↦
            inl (ap (ahead measure k) new.1 ∙ ap (λ b. if b then Some new.0 else Some k) (le-ltb (measure k) (measure new.0) le)
            ∙ sym (stays_first measure k r (λ z is. let most = (low_parts measure top k r low).1 z is in omega (arith, most, le, is_top))))
      ]

  front_joined : (o p rest others : Option X) → Front New o p → (IsLow measure top others → Front New rest others) → IsLow measure top (joined measure p others)
      → Front New (joined measure o rest) (joined measure p others)
  front_joined o None rest others (inl same) later low =
      let at : joined measure o rest ≡ rest = ap (λ x. joined measure x rest) same in
      elim (later low) [ inl is ↦ inl (at ∙ is) | inr new ↦ inr (new.0, at ∙ new.1, new.2) ]
  front_joined o (Some k) rest others (inl same) later low =
      subst (λ x. Front New (joined measure x rest) (ahead measure k others)) (sym same) (front_ahead k rest others (later (low_parts measure top k others low).1) low)
  front_joined o p rest others (inr new) later low =
      let is_top : measure new.0 ≡ top = new_top new.0 new.2 in
      let below : IsLow measure top others = of_first p low in
      inr (
        new.0,
        ap (λ x. joined measure x rest) new.1
            ∙ stays_first measure new.0 rest (λ z is. let most = front_low rest others (later below) below z is in omega (arith, most, is_top)),
        new.2,
      )
    where
      of_first : (q : Option X) → IsLow measure top (joined measure q others) → IsLow measure top others
      of_first None low = low
      of_first (Some k) low = (low_parts measure top k others low).1

  -- the foremost is as it was, or a new one
  pub front_all : (g h : ℕ → Option X) (a n : ℕ) → ((p : ℕ) → a ≤ p → p < a + n → Front New (g p) (h p))
      → IsLow measure top (foremost measure (map h (range_with_len a n)))
      → Front New (foremost measure (map g (range_with_len a n))) (foremost measure (map h (range_with_len a n)))
  front_all g h a zero each low = inl refl
  front_all g h a (suc n) each low =
      let at_h = foremost_joined measure (h a) (map h (range_with_len (a + 1) n)) in
      let at_g = foremost_joined measure (g a) (map g (range_with_len (a + 1) n)) in
      elim (front_joined (g a) (h a) (foremost measure (map g (range_with_len (a + 1) n))) (foremost measure (map h (range_with_len (a + 1) n)))
      (each a (omega arith) (omega arith)) (λ below. front_all g h (a + 1) n (λ p from past. each p (omega (arith, from)) (omega (arith, past))) below)
      (λ z is. low z (at_h ∙ is))) [
        | inl same ↦ inl (at_g ∙ same ∙ sym at_h)
        | inr new ↦ inr (new.0, at_g ∙ new.1, new.2)
      ]

  -- and a new one where one is, and none was of its measure
  pub front_new : (g h : ℕ → Option X) (a n p : ℕ) (y : X) → ((p : ℕ) → a ≤ p → p < a + n → Front New (g p) (h p))
      → ((z : X) → foremost measure (map h (range_with_len a n)) ≡ Some z → measure z < top)
      → a ≤ p → p < a + n → g p ≡ Some y → New y
      → (z : X) × (foremost measure (map g (range_with_len a n)) ≡ Some z) × New z
  front_new g h a n p y each below from past is new =
      elim (front_all g h a n each (λ z at. let low = below z at in omega (arith, low))) [
        | inr found ↦ found
        | inl same ↦ absurd (no_room (foremost measure (map h (range_with_len a n))) refl same)
      ]
    where
      no_room : (o : Option X) → foremost measure (map h (range_with_len a n)) ≡ o
          → foremost measure (map g (range_with_len a n)) ≡ foremost measure (map h (range_with_len a n)) → ⊥
      no_room None at same = none_all measure g a n p y (same ∙ at) from past is
      no_room (Some z) at same =
          let low = below z at in
          let most = low_all measure (measure z) g a n p y (λ w has. let same_z : z ≡ w = some_value measure z w (sym (same ∙ at) ∙ has) in omega (arith, ap measure same_z)) from past is in
          omega (arith, low, most, new_top y new)
