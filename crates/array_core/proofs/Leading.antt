-- Which of a range of values is the foremost.
use Rattle.std.proofs.Common.{◌≡◌, ℕ, zero, suc, ◌+◌, ◌<◌, ◌≤◌, Bool, true, false, nat_lt, if◌then◌else◌, List, [], ◌∷◌, map, filter, Option, Some, None, inl, inr, refl, sym, ap, subst, ◌∙◌, arith}
use Rattle.std.proofs.lemmas.Bool.{ltb-true, ltb-false, cases_eq, cases_order}
use Rattle.std.specs.List.{range_with_len}
use Rattle.std.specs.Option.{option_map_or}
use Rattle.array_image.specs.Foremost.{ahead, foremost}
use Rattle.array_core.proofs.Lists.{foremost_first}

-- the value at a place of a range leads: of the others none is greater, and none before it is as great
pub record Leads {X : Type 0} (measure : X → ℕ) (f : ℕ → Option X) (a n : ℕ) (x : X) : Type 0 where
  pub at : ℕ
  pub least : a ≤ at
  pub most : at < a + n
  pub here : f at ≡ Some x
  pub before : (q : ℕ) (y : X) → a ≤ q → q < at → f q ≡ Some y → measure y < measure x
  pub after : (q : ℕ) (y : X) → at < q → q < a + n → f q ≡ Some y → measure y ≤ measure x

module _ {X : Type 0} (measure : X → ℕ) where
  abbrev over : (ℕ → Option X) → ℕ → ℕ → Option X
  over f a n = foremost measure (map f (range_with_len a n))

  differ : (x y : X) → Some x ≡ Some y → x ≡ y
  differ x y same = cc

  first_none : (f : ℕ → Option X) (a n : ℕ) → f a ≡ None → over f a (suc n) ≡ over f (a + 1) n
  unfolding foremost
  first_none f a n none = ap (λ (o : Option X). foremost measure (o ∷ map f (range_with_len (a + 1) n))) none

  first_some : (f : ℕ → Option X) (a n : ℕ) (x : X) → f a ≡ Some x → over f a (suc n) ≡ ahead measure x (over f (a + 1) n)
  unfolding foremost
  first_some f a n x some = ap (λ (o : Option X). foremost measure (o ∷ map f (range_with_len (a + 1) n))) some

  -- where none is the foremost there is none
  pub none_leads : (f : ℕ → Option X) (a n : ℕ) → over f a n ≡ None → (q : ℕ) → a ≤ q → q < a + n → f q ≡ None
  none_leads f a zero none q least most = absurd (omega (arith, least, most))
  none_leads f a (suc n) none q least most =
      let Goal : Option X → Type 0 = λ o. f a ≡ o → f q ≡ None in
      let rest : over f (a + 1) n ≡ None → f a ≡ None → f q ≡ None = λ others first.
      elim (cases_eq a q) [
        | inl same ↦ ap f (sym same) ∙ first
        | inr other ↦ none_leads f (a + 1) n others q (omega (arith, least, other)) (omega (arith, most))
      ] in
      let goal : Goal (f a) = elim (f a) as Goal [
        | None ↦ λ is. rest (sym (first_none f a n is) ∙ none) is
        | Some x ↦ λ is. absurd (some_ahead x (over f (a + 1) n) (sym (first_some f a n x is) ∙ none))
      ] in
      goal refl
    where
      some_ahead : (x : X) (o : Option X) → ahead measure x o ≡ None → ⊥
      some_ahead x None none = cc
      some_ahead x (Some y) none =
          let Goal : Bool → Type 0 = λ b. (if b then Some y else Some x) ≡ None → ⊥ in
          let goal : Goal (nat_lt (measure x) (measure y)) = elim (nat_lt (measure x) (measure y)) as Goal [ true ↦ λ e. cc | false ↦ λ e. cc ] in
          goal none

  none_of_none : (x : X) → foremost measure [] ≡ Some x → ⊥
  unfolding foremost
  none_of_none x is = cc

  none_some : (y : X) → None ≡ Some y → ⊥
  none_some y e = cc

  -- the leader of the others leads where the first is none
  leads_later : (f : ℕ → Option X) (a n : ℕ) (x : X) → f a ≡ None → Leads measure f (a + 1) n x → Leads measure f a (suc n) x
  leads_later f a n x first leads = record {
    at = leads.at;
    least = omega (arith, leads.least);
    most = omega (arith, leads.most);
    here = leads.here;
    before = λ q y low early some.
        elim (cases_eq a q) [
          | inl same ↦ absurd (none_some y (sym first ∙ ap f same ∙ some))
          | inr other ↦ leads.before q y (omega (arith, low, other)) early some
        ];
    after = λ q y late high some. leads.after q y late (omega (arith, high)) some;
  }

  -- or is less
  leads_ahead : (f : ℕ → Option X) (a n : ℕ) (z w : X) → f a ≡ Some z → measure z < measure w → Leads measure f (a + 1) n w → Leads measure f a (suc n) w
  leads_ahead f a n z w first less leads = record {
    at = leads.at;
    least = omega (arith, leads.least);
    most = omega (arith, leads.most);
    here = leads.here;
    before = λ q y low early some.
        elim (cases_eq a q) [
          | inl same ↦ subst (λ (v : X). measure v < measure w) (differ z y (sym first ∙ ap f same ∙ some)) less
          | inr other ↦ leads.before q y (omega (arith, low, other)) early some
        ];
    after = λ q y late high some. leads.after q y late (omega (arith, high)) some;
  }

  -- the first leads where the others have no greater one
  leads_first : (f : ℕ → Option X) (a n : ℕ) (z : X) → f a ≡ Some z
      → ((q : ℕ) (y : X) → a + 1 ≤ q → q < (a + 1) + n → f q ≡ Some y → measure y ≤ measure z) → Leads measure f a (suc n) z
  leads_first f a n z first others = record {
    at = a;
    least = omega arith;
    most = omega arith;
    here = first;
    before = λ q y low early some. absurd (omega (arith, low, early));
    after = λ q y late high some. others q y (omega (arith, late)) (omega (arith, high)) some;
  }

  -- nobody has more
  pub not_more : (f : ℕ → Option X) (a n : ℕ) (w : X) → Leads measure f a n w → (q : ℕ) (y : X) → a ≤ q → q < a + n → f q ≡ Some y → measure y ≤ measure w
  not_more f a n w leads q y low high some =
      elim (cases_order q leads.at) [
        | inl same ↦ subst (λ (v : X). measure v ≤ measure w) (differ w y (sym leads.here ∙ ap f (sym same) ∙ some)) (omega arith)
        | inr apart ↦ elim apart [
          | inl early ↦ (let less = leads.before q y low early some in omega (arith, less))
          | inr late ↦ leads.after q y late high some
        ]
      ]

  -- what is the foremost leads
  pub foremost_leads : (f : ℕ → Option X) (a n : ℕ) (x : X) → over f a n ≡ Some x → Leads measure f a n x
  foremost_leads f a zero x is = absurd (none_of_none x is)
  foremost_leads f a (suc n) x is =
      let rest = foremost_leads f (a + 1) n in
      let Goal : Option X → Type 0 = λ o. f a ≡ o → Leads measure f a (suc n) x in
      let goal : Goal (f a) = elim (f a) as Goal [
        | None ↦ λ first. leads_later f a n x first (rest x (sym (first_none f a n first) ∙ is))
        | Some z ↦ λ first. beside f a n x z first rest (over f (a + 1) n) refl (sym (first_some f a n z first) ∙ is)
      ] in
      goal refl
    where
      beside : (f : ℕ → Option X) (a n : ℕ) (x z : X) → f a ≡ Some z → ((w : X) → over f (a + 1) n ≡ Some w → Leads measure f (a + 1) n w)
          → (o : Option X) → over f (a + 1) n ≡ o → ahead measure z o ≡ Some x → Leads measure f a (suc n) x
      beside f a n x z first rest None others is =
          subst (Leads measure f a (suc n)) (differ z x is)
          (leads_first f a n z first (λ q y low high some. absurd (none_some y (sym (none_leads f (a + 1) n others q low high) ∙ some))))
      beside f a n x z first rest (Some w) others is =
          let Goal : Bool → Type 0 = λ b. nat_lt (measure z) (measure w) ≡ b → (if b then Some w else Some z) ≡ Some x → Leads measure f a (suc n) x in
          let goal : Goal (nat_lt (measure z) (measure w)) = elim (nat_lt (measure z) (measure w)) as Goal [
            | true ↦ λ less now. subst (Leads measure f a (suc n)) (differ w x now) (leads_ahead f a n z w first (ltb-true (measure z) (measure w) less) (rest w others))
            | false ↦ λ less now. subst (Leads measure f a (suc n)) (differ z x now) (leads_first f a n z first (λ q y low high some.
                let more = not_more f (a + 1) n w (rest w others) q y low high some in
                let fewer = ltb-false (measure z) (measure w) less in
                omega (arith, more, fewer)))
          ] in
          goal refl is

  -- only one leads
  pub leads_alone : (f : ℕ → Option X) (a n m : ℕ) (x y : X) → Leads measure f a n x → Leads measure f a m y → n ≡ m → x ≡ y
  leads_alone f a n m x y one two same =
      elim (cases_order one.at two.at) [
        | inl at ↦ differ x y (sym one.here ∙ ap f at ∙ two.here)
        | inr apart ↦ elim apart [
          | inl early ↦ (let less = two.before one.at x one.least early one.here in
              let more = one.after two.at y early (omega (arith, two.most, same)) two.here in
              absurd (omega (arith, less, more)))
          | inr late ↦ (let less = one.before two.at y two.least late two.here in
              let more = two.after one.at x late (omega (arith, one.most, same)) one.here in
              absurd (omega (arith, less, more)))
        ]
      ]

  -- what leads is the foremost
  pub leads_foremost : (f : ℕ → Option X) (a n : ℕ) (x : X) → Leads measure f a n x → over f a n ≡ Some x
  leads_foremost f a n x leads =
      let Goal : Option X → Type 0 = λ o. over f a n ≡ o → o ≡ Some x in
      let goal : Goal (over f a n) = elim (over f a n) as Goal [
        | None ↦ λ is. sym (none_leads f a n is leads.at leads.least leads.most) ∙ leads.here
        | Some y ↦ λ is. ap Some (leads_alone f a n n y x (foremost_leads f a n y is) leads refl)
      ] in
      goal refl

  -- the foremost of those that pass
  pub foremost_filtered : (p : ℕ → Bool) (f : ℕ → Option X) (xs : List ℕ)
      → foremost measure (map f (filter p xs)) ≡ foremost measure (map (λ x. if p x then f x else None) xs)
  foremost_filtered p f [] = refl
  foremost_filtered p f (x ∷ xs) =
      let rest = foremost_filtered p f xs in
      let after : List (Option X) = map (λ y. if p y then f y else None) xs in
      let Goal : Bool → Type 0 = λ b. foremost measure (map f (if b then x ∷ filter p xs else filter p xs)) ≡ foremost measure ((if b then f x else None) ∷ after) in
      let goal : Goal (p x) = elim (p x) as Goal [
        | true ↦
            foremost_first measure (f x) (map f (filter p xs))
            ∙ ap (λ (o : Option X). option_map_or (λ t. ahead measure t o) (f x) o) rest
            ∙ sym (foremost_first measure (f x) after)
        | false ↦ rest ∙ sym (foremost_first measure None after)
      ] in
      goal
