-- Which state contents have in which copies of one state came.
use Rattle.std.proofs.Common.{◌≡◌, ◌⊎◌, ℕ, zero, suc, ◌+◌, ◌<◌, ◌≤◌, if◌then◌else◌, List, ◌∷◌, map, Option, Some, None, option_map, refl, sym, ap, subst, ◌∙◌, inl, inr, arith, lt-ltb, le-ltb}
use Rattle.std.specs.Result.{result_ok}
use Rattle.std.specs.List.{range_with_len}
use Rattle.std.proofs.lemmas.Bool.{cases_lt}
use Rattle.std.proofs.lemmas.Option.{none-some}
use Rattle.rack.specs.Seen.{Image}
use Rattle.pool_state.specs.declared.contents.Copied.{Copied}
use Rattle.pool_state.specs.declared.contents.State.{State}
use Rattle.pool_state.specs.Sector.{decoded}
use Rattle.array_image.specs.Foremost.{ahead, foremost}
use Rattle.array_image.specs.Places.{log_slice}
use Rattle.array_image.specs.States.{copy_in, epoch_of, state_in}
use Rattle.log_laws.specs.Kept.{IsCopyOf}

-- what stands foremost is the same, or is of the state
abbrev Front : State → Option Copied → Option Copied → Type 0
Front t o r = (o ≡ r) ⊎ ((y : Copied) × (o ≡ Some y) × (y.state ≡ t))

-- it isn't of a later epoch
abbrev IsLow : State → Option Copied → Type 0
IsLow t o = (z : Copied) → o ≡ Some z → z.state.epoch ≤ t.epoch

abbrev joined : Option Copied → Option Copied → Option Copied
joined None rest = rest
joined (Some k) rest = ahead epoch_of k rest

foremost_joined : (o : Option Copied) (others : List (Option Copied)) → foremost epoch_of (o ∷ others) ≡ joined o (foremost epoch_of others)
unfolding foremost
foremost_joined None others = refl
foremost_joined (Some k) others = refl

some_copy : (x z : Copied) → Some x ≡ Some z → x ≡ z
some_copy x z is = (cc)

stays_first : (k : Copied) (o : Option Copied) → ((z : Copied) → o ≡ Some z → z.state.epoch ≤ k.state.epoch) → ahead epoch_of k o ≡ Some k
stays_first k None low = refl
stays_first k (Some z) low = ap (λ b. if b then Some z else Some k) (le-ltb k.state.epoch z.state.epoch (low z refl))

-- of two that aren't later neither is
low_parts : (t : State) (k : Copied) (o : Option Copied) → IsLow t (ahead epoch_of k o) → (k.state.epoch ≤ t.epoch) × IsLow t o
low_parts t k None low = (low k refl, λ z is. absurd (none-some z is))
low_parts t k (Some y) low =
    elim (cases_lt k.state.epoch y.state.epoch) [
      | inl less ↦
          let top : y.state.epoch ≤ t.epoch = low y (ap (λ b. if b then Some y else Some k) (lt-ltb k.state.epoch y.state.epoch less)) in
          (omega (arith, less, top), λ z is. subst (λ (x : Copied). x.state.epoch ≤ t.epoch) (some_copy y z is) top)
      | inr le ↦
          let top : k.state.epoch ≤ t.epoch = low k (ap (λ b. if b then Some y else Some k) (le-ltb k.state.epoch y.state.epoch le)) in
          (top, λ z is. subst (λ (x : Copied). x.state.epoch ≤ t.epoch) (some_copy y z is) (omega (arith, le, top)))
    ]

front_low : (t : State) (o r : Option Copied) → Front t o r → IsLow t r → IsLow t o
front_low t o r (inl same) low z is = low z (sym same ∙ is)
front_low t o r (inr new) low z is =
    let epoch : new.0.state.epoch ≡ t.epoch = ap (λ (u : State). u.epoch) new.2 in
    let same : new.0 ≡ z = some_copy new.0 z (sym new.1 ∙ is) in
    subst (λ (x : Copied). x.state.epoch ≤ t.epoch) same (omega (arith, epoch))

-- a copy that stays, before others
front_ahead : (t : State) (k : Copied) (o r : Option Copied) → Front t o r → IsLow t (ahead epoch_of k r) → Front t (ahead epoch_of k o) (ahead epoch_of k r)
front_ahead t k o r (inl same) low = inl (ap (ahead epoch_of k) same)
front_ahead t k o r (inr new) low =
    let epoch : new.0.state.epoch ≡ t.epoch = ap (λ (u : State). u.epoch) new.2 in
    elim (cases_lt k.state.epoch new.0.state.epoch) [
      | inl less ↦
          inr (new.0, ap (ahead epoch_of k) new.1 ∙ ap (λ b. if b then Some new.0 else Some k) (lt-ltb k.state.epoch new.0.state.epoch less), new.2)
      | inr le ↦
          inl (ap (ahead epoch_of k) new.1 ∙ ap (λ b. if b then Some new.0 else Some k) (le-ltb k.state.epoch new.0.state.epoch le)
          ∙ sym (stays_first k r (λ z is. let top = (low_parts t k r low).1 z is in omega (arith, top, le, epoch))))
    ]

front_joined : (t : State) (o p rest others : Option Copied) → Front t o p → (IsLow t others → Front t rest others) → IsLow t (joined p others)
    → Front t (joined o rest) (joined p others)
front_joined t o None rest others (inl same) later low =
    let at : joined o rest ≡ rest = ap (λ x. joined x rest) same in
    elim (later low) [ inl is ↦ inl (at ∙ is) | inr new ↦ inr (new.0, at ∙ new.1, new.2) ]
front_joined t o (Some k) rest others (inl same) later low =
    subst (λ x. Front t (joined x rest) (ahead epoch_of k others)) (sym same) (front_ahead t k rest others (later (low_parts t k others low).1) low)
front_joined t o p rest others (inr new) later low =
    let epoch : new.0.state.epoch ≡ t.epoch = ap (λ (u : State). u.epoch) new.2 in
    let below : IsLow t others = of_first p low in
    inr (
      new.0,
      ap (λ x. joined x rest) new.1
          ∙ stays_first new.0 rest (λ z is. let top = front_low t rest others (later below) below z is in omega (arith, top, epoch)),
      new.2,
    )
  where
    of_first : (q : Option Copied) → IsLow t (joined q others) → IsLow t others
    of_first None low = low
    of_first (Some k) low = (low_parts t k others low).1

front_all : (t : State) (c e : Image) (a n : ℕ) → ((p : ℕ) → a ≤ p → p < a + n → Front t (copy_in c p) (copy_in e p))
    → IsLow t (foremost epoch_of (map (copy_in e) (range_with_len a n)))
    → Front t (foremost epoch_of (map (copy_in c) (range_with_len a n))) (foremost epoch_of (map (copy_in e) (range_with_len a n)))
front_all t c e a zero each low = inl refl
front_all t c e a (suc n) each low =
    let at_e = foremost_joined (copy_in e a) (map (copy_in e) (range_with_len (a + 1) n)) in
    let at_c = foremost_joined (copy_in c a) (map (copy_in c) (range_with_len (a + 1) n)) in
    elim (front_joined t (copy_in c a) (copy_in e a) (foremost epoch_of (map (copy_in c) (range_with_len (a + 1) n))) (foremost epoch_of (map (copy_in e) (range_with_len (a + 1) n)))
    (each a (omega arith) (omega arith)) (λ below. front_all t c e (a + 1) n (λ p from past. each p (omega arith) (omega arith)) below)
    (λ z is. low z (at_e ∙ is))) [
      | inl same ↦ inl (at_c ∙ same ∙ sym at_e)
      | inr new ↦ inr (new.0, at_c ∙ new.1, new.2)
    ]

low_all : (t : State) (c : Image) (a n p : ℕ) (copy : Copied) → IsLow t (foremost epoch_of (map (copy_in c) (range_with_len a n)))
    → a ≤ p → p < a + n → copy_in c p ≡ Some copy → copy.state.epoch ≤ t.epoch
low_all t c a zero p copy low from past is = absurd (omega (arith, from, past))
low_all t c a (suc n) p copy low from past is =
    let later = foremost epoch_of (map (copy_in c) (range_with_len (a + 1) n)) in
    let joined_low : IsLow t (joined (copy_in c a) later) = λ z now. low z (foremost_joined (copy_in c a) (map (copy_in c) (range_with_len (a + 1) n)) ∙ now) in
    elim (cases_lt a p) [
      | inl below ↦ low_all t c (a + 1) n p copy (of_rest (copy_in c a) later joined_low) (omega arith) (omega arith) is
      | inr same ↦
          let here : a ≡ p = omega (arith, from, same) in
          of_first copy later (subst (λ (o : Option Copied). IsLow t (joined o later)) (ap (copy_in c) here ∙ is) joined_low)
    ]
  where
    of_rest : (o later : Option Copied) → IsLow t (joined o later) → IsLow t later
    of_rest None later low = low
    of_rest (Some k) later low = (low_parts t k later low).1

    of_first : (k : Copied) (later : Option Copied) → IsLow t (joined (Some k) later) → k.state.epoch ≤ t.epoch
    of_first k later low = (low_parts t k later low).0

-- no copy is of a later epoch than the state that contents have
pub state_latest : (s : State) (c : Image) (p : ℕ) (copy : Copied) → state_in c ≡ Some s → p < 16 → copy_in c p ≡ Some copy → copy.state.epoch ≤ s.epoch
unfolding state_in
state_latest s c p copy is small at =
    low_all s c 0 16 p copy
    (λ z front. let same : z.state ≡ s = state_of z.state (ap (option_map (λ copy. copy.state)) (sym front) ∙ is) in omega (arith, ap (λ (u : State). u.epoch) same))
    (omega arith) (omega (arith, small)) at
  where
    state_of : (x : State) → Some x ≡ Some s → x ≡ s
    state_of x same = (cc)

-- Contents in which copies of a state came, which is no earlier, have this state or the one from before.
pub state_either : (s t : State) (c e : Image) → state_in e ≡ Some s → s.epoch ≤ t.epoch
    → ((p : ℕ) → p < 16 → (c (log_slice p) 0 ≡ e (log_slice p) 0) ⊎ IsCopyOf t p (c (log_slice p) 0))
    → (state_in c ≡ Some s) ⊎ (state_in c ≡ Some t)
unfolding state_in
state_either s t c e is up each =
    elim (front_all t c e 0 16 (λ p from past. elim (each p (omega (arith, past))) [
      | inl same ↦ inl (ap (λ block. result_ok (decoded block)) same)
      | inr new ↦ inr (record { state = t; own = new.own }, ap result_ok new.copy, refl)
    ])
    (λ z front. let same : z.state ≡ s = some_state z.state s (ap (option_map (λ copy. copy.state)) (sym front) ∙ is) in omega (arith, up, ap (λ (u : State). u.epoch) same))) [
      | inl same ↦ inl (ap (option_map (λ copy. copy.state)) same ∙ is)
      | inr new ↦ inr (ap (option_map (λ copy. copy.state)) new.1 ∙ ap Some new.2)
    ]
  where
    some_state : (x z : State) → Some x ≡ Some z → x ≡ z
    some_state x z same = (cc)
