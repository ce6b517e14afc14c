-- A place that went, as contracts see it.
use Rattle.std.proofs.Common.{◌≡◌, ℕ, zero, suc, ◌+◌, ◌<◌, ◌≤◌, Bool, true, false, ◌==◌, ◌||◌, nat_lt, if◌then◌else◌, List, [], ◌∷◌, map, filter, length, slice_get, Option, Some, None, option_map, refl, sym, ap, ap₂, ◌∙◌, inl, inr, eq-eqb, ne_eqb, eqb-true, ltb-true, arith}
use Rattle.std.proofs.lemmas.Bool.{both_ways, and_parts, cases_lt}
use Rattle.std.specs.List.{range_with_len, list_any, list_all}
use Rattle.array_model.specs.declared.Seat.{Seat}
use Rattle.array_model.specs.declared.Seat.TheVariants.{Missing}
use Rattle.array_model.specs.View.{View, LosesPlaces, place_at, seat_unless}
use Rattle.array_model.specs.Members.{IsSameButSeats}
use Rattle.array_core.specs.declared.slots.Slot.{Slot}
use Rattle.array_core.specs.declared.Array.TheInside.{Inside}
use Rattle.array_core.specs.Model.{view_of, IsMade}
use Rattle.array_core.specs.Seats.{names, losing, gone, joined}
use Rattle.array_core.proofs.Seating.{slots_viewed}
use Rattle.array_core.proofs.Rules.{get_map, slot_is, slot_count}

-- ---- the list of places

any_later : (p x : ℕ) (xs : List ℕ) (b : Bool) → (x == p) ≡ b → list_any (λ q. q == p) (x ∷ xs) ≡ (b || list_any (λ q. q == p) xs)
any_later p x xs b is = ap (λ (c : Bool). c || list_any (λ q. q == p) xs) is

none_early : (f : ℕ → Bool) (p a k : ℕ) → p < a → list_any (λ q. q == p) (filter f (range_with_len a k)) ≡ false
none_early f p a zero low = refl
none_early f p a (suc k) low =
    let rest = none_early f p (a + 1) k (omega (arith, low)) in
    let Goal : Bool → Type 0 = λ b. list_any (λ q. q == p) (if b then a ∷ filter f (range_with_len (a + 1) k) else filter f (range_with_len (a + 1) k)) ≡ false in
    let goal : Goal (f a) = elim (f a) as Goal [
      | true ↦ any_later p a (filter f (range_with_len (a + 1) k)) false (ne_eqb a p (λ is. omega (arith, low, is))) ∙ rest
      | false ↦ rest
    ] in
    goal

none_late : (f : ℕ → Bool) (p a k : ℕ) → a + k ≤ p → list_any (λ q. q == p) (filter f (range_with_len a k)) ≡ false
none_late f p a zero high = refl
none_late f p a (suc k) high =
    let rest = none_late f p (a + 1) k (omega (arith, high)) in
    let Goal : Bool → Type 0 = λ b. list_any (λ q. q == p) (if b then a ∷ filter f (range_with_len (a + 1) k) else filter f (range_with_len (a + 1) k)) ≡ false in
    let goal : Goal (f a) = elim (f a) as Goal [
      | true ↦ any_later p a (filter f (range_with_len (a + 1) k)) false (ne_eqb a p (λ is. omega (arith, high, is))) ∙ rest
      | false ↦ rest
    ] in
    goal

one_of : (f : ℕ → Bool) (p a k : ℕ) → a ≤ p → p < a + k → list_any (λ q. q == p) (filter f (range_with_len a k)) ≡ f p
one_of f p a zero least most = absurd (omega (arith, least, most))
one_of f p a (suc k) least most =
    elim (cases_lt a p) [
      | inl less ↦
          let rest = one_of f p (a + 1) k (omega (arith, less)) (omega (arith, most)) in
          let Goal : Bool → Type 0 = λ b. list_any (λ q. q == p) (if b then a ∷ filter f (range_with_len (a + 1) k) else filter f (range_with_len (a + 1) k)) ≡ f p in
          let goal : Goal (f a) = elim (f a) as Goal [
            | true ↦ any_later p a (filter f (range_with_len (a + 1) k)) false (ne_eqb a p (λ is. omega (arith, less, is))) ∙ rest
            | false ↦ rest
          ] in
          goal
      | inr more ↦
          let same : a ≡ p = omega (arith, least, more) in
          let Goal : Bool → Type 0 = λ b. f a ≡ b → list_any (λ q. q == p) (if b then a ∷ filter f (range_with_len (a + 1) k) else filter f (range_with_len (a + 1) k)) ≡ f p in
          let goal : Goal (f a) = elim (f a) as Goal [
            | true ↦ λ is. any_later p a (filter f (range_with_len (a + 1) k)) true (eq-eqb a p same) ∙ sym is ∙ ap f same
            | false ↦ λ is. none_early f p (a + 1) k (omega (arith, same)) ∙ sym is ∙ ap f same
          ] in
          goal refl
    ]

none_above : (places : List ℕ) (p : ℕ) → 16 ≤ p → list_all (λ place. nat_lt place 16) places ≡ true → list_any (λ q. q == p) places ≡ false
none_above [] p high all = refl
none_above (x ∷ xs) p high all =
    let parts = and_parts (nat_lt x 16) (list_all (λ place. nat_lt place 16) xs) all in
    let low = ltb-true x 16 parts.0 in
    any_later p x xs false (ne_eqb x p (λ is. omega (arith, low, high, is))) ∙ none_above xs p high parts.1

eq_swap : (m n : ℕ) → (m == n) ≡ (n == m)
eq_swap m n =
    let Goal : Bool → Type 0 = λ b. (m == n) ≡ b → b ≡ (n == m) in
    let goal : Goal (m == n) = elim (m == n) as Goal [
      | true ↦ λ is. sym (eq-eqb n m (sym (eqb-true m n is)))
      | false ↦ λ no. sym (ne_eqb n m (λ is. both_ways (m == n) no (eq-eqb m n (sym is))))
    ] in
    goal refl

or_swap : (p q : Bool) → (p || q) ≡ (q || p)
or_swap true true = refl
or_swap true false = refl
or_swap false true = refl
or_swap false false = refl

or_false : (p : Bool) → (p || false) ≡ p
or_false true = refl
or_false false = refl

-- it is listed then, beside those that were
pub went_one : (places : List ℕ) (place p : ℕ) → list_all (λ q. nat_lt q 16) places ≡ true → place < 16
    → names (joined places (place ∷ [])) p ≡ ((p == place) || names places p)
went_one places place p few low =
    elim (cases_lt p 16) [
      | inl here ↦
          one_of (λ q. names places q || names (place ∷ []) q) p 0 16 (omega arith) (omega (arith, here))
          ∙ ap (λ (b : Bool). names places p || b) (or_false (place == p) ∙ eq_swap place p)
          ∙ or_swap (names places p) (p == place)
      | inr high ↦
          none_late (λ q. names places q || names (place ∷ []) q) p 0 16 (omega (arith, high))
          ∙ sym (ap₂ (λ (b c : Bool). b || c) (ne_eqb p place (λ is. omega (arith, low, high, is))) (none_above places p high few))
    ]

-- ---- the seats

pub seats_one : (a : Inside) (place n : ℕ) → IsMade a
    → slice_get (losing (place ∷ []) (view_of a)).seats n ≡ option_map (seat_unless (λ p. p == place) (place_at (view_of a) n)) (slice_get (view_of a).seats n)
seats_one a place n made =
    let f : Slot → Seat = λ s. seat_unless (names (place ∷ [])) s.place s.seat in
    ap (λ (slots : List Slot). slice_get (map f slots) n) (slots_viewed a made.slots)
    ∙ get_map f a.slots.items n
    ∙ at (slice_get a.slots.items n) refl
    ∙ ap (option_map (seat_unless (λ p. p == place) (place_at (view_of a) n))) (sym (get_map (λ (s : Slot). s.seat) a.slots.items n))
  where
    inside : (slots : List Slot) (k : ℕ) (s : Slot) → slice_get slots k ≡ Some s → k < length slots
    inside [] k s is = absurd (cc)
    inside (x ∷ xs) zero s is = omega arith
    inside (x ∷ xs) (suc k) s is = let low = inside xs k s is in omega (arith, low)

    at : (o : Option Slot) → slice_get a.slots.items n ≡ o
        → option_map (λ (s : Slot). seat_unless (names (place ∷ [])) s.place s.seat) o
        ≡ option_map (seat_unless (λ p. p == place) (place_at (view_of a) n)) (option_map (λ (s : Slot). s.seat) o)
    at None is = refl
    at (Some s) is =
        let low = inside a.slots.items n s is in
        let count = slot_count a made in
        let slot = slot_is a n s made (omega (arith, low, count)) is in
        ap (λ (b : Bool). Some (if b then Missing else s.seat)) (or_false (place == s.place) ∙ eq_swap place s.place ∙ ap (λ p. p == place) slot.place)

pub noted_one : (a : Inside) (place : ℕ) → IsMade a → place < 16 → LosesPlaces (view_of a) (gone (place ∷ []) (view_of a)) (λ p. p == place)
noted_one a place made low = record {
  seats = λ n. seats_one a place n made;
  went = λ p. went_one a.went.items place p made.went low;
}

pub kept_one : (v : View) (places : List ℕ) → IsSameButSeats v (gone places v)
kept_one v places = record { number = refl; truth = refl; devices = refl; resync = refl; young = refl; marked = refl }

-- ---- several places at once

went_all : (wents places : List ℕ) (p : ℕ) → list_all (λ q. nat_lt q 16) wents ≡ true → list_all (λ q. nat_lt q 16) places ≡ true
    → names (joined wents places) p ≡ (names places p || names wents p)
went_all wents places p few low =
    elim (cases_lt p 16) [
      | inl here ↦ one_of (λ q. names wents q || names places q) p 0 16 (omega arith) (omega (arith, here)) ∙ or_swap (names wents p) (names places p)
      | inr high ↦
          none_late (λ q. names wents q || names places q) p 0 16 (omega (arith, high))
          ∙ sym (ap₂ (λ (b c : Bool). b || c) (none_above places p high low) (none_above wents p high few))
    ]

seats_all : (a : Inside) (places : List ℕ) (n : ℕ) → IsMade a
    → slice_get (losing places (view_of a)).seats n ≡ option_map (seat_unless (names places) (place_at (view_of a) n)) (slice_get (view_of a).seats n)
seats_all a places n made =
    let f : Slot → Seat = λ s. seat_unless (names places) s.place s.seat in
    ap (λ (slots : List Slot). slice_get (map f slots) n) (slots_viewed a made.slots)
    ∙ get_map f a.slots.items n
    ∙ at (slice_get a.slots.items n) refl
    ∙ ap (option_map (seat_unless (names places) (place_at (view_of a) n))) (sym (get_map (λ (s : Slot). s.seat) a.slots.items n))
  where
    inside : (slots : List Slot) (k : ℕ) (s : Slot) → slice_get slots k ≡ Some s → k < length slots
    inside [] k s is = absurd (cc)
    inside (x ∷ xs) zero s is = omega arith
    inside (x ∷ xs) (suc k) s is = let low = inside xs k s is in omega (arith, low)

    at : (o : Option Slot) → slice_get a.slots.items n ≡ o
        → option_map (λ (s : Slot). seat_unless (names places) s.place s.seat) o
        ≡ option_map (seat_unless (names places) (place_at (view_of a) n)) (option_map (λ (s : Slot). s.seat) o)
    at None is = refl
    at (Some s) is =
        let low = inside a.slots.items n s is in
        let count = slot_count a made in
        let slot = slot_is a n s made (omega (arith, low, count)) is in
        ap (λ (p : ℕ). Some (if names places p then Missing else s.seat)) slot.place

pub noted_all : (a : Inside) (places : List ℕ) → IsMade a → list_all (λ q. nat_lt q 16) places ≡ true → LosesPlaces (view_of a) (gone places (view_of a)) (names places)
noted_all a places made low = record {
  seats = λ n. seats_all a places n made;
  went = λ p. went_all a.went.items places p made.went low;
}
