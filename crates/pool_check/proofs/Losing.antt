-- A place loses its disk.
use Rattle.std.proofs.Common.{◌≡◌, ℕ, zero, suc, ◌+◌, ◌<◌, ◌≤◌, ◌==◌, Bool, if◌then◌else◌, ◌∷◌, Option, Some, None, is_some, ◌⊎◌, inl, inr, refl, sym, ap, subst, ◌∙◌, arith}
use Rattle.std.specs.Prelude.{filter, length}
use Rattle.std.specs.List.{range_with_len}
use Rattle.std.proofs.lemmas.Bool.{cases_eq, eq-eqb}
use Rattle.std.proofs.lemmas.Option.{none-some}
use Rattle.rack.specs.Seen.{RackView, SameRack}
use Rattle.pool_state.specs.declared.contents.State.{State}
use Rattle.pool_image.specs.Disks.{Seats}
use Rattle.pool_check.specs.Drives.{Goes, IsSeating, Loses}
use Rattle.pool_check.proofs.AfterReads.{goes_early, goes_later}
use Rattle.pool_check.proofs.Finding.{differs}

-- seats without that of one place
abbrev pub IsWithout : Seats → Seats → ℕ → Type 0
IsWithout before after place = (p : ℕ) → after p ≡ (if p == place then None else before p)

pub without_here : (before after : Seats) (place : ℕ) → IsWithout before after place → after place ≡ None
without_here before after place is = is place ∙ ap (λ (b : Bool). if b then None else before place) (eq-eqb place place refl)

pub without_other : (before after : Seats) (place p : ℕ) → IsWithout before after place → (p ≡ place → ⊥) → after p ≡ before p
without_other before after place p is other = is p ∙ ap (λ (b : Bool). if b then None else before p) (differs p place other)

-- a place that has a disk afterwards had it before
without_some : (before after : Seats) (place p d : ℕ) → IsWithout before after place → after p ≡ Some d → before p ≡ Some d
without_some before after place p d is at =
    elim (cases_eq p place) [
      | inl same ↦ absurd (none-some d (sym (without_here before after place is) ∙ ap after (sym same) ∙ at))
      | inr other ↦ sym (without_other before after place p is other) ∙ at
    ]

pub seating_without : (x : RackView) (s : State) (before after : Seats) (place : ℕ) → IsWithout before after place → IsSeating x s before → IsSeating x s after
seating_without x s before after place is seating = record {
  inside = λ p d at. seating.inside p d (without_some before after place p d is at);
  current = λ p d at. seating.current p d (without_some before after place p d is at);
  small = seating.small;
}

-- with its cause
pub loses_more : (x y z : RackView) (first before after : Seats) (place : ℕ) → SameRack x y → SameRack y z → IsWithout before after place → Goes y z before place
    → Loses x y first before → Loses x z first after
loses_more x y z first before after place early late is goes loses p =
    elim (cases_eq p place) [
      | inl same ↦
          subst (λ q. (after q ≡ first q) ⊎ ((after q ≡ None) × Goes x z first q)) (sym same)
          (inr (without_here before after place is, went (loses place)))
      | inr other ↦ kept (without_other before after place p is other) (loses p)
    ]
  where
    went : (before place ≡ first place) ⊎ ((before place ≡ None) × Goes x y first place) → Goes x z first place
    went (inl same) =
        let later = goes_later x y z before place early goes in
        (later.0, sym same ∙ later.1, later.2)
    went (inr gone) = absurd (none-some goes.0 (sym gone.0 ∙ goes.1))

    kept : after p ≡ before p → (before p ≡ first p) ⊎ ((before p ≡ None) × Goes x y first p) → (after p ≡ first p) ⊎ ((after p ≡ None) × Goes x z first p)
    kept same (inl still) = inl (same ∙ still)
    kept same (inr gone) = inr (same ∙ gone.0, goes_early x y z first p late gone.1)

-- ---- fewer places have one

abbrev seated_in : Seats → ℕ → ℕ → ℕ
seated_in seats a n = length (filter (λ p. is_some (seats p)) (range_with_len a n))

-- how many places have a disk
unfoldable pub seated : Seats → ℕ
seated seats = seated_in seats 0 16

fewer_or_same : (before after : Seats) (place : ℕ) → IsWithout before after place → (a n : ℕ) → seated_in after a n ≤ seated_in before a n
fewer_or_same before after place is a zero = omega arith
fewer_or_same before after place is a (suc n) =
    by (after a) (before a) (λ d at. without_some before after place a d is at) (fewer_or_same before after place is (a + 1) n)
  where
    by : (x y : Option ℕ) → ((d : ℕ) → x ≡ Some d → y ≡ Some d) → seated_in after (a + 1) n ≤ seated_in before (a + 1) n
        → length (if is_some x then a ∷ filter (λ p. is_some (after p)) (range_with_len (a + 1) n) else filter (λ p. is_some (after p)) (range_with_len (a + 1) n))
        ≤ length (if is_some y then a ∷ filter (λ p. is_some (before p)) (range_with_len (a + 1) n) else filter (λ p. is_some (before p)) (range_with_len (a + 1) n))
    by None None had rest = rest
    by None (Some e) had rest = omega (arith, rest)
    by (Some d) None had rest = absurd (none-some d (had d refl))
    by (Some d) (Some e) had rest = omega (arith, rest)

fewer_in : (before after : Seats) (place d : ℕ) → IsWithout before after place → before place ≡ Some d → (a n : ℕ) → a ≤ place → place < a + n
    → seated_in after a n < seated_in before a n
fewer_in before after place d is at a zero least most = absurd (omega (arith, least, most))
fewer_in before after place d is at a (suc n) least most =
    elim (cases_eq a place) [
      | inl same ↦
          here (after a) (before a) (ap after same ∙ without_here before after place is) (ap before same ∙ at) (fewer_or_same before after place is (a + 1) n)
      | inr other ↦
          later (after a) (before a) (without_other before after place a is other)
          (fewer_in before after place d is at (a + 1) n (omega (arith, least, other)) (omega (arith, most)))
    ]
  where
    here : (x y : Option ℕ) → x ≡ None → y ≡ Some d → seated_in after (a + 1) n ≤ seated_in before (a + 1) n
        → length (if is_some x then a ∷ filter (λ p. is_some (after p)) (range_with_len (a + 1) n) else filter (λ p. is_some (after p)) (range_with_len (a + 1) n))
        < length (if is_some y then a ∷ filter (λ p. is_some (before p)) (range_with_len (a + 1) n) else filter (λ p. is_some (before p)) (range_with_len (a + 1) n))
    here None (Some e) none some rest = omega (arith, rest)
    here None None none some rest = absurd (none-some d some)
    here (Some e) y none some rest = absurd (none-some e (sym none))

    later : (x y : Option ℕ) → x ≡ y → seated_in after (a + 1) n < seated_in before (a + 1) n
        → length (if is_some x then a ∷ filter (λ p. is_some (after p)) (range_with_len (a + 1) n) else filter (λ p. is_some (after p)) (range_with_len (a + 1) n))
        < length (if is_some y then a ∷ filter (λ p. is_some (before p)) (range_with_len (a + 1) n) else filter (λ p. is_some (before p)) (range_with_len (a + 1) n))
    later None None same rest = rest
    later (Some d) (Some e) same rest = omega (arith, rest)
    later None (Some e) same rest = absurd (none-some e same)
    later (Some d) None same rest = absurd (none-some d (sym same))

pub fewer_seated : (before after : Seats) (place d : ℕ) → IsWithout before after place → before place ≡ Some d → place < 16 → seated after < seated before
unfolding seated
fewer_seated before after place d is at low = fewer_in before after place d is at 0 16 (omega arith) (omega (arith, low))
