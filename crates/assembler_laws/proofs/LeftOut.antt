-- The tables of drives are made to agree, but of those that have gone.
use Rattle.std.proofs.Common.{◌≡◌, ◌⊎◌, ℕ, ◌<◌, ◌≤◌, Bool, true, false, is_none, if◌then◌else◌, List, filter, Option, Some, None, inl, inr, refl, sym, ap, ◌∙◌}
use Rattle.std.proofs.lemmas.Bool.{cases_lt}
use Rattle.std.proofs.lemmas.Option.{none-some}
use Rattle.rack.specs.Seen.{RackView}
use Rattle.rack.specs.Sequences.{WritesOnly}
use Rattle.rack.proofs.Writing.{only_weaker}
use Rattle.slice_rack.specs.Sliced.{slices_of}
use Rattle.slice_rack.specs.Slices.{Slices, IsOrderly, seat_of}
use Rattle.pool_state.specs.declared.contents.State.{State}
use Rattle.array_image.specs.States.{current_places}
use Rattle.log_laws.specs.View.{names}
use Rattle.pool_check.specs.Drives.{Loses, flag_by, seats_by}
use Rattle.pool_check.specs.Settling.{AreDistinct, IsSettled, IsTableSector, IsTrueOf, KeepsTable}
use Rattle.assembler_laws.specs.Mending.{MendsTables}

module _ (t : Slices) (x : RackView) (orderly : IsOrderly t) (fit : (slices_of t x).fit) (gone : List ℕ) (first left : List (Option ℕ))
    (are : (p : ℕ) → seats_by first p ≡ seat_of t p)
    (each : (p : ℕ) → p < 16 → seats_by left p ≡ (if names gone p then None else seats_by first p))
    (beyond : (p : ℕ) → 16 ≤ p → seats_by left p ≡ seats_by first p) (agreed : List Bool) where
  -- a place has gone, or has the disk of its slices
  either : (p : ℕ) → (seats_by left p ≡ seat_of t p) ⊎ ((seats_by left p ≡ None) × (names gone p ≡ true))
  either p = elim (cases_lt p 16) [
    | inr past ↦ inl (beyond p past ∙ are p)
    | inl few ↦ of (names gone p) refl (each p few)
  ]
    where
      of : (b : Bool) → names gone p ≡ b → seats_by left p ≡ (if b then None else seats_by first p)
          → (seats_by left p ≡ seat_of t p) ⊎ ((seats_by left p ≡ None) × (names gone p ≡ true))
      of true named is = inr (is, named)
      of false named is = inl (is ∙ are p)

  kept : (p d : ℕ) → seats_by left p ≡ Some d → seat_of t p ≡ Some d
  kept p d seat = elim (either p) [ inl same ↦ sym same ∙ seat | inr out ↦ absurd (none-some d (sym out.0 ∙ seat)) ]

  pub left_inside : (p d : ℕ) → seats_by left p ≡ Some d → d < x.disks
  left_inside p d seat = fit.1.seats p d (kept p d seat)

  pub left_distinct : AreDistinct (seats_by left)
  left_distinct p q d low high one two = orderly.one_place p q d (kept p d one) (kept q d two)

  pub mends_so : (y : RackView) (now : List (Option ℕ)) → WritesOnly x y (IsTableSector x y (seats_by left) 16) → Loses x y (seats_by left) (seats_by now)
      → ((d : ℕ) → KeepsTable x y d) → ((p d : ℕ) → p < 16 → seats_by now p ≡ Some d → IsTrueOf x d (flag_by agreed p) → IsSettled x y d)
      → (s : State) (places : List ℕ) → places ≡ filter (λ p. is_none (seats_by now p)) (current_places s) → MendsTables x y s (seat_of t) agreed gone places
  mends_so y now only loses tables settled s places listed = record {
    only = only_weaker (IsTableSector x y (seats_by left) 16) (IsTableSector x y (seat_of t) 16)
        (λ d u v is. record { place = is.place; below = is.below; seat = kept is.place d is.seat; at_end = is.at_end; value = is.value }) only;
    left = seats_by now;
    listed = listed;
    out = λ p few named.
        let none : seats_by left p ≡ None = each p few ∙ ap (λ (b : Bool). if b then None else seats_by first p) named in
        elim (loses p) [ inl same ↦ same ∙ none | inr lost ↦ lost.0 ];
    loses = λ p. elim (loses p) [
      | inl same ↦ elim (either p) [ inl was ↦ inl (same ∙ was) | inr out ↦ inr (same ∙ out.0, inl out.1) ]
      | inr lost ↦ inr (lost.0, inr (lost.1.0, kept p lost.1.0 lost.1.1, lost.1.2))
    ];
    tables = tables;
    settled = settled;
  }
