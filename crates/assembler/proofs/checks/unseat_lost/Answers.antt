use Rattle.std.proofs.Common.{◌≡◌, ◌≢◌, ◌⊎◌, ◌==◌, ◌&&◌, ◌+◌, ◌∙◌, ℕ, Bool, true, false, nat_lt, not, if◌then◌else◌, Option, Some, None, refl, sym, ap, ap₂, subst, inl, inr, arith, eq-eqb, lt-ltb, le-ltb}
use Rattle.std.specs.Prelude.{is_none}
use Rattle.std.proofs.lemmas.Bool.{cases_eq, cases_lt, ne_eqb}
use Rattle.slice_rack.specs.Slices.{place_of, seat_of}
use Rattle.slice_rack.specs.SliceRack.{tables}
use Rattle.pool_check.specs.Drives.{seats_by}
use Rattle.assembler.proofs.checks.unseat_lost.Goals as goal

-- a place that has a disk isn't unseated
lost_none : (lost : Bool) (o : Option ℕ) → not lost ≡ not (is_none o) → o ≢ None → lost ≡ false
lost_none false o is some = refl
lost_none true None is some = absurd (some refl)
lost_none true (Some d) is some = absurd (let bad : false ≡ true = is in cc)

same_twice : (lost none : Bool) → not lost ≡ not none → lost ≡ none
same_twice true true is = refl
same_twice false false is = refl
same_twice true false is = absurd (let bad : false ≡ true = is in cc)
same_twice false true is = absurd (let bad : true ≡ false = is in cc)

apart_or : (lost : Bool) (k place : ℕ) (seats : ℕ → Option ℕ) → not lost ≡ not (is_none (seats place)) → seats (place_of k) ≢ None → (place_of k ≢ place) ⊎ (lost ≡ false)
apart_or lost k place seats is some = elim (cases_eq (place_of k) place) [
  | inr other ↦ inl other
  | inl same ↦ inr (lost_none lost (seats place) is (subst (λ p. seats p ≢ None) same some))
]

pub loop-place-preserved : goal.loop-place-preserved
loop-place-preserved g c =
    let n : ℕ = c.loop-place.place in
    let inv = c.loop-place.invariant in
    let now = c.unseat_if.ensures in
    let seats : ℕ → Option ℕ = seats_by c.args.seats.now in
    let lost : Bool = not c.has_disk.result in
    let is : not lost ≡ not (is_none (seats n)) = twice c.has_disk.result ∙ c.has_disk.ensures in
    record {
      below = now.below ∙ inv.below;
      fit = now.fit;
      seats = λ p. now.seats p ∙ ap (λ o. if (p == n) && lost then None else o) (inv.seats p)
          ∙ elim (cases_eq p n) [
            | inl same ↦
                ap₂ (λ (a b : Bool). if a && lost then None else (if b && is_none (seats p) then None else seat_of (tables c.args.slices.now) p)) (eq-eqb p n same) (le-ltb p n (omega (arith, same)))
                ∙ ap (λ (b : Bool). if b then None else seat_of (tables c.args.slices.now) p) (same_twice lost (is_none (seats n)) is ∙ ap (λ q. is_none (seats q)) (sym same))
                ∙ sym (ap (λ (b : Bool). if b && is_none (seats p) then None else seat_of (tables c.args.slices.now) p) (lt-ltb p (n + 1) (omega (arith, same))))
            | inr other ↦
                ap (λ (a : Bool). if a && lost then None else (if nat_lt p n && is_none (seats p) then None else seat_of (tables c.args.slices.now) p)) (ne_eqb p n other)
                ∙ ap (λ (b : Bool). if b && is_none (seats p) then None else seat_of (tables c.args.slices.now) p) (next p other)
          ];
      firsts = λ k some. now.firsts k (apart_or lost k n seats is some) ∙ inv.firsts k some;
      sectors = λ k some. now.sectors k (apart_or lost k n seats is some) ∙ inv.sectors k some;
    }
  where
    twice : (b : Bool) → not (not b) ≡ b
    twice true = refl
    twice false = refl

    next : (p : ℕ) → p ≢ c.loop-place.place → nat_lt p c.loop-place.place ≡ nat_lt p (c.loop-place.place + 1)
    next p other = elim (cases_lt p c.loop-place.place) [
      | inl low ↦ lt-ltb p c.loop-place.place low ∙ sym (lt-ltb p (c.loop-place.place + 1) (omega (arith, low)))
      | inr high ↦ le-ltb p c.loop-place.place high ∙ sym (le-ltb p (c.loop-place.place + 1) (omega (arith, high, other)))
    ]
