-- A pool that isn't at its end wasn't before.
use Rattle.std.proofs.Common.{◌≡◌, ℕ, ◌<◌, ◌≤◌, Bool, true, false, ◌==◌, ◌||◌, not, nat_lt, refl, sym, ap, ap₂, subst, inl, inr, eq-eqb, ne_eqb, lt-ltb, le-ltb, ltb-true, arith}
use Rattle.std.proofs.lemmas.Bool.{cases_lt, both_ways, and_parts, ltb-false}
use Rattle.std.specs.List.{list_any, range_with_len}
use Rattle.array_image.specs.States.{is_current}
use Rattle.array_model.specs.View.{present}
use Rattle.raid_laws.specs.Raid.{Raid, gone_in, is_left, is_empty, is_used_up, is_failed, last_number}
use Rattle.raid_laws.proofs.Ranges.{any_some, any_from, any_none, any_wider, none_narrower}

pub or_parts : (b c : Bool) → (b || c) ≡ false → (b ≡ false) × (c ≡ false)
or_parts true c is = absurd (both_ways true is refl)
or_parts false c is = (refl, is)

pub or_from : (b c : Bool) → b ≡ false → c ≡ false → (b || c) ≡ false
or_from b c one two = ap₂ (λ x y. x || y) one two

pub not_false : (b : Bool) → not b ≡ false → b ≡ true
not_false true is = refl
not_false false is = sym is

pub not_true : (b : Bool) → not b ≡ true → b ≡ false
not_true true is = absurd (both_ways false refl is)
not_true false is = refl

lower_still : (m n top : ℕ) → m ≤ n → nat_lt top n ≡ false → nat_lt top m ≡ false
lower_still m n top less below = le-ltb top m (let high = ltb-false top n below in omega (arith, high, less))

-- a place that is left
pub someone_left : (v : Raid) (n : ℕ) → is_failed v n ≡ false → (place : ℕ) × (is_current v.state place ≡ true) × (gone_in v place ≡ false)
someone_left v n goes =
    let parts = or_parts (is_empty v) (is_used_up v || (present (v.arrays n).seats == 0)) goes in
    let at = any_some (is_left v) 0 16 (not_false (list_any (is_left v) (range_with_len 0 16)) parts.0) in
    let both = and_parts (is_current v.state at.0) (not (gone_in v at.0)) at.3 in
    (at.0, both.0, not_true (gone_in v at.0) both.1)

-- a pool of which a place is left isn't empty
pub not_empty : (v : Raid) (p : ℕ) → p < 16 → is_left v p ≡ true → is_empty v ≡ false
not_empty v p few left = ap not (any_from (is_left v) 0 16 p (omega arith) few left)

-- a member that is left
pub member_left : (v : Raid) (n : ℕ) → is_failed v n ≡ false → 0 < present (v.arrays n).seats
member_left v n goes =
    let parts = or_parts (is_empty v) (is_used_up v || (present (v.arrays n).seats == 0)) goes in
    let seats = (or_parts (is_used_up v) (present (v.arrays n).seats == 0) parts.1).1 in
    elim (cases_lt 0 (present (v.arrays n).seats)) [
      | inl some ↦ some
      | inr none ↦ absurd (both_ways (present (v.arrays n).seats == 0) seats (eq-eqb (present (v.arrays n).seats) 0 (omega (arith, none))))
    ]

-- numbers that aren't at their end
pub number_room : (v : Raid) (n : ℕ) → is_failed v n ≡ false → (v.number ≤ last_number) × (v.state.epoch ≤ last_number)
number_room v n goes =
    let parts = or_parts (is_empty v) (is_used_up v || (present (v.arrays n).seats == 0)) goes in
    let used = (or_parts (is_used_up v) (present (v.arrays n).seats == 0) parts.1).0 in
    let one = or_parts (nat_lt last_number v.number) (nat_lt last_number v.state.epoch || list_any (λ m. nat_lt last_number (v.arrays m).truth.events) (range_with_len 0 v.state.made)) used in
    let two = or_parts (nat_lt last_number v.state.epoch) (list_any (λ m. nat_lt last_number (v.arrays m).truth.events) (range_with_len 0 v.state.made)) one.1 in
    (ltb-false last_number v.number one.0, ltb-false last_number v.state.epoch two.0)

pub event_room : (v : Raid) (n m : ℕ) → is_failed v n ≡ false → m < v.state.made → (v.arrays m).truth.events ≤ last_number
event_room v n m goes low =
    let late : ℕ → Bool = λ k. nat_lt last_number (v.arrays k).truth.events in
    let parts = or_parts (is_empty v) (is_used_up v || (present (v.arrays n).seats == 0)) goes in
    let used = (or_parts (is_used_up v) (present (v.arrays n).seats == 0) parts.1).0 in
    let one = or_parts (nat_lt last_number v.number) (nat_lt last_number v.state.epoch || list_any late (range_with_len 0 v.state.made)) used in
    let two = or_parts (nat_lt last_number v.state.epoch) (list_any late (range_with_len 0 v.state.made)) one.1 in
    ltb-false last_number (v.arrays m).truth.events (any_none late 0 v.state.made m two.1 (omega arith) (omega (arith, low)))

-- numbers that aren't used up weren't before
pub used_still : (v w : Raid) → v.number ≤ w.number → v.state.epoch ≤ w.state.epoch → w.state.made ≡ v.state.made
    → ((n : ℕ) → n < v.state.made → (v.arrays n).truth.events ≤ (w.arrays n).truth.events) → is_used_up w ≡ false → is_used_up v ≡ false
used_still v w numbers epochs made events fresh =
    let number = or_parts (nat_lt last_number w.number) (nat_lt last_number w.state.epoch || list_any (λ m. nat_lt last_number (w.arrays m).truth.events) (range_with_len 0 w.state.made)) fresh in
    let epoch = or_parts (nat_lt last_number w.state.epoch) (list_any (λ m. nat_lt last_number (w.arrays m).truth.events) (range_with_len 0 w.state.made)) number.1 in
    or_from (nat_lt last_number v.number) (nat_lt last_number v.state.epoch || list_any (λ m. nat_lt last_number (v.arrays m).truth.events) (range_with_len 0 v.state.made))
    (lower_still v.number w.number last_number numbers number.0)
    (or_from (nat_lt last_number v.state.epoch) (list_any (λ m. nat_lt last_number (v.arrays m).truth.events) (range_with_len 0 v.state.made))
    (lower_still v.state.epoch w.state.epoch last_number epochs epoch.0)
    (none_narrower (λ m. nat_lt last_number (v.arrays m).truth.events) (λ m. nat_lt last_number (w.arrays m).truth.events) 0 v.state.made
    (λ m from below is.
    let high = ltb-true last_number (v.arrays m).truth.events is in
    let more = events m (omega (arith, below)) in
    lt-ltb last_number (w.arrays m).truth.events (omega (arith, high, more)))
    (subst (λ k. list_any (λ m. nat_lt last_number (w.arrays m).truth.events) (range_with_len 0 k) ≡ false) made epoch.1)))

-- what falls of a pool, and what rises
pub record IsFurther (v w : Raid) : Type 0 where
  pub left : (place : ℕ) → is_left w place ≡ true → is_left v place ≡ true
  pub number : v.number ≤ w.number
  pub epoch : v.state.epoch ≤ w.state.epoch
  pub made : w.state.made ≡ v.state.made
  pub events : (n : ℕ) → n < v.state.made → (v.arrays n).truth.events ≤ (w.arrays n).truth.events
  pub seats : (n : ℕ) → n < v.state.made → present (w.arrays n).seats ≤ present (v.arrays n).seats

pub over_still : (v w : Raid) → IsFurther v w → (n : ℕ) → n < v.state.made → is_failed w n ≡ false → is_failed v n ≡ false
over_still v w further n low goes =
    let parts = or_parts (is_empty w) (is_used_up w || (present (w.arrays n).seats == 0)) goes in
    let rest = or_parts (is_used_up w) (present (w.arrays n).seats == 0) parts.1 in
    let some = any_wider (is_left w) (is_left v) 0 16 (λ p low high is. further.left p is) (not_false (list_any (is_left w) (range_with_len 0 16)) parts.0) in
    or_from (is_empty v) (is_used_up v || (present (v.arrays n).seats == 0)) (ap not some)
    (or_from (is_used_up v) (present (v.arrays n).seats == 0)
    (used_still v w further.number further.epoch further.made further.events rest.0)
    (ne_eqb (present (v.arrays n).seats) 0
    (λ none. let fewer = further.seats n low in both_ways (present (w.arrays n).seats == 0) rest.1 (eq-eqb (present (w.arrays n).seats) 0 (omega (arith, fewer, none))))))
