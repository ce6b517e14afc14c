-- An array that isn't over wasn't before, where a pool may have got more arrays since.
use Rattle.std.proofs.Common.{◌≡◌, ℕ, ◌<◌, ◌≤◌, Bool, true, false, ◌==◌, ◌||◌, not, nat_lt, ap, inl, inr, eq-eqb, ltb-true, ne_eqb, arith}
use Rattle.std.proofs.lemmas.Bool.{both_ways, cases_Bool}
use Rattle.std.specs.List.{list_any, range_with_len}
use Rattle.array_model.specs.View.{present}
use Rattle.raid_laws.specs.Raid.{is_empty, is_left, is_failed, is_used_up, last_number, Raid}
use Rattle.raid_laws.proofs.Over.{event_room, not_false, number_room, or_from, or_parts}
use Rattle.raid_laws.proofs.Ranges.{any_some, any_wider}

-- what falls of it, and what rises
pub record GoesOn (v w : Raid) : Type 0 where
  pub left : (place : ℕ) → is_left w place ≡ true → is_left v place ≡ true
  pub number : v.number ≤ w.number
  pub epoch : v.state.epoch ≤ w.state.epoch
  pub made : v.state.made ≤ w.state.made
  pub events : (n : ℕ) → n < v.state.made → (v.arrays n).truth.events ≤ (w.arrays n).truth.events
  pub seats : (n : ℕ) → n < v.state.made → present (w.arrays n).seats ≤ present (v.arrays n).seats

below : (m n top : ℕ) → m ≤ n → n ≤ top → nat_lt top m ≡ false
below m n top less room = elim (cases_Bool (nat_lt top m)) [
  | inl is ↦ absurd (let high = ltb-true top m is in omega (arith, high, less, room))
  | inr none ↦ none
]

pub over_before : (v w : Raid) → GoesOn v w → (n : ℕ) → n < v.state.made → is_failed w n ≡ false → is_failed v n ≡ false
over_before v w further n low goes =
    let parts = or_parts (is_empty w) (is_used_up w || (present (w.arrays n).seats == 0)) goes in
    let rest = or_parts (is_used_up w) (present (w.arrays n).seats == 0) parts.1 in
    let some = any_wider (is_left w) (is_left v) 0 16 (λ p low high is. further.left p is) (not_false (list_any (is_left w) (range_with_len 0 16)) parts.0) in
    let room = number_room w n goes in
    let late : ℕ → Bool = λ m. nat_lt last_number (v.arrays m).truth.events in
    let events : list_any late (range_with_len 0 v.state.made) ≡ false =
    elim (cases_Bool (list_any late (range_with_len 0 v.state.made))) [
      | inl is ↦ absurd (
          let at = any_some late 0 v.state.made is in
          let among = at.2 in
          let high = ltb-true last_number (v.arrays at.0).truth.events at.3 in
          let made = further.made in
          let low : at.0 < v.state.made = omega (arith, among) in
          let more = further.events at.0 low in
          let fits = event_room w n at.0 goes (omega (arith, low, made)) in
          omega (arith, high, more, fits))
      | inr none ↦ none
    ] in
    or_from (is_empty v) (is_used_up v || (present (v.arrays n).seats == 0)) (ap not some)
    (or_from (is_used_up v) (present (v.arrays n).seats == 0)
    (or_from (nat_lt last_number v.number) (nat_lt last_number v.state.epoch || list_any late (range_with_len 0 v.state.made))
    (below v.number w.number last_number further.number room.0)
    (or_from (nat_lt last_number v.state.epoch) (list_any late (range_with_len 0 v.state.made)) (below v.state.epoch w.state.epoch last_number further.epoch room.1) events))
    (ne_eqb (present (v.arrays n).seats) 0
    (λ none. let fewer = further.seats n low in both_ways (present (w.arrays n).seats == 0) rest.1 (eq-eqb (present (w.arrays n).seats) 0 (omega (arith, fewer, none))))))
