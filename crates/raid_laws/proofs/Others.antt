-- Other drives than one of a place: one of those that a state has as current, and an array's member on one.
use Rattle.std.proofs.Common.{◌≡◌, ◌≢◌, ℕ, zero, suc, ◌+◌, ◌<◌, ◌≤◌, ◌==◌, ◌&&◌, ◌||◌, not, nat_lt, Bool, true, false, if◌then◌else◌, List, [], ◌∷◌, filter, length, slice_get, Some, None, option_map, unwrap_or, refl, sym, ap, ◌∙◌, inl, inr, eq-eqb, ltb-true, arith}
use Rattle.std.specs.List.{list_all, list_any, range_with_len}
use Rattle.std.specs.Option.{option_map_or}
use Rattle.std.proofs.lemmas.Bool.{and_parts, both_ways, cases_Bool, cases_eq, cases_lt}
use Rattle.std.proofs.lemmas.Option.{slice_get_past}
use Rattle.rack.specs.Seen.{RackView}
use Rattle.md_super.specs.declared.superblock.Super.{Super}
use Rattle.pool_state.specs.declared.contents.State.{State}
use Rattle.array_image.specs.Arrays.{place_with}
use Rattle.array_image.specs.States.{current_places, is_current}
use Rattle.array_image.specs.Supers.{has_roles, is_named, named_places}
use Rattle.log_laws.specs.View.{names}
use Rattle.commit_log.proofs.Deciding.{names_first, names_later}
use Rattle.array_model.proofs.RowWrites.{places_apart}
use Rattle.array_model.specs.declared.Seat.{Seat}
use Rattle.array_model.specs.View.{View, has_gone, is_missing_seat, place_at, present}
use Rattle.array_core.proofs.Opened.{named_place}
use Rattle.raid_laws.specs.Losses.{has_other}
use Rattle.raid_laws.specs.Moves.{IsSeated}
use Rattle.raid_laws.proofs.Added.{names_current}

-- ---- one that is current

named_other : (ps : List ℕ) (place : ℕ) → list_any (λ p. not (p == place)) ps ≡ true → (p : ℕ) × (names ps p ≡ true) × (p ≢ place)
named_other [] place some = absurd (both_ways false refl some)
named_other (q ∷ ps) place some =
    elim (cases_eq q place) [
      | inl same ↦
          let rest = named_other ps place (sym (ap (λ b. not b || list_any (λ p. not (p == place)) ps) (eq-eqb q place same)) ∙ some) in
          (rest.0, names_later q ps rest.0 rest.1, rest.2)
      | inr other ↦ (q, names_first q ps, other)
    ]

pub some_other : (s : State) (place : ℕ) → has_other s place ≡ true → (p : ℕ) × (is_current s p ≡ true) × (p ≢ place)
some_other s place some =
    let at = named_other (current_places s) place some in
    (at.0, sym (names_current s at.0) ∙ at.1, at.2)

-- ---- a member on one

all_within : (test pass : ℕ → Bool) (a k p : ℕ) → list_all test (filter pass (range_with_len a k)) ≡ true → pass p ≡ true → a ≤ p → p < a + k → test p ≡ true
all_within test pass a zero p all passes low high = absurd (omega (arith, low, high))
all_within test pass a (suc k) p all passes low high =
    let rest = filter pass (range_with_len (a + 1) k) in
    elim (cases_eq a p) [
      | inl here ↦
          let both = and_parts (test a) (list_all test rest)
          (sym (ap (λ b. list_all test (if b then a ∷ rest else rest)) (ap pass here ∙ passes)) ∙ all) in
          ap test (sym here) ∙ both.0
      | inr other ↦
          all_within test pass (a + 1) k p
          (elim (cases_Bool (pass a)) [
            | inl is ↦ (and_parts (test a) (list_all test rest) (sym (ap (λ b. list_all test (if b then a ∷ rest else rest)) is) ∙ all)).1
            | inr not ↦ sym (ap (λ b. list_all test (if b then a ∷ rest else rest)) not) ∙ all
          ])
          passes (omega (arith, low, other)) (omega (arith, high))
    ]

-- the place of a position is one of the list
pub place_listed : (drives : ℕ) (t : Super) (k p : ℕ) → has_roles drives t ≡ true → k < 16 → place_with t.roles.items k ≡ Some p → p < drives
place_listed drives t k p roles few is =
    let named = named_place t k p few is in
    let all = and_parts (list_all (λ q. nat_lt q drives) (named_places t)) _ (and_parts (length (named_places t) == t.raid_disks) _ roles).1 in
    elim (cases_lt p (length t.roles.items)) [
      | inl low ↦ ltb-true p drives (all_within (λ q. nat_lt q drives) (is_named t) 0 (length t.roles.items) p all.0 named (omega arith) (omega (arith, low)))
      | inr past ↦ absurd (both_ways false refl (sym (ap (λ o. option_map_or (λ role. nat_lt role 0xfffe) o false) (slice_get_past t.roles.items p past)) ∙ named))
    ]

some_present : (seats : List Seat) (k : ℕ) → option_map is_missing_seat (slice_get seats k) ≡ Some false → 0 < present seats
some_present [] k is = absurd (let bad : None ≡ Some false = is in cc)
some_present (seat ∷ seats) zero is =
    let e = ap (λ (b : Bool). if b then present seats else suc (present seats)) (ap (λ o. unwrap_or o true) is) in omega (arith, e)
some_present (seat ∷ seats) (suc k) is =
    let some = some_present seats k is in
    elim (cases_Bool (is_missing_seat seat)) [
      | inl gone ↦ (let e = ap (λ (b : Bool). if b then present seats else suc (present seats)) gone in omega (arith, e, some))
      | inr there ↦ (let e = ap (λ (b : Bool). if b then present seats else suc (present seats)) there in omega (arith, e))
    ]

-- An array of which nobody went has a member left where all drives but one are current: two of its members are on two places.
pub other_left : (s : State) (n : ℕ) (u : View) (x : RackView) (place : ℕ) → IsSeated s n u x → u.went ≡ []
    → ((p : ℕ) → p < length s.drives.items → p ≢ place → is_current s p ≡ true) → 0 < present u.seats
other_left s n u x place seated heeded others =
    let least = seated.is_array.least in
    elim (cases_eq (place_at u 0) place) [
      | inl here ↦
          on 1 (omega (arith, least)) (omega arith)
          (λ same.
          let e = places_apart u 0 1 seated.is_array (omega (arith, least)) (omega (arith, least)) (here ∙ sym same) in
          absurd (omega (arith, e)))
      | inr away ↦ on 0 (omega (arith, least)) (omega arith) away
    ]
  where
    on : (k : ℕ) → k < u.truth.raid_disks → k < 16 → place_at u k ≢ place → 0 < present u.seats
    on k low few away =
        let at = seated.is_array.placed k low in
        let is : place_at u k ≡ at.0 = ap (λ o. unwrap_or o 16) at.1 in
        let listed = place_listed (length s.drives.items) u.truth k at.0 seated.is_of_pool.roles few at.1 in
        some_present u.seats k
        (seated.marks k low
        ∙ ap (λ b. Some (not (b && not (has_gone u (place_at u k))))) (others (place_at u k) (omega (arith, is, listed)) away)
        ∙ ap (λ ps. Some (not (true && not (names ps (place_at u k))))) heeded)
