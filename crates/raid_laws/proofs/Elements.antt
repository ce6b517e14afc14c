-- Targets one by one.
use Rattle.std.proofs.Common.{◌≡◌, ◌⊎◌, ℕ, zero, suc, ◌+◌, ◌<◌, ◌≤◌, Bool, true, false, ◌==◌, ◌||◌, not, if◌then◌else◌, List, [], ◌∷◌, ◌++◌, map, length, slice_get, Option, Some, None, refl, sym, ap, ap₂, subst, ◌∙◌, inl, inr, eqb-true, eq-eqb, arith}
use Rattle.std.proofs.lemmas.Bool.{cases_Bool, both_ways, and_parts, and_from}
use Rattle.std.specs.List.{list_any, list_all, range_with_len, zip}
use Rattle.shr_base.specs.declared.Id.{Id}
use Rattle.rack.specs.Targets.{Target, look, is_at}
use Rattle.rack.specs.Sequences.{IsPayload}
use Rattle.md_super.specs.declared.superblock.Super.{Super}
use Rattle.array_image.specs.Record.{are_apart}
use Rattle.array_model.specs.declared.Seat.{Seat}
use Rattle.array_model.specs.View.{is_missing_seat}
use Rattle.array_model.specs.Stages.{AmongTargets}
use Rattle.array_model.proofs.Looking.{look_payload}
use Rattle.array_model.proofs.Parts.{look_one}
use Rattle.array_core.specs.declared.slots.Slot.{Slot}
use Rattle.array_core.specs.Slots.{slot_with}
use Rattle.array_core.specs.Staging.{IsSuperOn, AreSupersOn, present}

-- ---- elements of two lists

pub among_either : (x : Target) (xs ys : List Target) → AmongTargets x (xs ++ ys) → AmongTargets x xs ⊎ AmongTargets x ys
among_either x [] ys among = inr among
among_either x (first ∷ xs) ys (inl here) = inl (inl here)
among_either x (first ∷ xs) ys (inr later) = elim (among_either x xs ys later) [ inl one ↦ inl (inr one) | inr two ↦ inr two ]

pub among_first : (x : Target) (xs ys : List Target) → AmongTargets x xs → AmongTargets x (xs ++ ys)
among_first x [] ys among = absurd among
among_first x (first ∷ xs) ys (inl here) = inl here
among_first x (first ∷ xs) ys (inr later) = inr (among_first x xs ys later)

pub among_second : (x : Target) (xs ys : List Target) → AmongTargets x ys → AmongTargets x (xs ++ ys)
among_second x [] ys among = among
among_second x (first ∷ xs) ys among = inr (among_second x xs ys among)

-- ---- tests of elements

pub any_among : (f : Target → Bool) (xs : List Target) → list_any f xs ≡ true → (x : Target) × AmongTargets x xs × (f x ≡ true)
any_among f [] is = absurd (both_ways false refl is)
any_among f (x ∷ xs) is =
    elim (cases_Bool (f x)) [
      | inl here ↦ (x, inl refl, here)
      | inr none ↦
          let later = any_among f xs (sym (ap (λ b. b || list_any f xs) none) ∙ is) in
          (later.0, inr later.1, later.2)
    ]

pub none_among : (f : Target → Bool) (xs : List Target) → ((x : Target) → AmongTargets x xs → f x ≡ false) → list_any f xs ≡ false
none_among f [] none = refl
none_among f (x ∷ xs) none = ap₂ (λ b c. b || c) (none x (inl refl)) (none_among f xs (λ y among. none y (inr among)))

pub all_among : (f : Target → Bool) (xs : List Target) → ((x : Target) → AmongTargets x xs → f x ≡ true) → list_all f xs ≡ true
all_among f [] all = refl
all_among f (x ∷ xs) all = and_from (f x) (list_all f xs) (all x (inl refl)) (all_among f xs (λ y among. all y (inr among)))

payload_among : (xs : List Target) (d t : ℕ) (u : List ℕ) → IsPayload xs d t u
    → (x : Target) × AmongTargets x xs × (x.disk ≡ d) × (x.sector ≡ t) × (u ≡ x.bytes)
payload_among [] d t u is = absurd is
payload_among (x ∷ xs) d t u (inl here) =
    let at = and_parts (x.disk == d) (x.sector == t) here.0 in
    (x, inl refl, eqb-true x.disk d at.0, eqb-true x.sector t at.1, here.1)
payload_among (x ∷ xs) d t u (inr later) =
    let rest = payload_among xs d t u later in
    (rest.0, inr rest.1, rest.2, rest.3, rest.4)

-- what is found for a sector is an element
pub look_among : (xs : List Target) (d t : ℕ) (u : List ℕ) → look xs d t ≡ Some u
    → (x : Target) × AmongTargets x xs × (x.disk ≡ d) × (x.sector ≡ t) × (u ≡ x.bytes)
look_among xs d t u is = payload_among xs d t u (look_payload xs d t u is)

pub look_lacks : (xs : List Target) (d t : ℕ) → ((x : Target) → AmongTargets x xs → x.disk ≡ d → x.sector ≡ t → ⊥) → look xs d t ≡ None
look_lacks xs d t none = of (look xs d t) refl
  where
    of : (o : Option (List ℕ)) → look xs d t ≡ o → o ≡ None
    of None is = refl
    of (Some u) is = let at = look_among xs d t u is in absurd (none at.0 at.1 at.2 at.3)

-- ---- no sector twice

apart_at : (d s : ℕ) (x : Target) → (x.disk ≡ d → x.sector ≡ s → ⊥) → is_at d s x ≡ false
apart_at d s x other =
    elim (cases_Bool (is_at d s x)) [
      | inl is ↦ let at = and_parts (x.disk == d) (x.sector == s) is in absurd (other (eqb-true x.disk d at.0) (eqb-true x.sector s at.1))
      | inr none ↦ none
    ]

or_false : (b c : Bool) → b ≡ false → c ≡ false → (b || c) ≡ false
or_false b c one two = ap₂ (λ x y. x || y) one two

or_right : (b c : Bool) → c ≡ true → (b || c) ≡ true
or_right true c is = refl
or_right false c is = is

any_of : (g : Target → Bool) (zs : List Target) (x : Target) → AmongTargets x zs → g x ≡ true → list_any g zs ≡ true
any_of g [] x among is = absurd among
any_of g (z ∷ zs) x (inl here) is = ap (λ b. b || list_any g zs) (ap g (sym here) ∙ is)
any_of g (z ∷ zs) x (inr later) is = or_right (g z) (list_any g zs) (any_of g zs x later is)

any_append : (f : Target → Bool) (xs ys : List Target) → list_any f xs ≡ false → list_any f ys ≡ false → list_any f (xs ++ ys) ≡ false
any_append f xs ys one two =
    none_among f (xs ++ ys)
    (λ x among. elim (cases_Bool (f x)) [
      | inl is ↦ elim (among_either x xs ys among) [
        | inl first ↦ absurd (both_ways (list_any f xs) one (any_of f xs x first is))
        | inr second ↦ absurd (both_ways (list_any f ys) two (any_of f ys x second is))
      ]
      | inr none ↦ none
    ])

pub apart_append : (xs ys : List Target) → are_apart xs ≡ true → are_apart ys ≡ true
    → ((x y : Target) → AmongTargets x xs → AmongTargets y ys → y.disk ≡ x.disk → y.sector ≡ x.sector → ⊥)
    → are_apart (xs ++ ys) ≡ true
apart_append [] ys one two other = two
apart_append (x ∷ xs) ys one two other =
    let both = and_parts (not (list_any (is_at x.disk x.sector) xs)) (are_apart xs) one in
    and_from (not (list_any (is_at x.disk x.sector) (xs ++ ys))) (are_apart (xs ++ ys))
    (ap not (any_append (is_at x.disk x.sector) xs ys (not_true (list_any (is_at x.disk x.sector) xs) both.0)
    (none_among (is_at x.disk x.sector) ys (λ y among. apart_at x.disk x.sector y (other x y (inl refl) among)))))
    (apart_append xs ys both.1 two (λ z y one two. other z y (inr one) two))
  where
    not_true : (b : Bool) → not b ≡ true → b ≡ false
    not_true true is = absurd (both_ways false refl is)
    not_true false is = refl

-- so each is found
payload_of : (xs : List Target) (x : Target) → AmongTargets x xs → IsPayload xs x.disk x.sector x.bytes
payload_of [] x among = absurd among
payload_of (y ∷ ys) x (inl here) =
    inl (
      and_from (y.disk == x.disk) (y.sector == x.sector) (eq-eqb y.disk x.disk (ap (λ (t : Target). t.disk) (sym here))) (eq-eqb y.sector x.sector (ap (λ (t : Target). t.sector) (sym here))),
      ap (λ (t : Target). t.bytes) here,
    )
payload_of (y ∷ ys) x (inr later) = inr (payload_of ys x later)

clash : (z : Target) (zs : List Target) (y : Target) → not (list_any (is_at z.disk z.sector) zs) ≡ true → AmongTargets y zs → y.disk ≡ z.disk → y.sector ≡ z.sector → ⊥
clash z zs y none among same_disk same_sector =
    both_ways true
    (sym none ∙ ap not (any_of (is_at z.disk z.sector) zs y among (and_from (y.disk == z.disk) (y.sector == z.sector) (eq-eqb y.disk z.disk same_disk) (eq-eqb y.sector z.sector same_sector))))
    refl

same_bytes : (xs : List Target) (x y : Target) → are_apart xs ≡ true → AmongTargets x xs → AmongTargets y xs → y.disk ≡ x.disk → y.sector ≡ x.sector → y.bytes ≡ x.bytes
same_bytes [] x y apart one two disk sector = absurd one
same_bytes (z ∷ zs) x y apart (inl one) (inl two) disk sector = ap (λ (t : Target). t.bytes) (two ∙ sym one)
same_bytes (z ∷ zs) x y apart (inl one) (inr two) disk sector =
    absurd (clash z zs y (and_parts (not (list_any (is_at z.disk z.sector) zs)) (are_apart zs) apart).0 two
    (disk ∙ ap (λ (t : Target). t.disk) one) (sector ∙ ap (λ (t : Target). t.sector) one))
same_bytes (z ∷ zs) x y apart (inr one) (inl two) disk sector =
    absurd (clash z zs x (and_parts (not (list_any (is_at z.disk z.sector) zs)) (are_apart zs) apart).0 one
    (sym disk ∙ ap (λ (t : Target). t.disk) two) (sym sector ∙ ap (λ (t : Target). t.sector) two))
same_bytes (z ∷ zs) x y apart (inr one) (inr two) disk sector =
    same_bytes zs x y (and_parts (not (list_any (is_at z.disk z.sector) zs)) (are_apart zs) apart).1 one two disk sector

pub apart_found : (xs : List Target) (x : Target) → are_apart xs ≡ true → AmongTargets x xs → look xs x.disk x.sector ≡ Some x.bytes
apart_found xs x apart among =
    look_one xs x.disk x.sector x.bytes (payload_of xs x among)
    (λ u is.
    let at = payload_among xs x.disk x.sector u is in
    at.4 ∙ same_bytes xs x at.0 apart among at.1 at.2 at.3)

-- ---- superblocks of members

-- the member of a position
pub slot_at_position : (place : ℕ → ℕ) (a m : ℕ) (seats : List Seat) (devices : List Id) (k : ℕ) (s : Slot) → length seats ≡ m → length devices ≡ m
    → slice_get (map slot_with (zip (map place (range_with_len a m)) (zip seats devices))) k ≡ Some s
    → (k < m) × (s.place ≡ place (a + k)) × (slice_get seats k ≡ Some s.seat)
slot_at_position place a zero seats devices k s one two is = absurd (let bad : None ≡ Some s = is in cc)
slot_at_position place a (suc m) [] devices k s one two is = absurd (omega (arith, one))
slot_at_position place a (suc m) (x ∷ seats) [] k s one two is = absurd (omega (arith, two))
slot_at_position place a (suc m) (x ∷ seats) (d ∷ devices) zero s one two is =
    let at : record { place = place a; seat = x; device = d } ≡ s = cc in
    (omega arith, ap (λ (t : Slot). t.place) (sym at) ∙ ap place (omega arith), ap (λ (t : Slot). Some t.seat) at)
slot_at_position place a (suc m) (x ∷ seats) (d ∷ devices) (suc k) s one two is =
    let rest = slot_at_position place (a + 1) m seats devices k s (omega (arith, one)) (omega (arith, two)) is in
    let low = rest.0 in
    (omega (arith, low), rest.1 ∙ ap place (omega arith), rest.2)

-- a superblock among those of members
pub record IsFrom (number : ℕ) (t : Super) (slots : List Slot) (x : Target) : Type 0 where
  pub index : ℕ
  pub slot : Slot
  pub at : slice_get slots index ≡ Some slot
  pub there : is_missing_seat slot.seat ≡ false
  pub on : IsSuperOn number t slot x

later_from : (number : ℕ) (t : Super) (s : Slot) (slots : List Slot) (x : Target) → IsFrom number t slots x → IsFrom number t (s ∷ slots) x
later_from number t s slots x from = record { index = suc from.index; slot = from.slot; at = from.at; there = from.there; on = from.on }

pub supers_from : (number : ℕ) (t : Super) (slots : List Slot) (xs : List Target) (x : Target) → AreSupersOn number t (present slots) xs → AmongTargets x xs → IsFrom number t slots x
supers_from number t [] [] x are among = absurd among
supers_from number t [] (y ∷ ys) x are among = absurd are
supers_from number t (s ∷ slots) xs x are among =
    let Goal : Bool → Type 0 = λ b. is_missing_seat s.seat ≡ b → AreSupersOn number t (if not b then s ∷ present slots else present slots) xs → IsFrom number t (s ∷ slots) x in
    let goal : Goal (is_missing_seat s.seat) = elim (is_missing_seat s.seat) as Goal [
      | true ↦ λ is others. later_from number t s slots x (supers_from number t slots xs x others among)
      | false ↦ λ is all. taken xs is all among (λ ys others there. supers_from number t slots ys x others there)
    ] in
    goal refl are
  where
    taken : (ys : List Target) → is_missing_seat s.seat ≡ false → AreSupersOn number t (s ∷ present slots) ys → AmongTargets x ys
        → ((zs : List Target) → AreSupersOn number t (present slots) zs → AmongTargets x zs → IsFrom number t slots x) → IsFrom number t (s ∷ slots) x
    taken [] is all there rest = absurd there
    taken (y ∷ ys) is all (inl here) rest = record { index = 0; slot = s; at = refl; there = is; on = subst (IsSuperOn number t s) (sym here) all.0 }
    taken (y ∷ ys) is all (inr later) rest = later_from number t s slots x (rest ys all.1 later)

-- there are no more of them than members
pub supers_count : (number : ℕ) (t : Super) (slots : List Slot) (xs : List Target) → AreSupersOn number t (present slots) xs → length xs ≤ length slots
supers_count number t [] [] are = omega arith
supers_count number t [] (y ∷ ys) are = absurd are
supers_count number t (s ∷ slots) xs are =
    let Goal : Bool → Type 0 = λ b. AreSupersOn number t (if not b then s ∷ present slots else present slots) xs → length xs ≤ suc (length slots) in
    let goal : Goal (is_missing_seat s.seat) = elim (is_missing_seat s.seat) as Goal [
      | true ↦ λ others. let low = supers_count number t slots xs others in omega (arith, low)
      | false ↦ λ all. taken xs all (λ ys others. supers_count number t slots ys others)
    ] in
    goal are
  where
    taken : (ys : List Target) → AreSupersOn number t (s ∷ present slots) ys
        → ((zs : List Target) → AreSupersOn number t (present slots) zs → length zs ≤ length slots) → length ys ≤ suc (length slots)
    taken [] all rest = omega arith
    taken (y ∷ ys) all rest = let low = rest ys all.1 in omega (arith, low)
