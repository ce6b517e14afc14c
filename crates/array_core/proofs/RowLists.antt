-- The targets of a row as a list: whose they are, that a commit can have them, and that there are some.
use Rattle.std.proofs.Common.{◌≡◌, ◌⊎◌, ℕ, zero, suc, ◌+◌, ◌<◌, ◌≤◌, Bool, true, false, ◌==◌, ◌||◌, not, List, [], ◌∷◌, ◌++◌, length, unwrap_or, refl, sym, ap, ap₂, subst, ◌∙◌, inl, inr, lt-ltb, arith}
use Rattle.std.specs.List.{list_all, list_any}
use Rattle.std.proofs.lemmas.Bool.{both_ways, and_from, and_parts, ne_eqb, cases_lt}
use Rattle.rack.specs.Targets.{Target, target, is_at}
use Rattle.rack.specs.Sequences.{IsPayload}
use Rattle.array_image.specs.Places.{slice_of, data_sector}
use Rattle.array_image.specs.Record.{is_target, are_apart}
use Rattle.array_model.specs.View.{View, IsArray, place_at}
use Rattle.array_model.specs.Members.{IsSameButSeats, slice_on}
use Rattle.array_model.proofs.Looking.{look_payload}
use Rattle.array_model.proofs.Parts.{at_is, is_at_own}
use Rattle.array_model.proofs.Reading.{slice_same}
use Rattle.array_model.proofs.RowWrites.{places_apart}
use Rattle.array_core.specs.Logging.{is_due, one_if, sector_target, due_copies}
use Rattle.array_core.proofs.RowCommits.{IsOwnData}

-- ---- payloads

pub payload_or : (xs ys : List Target) (d s : ℕ) (u : List ℕ) → IsPayload (xs ++ ys) d s u → IsPayload xs d s u ⊎ IsPayload ys d s u
payload_or [] ys d s u is = inr is
payload_or (x ∷ xs) ys d s u (inl here) = inl (inl here)
payload_or (x ∷ xs) ys d s u (inr later) = elim (payload_or xs ys d s u later) [ inl one ↦ inl (inr one) | inr two ↦ inr two ]

pub payload_left : (xs ys : List Target) (d s : ℕ) (u : List ℕ) → IsPayload xs d s u → IsPayload (xs ++ ys) d s u
payload_left [] ys d s u is = absurd is
payload_left (x ∷ xs) ys d s u (inl here) = inl here
payload_left (x ∷ xs) ys d s u (inr later) = inr (payload_left xs ys d s u later)

pub payload_right : (xs ys : List Target) (d s : ℕ) (u : List ℕ) → IsPayload ys d s u → IsPayload (xs ++ ys) d s u
payload_right [] ys d s u is = is
payload_right (x ∷ xs) ys d s u is = inr (payload_right xs ys d s u is)

pub some_payload : (xs : List Target) (d s : ℕ) (u : List ℕ) → IsPayload xs d s u → 0 < length xs
some_payload [] d s u is = absurd is
some_payload (x ∷ xs) d s u is = omega arith

-- ---- a member's sector

-- a payload is for a sector t of a member's data
pub record IsOn (v : View) (t : ℕ) (P : ℕ → List ℕ → Type 0) (d s : ℕ) (u : List ℕ) : Type 0 where
  pub position : ℕ
  pub low : position < v.truth.raid_disks
  pub disk : d ≡ slice_on v position
  pub sector : s ≡ data_sector + t
  pub own : P position u

abbrev pub AllOn : View → ℕ → (ℕ → List ℕ → Type 0) → List Target → Type 0
AllOn v t P xs = (d s : ℕ) (u : List ℕ) → IsPayload xs d s u → IsOn v t P d s u

pub one_on : (v : View) (t position : ℕ) (P : ℕ → List ℕ → Type 0) (due : Bool) (bytes : List ℕ) → position < v.truth.raid_disks → (due ≡ true → P position bytes)
    → AllOn v t P (one_if due (sector_target v position t bytes))
one_on v t position P true bytes low own d s u (inl here) =
    let at = at_is d s (sector_target v position t bytes) here.0 in
    record { position = position; low = low; disk = at.0; sector = at.1; own = subst (P position) (sym here.1) (own refl) }
one_on v t position P true bytes low own d s u (inr none) = absurd none
one_on v t position P false bytes low own d s u is = absurd is

pub join_on : (v : View) (t : ℕ) (P : ℕ → List ℕ → Type 0) (xs ys : List Target) → AllOn v t P xs → AllOn v t P ys → AllOn v t P (xs ++ ys)
join_on v t P xs ys one two d s u is = elim (payload_or xs ys d s u is) [ inl first ↦ one d s u first | inr second ↦ two d s u second ]

pub weaker_on : (v : View) (t : ℕ) (P Q : ℕ → List ℕ → Type 0) (xs : List Target) → ((j : ℕ) (u : List ℕ) → P j u → Q j u) → AllOn v t P xs → AllOn v t Q xs
weaker_on v t P Q xs more on d s u is =
    let at = on d s u is in
    record { position = at.position; low = at.low; disk = at.disk; sector = at.sector; own = more at.position u at.own }

-- ---- copies

pub copies_on : (all : Bool) (v : View) (t : ℕ) (from : List ℕ) (n : ℕ) → n ≤ v.truth.raid_disks
    → AllOn v t (λ j u. (j < n) × (is_due all v j t ≡ true) × (u ≡ from)) (due_copies all v t from n)
unfolding due_copies
copies_on all v t from zero low = λ d s u is. absurd is
copies_on all v t from (suc n) low =
    let P : ℕ → List ℕ → Type 0 = λ j u. (j < suc n) × (is_due all v j t ≡ true) × (u ≡ from) in
    join_on v t P (due_copies all v t from n) (one_if (is_due all v n t) (sector_target v n t from))
    (weaker_on v t (λ j u. (j < n) × (is_due all v j t ≡ true) × (u ≡ from)) P (due_copies all v t from n)
    (λ j u at. (let less = at.0 in (omega (arith, less), at.1, at.2))) (copies_on all v t from n (omega (arith, low))))
    (one_on v t n P (is_due all v n t) from (omega (arith, low)) (λ due. (omega arith, due, refl)))

pub one_has : (due : Bool) (x : Target) → due ≡ true → IsPayload (one_if due x) x.disk x.sector x.bytes
one_has true x is = inl (is_at_own x, refl)
one_has false x is = absurd (both_ways false refl is)

pub copies_has : (all : Bool) (v : View) (t : ℕ) (from : List ℕ) (n j : ℕ) → j < n → is_due all v j t ≡ true → IsPayload (due_copies all v t from n) (slice_on v j) (data_sector + t) from
unfolding due_copies
copies_has all v t from zero j low due = absurd (omega (arith, low))
copies_has all v t from (suc n) j low due =
    elim (cases_lt j n) [
      | inl less ↦
          payload_left (due_copies all v t from n) (one_if (is_due all v n t) (sector_target v n t from)) (slice_on v j) (data_sector + t) from (copies_has all v t from n j less due)
      | inr more ↦
          let same : n ≡ j = omega (arith, more, low) in
          payload_right (due_copies all v t from n) (one_if (is_due all v n t) (sector_target v n t from)) (slice_on v j) (data_sector + t) from
          (subst (λ k. IsPayload (one_if (is_due all v n t) (sector_target v n t from)) (slice_on v k) (data_sector + t) from) same
          (one_has (is_due all v n t) (sector_target v n t from) (subst (λ k. is_due all v k t ≡ true) (sym same) due)))
    ]

-- ---- a commit can have them

slices_apart : (v : View) (i j : ℕ) → IsArray v → i < v.truth.raid_disks → j < v.truth.raid_disks → slice_on v i ≡ slice_on v j → i ≡ j
slices_apart v i j is_array low_i low_j same = places_apart v i j is_array low_i low_j (omega (arith, same))

pub valid_on : (v : View) (t : ℕ) (P : ℕ → List ℕ → Type 0) (xs : List Target) → IsArray v → AllOn v t P xs → list_all is_target xs ≡ true
valid_on v t P [] is_array on = refl
valid_on v t P (x ∷ xs) is_array on =
    let at = on x.disk x.sector x.bytes (inl (is_at_own x, refl)) in
    let disk = at.disk in
    let few = is_array.few in
    let there = is_array.placed at.position at.low in
    let place : there.0 ≡ place_at v at.position = ap (λ o. unwrap_or o 16) (sym there.1) in
    let low = there.2 in
    and_from _ _
    (and_from _ _ (lt-ltb x.disk 272 (omega (arith, disk, few, place, low)))
    (ap (λ (b : Bool). not b || (x.sector == 0)) (ne_eqb (slice_of x.disk) 0 (λ none. omega (arith, disk, few, none)))))
    (valid_on v t P xs is_array (λ d s u is. on d s u (inr is)))

any_snoc : (p : Target → Bool) (xs : List Target) (y : Target) → list_any p xs ≡ false → p y ≡ false → list_any p (xs ++ y ∷ []) ≡ false
any_snoc p [] y none not_y = ap (λ (b : Bool). b || false) not_y
any_snoc p (x ∷ xs) y none not_y = by (p x) (list_any p xs) (list_any p (xs ++ y ∷ [])) none (λ rest. any_snoc p xs y rest not_y)
  where
    by : (b more all : Bool) → (b || more) ≡ false → (more ≡ false → all ≡ false) → (b || all) ≡ false
    by true more all is rest = absurd (both_ways true is refl)
    by false more all is rest = rest is

not_false : (b : Bool) → not b ≡ true → b ≡ false
not_false true is = absurd (both_ways false refl is)
not_false false is = refl

apart_snoc : (xs : List Target) (y : Target) → are_apart xs ≡ true → ((u : List ℕ) → IsPayload xs y.disk y.sector u → ⊥) → are_apart (xs ++ y ∷ []) ≡ true
apart_snoc [] y apart none = refl
apart_snoc (x ∷ xs) y apart none =
    let parts = and_parts (not (list_any (is_at x.disk x.sector) xs)) (are_apart xs) apart in
    let Goal : Bool → Type 0 = λ b. is_at x.disk x.sector y ≡ b → b ≡ false in
    let goal : Goal (is_at x.disk x.sector y) = elim (is_at x.disk x.sector y) as Goal [
      | false ↦ λ is. refl
      | true ↦ λ is.
          let at = at_is x.disk x.sector y is in
          absurd (none x.bytes (inl (subst (λ e. is_at e y.sector x ≡ true) at.0 (subst (λ e. is_at x.disk e x ≡ true) at.1 (is_at_own x)), refl)))
    ] in
    and_from _ _
    (ap not (any_snoc (is_at x.disk x.sector) xs y (not_false _ parts.0) (goal refl)))
    (apart_snoc xs y parts.1 (λ u is. none u (inr is)))

pub apart_if : (xs : List Target) (due : Bool) (y : Target) → are_apart xs ≡ true → ((u : List ℕ) → IsPayload xs y.disk y.sector u → ⊥) → are_apart (xs ++ one_if due y) ≡ true
apart_if xs true y apart none = apart_snoc xs y apart none
apart_if xs false y apart none = subst (λ (ys : List Target). are_apart ys ≡ true) (sym (nothing xs)) apart
  where
    nothing : (ys : List Target) → ys ++ [] ≡ ys
    nothing [] = refl
    nothing (y ∷ ys) = ap (λ (zs : List Target). y ∷ zs) (nothing ys)

pub copies_apart : (all : Bool) (v : View) (t : ℕ) (from : List ℕ) (n : ℕ) → IsArray v → n ≤ v.truth.raid_disks → are_apart (due_copies all v t from n) ≡ true
unfolding due_copies
copies_apart all v t from zero is_array low = refl
copies_apart all v t from (suc n) is_array low =
    apart_if (due_copies all v t from n) (is_due all v n t) (sector_target v n t from) (copies_apart all v t from n is_array (omega (arith, low)))
    (λ u is.
    let at = copies_on all v t from n (omega (arith, low)) (slice_on v n) (data_sector + t) u is in
    let same = slices_apart v n at.position is_array (omega (arith, low)) at.low at.disk in
    let less = at.own.0 in
    absurd (omega (arith, same, less)))

pub change_apart : (v : View) (t p q : ℕ) (from new : List ℕ) (due : Bool) → IsArray v → p < v.truth.raid_disks → q < v.truth.raid_disks → (p ≡ q → ⊥)
    → are_apart (one_if due (sector_target v p t from) ++ sector_target v q t new ∷ []) ≡ true
change_apart v t p q from new due is_array low_p low_q other =
    apart_snoc (one_if due (sector_target v p t from)) (sector_target v q t new) (one due)
    (λ u is.
    let at = one_on v t p (λ j w. j ≡ p) due from low_p (λ is_due. refl) (slice_on v q) (data_sector + t) u is in
    other (sym at.own ∙ sym (slices_apart v q at.position is_array low_q at.low at.disk)))
  where
    one : (b : Bool) → are_apart (one_if b (sector_target v p t from)) ≡ true
    one true = refl
    one false = refl

pub own_on : (v : View) (t : ℕ) (P : ℕ → List ℕ → Type 0) (xs : List Target) → IsArray v → AllOn v t P xs → ((j : ℕ) (u : List ℕ) → P j u → length u ≡ 512) → IsOwnData v.number xs
own_on v t P xs is_array on long = record {
  own = λ d s u is.
      let at = on d s u (look_payload xs d s u is) in
      let disk = at.disk in
      let sector = at.sector in
      let few = is_array.few in
      (omega (arith, disk, few), omega (arith, sector));
  sized = λ d s u is. let at = on d s u (look_payload xs d s u is) in long at.position u at.own;
}

-- ---- the same targets, by another view

pub copies_same : (all : Bool) (u v : View) (t : ℕ) (from : List ℕ) (n : ℕ) → IsSameButSeats v u
    → ((j : ℕ) → j < n → is_due all u j t ≡ is_due false v j t) → due_copies all u t from n ≡ due_copies false v t from n
unfolding due_copies
copies_same all u v t from zero same due = refl
copies_same all u v t from (suc n) same due =
    ap₂ (λ (xs ys : List Target). xs ++ ys) (copies_same all u v t from n same (λ j low. due j (omega (arith, low))))
    (one_same all u v n t from same (due n (omega arith)))
  where
    one_same : (all : Bool) (u v : View) (n t : ℕ) (from : List ℕ) → IsSameButSeats v u → is_due all u n t ≡ is_due false v n t
        → one_if (is_due all u n t) (sector_target u n t from) ≡ one_if (is_due false v n t) (sector_target v n t from)
    one_same all u v n t from same due = ap₂ (λ (b : Bool) (d : ℕ). one_if b (target d (data_sector + t) from)) due (slice_same v u n same)
