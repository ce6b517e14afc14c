-- A place that a superblock's roles name is that of a position.
use Rattle.std.proofs.Common.{◌≡◌, ℕ, zero, suc, ◌+◌, ◌<◌, ◌≤◌, Bool, true, false, ◌==◌, ◌||◌, nat_lt, if◌then◌else◌, List, [], ◌∷◌, length, slice_get, Option, Some, None, inl, inr, refl, sym, ap, ap₂, subst, ◌∙◌, eq-eqb, eqb-true, lt-ltb, ltb-true, le-ltb, arith}
use Rattle.std.specs.Prelude.{count_by}
use Rattle.std.specs.Option.{option_map_or}
use Rattle.std.specs.List.{list_all, range_with_len}
use Rattle.std.proofs.lemmas.Bool.{and_parts, both_ways, cases_eq, cases_order, ne_eqb}
use Rattle.std.proofs.lemmas.List.Sums.{sum_by-cons}
use Rattle.std.proofs.lemmas.List.Quantifiers.{position-Some}
use Rattle.std.proofs.lemmas.Map.Views.{any-filter_same}
use Rattle.std.proofs.lemmas.Option.{slice_get-get_or, slice_get_within}
use Rattle.md_super.specs.declared.superblock.Super.{Super}
use Rattle.array_image.specs.Arrays.{place_with}
use Rattle.array_image.specs.Supers.{has_role, has_roles, is_named, named_places}
use Rattle.array_core.proofs.Opened.{named_place}
use Rattle.array_core.proofs.Rules.{placed}
use Rattle.log_laws.specs.View.{names}
use Rattle.log_laws.proofs.Naming.{names_range}

-- ---- counts

count_cons : (f : ℕ → Bool) (p : ℕ) (ps : List ℕ) → count_by f (p ∷ ps) ≡ (if f p then 1 else 0) + count_by f ps
count_cons f p ps = sum_by-cons (λ q. if f q then 1 else 0) p ps

count_most : (f : ℕ → Bool) (ps : List ℕ) → count_by f ps ≤ length ps
count_most f [] = omega arith
count_most f (p ∷ ps) = at (f p) (count_cons f p ps) (count_most f ps)
  where
    at : (b : Bool) → count_by f (p ∷ ps) ≡ (if b then 1 else 0) + count_by f ps → count_by f ps ≤ length ps → count_by f (p ∷ ps) ≤ suc (length ps)
    at true count rest = omega (arith, count, rest)
    at false count rest = omega (arith, count, rest)

-- where all are counted each passes
count_all : (f : ℕ → Bool) (ps : List ℕ) (p : ℕ) → count_by f ps ≡ length ps → names ps p ≡ true → f p ≡ true
count_all f [] p all named = absurd (both_ways false refl named)
count_all f (q ∷ ps) p all named = of (f q) refl (λ rest other. count_all f ps p rest other)
  where
    of : (b : Bool) → f q ≡ b → (count_by f ps ≡ length ps → names ps p ≡ true → f p ≡ true) → f p ≡ true
    of false fails rest =
        let count = count_cons f q ps ∙ ap (λ (b : Bool). (if b then 1 else 0) + count_by f ps) fails in
        let most = count_most f ps in
        absurd (omega (arith, all, count, most))
    of true passes rest =
        let count = count_cons f q ps ∙ ap (λ (b : Bool). (if b then 1 else 0) + count_by f ps) passes in
        elim (cases_eq q p) [
          | inl same ↦ subst (λ k. f k ≡ true) same passes
          | inr other ↦ rest (omega (arith, all, count)) (sym (ap (λ (b : Bool). b || names ps p) (ne_eqb q p other)) ∙ named)
        ]

count_one : (f : ℕ → Bool) (ps : List ℕ) (p : ℕ) → names ps p ≡ true → f p ≡ true → 1 ≤ count_by f ps
count_one f [] p named passes = absurd (both_ways false refl named)
count_one f (q ∷ ps) p named passes =
    let count = count_cons f q ps in
    elim (cases_eq q p) [
      | inl same ↦
          let here = count ∙ ap (λ (b : Bool). (if b then 1 else 0) + count_by f ps) (ap f same ∙ passes) in
          omega (arith, here)
      | inr other ↦
          let rest = count_one f ps p (sym (ap (λ (b : Bool). b || names ps p) (ne_eqb q p other)) ∙ named) passes in
          omega (arith, count, rest)
    ]

-- of two that pass, both are counted
count_two : (f : ℕ → Bool) (ps : List ℕ) (p r : ℕ) → names ps p ≡ true → names ps r ≡ true → f p ≡ true → f r ≡ true → (p ≡ r → ⊥) → 2 ≤ count_by f ps
count_two f [] p r named other_named passes other_passes apart = absurd (both_ways false refl named)
count_two f (q ∷ ps) p r named other_named passes other_passes apart =
    let count = count_cons f q ps in
    elim (cases_eq q p) [
      | inl same ↦
          let here = count ∙ ap (λ (b : Bool). (if b then 1 else 0) + count_by f ps) (ap f same ∙ passes) in
          let rest = count_one f ps r (sym (ap (λ (b : Bool). b || names ps r) (ne_eqb q r (λ at. apart (sym same ∙ at)))) ∙ other_named) other_passes in
          omega (arith, here, rest)
      | inr other ↦ elim (cases_eq q r) [
        | inl same ↦
            let here = count ∙ ap (λ (b : Bool). (if b then 1 else 0) + count_by f ps) (ap f same ∙ other_passes) in
            let rest = count_one f ps p (sym (ap (λ (b : Bool). b || names ps p) (ne_eqb q p other)) ∙ named) passes in
            omega (arith, here, rest)
        | inr neither ↦
            let rest = count_two f ps p r (sym (ap (λ (b : Bool). b || names ps p) (ne_eqb q p other)) ∙ named)
            (sym (ap (λ (b : Bool). b || names ps r) (ne_eqb q r neither)) ∙ other_named) passes other_passes apart in
            omega (arith, count, rest)
      ]
    ]

-- ---- roles

-- a place has a position below a number
abbrev is_below : Super → ℕ → ℕ → Bool
is_below t n place = option_map_or (λ r. nat_lt r n) (slice_get t.roles.items place) false

below_next : (n : ℕ) (o : Option ℕ)
    → (if option_map_or (λ r. nat_lt r (suc n)) o false then 1 else 0)
    ≡ (if option_map_or (λ r. nat_lt r n) o false then 1 else 0) + (if option_map_or (λ r. r == n) o false then 1 else 0)
below_next n None = refl
below_next n (Some r) = elim (cases_order r n) [
  | inl same ↦
      ap (λ (b : Bool). if b then 1 else 0) (lt-ltb r (suc n) (omega (arith, same)))
      ∙ sym (ap₂ (λ (a b : Bool). (if a then 1 else 0) + (if b then 1 else 0)) (le-ltb r n (omega (arith, same))) (eq-eqb r n same))
  | inr apart ↦ elim apart [
    | inl low ↦
        ap (λ (b : Bool). if b then 1 else 0) (lt-ltb r (suc n) (omega (arith, low)))
        ∙ sym (ap₂ (λ (a b : Bool). (if a then 1 else 0) + (if b then 1 else 0)) (lt-ltb r n low) (ne_eqb r n (λ at. absurd (omega (arith, at, low)))))
    | inr high ↦
        ap (λ (b : Bool). if b then 1 else 0) (le-ltb r (suc n) (omega (arith, high)))
        ∙ sym (ap₂ (λ (a b : Bool). (if a then 1 else 0) + (if b then 1 else 0)) (le-ltb r n (omega (arith, high))) (ne_eqb r n (λ at. absurd (omega (arith, at, high)))))
  ]
]

count_next : (t : Super) (n : ℕ) (ps : List ℕ) → count_by (is_below t (suc n)) ps ≡ count_by (is_below t n) ps + count_by (has_role t n) ps
count_next t n [] = refl
count_next t n (p ∷ ps) =
    let rest = count_next t n ps in
    let one = below_next n (slice_get t.roles.items p) in
    let a = count_cons (is_below t (suc n)) p ps in
    let b = count_cons (is_below t n) p ps in
    let c = count_cons (has_role t n) p ps in
    omega (arith, rest, one, a, b, c)

abbrev one_if : Bool → ℕ
one_if b = if b then 1 else 0

count_zero : (t : Super) (ps : List ℕ) → count_by (is_below t 0) ps ≡ 0
count_zero t [] = refl
count_zero t (p ∷ ps) =
    let rest = count_zero t ps in
    let count = count_cons (is_below t 0) p ps in
    let head = none (slice_get t.roles.items p) in
    omega (arith, rest, count, head)
  where
    none : (o : Option ℕ) → one_if (option_map_or (λ r. nat_lt r 0) o false) ≡ 0
    none None = refl
    none (Some r) = ap one_if (le-ltb r 0 (omega arith))

-- where each position has one place, as many places have positions
count_positions : (t : Super) (ps : List ℕ) (n : ℕ) → ((k : ℕ) → k < n → count_by (has_role t k) ps ≡ 1) → count_by (is_below t n) ps ≡ n
count_positions t ps zero each = count_zero t ps
count_positions t ps (suc n) each =
    let rest = count_positions t ps n (λ k low. each k (omega (arith, low))) in
    let last = each n (omega arith) in
    let next = count_next t n ps in
    omega (arith, rest, last, next)

pub all_range : (q : ℕ → Bool) (a k n : ℕ) → list_all q (range_with_len a k) ≡ true → a ≤ n → n < a + k → q n ≡ true
all_range q a zero n all least most = absurd (omega (arith, least, most))
all_range q a (suc k) n all least most =
    let parts = and_parts (q a) (list_all q (range_with_len (a + 1) k)) all in
    elim (cases_eq a n) [
      | inl same ↦ subst (λ m. q m ≡ true) same parts.0
      | inr other ↦ all_range q (a + 1) k n parts.1 (omega (arith, least, other)) (omega (arith, most))
    ]

-- a place that roles name is one of the places that they name
pub named_listed : (t : Super) (p : ℕ) → is_named t p ≡ true → names (named_places t) p ≡ true
named_listed t p named =
    any-filter_same (λ q. q == p) (is_named t) true (λ q same. ap (is_named t) (eqb-true q p same) ∙ named) (range_with_len 0 (length t.roles.items))
    ∙ names_range 0 (length t.roles.items) p (omega arith) (let low = within (slice_get t.roles.items p) refl named in omega (arith, low))
  where
    within : (o : Option ℕ) → slice_get t.roles.items p ≡ o → option_map_or (λ role. nat_lt role 0xfffe) o false ≡ true → p < length t.roles.items
    within None at is = absurd (both_ways false refl is)
    within (Some r) at is = slice_get_within t.roles.items p r at

-- A place that roles name, of which each position has one, is that of a position.
pub named_position : (t : Super) (p m : ℕ) → has_roles m t ≡ true → ((k : ℕ) → k < t.raid_disks → (q : ℕ) × (place_with t.roles.items k ≡ Some q)) → t.raid_disks ≤ 16 → is_named t p ≡ true
    → (k : ℕ) × (k < t.raid_disks) × (place_with t.roles.items k ≡ Some p)
named_position t p m roles placed few named =
    let parts = and_parts (length (named_places t) == t.raid_disks) _ roles in
    let rest = and_parts (list_all (λ place. nat_lt place m) (named_places t)) _ parts.1 in
    let many = eqb-true (length (named_places t)) t.raid_disks parts.0 in
    let each : (k : ℕ) → k < t.raid_disks → count_by (has_role t k) (named_places t) ≡ 1 =
    λ k low. eqb-true (count_by (has_role t k) (named_places t)) 1
    (all_range (λ n. count_by (has_role t n) (named_places t) == 1) 0 t.raid_disks k rest.1 (omega arith) (omega (arith, low))) in
    let low = count_all (is_below t t.raid_disks) (named_places t) p (count_positions t (named_places t) t.raid_disks each ∙ sym many) (named_listed t p named) in
    at (slice_get t.roles.items p) refl low each
  where
    at : (o : Option ℕ) → slice_get t.roles.items p ≡ o → option_map_or (λ r. nat_lt r t.raid_disks) o false ≡ true
        → ((k : ℕ) → k < t.raid_disks → count_by (has_role t k) (named_places t) ≡ 1)
        → (k : ℕ) × (k < t.raid_disks) × (place_with t.roles.items k ≡ Some p)
    at None is low each = absurd (both_ways false refl low)
    at (Some r) is low each =
        let below : r < t.raid_disks = ltb-true r t.raid_disks low in
        let first = placed r below in
        let place = position-Some (λ k. k == r) t.roles.items first.0 0 first.1 in
        let role : has_role t r p ≡ true = ap (λ o. option_map_or (λ k. k == r) o false) is ∙ eq-eqb r r refl in
        let first_role : has_role t r first.0 ≡ true =
        ap (λ o. option_map_or (λ k. k == r) o false) (slice_get-get_or t.roles.items first.0 0 place.0) ∙ place.1 in (
          r,
          below,
          first.1 ∙ ap Some (elim (cases_eq first.0 p) [
            | inl same ↦ same
            | inr other ↦
                let two = count_two (has_role t r) (named_places t) first.0 p
                (named_listed t first.0 (named_place t r first.0 (omega (arith, below, few)) first.1)) (named_listed t p named) first_role role other in
                let one = each r below in
                absurd (omega (arith, two, one))
          ]),
        )

-- roles that are right by the rules on superblocks have a place for each position
pub placed_position : (t : Super) (p : ℕ) → has_roles 16 t ≡ true → t.raid_disks ≤ 16 → is_named t p ≡ true → (k : ℕ) × (k < t.raid_disks) × (place_with t.roles.items k ≡ Some p)
placed_position t p roles few named = named_position t p 16 roles (λ k low. let one = placed t k roles low in (one.0, one.1)) few named
