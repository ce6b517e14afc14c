-- The roles of a new array name its members, each position once.
use Rattle.std.proofs.Common.{◌≡◌, ◌⊎◌, ℕ, zero, suc, ◌+◌, ◌<◌, ◌≤◌, ◌==◌, ◌&&◌, ◌||◌, not, nat_lt, Bool, true, false, List, [], ◌∷◌, filter, length, position, count_by, slice_get, if◌then◌else◌, Option, Some, None, option_map, refl, sym, ap, ap₂, subst, ◌∙◌, inl, inr, eq-eqb, eqb-true, lt-ltb, le-ltb, arith}
use Rattle.std.specs.Option.{option_map_or}
use Rattle.std.specs.List.{range_with_len, list_all, position_or_len}
use Rattle.std.proofs.lemmas.Bool.{and_from, both_ways, cases_Bool, cases_eq, cases_lt, ne_eqb}
use Rattle.std.proofs.lemmas.List.FromFn.{length-map-range_with_len}
use Rattle.std.proofs.lemmas.List.Sums.{length-filter}
use Rattle.md_super.specs.declared.superblock.Super.{Super}
use Rattle.array_image.specs.Supers.{has_role, has_roles, is_named, named_places}
use Rattle.array_core.proofs.Rules.{get_map, get_range, zero_more}
use Rattle.new_array.specs.Supers.{has, new_roles, role_of}
use Rattle.new_array.proofs.Lists.{filtered}

-- ---- positions

-- the first that passes is the head, or one of the others
position_first : (p : ℕ → Bool) (x : ℕ) (xs : List ℕ) → position p (x ∷ xs) ≡ (if p x then Some 0 else option_map suc (position p xs))
position_first p x xs = of (p x)
  where
    later : (L n : ℕ) → (L < n) ⊎ (n ≤ L) → (if nat_lt (1 + L) (suc n) then Some (1 + L) else None) ≡ option_map suc (if nat_lt L n then Some L else None)
    later L n (inl low) =
        ap (λ b. if b then Some (1 + L) else None) (lt-ltb (1 + L) (suc n) (omega (arith, low)))
        ∙ ap Some (omega arith)
        ∙ sym (ap (λ b. option_map suc (if b then Some L else None)) (lt-ltb L n low))
    later L n (inr high) =
        ap (λ b. if b then Some (1 + L) else None) (le-ltb (1 + L) (suc n) (omega (arith, high)))
        ∙ sym (ap (λ b. option_map suc (if b then Some L else None)) (le-ltb L n high))

    of : (b : Bool) → (if nat_lt (if not b then 1 + position_or_len p xs else 0) (suc (length xs)) then Some (if not b then 1 + position_or_len p xs else 0) else None)
        ≡ (if b then Some 0 else option_map suc (position p xs))
    of true = ap (λ b. if b then Some 0 else None) (lt-ltb 0 (suc (length xs)) (omega arith))
    of false = later (position_or_len p xs) (length xs) (cases_lt (position_or_len p xs) (length xs))

abbrev at : ℕ → ℕ → Bool
at place p = p == place

-- a member has a position below their number, and nobody else has one
abbrev data_of : List ℕ → ℕ → Option ℕ → Type 0
data_of xs place None = has xs place ≡ false
data_of xs place (Some k) = (k < length xs) × (has xs place ≡ true)

positioned : (xs : List ℕ) (place : ℕ) → data_of xs place (position (at place) xs)
positioned [] place = refl
positioned (x ∷ xs) place = subst (data_of (x ∷ xs) place) (sym (position_first (at place) x xs)) (of (x == place) refl (position (at place) xs) (positioned xs place))
  where
    of : (b : Bool) → (x == place) ≡ b → (o : Option ℕ) → data_of xs place o → data_of (x ∷ xs) place (if b then Some 0 else option_map suc o)
    of true here o rest = (omega arith, ap (λ b. b || has xs place) here)
    of false other None rest = ap₂ (λ a b. a || b) other rest
    of false other (Some k) rest = (let low = rest.0 in omega (arith, low), ap (λ b. b || has xs place) other ∙ rest.1)

-- the role of a member is its position
pub role_low : (xs : List ℕ) (place : ℕ) → has xs place ≡ true → role_of xs place < length xs
role_low xs place among = of (position (at place) xs) (positioned xs place)
  where
    of : (o : Option ℕ) → data_of xs place o → option_map_or (λ k. k) o 0xffff < length xs
    of None none = absurd (both_ways (has xs place) none among)
    of (Some k) some = some.0

-- that of any other place is the spare's
pub role_spare : (xs : List ℕ) (place : ℕ) → has xs place ≡ false → role_of xs place ≡ 0xffff
role_spare xs place apart = of (position (at place) xs) (positioned xs place)
  where
    of : (o : Option ℕ) → data_of xs place o → option_map_or (λ k. k) o 0xffff ≡ 0xffff
    of None none = refl
    of (Some k) some = absurd (both_ways (has xs place) apart some.1)

-- ---- distinct places

abbrev AreDistinct : List ℕ → Type 0
AreDistinct [] = Unit {0}
AreDistinct (x ∷ xs) = (has xs x ≡ false) × AreDistinct xs

range_distinct_more : (q : ℕ → Bool) (a n : ℕ) → AreDistinct (filter q (range_with_len (a + 1) n)) → (b : Bool)
    → AreDistinct (if b then a ∷ filter q (range_with_len (a + 1) n) else filter q (range_with_len (a + 1) n))
range_distinct_more q a n rest false = rest
range_distinct_more q a n rest true = (none, rest)
  where
    none : has (filter q (range_with_len (a + 1) n)) a ≡ false
    none = elim (cases_Bool (has (filter q (range_with_len (a + 1) n)) a)) [
      | inl among ↦ let low = (filtered q (a + 1) n a among).0 in absurd (omega (arith, low))
      | inr other ↦ other
    ]

range_distinct : (q : ℕ → Bool) (a n : ℕ) → AreDistinct (filter q (range_with_len a n))
range_distinct q a zero = tt
range_distinct q a (suc n) = range_distinct_more q a n (range_distinct q (a + 1) n) (q a)

-- ---- how many have a role

-- none of a list passes
none_pass : (f : ℕ → Bool) (xs : List ℕ) → ((p : ℕ) → has xs p ≡ true → f p ≡ false) → length (filter f xs) ≡ 0
none_pass f [] each = refl
none_pass f (x ∷ xs) each =
    ap (λ b. length (if b then x ∷ filter f xs else filter f xs)) (each x (ap (λ b. b || has xs x) (eq-eqb x x refl)))
    ∙ none_pass f xs (λ p among. each p (later (x == p) (has xs p) among))
  where
    later : (a b : Bool) → b ≡ true → (a || b) ≡ true
    later true b is = refl
    later false b is = is

-- as many pass as of a test that agrees on the list
same_pass : (f g : ℕ → Bool) (xs : List ℕ) → ((p : ℕ) → has xs p ≡ true → f p ≡ g p) → length (filter f xs) ≡ length (filter g xs)
same_pass f g [] each = refl
same_pass f g (x ∷ xs) each =
    let rest = same_pass f g xs (λ p among. each p (later (x == p) (has xs p) among)) in
    ap (λ b. length (if b then x ∷ filter f xs else filter f xs)) (each x (ap (λ b. b || has xs x) (eq-eqb x x refl)))
    ∙ of (g x) rest
  where
    later : (a b : Bool) → b ≡ true → (a || b) ≡ true
    later true b is = refl
    later false b is = is

    of : (b : Bool) → length (filter f xs) ≡ length (filter g xs) → length (if b then x ∷ filter f xs else filter f xs) ≡ length (if b then x ∷ filter g xs else filter g xs)
    of true rest = ap suc rest
    of false rest = rest

-- the role of a place behind the head
role_later : (x : ℕ) (xs : List ℕ) (p : ℕ) → (x == p) ≡ false → role_of (x ∷ xs) p ≡ option_map_or (λ k. suc k) (position (at p) xs) 0xffff
role_later x xs p other =
    ap (λ o. option_map_or (λ k. k) o 0xffff) (position_first (at p) x xs ∙ ap (λ b. if b then Some 0 else option_map suc (position (at p) xs)) other)
    ∙ of (position (at p) xs)
  where
    of : (o : Option ℕ) → option_map_or (λ k. k) (option_map suc o) 0xffff ≡ option_map_or (λ k. suc k) o 0xffff
    of None = refl
    of (Some k) = refl

not_head : (x : ℕ) (xs : List ℕ) → has xs x ≡ false → (p : ℕ) → has xs p ≡ true → (x == p) ≡ false
not_head x xs none p among = elim (cases_Bool (x == p)) [
  | inl same ↦ absurd (both_ways (has xs x) none (subst (λ q. has xs q ≡ true) (sym (eqb-true x p same)) among))
  | inr other ↦ other
]

-- each position is the role of one member
one_role : (xs : List ℕ) → AreDistinct xs → length xs < 0xffff → (n : ℕ) → n < length xs → length (filter (λ p. role_of xs p == n) xs) ≡ 1
one_role [] distinct few n low = absurd (omega (arith, low))
one_role (x ∷ xs) distinct few zero low =
    let head : role_of (x ∷ xs) x ≡ 0 =
    ap (λ o. option_map_or (λ k. k) o 0xffff) (position_first (at x) x xs ∙ ap (λ b. if b then Some 0 else option_map suc (position (at x) xs)) (eq-eqb x x refl)) in
    ap (λ b. length (if b then x ∷ filter (λ p. role_of (x ∷ xs) p == 0) xs else filter (λ p. role_of (x ∷ xs) p == 0) xs)) (eq-eqb (role_of (x ∷ xs) x) 0 head)
    ∙ ap suc (none_pass (λ p. role_of (x ∷ xs) p == 0) xs
    (λ p among. ne_eqb (role_of (x ∷ xs) p) 0 (λ same. above (position (at p) xs) (sym (role_later x xs p (not_head x xs distinct.0 p among)) ∙ same))))
  where
    above : (o : Option ℕ) → option_map_or (λ k. suc k) o 0xffff ≡ 0 → ⊥
    above None is = omega (arith, is)
    above (Some k) is = omega (arith, is)
one_role (x ∷ xs) distinct few (suc n) low =
    let head : role_of (x ∷ xs) x ≡ 0 =
    ap (λ o. option_map_or (λ k. k) o 0xffff) (position_first (at x) x xs ∙ ap (λ b. if b then Some 0 else option_map suc (position (at x) xs)) (eq-eqb x x refl)) in
    ap (λ b. length (if b then x ∷ filter (λ p. role_of (x ∷ xs) p == suc n) xs else filter (λ p. role_of (x ∷ xs) p == suc n) xs))
    (ne_eqb (role_of (x ∷ xs) x) (suc n) (λ same. omega (arith, same, head)))
    ∙ same_pass (λ p. role_of (x ∷ xs) p == suc n) (λ p. role_of xs p == n) xs
    (λ p among. ap (λ r. r == suc n) (role_later x xs p (not_head x xs distinct.0 p among)) ∙ shifted p (position (at p) xs) (positioned xs p) among)
    ∙ one_role xs distinct.1 (omega (arith, few)) n (omega (arith, low))
  where
    shifted : (p : ℕ) (o : Option ℕ) → data_of xs p o → has xs p ≡ true → (option_map_or (λ k. suc k) o 0xffff == suc n) ≡ (option_map_or (λ k. k) o 0xffff == n)
    shifted p None none among = absurd (both_ways (has xs p) none among)
    shifted p (Some k) is among = elim (cases_eq k n) [
      | inl same ↦ eq-eqb (suc k) (suc n) (ap suc same) ∙ sym (eq-eqb k n same)
      | inr other ↦ ne_eqb (suc k) (suc n) (λ same. other (omega (arith, same))) ∙ sym (ne_eqb k n other)
    ]

-- ---- ranges

-- a number of a range that passes is kept
kept_has : (q : ℕ → Bool) (a n p : ℕ) → a ≤ p → p < a + n → q p ≡ true → has (filter q (range_with_len a n)) p ≡ true
kept_has q a zero p least low is = absurd (omega (arith, least, low))
kept_has q a (suc n) p least low is = elim (cases_lt a p) [
  | inl more ↦ later (q a) (kept_has q (a + 1) n p (omega (arith, more)) (omega (arith, low)) is)
  | inr less ↦
      let same : a ≡ p = omega (arith, least, less) in
      ap (λ b. has (if b then a ∷ filter q (range_with_len (a + 1) n) else filter q (range_with_len (a + 1) n)) p) (subst (λ k. q k ≡ true) (sym same) is)
      ∙ ap (λ b. b || has (filter q (range_with_len (a + 1) n)) p) (eq-eqb a p same)
]
  where
    or_true : (b : Bool) → (b || true) ≡ true
    or_true true = refl
    or_true false = refl

    later : (b : Bool) → has (filter q (range_with_len (a + 1) n)) p ≡ true → has (if b then a ∷ filter q (range_with_len (a + 1) n) else filter q (range_with_len (a + 1) n)) p ≡ true
    later true among = ap (λ c. (a == p) || c) among ∙ or_true (a == p)
    later false among = among

-- a test that passes as another one in the front of a range, and nothing behind it
filter_range : (f q : ℕ → Bool) (a k n : ℕ) → n ≤ k → ((p : ℕ) → a ≤ p → p < a + n → f p ≡ q p) → ((p : ℕ) → a + n ≤ p → p < a + k → f p ≡ false)
    → filter f (range_with_len a k) ≡ filter q (range_with_len a n)
filter_range f q a zero zero enough front behind = refl
filter_range f q a zero (suc n) enough front behind = absurd (omega (arith, enough))
filter_range f q a (suc k) zero enough front behind =
    ap (λ b. if b then a ∷ filter f (range_with_len (a + 1) k) else filter f (range_with_len (a + 1) k)) (behind a (omega arith) (omega arith))
    ∙ filter_range f q (a + 1) k zero (omega arith) (λ p least low. absurd (omega (arith, least, low))) (λ p past low. behind p (omega (arith, past)) (omega (arith, low)))
filter_range f q a (suc k) (suc n) enough front behind =
    ap (λ b. if b then a ∷ filter f (range_with_len (a + 1) k) else filter f (range_with_len (a + 1) k)) (front a (omega arith) (omega arith))
    ∙ ap (λ xs. if q a then a ∷ xs else xs)
    (filter_range f q (a + 1) k n (omega (arith, enough)) (λ p least low. front p (omega (arith, least)) (omega (arith, low))) (λ p past low. behind p (omega (arith, past)) (omega (arith, low))))

all_have : (f : ℕ → Bool) (xs : List ℕ) → ((p : ℕ) → has xs p ≡ true → f p ≡ true) → list_all f xs ≡ true
all_have f [] each = refl
all_have f (x ∷ xs) each =
    and_from (f x) (list_all f xs) (each x (ap (λ b. b || has xs x) (eq-eqb x x refl))) (all_have f xs (λ p among. each p (later (x == p) (has xs p) among)))
  where
    later : (a b : Bool) → b ≡ true → (a || b) ≡ true
    later true b is = refl
    later false b is = is

all_ranged : (f : ℕ → Bool) (a n : ℕ) → ((p : ℕ) → a ≤ p → p < a + n → f p ≡ true) → list_all f (range_with_len a n) ≡ true
all_ranged f a zero each = refl
all_ranged f a (suc n) each =
    and_from (f a) (list_all f (range_with_len (a + 1) n)) (each a (omega arith) (omega arith)) (all_ranged f (a + 1) n (λ p least low. each p (omega (arith, least)) (omega (arith, low))))

-- ---- the superblock

-- a place has the role of its members
module _ (t : Super) (members : List ℕ) (roles : t.roles.items ≡ new_roles members) (few : length members ≤ 16) where
  pub role_at : (p : ℕ) → p < 128 → slice_get t.roles.items p ≡ Some (role_of members p)
  role_at p low =
      ap (λ rs. slice_get rs p) roles ∙ get_map (role_of members) (range_with_len 0 128) p
      ∙ ap (option_map (role_of members)) (get_range 0 128 p low) ∙ ap (λ (j : ℕ). Some (role_of members j)) (zero_more p)

  pub named_at : (p : ℕ) → p < 128 → is_named t p ≡ has members p
  named_at p low = ap (λ o. option_map_or (λ role. nat_lt role 0xfffe) o false) (role_at p low) ∙ of (position (at p) members) (positioned members p)
    where
      of : (o : Option ℕ) → data_of members p o → nat_lt (option_map_or (λ k. k) o 0xffff) 0xfffe ≡ has members p
      of None none = sym none
      of (Some k) is = lt-ltb k 0xfffe (let low = is.0 in omega (arith, low, few)) ∙ sym is.1

  module _ (drives : ℕ) (most : drives ≤ 16) (q : ℕ → Bool) (members_are : members ≡ filter q (range_with_len 0 drives)) where
    passes : (p : ℕ) → 0 ≤ p → p < 0 + drives → is_named t p ≡ q p
    passes p least low = named_at p (omega (arith, low, most)) ∙ ap (λ xs. has xs p) members_are ∙ of (q p) refl
      where
        of : (b : Bool) → q p ≡ b → has (filter q (range_with_len 0 drives)) p ≡ b
        of true is = kept_has q 0 drives p least low is
        of false is = elim (cases_Bool (has (filter q (range_with_len 0 drives)) p)) [
          | inl among ↦ absurd (both_ways (q p) is (filtered q 0 drives p among).2)
          | inr other ↦ other
        ]

    beyond : (p : ℕ) → 0 + drives ≤ p → p < 0 + 128 → is_named t p ≡ false
    beyond p past low = named_at p (omega (arith, low)) ∙ ap (λ xs. has xs p) members_are ∙ elim (cases_Bool (has (filter q (range_with_len 0 drives)) p)) [
      | inl among ↦ let inside = (filtered q 0 drives p among).1 in absurd (omega (arith, past, inside))
      | inr other ↦ other
    ]

    named_are : named_places t ≡ members
    named_are =
        let count : length t.roles.items ≡ 128 = ap (λ (rs : List ℕ). length rs) roles ∙ length-map-range_with_len (role_of members) 0 128 in
        ap (λ n. filter (is_named t) (range_with_len 0 n)) count
        ∙ filter_range (is_named t) q 0 128 drives (omega (arith, most)) passes beyond ∙ sym members_are

    member_low : (all : ℕ) → drives ≤ all → (p : ℕ) → has members p ≡ true → nat_lt p all ≡ true
    member_low all enough p among =
        let low = (filtered q 0 drives p (subst (λ xs. has xs p ≡ true) members_are among)).1 in
        lt-ltb p all (omega (arith, low, enough))

    pub new_has_roles : (all : ℕ) → drives ≤ all → t.raid_disks ≡ length members → has_roles all t ≡ true
    new_has_roles all enough disks =
        subst (λ xs. ((length xs == t.raid_disks) && (list_all (λ place. nat_lt place all) xs && list_all (λ n. count_by (has_role t n) xs == 1) (range_with_len 0 t.raid_disks))) ≡ true)
        (sym named_are)
        (and_from (length members == t.raid_disks) _ (eq-eqb (length members) t.raid_disks (sym disks))
        (and_from (list_all (λ place. nat_lt place all) members) _ (all_have (λ place. nat_lt place all) members (member_low all enough))
        (all_ranged (λ n. count_by (has_role t n) members == 1) 0 t.raid_disks
        (λ n least low. eq-eqb (count_by (has_role t n) members) 1
        (sym (length-filter (has_role t n) members)
        ∙ same_pass (has_role t n) (λ p. role_of members p == n) members
        (λ p among. ap (λ o. option_map_or (λ r. r == n) o false) (role_at p (omega (arith, most, (filtered q 0 drives p (subst (λ xs. has xs p ≡ true) members_are among)).1))))
        ∙ one_role members (subst AreDistinct (sym members_are) (range_distinct q 0 drives)) (omega (arith, few)) n (omega (arith, low, disks)))))))
