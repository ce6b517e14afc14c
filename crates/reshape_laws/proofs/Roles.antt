-- The roles of a superblock, once a place that had none takes the last position.
use Rattle.std.proofs.Common.{◌≡◌, ℕ, zero, suc, ◌+◌, ◌<◌, ◌≤◌, Bool, true, false, ◌==◌, nat_lt, if◌then◌else◌, List, [], ◌∷◌, filter, length, count_by, get_or, set, slice_get, unwrap_or, Option, Some, None, refl, sym, ap, ap₂, subst, ◌∙◌, inl, inr, lt-ltb, le-ltb, eq-eqb, eqb-true, ltb-true, ◌-◌, arith}
use Rattle.std.proofs.lemmas.Bool.{and_from, and_parts, both_ways, cases_lt, cases_eq, ne_eqb}
use Rattle.std.proofs.lemmas.List.{get_or-set_other, get_or-set_same, length-set}
use Rattle.std.proofs.lemmas.List.Sums.{sum_by-cons}
use Rattle.std.proofs.lemmas.Option.{slice_get-get_or, slice_get_past, unwrap_or-slice_get}
use Rattle.std.specs.List.{list_all, range_with_len}
use Rattle.std.specs.Option.{option_map_or}
use Rattle.md_super.specs.declared.superblock.Super.{Super}
use Rattle.array_image.specs.Supers.{has_role, has_roles, is_named, named_places}
use Rattle.reshape_laws.specs.Ahead.{with_member}

-- ---- one number more in a filtered range

-- a list with a number put in
data Inserted (i : ℕ) : List ℕ → List ℕ → Type 0 where
  here : (xs : List ℕ) → Inserted i xs (i ∷ xs)
  later : (x : ℕ) (xs ys : List ℕ) → Inserted i xs ys → Inserted i (x ∷ xs) (x ∷ ys)

filtered_same : (p q : ℕ → Bool) (a m : ℕ) → ((j : ℕ) → a ≤ j → q j ≡ p j) → filter q (range_with_len a m) ≡ filter p (range_with_len a m)
filtered_same p q a zero same = refl
filtered_same p q a (suc m) same =
    ap₂ (λ (b : Bool) xs. if b then a ∷ xs else xs) (same a (omega arith)) (filtered_same p q (a + 1) m (λ j low. same j (omega (arith, low))))

step_here : (i : ℕ) (b c : Bool) (x : ℕ) (xs ys : List ℕ) → b ≡ false → c ≡ true → x ≡ i → ys ≡ xs → Inserted i (if b then x ∷ xs else xs) (if c then x ∷ ys else ys)
step_here i true c x xs ys off on at same = absurd (both_ways true off refl)
step_here i false false x xs ys off on at same = absurd (both_ways false refl on)
step_here i false true x xs ys off on at same = subst (λ zs. Inserted i xs (x ∷ zs)) (sym same) (subst (λ z. Inserted i xs (z ∷ xs)) (sym at) (here xs))

step_later : (i : ℕ) (b c : Bool) (x : ℕ) (xs ys : List ℕ) → c ≡ b → Inserted i xs ys → Inserted i (if b then x ∷ xs else xs) (if c then x ∷ ys else ys)
step_later i true true x xs ys same ins = later x xs ys ins
step_later i false false x xs ys same ins = ins
step_later i true false x xs ys same ins = absurd (both_ways false refl same)
step_later i false true x xs ys same ins = absurd (both_ways true same refl)

filtered : (p q : ℕ → Bool) (i a m : ℕ) → a ≤ i → i < a + m → ((j : ℕ) → (j ≡ i → ⊥) → q j ≡ p j) → p i ≡ false → q i ≡ true
    → Inserted i (filter p (range_with_len a m)) (filter q (range_with_len a m))
filtered p q i a zero low high same off on = absurd (omega (arith, low, high))
filtered p q i a (suc m) low high same off on = elim (cases_eq a i) [
  | inl at ↦
      step_here i (p a) (q a) a (filter p (range_with_len (a + 1) m)) (filter q (range_with_len (a + 1) m)) (ap p at ∙ off) (ap q at ∙ on) at
      (filtered_same p q (a + 1) m (λ j more. same j (λ is. omega (arith, is, more, at))))
  | inr other ↦
      step_later i (p a) (q a) a (filter p (range_with_len (a + 1) m)) (filter q (range_with_len (a + 1) m)) (same a other)
      (filtered p q i (a + 1) m (omega (arith, low, other)) (omega (arith, high)) same off on)
]

inserted_length : (i : ℕ) (xs ys : List ℕ) → Inserted i xs ys → length ys ≡ length xs + 1
inserted_length i xs ys (here zs) = omega arith
inserted_length i xs ys (later x us ws ins) = let rest = inserted_length i us ws ins in omega (arith, rest)

inserted_all : (test : ℕ → Bool) (i : ℕ) (xs ys : List ℕ) → Inserted i xs ys → list_all test xs ≡ true → test i ≡ true → list_all test ys ≡ true
inserted_all test i xs ys (here zs) all this = and_from (test i) (list_all test zs) this all
inserted_all test i xs ys (later x us ws ins) all this =
    let parts = and_parts (test x) (list_all test us) all in
    and_from (test x) (list_all test ws) parts.0 (inserted_all test i us ws ins parts.1 this)

count_step : (r : ℕ → Bool) (x : ℕ) (xs : List ℕ) → count_by r (x ∷ xs) ≡ (if r x then 1 else 0) + count_by r xs
count_step r x xs = sum_by-cons (λ y. if r y then 1 else 0) x xs

inserted_count : (r : ℕ → Bool) (i : ℕ) (xs ys : List ℕ) → Inserted i xs ys → count_by r ys ≡ (if r i then 1 else 0) + count_by r xs
inserted_count r i xs ys (here zs) = count_step r i zs
inserted_count r i xs ys (later x us ws ins) =
    let rest = inserted_count r i us ws ins in
    let one = count_step r x ws in
    let two = count_step r x us in
    omega (arith, rest, one, two)

-- counts go by what the numbers that passed have
same_by : (r s : ℕ → Bool) (a : ℕ) (rest : List ℕ) (b : Bool) → (b ≡ true → r a ≡ s a) → count_by r rest ≡ count_by s rest
    → count_by r (if b then a ∷ rest else rest) ≡ count_by s (if b then a ∷ rest else rest)
same_by r s a rest false same others = others
same_by r s a rest true same others =
    count_step r a rest ∙ ap₂ (λ (b : Bool) (n : ℕ). (if b then 1 else 0) + n) (same refl) others ∙ sym (count_step s a rest)

count_same : (r s p : ℕ → Bool) (a m : ℕ) → ((j : ℕ) → p j ≡ true → r j ≡ s j) → count_by r (filter p (range_with_len a m)) ≡ count_by s (filter p (range_with_len a m))
count_same r s p a zero same = refl
count_same r s p a (suc m) same = same_by r s a (filter p (range_with_len (a + 1) m)) (p a) (same a) (count_same r s p (a + 1) m same)

has_by : (r : ℕ → Bool) (a : ℕ) (rest : List ℕ) (b : Bool) → 1 ≤ count_by r rest → 1 ≤ count_by r (if b then a ∷ rest else rest)
has_by r a rest false some = some
has_by r a rest true some = let step = count_step r a rest in omega (arith, step, some)

has_here : (r : ℕ → Bool) (a : ℕ) (rest : List ℕ) (b : Bool) → b ≡ true → r a ≡ true → 1 ≤ count_by r (if b then a ∷ rest else rest)
has_here r a rest false on is = absurd (both_ways false refl on)
has_here r a rest true on is =
    let step : count_by r (a ∷ rest) ≡ (if r a then 1 else 0) + count_by r rest = count_step r a rest in
    let step_one : count_by r (a ∷ rest) ≡ 1 + count_by r rest = step ∙ ap (λ (b : Bool). (if b then 1 else 0) + count_by r rest) is in
    omega (arith, step_one)

pub count_has : (r p : ℕ → Bool) (a m j : ℕ) → a ≤ j → j < a + m → p j ≡ true → r j ≡ true → 1 ≤ count_by r (filter p (range_with_len a m))
count_has r p a zero j low high on is = absurd (omega (arith, low, high))
count_has r p a (suc m) j low high on is = elim (cases_eq a j) [
  | inl at ↦ has_here r a (filter p (range_with_len (a + 1) m)) (p a) (ap p at ∙ on) (ap r at ∙ is)
  | inr other ↦
      has_by r a (filter p (range_with_len (a + 1) m)) (p a) (count_has r p (a + 1) m j (omega (arith, low, other)) (omega (arith, high)) on is)
]

-- ---- of k numbers that have the roles below k, each once, none has another role

module _ (role : ℕ → ℕ → Bool) (one : (x n m : ℕ) → role n x ≡ true → role m x ≡ true → n ≡ m) where
  tot : ℕ → List ℕ → ℕ
  tot zero xs = 0
  tot (suc k) xs = count_by (role k) xs + tot k xs

  hit : ℕ → ℕ → ℕ
  hit zero x = 0
  hit (suc k) x = (if role k x then 1 else 0) + hit k x

  tot_none : (k : ℕ) → tot k [] ≡ 0
  unfolding tot
  tot_none zero = refl
  tot_none (suc k) =
      let rest = tot_none k in
      let none : count_by (role k) [] ≡ 0 = refl in
      omega (arith, rest, none)

  tot_step : (k x : ℕ) (xs : List ℕ) → tot k (x ∷ xs) ≡ hit k x + tot k xs
  unfolding tot hit
  tot_step zero x xs = refl
  tot_step (suc k) x xs =
      let rest = tot_step k x xs in
      let step = count_step (role k) x xs in
      omega (arith, rest, step)

  hit_by : (b : Bool) (n : ℕ) → (b ≡ true → n ≡ 0) → n ≤ 1 → (if b then 1 else 0) + n ≤ 1
  hit_by false n none few = omega (arith, few)
  hit_by true n none few = let is = none refl in omega (arith, is)

  hit_off : (b : Bool) (n : ℕ) → b ≡ false → n ≡ 0 → (if b then 1 else 0) + n ≡ 0
  hit_off false n off none = omega (arith, none)
  hit_off true n off none = absurd (both_ways true off refl)

  off_at : (b : Bool) → (b ≡ true → ⊥) → b ≡ false
  off_at false never = refl
  off_at true never = absurd (never refl)

  hit_none : (k n x : ℕ) → k ≤ n → role n x ≡ true → hit k x ≡ 0
  unfolding hit
  hit_none zero n x low is = refl
  hit_none (suc k) n x low is =
      hit_off (role k x) (hit k x) (off_at (role k x) (λ yes. let same = one x k n yes is in omega (arith, same, low))) (hit_none k n x (omega (arith, low)) is)

  hit_few : (k x : ℕ) → hit k x ≤ 1
  unfolding hit
  hit_few zero x = omega arith
  hit_few (suc k) x = hit_by (role k x) (hit k x) (λ yes. hit_none k k x (omega arith) yes) (hit_few k x)

  tot_few : (k : ℕ) (xs : List ℕ) → tot k xs ≤ length xs
  tot_few k [] = let none = tot_none k in omega (arith, none)
  tot_few k (x ∷ xs) =
      let step = tot_step k x xs in
      let few = hit_few k x in
      let rest = tot_few k xs in
      omega (arith, step, few, rest)

  tot_ones : (k : ℕ) (xs : List ℕ) → ((n : ℕ) → n < k → count_by (role n) xs ≡ 1) → tot k xs ≡ k
  unfolding tot
  tot_ones zero xs each = refl
  tot_ones (suc k) xs each =
      let rest = tot_ones k xs (λ n low. each n (omega (arith, low))) in
      let this = each k (omega arith) in
      omega (arith, rest, this)

  pub no_other : (k : ℕ) (xs : List ℕ) → length xs ≡ k → ((n : ℕ) → n < k → count_by (role n) xs ≡ 1) → count_by (role k) xs ≡ 0
  unfolding tot
  no_other k xs count each =
      let all = tot_ones k xs each in
      let few : count_by (role k) xs + tot k xs ≤ length xs = tot_few (suc k) xs in
      omega (arith, all, few, count)

  tot_least : (k : ℕ) (xs : List ℕ) → ((n : ℕ) → n < k → 1 ≤ count_by (role n) xs) → k ≤ tot k xs
  unfolding tot
  tot_least zero xs each = omega arith
  tot_least (suc k) xs each =
      let rest = tot_least k xs (λ n low. each n (omega (arith, low))) in
      let this = each k (omega arith) in
      omega (arith, rest, this)

  -- nor do fewer numbers have more roles
  pub too_many : (k : ℕ) (xs : List ℕ) → length xs < k → ((n : ℕ) → n < k → 1 ≤ count_by (role n) xs) → ⊥
  too_many k xs few each =
      let least = tot_least k xs each in
      let most = tot_few k xs in
      omega (arith, few, least, most)

-- ---- the roles of a superblock

module _ (t : Super) (drives place : ℕ) (has : has_roles drives t ≡ true) (inside : place < length t.roles.items) (listed : place < drives)
    (spare : 0xfffe ≤ get_or t.roles.items place 0) (few : t.raid_disks ≤ 16) where
  parts : ((length (named_places t) == t.raid_disks) ≡ true)
      × ((list_all (λ p. nat_lt p drives) (named_places t) ≡ true) × (list_all (λ n. count_by (has_role t n) (named_places t) == 1) (range_with_len 0 t.raid_disks) ≡ true))
  parts =
      let first = and_parts (length (named_places t) == t.raid_disks) _ has in
      (first.0, and_parts (list_all (λ p. nat_lt p drives) (named_places t)) _ first.1)

  named_count : length (named_places t) ≡ t.raid_disks
  named_count = eqb-true (length (named_places t)) t.raid_disks parts.0

  each_one : (n : ℕ) → n < t.raid_disks → count_by (has_role t n) (named_places t) ≡ 1
  each_one n low = eqb-true (count_by (has_role t n) (named_places t)) 1 (at_range (λ i. count_by (has_role t i) (named_places t) == 1) 0 t.raid_disks n parts.1.1 (omega arith) (omega (arith, low)))
    where
      at_range : (test : ℕ → Bool) (a m i : ℕ) → list_all test (range_with_len a m) ≡ true → a ≤ i → i < a + m → test i ≡ true
      at_range test a zero i all low high = absurd (omega (arith, low, high))
      at_range test a (suc m) i all low high =
          let both = and_parts (test a) (list_all test (range_with_len (a + 1) m)) all in
          elim (cases_eq a i) [
            | inl at ↦ subst (λ j. test j ≡ true) at both.0
            | inr other ↦ at_range test (a + 1) m i both.1 (omega (arith, low, other)) (omega (arith, high))
          ]

  role_one : (x n m : ℕ) → has_role t n x ≡ true → has_role t m x ≡ true → n ≡ m
  role_one x n m = by (slice_get t.roles.items x)
    where
      by : (o : Option ℕ) → option_map_or (λ r. r == n) o false ≡ true → option_map_or (λ r. r == m) o false ≡ true → n ≡ m
      by None first second = absurd (both_ways false refl first)
      by (Some r) first second = sym (eqb-true r n first) ∙ eqb-true r m second

  -- no place has the next role
  pub next_free : count_by (has_role t t.raid_disks) (named_places t) ≡ 0
  next_free = no_other (has_role t) role_one t.raid_disks (named_places t) named_count each_one

  role_at : (x r : ℕ) → x < length t.roles.items → get_or t.roles.items x 0 ≡ r → slice_get t.roles.items x ≡ Some r
  role_at x r low is = slice_get-get_or t.roles.items x 0 low ∙ ap Some is

  pub nobody_next : (j : ℕ) → 0 < t.raid_disks → get_or t.roles.items j 0 ≡ t.raid_disks → ⊥
  nobody_next j some is = elim (cases_lt j (length t.roles.items)) [
    | inl low ↦
        let at = role_at j t.raid_disks low is in
        let named : is_named t j ≡ true = ap (λ o. option_map_or (λ r. nat_lt r 0xfffe) o false) at ∙ lt-ltb t.raid_disks 0xfffe (omega (arith, few)) in
        let has_it : has_role t t.raid_disks j ≡ true = ap (λ o. option_map_or (λ r. r == t.raid_disks) o false) at ∙ eq-eqb t.raid_disks t.raid_disks refl in
        let one = count_has (has_role t t.raid_disks) (is_named t) 0 (length t.roles.items) j (omega arith) (omega (arith, low)) named has_it in
        let none = next_free in
        omega (arith, one, none)
    | inr past ↦
        let gone : get_or t.roles.items j 0 ≡ 0 = sym (unwrap_or-slice_get t.roles.items j 0) ∙ ap (λ o. unwrap_or o 0) (slice_get_past t.roles.items j past) in
        omega (arith, gone, is, some)
  ]

  abbrev next : Super
  next = with_member t place

  long : length (set t.roles.items place t.raid_disks) ≡ length t.roles.items
  long = length-set t.roles.items place t.raid_disks

  other_slot : (j : ℕ) → (j ≡ place → ⊥) → slice_get (set t.roles.items place t.raid_disks) j ≡ slice_get t.roles.items j
  other_slot j other = elim (cases_lt j (length t.roles.items)) [
    | inl low ↦
        slice_get-get_or (set t.roles.items place t.raid_disks) j 0 (omega (arith, low, long))
        ∙ ap Some (get_or-set_other t.roles.items place j t.raid_disks 0 other)
        ∙ sym (slice_get-get_or t.roles.items j 0 low)
    | inr past ↦ slice_get_past (set t.roles.items place t.raid_disks) j (omega (arith, past, long)) ∙ sym (slice_get_past t.roles.items j past)
  ]

  own_slot : slice_get (set t.roles.items place t.raid_disks) place ≡ Some t.raid_disks
  own_slot =
      slice_get-get_or (set t.roles.items place t.raid_disks) place 0 (omega (arith, inside, long))
      ∙ ap Some (get_or-set_same t.roles.items place t.raid_disks 0 inside)

  off_before : is_named t place ≡ false
  off_before =
      ap (λ o. option_map_or (λ r. nat_lt r 0xfffe) o false) (slice_get-get_or t.roles.items place 0 inside)
      ∙ le-ltb (get_or t.roles.items place 0) 0xfffe spare

  on_after : is_named next place ≡ true
  on_after = ap (λ o. option_map_or (λ r. nat_lt r 0xfffe) o false) own_slot ∙ lt-ltb t.raid_disks 0xfffe (omega (arith, few))

  put_in : Inserted place (named_places t) (named_places next)
  put_in =
      subst (λ n. Inserted place (named_places t) (filter (is_named next) (range_with_len 0 n))) (sym long)
      (filtered (is_named t) (is_named next) place 0 (length t.roles.items) (omega arith) (omega (arith, inside))
      (λ j other. ap (λ o. option_map_or (λ r. nat_lt r 0xfffe) o false) (other_slot j other)) off_before on_after)

  -- an old member's role by the new roles
  old_roles : (n : ℕ) → count_by (has_role next n) (named_places t) ≡ count_by (has_role t n) (named_places t)
  old_roles n =
      count_same (has_role next n) (has_role t n) (is_named t) 0 (length t.roles.items)
      (λ j named. ap (λ o. option_map_or (λ r. r == n) o false)
      (other_slot j (λ at. both_ways (is_named t place) off_before (subst (λ i. is_named t i ≡ true) at named))))

  role_of_place : (n : ℕ) → has_role next n place ≡ (t.raid_disks == n)
  role_of_place n = ap (λ o. option_map_or (λ r. r == n) o false) own_slot

  one_each : (n : ℕ) → n < t.raid_disks + 1 → count_by (has_role next n) (named_places next) ≡ 1
  one_each n low =
      let more = inserted_count (has_role next n) place (named_places t) (named_places next) put_in in
      let old = old_roles n in
      elim (cases_eq t.raid_disks n) [
        | inl at ↦
            let own : (if has_role next n place then 1 else 0) + count_by (has_role next n) (named_places t) ≡ 1 + count_by (has_role next n) (named_places t) =
            ap (λ (b : Bool). (if b then 1 else 0) + count_by (has_role next n) (named_places t)) (role_of_place n ∙ eq-eqb t.raid_disks n at) in
            let none : count_by (has_role t n) (named_places t) ≡ 0 = subst (λ i. count_by (has_role t i) (named_places t) ≡ 0) at next_free in
            omega (arith, more, own, old, none)
        | inr other ↦
            let own : (if has_role next n place then 1 else 0) + count_by (has_role next n) (named_places t) ≡ 0 + count_by (has_role next n) (named_places t) =
            ap (λ (b : Bool). (if b then 1 else 0) + count_by (has_role next n) (named_places t)) (role_of_place n ∙ ne_eqb t.raid_disks n other) in
            let was = each_one n (omega (arith, low, other)) in
            omega (arith, more, own, old, was)
      ]

  all_range : (test : ℕ → Bool) (a m : ℕ) → ((i : ℕ) → i < a + m → test i ≡ true) → list_all test (range_with_len a m) ≡ true
  all_range test a zero each = refl
  all_range test a (suc m) each =
      and_from (test a) (list_all test (range_with_len (a + 1) m)) (each a (omega arith)) (all_range test (a + 1) m (λ i low. each i (omega (arith, low))))

  -- THE ROLES OF BEGIN'S TRUTH
  pub begun_roles : has_roles drives (with_member t place) ≡ true
  begun_roles =
      let count = inserted_length place (named_places t) (named_places next) put_in in
      let was = named_count in
      and_from (length (named_places next) == t.raid_disks + 1) _
      (eq-eqb (length (named_places next)) (t.raid_disks + 1) (omega (arith, count, was)))
      (and_from (list_all (λ p. nat_lt p drives) (named_places next)) _
      (inserted_all (λ p. nat_lt p drives) place (named_places t) (named_places next) put_in parts.1.0 (lt-ltb place drives listed))
      (all_range (λ n. count_by (has_role next n) (named_places next) == 1) 0 (t.raid_disks + 1)
      (λ n low. eq-eqb (count_by (has_role next n) (named_places next)) 1 (one_each n (omega (arith, low))))))

  -- so a place below 16 that has no role leaves room for one
  pub room_left : drives ≤ 16 → t.raid_disks < 16
  room_left most =
      let count = inserted_length place (named_places t) (named_places next) put_in in
      let was = named_count in
      let low = few_below (is_named next) drives 0 (length next.roles.items)
      (inserted_all (λ p. nat_lt p drives) place (named_places t) (named_places next) put_in parts.1.0 (lt-ltb place drives listed)) in
      omega (arith, count, was, low, most)
    where
      few_by : (bound a : ℕ) (rest : List ℕ) (b : Bool) → list_all (λ j. nat_lt j bound) (if b then a ∷ rest else rest) ≡ true
          → (list_all (λ j. nat_lt j bound) rest ≡ true → length rest ≤ bound - (a + 1)) → length (if b then a ∷ rest else rest) ≤ bound - a
      few_by bound a rest false all others = let low = others all in omega (arith, low)
      few_by bound a rest true all others =
          let both = and_parts (nat_lt a bound) (list_all (λ j. nat_lt j bound) rest) all in
          let this = ltb-true a bound both.0 in
          let low = others both.1 in
          omega (arith, this, low)

      few_below : (p : ℕ → Bool) (bound a m : ℕ) → list_all (λ j. nat_lt j bound) (filter p (range_with_len a m)) ≡ true → length (filter p (range_with_len a m)) ≤ bound - a
      few_below p bound a zero all = omega arith
      few_below p bound a (suc m) all = few_by bound a (filter p (range_with_len (a + 1) m)) (p a) all (few_below p bound (a + 1) m)
