-- The first members of an array, one after the other.
use Rattle.std.proofs.Common.{◌≡◌, ℕ, zero, suc, ◌+◌, ◌-◌, ◌<◌, ◌≤◌, Bool, true, false, nat_lt, if◌then◌else◌, List, [], ◌∷◌, ◌++◌, map, take, drop, Option, Some, None, refl, sym, ap, ap₂, subst, ◌∙◌, inl, inr, append-nil, arith}
use Rattle.std.specs.Option.{option_map_or}
use Rattle.std.specs.List.{range_with_len}
use Rattle.rack.specs.Seen.{Image}
use Rattle.parity.specs.Xor.{xor, xor_all, zeros}
use Rattle.parity.proofs.Laws.{xor_is_a_group, parity_restores}
use Rattle.array_image.specs.Places.{member_slice, data_sector}
use Rattle.array_image.specs.Stripes.{Layout, mirror, parity, width, there, at_position, without, first_there, given}
use Rattle.array_image.specs.Arrays.{Member, column}
use Rattle.array_image.specs.Held.{Among, first_counting, member_at, source_in}
use Rattle.array_image.specs.Spent.{wanting}
use Rattle.array_image.proofs.Losing.{map_join}
use Rattle.array_model.specs.View.{View, member_on}
use Rattle.array_model.specs.Members.{gathered, added}

-- the first so many members
abbrev pub firsts : View → ℕ → List Member
firsts v n = map (member_on v) (range_with_len 0 n)

range_take : (a m n : ℕ) → m ≤ n → take m (range_with_len a n) ≡ range_with_len a m
range_take a zero n low = refl
range_take a (suc m) zero low = absurd (omega (arith, low))
range_take a (suc m) (suc n) low = ap (λ xs. a ∷ xs) (range_take (a + 1) m n (omega (arith, low)))

pub map_take : {X Y : Type 0} (f : X → Y) (n : ℕ) (xs : List X) → take n (map f xs) ≡ map f (take n xs)
map_take f zero xs = refl
map_take f (suc n) [] = refl
map_take f (suc n) (x ∷ xs) = ap (λ ys. f x ∷ ys) (map_take f n xs)

pub take_firsts : (v : View) (m n : ℕ) → m ≤ n → take m (firsts v n) ≡ firsts v m
take_firsts v m n low = map_take (member_on v) m (range_with_len 0 n) ∙ ap (map (member_on v)) (range_take 0 m n low)

range_split : (a k j : ℕ) → range_with_len a (k + j) ≡ range_with_len a k ++ range_with_len (a + k) j
range_split a zero j = ap₂ (λ p q. range_with_len p q) (omega arith) (omega arith)
range_split a (suc k) j =
    ap (range_with_len a) (more k j) ∙ ap (λ xs. a ∷ xs) (range_split (a + 1) k j ∙ ap (λ b. range_with_len (a + 1) k ++ range_with_len b j) (omega arith))
  where
    more : (k j : ℕ) → suc k + j ≡ suc (k + j)
    more k j = omega arith

-- some, and the others
pub firsts_split : (v : View) (k j : ℕ) → firsts v (k + j) ≡ firsts v k ++ map (member_on v) (range_with_len (0 + k) j)
firsts_split v k j = ap (map (member_on v)) (range_split 0 k j) ∙ map_join (member_on v) (range_with_len 0 k) (range_with_len (0 + k) j)

-- one more
pub firsts_more : (v : View) (k : ℕ) → firsts v (k + 1) ≡ firsts v k ++ member_on v k ∷ []
firsts_more v k = firsts_split v k 1 ∙ ap (λ (j : ℕ). firsts v k ++ member_on v j ∷ []) (omega arith)

pub among_join : (xs ys : List Member) (m : Member) → Among m ys → Among m (xs ++ ys)
among_join [] ys m among = among
among_join (x ∷ xs) ys m among = inr (among_join xs ys m among)

pub among_before : (xs ys : List Member) (m : Member) → Among m xs → Among m (xs ++ ys)
among_before [] ys m among = absurd among
among_before (x ∷ xs) ys m (inl here) = inl here
among_before (x ∷ xs) ys m (inr later) = inr (among_before xs ys m later)

-- each position below has one of them
pub member_among : (v : View) (k n : ℕ) → k < n → Among (member_on v k) (firsts v n)
member_among v k n low =
    subst (λ j. Among (member_on v k) (firsts v j)) (whole k n low)
    (subst (λ ms. Among (member_on v k) ms) (sym (firsts_split v (k + 1) (n - (k + 1))))
    (among_before (firsts v (k + 1)) _ (member_on v k)
    (subst (λ ms. Among (member_on v k) ms) (sym (firsts_more v k)) (among_join (firsts v k) (member_on v k ∷ []) (member_on v k) (inl refl)))))
  where
    whole : (k n : ℕ) → k < n → k + 1 + (n - (k + 1)) ≡ n
    whole k n low = omega (arith, low)

-- and each of them a position
among_range : (v : View) (a n : ℕ) (m : Member) → Among m (map (member_on v) (range_with_len a n)) → (k : ℕ) × (k < a + n) × (m ≡ member_on v k)
among_range v a zero m among = absurd among
among_range v a (suc n) m (inl here) = (a, omega arith, here)
among_range v a (suc n) m (inr later) = let rest = among_range v (a + 1) n m later in let low = rest.1 in (rest.0, omega (arith, low), rest.2)

pub position_of : (v : View) (n : ℕ) (m : Member) → Among m (firsts v n) → (k : ℕ) × (k < n) × (m ≡ member_on v k)
position_of v n m among = let found = among_range v 0 n m among in let low = found.1 in (found.0, omega (arith, low), found.2)

-- ---- how many are wanting

pub wanting_one : (sector : ℕ) (xs : List Member) (m : Member) (b : Bool) → nat_lt sector m.reach ≡ b
    → wanting sector (xs ++ m ∷ []) ≡ (if b then wanting sector xs else suc (wanting sector xs))
wanting_one sector [] m b is = ap (λ (t : Bool). if t then 0 else 1) is
wanting_one sector (x ∷ xs) m b is =
    ap (λ n. if nat_lt sector x.reach then n else suc n) (wanting_one sector xs m b is) ∙ swap (nat_lt sector x.reach) b (wanting sector xs)
  where
    swap : (p q : Bool) (n : ℕ) → (if p then (if q then n else suc n) else suc (if q then n else suc n)) ≡ (if q then (if p then n else suc n) else suc (if p then n else suc n))
    swap true true n = refl
    swap true false n = refl
    swap false true n = refl
    swap false false n = refl

pub wanting_step : (v : View) (sector k n m : ℕ) (b : Bool) → nat_lt sector (member_on v k).reach ≡ b → n ≡ wanting sector (firsts v k)
    → m ≡ (if b then n else n + 1) → m ≡ wanting sector (firsts v (k + 1))
wanting_step v sector k n m true is before now =
    now ∙ before ∙ sym (ap (wanting sector) (firsts_more v k) ∙ wanting_one sector (firsts v k) (member_on v k) true is)
wanting_step v sector k n m false is before now =
    let more : wanting sector (firsts v (k + 1)) ≡ suc (wanting sector (firsts v k)) = ap (wanting sector) (firsts_more v k) ∙ wanting_one sector (firsts v k) (member_on v k) false is in
    omega (arith, before, now, more)

-- ---- the first one that counts

first_join : (sector : ℕ) (xs ys : List Member) (o : Option Member) → first_counting sector xs ≡ o
    → first_counting sector (xs ++ ys) ≡ option_map_or (λ m. Some m) o (first_counting sector ys)
unfolding first_counting
first_join sector [] ys o is = ap (λ (p : Option Member). option_map_or (λ m. Some m) p (first_counting sector ys)) is
first_join sector (x ∷ xs) ys o is =
    let Goal : Bool → Type 0 = λ b. (if b then Some x else first_counting sector xs) ≡ o
    → (if b then Some x else first_counting sector (xs ++ ys)) ≡ option_map_or (λ m. Some m) o (first_counting sector ys) in
    let goal : Goal (nat_lt sector x.reach) = elim (nat_lt sector x.reach) as Goal [
      | true ↦ λ here. ap (λ (p : Option Member). option_map_or (λ m. Some m) p (first_counting sector ys)) here
      | false ↦ λ later. first_join sector xs ys o later
    ] in
    goal is

first_one : (sector : ℕ) (m : Member) (b : Bool) → nat_lt sector m.reach ≡ b → first_counting sector (m ∷ []) ≡ (if b then Some m else None)
unfolding first_counting
first_one sector m b is = ap (λ (t : Bool). if t then Some m else None) is

-- none of the first k counts, nor the next one
pub first_next : (v : View) (sector k : ℕ) → first_counting sector (firsts v k) ≡ None → nat_lt sector (member_on v k).reach ≡ false
    → first_counting sector (firsts v (k + 1)) ≡ None
first_next v sector k none is =
    ap (first_counting sector) (firsts_more v k) ∙ first_join sector (firsts v k) (member_on v k ∷ []) None none ∙ first_one sector (member_on v k) false is

-- or the next one does
pub first_found : (v : View) (sector k n : ℕ) → k < n → first_counting sector (firsts v k) ≡ None → nat_lt sector (member_on v k).reach ≡ true
    → first_counting sector (firsts v n) ≡ Some (member_on v k)
first_found v sector k n low none is =
    let one : first_counting sector (firsts v (k + 1)) ≡ Some (member_on v k) =
    ap (first_counting sector) (firsts_more v k) ∙ first_join sector (firsts v k) (member_on v k ∷ []) None none ∙ first_one sector (member_on v k) true is in
    ap (λ (j : ℕ). first_counting sector (firsts v j)) (whole k n low)
    ∙ ap (first_counting sector) (firsts_split v (k + 1) (n - (k + 1)))
    ∙ first_join sector (firsts v (k + 1)) _ (Some (member_on v k)) one
  where
    whole : (k n : ℕ) → k < n → n ≡ k + 1 + (n - (k + 1))
    whole k n low = omega (arith, low)

pub first_none : (sector : ℕ) → first_counting sector [] ≡ None
unfolding first_counting
first_none sector = refl

-- ---- where a sector's value comes from

at_range : (v : View) (a sector k n : ℕ) (b : Bool) → k < n → nat_lt sector (member_on v (a + k)).reach ≡ b
    → member_at sector k (map (member_on v) (range_with_len a n)) ≡ (if b then Some (member_on v (a + k)) else None)
unfolding member_at
at_range v a sector k zero b low is = absurd (omega (arith, low))
at_range v a sector zero (suc n) b low is =
    let same : a + 0 ≡ a = omega arith in
    subst (λ (j : ℕ). (if nat_lt sector (member_on v a).reach then Some (member_on v a) else None) ≡ (if b then Some (member_on v j) else None)) (sym same)
    (ap (λ (t : Bool). if t then Some (member_on v a) else None) (subst (λ (j : ℕ). nat_lt sector (member_on v j).reach ≡ b) same is))
at_range v a sector (suc k) (suc n) b low is =
    let same : a + suc k ≡ a + 1 + k = omega arith in
    at_range v (a + 1) sector k n b (omega (arith, low)) (subst (λ (j : ℕ). nat_lt sector (member_on v j).reach ≡ b) same is)
    ∙ ap (λ (j : ℕ). if b then Some (member_on v j) else None) (sym same)

pub parity_source : (v : View) (sector k n : ℕ) (b : Bool) → k < n → nat_lt sector (member_on v k).reach ≡ b
    → member_at sector k (firsts v n) ≡ (if b then Some (member_on v k) else None)
parity_source v sector k n b low is =
    let same : 0 + k ≡ k = omega arith in
    at_range v 0 sector k n b low (subst (λ (j : ℕ). nat_lt sector (member_on v j).reach ≡ b) (sym same) is)
    ∙ ap (λ (j : ℕ). if b then Some (member_on v j) else None) same

-- ---- their XOR

there_join : (xs : List (Option (List ℕ))) (o : Option (List ℕ)) → there (xs ++ o ∷ []) ≡ there xs ++ there (o ∷ [])
unfolding there
there_join [] o = refl
there_join (None ∷ xs) o = there_join xs o
there_join (Some v ∷ xs) o = ap (λ vs. v ∷ vs) (there_join xs o)

one_more : (vs : List (List ℕ)) (o : Option (List ℕ)) → xor_all 512 (vs ++ there (o ∷ [])) ≡ added o (xor_all 512 vs)
unfolding there
one_more vs None = ap (xor_all 512) (append-nil vs)
one_more vs (Some v) =
    parity_restores.any_order 512 vs v [] ∙ ap (λ ws. xor v (xor_all 512 ws)) (append-nil vs) ∙ xor_is_a_group.commutes v (xor_all 512 vs)

pub gathered_none : (c : Image) (array sector : ℕ) → gathered c array sector [] ≡ zeros 512
unfolding xor_all there
gathered_none c array sector = refl

pub gathered_more : (v : View) (c : Image) (array sector k : ℕ)
    → gathered c array sector (firsts v (k + 1)) ≡ added (column c array sector (member_on v k)) (gathered c array sector (firsts v k))
gathered_more v c array sector k =
    ap (λ (ms : List Member). gathered c array sector ms) (firsts_more v k)
    ∙ ap (λ stripe. xor_all 512 (there stripe)) (map_join (column c array sector) (firsts v k) (member_on v k ∷ []))
    ∙ ap (xor_all 512) (there_join (map (column c array sector) (firsts v k)) (column c array sector (member_on v k)))
    ∙ one_more (there (map (column c array sector) (firsts v k))) (column c array sector (member_on v k))

none_there : (c : Image) (array sector : ℕ) (members : List Member) → first_counting sector members ≡ None → there (map (column c array sector) members) ≡ []
unfolding first_counting there
none_there c array sector [] none = refl
none_there c array sector (m ∷ others) none =
    let Goal : Bool → Type 0 = λ b. (if b then Some m else first_counting sector others) ≡ None
    → there ((if b then Some (c (member_slice m.place array) (data_sector + sector)) else None) ∷ map (column c array sector) others) ≡ [] in
    let goal : Goal (nat_lt sector m.reach) =
    elim (nat_lt sector m.reach) as Goal [ true ↦ λ is. absurd (cc) | false ↦ λ is. none_there c array sector others is ] in
    goal none

none_at : (c : Image) (array sector position : ℕ) (members : List Member) → member_at sector position members ≡ None
    → (at_position position (map (column c array sector) members) ≡ None)
    × (there (without position (map (column c array sector) members)) ≡ there (map (column c array sector) members))
unfolding member_at at_position there
none_at c array sector position [] none = (empty position, same position)
  where
    empty : (k : ℕ) → at_position k [] ≡ None
    empty k = refl

    same : (k : ℕ) → there (take k [] ++ drop (suc k) []) ≡ there []
    same zero = refl
    same (suc k) = refl
none_at c array sector zero (m ∷ others) none =
    let Goal : Bool → Type 0 = λ b. (if b then Some m else None) ≡ None
    → ((if b then Some (c (member_slice m.place array) (data_sector + sector)) else None) ≡ None)
    × (there (map (column c array sector) others) ≡ there ((if b then Some (c (member_slice m.place array) (data_sector + sector)) else None) ∷ map (column c array sector) others)) in
    let goal : Goal (nat_lt sector m.reach) =
    elim (nat_lt sector m.reach) as Goal [ true ↦ λ is. absurd (cc) | false ↦ λ is. (refl, refl) ] in
    goal none
none_at c array sector (suc k) (m ∷ others) none =
    let rest = none_at c array sector k others none in
    (rest.0, there_cons (column c array sector m) (without k (map (column c array sector) others)) (map (column c array sector) others) rest.1)
  where
    there_cons : (o : Option (List ℕ)) (xs ys : List (Option (List ℕ))) → there xs ≡ there ys → there (o ∷ xs) ≡ there (o ∷ ys)
    there_cons None xs ys is = is
    there_cons (Some v) xs ys is = ap (λ vs. v ∷ vs) is

-- what a stripe gives where its own sector isn't there: the XOR of those that are
pub none_given : (layout : Layout) (c : Image) (array sector position : ℕ) (members : List Member)
    → source_in layout sector position members ≡ None
    → given layout (map (column c array sector) (take (width layout) members)) position ≡ gathered c array sector (take (width layout) members)
unfolding given xor_all
none_given (mirror n) c array sector position members none =
    ap first_there (none_there c array sector (take n members) none)
    ∙ sym (ap (xor_all 512) (none_there c array sector (take n members) none))
none_given (parity n) c array sector position members none =
    let at = none_at c array sector position (take n members) none in
    ap (λ o. option_map_or (λ v. v) o (xor_all 512 (there (without position (map (column c array sector) (take n members)))))) at.0
    ∙ ap (xor_all 512) at.1

-- ---- a row's own sectors

at_column : (v : View) (c : Image) (a sector k n : ℕ) → k < n
    → at_position k (map (column c v.number sector) (map (member_on v) (range_with_len a n))) ≡ column c v.number sector (member_on v (a + k))
unfolding at_position
at_column v c a sector k zero low = absurd (omega (arith, low))
at_column v c a sector zero (suc n) low = ap (λ (j : ℕ). column c v.number sector (member_on v j)) (omega arith)
at_column v c a sector (suc k) (suc n) low =
    at_column v c (a + 1) sector k n (omega (arith, low)) ∙ ap (λ (j : ℕ). column c v.number sector (member_on v j)) (omega arith)

-- the sector of a position is its member's column
pub at_firsts : (v : View) (c : Image) (sector k n : ℕ) → k < n → at_position k (map (column c v.number sector) (firsts v n)) ≡ column c v.number sector (member_on v k)
at_firsts v c sector k n low = at_column v c 0 sector k n low ∙ ap (λ (j : ℕ). column c v.number sector (member_on v j)) (zero_more k)
  where
    zero_more : (k : ℕ) → 0 + k ≡ k
    zero_more k = omega arith
