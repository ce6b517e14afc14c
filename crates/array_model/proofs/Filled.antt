-- A RAID-5 row as whole sectors, with zeros where a member doesn't count.
use Rattle.std.proofs.Common.{◌≡◌, ℕ, zero, suc, ◌+◌, ◌<◌, Bool, true, false, nat_lt, if◌then◌else◌, List, [], ◌∷◌, map, length, Option, Some, None, refl, sym, ap, subst, ◌∙◌, inr, lt-ltb, ltb-true, arith}
use Rattle.std.proofs.lemmas.Simd.{length-replicate}
use Rattle.std.specs.Option.{option_map_or}
use Rattle.rack.specs.Seen.{Image}
use Rattle.parity.specs.Xor.{xor, xor_all, zeros}
use Rattle.parity.proofs.Laws.{xor_is_a_group, parity_restores}
use Rattle.array_image.specs.Places.{member_slice, data_sector}
use Rattle.array_image.specs.Stripes.{there}
use Rattle.array_image.specs.Arrays.{Member, column}
use Rattle.array_image.specs.Held.{Among, member_at}
use Rattle.array_image.specs.Spent.{wanting}
use Rattle.array_model.specs.Rows.{part_at}
use Rattle.array_model.proofs.ParityRow.{AreSized, lengths, long_xor}

-- ---- XOR

-- old and new of a sector and of its parity undo each other
pub xor_same : (t p f q : List ℕ) → length t ≡ 512 → length p ≡ 512 → length f ≡ 512 → length q ≡ 512
    → xor (xor (xor (xor t p) f) q) (xor (xor q p) f) ≡ t
xor_same t p f q long_t long_p long_f long_q =
    let n : List ℕ = xor (xor q p) f in
    let long_n : length n ≡ 512 = long_xor (xor q p) f (long_xor q p long_q long_p) long_f in
    ap (λ v. xor v n)
    (ap (λ v. xor v q) (xor_is_a_group.associates t p f)
    ∙ xor_is_a_group.associates t (xor p f) q
    ∙ ap (xor t) (xor_is_a_group.commutes (xor p f) q ∙ sym (xor_is_a_group.associates q p f)))
    ∙ xor_is_a_group.undone t n (long_t ∙ sym long_n)

-- a parity made of what the others give makes them give the new value
pub xor_new : (t q f : List ℕ) → length t ≡ 512 → length q ≡ 512 → length f ≡ 512 → xor (xor t q) (xor (xor q t) f) ≡ f
xor_new t q f long_t long_q long_f =
    let s : List ℕ = xor t q in
    ap (λ v. xor s (xor v f)) (xor_is_a_group.commutes q t)
    ∙ xor_is_a_group.commutes s (xor s f)
    ∙ ap (λ v. xor v s) (xor_is_a_group.commutes s f)
    ∙ xor_is_a_group.undone f s (long_f ∙ sym (long_xor t q long_t long_q))

pub long_zeros : length (zeros 512) ≡ 512
long_zeros = length-replicate {A = ℕ} 512 0

pub xor_zeros : (t : List ℕ) → length t ≡ 512 → xor t (zeros 512) ≡ t
xor_zeros t long = ap (λ k. xor t (zeros k)) (sym long) ∙ xor_is_a_group.neutral t

-- ---- a row as whole sectors, with zeros where a member doesn't count

abbrev pub filled : Image → ℕ → ℕ → Member → List ℕ
filled c n t m = option_map_or (λ v. v) (column c n t m) (zeros 512)

pub filled_there : (c : Image) (n t : ℕ) (m : Member) → t < m.reach → filled c n t m ≡ c (member_slice m.place n) (data_sector + t)
filled_there c n t m counts = ap (λ (b : Bool). option_map_or (λ v. v) (if b then Some (c (member_slice m.place n) (data_sector + t)) else None) (zeros 512)) (lt-ltb t m.reach counts)

pub filled_none : (c : Image) (n t : ℕ) (m : Member) → nat_lt t m.reach ≡ false → filled c n t m ≡ zeros 512
filled_none c n t m none = ap (λ (b : Bool). option_map_or (λ v. v) (if b then Some (c (member_slice m.place n) (data_sector + t)) else None) (zeros 512)) none

pub filled_sized : (c : Image) (n t : ℕ) (members : List Member)
    → ((m : Member) → Among m members → t < m.reach → length (c (member_slice m.place n) (data_sector + t)) ≡ 512) → AreSized (filled c n t) members
filled_sized c n t members sized m among =
    let Goal : Bool → Type 0 = λ b. nat_lt t m.reach ≡ b → length (filled c n t m) ≡ 512 in
    let goal : Goal (nat_lt t m.reach) = elim (nat_lt t m.reach) as Goal [
      | true ↦ λ is. ap length (filled_there c n t m (ltb-true t m.reach is)) ∙ sized m among (ltb-true t m.reach is)
      | false ↦ λ is. ap length (filled_none c n t m is) ∙ long_zeros
    ] in
    goal refl

unfoldable pub total : Image → ℕ → ℕ → List Member → List ℕ
total c n t members = xor_all 512 (map (filled c n t) members)

pub total_sized : (c : Image) (n t : ℕ) (members : List Member) → AreSized (filled c n t) members → length (total c n t members) ≡ 512
unfolding total
total_sized c n t members sized = parity_restores.same_length 512 (map (filled c n t) members) (lengths (filled c n t) members sized)

-- those that count give together what all do
pub total_there : (c : Image) (n t : ℕ) (members : List Member) → AreSized (filled c n t) members → xor_all 512 (there (map (column c n t) members)) ≡ total c n t members
unfolding xor_all there total
total_there c n t [] sized = refl
total_there c n t (m ∷ others) sized =
    let rest = total_there c n t others (λ o among. sized o (inr among)) in
    let long = total_sized c n t others (λ o among. sized o (inr among)) in
    by (column c n t m) rest long
  where
    by : (o : Option (List ℕ)) → xor_all 512 (there (map (column c n t) others)) ≡ xor_all 512 (map (filled c n t) others) → length (xor_all 512 (map (filled c n t) others)) ≡ 512
        → xor_all 512 (there (o ∷ map (column c n t) others)) ≡ xor (option_map_or (λ v. v) o (zeros 512)) (xor_all 512 (map (filled c n t) others))
    by (Some v) rest long = ap (xor v) rest
    by None rest long = rest ∙ sym (xor_zeros _ long) ∙ xor_is_a_group.commutes _ (zeros 512)

-- ---- members

pub at_part : (s i : ℕ) (ms : List Member) → i < length ms → s < (part_at i ms).reach → member_at s i ms ≡ Some (part_at i ms)
unfolding member_at
at_part s i [] inside counts = absurd (omega (arith, inside))
at_part s zero (m ∷ others) inside counts = ap (λ (b : Bool). if b then Some m else None) (lt-ltb s m.reach counts)
at_part s (suc i) (m ∷ others) inside counts = at_part s i others (omega (arith, inside)) counts

more_want : (b : Bool) (n : ℕ) → 1 < n → 1 < (if b then n else suc n)
more_want true n high = high
more_want false n high = omega (arith, high)

some_want : (b : Bool) (n : ℕ) → 0 < n → 0 < (if b then n else suc n)
some_want true n high = high
some_want false n high = omega (arith, high)

pub one_wants : (s i : ℕ) (ms : List Member) → i < length ms → nat_lt s (part_at i ms).reach ≡ false → 0 < wanting s ms
one_wants s i [] low none = absurd (omega (arith, low))
one_wants s zero (m ∷ others) low none = subst (λ b. 0 < (if b then wanting s others else suc (wanting s others))) (sym none) (omega arith)
one_wants s (suc i) (m ∷ others) low none = some_want (nat_lt s m.reach) (wanting s others) (one_wants s i others (omega (arith, low)) none)

-- two members that don't count are two that are wanting
pub two_want : (s i j : ℕ) (ms : List Member) → i < length ms → j < length ms → (i ≡ j → ⊥) → nat_lt s (part_at i ms).reach ≡ false → nat_lt s (part_at j ms).reach ≡ false → 1 < wanting s ms
two_want s i j [] low_i low_j other none_i none_j = absurd (omega (arith, low_i))
two_want s zero zero (m ∷ others) low_i low_j other none_i none_j = absurd (other refl)
two_want s zero (suc j) (m ∷ others) low_i low_j other none_i none_j =
    let rest = one_wants s j others (omega (arith, low_j)) none_j in
    subst (λ b. 1 < (if b then wanting s others else suc (wanting s others))) (sym none_i) (omega (arith, rest))
two_want s (suc i) zero (m ∷ others) low_i low_j other none_i none_j =
    let rest = one_wants s i others (omega (arith, low_i)) none_i in
    subst (λ b. 1 < (if b then wanting s others else suc (wanting s others))) (sym none_j) (omega (arith, rest))
two_want s (suc i) (suc j) (m ∷ others) low_i low_j other none_i none_j =
    more_want (nat_lt s m.reach) (wanting s others) (two_want s i j others (omega (arith, low_i)) (omega (arith, low_j)) (λ same. other (ap suc same)) none_i none_j)
