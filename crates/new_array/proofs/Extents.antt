-- Extents of a pool are whole multiples of 128 sectors.
use Rattle.std.proofs.Common.{◌≡◌, ℕ, zero, suc, ◌+◌, ◌*◌, ◌/◌, ◌%◌, ◌^◌, ◌<◌, ◌≤◌, true, ◌&&◌, nat_le, refl, sym, ap, ◌∙◌, arith}
use Rattle.std.specs.Int.{is_power_of_two}
use Rattle.std.specs.Int.Count.{ones, ones_in}
use Rattle.std.proofs.lemmas.Bool.{and_parts, eqb-true, leb-true}
use Rattle.std.proofs.Math.Nat.{pow-succ', mul_assoc}
use Rattle.std.proofs.lemmas.Nat.{pow_pos}
use Rattle.pool_state.specs.Valid.{is_extent}

-- a number without a set digit is zero
zero_digits : (d m : ℕ) → m ≤ d → ones_in d m ≡ 0 → m ≡ 0
unfolding ones_in
zero_digits zero m few none = omega (arith, few)
zero_digits (suc d) m few none =
    let half : m / 2 ≡ 0 = zero_digits d (m / 2) (omega (arith, few)) (let both : m % 2 + ones_in d (m / 2) ≡ 0 = none in omega (arith, both)) in
    let last : m % 2 + ones_in d (m / 2) ≡ 0 = none in
    omega (arith, half, last)

-- half of a power of two, from two on, is one
half_power : (d n : ℕ) → n ≤ suc d → 2 ≤ n → ones_in (suc d) n ≡ 1 → (n ≡ 2 * (n / 2)) × (ones_in d (n / 2) ≡ 1)
unfolding ones_in
half_power d n few least one =
    let both : n % 2 + ones_in d (n / 2) ≡ 1 = one in
    let odd : n % 2 ≡ 1 → n / 2 ≡ 0 = λ at. zero_digits d (n / 2) (omega (arith, few)) (omega (arith, both, at)) in
    let even : n % 2 ≡ 0 = even_of (n % 2) (omega arith) odd in
    (omega (arith, even), omega (arith, both, even))
  where
    even_of : (r : ℕ) → r < 2 → (r ≡ 1 → n / 2 ≡ 0) → r ≡ 0
    even_of zero low odd = refl
    even_of (suc zero) low odd = absurd (let half = odd refl in omega (arith, half, least))
    even_of (suc (suc r)) low odd = absurd (omega (arith, low))

-- a power of two that is large enough is a multiple of a smaller one
power_chunks : (k d n : ℕ) → n ≤ d → 2 ^ k ≤ n → ones_in d n ≡ 1 → (m : ℕ) × (n ≡ 2 ^ k * m)
power_chunks zero d n few least one = (n, (let unit : 2 ^ 0 * n ≡ n = omega arith in sym unit))
power_chunks (suc k) zero n few least one =
    let double : 2 ^ suc k ≡ 2 * 2 ^ k = pow-succ' 2 k in
    absurd (omega (arith, few, least, double, pow_pos k))
power_chunks (suc k) (suc d) n few least one =
    let double : 2 ^ suc k ≡ 2 * 2 ^ k = pow-succ' 2 k in
    let positive = pow_pos k in
    let two : 2 ≤ n = omega (arith, least, double, positive) in
    let half = half_power d n few two one in
    let rest = power_chunks k d (n / 2) (omega (arith, few)) (let even = half.0 in omega (arith, even, least, double)) half.1 in
    (rest.0, half.0 ∙ ap (λ x. 2 * x) rest.1 ∙ sym (mul_assoc 2 (2 ^ k) rest.0) ∙ ap (λ x. x * rest.0) (sym double))

pub extent_chunks : (extent : ℕ) → is_extent extent ≡ true → (m : ℕ) × (extent ≡ m * 128)
unfolding ones
extent_chunks extent is =
    let power = and_parts (is_power_of_two extent) (nat_le 128 extent && nat_le extent 65536) is in
    let least = leb-true 128 extent (and_parts (nat_le 128 extent) (nat_le extent 65536) power.1).0 in
    let digits : ones_in extent extent ≡ 1 = eqb-true (ones extent) 1 power.0 in
    let chunks = power_chunks 7 extent extent (omega arith) least digits in
    (chunks.0, let whole = chunks.1 in omega (arith, whole))
