-- A search among numbers in a row, one after the other.
use Rattle.std.proofs.Common.{◌≡◌, ℕ, suc, ◌+◌, ◌-◌, ◌<◌, Bool, true, false, Some, refl, arith}
use Rattle.std.specs.List.{find, range_with_len}

-- the first number passes
pub found_here : (p : ℕ → Bool) (n end : ℕ) → n < end → p n ≡ true → find p (range_with_len n (end - n)) ≡ Some n
found_here p n end below passes =
    let one : end - n ≡ suc (end - (n + 1)) = omega arith in
    rw (one, passes) refl

-- it fails
pub found_later : (p : ℕ → Bool) (n end : ℕ) → n < end → p n ≡ false → find p (range_with_len n (end - n)) ≡ find p (range_with_len (n + 1) (end - (n + 1)))
found_later p n end below fails =
    let one : end - n ≡ suc (end - (n + 1)) = omega arith in
    rw (one, fails) refl
