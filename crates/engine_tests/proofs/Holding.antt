-- Three arrays hold so many extents each.
use Rattle.std.proofs.Common.{◌≡◌, ℕ, zero, suc, ◌+◌, ◌*◌, ◌≤◌, [], ◌∷◌, arith}
use Rattle.lvm_group.specs.Own.{HoldAll}

pub hold_all : (f : ℕ → ℕ) (l m n : ℕ) → 2048 + l * 128 ≤ f 0 → 2048 + m * 128 ≤ f 1 → 2048 + n * 128 ≤ f 2 → HoldAll 128 f 0 (l ∷ m ∷ n ∷ [])
hold_all f l m n one two three zero number at = let same : l ≡ number = cc in omega (arith, one, same)
hold_all f l m n one two three (suc zero) number at = let same : m ≡ number = cc in omega (arith, two, same)
hold_all f l m n one two three (suc (suc zero)) number at = let same : n ≡ number = cc in omega (arith, three, same)
hold_all f l m n one two three (suc (suc (suc place))) number at = cc
