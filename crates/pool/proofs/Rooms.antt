-- Lists of the numbers that pass a test.
use Rattle.std.specs.List.{range_with_len}
use Rattle.std.proofs.Common.{◌≡◌, ℕ, zero, suc, ◌+◌, ◌-◌, ◌<◌, ◌≤◌, Bool, true, false, cond, if◌then◌else◌, [], ◌∷◌, filter, length, length-append, refl, sym, ap, subst, ◌∙◌, arith}
use Rattle.log_laws.proofs.Naming.{filter_more}

more_at : (f : ℕ → Bool) (m : ℕ) → length (filter f (range_with_len 0 (m + 1))) ≡ length (filter f (range_with_len 0 m)) + (if f m then 1 else 0)
more_at f m =
    ap length (filter_more f m) ∙ length-append (filter f (range_with_len 0 m)) (cond (f m) (m ∷ []) []) ∙ ap (λ k. length (filter f (range_with_len 0 m)) + k) (one (f m))
  where
    one : (b : Bool) → length (cond b (m ∷ []) []) ≡ (if b then 1 else 0)
    one true = refl
    one false = refl

grows : (f : ℕ → Bool) (n k : ℕ) → length (filter f (range_with_len 0 n)) ≤ length (filter f (range_with_len 0 (n + k)))
grows f n zero = let same : n + zero ≡ n = omega arith in rw same (omega arith)
grows f n (suc k) =
    let same : n + suc k ≡ n + k + 1 = omega arith in
    let before = grows f n k in
    let more = more_at f (n + k) in
    rw same (omega (arith, before, more))

-- a number that passes has its own place in the list of those below a later one
pub filter_room : (f : ℕ → Bool) (n m : ℕ) → n < m → f n ≡ true → length (filter f (range_with_len 0 n)) + 1 ≤ length (filter f (range_with_len 0 m))
filter_room f n m low passes =
    let same : m ≡ n + 1 + (m - (n + 1)) = omega arith in
    let here : length (filter f (range_with_len 0 (n + 1))) ≡ length (filter f (range_with_len 0 n)) + 1 =
    more_at f n ∙ ap (λ b. length (filter f (range_with_len 0 n)) + (if b then 1 else 0)) passes in
    let past = grows f (n + 1) (m - (n + 1)) in
    subst (λ k. length (filter f (range_with_len 0 n)) + 1 ≤ length (filter f (range_with_len 0 k))) (sym same) (omega (arith, here, past))
