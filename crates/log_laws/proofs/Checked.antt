-- Tests of a record's targets, one target after the other.
use Rattle.std.proofs.Common.{◌≡◌, ℕ, zero, suc, ◌+◌, ◌<◌, ◌≤◌, ◌==◌, ◌&&◌, ◌||◌, not, Bool, true, false, List, [], ◌∷◌, ◌++◌, refl, sym, ap, ap₂, ◌∙◌, inl, inr, arith, eq-eqb}
use Rattle.std.specs.List.{list_all, list_any}
use Rattle.std.proofs.lemmas.Bool.{cases_eq, cases_lt, ne_eqb}
use Rattle.std.proofs.lemmas.List.Folds.{list_all-append, list_any-append}
use Rattle.std.proofs.lemmas.List.Folds.{list_any_at}
use Rattle.std.proofs.lemmas.List.FromFn.{get_or-map-range_with_len}
use Rattle.rack.specs.Targets.{Target, is_at, target}
use Rattle.array_image.specs.Record.{is_target, are_apart}
use Rattle.log_laws.specs.Bytes.{target_in, targets_in}
use Rattle.log_laws.proofs.Targets.{no_targets, targets_more, length_targets}

and_true : (b : Bool) → (b && true) ≡ b
and_true true = refl
and_true false = refl

or_false : (b : Bool) → (b || false) ≡ b
or_false true = refl
or_false false = refl

and_swap : (a b c : Bool) → (a && (b && c)) ≡ ((a && b) && c)
and_swap true b c = refl
and_swap false b c = refl

-- a test of the first targets that has failed fails for more
pub failed : (q t : ℕ → Bool) (k n : ℕ) → ((j : ℕ) → q (j + 1) ≡ (q j && t j)) → k ≤ n → q k ≡ false → q n ≡ false
failed q t k zero step le is = let same : k ≡ 0 = omega (arith, le) in ap q (sym same) ∙ is
failed q t k (suc n) step le is =
    let one : suc n ≡ n + 1 = omega arith in
    elim (cases_lt n k) [
      | inl last ↦ let same : suc n ≡ k = omega (arith, last, le) in ap q same ∙ is
      | inr more ↦ ap q one ∙ step n ∙ ap (λ b. b && t n) (failed q t k n step more is)
    ]

-- ---- valid ones

pub all_more : (bytes : List ℕ) (k : ℕ) → list_all is_target (targets_in bytes (k + 1)) ≡ (list_all is_target (targets_in bytes k) && is_target (target_in bytes k))
all_more bytes k =
    ap (list_all is_target) (targets_more bytes k) ∙ list_all-append is_target (targets_in bytes k) (target_in bytes k ∷ [])
    ∙ ap (λ b. list_all is_target (targets_in bytes k) && b) (and_true (is_target (target_in bytes k)))

pub all_none : (bytes : List ℕ) → list_all is_target (targets_in bytes 0) ≡ true
all_none bytes = ap (list_all is_target) (no_targets bytes)

-- ---- targets apart

pub any_more : (bytes : List ℕ) (k d s : ℕ) → list_any (is_at d s) (targets_in bytes (k + 1)) ≡ (list_any (is_at d s) (targets_in bytes k) || is_at d s (target_in bytes k))
any_more bytes k d s =
    ap (list_any (is_at d s)) (targets_more bytes k) ∙ list_any-append (is_at d s) (targets_in bytes k) (target_in bytes k ∷ [])
    ∙ ap (λ b. list_any (is_at d s) (targets_in bytes k) || b) (or_false (is_at d s (target_in bytes k)))

pub any_none : (bytes : List ℕ) (d s : ℕ) → list_any (is_at d s) (targets_in bytes 0) ≡ false
any_none bytes d s = ap (list_any (is_at d s)) (no_targets bytes)

eqb_swap : (m n : ℕ) → (m == n) ≡ (n == m)
eqb_swap m n =
    elim (cases_eq m n) [
      | inl same ↦ eq-eqb m n same ∙ sym (eq-eqb n m (sym same))
      | inr other ↦ ne_eqb m n other ∙ sym (ne_eqb n m (λ same. other (sym same)))
    ]

at_swap : (x y : Target) → is_at x.disk x.sector y ≡ is_at y.disk y.sector x
at_swap x y = ap₂ (λ a b. a && b) (eqb_swap y.disk x.disk) (eqb_swap y.sector x.sector)

-- one more at the end
apart_end : (xs : List Target) (t : Target) → are_apart (xs ++ t ∷ []) ≡ (are_apart xs && not (list_any (is_at t.disk t.sector) xs))
apart_end [] t = refl
apart_end (x ∷ xs) t =
    ap₂ (λ a b. not a && b)
    (list_any-append (is_at x.disk x.sector) xs (t ∷ []) ∙ ap (λ b. list_any (is_at x.disk x.sector) xs || b) (or_false (is_at x.disk x.sector t) ∙ at_swap x t))
    (apart_end xs t)
    ∙ joined (list_any (is_at x.disk x.sector) xs) (is_at t.disk t.sector x) (are_apart xs) (list_any (is_at t.disk t.sector) xs)
  where
    joined : (a b c d : Bool) → (not (a || b) && (c && not d)) ≡ ((not a && c) && not (b || d))
    joined true b c d = refl
    joined false true true d = refl
    joined false true false d = refl
    joined false false c d = refl

pub apart_more : (bytes : List ℕ) (k : ℕ)
    → are_apart (targets_in bytes (k + 1)) ≡ (are_apart (targets_in bytes k) && not (list_any (is_at (target_in bytes k).disk (target_in bytes k).sector) (targets_in bytes k)))
apart_more bytes k = ap are_apart (targets_more bytes k) ∙ apart_end (targets_in bytes k) (target_in bytes k)

pub apart_none : (bytes : List ℕ) → are_apart (targets_in bytes 0) ≡ true
apart_none bytes = ap are_apart (no_targets bytes)

pub any_at : (bytes : List ℕ) (n k d s : ℕ) → k < n → is_at d s (target_in bytes k) ≡ true → list_any (is_at d s) (targets_in bytes n) ≡ true
unfolding targets_in
any_at bytes n k d s below is =
    let none : Target = target 0 0 [] in
    list_any_at (is_at d s) (targets_in bytes n) k none (omega (arith, length_targets bytes n, below))
    (ap (is_at d s) (get_or-map-range_with_len (target_in bytes) 0 n k k none below (omega arith)) ∙ is)
