use Rattle.std.proofs.Common.{◌≡◌, ℕ, ◌+◌, ◌<◌, ◌≤◌, ◌++◌, ◌∷◌, [], List, length, take, get_or, All, subst, sym, ap, ◌∙◌, take_all, arith}
use Rattle.std.proofs.lemmas.List.{take_more}
use Rattle.std.proofs.lemmas.List.Elements.{All-push}
use Rattle.growth_plan.specs.declared.ArrayNow.{ArrayNow}
use Rattle.growth_plan.specs.Book.{IsSmall}
use Rattle.engine_tests.proofs.growth.is_book.Goals as goal

one_more : (P : ArrayNow → Type 0) (xs : List ArrayNow) (i : ℕ) (x : ArrayNow) → i < length xs → x ≡ get_or xs i x → All P (take i xs) → P x →
    All P (take (i + 1) xs)
one_more P xs i x within is all own =
    subst (λ (ys : List ArrayNow). All P ys) (sym (take_more xs i x within ∙ ap (λ (y : ArrayNow). take i xs ++ y ∷ []) (sym is))) (All-push P (take i xs) x all own)

pub loop-array-preserved : goal.loop-array-preserved
loop-array-preserved c =
    let xs = c.as_slice-array-items.result.now in
    let i = c.loop-array.array-index in
    let x = c.array-item.result in
    record {
      pairs = one_more (λ (array : ArrayNow). 2 ≤ length array.members.items) xs i x c.loop-array-test.true c.array-item.is c.loop-array.invariant.pairs
          (c.has_small_numbers.ensures.pair c.if-not-has_small_numbers.false);
      small = one_more IsSmall xs i x c.loop-array-test.true c.array-item.is c.loop-array.invariant.small
          (c.has_small_numbers.ensures.small c.if-not-has_small_numbers.false);
    }

pub returns : goal.returns
returns c =
    let xs = c.as_slice-array-items.result.now in
    let whole = take_all c.loop-array.array-index xs c.loop-array-test.false ∙ c.as_slice-array-items.ensures.value in
    λ yes. record {
      valid = sym c.is_state_of.ensures ∙ c.if-not-is_state_of.false;
      made = omega (arith, c.len.ensures.value, c.if-len-state.false);
      pairs = subst (λ (ys : List ArrayNow). All (λ (array : ArrayNow). 2 ≤ length array.members.items) ys) whole c.loop-array.invariant.pairs;
      small = subst (λ (ys : List ArrayNow). All IsSmall ys) whole c.loop-array.invariant.small;
      extents = omega (arith, c.if-progress-ge-LIMIT.false);
    }
