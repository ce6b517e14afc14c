use Rattle.std.proofs.Common.{◌≡◌, ◌++◌, ◌∷◌, [], ◌+◌, List, Some, drop, length, slice_get, ap, subst, sym, ◌∙◌, inl, inr, lit<, arith}
use Rattle.array_model.specs.View.{View, IsArray}
use Rattle.pool_format.specs.declared.planning.NewArray.{NewArray}
use Rattle.pool_format.specs.Arrays.{new_view, new_views}
use Rattle.pool_format.proofs.Lists.{append_none, drop_at, drop_past, got, got_more, length_snoc, snoc_append}
use Rattle.pool_format.proofs.arrays.new_arrays.Goals as goal

pub loop-number-preserved : goal.loop-number-preserved
loop-number-preserved c =
    let arrays = c.args.plan.now.arrays.items in
    let birth = c.args.birth.now in
    let n = c.loop-number.number in
    let one = got arrays n (omega (arith, c.loop-number-test.true, c.len-number-end.ensures.value)) in
    let rest : List View = new_views birth (n + 1) (drop (n + 1) arrays) in
    record {
      made =
          ap (λ (xs : List View). xs ++ rest) (c.push.ensures.items ∙ ap (λ (v : View). c.loop-number.arrays.items ++ v ∷ []) (c.new_array.ensures.made one.0 one.1))
          ∙ snoc_append c.loop-number.arrays.items (new_view birth one.0 n) rest
          ∙ ap (λ (bs : List NewArray). c.loop-number.arrays.items ++ new_views birth n bs) (sym (drop_at arrays n one.0 one.1))
          ∙ c.loop-number.invariant.made;
      are = λ n v at. elim (got_more c.loop-number.arrays.items c.new_array.result n v (subst (λ (xs : List View). slice_get xs n ≡ Some v) c.push.ensures.items at)) [
        | inl before ↦ c.loop-number.invariant.are n v before
        | inr last ↦ subst IsArray last c.new_array.ensures.is_array
      ];
      many = ap (λ (xs : List View). length xs) c.push.ensures.items ∙ length_snoc c.loop-number.arrays.items c.new_array.result ∙ ap (λ k. k + 1) c.loop-number.invariant.many;
    }

pub push-requires : goal.push-requires
push-requires c = let few = c.requires.plan.few in (lit< tt, omega (arith, c.loop-number.invariant.many, c.loop-number-test.true, c.len-number-end.ensures.value, few))

pub returns-clause-made : goal.returns-clause-made
returns-clause-made c =
    let arrays = c.args.plan.now.arrays.items in
    let birth = c.args.birth.now in
    let n = c.loop-number.number in
    sym (append_none c.loop-number.arrays.items)
    ∙ ap (λ (bs : List NewArray). c.loop-number.arrays.items ++ new_views birth n bs) (sym (drop_past arrays n (omega (arith, c.loop-number-test.false, c.len-number-end.ensures.value))))
    ∙ c.loop-number.invariant.made
