use Rattle.std.proofs.Common.{◌≡◌, [], ◌∷◌, ◌++◌, ◌+◌, ◌-◌, ◌*◌, ℕ, List, drop, length, map, ap, sym, ◌∙◌, ◌≤◌, arith}
use Rattle.pool_format.specs.declared.planning.NewArray.{NewArray}
use Rattle.std.proofs.Math.Nat.{mul-le-mul_right}
use Rattle.pool_format.proofs.Opening.{members_few}
use Rattle.pool_format.proofs.Lists.{drop_at, length_snoc, snoc_append}
use Rattle.pool_format.proofs.volume.sizes_of.Goals as goal

pub loop-number-preserved : goal.loop-number-preserved
loop-number-preserved c =
    let arrays = c.args.plan.now.arrays.items in
    let n = c.loop-number.number in
    let a = c.array_at-array.result.now in
    let f : NewArray → ℕ = λ b. (length b.members.items - 1) * b.size in
    let rest : List ℕ = map f (drop (n + 1) arrays) in
    let items = c.push.ensures.items ∙ ap (λ n. c.loop-number.sizes.items ++ ((n - 1) * a.size) ∷ []) c.len.ensures.value in
    record {
      made =
          ap (λ (xs : List ℕ). xs ++ rest) items
          ∙ snoc_append c.loop-number.sizes.items (f a) rest
          ∙ ap (λ (bs : List NewArray). c.loop-number.sizes.items ++ map f bs) (sym (drop_at arrays n a c.array_at-array.ensures))
          ∙ c.loop-number.invariant.made;
      many = ap (λ (xs : List ℕ). length xs) items ∙ length_snoc c.loop-number.sizes.items (f a) ∙ ap (λ k. k + 1) c.loop-number.invariant.many;
    }

pub overflow_sub-len : goal.overflow_sub-len
overflow_sub-len c = let least = (c.requires.each c.loop-number.number c.array_at-array.result.now c.array_at-array.ensures).least in omega (arith, least, c.len.ensures.value)

pub overflow_mul-len : goal.overflow_mul-len
overflow_mul-len c =
    let a = c.array_at-array.result.now in
    let array = c.requires.each c.loop-number.number a c.array_at-array.ensures in
    let few = members_few a c.args.plan.now.extent (length c.args.plan.now.units.items) array c.requires.most in
    let less : length a.members.items - 1 ≤ 15 = omega (arith, few) in
    let most = mul-le-mul_right a.size less in
    let small = array.small in
    let many : c.len.result - 1 ≡ length a.members.items - 1 = ap (λ n. n - 1) c.len.ensures.value in
    let same = ap (λ n. n * a.size) many in
    omega (arith, most, small, same)
