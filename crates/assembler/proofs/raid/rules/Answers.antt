use Rattle.std.proofs.Common.{◌≡◌, ◌∙◌, slice_get, Some, subst, inl, inr, arith}
use Rattle.std.proofs.lemmas.Bool.{cases_lt}
use Rattle.std.proofs.lemmas.Option.{get_or_from_slice_get, slice_get_within}
use Rattle.array_model.specs.View.{IsArray}
use Rattle.assembler.proofs.raid.rules.Goals as goal

pub loop-number-preserved : goal.loop-number-preserved
loop-number-preserved c n v low is =
    elim (cases_lt n c.loop-number.number) [
      | inl before ↦ c.loop-number.invariant n v before is
      | inr from ↦
          subst IsArray
          (c.index-arrays-number.is
          ∙ get_or_from_slice_get c.args.arrays.now c.loop-number.number v c.index-arrays-number.result
          (subst (λ k. slice_get c.args.arrays.now k ≡ Some v) (omega (arith, low, from)) is))
          c.rules.ensures
    ]

pub returns : goal.returns
returns c n v is =
    let below = slice_get_within c.args.arrays.now n v is in
    c.loop-number.invariant n v (omega (arith, below, c.loop-number-test.false)) is
