use Rattle.std.proofs.Common.{ℕ, ◌*◌, ◌/◌, ◌∙◌, length, get_or, bit_xor, ap, arith, inl, inr}
use Rattle.std.proofs.lemmas.Bool.{cases_lt}
use Rattle.parity.proofs.Kernel.{xored_whole}
use Rattle.parity.proofs.xor_into.Goals as goal

pub returns : goal.returns
returns c =
    xored_whole c.args.a.now c.args.b.now c.xor_rest.new.a (omega arith) c.requires
    (λ k low. elim (cases_lt k (length c.args.a.now / 64 * 64)) [
      | inl h ↦ c.xor_rest.ensures.below k h ∙ c.loop-block.invariant.xored k (omega arith)
      | inr h ↦
          c.xor_rest.ensures.above k h (omega arith)
          ∙ ap (λ (v : ℕ). bit_xor v (get_or c.args.b.now k 0)) (c.loop-block.invariant.left k (omega arith))
    ])
