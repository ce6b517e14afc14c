use Rattle.std.proofs.Common.{◌≡◌, ◌∙◌, ℕ, Bool, Option, sym, ap, true, false, arith, length}
use Rattle.std.specs.Prelude.{slice_get}
use Rattle.std.specs.Option.{option_map_or}
use Rattle.lvm_group.specs.declared.parts.Part.{Part}
use Rattle.lvm_group.specs.Opening.{is_bad_with}
use Rattle.lvm_group.proofs.Answered.{got_at}
use Rattle.lvm_group.proofs.Named.{found_here, found_later}
use Rattle.lvm_group.proofs.opening.first_bad.Goals as goal

pub returns-then-is_bad : goal.returns-then-is_bad
returns-then-is_bad c =
    let test : ℕ → Bool = λ array. option_map_or (is_bad_with c.args.pool.now.0 c.args.pvs.now array) (slice_get c.args.parts.now array) false in
    let here : test c.loop-array.array ≡ true =
    ap (λ (o : Option Part). option_map_or (is_bad_with c.args.pool.now.0 c.args.pvs.now c.loop-array.array) o false) (got_at c.args.parts.now c.loop-array.array c.index-parts-array.result (omega arith) c.index-parts-array.is) ∙ sym c.is_bad.ensures ∙ c.if-is_bad.true in
    sym (found_here test c.loop-array.array (length c.args.parts.now) (omega arith) here) ∙ c.loop-array.invariant

pub loop-array-preserved : goal.loop-array-preserved
loop-array-preserved c =
    let test : ℕ → Bool = λ array. option_map_or (is_bad_with c.args.pool.now.0 c.args.pvs.now array) (slice_get c.args.parts.now array) false in
    let here : test c.loop-array.array ≡ false =
    ap (λ (o : Option Part). option_map_or (is_bad_with c.args.pool.now.0 c.args.pvs.now c.loop-array.array) o false) (got_at c.args.parts.now c.loop-array.array c.index-parts-array.result (omega arith) c.index-parts-array.is) ∙ sym c.is_bad.ensures ∙ c.if-is_bad.false in
    sym (found_later test c.loop-array.array (length c.args.parts.now) (omega arith) here) ∙ c.loop-array.invariant
