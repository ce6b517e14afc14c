-- Groups of zeros at the end are passed over one by one.
use Rattle.std.proofs.Common.{◌≡◌, ◌-◌, replicate, take, drop, arith, ap, sym, subst, ◌∙◌}
use Rattle.std.proofs.lemmas.List.{take_all}
use Rattle.std.proofs.lemmas.Slice.Eq.{bytes_eq-Decides}
use Rattle.shr_script.specs.Reply.{without_zeros}
use Rattle.shr_script.specs.Trimming.{trimmed-zeros, zeros-at}
use Rattle.shr_script.proofs.reply.without_zero_groups.Goals as goal

pub loop-count-init : goal.loop-count-init
loop-count-init c =
    record { same = ap without_zeros (take_all 512 c.args.bytes.now (omega arith)); within = omega arith }

pub slice_bounds-are_zeros-end : goal.slice_bounds-are_zeros-end
slice_bounds-are_zeros-end c = let within = c.loop-count.invariant.within in let told = c.told-bytes in omega (arith, within, told)

pub loop-count-preserved : goal.loop-count-preserved
loop-count-preserved c =
    let some = c.loop-count-test.true in
    let within = c.loop-count.invariant.within in
    let told = c.told-bytes in
    let width : c.loop-count.count - (c.loop-count.count - 64) ≡ 64 = omega (arith, some) in
    let zeros : take 64 (drop (c.loop-count.count - 64) c.args.bytes.now) ≡ replicate 64 0 =
    subst (λ n. take n (drop (c.loop-count.count - 64) c.args.bytes.now) ≡ replicate 64 0) width
    ((bytes_eq-Decides _ (replicate 64 0)).0 (sym c.are_zeros.ensures ∙ c.if-are_zeros.true)) in
    record {
      same =
          trimmed-zeros c.args.bytes.now c.loop-count.count 64 some (omega (arith, within, told))
          (λ k from below. zeros-at c.args.bytes.now (c.loop-count.count - 64) 64 k zeros from (omega (arith, below, some)))
          c.loop-count.invariant.same;
      within = omega (arith, within);
    }

pub returns-else-are_zeros-clause-bytes : goal.returns-else-are_zeros-clause-bytes
returns-else-are_zeros-clause-bytes c = c.loop-count.invariant.same

pub returns-after-loop-count-clause-bytes : goal.returns-after-loop-count-clause-bytes
returns-after-loop-count-clause-bytes c = c.loop-count.invariant.same
