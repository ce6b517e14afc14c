-- Zeros at the end are passed over one by one.
use Rattle.std.proofs.Common.{arith, ap, length}
use Rattle.std.proofs.lemmas.List.{take_all}
use Rattle.shr_script.specs.Reply.{without_zeros}
use Rattle.shr_script.specs.Trimming.{trimmed-zero, trimmed-other, trimmed-none}
use Rattle.flat_array.proofs.disk.without_zeros.Goals as goal
use Rattle.flat_array.proofs.disk.without_zeros.Goals.{then-loop-count-test+else-bytes-count-eq0, else-loop-count-test}

pub loop-count-init : goal.loop-count-init
loop-count-init c =
    record {
      same = ap without_zeros (take_all (length c.args.bytes.now) c.args.bytes.now (omega arith));
      within = omega arith;
    }

pub loop-count-preserved : goal.loop-count-preserved
loop-count-preserved c =
    record {
      same =
          trimmed-zero c.args.bytes.now c.loop-count.count (omega arith) (omega arith) c.if-bytes-count-eq0.true
          c.loop-count.invariant.same;
      within = omega arith;
    }

pub returns : goal.returns
returns c =
    elim c.loop-count-test.branch [
      | then-loop-count-test+else-bytes-count-eq0 w ↦
          trimmed-other c.args.bytes.now c.loop-count.count (omega arith) (omega arith) w.if-bytes-count-eq0.false
          c.loop-count.invariant.same
      | else-loop-count-test w ↦
          trimmed-none c.args.bytes.now c.loop-count.count (omega arith) c.loop-count.invariant.same
    ]
