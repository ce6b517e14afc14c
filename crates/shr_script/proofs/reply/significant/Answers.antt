-- Zeros at the end are passed over one by one.
use Rattle.std.proofs.Common.{arith}
use Rattle.shr_script.specs.Trimming.{trimmed-zero, trimmed-other}
use Rattle.shr_script.proofs.reply.significant.Goals as goal

pub loop-count-init : goal.loop-count-init
loop-count-init c =
    record { same = c.without_zero_groups-count.ensures.bytes; within = c.without_zero_groups-count.ensures.within }

pub loop-count-preserved : goal.loop-count-preserved
loop-count-preserved c =
    record {
      same =
          trimmed-zero c.args.bytes.now c.loop-count.count (omega arith) (omega arith) c.if-bytes-count-eq0.true
          c.loop-count.invariant.same;
      within = omega arith;
    }

pub returns-else-bytes-count-eq0-clause-bytes : goal.returns-else-bytes-count-eq0-clause-bytes
returns-else-bytes-count-eq0-clause-bytes c =
    trimmed-other c.args.bytes.now c.loop-count.count (omega arith) (omega arith) c.if-bytes-count-eq0.false
    c.loop-count.invariant.same
