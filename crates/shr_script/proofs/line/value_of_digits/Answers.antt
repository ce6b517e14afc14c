use Rattle.shr_script.proofs.Parsing.{more_digits, more_small}
use Rattle.shr_script.proofs.line.value_of_digits.Goals as goal

pub loop-digit-preserved : goal.loop-digit-preserved
loop-digit-preserved c =
    rw c.from.ensures
    (record {
      value = more_digits _ _ _ c.requires.digits c.loop-digit-test.true c.loop-digit.invariant.value;
      small = more_small _ _ _ c.requires.digits c.loop-digit-test.true c.loop-digit.invariant.small;
    })
