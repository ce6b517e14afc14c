use Rattle.std.proofs.Common.{◌-◌, arith}
use Rattle.std.proofs.lemmas.Bool.{ltb-true}
use Rattle.slice_rack.proofs.shares.Goals as goal

pub returns-then-slice-gt0-clause-shared : goal.returns-then-slice-gt0-clause-shared
returns-then-slice-gt0-clause-shared c near =
    (c.args.slice.first - c.args.first, (0, ltb-true _ _ near, omega arith, omega arith))

pub returns-then-sectors-gt0-clause-shared : goal.returns-then-sectors-gt0-clause-shared
returns-then-sectors-gt0-clause-shared c near =
    (0, (c.args.first - c.args.slice.first, omega arith, ltb-true _ _ near, omega arith))
