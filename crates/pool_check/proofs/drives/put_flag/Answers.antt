use Rattle.std.proofs.Common.{arith}
use Rattle.pool_check.proofs.Compared.{flag_in}
use Rattle.pool_check.proofs.drives.put_flag.Goals as goal

pub returns : goal.returns
returns c = flag_in c.args.flags.now c.args.place c.args.flag (omega arith)
