use Rattle.std.proofs.Common.{sym}
use Rattle.sync_laws.proofs.Summing.{no_sum}
use Rattle.array_sync.proofs.rows.zero_sector.Goals as goal

pub returns : goal.returns
returns x = λ c. sym (no_sum x.args.array.now c x.args.sector)
