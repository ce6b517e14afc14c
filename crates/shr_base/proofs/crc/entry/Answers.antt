-- An entry of the tables is what their rule says.
use Rattle.shr_base.proofs.Tables.{entry_is}
use Rattle.shr_base.proofs.crc.entry.Goals as goal

pub returns : goal.returns
returns c = entry_is c.args.table c.args.byte c.requires c.ranges.byte.fits
