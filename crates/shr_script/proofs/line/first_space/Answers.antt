use Rattle.shr_script.proofs.Parsing.{first_place}
use Rattle.shr_script.proofs.line.first_space.Goals as goal

pub returns : goal.returns
returns c = first_place c.args.bytes.now c.memchr.result c.memchr.ensures
