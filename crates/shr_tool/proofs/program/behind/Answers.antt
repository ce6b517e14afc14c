use Rattle.std.proofs.lemmas.List.{take_rest}
use Rattle.shr_tool.proofs.program.behind.Goals as goal

pub returns : goal.returns
returns c = take_rest c.args.words.now c.args.first
