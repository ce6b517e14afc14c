use Rattle.gpt_table.proofs.Same.{tables_same}
use Rattle.gpt_table.proofs.settling.are_same.Goals as goal

pub returns : goal.returns
returns c = tables_same c.args.first.now c.args.second.now c.eq.result c.eq.ensures
