use Rattle.shr_tool.proofs.LayoutLemmas.{units_small}
use Rattle.shr_tool.proofs.layout.print.units_on.Goals as goal

pub returns-clause-small : goal.returns-clause-small
returns-clause-small c = rw c.units.ensures (units_small c.args.sectors c.args.extent c.requires.size c.requires.least)
