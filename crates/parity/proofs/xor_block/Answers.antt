use Rattle.parity.proofs.Kernel.{below_block, in_block, above_block}
use Rattle.parity.proofs.xor_block.Goals as goal

pub returns-clause-below : goal.returns-clause-below
returns-clause-below c = below_block c.args.a.now c.args.b.now c.args.at

pub returns-clause-block : goal.returns-clause-block
returns-clause-block c = in_block c.args.a.now c.args.b.now c.args.at c.requires.within c.requires.lengths

pub returns-clause-above : goal.returns-clause-above
returns-clause-above c = above_block c.args.a.now c.args.b.now c.args.at c.requires.within c.requires.lengths
