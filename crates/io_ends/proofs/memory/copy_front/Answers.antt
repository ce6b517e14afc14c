use Rattle.io_ends.proofs.Pieces.{takes_what_fits}
use Rattle.io_ends.proofs.memory.copy_front.Goals as goal

pub returns-clause-taken : goal.returns-clause-taken
returns-clause-taken c =
    rw c.copy_from_slice.ensures.after (takes_what_fits c.args.left.now c.args.into.now c.min-count.result c.requires c.min-count.ensures)
