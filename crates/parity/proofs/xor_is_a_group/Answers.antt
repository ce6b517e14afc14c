use Rattle.parity.proofs.Laws.{xor_is_a_group}
use Rattle.parity.proofs.xor_is_a_group.Goals as goal

pub returns : goal.returns
returns c = xor_is_a_group
