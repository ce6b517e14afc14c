use Rattle.parity.proofs.Laws.{parity_restores}
use Rattle.parity.proofs.parity_restores.Goals as goal

pub returns : goal.returns
returns c = parity_restores
