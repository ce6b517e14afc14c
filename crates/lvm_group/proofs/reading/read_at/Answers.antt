use Rattle.rack.proofs.Calling.{several_one}
use Rattle.lvm_group.proofs.reading.read_at.Goals as goal

pub returns-clause-several : goal.returns-clause-several
returns-clause-several g c = several_one g.R.Rack.once _ _ c.read.ensures.once
