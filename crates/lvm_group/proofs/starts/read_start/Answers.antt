use Rattle.rack.proofs.Calling.{several_one}
use Rattle.lvm_group.proofs.starts.read_start.Goals as goal

pub returns-in-Ok-clause-several : goal.returns-in-Ok-clause-several
returns-in-Ok-clause-several g c = several_one g.R.Rack.once _ _ c.in-Ok.ensures.once

pub returns-in-Err-clause-several : goal.returns-in-Err-clause-several
returns-in-Err-clause-several g c = several_one g.R.Rack.once _ _ c.in-Err.ensures.once
