use Rattle.rack.proofs.Calling.{several_one}
use Rattle.lvm_group.proofs.Putting.{puts_one}
use Rattle.lvm_group.proofs.writing.put.Goals as goal

pub returns-clause-puts : goal.returns-clause-puts
returns-clause-puts g c =
    puts_one c.args.array c.args.sector c.args.from.now c.write.result c.requires.array c.write.ensures.writes

pub returns-clause-several : goal.returns-clause-several
returns-clause-several g c =
    several_one g.R.Rack.once _ _ c.write.ensures.once
