use Rattle.shr_tool.proofs.refusals.refuse_create.Goals as goal

pub returns-in-Gone-clause-says : goal.returns-in-Gone-clause-says
returns-in-Gone-clause-says g c = rw c.in-Gone.is c.refuse_number.ensures.says
