use Rattle.shr_tool.proofs.refusals.refuse_plan.Goals as goal

pub returns-in-TooFew-clause-says : goal.returns-in-TooFew-clause-says
returns-in-TooFew-clause-says g c = rw c.in-TooFew.is c.refuse.ensures.says

pub returns-in-NoRoom-clause-says : goal.returns-in-NoRoom-clause-says
returns-in-NoRoom-clause-says g c = rw c.in-NoRoom.is c.refuse_number.ensures.says
