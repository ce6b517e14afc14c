use Rattle.shr_tool.proofs.refusals.refuse_open.Goals as goal

pub returns-in-NoPool-clause-says : goal.returns-in-NoPool-clause-says
returns-in-NoPool-clause-says g c = rw c.in-NoPool.is c.refuse.ensures.says

pub returns-in-TwoPools-clause-says : goal.returns-in-TwoPools-clause-says
returns-in-TwoPools-clause-says g c = rw c.in-TwoPools.is c.refuse-in-TwoPools.ensures.says

pub returns-in-Absent-clause-says : goal.returns-in-Absent-clause-says
returns-in-Absent-clause-says g c = rw c.in-Absent.is c.refuse_number.ensures.says

pub returns-in-Damaged-clause-says : goal.returns-in-Damaged-clause-says
returns-in-Damaged-clause-says g c = rw c.in-Damaged.is c.refuse_damaged.ensures.says

pub returns-in-TooFew-clause-says : goal.returns-in-TooFew-clause-says
returns-in-TooFew-clause-says g c = rw c.in-TooFew.is c.refuse_number-in-TooFew.ensures.says

pub returns-in-DirtyDegraded-clause-says : goal.returns-in-DirtyDegraded-clause-says
returns-in-DirtyDegraded-clause-says g c = rw c.in-DirtyDegraded.is c.refuse_number-in-DirtyDegraded.ensures.says

pub returns-in-BadVolume-clause-says : goal.returns-in-BadVolume-clause-says
returns-in-BadVolume-clause-says g c = rw c.in-BadVolume.is c.refuse_number-in-BadVolume.ensures.says
