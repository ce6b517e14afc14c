-- A line keeps the bay's disks, whatever it does.
use Rattle.shr_tool.proofs.Growing.{proceeds_by}
use Rattle.shr_tool.proofs.serve.answer.Goals as goal

pub returns-in-Ok-clause-proceeds : goal.returns-in-Ok-clause-proceeds
returns-in-Ok-clause-proceeds g c = proceeds_by _ _ _ _ _ c.answer_in-answer.ensures.answers

pub returns-in-Err-clause-proceeds : goal.returns-in-Err-clause-proceeds
returns-in-Err-clause-proceeds g c = proceeds_by _ _ _ _ _ c.answer_in-answer.ensures.answers
