use Rattle.shr_tool.proofs.Added.{growth_done, growth_stuck}
use Rattle.shr_tool.proofs.perform.grow.Goals as goal

pub returns-in-Ok-clause-grows : goal.returns-in-Ok-clause-grows
returns-in-Ok-clause-grows g c = growth_done _ _ _ _ _ _ _ c.requires.left c.in-Ok.is c.left_reply.ensures c.grow.ensures.grows

pub returns-in-Err-clause-grows : goal.returns-in-Err-clause-grows
returns-in-Err-clause-grows g c =
    growth_stuck _ _ _ _ c.in-Err.stuck _ _ _ c.requires.left c.in-Err.is c.stuck_reply.ensures.answer c.stuck_reply.ensures.text c.grow.ensures.grows
