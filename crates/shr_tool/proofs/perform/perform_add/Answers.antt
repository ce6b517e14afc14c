use Rattle.shr_tool.proofs.Added.{add_declined, add_done}
use Rattle.shr_tool.proofs.perform.perform_add.Goals as goal

pub returns-in-Ok-clause-grows : goal.returns-in-Ok-clause-grows
returns-in-Ok-clause-grows g c = add_done _ _ c.args.name.now c.as_str.result.now _ _ c.as_str.ensures c.in-Ok.is c.line_reply.ensures c.add.ensures.adds

pub returns-in-Err-clause-grows : goal.returns-in-Err-clause-grows
returns-in-Err-clause-grows g c =
    add_declined _ _ c.args.name.now c.as_str.result.now _ _ _ c.in-Err.fault c.as_str.ensures c.in-Err.is c.decline_reply.ensures.answer
    c.decline_reply.ensures.text c.add.ensures.adds
