-- Works of maintenance are an event.
use Rattle.std.proofs.Common.{refl, sym}
use Rattle.shr_tool.specs.Events.Event.{stepped, stuck}
use Rattle.shr_tool.proofs.Stepped.{step_done, step_stuck}
use Rattle.shr_tool.proofs.perform.maintain.Goals as goal

pub returns-in-Ok-clause-answers : goal.returns-in-Ok-clause-answers
returns-in-Ok-clause-answers g c =
    record {
      event = stepped c.args.count c.in-Ok.left;
      line_is = refl;
      answer_is = refl;
      performs = step_done _ _ _ _ _ _ c.in-Ok.is c.left_reply.ensures c.requires.none c.step.ensures.steps;
    }

pub returns-in-Err-clause-answers : goal.returns-in-Err-clause-answers
returns-in-Err-clause-answers g c =
    record {
      event = stuck c.args.count c.in-Err.stuck.array;
      line_is = refl;
      answer_is = sym c.stuck_reply.ensures.answer;
      performs = step_stuck _ _ _ _ _ _ c.in-Err.is c.stuck_reply.ensures.text c.requires.none c.step.ensures.steps;
    }
