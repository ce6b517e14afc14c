use Rattle.std.proofs.Common.{refl, Ok}
use Rattle.shr_script.specs.declared.Command.TheVariants.{Flush}
use Rattle.shr_tool.specs.Events.Event.{answered}
use Rattle.shr_tool.proofs.Performing.{flush_done}
use Rattle.shr_tool.proofs.perform.perform_flush.Goals as goal

pub returns-clause-answers : goal.returns-clause-answers
returns-clause-answers g c =
    record {
      event = answered (Ok Flush);
      line_is = refl;
      answer_is = refl;
      performs = flush_done _ _ _ c.line_reply.ensures c.flush.ensures.flushes;
    }
