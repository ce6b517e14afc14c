-- Each answer of a write is an event.
use Rattle.std.proofs.Common.{refl, sym, ◌∙◌, ap, Err, Ok}
use Rattle.shr_script.specs.declared.Command.TheVariants.{Write}
use Rattle.shr_tool.specs.Events.Event.{answered, spent}
use Rattle.shr_tool.proofs.Performing.{write_done, write_outside, write_spent}
use Rattle.shr_tool.proofs.perform.perform_write.Goals as goal

pub returns-in-Ok-clause-answers : goal.returns-in-Ok-clause-answers
returns-in-Ok-clause-answers g c =
    record {
      event = answered (Ok (Write c.args.sector c.args.bytes.now));
      line_is = refl;
      answer_is = refl;
      performs = write_done _ _ _ _ _ _ c.in-Ok.is c.line_reply.ensures c.write.ensures.written;
    }

pub returns-in-Err-Range-clause-answers : goal.returns-in-Err-Range-clause-answers
returns-in-Err-Range-clause-answers g c =
    record {
      event = answered (Ok (Write c.args.sector c.args.bytes.now));
      line_is = refl;
      answer_is = refl;
      performs =
          write_outside _ _ _ _ _ _ (c.in-Err-Range.is ∙ ap Err c.in-Err-Range.field-0-is) c.refused_reply.ensures c.write.ensures.written;
    }

pub returns-in-Err-Spent-clause-answers : goal.returns-in-Err-Spent-clause-answers
returns-in-Err-Spent-clause-answers g c =
    record {
      event = spent (Ok (Write c.args.sector c.args.bytes.now)) c.args.sector;
      line_is = refl;
      answer_is = sym c.spent_reply.ensures.answer;
      performs =
          write_spent _ _ _ _ _ _ (c.in-Err-Spent.is ∙ ap Err c.in-Err-Spent.field-0-is) c.spent_reply.ensures.text c.write.ensures.written;
    }
