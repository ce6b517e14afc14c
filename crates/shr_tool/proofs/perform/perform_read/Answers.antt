-- Each answer of a read is an event.
use Rattle.std.proofs.Common.{refl, sym, ◌∙◌, ap, Err, Ok}
use Rattle.shr_script.specs.declared.Command.TheVariants.{Read}
use Rattle.shr_tool.specs.Events.Event.{answered, spent}
use Rattle.shr_tool.proofs.Performing.{read_done, read_outside, read_spent}
use Rattle.shr_tool.proofs.perform.perform_read.Goals as goal

pub returns-in-Ok-clause-answers : goal.returns-in-Ok-clause-answers
returns-in-Ok-clause-answers g c =
    record {
      event = answered (Ok (Read c.args.sector));
      line_is = refl;
      answer_is = refl;
      performs = read_done _ _ _ _ _ _ c.in-Ok.is c.data_reply.ensures c.read.ensures.read;
    }

pub returns-in-Err-Range-clause-answers : goal.returns-in-Err-Range-clause-answers
returns-in-Err-Range-clause-answers g c =
    record {
      event = answered (Ok (Read c.args.sector));
      line_is = refl;
      answer_is = refl;
      performs =
          read_outside _ _ _ _ _ _ (c.in-Err-Range.is ∙ ap Err c.in-Err-Range.field-0-is) c.refused_reply.ensures c.read.ensures.read;
    }

pub returns-in-Err-Spent-clause-answers : goal.returns-in-Err-Spent-clause-answers
returns-in-Err-Spent-clause-answers g c =
    record {
      event = spent (Ok (Read c.args.sector)) c.args.sector;
      line_is = refl;
      answer_is = sym c.spent_reply.ensures.answer;
      performs =
          read_spent _ _ _ _ _ _ (c.in-Err-Spent.is ∙ ap Err c.in-Err-Spent.field-0-is) c.spent_reply.ensures.text c.read.ensures.read;
    }
