-- The place of the call is that of the line, or both are no place.
use Rattle.std.proofs.Common.{refl, ◌∙◌, ap, Err, Ok}
use Rattle.shr_script.specs.declared.Command.TheVariants.{Lose}
use Rattle.pool.specs.View.{book, view}
use Rattle.shr_tool.specs.Events.Event.{answered, last, lost}
use Rattle.shr_tool.proofs.LostDrive.{is_cut, kept_by, lose_done, lose_last, lose_missing}
use Rattle.shr_tool.proofs.perform.perform_lose.Goals as goal

pub returns-in-Ok-clause-answers : goal.returns-in-Ok-clause-answers
returns-in-Ok-clause-answers g c =
    record {
      event = lost c.args.place;
      line_is = refl;
      answer_is = refl;
      performs = lose_done _ _ _ _ _ _ c.requires (is_cut _ _ _ c.from.ensures c.min-place.ensures) c.in-Ok.is c.line_reply.ensures c.lose.ensures.lost;
    }

pub returns-in-Err-NoSuchDrive-clause-answers : goal.returns-in-Err-NoSuchDrive-clause-answers
returns-in-Err-NoSuchDrive-clause-answers g c =
    let refused = c.in-Err-NoSuchDrive.is ∙ ap Err c.in-Err-NoSuchDrive.field-0-is in
    let same = ap (λ pool. book (view g.R.Rack.seen g.R.Bay.shelf pool)) (kept_by _ _ refused c.lose.ensures.kept) in
    record {
      event = answered (Ok (Lose c.args.place));
      line_is = refl;
      answer_is = refl;
      performs = lose_missing _ _ _ _ _ _ c.requires (is_cut _ _ _ c.from.ensures c.min-place.ensures) refused same c.refused_reply.ensures c.lose.ensures.lost;
    }

pub returns-in-Err-LastDrive-clause-answers : goal.returns-in-Err-LastDrive-clause-answers
returns-in-Err-LastDrive-clause-answers g c =
    let refused = c.in-Err-LastDrive.is ∙ ap Err c.in-Err-LastDrive.field-0-is in
    let same = ap (λ pool. book (view g.R.Rack.seen g.R.Bay.shelf pool)) (kept_by _ _ refused c.lose.ensures.kept) in
    record {
      event = last c.args.place;
      line_is = refl;
      answer_is = refl;
      performs = lose_last _ _ _ _ _ _ c.requires (is_cut _ _ _ c.from.ensures c.min-place.ensures) refused same c.refused_reply-in-Err-LastDrive.ensures c.lose.ensures.lost;
    }
