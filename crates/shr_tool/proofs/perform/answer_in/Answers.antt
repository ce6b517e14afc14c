-- A line that is no command calls nothing.
use Rattle.std.proofs.Common.{Err, refl, ◌∙◌, ap, inl}
use Rattle.shr_script.specs.Reply.{refused_line}
use Rattle.shr_tool.specs.Events.Event.{answered}
use Rattle.pool.proofs.Serving.{sound_in}
use Rattle.shr_tool.proofs.Performing.{still_done}
use Rattle.shr_tool.proofs.perform.answer_in.Goals as goal

pub returns-in-Err-clause-answers : goal.returns-in-Err-clause-answers
returns-in-Err-clause-answers g c =
    let pool = c.args.pool.now in
    rw c.in-Err.is
    (inl (record {
      event = answered (Err _);
      line_is = refl;
      answer_is = refl;
      performs =
          still_done _ (Err _) _ c.requires (sound_in g.R.Rack.seen g.R.Bay.shelf g.met.R.Rack.sound pool c.requires)
          (λ s touches. touches) (λ s touches. touches) (λ place loses. cc) tt (λ a holds. refl)
          (λ a sized. c.refused_reply.ensures ∙ ap refused_line c.word_of.ensures);
    }))
