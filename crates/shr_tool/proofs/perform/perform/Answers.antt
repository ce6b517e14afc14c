-- Commands that call nothing, and one that may grow the pool.
use Rattle.std.proofs.Common.{rules, ◌++◌, codes, refl, sym, ◌∙◌, ap, inl, Ok}
use Rattle.std.specs.Prelude.{decimal}
use Rattle.shr_script.specs.declared.Command.TheVariants.{Size, Quit}
use Rattle.shr_script.specs.Reply.{as_line}
use Rattle.shr_tool.specs.Events.Event.{answered, shown}
use Rattle.pool.proofs.Serving.{sound_in}
use Rattle.shr_tool.proofs.Performing.{still_done}
use Rattle.shr_tool.proofs.Shown.{show_done}
use Rattle.shr_tool.proofs.perform.perform.Goals as goal

pub returns-in-Size-clause-answers : goal.returns-in-Size-clause-answers
returns-in-Size-clause-answers g c =
    rw c.in-Size.is
    (inl (record {
      event = answered (Ok Size);
      line_is = refl;
      answer_is = refl;
      performs =
          still_done _ (Ok Size) _ c.requires (sound_in g.R.Rack.seen g.R.Bay.shelf g.met.R.Rack.sound c.args.pool.now c.requires)
          (λ s touches. touches) (λ s touches. touches) (λ place loses. cc) tt (λ a holds. refl)
          (λ a sized. c.size_reply.ensures ∙ ap (λ n. as_line (codes "size " ++ decimal n)) (c.size.ensures.size ∙ sym sized));
    }))

pub returns-in-Status-clause-answers : goal.returns-in-Status-clause-answers
returns-in-Status-clause-answers g c =
    rw c.in-Status.is
    (inl (record {
      event = shown _;
      line_is = refl;
      answer_is = refl;
      performs = show_done _ _ c.requires (sound_in g.R.Rack.seen g.R.Bay.shelf g.met.R.Rack.sound c.args.pool.now c.requires) c.show.ensures;
    }))

pub returns-in-Quit-clause-answers : goal.returns-in-Quit-clause-answers
returns-in-Quit-clause-answers g c =
    rw c.in-Quit.is
    (inl (record {
      event = answered (Ok Quit);
      line_is = refl;
      answer_is = refl;
      performs =
          still_done _ (Ok Quit) _ c.requires (sound_in g.R.Rack.seen g.R.Bay.shelf g.met.R.Rack.sound c.args.pool.now c.requires)
          (λ s touches. touches) (λ s touches. touches) (λ place loses. cc) tt (λ a holds. refl)
          (λ a sized. search rules);
    }))

pub returns-in-Replace-clause-answers : goal.returns-in-Replace-clause-answers
returns-in-Replace-clause-answers g c = rw c.in-Replace.is c.perform_replace.ensures.answers
