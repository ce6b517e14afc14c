use Rattle.std.proofs.Common.{subst}
use Rattle.shr_tool.specs.declared.status.Status.TheVariants.{Refused}
use Rattle.shr_tool.specs.Saying.{Says}
use Rattle.shr_tool.proofs.refusals.refuse_damaged.Goals as goal

pub returns-clause-says : goal.returns-clause-says
returns-clause-says g c =
    let taken = g.O.Sink.taken in
    λ told.
    subst (λ line. Says Refused line (taken c.args.out.now) (taken c.say.new.out) c.say.result) c.damaged_reply.ensures
    (c.say.ensures.says told)
