use Rattle.pool_rest.proofs.Meant.{cause_meant}
use Rattle.pool_rest.proofs.standing.stand.Goals as goal

pub returns-in-Err-clause-exact : goal.returns-in-Err-clause-exact
returns-in-Err-clause-exact g c = λ told free.
    cause_meant (g.R.Rack.seen c.args.rack) (g.R.Rack.seen c.in-Err.back.rack) c.in-Err.back.why c.in-Err.ensures.refused told free
