use Rattle.pool.proofs.Pool.end.Goals as goal

pub returns-clause-ended : goal.returns-clause-ended
returns-clause-ended g c = c.clean.ensures.cleaned.ends
