use Rattle.pool.proofs.NewPools.{safely, soundly}
use Rattle.pool.proofs.Pool.create.Goals as goal

pub returns-in-Ok-clause-made : goal.returns-in-Ok-clause-made
returns-in-Ok-clause-made g c = soundly _ _ _ _ _ _ c.in-Ok.ensures.made

pub returns-in-Err-clause-some : goal.returns-in-Err-clause-some
returns-in-Err-clause-some g c = λ layout. safely _ _ _ _ (c.in-Err.ensures.some layout)
