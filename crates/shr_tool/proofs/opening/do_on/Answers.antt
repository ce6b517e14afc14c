-- A task that grows no pool keeps the volume besides.
use Rattle.pool.proofs.Continuing.{continues_of}
use Rattle.shr_tool.proofs.opening.do_on.Goals as goal

pub returns-in-Import-clause-proceeds : goal.returns-in-Import-clause-proceeds
returns-in-Import-clause-proceeds g c = (continues_of _ _ c.import_pool.ensures.passes).proceeds

pub returns-in-Export-clause-proceeds : goal.returns-in-Export-clause-proceeds
returns-in-Export-clause-proceeds g c = (continues_of _ _ c.export_pool.ensures.passes).proceeds

pub returns-in-Trial-clause-proceeds : goal.returns-in-Trial-clause-proceeds
returns-in-Trial-clause-proceeds g c = (continues_of _ _ c.try_pool.ensures.passes).proceeds
