-- A name is refused, or all are attached and a pool is made of their disks.
use Rattle.shr_tool.specs.Run.CreateOutcome.{name_refused, on_disks}
use Rattle.shr_tool.proofs.making.create.Goals as goal

pub returns-in-Ok-clause-outcome : goal.returns-in-Ok-clause-outcome
returns-in-Ok-clause-outcome g c =
    λ sink.
    on_disks (record { attached = c.attach_all.new.bay; are = c.in-Ok.ensures.attached; outcome = c.create_attached.ensures.outcome sink })

pub returns-in-Err-clause-outcome : goal.returns-in-Err-clause-outcome
returns-in-Err-clause-outcome g c =
    λ sink.
    name_refused (record { number = _; fault = _; cause = c.in-Err.ensures.unattached; says = c.refuse_name.ensures.says sink })
