-- A name is refused, or all are attached and the pool is opened on their disks.
use Rattle.std.proofs.Common.{inl, inr}
use Rattle.shr_tool.specs.Run.PoolOutcome.{name_refused, not_asked, on_disks}
use Rattle.shr_tool.proofs.opening.open_for.Goals as goal

pub returns-in-Ok-clause-outcome : goal.returns-in-Ok-clause-outcome
returns-in-Ok-clause-outcome g c =
    λ source sink.
    elim (c.open_online.ensures.outcome source sink) [
      | inl none ↦ not_asked (record { attached = c.attach_all.new.bay; are = c.in-Ok.ensures.attached; outcome = none })
      | inr online ↦ on_disks (record { attached = c.attach_all.new.bay; are = c.in-Ok.ensures.attached; outcome = online })
    ]

pub returns-in-Err-clause-outcome : goal.returns-in-Err-clause-outcome
returns-in-Err-clause-outcome g c =
    λ source sink.
    name_refused (record { number = _; fault = _; cause = c.in-Err.ensures.unattached; says = c.refuse_name.ensures.says sink })
