use Rattle.std.proofs.Common.{Bool, Ok, sym, subst}
use Rattle.lvm_group.specs.Writing.{Puts, blank_targets}
use Rattle.lvm_group.proofs.Calls.{several_same}
use Rattle.lvm_group.proofs.Putting.{puts_none}
use Rattle.lvm_group.proofs.writing.put_blank.Goals as goal

pub returns-then-not-blank-clause-puts : goal.returns-then-not-blank-clause-puts
returns-then-not-blank-clause-puts g c =
    subst (λ (blank : Bool). Puts (g.R.Rack.seen c.args.rack.now) (g.R.Rack.seen c.args.rack.now) (blank_targets c.args.array blank) {X = Unit {0}} (Ok tt)) (sym c.if-not-blank.true)
    (puts_none (g.R.Rack.seen c.args.rack.now) c.requires.fit)

pub returns-then-not-blank-clause-several : goal.returns-then-not-blank-clause-several
returns-then-not-blank-clause-several g c =
    several_same g.R.Rack.once 1 _
