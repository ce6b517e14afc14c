use Rattle.std.proofs.Common.{◌≡◌, ℕ, List, nat_le, true, is_some, Option, ap, ◌∙◌, arith}
use Rattle.std.proofs.lemmas.Bool.{le-leb}
use Rattle.layer_plan.specs.declared.Layer.{Layer}
use Rattle.growth_plan.specs.declared.ArrayNow.{ArrayNow}
use Rattle.growth_plan.specs.Book.{height_of}
use Rattle.growth_plan.specs.Target.{layer_above}
use Rattle.growth_plan.proofs.admission.makes_17th.Goals as goal

pub returns : goal.returns
returns c =
    let yes : nat_le 16 c.args.state.now.made ≡ true = le-leb 16 c.args.state.now.made (omega (arith, c.if-state-lt-MOST.false)) in
    rw yes
    (c.is_some.ensures ∙ ap (λ (o : Option Layer). is_some o) c.layer_above.ensures
    ∙ ap (λ (level : ℕ). is_some (layer_above c.args.units.now level)) c.height_of.ensures
    ∙ ap (λ (arrays : List ArrayNow). is_some (layer_above c.args.units.now (height_of arrays))) c.deref.ensures.0)
