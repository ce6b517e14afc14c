use Rattle.std.proofs.Common.{◌++◌, codes, ◌∙◌, ap}
use Rattle.std.specs.Prelude.{decimal}
use Rattle.shr_tool.proofs.showing.add_plan.Goals as goal

pub returns-in-Replace-clause-items : goal.returns-in-Replace-clause-items
returns-in-Replace-clause-items c =
    rw c.in-Replace.is
    (c.add_field-in-Replace.ensures.items ∙ ap (λ n. c.args.text.now.items ++ (codes "plan replace " ++ decimal n)) c.from-in-Replace.ensures)
