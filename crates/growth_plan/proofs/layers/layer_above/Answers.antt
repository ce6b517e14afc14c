use Rattle.std.proofs.Common.{◌^◌, ◌<◌, sym, ◌∙◌}
use Rattle.std.proofs.lemmas.List.Elements.{All-contains}
use Rattle.growth_plan.proofs.Cuts.{least_is}
use Rattle.growth_plan.proofs.layers.layer_above.Goals as goal

pub between-layer-requires-clause-rising : goal.between-layer-requires-clause-rising
between-layer-requires-clause-rising c =
    let units = c.args.units.now in
    let cut = c.in_ok-least_above.field-0 in
    (least_is c.args.level cut units (sym c.least_above.ensures ∙ c.in_ok-least_above.was)).0

pub between-layer-requires-clause-small : goal.between-layer-requires-clause-small
between-layer-requires-clause-small c =
    let units = c.args.units.now in
    let cut = c.in_ok-least_above.field-0 in
    All-contains (λ own. own < 2 ^ 41) units cut c.requires.small (least_is c.args.level cut units (sym c.least_above.ensures ∙ c.in_ok-least_above.was)).1
