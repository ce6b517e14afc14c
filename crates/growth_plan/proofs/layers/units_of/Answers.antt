use Rattle.std.proofs.Common.{ℕ, List, ◌^◌, ◌<◌, All, map, subst, sym, ap, ◌∙◌, take_all}
use Rattle.pool_state.specs.declared.contents.Drive.{Drive}
use Rattle.growth_plan.proofs.Books.{units_small}
use Rattle.growth_plan.proofs.layers.units_of.Goals as goal

pub returns-clause-small : goal.returns-clause-small
returns-clause-small c =
    let small = units_small c.args.state.now c.requires in
    let all : List Drive = c.as_slice-drive-items.result.now in
    let whole = take_all c.loop-drive.drive-index all c.loop-drive-test.false in
    subst (λ (xs : List ℕ). All (λ own. own < 2 ^ 41) xs)
    (ap (λ (ds : List Drive). map (λ drive. drive.units) ds) (sym (whole ∙ c.as_slice-drive-items.ensures.value)) ∙ sym c.loop-drive.invariant) small
