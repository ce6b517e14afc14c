use Rattle.std.proofs.Common.{◌≡◌, true, Option, IfSome, drop, subst, sym}
use Rattle.pool_state.specs.declared.contents.Work.{Work}
use Rattle.growth_plan.specs.Works.{works_left}
use Rattle.growth_plan.specs.Doing.{after, HasOneLayer, is_of_layer}
use Rattle.growth_plan.proofs.Done.{first_done}
use Rattle.growth_plan.proofs.Greatest.{one_layer}
use Rattle.growth_plan.proofs.next_work.Goals as goal

pub returns-clause-done : goal.returns-clause-done
returns-clause-done c =
    let s = c.args.state.now in
    let p = c.args.progress.now in
    subst (λ (first : Option Work). IfSome first (λ work. (is_of_layer work ≡ true → HasOneLayer s p.arrays.items) →
    works_left (after work s p).state (after work s p).progress ≡ drop 1 (works_left s p)))
    (sym c.tally.ensures.first) (first_done s p c.requires)

pub returns-clause-one_layer : goal.returns-clause-one_layer
returns-clause-one_layer c = λ sound. one_layer c.args.state.now c.args.progress.now sound
