use Rattle.std.proofs.Common.{◌≡◌, ◌∙◌, List, length, false, Some, Ok, Err, ap, subst, sym, unwrap_or, arith}
use Rattle.array_core.specs.declared.Found.{Found}
use Rattle.array_core.specs.declared.ArrayFault.{ArrayFault}
use Rattle.array_model.specs.View.{View}
use Rattle.array_core.specs.Opening.{opened, truth_of}
use Rattle.pool_format.specs.declared.planning.NewArray.{NewArray}
use Rattle.pool_format.specs.Arrays.{new_view, view_or_none}
use Rattle.new_array.proofs.Extents.{extent_chunks}
use Rattle.pool_format.proofs.Units.{extent_bounds}
use Rattle.pool_format.proofs.Opening.{array_opens, members_few, truth_usable}
use Rattle.pool_format.proofs.arrays.new_array.Goals as goal

pub open-requires-clause-truth : goal.open-requires-clause-truth
open-requires-clause-truth c = λ t leads.
    let plan = c.args.plan.now in
    let a = c.array_at.result.now in
    let is = c.requires.plan.each c.args.number a c.array_at.ensures in
    let chunks = extent_chunks plan.extent c.requires.plan.extent in
    truth_usable c.args.birth.now a c.args.number plan.extent (length plan.units.items) chunks.0 c.requires.plan.most is chunks.1
    (let least = (extent_bounds plan.extent c.requires.plan.extent).0 in omega (arith, least)) (members_few a plan.extent (length plan.units.items) is c.requires.plan.most) t
    (subst (λ (fs : List Found). truth_of fs ≡ Some t) (c.as_slice.ensures.value ∙ c.found_of-found.ensures) leads)

pub unreachable-requires : goal.unreachable-requires
unreachable-requires c =
    let plan = c.args.plan.now in
    let a = c.array_at.result.now in
    let is = c.requires.plan.each c.args.number a c.array_at.ensures in
    let chunks = extent_chunks plan.extent c.requires.plan.extent in
    let opens = array_opens c.args.birth.now a c.args.number plan.extent (length plan.units.items) chunks.0 c.requires.plan.most is chunks.1
    (let least = (extent_bounds plan.extent c.requires.plan.extent).0 in omega (arith, least)) (members_few a plan.extent (length plan.units.items) is c.requires.plan.most) in
    never (sym opens.2 ∙ sym (ap (λ (fs : List Found). opened c.args.number false fs) (c.as_slice.ensures.value ∙ c.found_of-found.ensures)) ∙ sym c.open.ensures ∙ c.in-Err.is)
  where
    never : {v : View} {e : ArrayFault} → Ok v ≡ Err e → ⊥
    never same = cc

pub returns-clause-made : goal.returns-clause-made
returns-clause-made c = λ a at.
    let same : c.array_at.result.now ≡ a = ap (λ o. unwrap_or o a) (sym c.array_at.ensures ∙ at) in
    ap view_or_none (sym c.in-Ok.is ∙ c.open.ensures ∙ ap (λ (fs : List Found). opened c.args.number false fs) (c.as_slice.ensures.value ∙ c.found_of-found.ensures))
    ∙ ap (λ (b : NewArray). new_view c.args.birth.now b c.args.number) same
