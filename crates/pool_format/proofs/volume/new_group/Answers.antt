use Rattle.std.proofs.Common.{◌<◌, ◌^◌, ◌-◌, ◌*◌, ℕ, List, length, slice_index, sym, ap, subst, ◌∙◌, arith}
use Rattle.std.proofs.lemmas.List.{length-map}
use Rattle.lvm_group.specs.Growth.{AreBelow}
use Rattle.lvm_group.specs.Own.{HoldAll}
use Rattle.pool_format.specs.Data.{extents_of}
use Rattle.pool_format.specs.declared.planning.NewArray.{NewArray}
use Rattle.pool_format.proofs.Making.{extents_below, extents_hold, sizes_small}
use Rattle.pool_format.proofs.Units.{extent_bounds}
use Rattle.pool_format.proofs.volume.new_group.Goals as goal

pub make-requires-clause-sized : goal.make-requires-clause-sized
make-requires-clause-sized c = let least = (extent_bounds c.args.plan.now.extent c.requires.extent).0 in omega (arith, least)

pub make-requires-clause-same : goal.make-requires-clause-same
make-requires-clause-same c =
    ap length c.sizes_of.ensures ∙ length-map c.args.plan.now.arrays.items (λ (a : NewArray). (length a.members.items - 1) * a.size)
    ∙ sym (ap length c.extents_of.ensures ∙ length-map c.args.plan.now.arrays.items (λ (a : NewArray). a.extents))

pub make-requires-clause-below : goal.make-requires-clause-below
make-requires-clause-below c = subst AreBelow (sym c.extents_of.ensures) (extents_below c.args.plan.now c.requires)

pub make-requires-clause-holds : goal.make-requires-clause-holds
make-requires-clause-holds c =
    subst (HoldAll c.args.plan.now.extent (slice_index c.sizes_of.result.items) 0) (sym c.extents_of.ensures)
    (subst (λ (sizes : List ℕ). HoldAll c.args.plan.now.extent (slice_index sizes) 0 (extents_of c.args.plan.now)) (sym c.sizes_of.ensures) (extents_hold c.args.plan.now c.requires))

pub make-requires-clause-small : goal.make-requires-clause-small
make-requires-clause-small c = λ array below.
    let many = ap length c.extents_of.ensures ∙ length-map c.args.plan.now.arrays.items (λ (a : NewArray). a.extents) in
    subst (λ (sizes : List ℕ). slice_index sizes array < 2 ^ 52) (sym c.sizes_of.ensures) (sizes_small c.args.plan.now c.requires array (omega (arith, below, many)))
