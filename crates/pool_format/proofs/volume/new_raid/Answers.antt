use Rattle.std.proofs.Common.{◌≡◌, ◌*◌, List, Some, length, slice_get, subst, sym, ◌∙◌}
use Rattle.slice_rack.specs.SliceRack.{tables}
use Rattle.array_model.specs.View.{View}
use Rattle.pool_format.specs.Slices.{AreLaid}
use Rattle.pool_format.proofs.volume.new_raid.Goals as goal

pub returns-clause-new : goal.returns-clause-new
returns-clause-new g c = record {
  state = c.new.ensures.state ∙ c.new_state-state.ensures;
  arrays = c.new.ensures.arrays ∙ c.new_arrays-arrays.ensures.made;
  are = λ n v at. c.new_arrays-arrays.ensures.are n v (subst (λ (vs : List View). slice_get vs n ≡ Some v) c.new.ensures.arrays at);
  laid = subst (λ slices. AreLaid c.args.plan.now.arrays.items (length c.args.plan.now.units.items) (17 * length c.args.plan.now.units.items) (tables slices))
      (sym c.new.ensures.slices) c.lay_slices-slices.ensures.laid;
}
