use Rattle.std.proofs.Common.{map, ap, sym, ◌∙◌, refl, arith, List, subst}
use Rattle.std.specs.Prelude.{length}
use Rattle.std.specs.List.{range_with_len}
use Rattle.array_core.specs.declared.ArrayFault.TheVariants.{TooFew}
use Rattle.pool_check.specs.Layers.{sights_by}
use Rattle.pool_check.specs.declared.Layer.{Layer}
use Rattle.pool_check.specs.Slots.{AreMatched}
use Rattle.pool_check.proofs.Slotted.{matched_layer}
use Rattle.pool_check.proofs.Adding.{far_layer, far_next, found_from, length_more, more_layers, none_differs}
use Rattle.pool_check.proofs.Layered.{far_fault}
use Rattle.pool_check.proofs.Founded.{faulty_more}
use Rattle.pool_check.proofs.layers.add_far.Goals as goal

pub returns-clause-kept : goal.returns-clause-kept
returns-clause-kept c =
    let fewer = c.requires.kept.fewer in
    record {
      count = ap length c.push.ensures.items ∙ length_more _ _ _ c.requires.kept.count;
      lengths = c.requires.kept.lengths;
      flags = c.requires.kept.flags;
      fewer = omega (arith, fewer);
      near = λ first at. none_differs first (sym at);
      ordered = c.requires.kept.ordered;
      behind_all = λ first at. none_differs first (sym at);
      matched =
          subst (λ (xs : List Layer). AreMatched xs c.args.layers.now.opened.arrays.items c.args.layers.now.opened.extents.items) (sym c.push.ensures.items)
          (matched_layer c.args.layers.now.all.items _ c.args.layers.now.opened.arrays.items c.args.layers.now.opened.extents.items c.requires.kept.matched);
    }

pub returns-clause-layers : goal.returns-clause-layers
returns-clause-layers c f first found begins few old =
    let t = c.args.truth.now in
    let low = c.requires.few in
    let is = found_from f c.args.number first t c.args.found.now low few found c.requires.truth in
    let sights = c.sights.ensures ∙ ap (λ found. map (sights_by t found) (range_with_len 0 16)) found in
    more_layers f c.args.number c.args.layers.now _ _ c.push.ensures.items
    (far_layer f c.args.number first t low begins is _ c.requires.far refl refl sights refl)
    (λ none opened. none_differs TooFew (far_fault f c.args.number first t low begins is c.requires.far ∙ none))
    (far_next f c.args.number first t low begins is c.requires.far) old

pub returns-clause-founded : goal.returns-clause-founded
returns-clause-founded c s seats = faulty_more s seats c.args.number c.args.layers.now _ _ TooFew c.push.ensures.items refl
