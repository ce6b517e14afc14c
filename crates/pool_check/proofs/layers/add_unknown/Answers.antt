use Rattle.std.proofs.Common.{ap, sym, ◌∙◌, refl, arith, List, subst}
use Rattle.std.specs.Prelude.{length}
use Rattle.array_core.specs.declared.ArrayFault.TheVariants.{Foreign}
use Rattle.pool_check.specs.declared.Layer.{Layer}
use Rattle.pool_check.specs.Slots.{AreMatched}
use Rattle.pool_check.proofs.Slotted.{matched_layer}
use Rattle.pool_check.proofs.Adding.{length_more, more_layers, none_differs, nowhere, unknown_layer}
use Rattle.pool_check.proofs.Begins.{IsUnknown}
use Rattle.pool_check.proofs.Layered.{all_strange, unknown_fault}
use Rattle.pool_check.proofs.Founded.{faulty_more}
use Rattle.pool_check.proofs.layers.add_unknown.Goals as goal

pub returns-clause-kept : goal.returns-clause-kept
returns-clause-kept c =
    let fewer = c.requires.kept.fewer in
    record {
      count = ap length c.push.ensures.items ∙ length_more _ _ _ c.requires.kept.count;
      lengths = c.requires.kept.lengths;
      flags = c.requires.kept.flags;
      fewer = omega (arith, fewer);
      near = λ first at. none_differs first (sym at);
      ordered = c.requires.kept.ordered;
      behind_all = λ first at. none_differs first (sym at);
      matched =
          subst (λ (xs : List Layer). AreMatched xs c.args.layers.now.opened.arrays.items c.args.layers.now.opened.extents.items) (sym c.push.ensures.items)
          (matched_layer c.args.layers.now.all.items _ c.args.layers.now.opened.arrays.items c.args.layers.now.opened.extents.items c.requires.kept.matched);
    }

pub returns-clause-layers : goal.returns-clause-layers
returns-clause-layers c f truth extent next old =
    let unknown : IsUnknown f c.args.number = record { truth = truth; extent = extent; next = next } in
    more_layers f c.args.number c.args.layers.now _ _ c.push.ensures.items
    (unknown_layer f c.args.number _ unknown refl refl (c.strangers.ensures ∙ all_strange f c.args.number truth 0 16) refl)
    (λ none opened. none_differs Foreign (unknown_fault f c.args.number truth ∙ none))
    (nowhere f _ next) old

pub returns-clause-founded : goal.returns-clause-founded
returns-clause-founded c s seats = faulty_more s seats c.args.number c.args.layers.now _ _ Foreign c.push.ensures.items refl
