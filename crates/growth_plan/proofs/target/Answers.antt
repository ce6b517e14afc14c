use Rattle.std.proofs.Common.{◌≡◌, ℕ, ◌-◌, ◌*◌, ◌≤◌, slice_index, ◌+◌, ◌<◌, ◌^◌, List, [], ◌∷◌, ◌++◌, map, take, length, sum, All, ap, sym, ◌∙◌, arith, subst, take_all, Option, append-nil}
use Rattle.std.proofs.lemmas.List.Elements.{All-push}
use Rattle.std.proofs.lemmas.List.{map-append, length-append}
use Rattle.std.specs.Option.{option_map_or}
use Rattle.layer_plan.specs.Slicing.{IsBest}
use Rattle.layer_plan.specs.declared.Layer.{Layer}
use Rattle.growth_plan.specs.declared.ArrayNow.{ArrayNow}
use Rattle.growth_plan.specs.Book.{Standing, standing, height_of, units_of}
use Rattle.growth_plan.specs.Target.{extents_at_end, targets}
use Rattle.growth_plan.proofs.Books.{height_small, height_below, height_more, sum_small, units_small, few_arrays}
use Rattle.growth_plan.proofs.Standings.{standing-more}
use Rattle.growth_plan.proofs.NewLayer.{new_layer_is, layer_extents}
use Rattle.growth_plan.proofs.Best.{targets_best}
use Rattle.growth_plan.proofs.Kept.{kept}
use Rattle.growth_plan.proofs.target.Goals as goal

pub overflow_add-top : goal.overflow_add-top
overflow_add-top c =
    let arrays = c.as_slice-array-items.result.now in
    let below = height_below arrays c.loop-array.array-index c.array-item.result c.loop-array.top
    c.loop-array-test.true c.array-item.is c.loop-array.invariant.level in
    let same = ap (λ (xs : List ArrayNow). height_of xs) c.as_slice-array-items.ensures.value in
    omega (
      arith,
      below,
      same,
      height_small c.args.progress.now.arrays.items
          (omega (arith, c.requires.made, (few_arrays c.args.state.now c.requires.valid).0)) c.requires.small,
    )

pub loop-array-preserved : goal.loop-array-preserved
loop-array-preserved c =
    let s = c.args.state.now in
    let arrays = c.as_slice-array-items.result.now in
    let x = c.array-item.result in
    let i = c.loop-array.array-index in
    let level = c.loop-array.invariant.level in
    let before : List Standing = standing (take i arrays) in
    let here : Standing = record { number = i; top = height_of (take i arrays) + x.height; now = x } in
    record {
      offered =
          c.push.ensures.items
          ∙ ap (λ (e : ℕ). c.loop-array.extents.items ++ e ∷ [])
          (c.extents_at_end.ensures.value ∙ ap (λ (l : ℕ). extents_at_end s (record { number = 0; top = l + x.height; now = x })) level)
          ∙ ap (λ (es : List ℕ). es ++ extents_at_end s here ∷ []) c.loop-array.invariant.offered
          ∙ sym (ap (λ (xs : List Standing). map (extents_at_end s) xs) (standing-more arrays i x c.loop-array-test.true c.array-item.is)
          ∙ map-append (extents_at_end s) before (here ∷ []));
      level = height_more arrays i x c.loop-array.top c.loop-array-test.true c.array-item.is level;
      count = omega (arith, c.loop-array.invariant.count, c.push.ensures.len);
      small = subst (λ (es : List ℕ). All (λ extents. extents < 2 ^ 57) es) (sym c.push.ensures.items)
          (All-push (λ extents. extents < 2 ^ 57) c.loop-array.extents.items c.extents_at_end.result c.loop-array.invariant.small
          c.extents_at_end.ensures.small);
    }

pub returns-in-Some : goal.returns-in-Some
returns-in-Some c =
    let s = c.args.state.now in
    let arrays = c.args.progress.now.arrays.items in
    let room = few_arrays s c.requires.valid in
    let is = new_layer_is s arrays c.in-Some.layer (sym c.new_layer.ensures ∙ c.in-Some.is) in
    let extents = layer_extents (units_of s) (height_of arrays) c.in-Some.layer room.2 (units_small s c.requires.valid) is.2 in
    let count = ap (λ (es : List ℕ). length es) c.push-in-Some.ensures.items in
    let all : All (λ e. e < 2 ^ 57) c.push-in-Some.new.self.items =
    subst (λ (es : List ℕ). All (λ e. e < 2 ^ 57) es) (sym c.push-in-Some.ensures.items)
    (All-push (λ e. e < 2 ^ 57) c.loop-array.extents.items c.in-Some.layer.extents c.loop-array.invariant.small extents) in
    let p = c.args.progress.now in
    let layer = c.in-Some.layer in
    let same = take_all c.loop-array.array-index c.as_slice-array-items.result.now c.loop-array-test.false ∙ c.as_slice-array-items.ensures.value in
    let are : c.push-in-Some.new.self.items ≡ targets s arrays =
    c.push-in-Some.ensures.items ∙ ap (λ (es : List ℕ). es ++ layer.extents ∷ []) c.loop-array.invariant.offered
    ∙ ap (λ (xs : List ArrayNow). map (extents_at_end s) (standing xs) ++ layer.extents ∷ []) same
    ∙ ap (λ (o : Option Layer). map (extents_at_end s) (standing arrays) ++ option_map_or (λ l. l.extents ∷ []) o [])
    (sym (sym c.new_layer.ensures ∙ c.in-Some.is)) in
    record {
      extents = are;
      small = sum_small c.push-in-Some.new.self.items
          (omega (
            arith,
            count,
            length-append c.loop-array.extents.items (c.in-Some.layer.extents ∷ []),
            c.loop-array.invariant.count,
            c.loop-array.auto,
            ap (λ (xs : List ArrayNow). length xs) c.as_slice-array-items.ensures.value,
            c.requires.made,
            is.1,
          )) all;
      kept = λ number now there. subst (λ (es : List ℕ). (length now.members.items - 1) * now.height ≤ slice_index es number) (sym are) (kept s arrays number now there);
      greatest = λ sound. subst (λ (es : List ℕ). IsBest (units_of s) (sum es)) (sym are) (targets_best s p c.requires sound);
    }

pub returns-in_default : goal.returns-in_default
returns-in_default c =
    let s = c.args.state.now in
    let p = c.args.progress.now in
    let arrays = p.arrays.items in
    let same = take_all c.loop-array.array-index c.as_slice-array-items.result.now c.loop-array-test.false ∙ c.as_slice-array-items.ensures.value in
    let ends = map (extents_at_end s) (standing arrays) in
    let are : c.loop-array.extents.items ≡ targets s arrays =
    c.loop-array.invariant.offered ∙ ap (λ (xs : List ArrayNow). map (extents_at_end s) (standing xs)) same
    ∙ sym (append-nil ends)
    ∙ ap (λ (o : Option Layer). ends ++ option_map_or (λ l. l.extents ∷ []) o []) (sym (sym c.new_layer.ensures ∙ c.in_default.is)) in
    record {
      extents = are;
      small = sum_small c.loop-array.extents.items (omega (
        arith,
        c.loop-array.invariant.count,
        c.loop-array.auto,
        ap (λ (xs : List ArrayNow). length xs) c.as_slice-array-items.ensures.value,
        c.requires.made,
        (few_arrays c.args.state.now c.requires.valid).0,
      )) c.loop-array.invariant.small;
      kept = λ number now there. subst (λ (es : List ℕ). (length now.members.items - 1) * now.height ≤ slice_index es number) (sym are) (kept s arrays number now there);
      greatest = λ sound. subst (λ (es : List ℕ). IsBest (units_of s) (sum es)) (sym are) (targets_best s p c.requires sound);
    }
