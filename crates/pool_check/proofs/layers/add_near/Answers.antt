use Rattle.std.proofs.Common.{◌≡◌, ℕ, ◌+◌, ◌^◌, Bool, List, map, Some, None, if◌then◌else◌, ap, ap₂, sym, ◌∙◌, refl, subst, arith}
use Rattle.std.specs.Prelude.{length, nat_lt}
use Rattle.std.specs.List.{range_with_len}
use Rattle.array_image.specs.Places.{data_sector}
use Rattle.array_core.specs.declared.Found.{Found as FoundSuper}
use Rattle.array_core.specs.Opening.{opened, super_at as super_found}
use Rattle.pool_check.specs.Founded.{is_stale}
use Rattle.pool_check.specs.Drives.{found_with}
use Rattle.pool_check.specs.Layers.{IsNext, Opens, extent_by, sights_by}
use Rattle.pool_check.specs.declared.Layer.{Layer}
use Rattle.pool_check.specs.Slots.{AreMatched, IsBehind}
use Rattle.pool_check.proofs.Slotted.{opens_keeps}
use Rattle.pool_check.proofs.Adding.{found_from, length_more, more_layers, more_opened, near_layer, near_next, next_near, next_same, opens_kept}
use Rattle.pool_check.proofs.Founded.{founded_more}
use Rattle.pool_check.proofs.layers.add_near.Goals as goal

pub returns-clause-kept : goal.returns-clause-kept
returns-clause-kept c =
    let kept = c.requires.kept in
    let e = c.extent_at-extent.result in
    let keeps =
    opens_keeps c.args.layers.now.opened c.open_array-fault.new.opened e c.is_stale.result c.args.number c.is_young.result c.args.found.now c.args.truth.now
    c.open_array-fault.result c.args.layers.now.all.items _ c.open_array-fault.ensures c.requires.truth kept.lengths c.sights.ensures refl
    c.extent_at-extent.ensures.sectors kept.ordered
    (subst (IsBehind c.args.layers.now.opened.extents.items) (sym c.extent_at-extent.ensures.first) c.requires.past) kept.matched in
    let more = opens_kept c.args.layers.now.opened c.open_array-fault.new.opened c.extent_at-extent.result c.is_stale.result _ c.open_array-fault.result c.open_array-fault.ensures kept.lengths kept.flags in
    record {
      count = ap length c.push.ensures.items ∙ length_more _ _ _ kept.count;
      lengths = more.0;
      flags = more.2;
      fewer = (let fewer = kept.fewer in let most = more.1 in omega (arith, fewer, most));
      near = λ first at. next_near (c.extent_at-extent.result.first + c.extent_at-extent.result.sectors) first (sym c.next_of-layers.ensures ∙ at);
      ordered = keeps.ordered;
      behind_all = λ first at.
          subst (IsBehind c.open_array-fault.new.opened.extents.items) (next_same (e.first + e.sectors) first (sym c.next_of-layers.ensures ∙ at)) keeps.past;
      matched =
          subst (λ (xs : List Layer). AreMatched xs c.open_array-fault.new.opened.arrays.items c.open_array-fault.new.opened.extents.items) (sym c.push.ensures.items)
          keeps.matched;
    }

pub returns-clause-layers : goal.returns-clause-layers
returns-clause-layers c seats o found begins few old =
    let f = found_with c.args.state.now seats o in
    let t = c.args.truth.now in
    let low = c.requires.few in
    let number = c.args.number in
    let first = c.args.first in
    let e = c.extent_at-extent.result in
    let is = found_from f number first t c.args.found.now low few found c.requires.truth in
    let sights = c.sights.ensures ∙ ap (λ found. map (sights_by t found) (range_with_len 0 16)) found in
    let lies : extent_by e ≡ record { first = first; sectors = data_sector + t.size } =
    λ i. record { first = c.extent_at-extent.ensures.first i; sectors = c.extent_at-extent.ensures.sectors i } in
    let end : e.first + e.sectors ≡ first + (data_sector + t.size) = ap₂ (λ a b. a + b) c.extent_at-extent.ensures.first c.extent_at-extent.ensures.sectors in
    let opens =
    more_opened f number first t low begins is few c.requires.near c.requires.usable c.args.layers.now.opened c.open_array-fault.new.opened e c.is_stale.result c.open_array-fault.result
    (c.is_stale.ensures ∙ ap (λ (xs : List FoundSuper). is_stale t (super_found xs)) found) lies
    (subst (λ r. Opens c.args.layers.now.opened c.open_array-fault.new.opened e c.is_stale.result r c.open_array-fault.result)
    (ap₂ (λ (young : Bool) (found : List FoundSuper). opened number young found) c.is_young.ensures found) c.open_array-fault.ensures) in
    more_layers f number c.args.layers.now _ _ c.push.ensures.items
    (near_layer f number first t low begins is few c.requires.near c.requires.usable _ e lies refl refl sights opens.0)
    opens.1
    (subst (IsNext f _) (sym (c.next_of-layers.ensures ∙ ap (λ (n : ℕ). if nat_lt n (2 ^ 48) then Some n else None) end))
    (near_next f number first t low begins is)) old

pub returns-clause-founded : goal.returns-clause-founded
returns-clause-founded c seats contents old =
    let number = c.args.number in
    founded_more c.args.state.now seats number c.args.layers.now _ c.extent_at-extent.result c.args.found.now c.args.truth.now c.open_array-fault.result _ c.is_stale.result
    contents c.requires.truth c.requires.usable c.push.ensures.items refl c.sights.ensures c.requires.kept.count c.requires.kept.flags c.is_stale.ensures old
    (subst (λ (young : Bool).
    Opens c.args.layers.now.opened c.open_array-fault.new.opened c.extent_at-extent.result c.is_stale.result (opened number young c.args.found.now) c.open_array-fault.result)
    c.is_young.ensures c.open_array-fault.ensures)
