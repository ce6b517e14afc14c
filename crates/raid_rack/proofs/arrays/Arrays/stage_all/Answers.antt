use Rattle.std.proofs.Common.{◌≡◌, ◌<◌, length, ap, refl, subst, ◌∙◌, arith}
use Rattle.log_laws.specs.View.{LogView}
use Rattle.array_core.specs.Staging.{AddsSupersOf}
use Rattle.array_model.specs.View.{IsArray, View}
use Rattle.raid_rack.specs.declared.arrays.Arrays.{Arrays}
use Rattle.raid_rack.specs.RaidRack.{no_array, raid_by}
use Rattle.raid_laws.proofs.Settling.{staged_more}
use Rattle.raid_rack.proofs.Steps.{same_element}
use Rattle.raid_rack.proofs.arrays.Arrays.stage_all.Goals as goal

pub loop-number-preserved : goal.loop-number-preserved
loop-number-preserved c =
    let v = raid_by c.args.self.now in
    let n = c.loop-number.number in
    let inv = c.loop-number.invariant in
    let all = ap (λ (a : Arrays). a.all.items) inv.rest in
    let end = c.len-number-end.ensures.value in
    let low = c.loop-number-test.true in
    let few = c.requires.few in
    let below : n < length c.args.self.now.all.items = omega (arith, low, end) in
    let view : c.index-deref-number.result ≡ v.arrays n =
    c.index-deref-number.is ∙ same_element c.deref.result.now c.args.self.now.all.items n _ no_array (c.deref.ensures.0 ∙ all) below in
    record {
      staged = staged_more v v n c.loop-number.self.log.added c.stage_own.new.log.added (omega (arith, below, few))
          (λ k less. c.requires.numbers k (omega (arith, less, below))) (λ k other. refl) (c.requires.numbers n below) (subst IsArray view c.rules.ensures) inv.staged
          (subst (λ (u : View). AddsSupersOf u c.loop-number.self.log.added c.stage_own.new.log.added) view c.stage_own.ensures.added) (c.requires.unmarked n below);
      rest =
          ap (λ (a : Arrays). record a { log = c.stage_own.new.log }) inv.rest
          ∙ ap (λ (l : LogView). record c.args.self.now { log = l })
          (c.stage_own.ensures.log ∙ ap (λ (a : Arrays). record a.log { added = c.stage_own.new.log.added }) inv.rest);
    }
