-- The last value of each sector, sector by sector.
use Rattle.std.proofs.Common.{◌≢◌, ◌<◌, length, refl, ◌∙◌, ap, arith, below_more}
use Rattle.std.proofs.lemmas.Grind.{common_steps}
use Rattle.flat_array.specs.Disk.{last_alone}
use Rattle.flat_array.proofs.Keeping.{items_at, items_at-set_same, items_at-set_other, items_at-get_or, Holds-flushed}
use Rattle.flat_array.proofs.disk.FlatDisk.flush.Goals as goal

pub loop-kept-init : goal.loop-kept-init
loop-kept-init c =
    record { size = refl; passed = λ s below. absurd (omega (arith, below)); others = λ s past. refl }

pub loop-kept-preserved : goal.loop-kept-preserved
loop-kept-preserved c =
    let before = c.deref_mut-kept-items.result.now in
    let now = c.loop-kept.kept-items in
    let at = c.loop-kept.kept-index in
    let kept = c.keep_last.new.values in
    let within : at < length now = omega (arith, c.loop-kept-test.true, c.loop-kept.invariant.size) in
    record {
      size = grind (arith, common_steps, c.loop-kept.invariant.size);
      passed =
          below_more _ _
          (λ s below.
          let other : s ≢ at = omega (arith, below) in
          items_at-set_other now at s kept other ∙ c.loop-kept.invariant.passed s below)
          (items_at-set_same now at kept within
          ∙ (c.keep_last.ensures
          ∙ ap last_alone (items_at-get_or now at c.kept-item.result within ∙ c.loop-kept.invariant.others at (omega arith))));
      others =
          λ s past.
          let other : s ≢ at = omega (arith, past) in
          items_at-set_other now at s kept other ∙ c.loop-kept.invariant.others s (omega (arith, past));
    }

pub returns : goal.returns
returns c =
    λ a holds.
    let old = c.args.self.now in
    let same = c.deref_mut-kept-items.ensures.value in
    Holds-flushed old c.loop-kept.kept-items a (c.loop-kept.invariant.size ∙ ap length same)
    (λ s within.
    let below : s < c.loop-kept.kept-index = omega (arith, c.loop-kept-test.false, within, ap length same) in
    c.loop-kept.invariant.passed s below ∙ ap (λ sectors. last_alone (items_at sectors s)) same)
    holds
