use Rattle.std.proofs.Common.{List, [], ap, arith}
use Rattle.std.specs.List.{flat_map}
use Rattle.growth_plan.specs.declared.ArrayNow.{ArrayNow}
use Rattle.growth_plan.specs.Book.{standing}
use Rattle.growth_plan.specs.Tally.{Appends}
use Rattle.growth_plan.specs.Works.{resyncs, rebuilds, growths, works_left}
use Rattle.growth_plan.proofs.Appending.{appends_both, appends_same}
use Rattle.growth_plan.proofs.Counts.{few_works}
use Rattle.growth_plan.proofs.works.tally.Goals as goal

pub returns : goal.returns
returns c =
    let s = c.args.state.now in
    let p = c.args.progress.now in
    let arrays = p.arrays.items in
    let t0 = c.new-tally.result in
    let t1 = c.append_resyncs.new.tally in
    let t2 = c.append_rebuilds.new.tally in
    let t3 = c.append_growths.new.tally in
    let t4 = c.append_makes.new.tally in
    let t5 = c.append_end.new.tally in
    let first : Appends t0 t1 (flat_map resyncs (standing arrays)) =
    appends_same t0 t1 _ _ c.append_resyncs.ensures (ap (λ (xs : List ArrayNow). flat_map resyncs (standing xs)) c.deref.ensures.0) in
    let second : Appends t1 t2 (flat_map (rebuilds s) (standing arrays)) =
    appends_same t1 t2 _ _ c.append_rebuilds.ensures (ap (λ (xs : List ArrayNow). flat_map (rebuilds s) (standing xs)) c.deref-2.ensures.0) in
    let third : Appends t2 t3 (flat_map (growths s) (standing arrays)) =
    appends_same t2 t3 _ _ c.append_growths.ensures (ap (λ (xs : List ArrayNow). flat_map (growths s) (standing xs)) c.deref-3.ensures.0) in
    let end = appends_both t3 t4 t5 _ _ c.append_makes.ensures c.append_end.ensures in
    let whole : Appends t0 t5 (works_left s p) =
    appends_both t0 t1 t5 _ _ first (appends_both t1 t2 t5 _ _ second (appends_both t2 t3 t5 _ _ third end)) in
    let is = whole.all [] c.new-tally.ensures in
    record { first = is.first; count = omega (arith, is.count, few_works s p c.requires) }
