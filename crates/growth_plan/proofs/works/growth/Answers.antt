use Rattle.std.proofs.Common.{◌≤◌, List, length, length-append, [], ap, arith}
use Rattle.std.specs.List.{flat_map}
use Rattle.growth_plan.specs.declared.ArrayNow.{ArrayNow}
use Rattle.growth_plan.specs.Book.{standing}
use Rattle.growth_plan.specs.Tally.{Appends}
use Rattle.growth_plan.specs.Works.{growths, grows, works_left}
use Rattle.growth_plan.proofs.Appending.{appends_both, appends_same}
use Rattle.growth_plan.proofs.Counts.{few_works}
use Rattle.growth_plan.proofs.works.growth.Goals as goal

pub returns : goal.returns
returns c =
    let s = c.args.state.now in
    let p = c.args.progress.now in
    let arrays = p.arrays.items in
    let t0 = c.new-left.result in
    let t1 = c.append_growths.new.tally in
    let t2 = c.append_makes.new.tally in
    let t3 = c.append_extension.new.tally in
    let first : Appends t0 t1 (flat_map (growths s) (standing arrays)) =
    appends_same t0 t1 _ _ c.append_growths.ensures (ap (λ (xs : List ArrayNow). flat_map (growths s) (standing xs)) c.deref.ensures.0) in
    let whole : Appends t0 t3 (grows s p) =
    appends_both t0 t1 t3 _ _ first (appends_both t1 t2 t3 _ _ c.append_makes.ensures c.append_extension.ensures) in
    let is = whole.all [] c.new-left.ensures in
    let fewer : length (grows s p) ≤ length (works_left s p) = simp length-append (omega arith) in
    omega (arith, is.count, fewer, few_works s p c.requires)
