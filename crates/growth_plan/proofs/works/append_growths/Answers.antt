use Rattle.std.proofs.Common.{ℕ, ◌+◌, Option, ap, ◌∙◌, arith}
use Rattle.growth_plan.specs.Book.{Standing}
use Rattle.growth_plan.specs.Target.{joining}
use Rattle.growth_plan.specs.Works.{growths, growths_by}
use Rattle.growth_plan.proofs.Appending.{appends_more, appends_same}
use Rattle.growth_plan.proofs.Books.{height_small, height_below, height_more}
use Rattle.growth_plan.proofs.works.append_growths.Goals as goal

pub overflow_add-top : goal.overflow_add-top
overflow_add-top c =
    let below = height_below c.args.arrays.now c.loop-number.number c.index-arrays-number.result c.loop-number.top
    c.loop-number-test.true c.index-arrays-number.is c.loop-number.invariant.level in
    omega (arith, below, height_small c.args.arrays.now c.requires.few c.requires.small)

pub loop-number-preserved : goal.loop-number-preserved
loop-number-preserved c =
    let x = c.index-arrays-number.result in
    let here : Standing = record { number = c.loop-number.number; top = 0; now = x } in
    record {
      appended =
          appends_more (growths c.args.state.now) c.args.arrays.now c.loop-number.number x
          c.args.tally.now c.loop-number.tally c.append_growth.new.tally
          c.loop-number-test.true c.index-arrays-number.is c.loop-number.invariant.appended
          (appends_same c.loop-number.tally c.append_growth.new.tally _ _ c.append_growth.ensures
          (ap (λ (place : Option ℕ). growths_by place here) c.joining.ensures
          ∙ ap (λ (level : ℕ). growths_by (joining c.args.state.now (record { number = 0; top = level + x.height; now = x })) here)
          c.loop-number.invariant.level));
      level = height_more c.args.arrays.now c.loop-number.number x c.loop-number.top c.loop-number-test.true c.index-arrays-number.is c.loop-number.invariant.level;
    }
