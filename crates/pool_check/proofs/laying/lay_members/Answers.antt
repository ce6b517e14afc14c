use Rattle.std.proofs.Common.{◌≡◌, ℕ, refl, sym, subst, ◌∙◌, arith}
use Rattle.slice_rack.specs.SliceRack.{tables}
use Rattle.pool_check.specs.Drives.{seats_by}
use Rattle.pool_check.specs.Slots.{AreSlots}
use Rattle.pool_check.specs.Laying.{IsLaidTo}
use Rattle.pool_check.proofs.Laid.{all_laid, keeps_same, keeps_then, next_laid, none_laid}
use Rattle.pool_check.proofs.laying.lay_members.Goals as goal

pub loop-number-init : goal.loop-number-init
loop-number-init g c = record {
  below = refl;
  fit = c.requires.fit;
  logs = c.requires.logs;
  kept = keeps_same (tables c.args.slices.now);
  laid = none_laid (seats_by c.args.seats.now) c.args.checked.now.arrays.items c.args.checked.now.extents.items (tables c.args.slices.now) c.requires.empty;
}

pub loop-number-preserved : goal.loop-number-preserved
loop-number-preserved g c = record {
  below = c.lay_array.ensures.below ∙ c.loop-number.invariant.below;
  fit = c.lay_array.ensures.fit;
  logs = c.lay_array.ensures.logs;
  kept = keeps_then (tables c.args.slices.now) (tables c.loop-number.slices) (tables c.lay_array.new.slices) c.loop-number.invariant.kept c.lay_array.ensures.kept;
  laid =
      next_laid (seats_by c.args.seats.now) c.args.checked.now.arrays.items c.args.checked.now.extents.items c.loop-number.number (tables c.lay_array.new.slices)
      c.lay_array.ensures.laid;
}

pub lay_array-requires-clause-slots : goal.lay_array-requires-clause-slots
lay_array-requires-clause-slots g c =
    subst (λ r. AreSlots (g.R.Rack.seen r).sectors (seats_by c.args.seats.now) c.args.checked.now.arrays.items c.args.checked.now.extents.items)
    (sym c.loop-number.invariant.below) c.requires.slots

pub returns-clause-laid : goal.returns-clause-laid
returns-clause-laid g c =
    let all : c.loop-number.number ≡ 16 = omega (arith, c.loop-number-test.false) in
    all_laid (seats_by c.args.seats.now) c.args.checked.now.arrays.items c.args.checked.now.extents.items (tables c.loop-number.slices)
    (subst (λ (n : ℕ). IsLaidTo (seats_by c.args.seats.now) c.args.checked.now.arrays.items c.args.checked.now.extents.items n 0 (tables c.loop-number.slices))
    all c.loop-number.invariant.laid)
