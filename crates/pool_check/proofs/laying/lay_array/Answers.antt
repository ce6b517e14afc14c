use Rattle.std.proofs.Common.{◌≡◌, ℕ, refl, sym, subst, ◌∙◌, arith}
use Rattle.slice_rack.specs.SliceRack.{tables}
use Rattle.pool_check.specs.Drives.{seats_by}
use Rattle.pool_check.specs.Slots.{AreSlots}
use Rattle.pool_check.specs.Laying.{IsLaidTo}
use Rattle.pool_check.proofs.Laid.{keeps_same, keeps_then}
use Rattle.pool_check.proofs.laying.lay_array.Goals as goal

pub loop-place-init : goal.loop-place-init
loop-place-init g c = record {
  below = refl;
  fit = c.requires.fit;
  logs = c.requires.logs;
  kept = keeps_same (tables c.args.slices.now);
  laid = c.requires.laid;
}

pub loop-place-preserved : goal.loop-place-preserved
loop-place-preserved g c = record {
  below = c.lay_member.ensures.below ∙ c.loop-place.invariant.below;
  fit = c.lay_member.ensures.fit;
  logs = c.lay_member.ensures.logs;
  kept = keeps_then (tables c.args.slices.now) (tables c.loop-place.slices) (tables c.lay_member.new.slices) c.loop-place.invariant.kept c.lay_member.ensures.kept;
  laid = c.lay_member.ensures.laid;
}

pub lay_member-requires-clause-slots : goal.lay_member-requires-clause-slots
lay_member-requires-clause-slots g c =
    subst (λ r. AreSlots (g.R.Rack.seen r).sectors (seats_by c.args.seats.now) c.args.checked.now.arrays.items c.args.checked.now.extents.items)
    (sym c.loop-place.invariant.below) c.requires.slots

pub returns-clause-laid : goal.returns-clause-laid
returns-clause-laid g c =
    let all : c.loop-place.place ≡ 16 = omega (arith, c.loop-place-test.false) in
    subst (λ (n : ℕ). IsLaidTo (seats_by c.args.seats.now) c.args.checked.now.arrays.items c.args.checked.now.extents.items c.args.number n (tables c.loop-place.slices))
    all c.loop-place.invariant.laid
