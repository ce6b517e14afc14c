use Rattle.std.proofs.Common.{◌≡◌, ◌+◌, refl, sym, ap, subst, ◌∙◌, arith}
use Rattle.slice_rack.specs.SliceRack.{tables, below_of}
use Rattle.pool_rest.specs.Laying.{IsLaidBelow}
use Rattle.pool_rest.proofs.Laid.{laid_start}
use Rattle.pool_rest.proofs.laying.seat_drives.Goals as goal

pub loop-place-init : goal.loop-place-init
loop-place-init g c = record {
  below = refl;
  fit = c.requires.fit;
  laid = subst (λ on. IsLaidBelow (g.R.Rack.seen (below_of c.args.slices.now)) c.args.scan.now.disks.items c.args.state.now 0 (tables c.args.slices.now) on)
      (sym c.new-on.ensures) (laid_start _ _ _ _ c.requires.empty);
}

pub loop-place-preserved : goal.loop-place-preserved
loop-place-preserved g c = record {
  below = c.seat_drive.ensures.below ∙ c.loop-place.invariant.below;
  fit = c.seat_drive.ensures.fit;
  laid = subst (λ r. IsLaidBelow (g.R.Rack.seen r) c.args.scan.now.disks.items c.args.state.now (c.loop-place.place + 1) (tables c.seat_drive.new.slices) c.seat_drive.new.on.items)
      c.loop-place.invariant.below c.seat_drive.ensures.laid;
}

pub seat_drive-requires-clause-count : goal.seat_drive-requires-clause-count
seat_drive-requires-clause-count g c = c.requires.count ∙ sym (ap (λ r. (g.R.Rack.seen r).disks) c.loop-place.invariant.below)

pub seat_drive-requires-clause-laid : goal.seat_drive-requires-clause-laid
seat_drive-requires-clause-laid g c =
    subst (λ r. IsLaidBelow (g.R.Rack.seen r) c.args.scan.now.disks.items c.args.state.now c.loop-place.place (tables c.loop-place.slices) c.loop-place.on.items)
    (sym c.loop-place.invariant.below) c.loop-place.invariant.laid

pub returns-clause-below : goal.returns-clause-below
returns-clause-below g c = c.loop-place.invariant.below

pub returns-clause-fit : goal.returns-clause-fit
returns-clause-fit g c = c.loop-place.invariant.fit

pub returns-clause-laid : goal.returns-clause-laid
returns-clause-laid g c =
    let all : c.loop-place.place ≡ 16 = omega (arith, c.loop-place-test.false) in
    subst (λ n. IsLaidBelow (g.R.Rack.seen (below_of c.args.slices.now)) c.args.scan.now.disks.items c.args.state.now n (tables c.loop-place.slices) c.loop-place.on.items)
    all c.loop-place.invariant.laid
