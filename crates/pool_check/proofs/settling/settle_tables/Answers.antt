use Rattle.std.proofs.Common.{◌<◌, ◌∙◌, sym, subst, arith}
use Rattle.pool_check.specs.Drives.{seats_by}
use Rattle.pool_check.specs.Settling.{SettlesPlace}
use Rattle.pool_check.proofs.Settled.{settled_more, settled_none}
use Rattle.pool_check.proofs.settling.settle_tables.Goals as goal

pub settle_place-requires-clause-fit : goal.settle_place-requires-clause-fit
settle_place-requires-clause-fit g c = c.loop-place.invariant.settled.only.stays.fit

pub settle_place-requires-clause-inside : goal.settle_place-requires-clause-inside
settle_place-requires-clause-inside g c d seat =
    let old = c.loop-place.invariant.settled in
    subst (λ n. d < n) (sym old.only.stays.disks) (c.requires.inside c.loop-place.place d (sym (old.later c.loop-place.place (omega arith)) ∙ seat))

pub loop-place-init : goal.loop-place-init
loop-place-init g c = record {
  settled = settled_none (g.R.Rack.seen c.args.rack.now) (seats_by c.args.seats.now) c.args.agreed.now c.requires.fit;
  runs = g.met.R.Rack.runs_same _;
}

pub loop-place-preserved : goal.loop-place-preserved
loop-place-preserved g c = record {
  settled =
      settled_more (g.R.Rack.seen c.args.rack.now) (g.R.Rack.seen c.loop-place.rack) (g.R.Rack.seen c.settle_place.new.rack) (seats_by c.args.seats.now)
      (seats_by c.loop-place.seats) (seats_by c.settle_place.new.seats) c.args.agreed.now c.loop-place.place (omega arith) c.requires.distinct c.loop-place.invariant.settled
      (subst (SettlesPlace (g.R.Rack.seen c.loop-place.rack) (g.R.Rack.seen c.settle_place.new.rack) (seats_by c.loop-place.seats) (seats_by c.settle_place.new.seats) c.loop-place.place)
      c.flag_at.ensures c.settle_place.ensures.settles);
  runs = g.met.R.Rack.runs_then _ _ _ c.loop-place.invariant.runs c.settle_place.ensures.runs;
}
