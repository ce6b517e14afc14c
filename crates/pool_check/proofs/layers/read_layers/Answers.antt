use Rattle.std.proofs.Common.{◌≡◌, suc, ◌+◌, subst, arith}
use Rattle.rack.proofs.Reading.{only_reads_join, only_reads_start}
use Rattle.pool_check.specs.Drives.{found_with, seats_by}
use Rattle.pool_check.specs.Layers.{AreFoundedBy, AreLayers}
use Rattle.pool_check.specs.Slots.{AreKept}
use Rattle.pool_check.proofs.AfterReads.{drives_then, goes_later, seating_then}
use Rattle.pool_check.proofs.layers.read_layers.Goals as goal

pub read_array-requires-clause-fit : goal.read_array-requires-clause-fit
read_array-requires-clause-fit g c = c.loop-number.invariant.only.stays.fit

pub read_array-requires-clause-seating : goal.read_array-requires-clause-seating
read_array-requires-clause-seating g c = seating_then c.args.state.now (seats_by c.args.seats.now) c.loop-number.invariant.only c.requires.seating

pub read_array-requires-clause-kept : goal.read_array-requires-clause-kept
read_array-requires-clause-kept g c = c.loop-number.invariant.kept

pub loop-number-init : goal.loop-number-init
loop-number-init g c = record {
  only = only_reads_start (g.R.Rack.seen c.args.rack.now) c.requires.fit;
  kept = c.no_layers-layers.ensures.kept;
  layers = λ o are. c.no_layers-layers.ensures.layers (found_with c.args.state.now (seats_by c.args.seats.now) o);
  founded = c.no_layers-layers.ensures.founded c.args.state.now (seats_by c.args.seats.now);
  runs = g.met.R.Rack.runs_same _;
}

pub loop-number-preserved : goal.loop-number-preserved
loop-number-preserved g c =
    let s = c.args.state.now in
    let seats = seats_by c.args.seats.now in
    let next : suc c.loop-number.number ≡ c.loop-number.number + 1 = omega arith in
    record {
      only = only_reads_join c.loop-number.invariant.only c.in_default.ensures.only;
      kept = subst (λ n. AreKept n c.read_array.new.layers) next c.in_default.ensures.kept;
      layers = λ o are.
          subst (λ n. AreLayers (found_with s seats o) n c.read_array.new.layers) next
          (c.in_default.ensures.layers o (drives_then s seats o c.loop-number.invariant.only c.requires.seating are) (c.loop-number.invariant.layers o are));
      founded =
          subst (λ n. AreFoundedBy s seats n c.read_array.new.layers) next (c.in_default.ensures.founded c.loop-number.invariant.founded);
      runs = g.met.R.Rack.runs_then _ _ _ c.loop-number.invariant.runs c.in_default.ensures.runs;
    }

pub returns-in-Err-clause-went : goal.returns-in-Err-clause-went
returns-in-Err-clause-went g c =
    goes_later (g.R.Rack.seen c.args.rack.now) (g.R.Rack.seen c.loop-number.rack) (g.R.Rack.seen c.read_array.new.rack) (seats_by c.args.seats.now) c.in-Err.place
    c.loop-number.invariant.only.stays c.in-Err.ensures.went
