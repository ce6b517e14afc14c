use Rattle.std.proofs.Common.{◌∙◌, sym, ap, arith, ℕ, List, ◌+◌, Some}
use Rattle.gpt_table.specs.Plans.{entries_plan}
use Rattle.rack.proofs.Writing.{only_none}
use Rattle.gpt_table.specs.Calls.{IsPlanned}
use Rattle.gpt_table.proofs.Planned.{entries_planned, follows_served, plan_refused, one_more, entries_written}
use Rattle.gpt_table.proofs.writing.write_entries.Goals as goal

pub loop-place-init : goal.loop-place-init
loop-place-init g c = record {
  follows = only_none (g.R.Rack.seen c.args.rack.now) (IsPlanned c.args.disk (entries_plan c.args.first c.args.bytes.now)) c.requires.fit;
  written = λ k below. absurd (omega arith);
  runs = g.met.R.Rack.runs_same c.args.rack.now;
}

pub returns-in-Err-clause-writes : goal.returns-in-Err-clause-writes
returns-in-Err-clause-writes g c =
    let planned = entries_planned c.args.first c.args.bytes.now c.loop-place.place c.loop-place-test.true in
    plan_refused (g.R.Rack.seen c.args.rack.now) (g.R.Rack.seen c.loop-place.rack) (g.R.Rack.seen c.write.new.self) c.args.disk (c.args.first + c.loop-place.place)
    c.piece_of-sector.result (entries_plan c.args.first c.args.bytes.now) c.in-Err.gone c.loop-place.invariant.follows
    c.in-Err.ensures.writes (planned ∙ ap (λ (v : List ℕ). Some v) (sym c.piece_of-sector.ensures))

pub loop-place-preserved : goal.loop-place-preserved
loop-place-preserved g c =
    let planned = entries_planned c.args.first c.args.bytes.now c.loop-place.place c.loop-place-test.true in
    record {
      follows = follows_served (g.R.Rack.seen c.args.rack.now) (g.R.Rack.seen c.loop-place.rack) (g.R.Rack.seen c.write.new.self) c.args.disk (c.args.first + c.loop-place.place)
          c.piece_of-sector.result (entries_plan c.args.first c.args.bytes.now) c.loop-place.invariant.follows
          c.in_default.ensures.writes (planned ∙ ap (λ (v : List ℕ). Some v) (sym c.piece_of-sector.ensures));
      written = one_more (g.R.Rack.seen c.args.rack.now) (g.R.Rack.seen c.loop-place.rack) (g.R.Rack.seen c.write.new.self) c.args.disk c.args.first c.loop-place.place
          c.args.bytes.now c.piece_of-sector.result c.loop-place.invariant.follows.stays c.in_default.ensures.writes c.piece_of-sector.ensures c.loop-place.invariant.written;
      runs = g.met.R.Rack.runs_then _ _ _ c.loop-place.invariant.runs c.in_default.ensures.runs;
    }

pub returns-clause-writes : goal.returns-clause-writes
returns-clause-writes g c =
    entries_written (g.R.Rack.seen c.args.rack.now) (g.R.Rack.seen c.loop-place.rack) c.args.disk c.args.first c.args.bytes.now
    c.loop-place.invariant.follows (λ k below. c.loop-place.invariant.written k (omega arith))
