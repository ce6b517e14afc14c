use Rattle.std.proofs.Common.{◌≡◌, List, map, ◌∙◌, ap, subst, arith}
use Rattle.rack.specs.Targets.{Target}
use Rattle.array_model.specs.Members.{Works}
use Rattle.array_model.specs.Rows.{target_on}
use Rattle.array_model.proofs.Firsts.{firsts}
use Rattle.array_model.proofs.Reading.{slices_then}
use Rattle.array_model.proofs.Writing.{works_none}
use Rattle.array_model.proofs.RowWrites.{copy_step, copies_all, kept_then, whole_seat}
use Rattle.array_core.proofs.Array.copy_all.Goals as goal

pub loop-position-init : goal.loop-position-init
loop-position-init g c = (works_none c.args.self.now (g.R.Rack.seen c.args.rack.now) c.requires.slices.fit, g.met.R.Rack.runs_same c.args.rack.now)

pub put-requires-clause-slices : goal.put-requires-clause-slices
put-requires-clause-slices g c =
    slices_then c.args.self.now c.loop-position.self (g.R.Rack.seen c.args.rack.now) (g.R.Rack.seen c.loop-position.rack) c.loop-position.invariant.0.puts.only.stays
    c.loop-position.invariant.0.notes c.requires.slices

pub put-requires-clause-kept : goal.put-requires-clause-kept
put-requires-clause-kept g c =
    let low = c.loop-position-test.true in
    let end = c.members-position-end.ensures in
    kept_then c.args.self.now c.loop-position.self (g.R.Rack.seen c.args.rack.now) (g.R.Rack.seen c.loop-position.rack) c.loop-position.position c.loop-position.invariant.0.notes
    c.requires.fresh (whole_seat c.args.self.now c.loop-position.position c.rules.ensures c.requires.whole (omega (arith, low, end)))

pub loop-position-preserved : goal.loop-position-preserved
loop-position-preserved g c = (
  copy_step c.args.self.now c.loop-position.self c.put.new.self (g.R.Rack.seen c.args.rack.now) (g.R.Rack.seen c.loop-position.rack) (g.R.Rack.seen c.put.new.rack)
      c.args.sector c.loop-position.position c.args.from.now c.loop-position.invariant.0 c.put.ensures.works,
  g.met.R.Rack.runs_then _ _ _ c.loop-position.invariant.1 c.put.ensures.runs,
)

pub returns-clause-works : goal.returns-clause-works
returns-clause-works g c =
    let past = c.loop-position-test.false in
    let end = c.members-position-end.ensures in
    let low = c.loop-position.auto.position-end in
    let all : c.loop-position.position ≡ c.args.self.now.truth.raid_disks = omega (arith, past, end, low) in
    subst (λ (xs : List Target). Works c.args.self.now c.loop-position.self (g.R.Rack.seen c.args.rack.now) (g.R.Rack.seen c.loop-position.rack) xs)
    (ap (λ n. map (target_on c.args.self.now.number c.args.sector c.args.from.now) (firsts c.args.self.now n)) all ∙ copies_all c.args.self.now c.args.sector c.args.from.now)
    c.loop-position.invariant.0
