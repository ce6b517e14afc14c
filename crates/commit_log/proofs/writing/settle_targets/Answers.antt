use Rattle.std.proofs.Common.{◌≡◌, ℕ, subst, arith}
use Rattle.rack.specs.Sequences.{IsPayload}
use Rattle.log_laws.specs.Bytes.{targets_in}
use Rattle.log_laws.specs.Phases.{Puts, IsTargeted, IsWanted, went}
use Rattle.log_laws.proofs.Rounds.{puts_no_targets, targets_then, targets_settled}
use Rattle.commit_log.proofs.writing.settle_targets.Goals as goal

pub loop-at-init : goal.loop-at-init
loop-at-init g c = record {
  puts = puts_no_targets (g.R.Rack.seen c.args.rack.now) c.args.record.now.bytes.items (IsTargeted (targets_in c.args.record.now.bytes.items c.args.record.now.count))
      (went c.args.lost.now.places) c.requires.fit;
  runs = g.met.R.Rack.runs_same c.args.rack.now;
}

pub loop-at-preserved : goal.loop-at-preserved
loop-at-preserved g c = record {
  puts = targets_then c.args.record.now.bytes.items c.args.record.now.count c.loop-at.at
      (went c.args.lost.now.places) (went c.loop-at.lost.places) (went c.write_target.new.lost.places)
      (omega (arith, c.count-at-end.ensures, c.loop-at-test.true)) c.loop-at.invariant.puts c.write_target.ensures.puts;
  runs = g.met.R.Rack.runs_then _ _ _ c.loop-at.invariant.runs c.write_target.ensures.runs;
}

pub returns-clause-settles : goal.returns-clause-settles
returns-clause-settles g c =
    let a = g.R.Rack.seen c.args.rack.now in
    let b = g.R.Rack.seen c.loop-at.rack in
    let bytes = c.args.record.now.bytes.items in
    let xs = targets_in bytes c.args.record.now.count in
    let all : c.loop-at.at ≡ c.args.record.now.count = omega (arith, c.count-at-end.ensures, c.loop-at-test.false, c.loop-at.auto.at-end) in
    targets_settled xs (went c.args.lost.now.places) (went c.loop-at.lost.places) (went c.sync_targets.new.lost.places) c.requires.disks
    (subst (λ (n : ℕ). Puts a b (IsTargeted xs) (IsPayload (targets_in bytes n)) (IsWanted a (targets_in bytes n)) (went c.args.lost.now.places) (went c.loop-at.lost.places)) all c.loop-at.invariant.puts)
    c.sync_targets.ensures.syncs
