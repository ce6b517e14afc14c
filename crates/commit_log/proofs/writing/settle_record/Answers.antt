use Rattle.std.proofs.Common.{◌≡◌, ◌+◌, ℕ, length, subst, arith}
use Rattle.log_laws.specs.Phases.{Puts, IsLogOf, IsOfRecord, IsOnEach, went}
use Rattle.log_laws.specs.Bytes.{sector_in}
use Rattle.log_laws.proofs.Rounds.{record_then, record_settled}
use Rattle.commit_log.proofs.writing.settle_record.Goals as goal
use Rattle.std.proofs.Common.{List}

pub loop-at-preserved : goal.loop-at-preserved
loop-at-preserved g c =
    let Each : ℕ → List ℕ → Type 0 = λ k xs.
    Puts (g.R.Rack.seen c.loop-at.rack) (g.R.Rack.seen c.write_each.new.rack) (IsLogOf c.args.on.now (length c.args.on.now))
    (IsOnEach c.args.on.now (length c.args.on.now) (c.args.first + k) xs) (IsOnEach c.args.on.now (length c.args.on.now) (c.args.first + k) xs)
    (went c.loop-at.lost.places) (went c.write_each.new.lost.places) in
    let puts : Each c.loop-at.at (sector_in c.args.record.now.bytes.items c.loop-at.at) =
    subst (λ (k : ℕ). Each k (sector_in c.args.record.now.bytes.items c.loop-at.at)) c.from.ensures
    (subst (λ (xs : List ℕ). Each c.from.result xs) c.sector.ensures c.write_each.ensures.puts) in
    record {
      puts = record_then c.args.on.now c.args.first c.args.record.now.bytes.items c.loop-at.at
          (went c.args.lost.now.places) (went c.loop-at.lost.places) (went c.write_each.new.lost.places)
          c.loop-at.invariant.puts
          puts;
      runs = g.met.R.Rack.runs_then _ _ _ c.loop-at.invariant.runs c.write_each.ensures.runs;
    }

pub returns-clause-settles : goal.returns-clause-settles
returns-clause-settles g c =
    let all : c.loop-at.at ≡ 96 + c.args.record.now.count = omega (arith, c.count-at-end.ensures, c.loop-at-test.false, c.loop-at.auto.at-end) in
    record_settled c.args.on.now c.args.first c.args.record.now.bytes.items (96 + c.args.record.now.count)
    (went c.args.lost.now.places) (went c.loop-at.lost.places) (went c.sync_each.new.lost.places)
    (subst (λ (many : ℕ). Puts (g.R.Rack.seen c.args.rack.now) (g.R.Rack.seen c.loop-at.rack) (IsLogOf c.args.on.now (length c.args.on.now))
    (IsOfRecord c.args.on.now c.args.first c.args.record.now.bytes.items many) (IsOfRecord c.args.on.now c.args.first c.args.record.now.bytes.items many)
    (went c.args.lost.now.places) (went c.loop-at.lost.places)) all c.loop-at.invariant.puts)
    c.sync_each.ensures.syncs
