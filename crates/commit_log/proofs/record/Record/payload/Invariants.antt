use Rattle.std.proofs.Common.{◌≡◌, ◌<◌, ◌≤◌, ℕ, false}
use Rattle.rack.specs.Targets.{is_at}
use Rattle.log_laws.specs.Bytes.{target_in}
use Rattle.commit_log.proofs.record.Record.payload.Given as goal

abbrev pub invariant-loop-at : goal.invariant-loop-at
invariant-loop-at l = record {
  few : l.at ≤ l.self.count;
  none : (k : ℕ) → l.at ≤ k → k < l.self.count → is_at l.disk l.sector (target_in l.self.bytes.items k) ≡ false;
}

abbrev pub decreases-loop-at : goal.decreases-loop-at
decreases-loop-at l = l.at
