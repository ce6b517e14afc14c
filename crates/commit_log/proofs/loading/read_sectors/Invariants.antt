use Rattle.std.proofs.Common.{◌≡◌, ◌<◌, ◌≤◌, ◌+◌, ℕ, length, false}
use Rattle.rack.specs.Sequences.{OnlyReads}
use Rattle.log_laws.specs.Bytes.{record_bytes, sector_in}
use Rattle.commit_log.proofs.loading.read_sectors.Given as goal

abbrev pub invariant-loop-at : goal.invariant-loop-at
invariant-loop-at g l = record {
  reads : OnlyReads (g.R.Rack.seen l.initial.rack) (g.R.Rack.seen l.rack);
  long : length l.bytes ≡ record_bytes;
  read : (g.R.Rack.seen l.initial.rack).told l.disk
      → (k : ℕ) → l.from ≤ k → k < l.at → sector_in l.bytes k ≡ ((g.R.Rack.seen l.initial.rack).held l.disk (l.first + k)).current;
  unspent : (k : ℕ) → l.from ≤ k → k < l.at → (g.R.Rack.seen l.initial.rack).spent l.disk (l.first + k) ≡ false;
  kept : (k : ℕ) → k < l.from → sector_in l.bytes k ≡ sector_in l.initial.bytes k;
  runs : g.R.Rack.runs l.initial.rack l.rack;
}
