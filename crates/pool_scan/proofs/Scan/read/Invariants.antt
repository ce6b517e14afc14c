use Rattle.std.proofs.Common.{◌≡◌, ◌<◌, ℕ, length, slice_get, Some}
use Rattle.rack.specs.Sequences.{OnlyReads}
use Rattle.pool_scan.specs.declared.Known.{Known}
use Rattle.pool_scan.specs.Scanning.{IsKnown}
use Rattle.pool_scan.proofs.Scan.read.Given as goal

abbrev pub invariant-loop-disk : goal.invariant-loop-disk
invariant-loop-disk g l = record {
  only : OnlyReads (g.R.Rack.seen l.initial.rack) (g.R.Rack.seen l.rack);
  count : length l.self.disks.items ≡ length l.initial.self.disks.items;
  each : (d : ℕ) (s : Known) → d < l.disk → slice_get l.self.disks.items d ≡ Some s → IsKnown (g.R.Rack.seen l.initial.rack) (g.R.Rack.seen l.rack) d s;
  runs : g.R.Rack.runs l.initial.rack l.rack;
}
