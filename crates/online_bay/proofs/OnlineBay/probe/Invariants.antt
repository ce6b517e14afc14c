use Rattle.std.proofs.Common.{◌≡◌, ◌<◌, ℕ, true, false, length}
use Rattle.rack.specs.Seen.{Rose}
use Rattle.rack.specs.Sequences.{OnlyReads}
use Rattle.online_bay.specs.Online.{Answered, is_offline}
use Rattle.online_bay.proofs.OnlineBay.probe.Given as goal

abbrev pub invariant-loop-disk : goal.invariant-loop-disk
invariant-loop-disk g l = record {
  reads : OnlyReads (g.B.Rack.seen l.fn.bay) (g.B.Rack.seen l.bay);
  runs : g.B.Rack.runs l.fn.bay l.bay;
  count : length l.offline.items ≡ l.disk;
  refused : (d : ℕ) → is_offline l.offline.items d ≡ true → Rose ((g.B.Rack.seen l.fn.bay).faults d) ((g.B.Rack.seen l.bay).faults d);
  answered : (d : ℕ) → d < l.disk → l.fn.sector < (g.B.Rack.seen l.fn.bay).sectors d → is_offline l.offline.items d ≡ false
      → Answered g.B.Rack.seen g.B.Rack.runs l.fn.bay l.bay d l.fn.sector;
}
