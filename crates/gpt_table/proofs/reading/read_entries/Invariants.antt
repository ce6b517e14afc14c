use Rattle.std.proofs.Common.{◌≡◌, ℕ, ◌+◌, ◌*◌, ◌<◌, take, length, false}
use Rattle.rack.specs.Sequences.{OnlyReads}
use Rattle.gpt_table.specs.Disk.{joined, now_on}
use Rattle.gpt_table.proofs.reading.read_entries.Given as goal

abbrev pub invariant-loop-place : goal.invariant-loop-place
invariant-loop-place g l = record {
  only : OnlyReads (g.R.Rack.seen l.initial.rack) (g.R.Rack.seen l.rack);
  long : length l.bytes ≡ 16384;
  unspent : (k : ℕ) → k < l.place → (g.R.Rack.seen l.initial.rack).spent l.fn.disk (l.fn.first + k) ≡ false;
  read : (g.R.Rack.seen l.initial.rack).told l.fn.disk
      → take (512 * l.place) l.bytes ≡ joined (now_on (g.R.Rack.seen l.initial.rack) l.fn.disk) l.fn.first l.place;
  runs : g.R.Rack.runs l.initial.rack l.rack;
}
