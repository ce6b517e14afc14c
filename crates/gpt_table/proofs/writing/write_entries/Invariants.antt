use Rattle.std.proofs.Common.{◌≡◌, ℕ, ◌+◌, ◌*◌, ◌<◌}
use Rattle.shr_base.specs.Blocks.{bytes_at}
use Rattle.rack.specs.Seen.{IsLive}
use Rattle.gpt_table.specs.Calls.{Follows}
use Rattle.gpt_table.specs.Plans.{entries_plan}
use Rattle.gpt_table.proofs.writing.write_entries.Given as goal

abbrev pub invariant-loop-place : goal.invariant-loop-place
invariant-loop-place g l = record {
  follows : Follows (g.R.Rack.seen l.initial.rack) (g.R.Rack.seen l.rack) l.fn.disk (entries_plan l.fn.first l.fn.bytes);
  written : (k : ℕ) → k < l.place → IsLive (g.R.Rack.seen l.initial.rack) (g.R.Rack.seen l.rack) l.fn.disk (l.fn.first + k)
      → ((g.R.Rack.seen l.rack).held l.fn.disk (l.fn.first + k)).current ≡ bytes_at (512 * k) 512 l.fn.bytes;
  runs : g.R.Rack.runs l.initial.rack l.rack;
}
