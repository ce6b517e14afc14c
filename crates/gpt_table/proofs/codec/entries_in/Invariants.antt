use Rattle.std.proofs.Common.{◌≡◌, ◌≤◌, length, filter_map}
use Rattle.std.specs.List.{range_with_len}
use Rattle.gpt_table.specs.Format.{entry_of}
use Rattle.gpt_table.proofs.codec.entries_in.Given as goal

abbrev pub invariant-loop-place : goal.invariant-loop-place
invariant-loop-place l = record {
  kept : l.entries.items ≡ filter_map (entry_of l.fn.bytes) (range_with_len 0 l.place);
  few : length l.entries.items ≤ l.place;
}
