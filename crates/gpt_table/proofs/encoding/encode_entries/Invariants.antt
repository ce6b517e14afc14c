use Rattle.std.proofs.Common.{◌≡◌, ℕ, ◌+◌, ◌<◌, length, take, find}
use Rattle.gpt_table.specs.Format.{entry_of, slot_of, numbered, written_slot}
use Rattle.gpt_table.proofs.encoding.encode_entries.Given as goal

abbrev pub invariant-loop-entry : goal.invariant-loop-entry
invariant-loop-entry l = record {
  long : length l.bytes ≡ 16384;
  slots : (k : ℕ) → k < 128 → slot_of k l.bytes ≡ written_slot (find (numbered (k + 1)) (take l.entry-index l.entry-items));
  read : (k : ℕ) → k < 128 → entry_of l.bytes k ≡ find (numbered (k + 1)) (take l.entry-index l.entry-items);
}
