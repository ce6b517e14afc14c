use Rattle.std.proofs.Common.{◌≡◌, ◌++◌, take, filter}
use Rattle.gpt_table.specs.Changes.{is_above}
use Rattle.gpt_table.proofs.changing.push_above.Given as goal

abbrev pub invariant-loop-entry : goal.invariant-loop-entry
invariant-loop-entry l = record {
  pushed : l.chosen.items ≡ l.initial.chosen.items ++ filter (is_above l.fn.number) (take l.entry-index l.fn.entries);
}
