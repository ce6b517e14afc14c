-- The numbers of the statuses.
use Rattle.std.specs.Prelude.{ℕ}
use Rattle.shr_tool.specs.declared.status.Status.{Status}
use Rattle.shr_tool.specs.declared.status.Status.TheVariants.{Done, Words, Limit, Source, Sink, Refused, Memory, Spent}

-- the number that the program ends with
abbrev pub code_of : Status → ℕ
code_of Done = 0
code_of Words = 2
code_of Limit = 3
code_of Source = 4
code_of Sink = 5
code_of Refused = 6
code_of Memory = 7
code_of Spent = 8
