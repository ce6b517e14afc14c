-- The pieces that a reader holds.
use Rattle.std.specs.Prelude.{ℕ, ◌+◌, ◌-◌, List, take, drop}
use Rattle.shr_script.specs.declared.reader.LineReader.{LineReader}

-- the bytes that were taken from the source and not read yet
abbrev pub pending : LineReader → List ℕ
pending r = drop r.start (take r.end r.piece)

-- the bytes of the line, as far as they are kept
abbrev pub line_of : LineReader → List ℕ
line_of r = take r.kept r.line

-- how many bytes were taken from the source
abbrev pub taken_by : LineReader → ℕ
taken_by r = r.consumed + (r.end - r.start)
