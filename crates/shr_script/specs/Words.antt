-- Words of a line that is cut at its spaces.
use Rattle.std.specs.Prelude.{ℕ, List, [], Option, Some, None}
use Rattle.std.specs.List.{slice_split}
use Rattle.shr_script.specs.Line.{is_space}

-- the words of the bytes after a space, where there was one
abbrev pub words_after : Option (List ℕ) → List (List ℕ)
words_after None = []
words_after (Some bytes) = slice_split is_space bytes
