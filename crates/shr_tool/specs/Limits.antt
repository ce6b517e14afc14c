-- A script that is longer than its limit.
use Rattle.std.specs.Prelude.{◌≢◌, ◌↔◌, ℕ, ◌+◌, ◌<◌, ◌≤◌, List, length, take, Some, Ok}
use Rattle.std.specs.List.{All}
use Rattle.shr_script.specs.declared.Command.TheVariants.{Quit}
use Rattle.shr_script.specs.Line.{line_of}
use Rattle.shr_script.specs.Script.{ended_lines_of}

-- no `quit` line ends in these bytes
abbrev pub NoQuit : List ℕ → Type 0
NoQuit bytes = All (λ line. line_of line ≢ Some (Ok Quit)) (ended_lines_of bytes)

-- of a text all but the rest was taken: more than the limit, in which no `quit` line ends
pub record IsOverlong (limit : ℕ) (text rest : List ℕ) : Type 0 where
  pub longer : limit + length rest < length text
  pub no_quit : NoQuit (take limit text)

-- the limit is answered exactly for such a text, and at most one byte past it is taken
pub record KeepsLimit (answered : Type 0) (limit : ℕ) (text rest : List ℕ) : Type 0 where
  pub exact : answered ↔ IsOverlong limit text rest
  pub most : length text ≤ limit + 1 + length rest
