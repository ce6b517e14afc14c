-- A line is cut at its first space.
use Rattle.std.proofs.Common.{sym, ◌∙◌}
use Rattle.shr_script.proofs.Parsing.{cut_at_space, no_space}
use Rattle.shr_script.proofs.line.cut_word.Goals as goal

pub returns-in-Some : goal.returns-in-Some
returns-in-Some c = cut_at_space _ _ (sym c.first_space.ensures ∙ c.in-Some.is)

pub returns-in-None : goal.returns-in-None
returns-in-None c = no_space _ (sym c.first_space.ensures ∙ c.in-None.is)
