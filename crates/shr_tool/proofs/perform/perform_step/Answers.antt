-- Where a work of a growth is left, the line grows the pool.
use Rattle.std.proofs.Common.{sym, inl, inr}
use Rattle.shr_tool.proofs.perform.perform_step.Goals as goal

pub returns-then-has_growth_left-clause-answers : goal.returns-then-has_growth_left-clause-answers
returns-then-has_growth_left-clause-answers g c = inr (sym c.if-has_growth_left.ensures, c.grow.ensures.grows)

pub returns-else-has_growth_left-clause-answers : goal.returns-else-has_growth_left-clause-answers
returns-else-has_growth_left-clause-answers g c = inl c.maintain.ensures.answers
