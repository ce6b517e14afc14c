use Rattle.std.proofs.Common.{sym, ◌∙◌}
use Rattle.image_text.proofs.Sectors.{zero_found, zero_none}
use Rattle.image_text.proofs.putting.without_zero.Goals as goal

pub returns-in-Some : goal.returns-in-Some
returns-in-Some c = zero_found c.args.bytes.now c.in-Some.end (sym c.first_zero.ensures ∙ c.in-Some.is)

pub returns-in-None : goal.returns-in-None
returns-in-None c = zero_none c.args.bytes.now (sym c.first_zero.ensures ∙ c.in-None.is)
