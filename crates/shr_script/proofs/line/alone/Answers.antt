use Rattle.std.proofs.Common.{sym}
use Rattle.shr_script.proofs.Parsing.{alone-more}
use Rattle.shr_script.proofs.line.alone.Goals as goal

pub returns-in-Some : goal.returns-in-Some
returns-in-Some c = rw c.in-Some.is (sym (alone-more c.args.command c.in-Some.field-0.now))
