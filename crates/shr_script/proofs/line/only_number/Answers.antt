use Rattle.std.proofs.Common.{sym}
use Rattle.shr_script.proofs.Parsing.{only_number-more}
use Rattle.shr_script.proofs.line.only_number.Goals as goal

pub returns-in-Some-more : goal.returns-in-Some-more
returns-in-Some-more c =
    rw (c.in-Some.is, c.cut_word.ensures, c.in-Some-more.is) (sym (only_number-more c.cut_word.result.0.now c.in-Some-more.field-0.now))
