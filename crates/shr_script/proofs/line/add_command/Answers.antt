use Rattle.std.proofs.Common.{sym}
use Rattle.shr_script.proofs.Parsing.{add_words-more}
use Rattle.shr_script.proofs.line.add_command.Goals as goal

pub returns-in-Some-default : goal.returns-in-Some-default
returns-in-Some-default c =
    rw (c.in-Some.is, c.cut_word.ensures, c.in-Some-default.is-0)
    (sym (add_words-more c.cut_word.result.0.now c.in-Some-default.field-0-0.now))
