use Rattle.std.proofs.Common.{sym}
use Rattle.shr_script.proofs.Parsing.{replace_words-more}
use Rattle.shr_script.proofs.line.replace_command.Goals as goal

pub returns-in-Some-default-default : goal.returns-in-Some-default-default
returns-in-Some-default-default c =
    rw (c.in-Some.is, c.cut_word.ensures, c.in-Some-rest.is, c.cut_word-2.ensures, c.in-Some-default-default.is-0)
    (sym (replace_words-more c.cut_word.result.0.now c.cut_word-2.result.0.now c.in-Some-default-default.field-0-0.now))
