use Rattle.std.proofs.Common.{sym}
use Rattle.shr_script.proofs.Parsing.{fill_words-more}
use Rattle.shr_script.proofs.line.fill_command.Goals as goal

pub returns-in-Some-more : goal.returns-in-Some-more
returns-in-Some-more c =
    rw (c.in-Some.is, c.cut_word.ensures, c.in-Some-rest.is, c.cut_word-2.ensures, c.in-Some-rest-2.is, c.cut_word-3.ensures, c.in-Some-more.is)
    (sym
    (fill_words-more c.cut_word.result.0.now c.cut_word-2.result.0.now c.cut_word-3.result.0.now c.in-Some-more.field-0.now))
