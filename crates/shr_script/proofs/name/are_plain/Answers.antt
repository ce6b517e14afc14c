use Rattle.std.proofs.Common.{rules, tests}
use Rattle.std.proofs.lemmas.Iterator.{YieldsList-from_chars}
use Rattle.std.proofs.lemmas.Iterator.Search.{all_from_yields_List}
use Rattle.shr_script.specs.Names.{is_plain}
use Rattle.shr_script.proofs.name.are_plain.Goals as goal

pub returns : goal.returns
returns c =
    all_from_yields_List is_plain _ _ c.all.result c.all.ensures.ran (YieldsList-from_chars c.args.text.now c.utf8.text c.chars.ensures.rest)
    (λ x b q k. search (rules, tests))
