use Rattle.std.proofs.Common.{rules, ◌≡◌, map, string_bytes, sym, ◌∙◌}
use Rattle.std.proofs.lemmas.List.{length-map}
use Rattle.clap.specs.Words.{app_of}
use Rattle.shr_words.specs.declared.forms.WordsFault.{WordsFault}
use Rattle.shr_words.specs.declared.forms.WordsFault.TheVariants.{Memory, Wrong}
use Rattle.shr_words.proofs.Parsed.{parsed, unparsed}
use Rattle.shr_words.proofs.parsing.parse.Goals as goal

differ : (fault : WordsFault) → fault ≡ Memory → fault ≡ Wrong → ⊥
differ fault memory wrong = search (rules, sym memory ∙ wrong)

pub returns-in-Ok-try_get_matches_from-clause-takes : goal.returns-in-Ok-try_get_matches_from-clause-takes
returns-in-Ok-try_get_matches_from-clause-takes c =
    parsed (app_of c.in-Ok.program) (map string_bytes c.args.words.now) c.in-Ok.ensures c.requires.words (rw length-map c.bound.ensures)
    c.in-Ok-try_get_matches_from.ensures.kinds

pub returns-clause-wrong : goal.returns-clause-wrong
returns-clause-wrong c = λ wrong.
    unparsed (app_of c.in-Ok.program) (map string_bytes c.args.words.now) c.in-Err.error c.in-Ok.ensures c.requires.words
    (rw length-map c.bound.ensures) c.in-Err.ensures.kinds
    (λ memory. let is = c.fault_of.ensures.1 (c.kind.ensures ∙ memory) in differ c.fault_of.result is (search (rules, wrong)))
