use Rattle.std.proofs.Common.{◌<◌, ◌∙◌, map, string_bytes, subst, sym, rules}
use Rattle.std.proofs.lemmas.List.{length-map}
use Rattle.shr_words.specs.Forms.{before_names}
use Rattle.shr_words.proofs.Named.{names_behind}
use Rattle.shr_words.proofs.forms.form_of.Goals as goal

pub returns-in-Some-clause-named : goal.returns-in-Some-clause-named
returns-in-Some-clause-named c =
    let words = map string_bytes c.args.words.now in
    subst (λ n. before_names c.in-Some.form < n) (length-map c.args.words.now string_bytes)
    (names_behind words c.in-Some.form (sym c.call_form.ensures.form ∙ c.in-Some.is) (search rules))
