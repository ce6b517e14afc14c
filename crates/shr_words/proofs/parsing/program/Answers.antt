use Rattle.std.proofs.Common.{◌≡◌, ◌∙◌, ap₂}
use Rattle.std.proofs.lemmas.Result.{IfOk-weaker}
use Rattle.clap.specs.Words.{App, app_of, with_subcommand}
use Rattle.shr_words.specs.Parser as spec
use Rattle.shr_words.proofs.parsing.program.Goals as goal

abbrev with_top : App → App → App
with_top a form = with_subcommand a form.top

-- src/parsing.rt:77:1
pub returns : goal.returns
returns c =
    let one = c.in_ok-program.ensures ∙ ap₂ with_top c.bare.ensures c.in_ok-numbered.ensures.app in
    let two = c.in_ok-program-2.ensures ∙ ap₂ with_top one c.in_ok-numbered-2.ensures.app in
    let three = c.in_ok-program-3.ensures ∙ ap₂ with_top two c.in_ok-named.ensures.app in
    let four = c.in_ok-program-4.ensures ∙ ap₂ with_top three c.in_ok-named-2.ensures.app in
    let five = c.in_ok-program-5.ensures ∙ ap₂ with_top four c.in_ok-named-3.ensures.app in
    let six = c.in_ok-program-6.ensures ∙ ap₂ with_top five c.in_ok-named-4.ensures.app in
    let seven = c.in_ok-program-7.ensures ∙ ap₂ with_top six c.in_ok-examine.ensures.app in
    IfOk-weaker c.with_form-8.result (λ m. app_of m ≡ with_top (app_of c.in_ok-program-7.program) (app_of c.in_ok-numbered-3.field-0))
    (λ m. app_of m ≡ spec.program) (λ m h. h ∙ ap₂ with_top seven c.in_ok-numbered-3.ensures.app) c.with_form-8.ensures
