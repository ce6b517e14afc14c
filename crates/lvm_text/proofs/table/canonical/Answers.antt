use Rattle.std.proofs.Common.{◌≡◌, Some, None, decimal, sym, ap, ◌∙◌}
use Rattle.std.proofs.lemmas.Bool.{both_ways}
use Rattle.lvm_text.proofs.Numbered.{same_bytes, value_of_decimal}
use Rattle.lvm_text.proofs.table.canonical.Goals as goal

pub returns-in_default : goal.returns-in_default
returns-in_default c = λ n fits are.
    let some : Some n ≡ Some c.in-Some.number = sym (value_of_decimal c.args.digits.now n fits are) ∙ sym c.value_of.ensures ∙ c.in-Some.is in
    let e : c.in-Some.number ≡ n = cc in
    both_ways c.eq.result c.if-eq.false
    (c.eq.ensures ∙ same_bytes c.as_bytes.result.now c.args.digits.now (c.as_bytes.ensures.value ∙ c.format.ensures.text ∙ ap decimal e ∙ sym are))

pub returns-in_default-2 : goal.returns-in_default-2
returns-in_default-2 c = λ n fits are.
    let some : Some n ≡ None = sym (value_of_decimal c.args.digits.now n fits are) ∙ sym c.value_of.ensures ∙ c.in_default.is in cc
