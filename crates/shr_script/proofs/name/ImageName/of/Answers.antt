use Rattle.std.proofs.Common.{◌∙◌, ◌≤◌, length, arith}
use Rattle.std.proofs.lemmas.Bool.Decides.{nat_tests}
use Rattle.shr_script.proofs.Naming.{name_of-other, name_of-plain}
use Rattle.shr_script.proofs.name.ImageName.of.Goals as goal

pub returns-in-Ok : goal.returns-in-Ok
returns-in-Ok c =
    let some : 1 ≤ length c.args.word.now = grind (arith, nat_tests, c.if-is_empty.ensures, c.if-is_empty.false) in
    c.name_in.ensures ∙ name_of-plain _ _ some (omega arith) c.in-Ok.ensures.cases.1 c.in-Ok.ensures.cases.0

pub returns-in-Err : goal.returns-in-Err
returns-in-Err c = name_of-other _ c.in-Err.ensures.cases.0
