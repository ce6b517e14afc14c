use Rattle.std.proofs.Common.{refl, arith}
use Rattle.shr_script.specs.ScriptLaws.{without_return-some, without_return-other}
use Rattle.shr_script.proofs.line.without_return.Goals as goal

pub returns-then-line-count-ne13 : goal.returns-then-line-count-ne13
returns-then-line-count-ne13 c = without_return-other _ _ refl (omega arith) c.if-line-count-ne13.true

pub returns : goal.returns
returns c = without_return-some _ _ refl (omega arith) c.if-line-count-ne13.false
