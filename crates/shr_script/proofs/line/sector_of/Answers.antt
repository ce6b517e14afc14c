use Rattle.std.proofs.Common.{arith}
use Rattle.shr_script.proofs.Parsing.{sector_of-decoded}
use Rattle.shr_script.proofs.line.sector_of.Goals as goal

pub returns : goal.returns
returns c =
    let decoded = c.if-not-decode_front.ensures.decoded in
    sector_of-decoded _ _ decoded.0 (omega arith) (omega arith) decoded.1 decoded.2
