-- Eight bytes go through the register as one number.
use Rattle.std.proofs.Common.{◌≡◌, length, rules}
use Rattle.shr_base.proofs.Registers.{AreBytes, remainder_from-count}
use Rattle.shr_base.proofs.crc.after_chunk.Goals as goal

pub returns : goal.returns
returns c =
    let long : length c.args.chunk.now ≡ 8 = search rules in
    let fits : AreBytes c.args.chunk.now = search rules in
    rw (c.after_word.ensures, c.from.ensures, c.read_u64.ensures) (remainder_from-count c.args.register 8 c.args.chunk.now long fits)
