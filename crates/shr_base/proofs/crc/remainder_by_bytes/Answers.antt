-- A byte goes through the register by the first table.
use Rattle.std.proofs.Common.{sym, ap, ◌∙◌, get_or, bit_xor, ℕ, ◌/◌, ◌<◌, arith, refl}
use Rattle.std.proofs.lemmas.List.Sums.{fold_more}
use Rattle.shr_base.specs.Crc.{after_byte}
use Rattle.shr_base.proofs.Registers.{after_byte-low}
use Rattle.shr_base.proofs.crc.remainder_by_bytes.Goals as goal

pub loop-byte-preserved : goal.loop-byte-preserved
loop-byte-preserved c =
    let register = c.loop-byte.register in
    let at = c.loop-byte.byte-index in
    let byte = get_or c.args.bytes.now at 0 in
    let is_byte : byte < 256 = omega (arith, c.type_inv.bytes at) in
    ap (bit_xor (register / 256)) (rw (c.entry.ensures, c.to_le_bytes.ensures) refl)
    ∙ sym (after_byte-low register byte is_byte)
    ∙ ap (λ (r : ℕ). after_byte r byte) c.loop-byte.invariant
    ∙ sym (fold_more after_byte c.args.start c.args.bytes.now at 0 (omega arith))
