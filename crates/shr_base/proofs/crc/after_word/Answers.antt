-- The eight entries are those of the word's bytes.
use Rattle.std.proofs.Common.{sym}
use Rattle.shr_base.proofs.Registers.{times_x_to-word}
use Rattle.shr_base.proofs.crc.after_word.Goals as goal

pub returns : goal.returns
returns c =
    rw (
      c.entry.ensures,
      c.entry-2.ensures,
      c.entry-3.ensures,
      c.entry-4.ensures,
      c.entry-5.ensures,
      c.entry-6.ensures,
      c.entry-7.ensures,
      c.entry-8.ensures,
      c.to_le_bytes.ensures,
    ) (sym (times_x_to-word c.args.word c.ranges.word.fits))
