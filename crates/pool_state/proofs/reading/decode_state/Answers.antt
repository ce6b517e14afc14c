use Rattle.std.proofs.Common.{sym, ◌∙◌}
use Rattle.pool_state.proofs.Places.{count_of-is_canonical}
use Rattle.pool_state.proofs.reading.decode_state.Goals as goal

pub fields-copied-requires : goal.fields-copied-requires
fields-copied-requires c = count_of-is_canonical c.args.bytes.now (sym c.is_written_so.ensures ∙ c.if-not-is_written_so.false)
