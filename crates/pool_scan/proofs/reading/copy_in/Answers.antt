use Rattle.std.proofs.Common.{subst, sym, ap, ◌∙◌}
use Rattle.std.specs.Result.{result_ok}
use Rattle.pool_scan.specs.Scanning.{IsValidCopy}
use Rattle.pool_scan.proofs.Decoding.{decoded_is_valid}
use Rattle.pool_scan.proofs.reading.copy_in.Goals as goal

pub returns-clause-valid : goal.returns-clause-valid
returns-clause-valid c =
    subst IsValidCopy (sym (c.ok.ensures.value ∙ ap result_ok c.decode_state.ensures)) (decoded_is_valid c.args.sector.now)
