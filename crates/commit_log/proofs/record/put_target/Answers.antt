use Rattle.std.proofs.Common.{◌≡◌, ◌+◌, List, ℕ, ap, ◌∙◌}
use Rattle.shr_base.specs.Blocks.{put_all}
use Rattle.log_laws.specs.Bytes.{targets_in}
use Rattle.log_laws.proofs.Records.{target_fields, added_targets}
use Rattle.commit_log.proofs.record.put_target.Goals as goal

pub returns : goal.returns
returns c =
    let old : List ℕ = c.args.bytes.now in
    let new : c.put_bytes.new.block ≡ put_all (target_fields c.args.at c.args.disk c.args.sector c.args.from.now) old = (cc) in
    record {
      targets =
          ap (λ (xs : List ℕ). targets_in xs (c.args.at + 1)) new
          ∙ added_targets old c.args.at c.args.disk c.args.sector c.args.from.now c.requires.long c.requires.room
          c.put_u32.ensures.fits c.put_u64.ensures.fits c.put_bytes.ensures.fits;
    }
