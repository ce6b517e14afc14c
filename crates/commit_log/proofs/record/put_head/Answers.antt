use Rattle.std.proofs.Common.{◌≡◌, List, ℕ, take, ◌*◌, ◌+◌, subst, sym, ap, ◌∙◌}
use Rattle.shr_base.specs.Blocks.{put_all}
use Rattle.shr_base.specs.Crc.{crc32_of}
use Rattle.log_laws.specs.Bytes.{targets_in, IsSealed}
use Rattle.log_laws.proofs.Records.{sum_field, headed, sealed_targets, is_sealed}
use Rattle.commit_log.proofs.record.put_head.Goals as goal

pub returns-clause-targets : goal.returns-clause-targets
returns-clause-targets c =
    let old : List ℕ = c.args.bytes.now in
    let new : c.put_u32-3.new.block ≡ put_all (sum_field c.crc32-sum.result) (headed c.args.number c.args.count old) = (cc) in
    ap (λ (xs : List ℕ). targets_in xs c.args.count) new ∙ sealed_targets old c.args.number c.args.count c.crc32-sum.result c.requires.long

pub returns-clause-sealed : goal.returns-clause-sealed
returns-clause-sealed c =
    let old : List ℕ = c.args.bytes.now in
    let block : c.put_u64.new.block ≡ headed c.args.number c.args.count old = (cc) in
    let new : c.put_u32-3.new.block ≡ put_all (sum_field c.crc32-sum.result) (headed c.args.number c.args.count old) = (cc) in
    let used : c.crc32-sum.result ≡ crc32_of (take (512 * (96 + c.args.count)) (headed c.args.number c.args.count old)) = (cc) in
    subst (λ (xs : List ℕ). IsSealed c.args.number c.args.count xs) (sym new)
    (is_sealed old c.args.number c.args.count c.crc32-sum.result c.requires.long c.requires.some c.requires.few c.put_u64.ensures.fits used c.put_u32-3.ensures.fits)
