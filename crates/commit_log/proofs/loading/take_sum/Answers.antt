use Rattle.std.proofs.Common.{◌≡◌, ◌==◌, ◌+◌, ◌*◌, List, ℕ, take, replicate, ap, ap₂, ◌∙◌}
use Rattle.shr_base.specs.Blocks.{put_at}
use Rattle.shr_base.specs.Crc.{crc32_of}
use Rattle.log_laws.specs.Bytes.{targets_in}
use Rattle.log_laws.proofs.Loads.{sum_taken, sum_targets}
use Rattle.commit_log.proofs.loading.take_sum.Goals as goal

pub returns-clause-sum : goal.returns-clause-sum
returns-clause-sum c =
    let old : List ℕ = c.args.bytes.now in
    let used : c.crc32.result ≡ crc32_of (take (512 * (96 + c.args.count)) (put_at 8 4 (replicate 4 0) old)) = (cc) in
    ap₂ (λ (m n : ℕ). m == n) c.u32_at-sum.ensures (used ∙ ap crc32_of (sum_taken old c.args.count c.requires.long c.requires.few))

pub returns-clause-targets : goal.returns-clause-targets
returns-clause-targets c =
    let old : List ℕ = c.args.bytes.now in
    let new : c.put_u32.new.block ≡ put_at 8 4 (replicate 4 0) old = (cc) in
    ap (λ (xs : List ℕ). targets_in xs c.args.count) new ∙ sum_targets old c.args.count c.requires.long
