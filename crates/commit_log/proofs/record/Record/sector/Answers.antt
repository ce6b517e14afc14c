use Rattle.std.proofs.Common.{◌≡◌, ℕ, ◌/◌, List, [], length, slice_index_or, ap, ◌∙◌}
use Rattle.std.specs.Simd.{first_chunks}
use Rattle.shr_base.specs.Blocks.{bytes_at}
use Rattle.log_laws.proofs.Records.{chunk_at}
use Rattle.commit_log.proofs.record.Record.sector.Goals as goal

pub returns : goal.returns
unfolding bytes_at
returns c =
    let bytes : List ℕ = c.args.self.now.bytes.items in
    let front : c.as_chunks.result.0.now ≡ first_chunks 512 4092 bytes =
    c.as_chunks.ensures.front
    ∙ ap (λ (xs : List ℕ). first_chunks 512 (length xs / 512) xs) c.as_slice.ensures.value
    ∙ ap (λ (n : ℕ). first_chunks 512 (n / 512) bytes) c.args.self.now.sized in
    ap (λ (xs : List (List ℕ)). slice_index_or xs c.args.at []) front ∙ chunk_at 512 4092 c.args.at bytes c.requires
