use Rattle.std.proofs.Common.{◌≡◌, List, ℕ, ◌++◌, ap, ◌∙◌, refl}
use Rattle.std.specs.Prelude.{replicate}
use Rattle.std.specs.Result.{result_ok}
use Rattle.shr_base.specs.Blocks.{put_at}
use Rattle.md_super.specs.Layout.{decoded}
use Rattle.pool_check.proofs.superblocks.super_of.Goals as goal

-- a sector put at the start of a block of two
put_first : (sector : List ℕ) → put_at 0 512 sector (replicate 1024 0) ≡ sector ++ replicate 512 0
unfolding put_at
put_first sector = refl

pub returns : goal.returns
returns c =
    c.ok.ensures.value ∙ ap result_ok (c.decode.ensures ∙ ap decoded (c.put_bytes.ensures.written ∙ put_first c.args.sector.now))
