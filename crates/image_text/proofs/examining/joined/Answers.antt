use Rattle.std.proofs.Common.{ℕ, ◌∙◌, ap}
use Rattle.std.proofs.lemmas.List.{length-replicate}
use Rattle.shr_base.specs.Blocks.{put_at}
use Rattle.image_text.proofs.Sectors.{two_written}
use Rattle.image_text.proofs.examining.joined.Goals as goal

pub returns : goal.returns
returns c =
    c.put_bytes-2.ensures.written ∙ ap (put_at 512 512 c.args.high.now) c.put_bytes.ensures.written
    ∙ two_written _ c.args.low.now c.args.high.now (length-replicate {A = ℕ} 1024 0) c.told-low c.told-high
