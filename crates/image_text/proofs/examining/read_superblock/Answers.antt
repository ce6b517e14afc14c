use Rattle.std.proofs.Common.{◌≡◌, ◌+◌, arith, ap, ◌∙◌}
use Rattle.md_super.specs.Layout.{decoded}
use Rattle.image_text.proofs.Sectors.{superblock_there}
use Rattle.image_text.proofs.Looking.{gives_as}
use Rattle.image_text.proofs.examining.read_superblock.Goals as goal

pub returns-in-Ok-clause-gives : goal.returns-in-Ok-clause-gives
returns-in-Ok-clause-gives g c =
    gives_as (λ image done. (c.read_pair.new.low ≡ image (c.args.first + 8)) × (c.read_pair.new.high ≡ image (c.args.first + 8 + 1))) _ c.decode.result c.in-Ok.ensures.gives
    (λ image pair. c.decode.ensures ∙ ap decoded c.joined.ensures ∙ superblock_there image c.args.first c.args.count _ _ (omega arith) pair.0 pair.1)
