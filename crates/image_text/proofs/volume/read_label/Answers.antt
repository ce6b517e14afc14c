use Rattle.std.proofs.Common.{◌≡◌, Ok, [], ◌∷◌, ◌∙◌, ap, sym, ◌+◌}
use Rattle.lvm_label.specs.Label.{label_in}
use Rattle.image_text.specs.Volume.{four_sectors}
use Rattle.image_text.proofs.Sectors.{four_read}
use Rattle.image_text.proofs.Looking.{gives_then, gives_as}
use Rattle.image_text.proofs.volume.read_label.Goals as goal

pub returns : goal.returns
returns g c =
    let base = c.args.base in
    gives_as (λ image done. four_sectors image base ≡ c.read_pair.new.low ∷ c.read_pair.new.high ∷ c.read_pair-2.new.low ∷ c.read_pair-2.new.high ∷ []) _ c.decode_label.result
    (gives_then (λ image done. (c.read_pair.new.low ≡ image base) × (c.read_pair.new.high ≡ image (base + 1)))
    (λ image done. (c.read_pair-2.new.low ≡ image (base + 2)) × (c.read_pair-2.new.high ≡ image (base + 2 + 1))) _ (Ok tt)
    c.requires.disk (g.met.B.Bay.unspent c.read_pair.new.bay) c.in-Ok.ensures.gives c.in-Ok-read_pair.ensures.gives
    (λ image done one two. four_read image base _ _ _ _ one.0 one.1 two.0 two.1))
    (λ image four. c.decode_label.ensures ∙ ap (label_in 0) (sym four))
