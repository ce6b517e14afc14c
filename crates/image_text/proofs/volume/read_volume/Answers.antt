use Rattle.std.proofs.Common.{◌≡◌, ◌*◌, ◌∙◌, sym}
use Rattle.lvm_label.specs.Label.{label_in}
use Rattle.image_text.specs.Volume.{area_at, four_sectors}
use Rattle.image_text.proofs.Looking.{gives_then}
use Rattle.image_text.proofs.Volumes.{label_there}
use Rattle.image_text.proofs.volume.read_volume.Goals as goal

pub returns-in-Some : goal.returns-in-Some
returns-in-Some g c =
    let base = c.args.base in
    let sectors = c.args.sectors in
    let area = c.in-Some.area.now in
    gives_then (λ image label. label ≡ label_in 0 (four_sectors image base)) (λ image volume. volume ≡ area_at image base (512 * sectors) area) _
    c.read_area.result c.requires.disk (g.met.B.Bay.unspent c.read_label.new.bay) c.in-Ok.ensures c.read_area.ensures
    (λ image volume one two. two ∙ label_there image base sectors c.in-Ok-label.label area c.in-Some._others.now c.if-sectors-lt4.false (sym c.in-Ok-label.is ∙ one)
    (sym c.as_slice.ensures.value ∙ c.in-Some.ensures.cases.0))
