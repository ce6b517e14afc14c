use Rattle.std.proofs.Common.{◌≡◌, ◌+◌, ◌*◌, ◌∙◌, sym}
use Rattle.lvm_label.specs.Header.{header_of}
use Rattle.image_text.specs.Contents.{bytes_from}
use Rattle.image_text.specs.Volume.{text_at}
use Rattle.image_text.proofs.Looking.{gives_then}
use Rattle.image_text.proofs.Volumes.{area_there}
use Rattle.image_text.proofs.volume.read_area.Goals as goal

pub returns-in-Some : goal.returns-in-Some
returns-in-Some g c =
    let base = c.args.base in
    let bytes = c.args.bytes in
    let area = c.args.area.now in
    let place = c.in-Some.place.now in
    gives_then (λ image header. header ≡ header_of (bytes_from image (512 * base + area.offset) 512)) (λ image volume. volume ≡ text_at image base bytes area place) _
    c.read_text.result c.requires.disk (g.met.B.Bay.unspent c.read_header.new.bay) c.in-Ok.ensures c.read_text.ensures
    (λ image volume one two. two ∙ area_there image base bytes area c.in-Ok-header.header place c.in-Some._others.now c.if-area-bytes.false (sym c.in-Ok-header.is ∙ one)
    (sym c.as_slice.ensures.value ∙ c.in-Some.ensures.cases.0))
