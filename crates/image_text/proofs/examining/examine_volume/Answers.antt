use Rattle.std.proofs.Common.{◌≡◌, ◌+◌, ◌-◌, ◌∙◌, ap, arith}
use Rattle.image_text.specs.Lines.{volume_lines}
use Rattle.image_text.specs.Volume.{volume_at}
use Rattle.image_text.proofs.Joining.{gives_shows, says_shows}
use Rattle.image_text.proofs.Volumes.{volume_base}
use Rattle.image_text.proofs.examining.examine_volume.Goals as goal

pub returns-in-Ok : goal.returns-in-Ok
returns-in-Ok g c =
    let bay = c.read_volume.new.bay in
    let base = c.saturating_add.result in
    let sectors = c.saturating_sub-sectors.result in
    let start = c.args.first + c.args.start in
    let left = c.args.count - c.args.start in
    let less : sectors ≡ left = c.saturating_sub-sectors.ensures in
    let bound = g.met.B.Bay.bounded c.args.bay.now c.args.disk c.requires.disk in
    gives_shows (λ image volume. volume ≡ volume_at image base sectors) (λ image. volume_lines c.in-Ok.volume) _ c.put_volume.result
    c.requires.disk (g.met.B.Bay.unspent bay) c.in-Ok.ensures
    (says_shows c.args.disk (volume_lines c.in-Ok.volume) c.put_volume.result (g.met.B.Bay.always_fit bay) c.put_volume.ensures)
    (λ image is. ap volume_lines (is ∙ ap (volume_at image base) less ∙ volume_base image base start left (λ room. let add = c.saturating_add.ensures in let inside = c.requires.inside in omega (arith, add, bound, inside))))
