use Rattle.std.proofs.Common.{◌≡◌, ℕ, ◌+◌, ◌-◌, ◌<◌, [], ◌∷◌, ◌++◌, ◌∙◌, ap, sym, subst}
use Rattle.shr_script.specs.Reply.{as_line}
use Rattle.image_text.specs.Lines.{volume_lines, data_lines, data_start, md_words, superblock_at}
use Rattle.image_text.specs.Volume.{volume_at}
use Rattle.image_text.proofs.Joining.{gives_shows, says_shows, shows_failed, shows_then}
use Rattle.image_text.proofs.examining.examine_place.Goals as goal

pub returns-in-Err-put_superblock : goal.returns-in-Err-put_superblock
returns-in-Err-put_superblock g c =
    let first = c.args.first in
    let count = c.args.count in
    let found = c.in-Ok.found in
    let bay = c.read_superblock.new.bay in
    let line = as_line (md_words found) ∷ [] in
    gives_shows (λ image seen. seen ≡ superblock_at image first count) (λ image. line ++ data_lines image first count (data_start found)) _ _
    c.requires.disk (g.met.B.Bay.unspent bay) c.in-Ok.ensures.gives
    (shows_failed (λ image. line) (λ image. data_lines image first count (data_start found)) c.in-Err-put_superblock.stop
    (says_shows c.args.disk line _ (g.met.B.Bay.always_fit bay) c.in-Err-put_superblock.ensures))
    (λ image is. ap (λ seen. as_line (md_words seen) ∷ data_lines image first count (data_start seen)) is)

pub returns-in-Some : goal.returns-in-Some
returns-in-Some g c =
    let first = c.args.first in
    let count = c.args.count in
    let found = c.in-Ok.found in
    let bay = c.read_superblock.new.bay in
    let start = c.in-Some.start in
    let line = as_line (md_words found) ∷ [] in
    let has : c.args.disk < (g.B.Rack.seen bay).disks = subst (λ (n : ℕ). c.args.disk < n) (sym c.in-Ok.ensures.gives.only.stays.disks) c.requires.disk in
    gives_shows (λ image seen. seen ≡ superblock_at image first count) (λ image. line ++ volume_lines (volume_at image (first + start) (count - start))) _ _
    c.requires.disk (g.met.B.Bay.unspent bay) c.in-Ok.ensures.gives
    (shows_then (λ image. line) (λ image. volume_lines (volume_at image (first + start) (count - start))) _ has (g.met.B.Bay.unspent bay)
    (says_shows c.args.disk line _ (g.met.B.Bay.always_fit bay) c.in-Ok-put_superblock.ensures)
    c.examine_volume.ensures)
    (λ image is.
    ap (λ (from : _). line ++ data_lines image first count from) (sym c.in-Some.is ∙ c.data_start.ensures)
    ∙ ap (λ seen. as_line (md_words seen) ∷ data_lines image first count (data_start seen)) is)
