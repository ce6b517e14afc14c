use Rattle.std.proofs.Common.{[], ◌∷◌, ◌++◌}
use Rattle.shr_script.specs.Reply.{as_line}
use Rattle.image_text.specs.Lines.{place_lines, slices_lines, table_words, entries_in}
use Rattle.image_text.proofs.Joining.{says_shows, shows_failed, shows_then}
use Rattle.image_text.proofs.examining.examine_all.Goals as goal

pub returns-in-Err : goal.returns-in-Err
returns-in-Err g c =
    let found = c.args.found.now in
    let line = as_line (table_words found) ∷ [] in
    shows_failed (λ image. line) (λ image. place_lines image 0 c.args.sectors ++ slices_lines image (entries_in found)) c.in-Err.stop
    (says_shows c.args.disk line _ (g.met.B.Bay.always_fit c.args.bay.now) c.in-Err.ensures)

pub returns-in-Err-examine_place : goal.returns-in-Err-examine_place
returns-in-Err-examine_place g c =
    let found = c.args.found.now in
    let line = as_line (table_words found) ∷ [] in
    shows_then (λ image. line) (λ image. place_lines image 0 c.args.sectors ++ slices_lines image (entries_in found)) _ c.requires.disk (g.met.B.Bay.unspent c.args.bay.now)
    (says_shows c.args.disk line _ (g.met.B.Bay.always_fit c.args.bay.now) c.in-Ok.ensures)
    (shows_failed (λ image. place_lines image 0 c.args.sectors) (λ image. slices_lines image (entries_in found)) c.in-Err-examine_place.stop c.in-Err-examine_place.ensures)

pub returns-in-Some : goal.returns-in-Some
returns-in-Some g c =
    let found = c.args.found.now in
    let line = as_line (table_words found) ∷ [] in
    let seen = c.in-Some.seen in
    shows_then (λ image. line) (λ image. place_lines image 0 c.args.sectors ++ slices_lines image (entries_in found)) _ c.requires.disk (g.met.B.Bay.unspent c.args.bay.now)
    (says_shows c.args.disk line _ (g.met.B.Bay.always_fit c.args.bay.now) c.in-Ok.ensures)
    (shows_then (λ image. place_lines image 0 c.args.sectors) (λ image. slices_lines image (entries_in found)) _ c.requires.disk (g.met.B.Bay.unspent c.examine_place.new.bay)
    c.in-Ok-examine_place.ensures
    (rw (c.in-Some.is, ← c.as_slice.ensures.value) c.examine_slices.ensures))
