use Rattle.std.proofs.Common.{[], ◌∷◌}
use Rattle.image_text.specs.Lines.{slice_line, place_lines, count_of}
use Rattle.image_text.proofs.Joining.{says_shows, shows_failed, shows_then}
use Rattle.image_text.proofs.examining.examine_slice.Goals as goal

pub returns-in-Err : goal.returns-in-Err
returns-in-Err g c =
    let entry = c.args.entry.now in
    shows_failed (λ image. slice_line entry ∷ []) (λ image. place_lines image entry.slice.first (count_of entry)) c.in-Err.stop
    (says_shows c.args.disk (slice_line entry ∷ []) _ (g.met.B.Bay.always_fit c.args.bay.now) (rw c.slice_text.ensures at c.in-Err.ensures))

pub returns : goal.returns
returns g c =
    let entry = c.args.entry.now in
    shows_then (λ image. slice_line entry ∷ []) (λ image. place_lines image entry.slice.first (count_of entry)) _ c.requires.disk (g.met.B.Bay.unspent c.args.bay.now)
    (says_shows c.args.disk (slice_line entry ∷ []) _ (g.met.B.Bay.always_fit c.args.bay.now) (rw c.slice_text.ensures at c.in-Ok.ensures))
    c.examine_place.ensures
