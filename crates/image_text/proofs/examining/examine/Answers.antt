use Rattle.std.proofs.Common.{◌≡◌, ℕ, [], ◌∷◌, ◌++◌, ◌∙◌, ap, Err}
use Rattle.shr_script.specs.Reply.{as_line}
use Rattle.gpt_table.specs.Disk.{first_table}
use Rattle.image_text.specs.Lines.{image_line, place_lines, slices_lines, table_words, entries_in}
use Rattle.image_text.proofs.Joining.{says_shows, shows_failed, shows_then, gives_shows, gives_refused}
use Rattle.image_text.proofs.examining.examine.Goals as goal

pub returns-in-Err : goal.returns-in-Err
returns-in-Err g c =
    let size = (g.B.Rack.seen c.args.bay.now).sectors c.args.disk in
    let line = image_line size ∷ [] in
    shows_failed (λ image. line)
    (λ image. (as_line (table_words (first_table size image)) ∷ place_lines image 0 size) ++ slices_lines image (entries_in (first_table size image))) c.in-Err.stop
    (says_shows c.args.disk line _ (g.met.B.Bay.always_fit c.args.bay.now) (rw c.sectors-sectors.ensures.number at c.in-Err.ensures))

pub returns-in-Err-find_table : goal.returns-in-Err-find_table
returns-in-Err-find_table g c =
    let size = (g.B.Rack.seen c.args.bay.now).sectors c.args.disk in
    let line = image_line size ∷ [] in
    shows_then (λ image. line)
    (λ image. (as_line (table_words (first_table size image)) ∷ place_lines image 0 size) ++ slices_lines image (entries_in (first_table size image))) _
    c.requires (g.met.B.Bay.unspent c.args.bay.now)
    (says_shows c.args.disk line _ (g.met.B.Bay.always_fit c.args.bay.now) (rw c.sectors-sectors.ensures.number at c.in-Ok.ensures))
    (gives_refused _
    (λ image. (as_line (table_words (first_table size image)) ∷ place_lines image 0 size) ++ slices_lines image (entries_in (first_table size image)))
    c.in-Err-find_table.field-0 (λ e. c.in-Err-find_table.ensures.cause (ap Err e)) c.in-Err-find_table.ensures.gives)

pub returns : goal.returns
returns g c =
    let size = (g.B.Rack.seen c.args.bay.now).sectors c.args.disk in
    let line = image_line size ∷ [] in
    let found = c.in-Ok-find_table.found in
    shows_then (λ image. line)
    (λ image. (as_line (table_words (first_table size image)) ∷ place_lines image 0 size) ++ slices_lines image (entries_in (first_table size image))) _
    c.requires (g.met.B.Bay.unspent c.args.bay.now)
    (says_shows c.args.disk line _ (g.met.B.Bay.always_fit c.args.bay.now) (rw c.sectors-sectors.ensures.number at c.in-Ok.ensures))
    (gives_shows (λ image seen. seen ≡ first_table size image)
    (λ image. (as_line (table_words found) ∷ place_lines image 0 c.sectors-sectors.result) ++ slices_lines image (entries_in found)) _ _
    c.requires (g.met.B.Bay.unspent c.find_table.new.bay) c.in-Ok-find_table.ensures.gives c.examine_all.ensures
    (λ image is.
    ap (λ (n : ℕ). (as_line (table_words found) ∷ place_lines image 0 n) ++ slices_lines image (entries_in found)) c.sectors-sectors.ensures.number
    ∙ ap (λ seen. (as_line (table_words seen) ∷ place_lines image 0 size) ++ slices_lines image (entries_in seen)) is))
