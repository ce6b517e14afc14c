use Rattle.std.proofs.Common.{◌≡◌, ℕ, suc, ◌<◌, ◌∷◌, ◌∙◌, length, ap, sym, subst, arith}
use Rattle.image_text.specs.Lines.{slice_line, place_lines, slices_lines, count_of}
use Rattle.image_text.proofs.Joining.{shows_failed, shows_then}
use Rattle.image_text.proofs.examining.+examine_slices.Goals as goal

pub returns-in-Err : goal.returns-in-Err
returns-in-Err g t c =
    let entry = c.in-Some.entry.now in
    rw c.in-Some.ensures.cases.0
    (shows_failed (λ image. slice_line entry ∷ place_lines image entry.slice.first (count_of entry)) (λ image. slices_lines image c.in-Some.others.now) c.in-Err.stop c.in-Err.ensures)

pub returns : goal.returns
returns g t c =
    let entry = c.in-Some.entry.now in
    rw c.in-Some.ensures.cases.0
    (shows_then (λ image. slice_line entry ∷ place_lines image entry.slice.first (count_of entry)) (λ image. slices_lines image c.in-Some.others.now) _
    c.requires.disk (g.met.B.Bay.unspent c.examine_slice.new.bay) c.in-Ok.ensures c.examine_slices.ensures)

pub examine_slices-requires : goal.examine_slices-requires
examine_slices-requires g t c κs within =
    let cases = c.in-Some.ensures.cases in
    let fewer : length c.args.entries.now ≡ suc (length c.in-Some.others.now) = ap length cases.0 in
    let all = rw cases.0 at c.requires.inside in
    let stays = c.in-Ok.ensures.only.stays in (
      (let down = c.decreases in omega (arith, fewer, down)),
      (
        within.0,
        (
          within.1,
          (
            (subst (λ (n : ℕ). c.args.disk < n) (sym stays.disks) c.requires.disk),
            (
              (c.requires.size ∙ sym (stays.sectors c.args.disk)),
              (λ k d below. all (suc k) d (omega arith)),
            ),
          ),
        ),
      ),
    )
