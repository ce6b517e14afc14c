use Rattle.std.proofs.Common.{ℕ, List, ◌≡◌, ◌≤◌, ◌-◌, ◌+◌, ◌++◌, take, drop, length, length-take, length-drop, ap, ◌∙◌, arith}
use Rattle.shr_script.specs.Pieces.{pending}
use Rattle.shr_script.proofs.ReadingLemmas.{kept-span, from_start}
use Rattle.shr_script.proofs.reader.LineReader.keep.Goals as goal

pub returns-clause-line : goal.returns-clause-line
returns-clause-line c =
    let r = c.args.self.now in
    let many = c.min-kept.result in
    let at_hand : length (pending r) ≡ r.end - r.start = simp (length-drop, length-take) (omega (arith, r.in_piece, r.size)) in
    let inside : many ≤ r.end - r.start = omega (arith, c.min-kept.ensures, c.requires.there, at_hand) in
    ap (take (r.kept + many))
    (c.copy_part.ensures
    ∙ ap (λ (xs : List ℕ). take r.kept r.line ++ xs ++ drop (r.kept + many) r.line) (from_start r.piece r.start r.end many r.in_order inside))
    ∙ kept-span r.line (pending r) r.kept c.args.count many r.room r.in_line c.requires.there c.min-kept.ensures
