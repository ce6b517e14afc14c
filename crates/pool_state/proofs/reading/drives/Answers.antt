use Rattle.std.proofs.Common.{◌∷◌, ◌++◌, ℕ, List, [], map, length, sym, ap, ◌∙◌, arith, lit<, zero-add}
use Rattle.std.specs.List.{range_with_len}
use Rattle.std.proofs.lemmas.List.FromFn.{length-map-range_with_len, map-range_with_len_more}
use Rattle.pool_state.specs.declared.contents.Drive.{Drive}
use Rattle.pool_state.specs.Sector.{drive_at}
use Rattle.pool_state.proofs.reading.drives.Goals as goal

pub push-requires : goal.push-requires
push-requires c =
    let at : ℕ → Drive = λ place. drive_at place c.args.bytes.now in
    (lit< tt, omega (arith, ap length c.loop-place.invariant, length-map-range_with_len at 0 c.loop-place.place))

pub loop-place-preserved : goal.loop-place-preserved
loop-place-preserved c =
    let place = c.loop-place.place in
    let at : ℕ → Drive = λ k. drive_at k c.args.bytes.now in
    let before : List Drive = map at (range_with_len 0 place) in
    c.push.ensures.items
    ∙ ap (λ (xs : List Drive). xs ++ c.drive.result ∷ []) c.loop-place.invariant
    ∙ ap (λ (d : Drive). before ++ d ∷ []) c.drive.ensures
    ∙ sym (map-range_with_len_more at 0 place place (zero-add place))
