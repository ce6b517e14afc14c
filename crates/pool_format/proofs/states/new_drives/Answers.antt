use Rattle.std.proofs.Common.{◌∷◌, ◌++◌, ℕ, false, List, [], length, slice_index, sym, ap, ap₂, ◌∙◌, arith, lit<, zero-add}
use Rattle.std.proofs.lemmas.List.FromFn.{length-map-range_with_len, map-range_with_len_more}
use Rattle.pool_state.specs.declared.contents.Drive.{Drive}
use Rattle.pool_format.specs.Parts.{new_drive}
use Rattle.pool_format.proofs.states.new_drives.Goals as goal

pub push-requires : goal.push-requires
push-requires c =
    let at : ℕ → Drive = λ place. new_drive c.args.birth.now place (slice_index c.args.units.now place) in
    (lit< tt, omega (arith, ap length c.loop-place.invariant, length-map-range_with_len at 0 c.loop-place.place, c.loop-place-test.true, c.requires))

pub loop-place-preserved : goal.loop-place-preserved
loop-place-preserved c =
    let place = c.loop-place.place in
    let at : ℕ → Drive = λ p. new_drive c.args.birth.now p (slice_index c.args.units.now p) in
    c.push.ensures.items
    ∙ ap₂ (λ (xs : List Drive) (d : Drive). xs ++ d ∷ []) c.loop-place.invariant
    (ap (λ (id : List ℕ). record { id = record { 0 = id }; units = slice_index c.args.units.now place; missing = false }) c.new_drive_id.ensures)
    ∙ sym (map-range_with_len_more at 0 place place (zero-add place))
