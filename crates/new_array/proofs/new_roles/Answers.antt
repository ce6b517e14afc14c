use Rattle.std.proofs.Common.{◌∷◌, ◌++◌, ℕ, List, [], map, length, sym, ap, ◌∙◌, arith, lit<, zero-add}
use Rattle.std.specs.List.{range_with_len}
use Rattle.std.proofs.lemmas.List.FromFn.{length-map-range_with_len, map-range_with_len_more}
use Rattle.new_array.specs.Supers.{role_of}
use Rattle.new_array.proofs.new_roles.Goals as goal

pub push-requires : goal.push-requires
push-requires c =
    let at = role_of c.args.members.now in
    (lit< tt, omega (arith, ap length c.loop-place.invariant, length-map-range_with_len at 0 c.loop-place.place, c.loop-place-test.true))

pub loop-place-preserved : goal.loop-place-preserved
loop-place-preserved c =
    let place = c.loop-place.place in
    let at = role_of c.args.members.now in
    c.push.ensures.items
    ∙ ap (λ (xs : List ℕ). xs ++ c.role_of.result ∷ []) c.loop-place.invariant
    ∙ ap (λ (n : ℕ). map at (range_with_len 0 place) ++ n ∷ []) c.role_of.ensures
    ∙ sym (map-range_with_len_more at 0 place place (zero-add place))
