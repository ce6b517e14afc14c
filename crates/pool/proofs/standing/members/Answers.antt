use Rattle.std.proofs.Common.{◌<◌, cond, List, ℕ, [], ◌∷◌, ◌++◌, filter, length, append-nil, sym, ap, ◌∙◌, arith, lit<}
use Rattle.std.specs.List.{range_with_len}
use Rattle.array_image.specs.Supers.{is_named}
use Rattle.arrayvec.specs.ArrayVec.{ArrayVec}
use Rattle.log_laws.proofs.Naming.{filter_more}
use Rattle.pool.proofs.Rooms.{filter_room}
use Rattle.pool.proofs.standing.members.Goals as goal
use Rattle.pool.proofs.standing.members.Goals.{then-is_named, else-is_named}

pub push-requires : goal.push-requires
push-requires c =
    let truth = c.args.truth.now in
    let place = c.loop-place.place in
    let end = c.len-place-end.ensures.value in
    let test = c.loop-place-test.true in
    let low : place < length truth.roles.items = omega (arith, end, test) in
    let room = filter_room (is_named truth) place (length truth.roles.items) low (sym c.is_named.ensures ∙ c.if-is_named.true) in
    let most = c.requires in
    let many = ap length c.loop-place.invariant in
    (lit< tt, omega (arith, room, most, many))

pub loop-place-preserved : goal.loop-place-preserved
loop-place-preserved c =
    let truth = c.args.truth.now in
    let place = c.loop-place.place in
    let all : List ℕ = filter (is_named truth) (range_with_len 0 place) in
    let more = filter_more (is_named truth) place in
    elim c.if-is_named.branch [
      | then-is_named w ↦
          ap (λ (ps : ArrayVec ℕ). ps.items) w.members-is ∙ w.push.ensures.items ∙ ap (λ (ps : List ℕ). ps ++ place ∷ []) c.loop-place.invariant
          ∙ sym (more ∙ ap (λ b. all ++ cond b (place ∷ []) []) (sym c.is_named.ensures ∙ w.if-is_named.true))
      | else-is_named w ↦
          ap (λ (ps : ArrayVec ℕ). ps.items) w.members-is ∙ c.loop-place.invariant
          ∙ sym (more ∙ ap (λ b. all ++ cond b (place ∷ []) []) (sym c.is_named.ensures ∙ w.if-is_named.false) ∙ append-nil all)
    ]
