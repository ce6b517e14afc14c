use Rattle.std.proofs.Common.{◌-◌, ◌≤◌, get_or, is_ok, slice_set, subst, refl, ap, arith}
use Rattle.arrayvec.specs.ArrayVec.{with_items}
use Rattle.log_laws.specs.View.{LogView}
use Rattle.array_model.specs.View.{View, rows_of}
use Rattle.array_core.specs.Superblocks.{raised}
use Rattle.reshape_laws.specs.Ahead.{ahead_by, next_row}
use Rattle.reshape_laws.specs.Reshapes.{lacks_two}
use Rattle.growth_laws.proofs.Due.{moved, may_move, move_low}
use Rattle.growth_laws.proofs.ReshapeDue.{is_moving, moved_keeps, moved_turn}
use Rattle.raid_rack.specs.RaidRack.{no_array, raid_by}
use Rattle.raid_rack.proofs.Grown.{called_own, has_called, logs_there, reshape_call, rows_answered, step_events}
use Rattle.raid_rack.proofs.RaisedCalls.{raises_call}
use Rattle.raid_rack.proofs.Resynced.{answered_refused, step_later, step_raise}
use Rattle.raid_rack.proofs.Steps.{items_set, same_element}
use Rattle.raid_rack.proofs.arrays.Arrays.move_rows.Goals as goal

pub rows-moved-requires-clause-logs : goal.rows-moved-requires-clause-logs
rows-moved-requires-clause-logs g c j low =
    logs_there c.args.self.now (g.S.Rack.seen c.args.rack.now) c.current_places-on.result.items j c.requires.running c.requires.heeded c.current_places-on.ensures low

pub mend-requires : goal.mend-requires
mend-requires g c =
    let a = c.args.self.now in
    let n = c.args.number in
    let x = g.S.Rack.seen c.args.rack.now in
    let low = move_low (raid_by a) n c.requires.due in
    let count = c.requires.running.count in
    let same = same_element c.deref_mut.result.now a.all.items n _ no_array c.deref_mut.ensures.value (omega (arith, count, low)) in
    let done = c.rows-moved.ensures.reshapes in
    let some = done.some in
    let left : done.rows ≤ rows_of ((raid_by a).arrays n) - next_row ((raid_by a).arrays n) = subst (λ (u : View). done.rows ≤ rows_of u - next_row u) same done.left in
    let does = may_move (raid_by a) x n done.rows c.requires.running.set c.requires.heeded c.requires.due (omega (arith, some, left)) in
    let one =
    has_called (λ u. ahead_by u done.rows (raised u.truth.events)) a (with_items a.all (slice_set c.deref_mut.result.now n c.rows-moved.new.array)) c.rows-moved.new.log x (g.S.Rack.seen c.rows-moved.new.rack) n
    c.clear.new.self.number _ c.rows-moved.new.array done.steps.steps.is_done c.requires.running c.requires.heeded
    same
    (items_set a.all c.deref_mut.result.now n c.rows-moved.new.array c.deref_mut.ensures.value)
    (ap (λ (l : LogView). l.number) c.clear.ensures) (step_later c.clear.new.self c.rows-moved.new.log c.rows-moved.ensures.log)
    does.becomes c.rows-moved.ensures.goes.stays done.steps.steps.view in
    record { running = one.running }

pub returns-clause-grows : goal.returns-clause-grows
returns-clause-grows g c =
    let a = c.args.self.now in
    let n = c.args.number in
    let x = g.S.Rack.seen c.args.rack.now in
    let y = g.S.Rack.seen c.rows-moved.new.rack in
    let z = g.S.Rack.seen c.mend.new.rack in
    let low = move_low (raid_by a) n c.requires.due in
    let count = c.requires.running.count in
    let same = same_element c.deref_mut.result.now a.all.items n _ no_array c.deref_mut.ensures.value (omega (arith, count, low)) in
    let done = c.rows-moved.ensures.reshapes in
    let some = done.some in
    let left : done.rows ≤ rows_of ((raid_by a).arrays n) - next_row ((raid_by a).arrays n) = subst (λ (u : View). done.rows ≤ rows_of u - next_row u) same done.left in
    let does = may_move (raid_by a) x n done.rows c.requires.running.set c.requires.heeded c.requires.due (omega (arith, some, left)) in
    let is = is_moving (raid_by a) x n c.requires.running.set c.requires.heeded c.requires.due in
    let on = c.current_places-on.result.items in
    let all = with_items a.all (slice_set c.deref_mut.result.now n c.rows-moved.new.array) in
    let all_is = items_set a.all c.deref_mut.result.now n c.rows-moved.new.array c.deref_mut.ensures.value in
    let one =
    reshape_call (λ u. ahead_by u done.rows (raised u.truth.events)) a all c.rows-moved.new.log x y n c.clear.new.self.number _ c.rows-moved.new.array on (is_ok c.rows-moved.result)
    c.requires.running c.requires.heeded is.rest does.becomes (moved_keeps (raid_by a) x n done.rows c.requires.running.set is some (omega (arith, some, left)))
    same all_is
    (ap (λ (l : LogView). l.number) c.clear.ensures) (step_later c.clear.new.self c.rows-moved.new.log c.rows-moved.ensures.log)
    c.current_places-on.ensures c.went-places.ensures.few c.rows-moved.ensures.goes done.steps in
    rows_answered a c.mend.new.self all c.rows-moved.new.log x y z n c.args.most (λ rows. moved rows (raid_by a) n) c.rows-moved.new.array on c.rows-moved.result c.answered.result done.rows
    some done.few left done.answer one refl (called_own a all n c.rows-moved.new.array count low all_is)
    (answered_refused (lacks_two c.rows-moved.new.array) _ c.rows-moved.result c.rows-moved.ensures.refused) c.mend.ensures.mends does.longer
    c.lacks.result c.lacks.ensures c.answered.ensures.done c.answered.ensures.refused
    (moved_turn (raid_by a) (λ k. get_or all.items k no_array) c.rows-moved.new.log.number n done.rows x y on (is_ok c.rows-moved.result) one is (raid_by c.mend.new.self) z c.mend.ensures.losses)

pub returns-clause-raises : goal.returns-clause-raises
returns-clause-raises g c =
    let a = c.args.self.now in
    let n = c.args.number in
    let count = c.requires.running.count in
    let low = move_low (raid_by a) n c.requires.due in
    let done = c.rows-moved.ensures.reshapes in
    raises_call 1 17 a c.mend.new.self (with_items a.all (slice_set c.deref_mut.result.now n c.rows-moved.new.array)) c.rows-moved.new.log n _ c.rows-moved.new.array count low
    (same_element c.deref_mut.result.now a.all.items n _ no_array c.deref_mut.ensures.value (omega (arith, count, low)))
    (items_set a.all c.deref_mut.result.now n c.rows-moved.new.array c.deref_mut.ensures.value)
    (let up = step_raise c.clear.new.self c.rows-moved.new.log c.rows-moved.ensures.log in let e = ap (λ (l : LogView). l.number) c.clear.ensures in omega (arith, up, e))
    (step_events _ _ c.rows-moved.new.array (g.S.Rack.seen c.args.rack.now) (g.S.Rack.seen c.rows-moved.new.rack) done.steps.steps.is_done refl done.steps.steps.view)
    c.mend.ensures.raises

pub returns-clause-runs : goal.returns-clause-runs
returns-clause-runs g c = g.met.S.Rack.runs_then _ _ _ c.rows-moved.ensures.runs c.mend.ensures.runs
