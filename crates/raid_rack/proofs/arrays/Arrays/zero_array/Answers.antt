use Rattle.std.proofs.Common.{◌≡◌, ◌+◌, ◌-◌, ◌<◌, ◌≤◌, ◌||◌, get_or, slice_set, is_ok, ap, refl, sym, subst, ◌∙◌, ◌/◌, arith}
use Rattle.arrayvec.specs.ArrayVec.{with_items}
use Rattle.array_image.specs.SoundArray.{first_unsynced}
use Rattle.log_laws.specs.View.{LogView}
use Rattle.array_model.specs.View.{View, rows_of}
use Rattle.sync_laws.specs.Rows.{lacks_two}
use Rattle.sync_laws.specs.Steps.{zeroed}
use Rattle.growth_laws.specs.Growing.{is_ended}
use Rattle.growth_laws.proofs.Zeroed.{has_row_to_zero, may_zero}
use Rattle.raid_rack.specs.RaidRack.{no_array, raid_by}
use Rattle.raid_rack.proofs.Grown.{called_own, has_called, logs_there, step_events}
use Rattle.raid_rack.proofs.RaisedCalls.{raises_call}
use Rattle.raid_rack.proofs.Resynced.{answered_refused, step_later, step_raise}
use Rattle.raid_rack.proofs.Steps.{items_set, same_element}
use Rattle.raid_rack.proofs.Zeroed.{called_rows, zeros_answered}
use Rattle.raid_rack.proofs.arrays.Arrays.zero_array.Goals as goal

pub zero_rows-zeroed-requires-clause-logs : goal.zero_rows-zeroed-requires-clause-logs
zero_rows-zeroed-requires-clause-logs g c j low =
    logs_there c.args.self.now (g.S.Rack.seen c.args.rack.now) c.current_places-on.result.items j c.requires.running c.requires.heeded c.current_places-on.ensures low

pub mend-requires : goal.mend-requires
mend-requires g c =
    let a = c.args.self.now in
    let n = c.args.number in
    let x = g.S.Rack.seen c.args.rack.now in
    let y = g.S.Rack.seen c.zero_rows-zeroed.new.rack in
    let old = get_or c.deref_mut.result.now n c.index-deref_mut-number.result in
    let count = c.requires.running.count in
    let has = has_row_to_zero (raid_by a) n c.requires.due in
    let low = has.low in
    let done = c.zero_rows-zeroed.ensures.zeroes in
    let same : old ≡ (raid_by a).arrays n =
    same_element c.deref_mut.result.now a.all.items n c.index-deref_mut-number.result no_array c.deref_mut.ensures.value (omega (arith, count, low)) in
    let one = has_called (λ u. zeroed u done.rows) a (with_items a.all (slice_set c.deref_mut.result.now n c.zero_rows-zeroed.new.array)) c.zero_rows-zeroed.new.log x y n c.clear.new.self.number old c.zero_rows-zeroed.new.array
    done.steps.is_done c.requires.running c.requires.heeded same (items_set a.all c.deref_mut.result.now n c.zero_rows-zeroed.new.array c.deref_mut.ensures.value)
    (ap (λ (l : LogView). l.number) c.clear.ensures) (step_later c.clear.new.self c.zero_rows-zeroed.new.log c.zero_rows-zeroed.ensures.log)
    (may_zero (raid_by a) n done.rows x c.requires.running.set c.requires.heeded has) c.zero_rows-zeroed.ensures.goes.stays done.steps.view in
    record { running = one.running }

pub lacks_from-requires-clause-row : goal.lacks_from-requires-clause-row
lacks_from-requires-clause-row g c =
    let a = c.args.self.now in
    let n = c.args.number in
    let x = g.S.Rack.seen c.args.rack.now in
    let y = g.S.Rack.seen c.zero_rows-zeroed.new.rack in
    let old = get_or c.deref_mut.result.now n c.index-deref_mut-number.result in
    let count = c.requires.running.count in
    let has = has_row_to_zero (raid_by a) n c.requires.due in
    let low = has.low in
    let done = c.zero_rows-zeroed.ensures.zeroes in
    let same : old ≡ (raid_by a).arrays n =
    same_element c.deref_mut.result.now a.all.items n c.index-deref_mut-number.result no_array c.deref_mut.ensures.value (omega (arith, count, low)) in
    let one = has_called (λ u. zeroed u done.rows) a (with_items a.all (slice_set c.deref_mut.result.now n c.zero_rows-zeroed.new.array)) c.zero_rows-zeroed.new.log x y n c.clear.new.self.number old c.zero_rows-zeroed.new.array
    done.steps.is_done c.requires.running c.requires.heeded same (items_set a.all c.deref_mut.result.now n c.zero_rows-zeroed.new.array c.deref_mut.ensures.value)
    (ap (λ (l : LogView). l.number) c.clear.ensures) (step_later c.clear.new.self c.zero_rows-zeroed.new.log c.zero_rows-zeroed.ensures.log)
    (may_zero (raid_by a) n done.rows x c.requires.running.set c.requires.heeded has) c.zero_rows-zeroed.ensures.goes.stays done.steps.view in
    let first : c.first_unzeroed-unzeroed.result ≡ first_unsynced ((raid_by a).arrays n).truth =
    c.first_unzeroed-unzeroed.ensures
    ∙ ap (λ (u : View). first_unsynced u.truth) (c.index-deref-number.is ∙ same_element c.deref.result.now a.all.items n c.index-deref-number.result no_array c.deref.ensures.0 (omega (arith, count, low))) in
    let size : rows_of ((raid_by c.mend.new.self).arrays n) ≡ rows_of ((raid_by a).arrays n) =
    ap (λ k. k / 128) (c.mend.ensures.mends.moves.arrays n low).same.geometry.size
    ∙ called_rows (raid_by a) _ n done.rows x y done.steps.is_done one.calls low in
    let has_row = has.row in
    omega (arith, first, size, has_row)

pub returns-clause-grows : goal.returns-clause-grows
returns-clause-grows g c =
    let a = c.args.self.now in
    let n = c.args.number in
    let x = g.S.Rack.seen c.args.rack.now in
    let y = g.S.Rack.seen c.zero_rows-zeroed.new.rack in
    let old = get_or c.deref_mut.result.now n c.index-deref_mut-number.result in
    let count = c.requires.running.count in
    let has = has_row_to_zero (raid_by a) n c.requires.due in
    let low = has.low in
    let done = c.zero_rows-zeroed.ensures.zeroes in
    let same : old ≡ (raid_by a).arrays n =
    same_element c.deref_mut.result.now a.all.items n c.index-deref_mut-number.result no_array c.deref_mut.ensures.value (omega (arith, count, low)) in
    let left : done.rows ≤ rows_of ((raid_by a).arrays n) - first_unsynced ((raid_by a).arrays n).truth = subst (λ (u : View). done.rows ≤ rows_of u - first_unsynced u.truth) same done.left in
    let one = has_called (λ u. zeroed u done.rows) a (with_items a.all (slice_set c.deref_mut.result.now n c.zero_rows-zeroed.new.array)) c.zero_rows-zeroed.new.log x y n c.clear.new.self.number old c.zero_rows-zeroed.new.array
    done.steps.is_done c.requires.running c.requires.heeded same (items_set a.all c.deref_mut.result.now n c.zero_rows-zeroed.new.array c.deref_mut.ensures.value)
    (ap (λ (l : LogView). l.number) c.clear.ensures) (step_later c.clear.new.self c.zero_rows-zeroed.new.log c.zero_rows-zeroed.ensures.log)
    (may_zero (raid_by a) n done.rows x c.requires.running.set c.requires.heeded has) c.zero_rows-zeroed.ensures.goes.stays done.steps.view in
    let first : c.first_unzeroed-unzeroed.result ≡ first_unsynced ((raid_by a).arrays n).truth =
    c.first_unzeroed-unzeroed.ensures
    ∙ ap (λ (u : View). first_unsynced u.truth) (c.index-deref-number.is ∙ same_element c.deref.result.now a.all.items n c.index-deref-number.result no_array c.deref.ensures.0 (omega (arith, count, low))) in
    let w = raid_by c.mend.new.self in
    let unzeroed = first_unsynced ((raid_by a).arrays n).truth in
    let own = called_own a (with_items a.all (slice_set c.deref_mut.result.now n c.zero_rows-zeroed.new.array)) n c.zero_rows-zeroed.new.array count low
    (items_set a.all c.deref_mut.result.now n c.zero_rows-zeroed.new.array c.deref_mut.ensures.value) in
    zeros_answered a _ c.mend.new.self x y (g.S.Rack.seen c.mend.new.rack) n c.args.most done.rows done.steps.is_done c.zero_rows-zeroed.result c.answered.result c.lacks_from.result
    done.some done.few left done.answer one low done.steps.answer
    (λ none.
    ap (λ (u : View). lacks_two u unzeroed) own ∙ ap (λ (u : View). lacks_two c.zero_rows-zeroed.new.array (first_unsynced u.truth)) (sym same)
    ∙ answered_refused _ _ c.zero_rows-zeroed.result c.zero_rows-zeroed.ensures.refused none)
    c.mend.ensures.mends
    (c.lacks_from.ensures ∙ ap (λ r. is_ended w || lacks_two (w.arrays n) r) first)
    c.answered.ensures.done c.answered.ensures.refused

pub returns-clause-raises : goal.returns-clause-raises
returns-clause-raises g c =
    let a = c.args.self.now in
    let n = c.args.number in
    let x = g.S.Rack.seen c.args.rack.now in
    let y = g.S.Rack.seen c.zero_rows-zeroed.new.rack in
    let old = get_or c.deref_mut.result.now n c.index-deref_mut-number.result in
    let count = c.requires.running.count in
    let low = (has_row_to_zero (raid_by a) n c.requires.due).low in
    let done = c.zero_rows-zeroed.ensures.zeroes in
    raises_call 1 17 a c.mend.new.self (with_items a.all (slice_set c.deref_mut.result.now n c.zero_rows-zeroed.new.array)) c.zero_rows-zeroed.new.log n old c.zero_rows-zeroed.new.array
    count low
    (same_element c.deref_mut.result.now a.all.items n c.index-deref_mut-number.result no_array c.deref_mut.ensures.value (omega (arith, count, low)))
    (items_set a.all c.deref_mut.result.now n c.zero_rows-zeroed.new.array c.deref_mut.ensures.value)
    (let up = step_raise c.clear.new.self c.zero_rows-zeroed.new.log c.zero_rows-zeroed.ensures.log in let e = ap (λ (l : LogView). l.number) c.clear.ensures in omega (arith, up, e))
    (step_events old (zeroed old done.rows) c.zero_rows-zeroed.new.array x y done.steps.is_done refl done.steps.view)
    c.mend.ensures.raises

pub returns-clause-runs : goal.returns-clause-runs
returns-clause-runs g c = g.met.S.Rack.runs_then _ _ _ c.zero_rows-zeroed.ensures.runs c.mend.ensures.runs
