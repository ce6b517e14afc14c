use Rattle.std.proofs.Common.{not, is_ok, slice_set, get_or, refl, ap, arith}
use Rattle.arrayvec.specs.ArrayVec.{with_items}
use Rattle.log_laws.specs.View.{LogView}
use Rattle.array_core.specs.Superblocks.{raised}
use Rattle.pool_state.specs.declared.contents.Work.TheVariants.{Finish}
use Rattle.reshape_laws.specs.Ahead.{finished}
use Rattle.reshape_laws.specs.Reshapes.{lacks_two}
use Rattle.growth_laws.specs.Growing.{Lacks, change_of}
use Rattle.growth_laws.proofs.Due.{ended, may_finish}
use Rattle.growth_laws.proofs.ReshapeDue.{is_moved, ended_keeps, ended_turn}
use Rattle.raid_rack.specs.RaidRack.{no_array, raid_by}
use Rattle.raid_rack.proofs.Grown.{called_own, grows_answered, has_called, logs_there, reshape_answered, reshape_call, step_events}
use Rattle.raid_rack.proofs.RaisedCalls.{raises_call}
use Rattle.raid_rack.proofs.Resynced.{answered_refused, step_later, step_raise}
use Rattle.raid_rack.proofs.Steps.{items_set, same_element}
use Rattle.raid_rack.proofs.arrays.Arrays.finish_array.Goals as goal

pub finish-requires-clause-logs : goal.finish-requires-clause-logs
finish-requires-clause-logs g c j low =
    logs_there c.args.self.now (g.S.Rack.seen c.args.rack.now) c.current_places-on.result.items j c.requires.running c.requires.heeded c.current_places-on.ensures low

pub mend-requires : goal.mend-requires
mend-requires g c =
    let a = c.args.self.now in
    let n = c.args.number in
    let x = g.S.Rack.seen c.args.rack.now in
    let does = may_finish (raid_by a) x n c.requires.running.set c.requires.heeded c.requires.due in
    let low = does.becomes.low in
    let count = c.requires.running.count in
    let one =
    has_called (λ u. finished u (raised u.truth.events)) a (with_items a.all (slice_set c.deref_mut.result.now n c.finish.new.array)) c.finish.new.log x (g.S.Rack.seen c.finish.new.rack) n
    c.clear.new.self.number _ c.finish.new.array c.finish.ensures.reshapes.steps.is_done c.requires.running c.requires.heeded
    (same_element c.deref_mut.result.now a.all.items n _ no_array c.deref_mut.ensures.value (omega (arith, count, low)))
    (items_set a.all c.deref_mut.result.now n c.finish.new.array c.deref_mut.ensures.value)
    (ap (λ (l : LogView). l.number) c.clear.ensures) (step_later c.clear.new.self c.finish.new.log c.finish.ensures.log)
    does.becomes c.finish.ensures.goes.stays c.finish.ensures.reshapes.steps.view in
    record { running = one.running }

pub returns-clause-grows : goal.returns-clause-grows
returns-clause-grows g c =
    let a = c.args.self.now in
    let n = c.args.number in
    let x = g.S.Rack.seen c.args.rack.now in
    let does = may_finish (raid_by a) x n c.requires.running.set c.requires.heeded c.requires.due in
    let low = does.becomes.low in
    let count = c.requires.running.count in
    let all = with_items a.all (slice_set c.deref_mut.result.now n c.finish.new.array) in
    let all_is = items_set a.all c.deref_mut.result.now n c.finish.new.array c.deref_mut.ensures.value in
    let one =
    has_called (λ u. finished u (raised u.truth.events)) a all c.finish.new.log x (g.S.Rack.seen c.finish.new.rack) n
    c.clear.new.self.number _ c.finish.new.array c.finish.ensures.reshapes.steps.is_done c.requires.running c.requires.heeded
    (same_element c.deref_mut.result.now a.all.items n _ no_array c.deref_mut.ensures.value (omega (arith, count, low))) all_is
    (ap (λ (l : LogView). l.number) c.clear.ensures) (step_later c.clear.new.self c.finish.new.log c.finish.ensures.log)
    does.becomes c.finish.ensures.goes.stays c.finish.ensures.reshapes.steps.view in
    grows_answered (change_of (Finish n)) (Lacks (Finish n)) a (record a { all = all; log = c.finish.new.log }) c.mend.new.self x (g.S.Rack.seen c.finish.new.rack) (g.S.Rack.seen c.mend.new.rack) n
    (ended (raid_by a) n) c.finish.new.array c.finish.ensures.reshapes.steps.is_done (is_ok c.finish.result) _
    refl low one (called_own a all n c.finish.new.array count low all_is) c.finish.ensures.reshapes.steps.answer
    (answered_refused (lacks_two c.finish.new.array) _ c.finish.result c.finish.ensures.refused) c.mend.ensures.mends does.longer (ap not c.lacks.ensures) (λ lacking. lacking)

pub returns-clause-raises : goal.returns-clause-raises
returns-clause-raises g c =
    let a = c.args.self.now in
    let n = c.args.number in
    let count = c.requires.running.count in
    let low = (may_finish (raid_by a) (g.S.Rack.seen c.args.rack.now) n c.requires.running.set c.requires.heeded c.requires.due).becomes.low in
    raises_call 1 17 a c.mend.new.self (with_items a.all (slice_set c.deref_mut.result.now n c.finish.new.array)) c.finish.new.log n _ c.finish.new.array count low
    (same_element c.deref_mut.result.now a.all.items n _ no_array c.deref_mut.ensures.value (omega (arith, count, low)))
    (items_set a.all c.deref_mut.result.now n c.finish.new.array c.deref_mut.ensures.value)
    (let up = step_raise c.clear.new.self c.finish.new.log c.finish.ensures.log in let e = ap (λ (l : LogView). l.number) c.clear.ensures in omega (arith, up, e))
    (step_events _ _ c.finish.new.array (g.S.Rack.seen c.args.rack.now) (g.S.Rack.seen c.finish.new.rack) c.finish.ensures.reshapes.steps.is_done refl c.finish.ensures.reshapes.steps.view)
    c.mend.ensures.raises

pub returns-clause-runs : goal.returns-clause-runs
returns-clause-runs g c = g.met.S.Rack.runs_then _ _ _ c.finish.ensures.runs c.mend.ensures.runs

pub returns-clause-contents : goal.returns-clause-contents
returns-clause-contents g c =
    let a = c.args.self.now in
    let n = c.args.number in
    let x = g.S.Rack.seen c.args.rack.now in
    let y = g.S.Rack.seen c.finish.new.rack in
    let z = g.S.Rack.seen c.mend.new.rack in
    let does = may_finish (raid_by a) x n c.requires.running.set c.requires.heeded c.requires.due in
    let is = is_moved (raid_by a) x n c.requires.running.set c.requires.heeded c.requires.due in
    let low = does.becomes.low in
    let count = c.requires.running.count in
    let on = c.current_places-on.result.items in
    let all = with_items a.all (slice_set c.deref_mut.result.now n c.finish.new.array) in
    let all_is = items_set a.all c.deref_mut.result.now n c.finish.new.array c.deref_mut.ensures.value in
    let one =
    reshape_call (λ u. finished u (raised u.truth.events)) a all c.finish.new.log x y n c.clear.new.self.number _ c.finish.new.array on (is_ok c.finish.result) c.requires.running c.requires.heeded
    is.rest does.becomes (ended_keeps (raid_by a) x n c.requires.running.set is)
    (same_element c.deref_mut.result.now a.all.items n _ no_array c.deref_mut.ensures.value (omega (arith, count, low))) all_is
    (ap (λ (l : LogView). l.number) c.clear.ensures) (step_later c.clear.new.self c.finish.new.log c.finish.ensures.log)
    c.current_places-on.ensures c.went-places.ensures.few c.finish.ensures.goes c.finish.ensures.reshapes in
    reshape_answered (change_of (Finish n)) (Lacks (Finish n)) a c.mend.new.self all c.finish.new.log x y z n (ended (raid_by a) n) c.finish.new.array on (is_ok c.finish.result) _ one refl
    (called_own a all n c.finish.new.array count low all_is) (answered_refused (lacks_two c.finish.new.array) _ c.finish.result c.finish.ensures.refused) c.mend.ensures.mends does.longer
    (ap not c.lacks.ensures) (λ lacking. lacking)
    (ended_turn (raid_by a) (λ k. get_or all.items k no_array) c.finish.new.log.number n x y on (is_ok c.finish.result) one is (raid_by c.mend.new.self) z c.mend.ensures.losses)
