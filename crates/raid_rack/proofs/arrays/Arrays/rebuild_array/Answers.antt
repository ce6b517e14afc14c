use Rattle.std.proofs.Common.{◌≤◌, get_or, slice_set, is_ok, ap, sym, subst, arith}
use Rattle.std.proofs.lemmas.Option.{slice_get-get_or}
use Rattle.arrayvec.specs.ArrayVec.{with_items}
use Rattle.log_laws.specs.View.{LogView}
use Rattle.array_model.specs.View.{View}
use Rattle.sync_laws.specs.Steps.{HasRowLeft, rebuilt, rows_left}
use Rattle.growth_laws.proofs.RowMakes.{rebuild_turn}
use Rattle.raid_rack.specs.RaidRack.{no_array, raid_by}
use Rattle.raid_rack.proofs.Mended.{on_named}
use Rattle.raid_laws.proofs.Noted.{current_few}
use Rattle.raid_rack.proofs.RaisedCalls.{raises_call}
use Rattle.raid_rack.proofs.Rebuilt.{answered_refused_not, has_rebuilt, part_before, rebuilds_rows, rebuilding_parts, rebuilt_call, rebuilt_raise, row_left}
use Rattle.raid_rack.proofs.Resynced.{done_alone, rows_made, step_later, step_raise}
use Rattle.raid_rack.proofs.Steps.{same_element, items_set}
use Rattle.raid_laws.proofs.Whole.{heeded_left}
use Rattle.raid_rack.proofs.TruthTurns.{truths_step}
use Rattle.raid_rack.proofs.arrays.Arrays.rebuild_array.Goals as goal

pub rebuild_rows-rows-requires-clause-logs : goal.rebuild_rows-rows-requires-clause-logs
rebuild_rows-rows-requires-clause-logs g c j low =
    let s = c.args.self.now.state in
    let on = c.current_places-on.result.items in
    let current = on_named s on j (get_or on j 0) c.current_places-on.ensures (slice_get-get_or on j 0 low) in
    (current_few s (get_or on j 0) c.requires.running.set.few current, c.requires.running.set.logs (get_or on j 0) (heeded_left (raid_by c.args.self.now) (get_or on j 0) c.requires.heeded current))

pub rebuild_rows-rows-requires-clause-row : goal.rebuild_rows-rows-requires-clause-row
rebuild_rows-rows-requires-clause-row g c =
    let a = c.args.self.now in
    let n = c.args.number in
    let count = c.requires.running.count in
    let asked = rebuilding_parts (raid_by a) n c.args.place c.requires.rebuilding in
    let low = asked.0 in
    subst (λ (u : View). HasRowLeft u c.args.place) (sym (same_element c.deref_mut.result.now a.all.items n _ no_array c.deref_mut.ensures.value (omega (arith, count, low))))
    (row_left a.state n ((raid_by a).arrays n) (g.S.Rack.seen c.args.rack.now) c.args.place (c.requires.running.set.arrays n low) asked.1)

pub mend-requires : goal.mend-requires
mend-requires g c =
    let a = c.args.self.now in
    let n = c.args.number in
    let place = c.args.place in
    let v = raid_by a in
    let x = g.S.Rack.seen c.args.rack.now in
    let y = g.S.Rack.seen c.rebuild_rows-rows.new.rack in
    let count = c.requires.running.count in
    let asked = rebuilding_parts v n place c.requires.rebuilding in
    let low = asked.0 in
    let number = ap (λ (l : LogView). l.number) c.clear.ensures in
    let same = same_element c.deref_mut.result.now a.all.items n _ no_array c.deref_mut.ensures.value (omega (arith, count, low)) in
    let done = c.rebuild_rows-rows.ensures.steps in
    let one = has_rebuilt a (with_items a.all (slice_set c.deref_mut.result.now n c.rebuild_rows-rows.new.array)) c.rebuild_rows-rows.new.log x y n place done.rows c.current_places-on.result.items c.clear.new.self.number _ c.rebuild_rows-rows.new.array (is_ok c.rebuild_rows-rows.result)
    c.requires.running c.requires.heeded low (row_left a.state n (v.arrays n) x place (c.requires.running.set.arrays n low) asked.1) asked.2 same
    (items_set a.all c.deref_mut.result.now n c.rebuild_rows-rows.new.array c.deref_mut.ensures.value)
    number (step_later c.clear.new.self c.rebuild_rows-rows.new.log c.rebuild_rows-rows.ensures.log) c.current_places-on.ensures c.went-places.ensures.few c.rebuild_rows-rows.ensures.goes
    (record {
      left = done.left;
      steps = done.steps;
      elsewhere = c.rebuild_rows-rows.ensures.elsewhere;
      refused = answered_refused_not _ _ c.rebuild_rows-rows.result c.rebuild_rows-rows.ensures.refused;
    }) in
    record { running = one.running }

pub returns-clause-rebuilds : goal.returns-clause-rebuilds
returns-clause-rebuilds g c =
    let a = c.args.self.now in
    let n = c.args.number in
    let place = c.args.place in
    let v = raid_by a in
    let x = g.S.Rack.seen c.args.rack.now in
    let y = g.S.Rack.seen c.rebuild_rows-rows.new.rack in
    let count = c.requires.running.count in
    let asked = rebuilding_parts v n place c.requires.rebuilding in
    let low = asked.0 in
    let number = ap (λ (l : LogView). l.number) c.clear.ensures in
    let same = same_element c.deref_mut.result.now a.all.items n _ no_array c.deref_mut.ensures.value (omega (arith, count, low)) in
    let done = c.rebuild_rows-rows.ensures.steps in
    let one = has_rebuilt a (with_items a.all (slice_set c.deref_mut.result.now n c.rebuild_rows-rows.new.array)) c.rebuild_rows-rows.new.log x y n place done.rows c.current_places-on.result.items c.clear.new.self.number _ c.rebuild_rows-rows.new.array (is_ok c.rebuild_rows-rows.result)
    c.requires.running c.requires.heeded low (row_left a.state n (v.arrays n) x place (c.requires.running.set.arrays n low) asked.1) asked.2 same
    (items_set a.all c.deref_mut.result.now n c.rebuild_rows-rows.new.array c.deref_mut.ensures.value)
    number (step_later c.clear.new.self c.rebuild_rows-rows.new.log c.rebuild_rows-rows.ensures.log) c.current_places-on.ensures c.went-places.ensures.few c.rebuild_rows-rows.ensures.goes
    (record {
      left = done.left;
      steps = done.steps;
      elsewhere = c.rebuild_rows-rows.ensures.elsewhere;
      refused = answered_refused_not _ _ c.rebuild_rows-rows.result c.rebuild_rows-rows.ensures.refused;
    }) in
    let inside : done.rows ≤ rows_left (v.arrays n) place = subst (λ (z : View). done.rows ≤ rows_left z place) same done.left in
    rebuilds_rows a _ c.mend.new.self x y (g.S.Rack.seen c.mend.new.rack) n place c.args.most done.rows c.rebuild_rows-rows.result c.is_ended.result c.answered.result low
    done.some done.few inside done.answer one c.mend.ensures.mends c.is_ended.ensures c.answered.ensures.done c.answered.ensures.refused

pub returns-clause-contents : goal.returns-clause-contents
returns-clause-contents g c =
    let a = c.args.self.now in
    let n = c.args.number in
    let place = c.args.place in
    let v = raid_by a in
    let x = g.S.Rack.seen c.args.rack.now in
    let y = g.S.Rack.seen c.rebuild_rows-rows.new.rack in
    let count = c.requires.running.count in
    let asked = rebuilding_parts v n place c.requires.rebuilding in
    let low = asked.0 in
    let number = ap (λ (l : LogView). l.number) c.clear.ensures in
    let same = same_element c.deref_mut.result.now a.all.items n _ no_array c.deref_mut.ensures.value (omega (arith, count, low)) in
    let done = c.rebuild_rows-rows.ensures.steps in
    let call = rebuilt_call a (with_items a.all (slice_set c.deref_mut.result.now n c.rebuild_rows-rows.new.array)) c.rebuild_rows-rows.new.log x y n place done.rows c.current_places-on.result.items c.clear.new.self.number _ c.rebuild_rows-rows.new.array (is_ok c.rebuild_rows-rows.result)
    c.requires.running c.requires.heeded low (row_left a.state n (v.arrays n) x place (c.requires.running.set.arrays n low) asked.1) asked.2 same
    (items_set a.all c.deref_mut.result.now n c.rebuild_rows-rows.new.array c.deref_mut.ensures.value)
    number (step_later c.clear.new.self c.rebuild_rows-rows.new.log c.rebuild_rows-rows.ensures.log) c.current_places-on.ensures c.went-places.ensures.few c.rebuild_rows-rows.ensures.goes
    (record {
      left = done.left;
      steps = done.steps;
      elsewhere = c.rebuild_rows-rows.ensures.elsewhere;
      refused = answered_refused_not _ _ c.rebuild_rows-rows.result c.rebuild_rows-rows.ensures.refused;
    }) in
    let inside : done.rows ≤ rows_left (v.arrays n) place = subst (λ (z : View). done.rows ≤ rows_left z place) same done.left in
    let all = with_items a.all (slice_set c.deref_mut.result.now n c.rebuild_rows-rows.new.array) in
    let seated = c.requires.running.set.arrays n low in
    let part = part_before a.state n (v.arrays n) x place done.rows seated (row_left a.state n (v.arrays n) x place seated asked.1) inside in
    let w = raid_by c.mend.new.self in
    let z = g.S.Rack.seen c.mend.new.rack in
    let on = c.current_places-on.result.items in
    rows_made a c.mend.new.self all c.rebuild_rows-rows.new.log x y z n (rows_left (v.arrays n) place) c.args.most (rebuilt (v.arrays n) place) on c.rebuild_rows-rows.new.array
    c.rebuild_rows-rows.result c.answered.result done.rows done.some done.few inside done.answer c.requires.running
    (items_set a.all c.deref_mut.result.now n c.rebuild_rows-rows.new.array c.deref_mut.ensures.value) call c.mend.ensures.mends
    (done_alone _ _ c.answered.result c.answered.ensures.done)
    (rebuild_turn v (λ k. get_or all.items k no_array) c.rebuild_rows-rows.new.log.number n place done.rows x y on (is_ok c.rebuild_rows-rows.result) c.requires.running.set call part
    w z c.mend.ensures.losses)

pub returns-clause-raises : goal.returns-clause-raises
returns-clause-raises g c =
    let a = c.args.self.now in
    let n = c.args.number in
    let count = c.requires.running.count in
    let asked = rebuilding_parts (raid_by a) n c.args.place c.requires.rebuilding in
    let low = asked.0 in
    raises_call 1 17 a c.mend.new.self (with_items a.all (slice_set c.deref_mut.result.now n c.rebuild_rows-rows.new.array)) c.rebuild_rows-rows.new.log n _ c.rebuild_rows-rows.new.array
    c.requires.running.count low
    (same_element c.deref_mut.result.now a.all.items n _ no_array c.deref_mut.ensures.value (omega (arith, count, low)))
    (items_set a.all c.deref_mut.result.now n c.rebuild_rows-rows.new.array c.deref_mut.ensures.value)
    (let up = step_raise c.clear.new.self c.rebuild_rows-rows.new.log c.rebuild_rows-rows.ensures.log in let e = ap (λ (l : LogView). l.number) c.clear.ensures in omega (arith, up, e))
    (rebuilt_raise _ c.rebuild_rows-rows.new.array c.args.place c.rebuild_rows-rows.ensures.steps.rows (g.S.Rack.seen c.args.rack.now) (g.S.Rack.seen c.rebuild_rows-rows.new.rack) c.rebuild_rows-rows.ensures.steps.steps.is_done c.rebuild_rows-rows.ensures.steps.steps.view)
    c.mend.ensures.raises

pub returns-clause-runs : goal.returns-clause-runs
returns-clause-runs g c = g.met.S.Rack.runs_then _ _ _ c.rebuild_rows-rows.ensures.runs c.mend.ensures.runs

pub returns-clause-truths : goal.returns-clause-truths
returns-clause-truths g c =
    let a = c.args.self.now in
    let n = c.args.number in
    let place = c.args.place in
    let v = raid_by a in
    let x = g.S.Rack.seen c.args.rack.now in
    let y = g.S.Rack.seen c.rebuild_rows-rows.new.rack in
    let count = c.requires.running.count in
    let asked = rebuilding_parts v n place c.requires.rebuilding in
    let low = asked.0 in
    let number = ap (λ (l : LogView). l.number) c.clear.ensures in
    let same = same_element c.deref_mut.result.now a.all.items n _ no_array c.deref_mut.ensures.value (omega (arith, count, low)) in
    truths_step a c.mend.new.self (with_items a.all (slice_set c.deref_mut.result.now n c.rebuild_rows-rows.new.array)) c.rebuild_rows-rows.new.log n _ c.rebuild_rows-rows.new.array x y (g.S.Rack.seen c.mend.new.rack) c.requires.running low same
    (items_set a.all c.deref_mut.result.now n c.rebuild_rows-rows.new.array c.deref_mut.ensures.value) c.mend.ensures.truths
    c.current_places-on.result.items c.rebuild_rows-rows.ensures.goes.stays c.rebuild_rows-rows.ensures.steps.steps.truth c.rebuild_rows-rows.ensures.elsewhere
