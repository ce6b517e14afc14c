use Rattle.std.proofs.Common.{ℕ, ◌≡◌, ◌<◌, ◌≤◌, ◌-◌, false, get_or, slice_set, is_ok, ap, sym, subst, ◌∙◌, arith}
use Rattle.std.proofs.lemmas.Option.{slice_get-get_or}
use Rattle.arrayvec.specs.ArrayVec.{with_items}
use Rattle.log_laws.specs.View.{LogView}
use Rattle.array_model.specs.View.{View, rows_of}
use Rattle.sync_laws.specs.Rows.{lacks_row}
use Rattle.sync_laws.specs.Steps.{resynced}
use Rattle.growth_laws.proofs.RowMakes.{resync_turn}
use Rattle.raid_rack.specs.RaidRack.{no_array, raid_by}
use Rattle.raid_laws.specs.Works.{is_stuck}
use Rattle.raid_laws.specs.Losing.{only_then}
use Rattle.raid_rack.proofs.Mended.{on_named}
use Rattle.raid_laws.proofs.Noted.{current_few}
use Rattle.raid_rack.proofs.RaisedCalls.{raises_call}
use Rattle.raid_rack.proofs.Resynced.{HasStepped, answered_refused, done_alone, grown, has_resynced, resynced_call, resynced_raise, resynced_settled, rows_made, rows_mended, step_later, step_raise, stepped_rows}
use Rattle.raid_rack.proofs.Steps.{same_element, items_set}
use Rattle.raid_laws.proofs.Whole.{heeded_left}
use Rattle.raid_rack.proofs.Worked.{resyncs_rows}
use Rattle.raid_rack.proofs.TruthTurns.{truths_step}
use Rattle.raid_rack.proofs.arrays.Arrays.resync_array.Given.{Over}
use Rattle.raid_rack.proofs.arrays.Arrays.resync_array.Goals.{After-went-places}
use Rattle.raid_rack.proofs.arrays.Arrays.resync_array.Goals as goal

pub resync_rows-rows-requires-clause-logs : goal.resync_rows-rows-requires-clause-logs
resync_rows-rows-requires-clause-logs g c j low =
    let s = c.args.self.now.state in
    let on = c.current_places-on.result.items in
    let current = on_named s on j (get_or on j 0) c.current_places-on.ensures (slice_get-get_or on j 0 low) in
    (current_few s (get_or on j 0) c.requires.running.set.few current, c.requires.running.set.logs (get_or on j 0) (heeded_left (raid_by c.args.self.now) (get_or on j 0) c.requires.heeded current))

pub resync_rows-rows-requires-clause-grown : goal.resync_rows-rows-requires-clause-grown
resync_rows-rows-requires-clause-grown g c =
    let a = c.args.self.now in
    let n = c.args.number in
    let count = c.requires.running.count in
    let low = c.requires.number in
    subst (λ (u : View). u.young ≡ false) (sym (same_element c.deref_mut.result.now a.all.items n _ no_array c.deref_mut.ensures.value (omega (arith, count, low))))
    (grown a.state n ((raid_by a).arrays n) (g.S.Rack.seen c.args.rack.now) (c.requires.running.set.arrays n low) c.requires.row)

pub resync_rows-rows-requires-clause-row : goal.resync_rows-rows-requires-clause-row
resync_rows-rows-requires-clause-row g c =
    let a = c.args.self.now in
    let n = c.args.number in
    let count = c.requires.running.count in
    let low = c.requires.number in
    subst (λ (u : View). u.resync < rows_of u) (sym (same_element c.deref_mut.result.now a.all.items n _ no_array c.deref_mut.ensures.value (omega (arith, count, low)))) c.requires.row

one : (g : Over) (c : After-went-places g)
    → HasStepped c.args.self.now (record c.args.self.now {
      all = with_items c.args.self.now.all (slice_set c.deref_mut.result.now c.args.number c.resync_rows-rows.new.array);
      log = c.resync_rows-rows.new.log;
    }) (g.S.Rack.seen c.args.rack.now) (g.S.Rack.seen c.resync_rows-rows.new.rack) c.args.number
    (resynced ((raid_by c.args.self.now).arrays c.args.number) c.resync_rows-rows.ensures.steps.rows) (λ u. lacks_row u ((raid_by c.args.self.now).arrays c.args.number).resync)
    (is_ok c.resync_rows-rows.result)
one g c =
    let a = c.args.self.now in
    let n = c.args.number in
    let x = g.S.Rack.seen c.args.rack.now in
    let y = g.S.Rack.seen c.resync_rows-rows.new.rack in
    let count = c.requires.running.count in
    let low = c.requires.number in
    let number = ap (λ (l : LogView). l.number) c.clear.ensures in
    let same = same_element c.deref_mut.result.now a.all.items n _ no_array c.deref_mut.ensures.value (omega (arith, count, low)) in
    let done = c.resync_rows-rows.ensures.steps in
    has_resynced a (with_items a.all (slice_set c.deref_mut.result.now n c.resync_rows-rows.new.array)) c.resync_rows-rows.new.log x y n done.rows c.current_places-on.result.items c.clear.new.self.number _ c.resync_rows-rows.new.array (is_ok c.resync_rows-rows.result)
    c.requires.running c.requires.heeded low c.requires.row same
    (items_set a.all c.deref_mut.result.now n c.resync_rows-rows.new.array c.deref_mut.ensures.value)
    number (step_later c.clear.new.self c.resync_rows-rows.new.log c.resync_rows-rows.ensures.log) c.current_places-on.ensures c.went-places.ensures.few c.resync_rows-rows.ensures.goes
    (record {
      inside = let some = done.some in let inside = done.left in omega (arith, some, inside);
      steps = done.steps;
      elsewhere = c.resync_rows-rows.ensures.elsewhere;
      refused = answered_refused _ _ c.resync_rows-rows.result c.resync_rows-rows.ensures.refused;
    })

pub mend-requires : goal.mend-requires
mend-requires g c = record { running = (one g (goal.at.mend-requires g c).After-went-places).running }

pub is_stuck-requires-clause-row : goal.is_stuck-requires-clause-row
is_stuck-requires-clause-row g c =
    let a = c.args.self.now in
    let n = c.args.number in
    let count = c.requires.running.count in
    let low = c.requires.number in
    let same = same_element c.deref_mut.result.now a.all.items n _ no_array c.deref_mut.ensures.value (omega (arith, count, low)) in
    let done = c.resync_rows-rows.ensures.steps in
    let stepped = one g (goal.at.is_stuck-requires-clause-row g c).After-went-places in
    let v = raid_by a in
    subst (λ (r : ℕ). r < rows_of ((raid_by c.mend.new.self).arrays n)) (sym (c.resync_from-row.ensures ∙ ap (λ (u : View). u.resync) same))
    (subst (λ (k : ℕ). (v.arrays n).resync < k)
    (sym (stepped_rows v ((raid_by c.mend.new.self).arrays n) n done.rows stepped.is_done
    (only_then _ _ _ (stepped.arrays n low) (c.mend.ensures.mends.moves.arrays n (subst (λ k. n < k) (sym stepped.brings.book.same.made) low)))))
    c.requires.row)

pub returns-clause-rows : goal.returns-clause-rows
returns-clause-rows g c =
    let a = c.args.self.now in
    let n = c.args.number in
    let x = g.S.Rack.seen c.args.rack.now in
    let y = g.S.Rack.seen c.resync_rows-rows.new.rack in
    let count = c.requires.running.count in
    let low = c.requires.number in
    let same = same_element c.deref_mut.result.now a.all.items n _ no_array c.deref_mut.ensures.value (omega (arith, count, low)) in
    let done = c.resync_rows-rows.ensures.steps in
    let stepped = one g (goal.at.returns-clause-rows g c).After-went-places in
    let u = (raid_by a).arrays n in
    let inside : done.rows ≤ rows_of u - u.resync = subst (λ (z : View). done.rows ≤ rows_of z - z.resync) same done.left in
    rows_mended a _ c.mend.new.self x y (g.S.Rack.seen c.mend.new.rack) n (rows_of u - u.resync) c.args.most (resynced u) (λ z. lacks_row z u.resync)
    c.resync_rows-rows.result c.answered.result low done.rows done.some done.few inside done.answer stepped c.mend.ensures.mends
    (done_alone _ _ c.answered.result c.answered.ensures.done)

pub returns-clause-contents : goal.returns-clause-contents
returns-clause-contents g c =
    let a = c.args.self.now in
    let n = c.args.number in
    let x = g.S.Rack.seen c.args.rack.now in
    let y = g.S.Rack.seen c.resync_rows-rows.new.rack in
    let count = c.requires.running.count in
    let low = c.requires.number in
    let number = ap (λ (l : LogView). l.number) c.clear.ensures in
    let same = same_element c.deref_mut.result.now a.all.items n _ no_array c.deref_mut.ensures.value (omega (arith, count, low)) in
    let done = c.resync_rows-rows.ensures.steps in
    let call = resynced_call a (with_items a.all (slice_set c.deref_mut.result.now n c.resync_rows-rows.new.array)) c.resync_rows-rows.new.log x y n done.rows c.current_places-on.result.items c.clear.new.self.number _ c.resync_rows-rows.new.array (is_ok c.resync_rows-rows.result)
    c.requires.running c.requires.heeded low c.requires.row same
    (items_set a.all c.deref_mut.result.now n c.resync_rows-rows.new.array c.deref_mut.ensures.value)
    number (step_later c.clear.new.self c.resync_rows-rows.new.log c.resync_rows-rows.ensures.log) c.current_places-on.ensures c.went-places.ensures.few c.resync_rows-rows.ensures.goes
    (record {
      inside = let some = done.some in let inside = done.left in omega (arith, some, inside);
      steps = done.steps;
      elsewhere = c.resync_rows-rows.ensures.elsewhere;
      refused = answered_refused _ _ c.resync_rows-rows.result c.resync_rows-rows.ensures.refused;
    }) in
    let u = (raid_by a).arrays n in
    let inside : done.rows ≤ rows_of u - u.resync = subst (λ (z : View). done.rows ≤ rows_of z - z.resync) same done.left in
    let all = with_items a.all (slice_set c.deref_mut.result.now n c.resync_rows-rows.new.array) in
    let young = grown a.state n u x (c.requires.running.set.arrays n low) c.requires.row in
    let w = raid_by c.mend.new.self in
    let z = g.S.Rack.seen c.mend.new.rack in
    let on = c.current_places-on.result.items in
    rows_made a c.mend.new.self all c.resync_rows-rows.new.log x y z n (rows_of u - u.resync) c.args.most (resynced u) on c.resync_rows-rows.new.array
    c.resync_rows-rows.result c.answered.result done.rows done.some done.few inside done.answer c.requires.running
    (items_set a.all c.deref_mut.result.now n c.resync_rows-rows.new.array c.deref_mut.ensures.value) call c.mend.ensures.mends
    (done_alone _ _ c.answered.result c.answered.ensures.done)
    (resync_turn (raid_by a) (λ k. get_or all.items k no_array) c.resync_rows-rows.new.log.number n done.rows x y on (is_ok c.resync_rows-rows.result) c.requires.running.set call young
    (resynced_settled u done.rows young) w z c.mend.ensures.losses)

pub returns-clause-answer : goal.returns-clause-answer
returns-clause-answer g c =
    let a = c.args.self.now in
    let n = c.args.number in
    let x = g.S.Rack.seen c.args.rack.now in
    let y = g.S.Rack.seen c.resync_rows-rows.new.rack in
    let count = c.requires.running.count in
    let low = c.requires.number in
    let same = same_element c.deref_mut.result.now a.all.items n _ no_array c.deref_mut.ensures.value (omega (arith, count, low)) in
    let done = c.resync_rows-rows.ensures.steps in
    let stepped = one g (goal.at.returns-clause-answer g c).After-went-places in
    let row = c.resync_from-row.ensures ∙ ap (λ (z : View). z.resync) same in
    resyncs_rows a _ c.mend.new.self x y (g.S.Rack.seen c.mend.new.rack) n c.args.most c.resync_rows-rows.result c.answered.result low done.rows stepped c.mend.ensures.mends
    c.is_stuck.result (c.is_stuck.ensures ∙ ap (λ (r : ℕ). is_stuck (raid_by c.mend.new.self) n r) row) c.answered.ensures.done c.answered.ensures.refused

pub returns-clause-raises : goal.returns-clause-raises
returns-clause-raises g c =
    let a = c.args.self.now in
    let n = c.args.number in
    let count = c.requires.running.count in
    let low = c.requires.number in
    raises_call 1 17 a c.mend.new.self (with_items a.all (slice_set c.deref_mut.result.now n c.resync_rows-rows.new.array)) c.resync_rows-rows.new.log n _ c.resync_rows-rows.new.array
    c.requires.running.count low
    (same_element c.deref_mut.result.now a.all.items n _ no_array c.deref_mut.ensures.value (omega (arith, count, low)))
    (items_set a.all c.deref_mut.result.now n c.resync_rows-rows.new.array c.deref_mut.ensures.value)
    (let up = step_raise c.clear.new.self c.resync_rows-rows.new.log c.resync_rows-rows.ensures.log in let e = ap (λ (l : LogView). l.number) c.clear.ensures in omega (arith, up, e))
    (resynced_raise _ c.resync_rows-rows.new.array c.resync_rows-rows.ensures.steps.rows (g.S.Rack.seen c.args.rack.now) (g.S.Rack.seen c.resync_rows-rows.new.rack) c.resync_rows-rows.ensures.steps.steps.is_done c.resync_rows-rows.ensures.steps.steps.view)
    c.mend.ensures.raises

pub returns-clause-runs : goal.returns-clause-runs
returns-clause-runs g c = g.met.S.Rack.runs_then _ _ _ c.resync_rows-rows.ensures.runs c.mend.ensures.runs

pub returns-clause-truths : goal.returns-clause-truths
returns-clause-truths g c =
    let a = c.args.self.now in
    let n = c.args.number in
    let x = g.S.Rack.seen c.args.rack.now in
    let y = g.S.Rack.seen c.resync_rows-rows.new.rack in
    let count = c.requires.running.count in
    let low = c.requires.number in
    let same = same_element c.deref_mut.result.now a.all.items n _ no_array c.deref_mut.ensures.value (omega (arith, count, low)) in
    truths_step a c.mend.new.self (with_items a.all (slice_set c.deref_mut.result.now n c.resync_rows-rows.new.array)) c.resync_rows-rows.new.log n _ c.resync_rows-rows.new.array x y (g.S.Rack.seen c.mend.new.rack) c.requires.running low same
    (items_set a.all c.deref_mut.result.now n c.resync_rows-rows.new.array c.deref_mut.ensures.value) c.mend.ensures.truths
    c.current_places-on.result.items c.resync_rows-rows.ensures.goes.stays c.resync_rows-rows.ensures.steps.steps.truth c.resync_rows-rows.ensures.elsewhere
