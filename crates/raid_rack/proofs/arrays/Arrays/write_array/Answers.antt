use Rattle.std.proofs.Common.{get_or, slice_set, ap, refl, arith}
use Rattle.std.proofs.lemmas.Option.{slice_get-get_or}
use Rattle.arrayvec.specs.ArrayVec.{with_items}
use Rattle.log_laws.specs.View.{LogView}
use Rattle.raid_rack.specs.RaidRack.{no_array, raid_by}
use Rattle.raid_rack.proofs.Mended.{on_named}
use Rattle.raid_laws.proofs.Noted.{current_few}
use Rattle.raid_rack.proofs.Sent.{has_written, later_number, writes_one}
use Rattle.raid_rack.proofs.Raises.{writes_raise}
use Rattle.raid_rack.proofs.RaisedCalls.{logs_raise, raises_call}
use Rattle.raid_rack.proofs.Sparing.{spares_write}
use Rattle.raid_rack.proofs.Steps.{same_element, items_set}
use Rattle.raid_laws.proofs.Whole.{heeded_left}
use Rattle.raid_rack.proofs.TruthTurns.{truths_write}
use Rattle.raid_rack.proofs.arrays.Arrays.write_array.Goals as goal

pub write-requires-clause-logs : goal.write-requires-clause-logs
write-requires-clause-logs g c j low =
    let s = c.args.self.now.state in
    let on = c.current_places-on.result.items in
    let current = on_named s on j (get_or on j 0) c.current_places-on.ensures (slice_get-get_or on j 0 low) in
    (current_few s (get_or on j 0) c.requires.running.set.few current, c.requires.running.set.logs (get_or on j 0) (heeded_left (raid_by c.args.self.now) (get_or on j 0) c.requires.heeded current))

pub mend-requires : goal.mend-requires
mend-requires g c =
    let a = c.args.self.now in
    let n = c.args.number in
    let x = g.S.Rack.seen c.args.rack.now in
    let y = g.S.Rack.seen c.write.new.rack in
    let count = c.requires.running.count in
    let low = c.requires.number in
    let number = ap (λ (l : LogView). l.number) c.clear.ensures in
    let wrote = has_written a (with_items a.all (slice_set c.deref_mut.result.now n c.write.new.self)) c.write.new.log x y n c.args.sector c.args.from.now c.current_places-on.result.items c.clear.new.self.number _ c.write.new.self
    c.requires.running c.requires.heeded low
    (same_element c.deref_mut.result.now a.all.items n _ no_array c.deref_mut.ensures.value (omega (arith, count, low)))
    (items_set a.all c.deref_mut.result.now n c.write.new.self c.deref_mut.ensures.value)
    number (later_number c.clear.new.self c.write.new.log c.write.ensures.log) c.current_places-on.ensures c.went-places.ensures.few c.write.ensures.goes
    (record { writes = c.write.ensures.writes; kept = c.write.ensures.kept; truths = c.write.ensures.leaves; view = c.write.ensures.view; elsewhere = c.write.ensures.elsewhere }) in
    record { running = wrote.running }

pub returns-clause-writes : goal.returns-clause-writes
returns-clause-writes g c =
    let a = c.args.self.now in
    let n = c.args.number in
    let x = g.S.Rack.seen c.args.rack.now in
    let y = g.S.Rack.seen c.write.new.rack in
    let count = c.requires.running.count in
    let low = c.requires.number in
    let number = ap (λ (l : LogView). l.number) c.clear.ensures in
    let wrote = has_written a (with_items a.all (slice_set c.deref_mut.result.now n c.write.new.self)) c.write.new.log x y n c.args.sector c.args.from.now c.current_places-on.result.items c.clear.new.self.number _ c.write.new.self
    c.requires.running c.requires.heeded low
    (same_element c.deref_mut.result.now a.all.items n _ no_array c.deref_mut.ensures.value (omega (arith, count, low)))
    (items_set a.all c.deref_mut.result.now n c.write.new.self c.deref_mut.ensures.value)
    number (later_number c.clear.new.self c.write.new.log c.write.ensures.log) c.current_places-on.ensures c.went-places.ensures.few c.write.ensures.goes
    (record { writes = c.write.ensures.writes; kept = c.write.ensures.kept; truths = c.write.ensures.leaves; view = c.write.ensures.view; elsewhere = c.write.ensures.elsewhere }) in
    writes_one a _ c.mend.new.self x y (g.S.Rack.seen c.mend.new.rack) n c.args.sector c.args.from.now wrote c.mend.ensures.mends

pub returns-clause-runs : goal.returns-clause-runs
returns-clause-runs g c = g.met.S.Rack.runs_then _ _ _ c.write.ensures.runs c.mend.ensures.runs

pub returns-clause-raises : goal.returns-clause-raises
returns-clause-raises g c =
    let a = c.args.self.now in
    let n = c.args.number in
    let count = c.requires.running.count in
    let low = c.requires.number in
    raises_call 1 17 a c.mend.new.self (with_items a.all (slice_set c.deref_mut.result.now n c.write.new.self)) c.write.new.log n _ c.write.new.self
    c.requires.running.count low
    (same_element c.deref_mut.result.now a.all.items n _ no_array c.deref_mut.ensures.value (omega (arith, count, low)))
    (items_set a.all c.deref_mut.result.now n c.write.new.self c.deref_mut.ensures.value)
    (let up = logs_raise c.clear.new.self c.write.new.log c.write.ensures.log in let e = ap (λ (l : LogView). l.number) c.clear.ensures in omega (arith, up, e))
    (writes_raise _ c.write.new.self (g.S.Rack.seen c.args.rack.now) (g.S.Rack.seen c.write.new.rack) c.write.ensures.view)
    c.mend.ensures.raises

pub returns-clause-spares : goal.returns-clause-spares
returns-clause-spares g c written noted =
    let a = c.args.self.now in
    let n = c.args.number in
    let x = g.S.Rack.seen c.args.rack.now in
    let y = g.S.Rack.seen c.write.new.rack in
    let count = c.requires.running.count in
    let low = c.requires.number in
    let number = ap (λ (l : LogView). l.number) c.clear.ensures in
    let old_is = same_element c.deref_mut.result.now a.all.items n _ no_array c.deref_mut.ensures.value (omega (arith, count, low)) in
    let wrote = has_written a (with_items a.all (slice_set c.deref_mut.result.now n c.write.new.self)) c.write.new.log x y n c.args.sector c.args.from.now c.current_places-on.result.items c.clear.new.self.number _ c.write.new.self
    c.requires.running c.requires.heeded low old_is
    (items_set a.all c.deref_mut.result.now n c.write.new.self c.deref_mut.ensures.value)
    number (later_number c.clear.new.self c.write.new.log c.write.ensures.log) c.current_places-on.ensures c.went-places.ensures.few c.write.ensures.goes
    (record { writes = c.write.ensures.writes; kept = c.write.ensures.kept; truths = c.write.ensures.leaves; view = c.write.ensures.view; elsewhere = c.write.ensures.elsewhere }) in
    spares_write written a _ n _ c.current_places-on.result.items x y (g.S.Rack.seen c.mend.new.rack) c.requires.running c.requires.heeded low old_is noted refl wrote.caused
    c.mend.ensures.mends.moves.stays (λ are. ap g.S.Rack.seen (c.mend.ensures.idle are).1) c.write.ensures.elsewhere

pub returns-clause-truths : goal.returns-clause-truths
returns-clause-truths g c =
    let a = c.args.self.now in
    let n = c.args.number in
    let x = g.S.Rack.seen c.args.rack.now in
    let y = g.S.Rack.seen c.write.new.rack in
    let count = c.requires.running.count in
    let low = c.requires.number in
    truths_write a c.mend.new.self (with_items a.all (slice_set c.deref_mut.result.now n c.write.new.self)) c.write.new.log n _ c.write.new.self x y (g.S.Rack.seen c.mend.new.rack) c.requires.running low
    (same_element c.deref_mut.result.now a.all.items n _ no_array c.deref_mut.ensures.value (omega (arith, count, low)))
    (items_set a.all c.deref_mut.result.now n c.write.new.self c.deref_mut.ensures.value) c.mend.ensures.truths
    c.current_places-on.result.items c.write.ensures.goes.stays c.write.ensures.truth c.write.ensures.elsewhere
