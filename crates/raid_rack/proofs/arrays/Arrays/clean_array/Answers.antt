use Rattle.std.proofs.Common.{[], ◌==◌, get_or, slice_set, inl, refl, subst, sym, arith}
use Rattle.arrayvec.specs.ArrayVec.{with_items}
use Rattle.array_image.specs.Places.{log_slice}
use Rattle.raid_laws.specs.Book.{after_same}
use Rattle.raid_laws.specs.Cleaning.{Ends}
use Rattle.raid_rack.specs.RaidRack.{no_array, raid_by}
use Rattle.raid_rack.proofs.Raises.{cleans_raise}
use Rattle.raid_rack.proofs.RaisedCalls.{raises_call}
use Rattle.raid_rack.proofs.Steps.{same_element, items_set}
use Rattle.raid_rack.proofs.Cleanings.{clean_call, clean_running, cleans_one}
use Rattle.raid_rack.proofs.TruthTurns.{truths_write}
use Rattle.raid_laws.proofs.Unlost.{unlost_still, unlost_then}
use Rattle.growth_laws.proofs.CleanTurn.{clean_turn}
use Rattle.raid_rack.proofs.arrays.Arrays.clean_array.Goals as goal

pub mend-requires : goal.mend-requires
mend-requires g c =
    let a = c.args.self.now in
    let n = c.args.number in
    let x = g.S.Rack.seen c.args.rack.now in
    let y = g.S.Rack.seen c.clean.new.rack in
    let count = c.requires.running.count in
    let low = c.requires.number in
    let items = items_set a.all c.deref_mut.result.now n c.clean.new.self c.deref_mut.ensures.value in
    let all = with_items a.all (slice_set c.deref_mut.result.now n c.clean.new.self) in
    let e = c.clean.ensures in
    record {
      running = clean_running a all x y n c.clean.new.self c.requires.running items
          (clean_call a all x y n _ c.clean.new.self c.requires.running c.requires.heeded low
          (same_element c.deref_mut.result.now a.all.items n _ no_array c.deref_mut.ensures.value (omega (arith, count, low)))
          items
          (record { cleans = e.cleans; truths = e.leaves; view = e.view; goes = e.goes; elsewhere = e.elsewhere; supers = e.others; settled = e.settled; kept = e.kept }));
    }

pub returns-clause-cleans : goal.returns-clause-cleans
returns-clause-cleans g c =
    let a = c.args.self.now in
    let n = c.args.number in
    let x = g.S.Rack.seen c.args.rack.now in
    let y = g.S.Rack.seen c.clean.new.rack in
    let count = c.requires.running.count in
    let low = c.requires.number in
    let items = items_set a.all c.deref_mut.result.now n c.clean.new.self c.deref_mut.ensures.value in
    let all = with_items a.all (slice_set c.deref_mut.result.now n c.clean.new.self) in
    let e = c.clean.ensures in
    cleans_one (raid_by a) (raid_by c.mend.new.self) (λ k. get_or all.items k no_array) n x y (g.S.Rack.seen c.mend.new.rack) c.requires.running.set
    (clean_call a all x y n _ c.clean.new.self c.requires.running c.requires.heeded low
    (same_element c.deref_mut.result.now a.all.items n _ no_array c.deref_mut.ensures.value (omega (arith, count, low)))
    items
    (record { cleans = e.cleans; truths = e.leaves; view = e.view; goes = e.goes; elsewhere = e.elsewhere; supers = e.others; settled = e.settled; kept = e.kept }))
    c.mend.ensures.mends
    (λ are.
    let idle = c.mend.ensures.idle are in (
      idle.0,
      λ ends. subst (λ r. Ends (λ k. k == n) (raid_by a) (raid_by c.mend.new.self) x (g.S.Rack.seen r)) (sym idle.1) ends,
    ))

pub returns-clause-runs : goal.returns-clause-runs
returns-clause-runs g c = g.met.S.Rack.runs_then _ _ _ c.clean.ensures.runs c.mend.ensures.runs

pub returns-clause-raises : goal.returns-clause-raises
returns-clause-raises g c =
    let a = c.args.self.now in
    let n = c.args.number in
    let count = c.requires.running.count in
    let low = c.requires.number in
    raises_call 1 17 a c.mend.new.self (with_items a.all (slice_set c.deref_mut.result.now n c.clean.new.self)) a.log n _ c.clean.new.self
    c.requires.running.count low
    (same_element c.deref_mut.result.now a.all.items n _ no_array c.deref_mut.ensures.value (omega (arith, count, low)))
    (items_set a.all c.deref_mut.result.now n c.clean.new.self c.deref_mut.ensures.value)
    (omega arith)
    (cleans_raise _ c.clean.new.self (g.S.Rack.seen c.args.rack.now) (g.S.Rack.seen c.clean.new.rack) c.clean.ensures.view)
    c.mend.ensures.raises

pub returns-clause-truths : goal.returns-clause-truths
returns-clause-truths g c =
    let a = c.args.self.now in
    let n = c.args.number in
    let x = g.S.Rack.seen c.args.rack.now in
    let y = g.S.Rack.seen c.clean.new.rack in
    let count = c.requires.running.count in
    let low = c.requires.number in
    truths_write a c.mend.new.self (with_items a.all (slice_set c.deref_mut.result.now n c.clean.new.self)) a.log n _ c.clean.new.self x y (g.S.Rack.seen c.mend.new.rack) c.requires.running low
    (same_element c.deref_mut.result.now a.all.items n _ no_array c.deref_mut.ensures.value (omega (arith, count, low)))
    (items_set a.all c.deref_mut.result.now n c.clean.new.self c.deref_mut.ensures.value) c.mend.ensures.truths
    [] c.clean.ensures.goes.stays c.clean.ensures.truth (c.clean.ensures.elsewhere [])

pub returns-clause-unlost : goal.returns-clause-unlost
returns-clause-unlost g c =
    let s = c.args.self.now.state in
    let x = g.S.Rack.seen c.args.rack.now in
    let y = g.S.Rack.seen c.clean.new.rack in
    unlost_then s s c.mend.new.self.state x y (g.S.Rack.seen c.mend.new.rack) c.clean.ensures.goes.stays c.mend.ensures.mends.moves.stays (after_same s)
    c.mend.ensures.mends.moves.book
    (unlost_still s s x y refl (λ p live. c.clean.ensures.elsewhere [] (log_slice p) 0 live (inl (omega arith, refl)))) c.mend.ensures.unlost

pub returns-clause-contents : goal.returns-clause-contents
returns-clause-contents g c =
    let a = c.args.self.now in
    let n = c.args.number in
    let x = g.S.Rack.seen c.args.rack.now in
    let y = g.S.Rack.seen c.clean.new.rack in
    let count = c.requires.running.count in
    let low = c.requires.number in
    let items = items_set a.all c.deref_mut.result.now n c.clean.new.self c.deref_mut.ensures.value in
    let all = with_items a.all (slice_set c.deref_mut.result.now n c.clean.new.self) in
    let e = c.clean.ensures in
    clean_turn (raid_by a) (λ k. get_or all.items k no_array) n x y c.requires.running.set
    (clean_call a all x y n _ c.clean.new.self c.requires.running c.requires.heeded low
    (same_element c.deref_mut.result.now a.all.items n _ no_array c.deref_mut.ensures.value (omega (arith, count, low)))
    items
    (record { cleans = e.cleans; truths = e.leaves; view = e.view; goes = e.goes; elsewhere = e.elsewhere; supers = e.others; settled = e.settled; kept = e.kept }))
    (raid_by c.mend.new.self) (g.S.Rack.seen c.mend.new.rack) c.mend.ensures.losses
