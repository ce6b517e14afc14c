use Rattle.arrayvec.specs.ArrayVec.{with_items}
use Rattle.raid_rack.specs.declared.arrays.Arrays.{Arrays}
use Rattle.std.proofs.Common.{◌<◌, length, slice_set, ap, refl, subst, sym, ◌∙◌, arith}
use Rattle.log_laws.specs.View.{LogView}
use Rattle.raid_laws.specs.Settling.{SettlesTo}
use Rattle.raid_rack.specs.RaidRack.{no_array, raid_by}
use Rattle.raid_laws.proofs.Settling.{settles_first}
use Rattle.raid_rack.proofs.Steps.{same_element, items_set, length_set, settle_slices, settle_step}
use Rattle.transition_laws.proofs.SettledMakes.{settles_book_first}
use Rattle.raid_rack.proofs.arrays.Arrays.settle_all.Goals as goal

pub loop-n-init : goal.loop-n-init
loop-n-init g c =
    let v = raid_by c.args.self.now in
    let x = g.S.Rack.seen c.args.rack.now in
    record {
      settles = subst (λ xs. SettlesTo v v x x 0 xs) (sym c.requires.empty) (settles_first v x c.requires.running.set);
      book = settles_book_first v x c.requires.running.set.fit;
      count = c.requires.running.count;
      same = refl;
      log = refl;
      runs = g.met.S.Rack.runs_same c.args.rack.now;
    }

pub settle-requires-clause-slices : goal.settle-requires-clause-slices
settle-requires-clause-slices g c =
    let inv = c.loop-n.invariant in
    let low = c.loop-n-test.true in
    let end = c.len-n-end.ensures.value in
    let count = c.requires.running.count in
    let made : c.loop-n.n < c.args.self.now.state.made = omega (arith, low, end, count) in
    settle_slices c.args.self.now c.loop-n.self (g.S.Rack.seen c.args.rack.now) (g.S.Rack.seen c.loop-n.rack) c.loop-n.n _ c.requires.running inv.settles made
    (same_element c.deref_mut.result.now c.loop-n.self.all.items c.loop-n.n c.index-deref_mut-n.result no_array c.deref_mut.ensures.value (let same = inv.count in omega (arith, made, same)))

pub loop-n-preserved : goal.loop-n-preserved
loop-n-preserved g c =
    let inv = c.loop-n.invariant in
    let low = c.loop-n-test.true in
    let end = c.len-n-end.ensures.value in
    let count = c.requires.running.count in
    let made : c.loop-n.n < c.args.self.now.state.made = omega (arith, low, end, count) in
    let items = items_set c.loop-n.self.all c.deref_mut.result.now c.loop-n.n c.settle.new.self c.deref_mut.ensures.value in
    let step = settle_step c.args.self.now c.loop-n.self _ c.settle.new.log (g.S.Rack.seen c.args.rack.now) (g.S.Rack.seen c.loop-n.rack) (g.S.Rack.seen c.settle.new.rack) c.loop-n.n _ c.settle.new.self
    c.requires.running inv.settles inv.book inv.count made
    (same_element c.deref_mut.result.now c.loop-n.self.all.items c.loop-n.n c.index-deref_mut-n.result no_array c.deref_mut.ensures.value (let same = inv.count in omega (arith, made, same)))
    items c.settle.ensures.settles c.settle.ensures.reads c.settle.ensures.view c.settle.ensures.added c.settle.ensures.log in
    record {
      settles = step.0;
      book = step.1;
      count = ap length items ∙ length_set c.loop-n.self.all.items c.loop-n.n c.settle.new.self ∙ inv.count;
      same = ap (λ (a : Arrays). record a { all = with_items c.loop-n.self.all (slice_set c.deref_mut.result.now c.loop-n.n c.settle.new.self); log = c.settle.new.log }) inv.same;
      log = c.settle.ensures.log ∙ ap (λ (l : LogView). record l { added = c.settle.new.log.added }) inv.log;
      runs = g.met.S.Rack.runs_then _ _ _ inv.runs c.settle.ensures.runs;
    }
