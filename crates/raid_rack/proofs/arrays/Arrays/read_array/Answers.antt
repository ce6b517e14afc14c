use Rattle.std.proofs.Common.{ap, refl, slice_set, arith}
use Rattle.arrayvec.specs.ArrayVec.{with_items}
use Rattle.raid_rack.specs.RaidRack.{no_array, raid_by}
use Rattle.raid_rack.proofs.Sparing.{spares_read}
use Rattle.raid_rack.proofs.Raises.{notes_raise}
use Rattle.raid_rack.proofs.ReadContents.{read_contents}
use Rattle.raid_rack.proofs.RaisedCalls.{raises_call}
use Rattle.raid_rack.proofs.Steps.{same_element, items_set}
use Rattle.raid_rack.proofs.Synced.{has_read, reads_value, read_only}
use Rattle.raid_rack.proofs.TruthTurns.{truths_read}
use Rattle.raid_rack.proofs.arrays.Arrays.read_array.Goals as goal

pub mend-requires : goal.mend-requires
mend-requires g c =
    let a = c.args.self.now in
    let n = c.args.number in
    let x = g.S.Rack.seen c.args.rack.now in
    let y = g.S.Rack.seen c.read.new.rack in
    let count = c.requires.running.count in
    let low = c.requires.number in
    record {
      running = (has_read a (with_items a.all (slice_set c.deref_mut.result.now n c.read.new.self)) x y n c.args.sector c.read.new.into _ c.read.new.self
          c.requires.running low
          (same_element c.deref_mut.result.now a.all.items n _ no_array c.deref_mut.ensures.value (omega (arith, count, low)))
          (items_set a.all c.deref_mut.result.now n c.read.new.self c.deref_mut.ensures.value)
          c.read.ensures.reads (read_only _ c.read.new.self x y c.args.sector c.read.new.into a.state c.read.ensures.reads) c.read.ensures.notes).running;
    }

pub returns-clause-reads : goal.returns-clause-reads
returns-clause-reads g c =
    let a = c.args.self.now in
    let n = c.args.number in
    let x = g.S.Rack.seen c.args.rack.now in
    let y = g.S.Rack.seen c.read.new.rack in
    let count = c.requires.running.count in
    let low = c.requires.number in
    let items = items_set a.all c.deref_mut.result.now n c.read.new.self c.deref_mut.ensures.value in
    reads_value a _ c.mend.new.self x y (g.S.Rack.seen c.mend.new.rack) n c.args.sector c.read.new.into low
    (has_read a (with_items a.all (slice_set c.deref_mut.result.now n c.read.new.self)) x y n c.args.sector c.read.new.into _ c.read.new.self
    c.requires.running low
    (same_element c.deref_mut.result.now a.all.items n _ no_array c.deref_mut.ensures.value (omega (arith, count, low)))
    items
    c.read.ensures.reads (read_only _ c.read.new.self x y c.args.sector c.read.new.into a.state c.read.ensures.reads) c.read.ensures.notes)
    refl c.mend.ensures.mends

pub returns-clause-runs : goal.returns-clause-runs
returns-clause-runs g c = g.met.S.Rack.runs_then _ _ _ c.read.ensures.runs c.mend.ensures.runs

pub returns-clause-raises : goal.returns-clause-raises
returns-clause-raises g c =
    let a = c.args.self.now in
    let n = c.args.number in
    let count = c.requires.running.count in
    let low = c.requires.number in
    raises_call 0 17 a c.mend.new.self (with_items a.all (slice_set c.deref_mut.result.now n c.read.new.self)) a.log n _ c.read.new.self
    c.requires.running.count low
    (same_element c.deref_mut.result.now a.all.items n _ no_array c.deref_mut.ensures.value (omega (arith, count, low)))
    (items_set a.all c.deref_mut.result.now n c.read.new.self c.deref_mut.ensures.value)
    (omega arith)
    (notes_raise _ c.read.new.self (g.S.Rack.seen c.args.rack.now) (g.S.Rack.seen c.read.new.rack) c.read.ensures.notes)
    c.mend.ensures.raises

pub returns-clause-spares : goal.returns-clause-spares
returns-clause-spares g c written =
    let a = c.args.self.now in
    let n = c.args.number in
    let x = g.S.Rack.seen c.args.rack.now in
    let y = g.S.Rack.seen c.read.new.rack in
    let count = c.requires.running.count in
    let low = c.requires.number in
    let reads = read_only _ c.read.new.self x y c.args.sector c.read.new.into a.state c.read.ensures.reads in
    let one = has_read a (with_items a.all (slice_set c.deref_mut.result.now n c.read.new.self)) x y n c.args.sector c.read.new.into _ c.read.new.self
    c.requires.running low
    (same_element c.deref_mut.result.now a.all.items n _ no_array c.deref_mut.ensures.value (omega (arith, count, low)))
    (items_set a.all c.deref_mut.result.now n c.read.new.self c.deref_mut.ensures.value)
    c.read.ensures.reads reads c.read.ensures.notes in
    spares_read written (raid_by a) _ x y (g.S.Rack.seen c.mend.new.rack) c.requires.heeded refl one.moves c.mend.ensures.mends.moves.stays
    (λ are. ap g.S.Rack.seen (c.mend.ensures.idle are).1) reads

pub returns-clause-truths : goal.returns-clause-truths
returns-clause-truths g c =
    let a = c.args.self.now in
    let n = c.args.number in
    let x = g.S.Rack.seen c.args.rack.now in
    let y = g.S.Rack.seen c.read.new.rack in
    let count = c.requires.running.count in
    let low = c.requires.number in
    truths_read a c.mend.new.self (with_items a.all (slice_set c.deref_mut.result.now n c.read.new.self)) a.log n _ c.read.new.self x y (g.S.Rack.seen c.mend.new.rack) c.requires.running low
    (same_element c.deref_mut.result.now a.all.items n _ no_array c.deref_mut.ensures.value (omega (arith, count, low)))
    (items_set a.all c.deref_mut.result.now n c.read.new.self c.deref_mut.ensures.value) c.mend.ensures.truths
    (read_only _ c.read.new.self x y c.args.sector c.read.new.into a.state c.read.ensures.reads) c.read.ensures.notes

pub returns-clause-contents : goal.returns-clause-contents
returns-clause-contents g c =
    let a = c.args.self.now in
    let n = c.args.number in
    let x = g.S.Rack.seen c.args.rack.now in
    let y = g.S.Rack.seen c.read.new.rack in
    let count = c.requires.running.count in
    let low = c.requires.number in
    read_contents a c.mend.new.self (with_items a.all (slice_set c.deref_mut.result.now n c.read.new.self)) x y (g.S.Rack.seen c.mend.new.rack) n _ c.read.new.self c.requires.running low
    (same_element c.deref_mut.result.now a.all.items n _ no_array c.deref_mut.ensures.value (omega (arith, count, low)))
    (items_set a.all c.deref_mut.result.now n c.read.new.self c.deref_mut.ensures.value)
    (read_only _ c.read.new.self x y c.args.sector c.read.new.into a.state c.read.ensures.reads) c.read.ensures.notes
    (λ s durable vals spent covers. (c.read.ensures.reads s durable vals spent covers).acts) c.mend.ensures.losses
