use Rattle.std.proofs.Common.{ap, refl, slice_set, arith}
use Rattle.arrayvec.specs.ArrayVec.{with_items}
use Rattle.raid_rack.specs.RaidRack.{no_array, raid_by}
use Rattle.raid_rack.proofs.Sparing.{spares_read}
use Rattle.raid_rack.proofs.Raises.{notes_raise}
use Rattle.raid_rack.proofs.ReadContents.{read_contents}
use Rattle.raid_rack.proofs.RaisedCalls.{raises_call}
use Rattle.raid_rack.proofs.Steps.{same_element, items_set}
use Rattle.raid_rack.proofs.Synced.{has_synced, syncs_one}
use Rattle.raid_rack.proofs.TruthTurns.{truths_read}
use Rattle.raid_rack.proofs.arrays.Arrays.sync_array.Goals as goal

pub mend-requires : goal.mend-requires
mend-requires g c =
    let a = c.args.self.now in
    let n = c.args.number in
    let count = c.requires.running.count in
    let low = c.requires.number in
    record {
      running = (has_synced a (with_items a.all (slice_set c.deref_mut.result.now n c.sync.new.self)) (g.S.Rack.seen c.args.rack.now) (g.S.Rack.seen c.sync.new.rack) n _ c.sync.new.self
          c.requires.running low
          (same_element c.deref_mut.result.now a.all.items n _ no_array c.deref_mut.ensures.value (omega (arith, count, low)))
          (items_set a.all c.deref_mut.result.now n c.sync.new.self c.deref_mut.ensures.value)
          c.sync.ensures.syncs c.sync.ensures.reads c.sync.ensures.notes).running;
    }

pub returns-clause-syncs : goal.returns-clause-syncs
returns-clause-syncs g c =
    let a = c.args.self.now in
    let n = c.args.number in
    let count = c.requires.running.count in
    let low = c.requires.number in
    syncs_one a _ c.mend.new.self (g.S.Rack.seen c.args.rack.now) (g.S.Rack.seen c.sync.new.rack) (g.S.Rack.seen c.mend.new.rack) n low
    (has_synced a (with_items a.all (slice_set c.deref_mut.result.now n c.sync.new.self)) (g.S.Rack.seen c.args.rack.now) (g.S.Rack.seen c.sync.new.rack) n _ c.sync.new.self
    c.requires.running low
    (same_element c.deref_mut.result.now a.all.items n _ no_array c.deref_mut.ensures.value (omega (arith, count, low)))
    (items_set a.all c.deref_mut.result.now n c.sync.new.self c.deref_mut.ensures.value)
    c.sync.ensures.syncs c.sync.ensures.reads c.sync.ensures.notes)
    refl c.mend.ensures.mends

pub returns-clause-raises : goal.returns-clause-raises
returns-clause-raises g c =
    let a = c.args.self.now in
    let n = c.args.number in
    let count = c.requires.running.count in
    let low = c.requires.number in
    raises_call 0 17 a c.mend.new.self (with_items a.all (slice_set c.deref_mut.result.now n c.sync.new.self)) a.log n _ c.sync.new.self
    c.requires.running.count low
    (same_element c.deref_mut.result.now a.all.items n _ no_array c.deref_mut.ensures.value (omega (arith, count, low)))
    (items_set a.all c.deref_mut.result.now n c.sync.new.self c.deref_mut.ensures.value)
    (omega arith)
    (notes_raise _ c.sync.new.self (g.S.Rack.seen c.args.rack.now) (g.S.Rack.seen c.sync.new.rack) c.sync.ensures.notes)
    c.mend.ensures.raises

pub returns-clause-spares : goal.returns-clause-spares
returns-clause-spares g c written =
    let a = c.args.self.now in
    let n = c.args.number in
    let x = g.S.Rack.seen c.args.rack.now in
    let y = g.S.Rack.seen c.sync.new.rack in
    let count = c.requires.running.count in
    let low = c.requires.number in
    let one = has_synced a (with_items a.all (slice_set c.deref_mut.result.now n c.sync.new.self)) x y n _ c.sync.new.self
    c.requires.running low
    (same_element c.deref_mut.result.now a.all.items n _ no_array c.deref_mut.ensures.value (omega (arith, count, low)))
    (items_set a.all c.deref_mut.result.now n c.sync.new.self c.deref_mut.ensures.value)
    c.sync.ensures.syncs c.sync.ensures.reads c.sync.ensures.notes in
    spares_read written (raid_by a) _ x y (g.S.Rack.seen c.mend.new.rack) c.requires.heeded refl one.moves c.mend.ensures.mends.moves.stays
    (λ are. ap g.S.Rack.seen (c.mend.ensures.idle are).1) c.sync.ensures.reads

pub returns-clause-truths : goal.returns-clause-truths
returns-clause-truths g c =
    let a = c.args.self.now in
    let n = c.args.number in
    let x = g.S.Rack.seen c.args.rack.now in
    let y = g.S.Rack.seen c.sync.new.rack in
    let count = c.requires.running.count in
    let low = c.requires.number in
    truths_read a c.mend.new.self (with_items a.all (slice_set c.deref_mut.result.now n c.sync.new.self)) a.log n _ c.sync.new.self x y (g.S.Rack.seen c.mend.new.rack) c.requires.running low
    (same_element c.deref_mut.result.now a.all.items n _ no_array c.deref_mut.ensures.value (omega (arith, count, low)))
    (items_set a.all c.deref_mut.result.now n c.sync.new.self c.deref_mut.ensures.value) c.mend.ensures.truths
    c.sync.ensures.reads c.sync.ensures.notes

pub returns-clause-contents : goal.returns-clause-contents
returns-clause-contents g c =
    let a = c.args.self.now in
    let n = c.args.number in
    let x = g.S.Rack.seen c.args.rack.now in
    let y = g.S.Rack.seen c.sync.new.rack in
    let count = c.requires.running.count in
    let low = c.requires.number in
    read_contents a c.mend.new.self (with_items a.all (slice_set c.deref_mut.result.now n c.sync.new.self)) x y (g.S.Rack.seen c.mend.new.rack) n _ c.sync.new.self c.requires.running low
    (same_element c.deref_mut.result.now a.all.items n _ no_array c.deref_mut.ensures.value (omega (arith, count, low)))
    (items_set a.all c.deref_mut.result.now n c.sync.new.self c.deref_mut.ensures.value)
    c.sync.ensures.reads c.sync.ensures.notes
    (λ s durable vals spent covers. (c.sync.ensures.syncs s durable vals spent covers).acts) c.mend.ensures.losses
