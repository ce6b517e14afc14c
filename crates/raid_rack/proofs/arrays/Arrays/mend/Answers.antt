use Rattle.arrayvec.specs.ArrayVec.{with_items}
use Rattle.array_core.specs.Seats.{heeded}
use Rattle.raid_rack.proofs.Mended.{each_items}
use Rattle.raid_rack.proofs.Rounds.{heeds, heeds_agree, heeds_raise, idle_by}
use Rattle.raid_rack.proofs.TruthTurns.{heeds_makes, heeds_truths}
use Rattle.raid_rack.proofs.Rounds.{heeds_losses}
use Rattle.raid_rack.proofs.arrays.Arrays.mend.Goals as goal

pub returns-clause-mends : goal.returns-clause-mends
returns-clause-mends g c =
    let s = c.mark_all.new.self in
    let each = each_items s.all c.as_mut_slice.result.now c.heed_all.new.arrays heeded c.as_mut_slice.ensures.value c.heed_all.ensures in
    (heeds c.args.self.now s (with_items s.all c.heed_all.new.arrays) (g.S.Rack.seen c.args.rack.now) (g.S.Rack.seen c.mark_all.new.rack)
    c.mark_all.ensures.moves c.mark_all.ensures.running c.mark_all.ensures.marked each.0 each.1).0

pub returns-clause-running : goal.returns-clause-running
returns-clause-running g c =
    let s = c.mark_all.new.self in
    let each = each_items s.all c.as_mut_slice.result.now c.heed_all.new.arrays heeded c.as_mut_slice.ensures.value c.heed_all.ensures in
    (heeds c.args.self.now s (with_items s.all c.heed_all.new.arrays) (g.S.Rack.seen c.args.rack.now) (g.S.Rack.seen c.mark_all.new.rack)
    c.mark_all.ensures.moves c.mark_all.ensures.running c.mark_all.ensures.marked each.0 each.1).1

pub returns-clause-idle : goal.returns-clause-idle
returns-clause-idle g c = λ are.
    let s = c.mark_all.new.self in
    let each = each_items s.all c.as_mut_slice.result.now c.heed_all.new.arrays heeded c.as_mut_slice.ensures.value c.heed_all.ensures in
    let same = c.mark_all.ensures.idle are in
    (idle_by c.args.self.now s (with_items s.all c.heed_all.new.arrays) (g.S.Rack.seen c.mark_all.new.rack) c.mark_all.ensures.running each.0 same.0, same.1)

pub returns-clause-raises : goal.returns-clause-raises
returns-clause-raises g c =
    let s = c.mark_all.new.self in
    let each = each_items s.all c.as_mut_slice.result.now c.heed_all.new.arrays heeded c.as_mut_slice.ensures.value c.heed_all.ensures in
    heeds_raise 17 c.args.self.now s (with_items s.all c.heed_all.new.arrays) (g.S.Rack.seen c.args.rack.now) (g.S.Rack.seen c.mark_all.new.rack)
    c.mark_all.ensures.moves c.mark_all.ensures.running each.0 c.mark_all.ensures.raises

pub returns-clause-supers : goal.returns-clause-supers
returns-clause-supers g c some =
    let s = c.mark_all.new.self in
    let each = each_items s.all c.as_mut_slice.result.now c.heed_all.new.arrays heeded c.as_mut_slice.ensures.value c.heed_all.ensures in
    heeds_agree c.args.self.now s (with_items s.all c.heed_all.new.arrays) (g.S.Rack.seen c.args.rack.now) (g.S.Rack.seen c.mark_all.new.rack)
    c.mark_all.ensures.moves c.mark_all.ensures.running c.mark_all.ensures.marked each.0 (c.mark_all.ensures.supers some)

pub returns-clause-truths : goal.returns-clause-truths
returns-clause-truths g c =
    let s = c.mark_all.new.self in
    let each = each_items s.all c.as_mut_slice.result.now c.heed_all.new.arrays heeded c.as_mut_slice.ensures.value c.heed_all.ensures in
    heeds_truths g.S.Rack.seen c.args.self.now s (with_items s.all c.heed_all.new.arrays) c.args.rack.now c.mark_all.new.rack c.mark_all.ensures.running
    c.mark_all.ensures.moves.book.same.made c.mark_all.ensures.marked each.0 c.mark_all.ensures.truths

pub returns-clause-makes : goal.returns-clause-makes
returns-clause-makes g c =
    let s = c.mark_all.new.self in
    let each = each_items s.all c.as_mut_slice.result.now c.heed_all.new.arrays heeded c.as_mut_slice.ensures.value c.heed_all.ensures in
    heeds_makes g.S.Rack.seen c.args.self.now s (with_items s.all c.heed_all.new.arrays) c.args.rack.now c.mark_all.new.rack c.mark_all.ensures.running
    c.mark_all.ensures.moves.book.same.made c.mark_all.ensures.marked each.0 c.mark_all.ensures.truths

pub returns-clause-unlost : goal.returns-clause-unlost
returns-clause-unlost g c = c.mark_all.ensures.unlost

pub returns-clause-losses : goal.returns-clause-losses
returns-clause-losses g c d run =
    let s = c.mark_all.new.self in
    let each = each_items s.all c.as_mut_slice.result.now c.heed_all.new.arrays heeded c.as_mut_slice.ensures.value c.heed_all.ensures in
    heeds_losses d c.args.self.now s (with_items s.all c.heed_all.new.arrays) (g.S.Rack.seen c.args.rack.now) (g.S.Rack.seen c.mark_all.new.rack) c.mark_all.ensures.running
    c.mark_all.ensures.marked each.0 (c.mark_all.ensures.losses d run)
