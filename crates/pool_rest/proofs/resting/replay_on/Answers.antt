use Rattle.std.proofs.Common.{sym, subst, ◌∙◌}
use Rattle.slice_rack.specs.SliceRack.{tables, below_of}
use Rattle.pool_rest.specs.Members.{IsCutBelow}
use Rattle.pool_rest.proofs.DriveReplays.{on_drives, unread_none, shut_drives, closing_logs, only_drives, halves_kept, lost_cause, replayed_drives}
use Rattle.pool_rest.proofs.Midway.{brought_midway}
use Rattle.pool_rest.proofs.Moments.{brought_keeps}
use Rattle.pool_rest.proofs.resting.replay_on.Goals as goal

pub replay-gone-requires-clause-logs : goal.replay-gone-requires-clause-logs
replay-gone-requires-clause-logs g c =
    closing_logs _ _ c.args.scan.now.disks.items c.args.state.now _ _ _ _ c.closing_of-closing.result.items c.seat_drives-on.ensures.laid
    (subst (λ r. IsCutBelow (g.R.Rack.seen r) (g.R.Rack.seen (below_of c.lay_drives-unread.new.slices)) 16 (tables c.seat_drives-on.new.slices) (tables c.lay_drives-unread.new.slices) c.lay_drives-unread.result.items)
    c.seat_drives-on.ensures.below c.lay_drives-unread.ensures.cut)
    (λ p named. (c.closing_of-closing.ensures.kept p named).0)

pub returns-clause-only : goal.returns-clause-only
returns-clause-only g c =
    only_drives (on_drives g.R.Rack.seen c.args.rack _ _ _ _ c.into_inner.result _ c.args.scan.now.disks.items c.args.state.now _ _ _ _ _ _ _ c.args.log
    c.new-slices.ensures.below c.seat_drives-on.ensures.below c.into_inner.ensures c.seat_drives-on.ensures.laid c.lay_drives-unread.ensures.only c.lay_drives-unread.ensures.cut
    c.lay_drives-unread.new.slices.orderly c.lay_drives-unread.ensures.fit c.replay-gone.ensures.runs c.replay-gone.ensures.replays)

pub returns-clause-halves : goal.returns-clause-halves
returns-clause-halves g c = λ d i live past before valid.
    halves_kept (on_drives g.R.Rack.seen c.args.rack _ _ _ _ c.into_inner.result _ c.args.scan.now.disks.items c.args.state.now _ _ _ _ _ _ _ c.args.log
    c.new-slices.ensures.below c.seat_drives-on.ensures.below c.into_inner.ensures c.seat_drives-on.ensures.laid c.lay_drives-unread.ensures.only c.lay_drives-unread.ensures.cut
    c.lay_drives-unread.new.slices.orderly c.lay_drives-unread.ensures.fit c.replay-gone.ensures.runs c.replay-gone.ensures.replays) valid d i live past before

pub returns-clause-replayed : goal.returns-clause-replayed
returns-clause-replayed g c = λ told lasts free are valid.
    replayed_drives (on_drives g.R.Rack.seen c.args.rack _ _ _ _ c.into_inner.result _ c.args.scan.now.disks.items c.args.state.now _ _ _ _ _ _ _ c.args.log
    c.new-slices.ensures.below c.seat_drives-on.ensures.below c.into_inner.ensures c.seat_drives-on.ensures.laid c.lay_drives-unread.ensures.only c.lay_drives-unread.ensures.cut
    c.lay_drives-unread.new.slices.orderly c.lay_drives-unread.ensures.fit c.replay-gone.ensures.runs c.replay-gone.ensures.replays) told lasts free are valid c.closing_of-closing.ensures.kept

pub returns-clause-lost : goal.returns-clause-lost
returns-clause-lost g c = λ p d named seat.
    let few = c.both.ensures.few p named in
    lost_cause (on_drives g.R.Rack.seen c.args.rack _ _ _ _ c.into_inner.result _ c.args.scan.now.disks.items c.args.state.now _ _ _ _ _ _ _ c.args.log
    c.new-slices.ensures.below c.seat_drives-on.ensures.below c.into_inner.ensures c.seat_drives-on.ensures.laid c.lay_drives-unread.ensures.only c.lay_drives-unread.ensures.cut
    c.lay_drives-unread.new.slices.orderly c.lay_drives-unread.ensures.fit c.replay-gone.ensures.runs c.replay-gone.ensures.replays) p d few (sym (c.both.ensures.either p few) ∙ named) seat

pub returns-clause-shut : goal.returns-clause-shut
returns-clause-shut g c = λ whole told lasts free some.
    let parts = on_drives g.R.Rack.seen c.args.rack _ _ _ _ c.into_inner.result _ c.args.scan.now.disks.items c.args.state.now _ _ _ _ _ _ _ c.args.log
    c.new-slices.ensures.below c.seat_drives-on.ensures.below c.into_inner.ensures c.seat_drives-on.ensures.laid c.lay_drives-unread.ensures.only c.lay_drives-unread.ensures.cut
    c.lay_drives-unread.new.slices.orderly c.lay_drives-unread.ensures.fit c.replay-gone.ensures.runs c.replay-gone.ensures.replays in
    shut_drives c.args.before.now parts told lasts free some (c.closing_of-closing.ensures.all whole (unread_none parts free))

pub returns-clause-brought : goal.returns-clause-brought
returns-clause-brought g c = λ told lasts free single t u on is_pending laid finds brings of state.
    let parts = on_drives g.R.Rack.seen c.args.rack _ _ _ _ c.into_inner.result _ c.args.scan.now.disks.items c.args.state.now _ _ _ _ _ _ _ c.args.log
    c.new-slices.ensures.below c.seat_drives-on.ensures.below c.into_inner.ensures c.seat_drives-on.ensures.laid c.lay_drives-unread.ensures.only c.lay_drives-unread.ensures.cut
    c.lay_drives-unread.new.slices.orderly c.lay_drives-unread.ensures.fit c.replay-gone.ensures.runs c.replay-gone.ensures.replays in
    brought_keeps parts free told lasts single u of c.args.before.now t on is_pending laid finds brings state

pub returns-clause-midway : goal.returns-clause-midway
returns-clause-midway g c = λ told lasts free single are valid t u on is_pending laid finds brings of state traced.
    let parts = on_drives g.R.Rack.seen c.args.rack _ _ _ _ c.into_inner.result _ c.args.scan.now.disks.items c.args.state.now _ _ _ _ _ _ _ c.args.log
    c.new-slices.ensures.below c.seat_drives-on.ensures.below c.into_inner.ensures c.seat_drives-on.ensures.laid c.lay_drives-unread.ensures.only c.lay_drives-unread.ensures.cut
    c.lay_drives-unread.new.slices.orderly c.lay_drives-unread.ensures.fit c.replay-gone.ensures.runs c.replay-gone.ensures.replays in
    brought_midway parts free told lasts single u of are valid c.args.before.now t on is_pending laid finds brings state traced
