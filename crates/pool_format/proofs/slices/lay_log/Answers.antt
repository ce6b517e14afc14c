use Rattle.std.proofs.Common.{◌+◌, ◌*◌, subst}
use Rattle.slice_rack.specs.SliceRack.{tables, below_of}
use Rattle.slice_rack.specs.Changes.{IsPast, IsWithin, Overlaps}
use Rattle.pool_format.proofs.Slicing.{laid_seat, log_added}
use Rattle.pool_format.proofs.slices.lay_log.Goals as goal

pub returns-clause-laid : goal.returns-clause-laid
returns-clause-laid g c =
    let t = tables c.seat.new.self in
    log_added c.args.plan.now (g.R.Rack.seen (below_of c.args.slices.now)) c.requires.plan c.requires.room c.args.place c.requires.place
    t (tables c.add_slice.new.self) c.add_slice.result
    (laid_seat c.args.plan.now.arrays.items c.args.place (tables c.args.slices.now) t c.requires.laid c.seat.ensures.seated)
    c.add_slice.ensures.unseated
    (λ same. subst (λ r. IsPast t (g.R.Rack.seen r) c.args.place 2048 8192) c.seat.ensures.below (c.add_slice.ensures.outside same))
    (λ same. subst (λ r. IsWithin t (g.R.Rack.seen r) c.args.place 2048 8192 × Overlaps t (17 * c.args.place + 0) 2048 8192) c.seat.ensures.below (c.add_slice.ensures.overlap same))
    c.add_slice.ensures.added
