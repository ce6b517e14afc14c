use Rattle.std.proofs.Common.{◌<◌, sym, subst}
use Rattle.rack.specs.Sequences.{WritesOnly}
use Rattle.slice_rack.specs.SliceRack.{tables, below_of}
use Rattle.slice_rack.specs.Slices.{seat_of}
use Rattle.pool_check.specs.Drives.{Loses, flag_by, seats_by}
use Rattle.pool_check.specs.Settling.{IsSettled, IsTableSector, IsTrueOf, KeepsTable}
use Rattle.assembler_laws.proofs.LeftOut.{left_distinct, left_inside, mends_so}
use Rattle.assembler.proofs.Settling.{settling_leaves}
use Rattle.assembler.proofs.mending.mend_tables.Goals as goal

pub settle_tables-requires-clause-inside : goal.settle_tables-requires-clause-inside
settle_tables-requires-clause-inside g c p d seat =
    let slices = c.args.slices.now in
    subst (λ r. d < (g.R.Rack.seen r).disks) (sym c.inner.ensures.value)
    (left_inside (tables slices) (g.R.Rack.seen (below_of slices)) slices.orderly c.requires.fit c.args.gone.now.items c.args.seats c.leave_out.new.seats
    c.requires.seats c.leave_out.ensures.each c.leave_out.ensures.beyond c.args.agreed.now p d seat)

pub settle_tables-requires-clause-distinct : goal.settle_tables-requires-clause-distinct
settle_tables-requires-clause-distinct g c =
    let slices = c.args.slices.now in
    left_distinct (tables slices) (g.R.Rack.seen (below_of slices)) slices.orderly c.requires.fit c.args.gone.now.items c.args.seats c.leave_out.new.seats
    c.requires.seats c.leave_out.ensures.each c.leave_out.ensures.beyond c.args.agreed.now

pub returns-clause-mends : goal.returns-clause-mends
returns-clause-mends g c =
    let slices = c.args.slices.now in
    let seen = g.R.Rack.seen in
    let y = seen c.settle_tables.new.rack in
    let left = c.leave_out.new.seats in
    let now = c.settle_tables.new.seats in
    let same = c.inner.ensures.value in
    mends_so (tables slices) (seen (below_of slices)) slices.orderly c.requires.fit c.args.gone.now.items c.args.seats left
    c.requires.seats c.leave_out.ensures.each c.leave_out.ensures.beyond c.args.agreed.now y now
    (subst (λ r. WritesOnly (seen r) y (IsTableSector (seen r) y (seats_by left) 16)) same c.settle_tables.ensures.only)
    (subst (λ r. Loses (seen r) y (seats_by left) (seats_by now)) same c.settle_tables.ensures.seats)
    (λ d. subst (λ r. KeepsTable (seen r) y d) same (c.settle_tables.ensures.tables d))
    (λ p d few seat.
    subst (λ r. IsTrueOf (seen r) d (flag_by c.args.agreed.now p) → IsSettled (seen r) y d) same (c.settle_tables.ensures.settled p d few seat))
    c.args.state.now c.absent_of.result.items c.absent_of.ensures

pub returns-clause-moments : goal.returns-clause-moments
returns-clause-moments g c f sound idle good apart same alone traced =
    let slices = c.args.slices.now in
    settling_leaves (g.R.Rack.seen (below_of slices)) (g.R.Rack.seen c.settle_tables.new.rack) f c.args.state.now (seat_of (tables slices)) c.args.agreed.now c.args.gone.now.items
    c.absent_of.result.items sound idle good apart same (returns-clause-mends g c) alone traced
