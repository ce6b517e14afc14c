use Rattle.std.proofs.Common.{sym, ◌∙◌, refl}
use Rattle.slice_rack.specs.SliceRack.{tables, below_of}
use Rattle.pool_check.specs.Drives.{seats_by}
use Rattle.pool_check.proofs.Laid.{added_keeps, added_laid, added_logs, slot_adds, skip_laid}
use Rattle.pool_check.proofs.laying.lay_member.Goals as goal

pub returns-in_default-clause-laid : goal.returns-in_default-clause-laid
returns-in_default-clause-laid g c =
    skip_laid (seats_by c.args.seats.now) c.args.checked.now.arrays.items c.args.checked.now.extents.items c.args.number c.args.place c.requires.number c.requires.place
    (tables c.args.slices.now) (sym c.slot.ensures ∙ c.in_default.is) c.requires.laid

pub returns-in_default-clause-kept : goal.returns-in_default-clause-kept
returns-in_default-clause-kept g c = record { seats = λ p. refl; firsts = λ k log. refl; sectors = λ k log. refl }

pub returns-clause-laid : goal.returns-clause-laid
returns-clause-laid g c =
    let t = tables c.args.slices.now in
    let u = tables c.add_slice.new.self in
    let e = c.in-Some.extent in
    let is = sym c.slot.ensures ∙ c.in-Some.is in
    let adds =
    slot_adds (seats_by c.args.seats.now) c.args.checked.now.arrays.items c.args.checked.now.extents.items (g.R.Rack.seen (below_of c.args.slices.now)) t
    c.args.number c.args.place c.requires.number c.requires.place c.requires.logs c.requires.slots c.requires.laid e is u c.add_slice.result
    c.add_slice.ensures.unseated c.add_slice.ensures.outside c.add_slice.ensures.overlap c.add_slice.ensures.added in
    added_laid (seats_by c.args.seats.now) c.args.checked.now.arrays.items c.args.checked.now.extents.items c.args.number c.args.place c.requires.number c.requires.place t u e adds is c.requires.laid

pub returns-clause-kept : goal.returns-clause-kept
returns-clause-kept g c =
    let t = tables c.args.slices.now in
    let u = tables c.add_slice.new.self in
    let e = c.in-Some.extent in
    let is = sym c.slot.ensures ∙ c.in-Some.is in
    let adds =
    slot_adds (seats_by c.args.seats.now) c.args.checked.now.arrays.items c.args.checked.now.extents.items (g.R.Rack.seen (below_of c.args.slices.now)) t
    c.args.number c.args.place c.requires.number c.requires.place c.requires.logs c.requires.slots c.requires.laid e is u c.add_slice.result
    c.add_slice.ensures.unseated c.add_slice.ensures.outside c.add_slice.ensures.overlap c.add_slice.ensures.added in
    added_keeps (seats_by c.args.seats.now) c.args.checked.now.arrays.items c.args.checked.now.extents.items c.args.number c.args.place c.requires.number c.requires.place t u e adds

pub returns-clause-logs : goal.returns-clause-logs
returns-clause-logs g c =
    let t = tables c.args.slices.now in
    let u = tables c.add_slice.new.self in
    let e = c.in-Some.extent in
    let is = sym c.slot.ensures ∙ c.in-Some.is in
    let adds =
    slot_adds (seats_by c.args.seats.now) c.args.checked.now.arrays.items c.args.checked.now.extents.items (g.R.Rack.seen (below_of c.args.slices.now)) t
    c.args.number c.args.place c.requires.number c.requires.place c.requires.logs c.requires.slots c.requires.laid e is u c.add_slice.result
    c.add_slice.ensures.unseated c.add_slice.ensures.outside c.add_slice.ensures.overlap c.add_slice.ensures.added in
    added_logs (seats_by c.args.seats.now) c.args.checked.now.arrays.items c.args.checked.now.extents.items c.args.number c.args.place c.requires.number c.requires.place t u e adds c.requires.logs
