use Rattle.std.proofs.Common.{true, Err, ap, sym, subst, ◌∙◌}
use Rattle.gpt_table.specs.Disk.{now_on}
use Rattle.slice_rack.specs.SliceRack.{tables, below_of}
use Rattle.pool_rest.specs.Members.{IsCut}
use Rattle.pool_rest.proofs.CutDrives.{cut_read, cut_untabled, table_read, no_table}
use Rattle.pool_rest.proofs.members.lay_drive.Goals as goal

pub returns-in-Ok-clause-cut : goal.returns-in-Ok-clause-cut
returns-in-Ok-clause-cut g c =
    let x = g.R.Rack.seen c.inner.result.now in
    subst (λ r. IsCut (g.R.Rack.seen r) (g.R.Rack.seen (below_of c.lay_members.new.slices)) (tables c.lay_members.new.slices) c.args.place true) c.inner.ensures.value
    (cut_read x _ _ _ c.args.place c.in-Some.disk c.in-Ok.found.table c.in-Ok.ensures.writable.writable c.in-Ok.ensures.writable.size
    (c.lay_members.ensures.others.seats c.args.place ∙ c.requires.seats c.args.place c.requires.place ∙ sym c.seat.ensures.chosen ∙ c.in-Some.is)
    (λ told contents agrees.
    table_read (x.sectors c.in-Some.disk) (now_on x c.in-Some.disk) contents c.in-Ok.found (c.in-Ok.ensures.table told) (c.in-Ok.ensures.unspent (λ e. cc) told contents agrees))
    c.requires.place c.lay_members.ensures.cut)

pub returns-in-Err-NoTable-clause-cut : goal.returns-in-Err-NoTable-clause-cut
returns-in-Err-NoTable-clause-cut g c =
    let x = g.R.Rack.seen c.inner.result.now in
    let is = c.in-Err-NoTable.field-0-is in
    subst (λ r. IsCut (g.R.Rack.seen r) (g.R.Rack.seen c.read_table.new.rack) (tables c.args.slices.now) c.args.place true) c.inner.ensures.value
    (cut_untabled x _ _ c.args.place c.in-Some.disk c.requires.upper
    (c.requires.seats c.args.place c.requires.place ∙ sym c.seat.ensures.chosen ∙ c.in-Some.is)
    (λ told contents agrees.
    no_table (x.sectors c.in-Some.disk) (now_on x c.in-Some.disk) contents (c.in-Err-NoTable.ensures.none (ap Err is) told)
    (c.in-Err-NoTable.ensures.unspent (λ e. cc (is, e)) told contents agrees)))
