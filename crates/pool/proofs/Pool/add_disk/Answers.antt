use Rattle.std.proofs.Common.{◌≡◌, Some, sym, ap, subst, ◌∙◌}
use Rattle.raid_rack.specs.RaidRack.{slices_in}
use Rattle.slice_rack.specs.SliceRack.{below_of}
use Rattle.pool.specs.Adding.{refusal_of_add}
use Rattle.pool.specs.View.{book, view}
use Rattle.pool.proofs.Added.{adds_none, late_add}
use Rattle.pool.proofs.Pool.add_disk.Goals as goal

pub returns-in-Err-clause-adds : goal.returns-in-Err-clause-adds
returns-in-Err-clause-adds g c =
    let x = view g.R.Rack.seen g.R.Bay.shelf c.args.self.now in
    let size : c.sectors-sectors.result ≡ x.bay.sectors c.args.disk =
    c.sectors-sectors.ensures.number ∙ ap (λ r. (g.R.Rack.seen r).sectors c.args.disk) (c.below-3.ensures ∙ ap below_of (c.below-2.ensures ∙ ap slices_in c.below.ensures)) in
    let is = subst (λ n. refusal_of_add x.linear (book x) n ≡ Some c.in-Err.fault) size (sym c.in-Err.ensures) in
    adds_none x c.args.disk c.in-Err.fault c.requires.fit (late_add x.linear (book x) (x.bay.sectors c.args.disk) c.in-Err.fault is).1 is
