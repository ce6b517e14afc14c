use Rattle.std.proofs.Common.{◌≡◌, Some, sym, ap, subst, ◌∙◌, inl}
use Rattle.raid_rack.specs.RaidRack.{slices_in}
use Rattle.slice_rack.specs.SliceRack.{below_of}
use Rattle.pool.specs.Replacing.{refusal_of}
use Rattle.pool.specs.View.{book, view}
use Rattle.pool.proofs.Composed.{nothing_done}
use Rattle.pool.proofs.Pool.replace_by.Goals as goal

pub returns-in-Err-clause-replaces : goal.returns-in-Err-clause-replaces
returns-in-Err-clause-replaces g c =
    let x = view g.R.Rack.seen g.R.Bay.shelf c.args.self.now in
    let size : c.sectors-sectors.result ≡ x.bay.sectors c.args.disk =
    c.sectors-sectors.ensures.number ∙ ap (λ r. (g.R.Rack.seen r).sectors c.args.disk) (c.below-3.ensures ∙ ap below_of (c.below-2.ensures ∙ ap slices_in c.below.ensures)) in
    inl
    (nothing_done x c.args.place c.args.disk c.in-Err.fault c.requires.fit
    (subst (λ n. refusal_of x.linear (book x) c.args.place n ≡ Some c.in-Err.fault) size (sym c.in-Err.ensures)))
