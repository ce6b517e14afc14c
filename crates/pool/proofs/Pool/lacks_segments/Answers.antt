use Rattle.std.proofs.Common.{sym, subst, ◌∙◌, ap}
use Rattle.growth_plan.specs.Book.{IsBook}
use Rattle.pool.specs.Replacing.{replacing}
use Rattle.pool.specs.View.{book, view}
use Rattle.pool.proofs.Planning.{book_replacing}
use Rattle.pool.proofs.Pool.lacks_segments.Goals as goal

pub target-extents-requires : goal.target-extents-requires
target-extents-requires g c =
    let s = (book (view g.R.Rack.seen g.R.Bay.shelf c.args.self.now)).state in
    subst (λ t. IsBook t c.args.progress.now) (sym (c.replacing-planned.ensures ∙ ap (replacing c.args.place c.args.units) c.state.ensures))
    (book_replacing s c.args.progress.now c.args.place c.args.units c.requires.book c.requires.listed c.requires.some c.requires.small)
