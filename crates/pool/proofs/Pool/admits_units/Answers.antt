use Rattle.std.specs.Result.{result_err}
use Rattle.std.proofs.Common.{◌≡◌, None, sym, ap, ◌∙◌}
use Rattle.growth_plan.specs.Admission.{add_refusals, first_refusal}
use Rattle.growth_plan.specs.declared.Progress.{Progress}
use Rattle.pool_state.specs.declared.contents.State.{State}
use Rattle.pool.specs.View.{book, view}
use Rattle.pool.specs.Works.{arrays_now}
use Rattle.pool.proofs.Adds.{fits_plan, has_units}
use Rattle.pool.proofs.Pool.admits_units.Goals as goal

pub lacks_room-requires-clause-some : goal.lacks_room-requires-clause-some
lacks_room-requires-clause-some g c =
    let v = book (view g.R.Rack.seen g.R.Bay.shelf c.args.self.now) in
    let none : first_refusal (add_refusals v.state (arrays_now v) c.args.units) ≡ None =
    ap (λ (s : State). first_refusal (add_refusals s (arrays_now v) c.args.units)) (sym c.state.ensures)
    ∙ ap (λ (p : Progress). first_refusal (add_refusals c.state.result.now p.arrays.items c.args.units)) (sym c.progress-progress.ensures.value)
    ∙ sym c.admit_add.ensures
    ∙ ap result_err c.in-Ok.is in
    has_units v.state c.args.units c.progress-progress.ensures.book.valid c.requires.listed (fits_plan v c.args.units none)
