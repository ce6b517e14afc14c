use Rattle.std.specs.Result.{result_err}
use Rattle.std.proofs.Common.{◌≡◌, ◌<◌, ◌^◌, None, sym, ap, subst, ◌∙◌}
use Rattle.std.proofs.lemmas.Bool.{and_parts}
use Rattle.pool_format.proofs.Units.{units_small}
use Rattle.growth_plan.specs.Admission.{first_refusal, replace_refusals}
use Rattle.growth_plan.specs.declared.Progress.{Progress}
use Rattle.pool_state.specs.declared.contents.State.{State}
use Rattle.shr_base.specs.Units.{units_of}
use Rattle.pool.specs.View.{book, view}
use Rattle.pool.specs.Works.{arrays_now}
use Rattle.pool.proofs.Admitted.{no_smaller}
use Rattle.pool.proofs.Planning.{some_units}
use Rattle.pool.proofs.Pool.admits.Goals as goal

pub admit_replace-requires-clause-small : goal.admit_replace-requires-clause-small
admit_replace-requires-clause-small g c =
    let extent = (and_parts _ _ c.progress-progress.ensures.book.valid).0 in
    subst (λ n. n < 2 ^ 41)
    (ap (units_of c.args.sectors) (ap (λ s. s.extent) (sym c.state-state.ensures)) ∙ sym c.units-units.ensures)
    (units_small c.args.sectors _ extent c.requires.small)

pub lacks_segments-requires-clause-small : goal.lacks_segments-requires-clause-small
lacks_segments-requires-clause-small g c =
    let extent = (and_parts _ _ c.progress-progress.ensures.book.valid).0 in
    subst (λ n. n < 2 ^ 41)
    (ap (units_of c.args.sectors) (ap (λ s. s.extent) (sym c.state-state.ensures)) ∙ sym c.units-units.ensures)
    (units_small c.args.sectors _ extent c.requires.small)

pub lacks_segments-requires-clause-some : goal.lacks_segments-requires-clause-some
lacks_segments-requires-clause-some g c =
    let v = book (view g.R.Rack.seen g.R.Bay.shelf c.args.self.now) in
    let units = c.units-units.result in
    let none : first_refusal (replace_refusals v.state (arrays_now v) c.args.place units) ≡ None =
    ap (λ (s : State). first_refusal (replace_refusals s (arrays_now v) c.args.place units)) (sym c.state-state.ensures)
    ∙ ap (λ (p : Progress). first_refusal (replace_refusals c.state-state.result.now p.arrays.items c.args.place units)) (sym c.progress-progress.ensures.value)
    ∙ sym c.admit_replace.ensures
    ∙ ap result_err c.in-Ok.is in
    some_units v.state c.args.place units c.progress-progress.ensures.book.valid c.requires.listed (no_smaller v c.args.place units none).0
