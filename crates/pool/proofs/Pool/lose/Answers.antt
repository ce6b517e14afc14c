use Rattle.std.proofs.Common.{◌≡◌, false, sym, ap, subst, ◌∙◌, Err}
use Rattle.raid_laws.specs.Losses.{has_other}
use Rattle.raid_rack.specs.RaidRack.{IsFit, arrays_in, raid_in, slices_seen}
use Rattle.pool.specs.declared.calls.LoseFault.TheVariants.{LastDrive}
use Rattle.pool.specs.View.{view}
use Rattle.pool.specs.Calls.{LosesDrive}
use Rattle.pool.proofs.Losing.{IsLost, lose_done, lose_last, lose_missing}
use Rattle.pool.proofs.Reached.{with_arrays}
use Rattle.pool.proofs.Serving.{no_call}
use Rattle.pool.proofs.Pool.lose.Goals as goal

pub returns-then-not-has_drive-clause-lost : goal.returns-then-not-has_drive-clause-lost
returns-then-not-has_drive-clause-lost g c =
    lose_missing (view g.R.Rack.seen g.R.Bay.shelf c.args.self.now) c.args.place (no_call g.R.Rack.seen g.R.Bay.shelf g.met.R.Rack.sound c.args.self.now c.requires)
    (sym c.has_drive.ensures ∙ c.if-not-has_drive.true)

pub lose-requires-clause-fit : goal.lose-requires-clause-fit
lose-requires-clause-fit g c = subst (λ r. IsFit (arrays_in r) (slices_seen g.R.Rack.seen r)) (sym c.inner.ensures.value) c.requires.0

pub returns-in-Ok-clause-lost : goal.returns-in-Ok-clause-lost
returns-in-Ok-clause-lost g c =
    let own = c.in-Ok.ensures in
    lose_done g.R.Rack.seen g.R.Bay.shelf g.R.Rack.runs g.met.R.Rack.sound g.met.R.Bay.runs_shelf c.args.self.now c.lose.new.self c.args.place c.requires
    (sym c.has_drive.ensures ∙ c.if-not-has_drive.false)
    (subst (λ old. IsLost g.R.Rack.seen g.R.Rack.runs old c.lose.new.self c.args.place) c.inner.ensures.value
    (record { other = own.served; mends = own.mends; keeps = own.keeps; raises = c.lose.ensures.raises; ran = c.lose.ensures.runs; truths = c.lose.ensures.truths; moments = own.moments }))

pub returns-in-Err-clause-lost : goal.returns-in-Err-clause-lost
returns-in-Err-clause-lost g c =
    let p = c.args.self.now in
    subst (λ r. LosesDrive (view g.R.Rack.seen g.R.Bay.shelf p) (view g.R.Rack.seen g.R.Bay.shelf (with_arrays p r)) c.args.place {X = Unit {0}} (Err LastDrive))
    (sym (c.in-Err.ensures.kept ∙ c.inner.ensures.value))
    (lose_last (view g.R.Rack.seen g.R.Bay.shelf p) c.args.place (no_call g.R.Rack.seen g.R.Bay.shelf g.met.R.Rack.sound p c.requires)
    (sym c.has_drive.ensures ∙ c.if-not-has_drive.false)
    (subst (λ r. has_other (raid_in r).state c.args.place ≡ false) c.inner.ensures.value c.in-Err.ensures.refused))

pub returns-in-Err-clause-kept : goal.returns-in-Err-clause-kept
returns-in-Err-clause-kept g c = ap (with_arrays c.args.self.now) (c.in-Err.ensures.kept ∙ c.inner.ensures.value)
