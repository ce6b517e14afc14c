use Rattle.std.proofs.Common.{◌≡◌, ◌<◌, ◌^◌, false, sym, ap, subst, ◌∙◌}
use Rattle.std.proofs.lemmas.Bool.{and_parts}
use Rattle.pool_format.proofs.Units.{units_small}
use Rattle.pool_state.specs.declared.contents.State.{State}
use Rattle.shr_base.specs.Units.{units_of}
use Rattle.pool.specs.Adding.{lacks_drive}
use Rattle.pool.specs.View.{book, view}
use Rattle.pool.proofs.Adds.{listed}
use Rattle.pool.proofs.Pool.admits_disk.Goals as goal

pub admits_units-requires-clause-small : goal.admits_units-requires-clause-small
admits_units-requires-clause-small g c =
    let s = (book (view g.R.Rack.seen g.R.Bay.shelf c.args.self.now)).state in
    let whole : lacks_drive s ≡ false = ap lacks_drive (sym c.state-state.ensures) ∙ sym c.lacks_drive.ensures ∙ c.if-lacks_drive.false in
    let extent = (and_parts _ _ (c.requires.fit.0.running.set.valid 0 (listed s whole).0)).0 in
    let same : c.units.result ≡ units_of c.args.sectors s.extent = c.units.ensures ∙ ap (λ (k : State). units_of c.args.sectors k.extent) c.state-state.ensures in
    subst (λ n. n < 2 ^ 41) (sym same) (units_small c.args.sectors s.extent extent c.requires.small)
