use Rattle.std.proofs.Common.{sym, ap, subst, ◌∙◌}
use Rattle.raid_laws.specs.NewDrive.{reaches_all}
use Rattle.raid_rack.specs.RaidRack.{IsFit, arrays_in, arrays_of as arrays_by_number, slices_seen}
use Rattle.pool.proofs.Shown.{views_are}
use Rattle.pool.specs.View.{arrays_of}
use Rattle.pool.proofs.Pool.reaches.Goals as goal

pub reaches-requires : goal.reaches-requires
reaches-requires g c = subst (λ r. IsFit (arrays_in r) (slices_seen g.R.Rack.seen r)) (sym c.below.ensures) c.requires.fit.0

pub returns : goal.returns
returns g c =
    c.reaches.ensures
    ∙ ap (λ r. reaches_all (arrays_by_number r) c.args.place c.args.sectors) c.below.ensures
    ∙ ap (λ vs. reaches_all vs c.args.place c.args.sectors) (sym (views_are (arrays_in (arrays_of c.args.self.now)) c.requires.fit.0.running.count))
