use Rattle.std.proofs.Common.{sym, subst}
use Rattle.array_model.specs.View.{View, LosesPlaces}
use Rattle.array_model.specs.Members.{IsSameButSeats}
use Rattle.array_core.specs.Seats.{names, gone}
use Rattle.array_core.proofs.Noting.{noted_all, kept_one}
use Rattle.array_core.proofs.Array.note_all.Goals as goal

pub returns-clause-same : goal.returns-clause-same
returns-clause-same c = subst (λ (w : View). IsSameButSeats c.args.self.now w) (sym c.gone.ensures) (kept_one c.args.self.now c.args.places.now.items)

pub returns-clause-loses : goal.returns-clause-loses
returns-clause-loses c =
    subst (λ (w : View). LosesPlaces c.args.self.now w (names c.args.places.now.items)) (sym c.gone.ensures)
    (subst (λ (v : View). LosesPlaces v (gone c.args.places.now.items v) (names c.args.places.now.items)) c.self.view_is
    (noted_all c.self.inside c.args.places.now.items c.self.invariant c.requires))
