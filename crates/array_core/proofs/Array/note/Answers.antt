use Rattle.std.proofs.Common.{◌≡◌, ◌==◌, List, ℕ, [], ◌∷◌, ◌++◌, sym, ◌∙◌, subst, ap}
use Rattle.array_model.specs.View.{View, LosesPlaces}
use Rattle.array_model.specs.Members.{IsSameButSeats}
use Rattle.array_core.specs.Seats.{gone}
use Rattle.array_core.proofs.Noting.{noted_one, kept_one}
use Rattle.array_core.proofs.Array.note.Goals as goal

pub returns-clause-same : goal.returns-clause-same
returns-clause-same c = subst (λ (w : View). IsSameButSeats c.args.self.now w) (sym c.gone.ensures) (kept_one c.args.self.now c.push.new.self.items)

pub returns-clause-loses : goal.returns-clause-loses
returns-clause-loses c =
    let places : c.push.new.self.items ≡ c.args.place ∷ [] = c.push.ensures.items ∙ ap (λ (ps : List ℕ). ps ++ c.args.place ∷ []) c.new-places.ensures in
    subst (λ (w : View). LosesPlaces c.args.self.now w (λ p. p == c.args.place)) (sym (c.gone.ensures ∙ ap (λ ps. gone ps c.args.self.now) places))
    (subst (λ (v : View). LosesPlaces v (gone (c.args.place ∷ []) v) (λ p. p == c.args.place)) c.self.view_is
    (noted_one c.self.inside c.args.place c.self.invariant c.requires))
