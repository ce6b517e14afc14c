-- What a commit leaves pending: for a sector that no target is for nothing more, and for a sector that no slice has nothing.
use Rattle.std.proofs.Common.{◌≡◌, ◌<◌, ℕ, List, None, sym, ap, subst, ◌∙◌, inl, inr}
use Rattle.std.proofs.lemmas.Option.{none-some}
use Rattle.rack.specs.Seen.{Image, RackView}
use Rattle.rack.specs.Targets.{Target, look}
use Rattle.array_image.specs.Left.{TargetsExist, TargetsInside}
use Rattle.array_image.specs.Places.{log_slice}
use Rattle.array_image.specs.Record.{pending}
use Rattle.log_laws.specs.View.{LogView}
use Rattle.log_laws.specs.Standing.{IsReady, SomeoneDecides, deciding}
use Rattle.log_laws.specs.Commits.{CommitCall, Rests, StandsMidway}
use Rattle.array_core.proofs.LogFrames.{look_nothing}

-- what is pending midway is for sectors that slices have, where it was so before
pub midway_inside : (l : LogView) (on : List ℕ) (a : RackView) (c : Image) → StandsMidway l on a c → IsReady l on a → TargetsExist a → TargetsInside a.sectors c
midway_inside l on a c mid ready before d t v is = elim mid.pends [
  | inl yet ↦
      before yet.before (record { picks = λ p u live. yet.stands.picks (log_slice p) u live; inside = yet.stands.inside }) d t v
      (ap (λ (xs : List Target). look xs d t) (sym yet.same) ∙ is)
  | inr (inl pends) ↦ (ready.targets d t v (ap (λ (xs : List Target). look xs d t) (sym pends.all) ∙ is)).sector
  | inr (inr done) ↦ absurd (none-some v (sym (ap (λ (xs : List Target). look xs d t) done.0 ∙ look_nothing d t) ∙ is))
]

-- so it is with what a stop after the commit leaves
pub rests_inside : (l : LogView) (on lost : List ℕ) (a b : RackView) → CommitCall l on lost a b → IsReady l on a → SomeoneDecides l.added on lost a → TargetsExist b
rests_inside l on lost a b commit ready decides c picks d t v is = elim (commit.rests ready decides c picks).targets [
  | inl none ↦ absurd (none-some v (sym (ap (λ (xs : List Target). look xs d t) none ∙ look_nothing d t) ∙ is))
  | inr all ↦
      subst (λ (n : ℕ). t < n) (sym (commit.stays.sectors d)) (ready.targets d t v (ap (λ (xs : List Target). look xs d t) (sym all.1) ∙ is)).sector
]

-- and for a sector that no target is for nothing is pending then
pub rests_none : (number : ℕ) (xs : List Target) (lost : List ℕ) (c : Image) (d t : ℕ) → Rests number xs lost c → look xs d t ≡ None → look (pending (deciding c) c) d t ≡ None
rests_none number xs lost c d t rests apart = elim rests.targets [
  | inl none ↦ ap (λ (ys : List Target). look ys d t) none ∙ look_nothing d t
  | inr all ↦ ap (λ (ys : List Target). look ys d t) all.1 ∙ apart
]
