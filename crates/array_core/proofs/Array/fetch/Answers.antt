use Rattle.std.proofs.Common.{◌≡◌, ◌+◌, ◌==◌, ℕ, subst, refl, lt-ltb}
use Rattle.array_model.specs.View.{LosesPlaces}
use Rattle.array_model.proofs.Views.{notes_none}
use Rattle.array_model.proofs.Reading.{column_read, wanting_noted, reach_noted}
use Rattle.array_core.proofs.Array.fetch.Goals as goal

pub returns-in-Ok-clause-notes : goal.returns-in-Ok-clause-notes
returns-in-Ok-clause-notes g c = notes_none c.args.self.now _ _

pub returns-in-Ok-clause-served : goal.returns-in-Ok-clause-served
returns-in-Ok-clause-served g c = λ ok. (
  refl,
  λ opened.
      let a = g.R.Rack.seen c.args.rack.now in
      let Value : ℕ → Type 0 = λ d. a.told d → c.read.new.into ≡ (a.held d (2048 + c.args.sector)).current in
      column_read c.args.self.now a c.args.position c.args.sector c.read.new.into c.requires.position (lt-ltb _ _ c.requires.counts)
      (subst Value c.slice-slice.ensures c.in-Ok.ensures.reads.value) opened,
)

pub returns-in-Err-clause-lost : goal.returns-in-Err-clause-lost
returns-in-Err-clause-lost g c = λ bad.
    wanting_noted c.args.self.now c.note.new.self c.args.position c.args.sector c.requires.position c.requires.counts c.note.ensures.same
    (subst (λ (place : ℕ). LosesPlaces c.args.self.now c.note.new.self (λ p. p == place)) c.place_on-place.ensures.place c.note.ensures.loses)

pub returns-in-Err-clause-gone : goal.returns-in-Err-clause-gone
returns-in-Err-clause-gone g c = λ bad.
    reach_noted c.args.self.now c.note.new.self c.args.position c.note.ensures.same
    (subst (λ (place : ℕ). LosesPlaces c.args.self.now c.note.new.self (λ p. p == place)) c.place_on-place.ensures.place c.note.ensures.loses)
