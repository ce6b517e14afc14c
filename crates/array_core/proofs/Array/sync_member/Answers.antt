use Rattle.std.proofs.Common.{◌≡◌, ◌==◌, ℕ, List, subst}
use Rattle.rack.specs.Values.{MayLeave}
use Rattle.rack.specs.Seen.{IsLive}
use Rattle.array_model.specs.View.{LosesPlaces}
use Rattle.array_model.proofs.Views.{notes_none}
use Rattle.array_model.proofs.Syncing.{single_missing, single_gone, single_synced}
use Rattle.array_core.proofs.Array.sync_member.Goals as goal

pub returns-then-is_missing-clause-notes : goal.returns-then-is_missing-clause-notes
returns-then-is_missing-clause-notes g c = notes_none c.args.self.now _ _

pub returns-then-is_missing-clause-single : goal.returns-then-is_missing-clause-single
returns-then-is_missing-clause-single g c = λ opened. single_missing c.args.self.now (g.R.Rack.seen c.args.rack.now) c.args.position (c.is_missing.ensures.missing c.if-is_missing.true)

pub returns-in-Ok-clause-notes : goal.returns-in-Ok-clause-notes
returns-in-Ok-clause-notes g c = notes_none c.args.self.now _ _

pub returns-in-Ok-clause-single : goal.returns-in-Ok-clause-single
returns-in-Ok-clause-single g c =
    let b = g.R.Rack.seen c.sync.new.self in
    let a = g.R.Rack.seen c.args.rack.now in
    let Done : ℕ → Type 0 = λ d. (t : ℕ) (u : List ℕ) → IsLive a b d t → MayLeave (b.held d t) u → u ≡ (b.held d t).current in
    single_synced c.args.self.now a b c.args.position c.requires.slices.lasting c.in-Ok.ensures.syncs.stays c.requires.position
    (subst Done c.slice-slice.ensures c.in-Ok.ensures.syncs.done)

pub returns-in-Err-clause-single : goal.returns-in-Err-clause-single
returns-in-Err-clause-single g c = λ opened.
    single_gone c.args.self.now c.note.new.self (g.R.Rack.seen c.sync.new.self) c.args.position c.note.ensures.same
    (subst (λ (place : ℕ). LosesPlaces c.args.self.now c.note.new.self (λ p. p == place)) c.place_on-place.ensures.place c.note.ensures.loses)
