use Rattle.std.proofs.Common.{◌+◌, ℕ, [], ◌∷◌, subst}
use Rattle.rack.specs.Targets.{target}
use Rattle.array_model.specs.Members.{Works}
use Rattle.array_model.proofs.Writing.{works_written, works_noted}
use Rattle.array_core.proofs.Array.send.Goals as goal

pub returns-in-Ok-clause-works : goal.returns-in-Ok-clause-works
returns-in-Ok-clause-works g c =
    let a = g.R.Rack.seen c.args.rack.now in
    let b = g.R.Rack.seen c.write.new.self in
    subst (λ (d : ℕ). Works c.args.self.now c.args.self.now a b (target d (2048 + c.args.sector) c.args.from.now ∷ [])) c.slice-slice.ensures
    (works_written c.args.self.now a b c.slice-slice.result (2048 + c.args.sector) c.args.from.now c.in-Ok.ensures.writes)

pub returns-in-Err-clause-works : goal.returns-in-Err-clause-works
returns-in-Err-clause-works g c =
    works_noted c.args.self.now c.note.new.self (g.R.Rack.seen c.args.rack.now) (g.R.Rack.seen c.write.new.self) c.args.position (2048 + c.args.sector) c.place_on-place.result
    c.slice-slice.result c.args.from.now c.in-Err.field-0 c.rules.ensures.few c.place_on-place.ensures.place c.slice-slice.ensures c.note.ensures.same c.note.ensures.loses c.in-Err.ensures.writes
