use Rattle.std.proofs.Common.{◌≡◌, ℕ, [], false, is_ok, sym, ap, subst, ◌∙◌, refl, append-nil}
use Rattle.log_laws.specs.View.{LogView}
use Rattle.array_model.proofs.Views.{same_view_then}
use Rattle.array_core.proofs.Elsewhere.{reads_elsewhere}
use Rattle.array_core.proofs.LogWrites.{few_in_order, goes_then, reads_goes}
use Rattle.array_core.specs.Superblocks.{raised}
use Rattle.sync_laws.proofs.Answering.{not_ok, refused_by, served_by}
use Rattle.reshape_laws.specs.Ahead.{taken_over}
use Rattle.reshape_laws.specs.Reshapes.{Reshapes, lacks_two}
use Rattle.reshape_laws.proofs.Adopts.{KeepsMembers}
use Rattle.reshape_laws.proofs.Calling.{call_apart, call_elsewhere, call_had, call_reshapes, call_some, call_valid, next_lacks, staged_next}
use Rattle.reshape_laws.proofs.Committing.{refused_reshapes}
use Rattle.reshape_laws.proofs.Taking.{IsTaking, taking_few, taking_step}
use Rattle.array_reshape.proofs.steps.take_over.Goals as goal

pub returns-then-lacks_two-clause-reshapes : goal.returns-then-lacks_two-clause-reshapes
returns-then-lacks_two-clause-reshapes g c =
    let v = c.args.array.now in
    let u = c.sync.new.self in
    let a = g.R.Rack.seen c.args.rack.now in
    let b = g.R.Rack.seen c.sync.new.rack in
    let number : c.clear.new.self.number ≡ c.args.log.now.number = ap (λ (l : LogView). l.number) c.clear.ensures ∙ ap (λ (l : LogView). l.number) c.stage.ensures.log in
    subst (λ (n : ℕ). Reshapes v (taken_over v (raised v.truth.events)) u c.args.log.now.number n c.args.on.now.items a b (is_ok c.answer.result)) (sym number)
    (refused_reshapes v (taken_over v (raised v.truth.events)) u c.args.log.now.number c.args.on.now.items a b (is_ok c.answer.result) c.requires.slices.lasting c.rules.ensures
    c.sync.ensures.reads c.sync.ensures.notes
    (not_ok (lacks_two u) c.answer.result c.answer.ensures.served (sym c.lacks_two.ensures ∙ c.if-lacks_two.true)))

pub returns-then-lacks_two-clause-elsewhere : goal.returns-then-lacks_two-clause-elsewhere
returns-then-lacks_two-clause-elsewhere g c =
    reads_elsewhere false c.args.array.now c.args.on.now.items (g.R.Rack.seen c.args.rack.now) (g.R.Rack.seen c.sync.new.rack) c.sync.ensures.reads

pub returns-then-lacks_two-clause-goes : goal.returns-then-lacks_two-clause-goes
returns-then-lacks_two-clause-goes g c = reads_goes (g.R.Rack.seen c.args.rack.now) (g.R.Rack.seen c.sync.new.rack) c.sync.ensures.reads

pub commit-lost-requires-clause-some : goal.commit-lost-requires-clause-some
commit-lost-requires-clause-some g c =
    let v = c.args.array.now in
    let u = c.sync.new.self in
    let a = g.R.Rack.seen c.args.rack.now in
    let b = g.R.Rack.seen c.sync.new.rack in
    let t = (taken_over v (raised v.truth.events)).truth in
    let keeps : KeepsMembers v.truth (taken_over v (raised v.truth.events)).truth = record { places = refl; roles = refl; disks = refl; offset = refl; size = refl } in
    let is : IsTaking v u a b = record { is_array = c.rules.ensures; mirror = c.requires.mirror; synced = c.requires.synced; few = sym c.lacks_two.ensures ∙ c.if-lacks_two.false; unsynced = c.unsynced_rows.ensures; notes = c.sync.ensures.notes; syncs = c.sync.ensures.syncs } in
    let step = taking_step v u a b is in
    let adds = staged_next v t c.taken_over-change.result c.args.log.now.added c.stage.new.log.added c.rules.ensures keeps c.taken_over-change.ensures.change c.requires.empty c.stage.ensures.added in
    call_some v t v.seats v.devices v.resync (λ m. ⊥) c.stage.new.log.added [] c.stage.new.log.added a b step adds (sym (append-nil c.stage.new.log.added))

pub commit-lost-requires-clause-valid : goal.commit-lost-requires-clause-valid
commit-lost-requires-clause-valid g c =
    let v = c.args.array.now in
    let u = c.sync.new.self in
    let a = g.R.Rack.seen c.args.rack.now in
    let b = g.R.Rack.seen c.sync.new.rack in
    let t = (taken_over v (raised v.truth.events)).truth in
    let keeps : KeepsMembers v.truth (taken_over v (raised v.truth.events)).truth = record { places = refl; roles = refl; disks = refl; offset = refl; size = refl } in
    let is : IsTaking v u a b = record { is_array = c.rules.ensures; mirror = c.requires.mirror; synced = c.requires.synced; few = sym c.lacks_two.ensures ∙ c.if-lacks_two.false; unsynced = c.unsynced_rows.ensures; notes = c.sync.ensures.notes; syncs = c.sync.ensures.syncs } in
    let step = taking_step v u a b is in
    let adds = staged_next v t c.taken_over-change.result c.args.log.now.added c.stage.new.log.added c.rules.ensures keeps c.taken_over-change.ensures.change c.requires.empty c.stage.ensures.added in
    call_valid v t v.seats v.devices v.resync (λ m. ⊥) c.stage.new.log.added [] c.stage.new.log.added a b step adds (sym (append-nil c.stage.new.log.added))

pub commit-lost-requires-clause-apart : goal.commit-lost-requires-clause-apart
commit-lost-requires-clause-apart g c =
    let v = c.args.array.now in
    let u = c.sync.new.self in
    let a = g.R.Rack.seen c.args.rack.now in
    let b = g.R.Rack.seen c.sync.new.rack in
    let t = (taken_over v (raised v.truth.events)).truth in
    let keeps : KeepsMembers v.truth (taken_over v (raised v.truth.events)).truth = record { places = refl; roles = refl; disks = refl; offset = refl; size = refl } in
    let is : IsTaking v u a b = record { is_array = c.rules.ensures; mirror = c.requires.mirror; synced = c.requires.synced; few = sym c.lacks_two.ensures ∙ c.if-lacks_two.false; unsynced = c.unsynced_rows.ensures; notes = c.sync.ensures.notes; syncs = c.sync.ensures.syncs } in
    let step = taking_step v u a b is in
    let adds = staged_next v t c.taken_over-change.result c.args.log.now.added c.stage.new.log.added c.rules.ensures keeps c.taken_over-change.ensures.change c.requires.empty c.stage.ensures.added in
    call_apart v t v.seats v.devices v.resync (λ m. ⊥) c.stage.new.log.added [] c.stage.new.log.added a b step adds (sym (append-nil c.stage.new.log.added))

pub commit-lost-requires-clause-had : goal.commit-lost-requires-clause-had
commit-lost-requires-clause-had g c =
    let v = c.args.array.now in
    let u = c.sync.new.self in
    let a = g.R.Rack.seen c.args.rack.now in
    let b = g.R.Rack.seen c.sync.new.rack in
    let t = (taken_over v (raised v.truth.events)).truth in
    let keeps : KeepsMembers v.truth (taken_over v (raised v.truth.events)).truth = record { places = refl; roles = refl; disks = refl; offset = refl; size = refl } in
    let is : IsTaking v u a b = record { is_array = c.rules.ensures; mirror = c.requires.mirror; synced = c.requires.synced; few = sym c.lacks_two.ensures ∙ c.if-lacks_two.false; unsynced = c.unsynced_rows.ensures; notes = c.sync.ensures.notes; syncs = c.sync.ensures.syncs } in
    let step = taking_step v u a b is in
    let adds = staged_next v t c.taken_over-change.result c.args.log.now.added c.stage.new.log.added c.rules.ensures keeps c.taken_over-change.ensures.change c.requires.empty c.stage.ensures.added in
    call_had v t v.seats v.devices v.resync (λ m. ⊥) c.stage.new.log.added [] c.stage.new.log.added a b step adds (sym (append-nil c.stage.new.log.added)) (record { fit = c.requires.slices.fit; lasting = c.requires.slices.lasting; disks = c.requires.slices.disks; sectors = c.requires.slices.sectors }) c.sync.ensures.reads

pub note_all-requires : goal.note_all-requires
note_all-requires g c = few_in_order c.commit-lost.result.items c.commit-lost.ensures.commits.gone.ordered

pub returns-clause-reshapes : goal.returns-clause-reshapes
returns-clause-reshapes g c =
    let v = c.args.array.now in
    let u = c.sync.new.self in
    let a = g.R.Rack.seen c.args.rack.now in
    let b = g.R.Rack.seen c.sync.new.rack in
    let t = (taken_over v (raised v.truth.events)).truth in
    let keeps : KeepsMembers v.truth (taken_over v (raised v.truth.events)).truth = record { places = refl; roles = refl; disks = refl; offset = refl; size = refl } in
    let is : IsTaking v u a b = record { is_array = c.rules.ensures; mirror = c.requires.mirror; synced = c.requires.synced; few = sym c.lacks_two.ensures ∙ c.if-lacks_two.false; unsynced = c.unsynced_rows.ensures; notes = c.sync.ensures.notes; syncs = c.sync.ensures.syncs } in
    let step = taking_step v u a b is in
    let adds = staged_next v t c.taken_over-change.result c.args.log.now.added c.stage.new.log.added c.rules.ensures keeps c.taken_over-change.ensures.change c.requires.empty c.stage.ensures.added in
    call_reshapes v u c.note_all.new.self c.adopt.new.self t a b (g.R.Rack.seen c.commit-lost.new.rack) c.stage.new.log c.args.on.now.items c.commit-lost.result.items c.stage.new.log.added []
    c.args.log.now.number c.commit-lost.new.self.number c.taken_over-change.result (is_ok c.answer-answered.result)
    step adds (sym (append-nil c.stage.new.log.added)) keeps (taking_few v u a b is) c.requires.synced (λ bits. bits)
    c.requires.slices c.sync.ensures.reads c.sync.ensures.notes c.commit-lost.ensures.commits c.note_all.ensures.same c.note_all.ensures.loses c.rules-2.ensures
    c.taken_over-change.ensures.change c.adopt.ensures
    (ap (λ (l : LogView). l.number) c.stage.ensures.log) (ap (λ (l : LogView). l.number) c.commit-lost.ensures.log)

pub returns-clause-elsewhere : goal.returns-clause-elsewhere
returns-clause-elsewhere g c =
    let v = c.args.array.now in
    let u = c.sync.new.self in
    let a = g.R.Rack.seen c.args.rack.now in
    let b = g.R.Rack.seen c.sync.new.rack in
    let t = (taken_over v (raised v.truth.events)).truth in
    let keeps : KeepsMembers v.truth (taken_over v (raised v.truth.events)).truth = record { places = refl; roles = refl; disks = refl; offset = refl; size = refl } in
    let is : IsTaking v u a b = record { is_array = c.rules.ensures; mirror = c.requires.mirror; synced = c.requires.synced; few = sym c.lacks_two.ensures ∙ c.if-lacks_two.false; unsynced = c.unsynced_rows.ensures; notes = c.sync.ensures.notes; syncs = c.sync.ensures.syncs } in
    let step = taking_step v u a b is in
    let adds = staged_next v t c.taken_over-change.result c.args.log.now.added c.stage.new.log.added c.rules.ensures keeps c.taken_over-change.ensures.change c.requires.empty c.stage.ensures.added in
    call_elsewhere v t v.seats v.devices v.resync (λ m. ⊥) c.stage.new.log.added [] a b (g.R.Rack.seen c.commit-lost.new.rack) c.stage.new.log c.args.on.now.items c.commit-lost.result.items
    step adds (sym (append-nil c.stage.new.log.added)) c.sync.ensures.reads c.commit-lost.ensures.commits

pub returns-clause-goes : goal.returns-clause-goes
returns-clause-goes g c =
    goes_then (g.R.Rack.seen c.args.rack.now) (g.R.Rack.seen c.sync.new.rack) (g.R.Rack.seen c.commit-lost.new.rack)
    (reads_goes (g.R.Rack.seen c.args.rack.now) (g.R.Rack.seen c.sync.new.rack) c.sync.ensures.reads)
    (record { stays = c.commit-lost.ensures.commits.stays; leaves = c.commit-lost.ensures.commits.leaves })

pub returns-clause-served : goal.returns-clause-served
returns-clause-served g c =
    let v = c.args.array.now in
    served_by (lacks_two c.note_all.new.self) (lacks_two c.adopt.new.self) c.answer-answered.result
    (next_lacks v c.note_all.new.self c.adopt.new.self (taken_over v (raised v.truth.events)).truth c.taken_over-change.result (same_view_then v c.sync.new.self c.note_all.new.self c.sync.ensures.notes.same c.note_all.ensures.same)
    c.rules-2.ensures (record { places = refl; roles = refl; disks = refl; offset = refl; size = refl }) c.taken_over-change.ensures.change c.adopt.ensures)
    c.answer-answered.ensures.served

pub returns-clause-refused : goal.returns-clause-refused
returns-clause-refused g c =
    let v = c.args.array.now in
    refused_by (lacks_two c.note_all.new.self) (lacks_two c.adopt.new.self) 0 0 c.answer-answered.result
    (next_lacks v c.note_all.new.self c.adopt.new.self (taken_over v (raised v.truth.events)).truth c.taken_over-change.result (same_view_then v c.sync.new.self c.note_all.new.self c.sync.ensures.notes.same c.note_all.ensures.same)
    c.rules-2.ensures (record { places = refl; roles = refl; disks = refl; offset = refl; size = refl }) c.taken_over-change.ensures.change c.adopt.ensures)
    refl c.answer-answered.ensures.refused
