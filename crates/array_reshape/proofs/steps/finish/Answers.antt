use Rattle.std.proofs.Common.{◌≡◌, ℕ, [], is_ok, sym, ap, subst, ◌∙◌, refl, append-nil}
use Rattle.rack.proofs.Reading.{only_reads_start}
use Rattle.log_laws.specs.View.{LogView}
use Rattle.array_model.proofs.Views.{notes_none}
use Rattle.array_core.proofs.LogWrites.{few_in_order}
use Rattle.array_core.specs.Superblocks.{raised}
use Rattle.sync_laws.proofs.Answering.{not_ok, refused_by, served_by}
use Rattle.reshape_laws.specs.Ahead.{finished}
use Rattle.reshape_laws.specs.Reshapes.{Reshapes, lacks_two}
use Rattle.reshape_laws.proofs.Adopts.{KeepsMembers}
use Rattle.reshape_laws.proofs.Calling.{call_apart, call_elsewhere, call_had, call_reshapes, call_some, call_valid, next_lacks, staged_next}
use Rattle.reshape_laws.proofs.Committing.{refused_reshapes}
use Rattle.reshape_laws.proofs.Finishing.{IsEnding, ending_step}
use Rattle.reshape_laws.proofs.Truths.{finished_bits}
use Rattle.array_reshape.proofs.steps.finish.Goals as goal

pub returns-then-lacks_two-clause-reshapes : goal.returns-then-lacks_two-clause-reshapes
returns-then-lacks_two-clause-reshapes g c =
    let v = c.args.array.now in
    let a = g.R.Rack.seen c.args.rack.now in
    let number : c.clear.new.self.number ≡ c.args.log.now.number = ap (λ (l : LogView). l.number) c.clear.ensures in
    subst (λ (n : ℕ). Reshapes v (finished v (raised v.truth.events)) v c.args.log.now.number n c.args.on.now.items a a (is_ok c.answer.result)) (sym number)
    (refused_reshapes v (finished v (raised v.truth.events)) v c.args.log.now.number c.args.on.now.items a a (is_ok c.answer.result) c.requires.slices.lasting c.rules.ensures
    (only_reads_start a c.requires.slices.fit) (notes_none v a a)
    (not_ok (lacks_two v) c.answer.result c.answer.ensures.served (sym c.lacks_two.ensures ∙ c.if-lacks_two.true)))

pub commit-lost-requires-clause-some : goal.commit-lost-requires-clause-some
commit-lost-requires-clause-some g c =
    let v = c.args.array.now in
    let a = g.R.Rack.seen c.args.rack.now in
    let t = (finished v (raised v.truth.events)).truth in
    let keeps : KeepsMembers v.truth (finished v (raised v.truth.events)).truth = record { places = refl; roles = refl; disks = refl; offset = refl; size = refl } in
    let is : IsEnding v = record { is_array = c.rules.ensures; reshaping = c.requires.reshaping; whole = c.requires.whole; few = sym c.lacks_two.ensures ∙ c.if-lacks_two.false; unsynced = c.unsynced_rows.ensures } in
    let step = ending_step v a is in
    let adds = staged_next v t c.finished-change.result c.args.log.now.added c.stage.new.log.added c.rules.ensures keeps c.finished-change.ensures.change c.requires.empty c.stage.ensures.added in
    call_some v t v.seats v.devices v.resync (λ m. ⊥) c.stage.new.log.added [] c.stage.new.log.added a a step adds (sym (append-nil c.stage.new.log.added))

pub commit-lost-requires-clause-valid : goal.commit-lost-requires-clause-valid
commit-lost-requires-clause-valid g c =
    let v = c.args.array.now in
    let a = g.R.Rack.seen c.args.rack.now in
    let t = (finished v (raised v.truth.events)).truth in
    let keeps : KeepsMembers v.truth (finished v (raised v.truth.events)).truth = record { places = refl; roles = refl; disks = refl; offset = refl; size = refl } in
    let is : IsEnding v = record { is_array = c.rules.ensures; reshaping = c.requires.reshaping; whole = c.requires.whole; few = sym c.lacks_two.ensures ∙ c.if-lacks_two.false; unsynced = c.unsynced_rows.ensures } in
    let step = ending_step v a is in
    let adds = staged_next v t c.finished-change.result c.args.log.now.added c.stage.new.log.added c.rules.ensures keeps c.finished-change.ensures.change c.requires.empty c.stage.ensures.added in
    call_valid v t v.seats v.devices v.resync (λ m. ⊥) c.stage.new.log.added [] c.stage.new.log.added a a step adds (sym (append-nil c.stage.new.log.added))

pub commit-lost-requires-clause-apart : goal.commit-lost-requires-clause-apart
commit-lost-requires-clause-apart g c =
    let v = c.args.array.now in
    let a = g.R.Rack.seen c.args.rack.now in
    let t = (finished v (raised v.truth.events)).truth in
    let keeps : KeepsMembers v.truth (finished v (raised v.truth.events)).truth = record { places = refl; roles = refl; disks = refl; offset = refl; size = refl } in
    let is : IsEnding v = record { is_array = c.rules.ensures; reshaping = c.requires.reshaping; whole = c.requires.whole; few = sym c.lacks_two.ensures ∙ c.if-lacks_two.false; unsynced = c.unsynced_rows.ensures } in
    let step = ending_step v a is in
    let adds = staged_next v t c.finished-change.result c.args.log.now.added c.stage.new.log.added c.rules.ensures keeps c.finished-change.ensures.change c.requires.empty c.stage.ensures.added in
    call_apart v t v.seats v.devices v.resync (λ m. ⊥) c.stage.new.log.added [] c.stage.new.log.added a a step adds (sym (append-nil c.stage.new.log.added))

pub commit-lost-requires-clause-had : goal.commit-lost-requires-clause-had
commit-lost-requires-clause-had g c =
    let v = c.args.array.now in
    let a = g.R.Rack.seen c.args.rack.now in
    let t = (finished v (raised v.truth.events)).truth in
    let keeps : KeepsMembers v.truth (finished v (raised v.truth.events)).truth = record { places = refl; roles = refl; disks = refl; offset = refl; size = refl } in
    let is : IsEnding v = record { is_array = c.rules.ensures; reshaping = c.requires.reshaping; whole = c.requires.whole; few = sym c.lacks_two.ensures ∙ c.if-lacks_two.false; unsynced = c.unsynced_rows.ensures } in
    let step = ending_step v a is in
    let adds = staged_next v t c.finished-change.result c.args.log.now.added c.stage.new.log.added c.rules.ensures keeps c.finished-change.ensures.change c.requires.empty c.stage.ensures.added in
    call_had v t v.seats v.devices v.resync (λ m. ⊥) c.stage.new.log.added [] c.stage.new.log.added a a step adds (sym (append-nil c.stage.new.log.added)) (record { fit = c.requires.slices.fit; lasting = c.requires.slices.lasting; disks = c.requires.slices.disks; sectors = c.requires.slices.sectors }) (only_reads_start a c.requires.slices.fit)

pub note_all-requires : goal.note_all-requires
note_all-requires g c = few_in_order c.commit-lost.result.items c.commit-lost.ensures.commits.gone.ordered

pub returns-clause-reshapes : goal.returns-clause-reshapes
returns-clause-reshapes g c =
    let v = c.args.array.now in
    let a = g.R.Rack.seen c.args.rack.now in
    let t = (finished v (raised v.truth.events)).truth in
    let keeps : KeepsMembers v.truth (finished v (raised v.truth.events)).truth = record { places = refl; roles = refl; disks = refl; offset = refl; size = refl } in
    let is : IsEnding v = record { is_array = c.rules.ensures; reshaping = c.requires.reshaping; whole = c.requires.whole; few = sym c.lacks_two.ensures ∙ c.if-lacks_two.false; unsynced = c.unsynced_rows.ensures } in
    let step = ending_step v a is in
    let adds = staged_next v t c.finished-change.result c.args.log.now.added c.stage.new.log.added c.rules.ensures keeps c.finished-change.ensures.change c.requires.empty c.stage.ensures.added in
    call_reshapes v v c.note_all.new.self c.adopt.new.self t a a (g.R.Rack.seen c.commit-lost.new.rack) c.stage.new.log c.args.on.now.items c.commit-lost.result.items c.stage.new.log.added []
    c.args.log.now.number c.commit-lost.new.self.number c.finished-change.result (is_ok c.answer-answered.result)
    step adds (sym (append-nil c.stage.new.log.added)) keeps is.few c.requires.synced (λ bits. finished_bits v (raised v.truth.events))
    c.requires.slices (only_reads_start a c.requires.slices.fit) (notes_none v a a) c.commit-lost.ensures.commits c.note_all.ensures.same c.note_all.ensures.loses c.rules-2.ensures
    c.finished-change.ensures.change c.adopt.ensures
    (ap (λ (l : LogView). l.number) c.stage.ensures.log) (ap (λ (l : LogView). l.number) c.commit-lost.ensures.log)

pub returns-clause-elsewhere : goal.returns-clause-elsewhere
returns-clause-elsewhere g c =
    let v = c.args.array.now in
    let a = g.R.Rack.seen c.args.rack.now in
    let t = (finished v (raised v.truth.events)).truth in
    let keeps : KeepsMembers v.truth (finished v (raised v.truth.events)).truth = record { places = refl; roles = refl; disks = refl; offset = refl; size = refl } in
    let is : IsEnding v = record { is_array = c.rules.ensures; reshaping = c.requires.reshaping; whole = c.requires.whole; few = sym c.lacks_two.ensures ∙ c.if-lacks_two.false; unsynced = c.unsynced_rows.ensures } in
    let step = ending_step v a is in
    let adds = staged_next v t c.finished-change.result c.args.log.now.added c.stage.new.log.added c.rules.ensures keeps c.finished-change.ensures.change c.requires.empty c.stage.ensures.added in
    call_elsewhere v t v.seats v.devices v.resync (λ m. ⊥) c.stage.new.log.added [] a a (g.R.Rack.seen c.commit-lost.new.rack) c.stage.new.log c.args.on.now.items c.commit-lost.result.items
    step adds (sym (append-nil c.stage.new.log.added)) (only_reads_start a c.requires.slices.fit) c.commit-lost.ensures.commits

pub returns-clause-served : goal.returns-clause-served
returns-clause-served g c =
    let v = c.args.array.now in
    served_by (lacks_two c.note_all.new.self) (lacks_two c.adopt.new.self) c.answer-answered.result
    (next_lacks v c.note_all.new.self c.adopt.new.self (finished v (raised v.truth.events)).truth c.finished-change.result c.note_all.ensures.same
    c.rules-2.ensures (record { places = refl; roles = refl; disks = refl; offset = refl; size = refl }) c.finished-change.ensures.change c.adopt.ensures)
    c.answer-answered.ensures.served

pub returns-clause-refused : goal.returns-clause-refused
returns-clause-refused g c =
    let v = c.args.array.now in
    refused_by (lacks_two c.note_all.new.self) (lacks_two c.adopt.new.self) 0 0 c.answer-answered.result
    (next_lacks v c.note_all.new.self c.adopt.new.self (finished v (raised v.truth.events)).truth c.finished-change.result c.note_all.ensures.same
    c.rules-2.ensures (record { places = refl; roles = refl; disks = refl; offset = refl; size = refl }) c.finished-change.ensures.change c.adopt.ensures)
    refl c.answer-answered.ensures.refused
