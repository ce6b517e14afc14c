use Rattle.std.proofs.Common.{◌≡◌, ◌+◌, ◌≤◌, ℕ, false, is_ok, [], length, sym, ap, subst, ◌∙◌, refl, arith}
use Rattle.rack.proofs.Reading.{only_reads_start}
use Rattle.log_laws.specs.View.{LogView}
use Rattle.md_super.specs.declared.superblock.Super.{Super}
use Rattle.array_model.specs.View.{rows_of}
use Rattle.array_model.proofs.Views.{notes_none, same_view_then}
use Rattle.array_core.proofs.Elsewhere.{reads_elsewhere}
use Rattle.array_core.proofs.LogWrites.{few_in_order, goes_then, reads_goes}
use Rattle.array_core.specs.Superblocks.{raised}
use Rattle.sync_laws.proofs.Answering.{refused_by, served_by}
use Rattle.sync_laws.proofs.Supers.{supers_few}
use Rattle.reshape_laws.specs.Ahead.{ahead, ahead_by, next_row}
use Rattle.reshape_laws.specs.Reshapes.{Reshapes, lacks_two}
use Rattle.reshape_laws.proofs.Adopts.{KeepsMembers}
use Rattle.reshape_laws.proofs.Arrays.{ahead_by_array, row_left}
use Rattle.reshape_laws.proofs.Calling.{call_apart, call_elsewhere, call_had, call_reshapes, call_some, call_valid, next_lacks, staged_next}
use Rattle.reshape_laws.proofs.Committing.{refused_reshapes}
use Rattle.reshape_laws.proofs.RowCall.{IsMoving, moving_is, moving_step}
use Rattle.array_reshape.proofs.steps.rows.Goals as goal

pub returns-then-lacks_two-clause-reshapes : goal.returns-then-lacks_two-clause-reshapes
returns-then-lacks_two-clause-reshapes g c =
    let v = c.args.array.now in
    let a = g.R.Rack.seen c.args.rack.now in
    let some = c.requires.some in
    let left = row_left v c.rules.ensures c.requires.reshaping c.requires.left in
    record {
      rows = 1;
      some = omega arith;
      few = omega (arith, some);
      left = omega (arith, left);
      steps =
          let number : c.clear.new.self.number ≡ c.args.log.now.number = ap (λ (l : LogView). l.number) c.clear.ensures in
          subst (λ (n : ℕ). Reshapes v (ahead v (raised v.truth.events)) v c.args.log.now.number n c.args.on.now.items a a false) (sym number)
          (refused_reshapes v (ahead v (raised v.truth.events)) v c.args.log.now.number c.args.on.now.items a a false c.requires.slices.lasting c.rules.ensures
          (only_reads_start a c.requires.slices.fit) (notes_none v a a)
          refl);
      answer = tt;
    }

pub stage_rows-requires-clause-room : goal.stage_rows-requires-clause-room
stage_rows-requires-clause-room g c =
    let v = c.args.array.now in
    let next = ahead_by v c.rows_at_once-rows.result (raised v.truth.events) in
    let keeps : KeepsMembers v.truth (ahead_by v c.rows_at_once-rows.result (raised v.truth.events)).truth = record { places = refl; roles = refl; disks = refl; offset = refl; size = refl } in
    let adds = staged_next v next.truth c.moved-change.result c.args.log.now.added c.stage.new.log.added c.rules.ensures keeps c.moved-change.ensures.change c.requires.empty c.stage.ensures.added in
    let few = supers_few next [] c.stage.new.log.added (ahead_by_array v c.rows_at_once-rows.result (raised v.truth.events) c.rules.ensures c.requires.reshaping (subst (λ r. r + c.rows_at_once-rows.result ≤ rows_of v) c.next_row-first.ensures.row c.rows_at_once-rows.ensures.left)) adds in
    let long : length c.stage.new.log.added ≡ length adds.targets = ap length adds.appended in
    let room = c.rows_at_once-rows.ensures.room in
    omega (arith, few, long, room)

pub returns-then-not-stage_rows-clause-reshapes : goal.returns-then-not-stage_rows-clause-reshapes
returns-then-not-stage_rows-clause-reshapes g c =
    let v = c.args.array.now in
    let u = c.stage_rows.new.array in
    let a = g.R.Rack.seen c.args.rack.now in
    let b = g.R.Rack.seen c.stage_rows.new.rack in
    let first : c.next_row-first.result ≡ next_row v = c.next_row-first.ensures.row in
    let left = c.rows_at_once-rows.ensures.left in
    record {
      rows = c.rows_at_once-rows.result;
      some = c.rows_at_once-rows.ensures.some;
      few = c.rows_at_once-rows.ensures.few;
      left = omega (arith, first, left);
      steps =
          let number : c.clear-then-not-stage_rows.new.self.number ≡ c.args.log.now.number =
          ap (λ (l : LogView). l.number) c.clear-then-not-stage_rows.ensures ∙ ap (λ (l : LogView). l.number) c.stage_rows.ensures.log ∙ ap (λ (l : LogView). l.number) c.stage.ensures.log in
          subst (λ (n : ℕ). Reshapes v (ahead_by v c.rows_at_once-rows.result (raised v.truth.events)) u c.args.log.now.number n c.args.on.now.items a b false) (sym number)
          (refused_reshapes v (ahead_by v c.rows_at_once-rows.result (raised v.truth.events)) u c.args.log.now.number c.args.on.now.items a b false c.requires.slices.lasting c.rules.ensures
          c.stage_rows.ensures.reads c.stage_rows.ensures.notes
          refl);
      answer = tt;
    }

pub returns-then-not-stage_rows-clause-elsewhere : goal.returns-then-not-stage_rows-clause-elsewhere
returns-then-not-stage_rows-clause-elsewhere g c =
    reads_elsewhere false c.args.array.now c.args.on.now.items (g.R.Rack.seen c.args.rack.now) (g.R.Rack.seen c.stage_rows.new.rack) c.stage_rows.ensures.reads

pub returns-then-not-stage_rows-clause-goes : goal.returns-then-not-stage_rows-clause-goes
returns-then-not-stage_rows-clause-goes g c = reads_goes (g.R.Rack.seen c.args.rack.now) (g.R.Rack.seen c.stage_rows.new.rack) c.stage_rows.ensures.reads

pub commit-lost-requires-clause-some : goal.commit-lost-requires-clause-some
commit-lost-requires-clause-some g c =
    let v = c.args.array.now in
    let u = c.stage_rows.new.array in
    let a = g.R.Rack.seen c.args.rack.now in
    let b = g.R.Rack.seen c.stage_rows.new.rack in
    let t = (ahead_by v c.rows_at_once-rows.result (raised v.truth.events)).truth in
    let keeps : KeepsMembers v.truth (ahead_by v c.rows_at_once-rows.result (raised v.truth.events)).truth = record { places = refl; roles = refl; disks = refl; offset = refl; size = refl } in
    let copies = c.stage_rows.ensures.added (c.if-not-stage_rows.false) in
    let own = copies.targets in
    let is : IsMoving v c.rows_at_once-rows.result c.absent_in-absent.result a copies.targets =
    moving_is v c.rows_at_once-rows.result c.absent_in-absent.result a c.next_row-first.result copies.targets c.rules.ensures c.requires.reshaping c.rows_at_once-rows.ensures.left (sym c.lacks_two.ensures ∙ c.if-lacks_two.false) c.requires.synced c.unsynced_rows.ensures
    c.next_row-first.ensures.row c.rows_at_once-rows.ensures.absent copies.pieces in
    let step = moving_step v c.rows_at_once-rows.result c.absent_in-absent.result a b copies.targets c.requires.slices.lasting c.stage_rows.ensures.reads is in
    let adds = staged_next v t c.moved-change.result c.args.log.now.added c.stage.new.log.added c.rules.ensures keeps c.moved-change.ensures.change c.requires.empty c.stage.ensures.added in
    call_some v t v.seats v.devices v.resync (λ m. ⊥) c.stage.new.log.added own c.stage_rows.new.log.added a b step adds copies.appended

pub commit-lost-requires-clause-valid : goal.commit-lost-requires-clause-valid
commit-lost-requires-clause-valid g c =
    let v = c.args.array.now in
    let u = c.stage_rows.new.array in
    let a = g.R.Rack.seen c.args.rack.now in
    let b = g.R.Rack.seen c.stage_rows.new.rack in
    let t = (ahead_by v c.rows_at_once-rows.result (raised v.truth.events)).truth in
    let keeps : KeepsMembers v.truth (ahead_by v c.rows_at_once-rows.result (raised v.truth.events)).truth = record { places = refl; roles = refl; disks = refl; offset = refl; size = refl } in
    let copies = c.stage_rows.ensures.added (c.if-not-stage_rows.false) in
    let own = copies.targets in
    let is : IsMoving v c.rows_at_once-rows.result c.absent_in-absent.result a copies.targets =
    moving_is v c.rows_at_once-rows.result c.absent_in-absent.result a c.next_row-first.result copies.targets c.rules.ensures c.requires.reshaping c.rows_at_once-rows.ensures.left (sym c.lacks_two.ensures ∙ c.if-lacks_two.false) c.requires.synced c.unsynced_rows.ensures
    c.next_row-first.ensures.row c.rows_at_once-rows.ensures.absent copies.pieces in
    let step = moving_step v c.rows_at_once-rows.result c.absent_in-absent.result a b copies.targets c.requires.slices.lasting c.stage_rows.ensures.reads is in
    let adds = staged_next v t c.moved-change.result c.args.log.now.added c.stage.new.log.added c.rules.ensures keeps c.moved-change.ensures.change c.requires.empty c.stage.ensures.added in
    call_valid v t v.seats v.devices v.resync (λ m. ⊥) c.stage.new.log.added own c.stage_rows.new.log.added a b step adds copies.appended

pub commit-lost-requires-clause-apart : goal.commit-lost-requires-clause-apart
commit-lost-requires-clause-apart g c =
    let v = c.args.array.now in
    let u = c.stage_rows.new.array in
    let a = g.R.Rack.seen c.args.rack.now in
    let b = g.R.Rack.seen c.stage_rows.new.rack in
    let t = (ahead_by v c.rows_at_once-rows.result (raised v.truth.events)).truth in
    let keeps : KeepsMembers v.truth (ahead_by v c.rows_at_once-rows.result (raised v.truth.events)).truth = record { places = refl; roles = refl; disks = refl; offset = refl; size = refl } in
    let copies = c.stage_rows.ensures.added (c.if-not-stage_rows.false) in
    let own = copies.targets in
    let is : IsMoving v c.rows_at_once-rows.result c.absent_in-absent.result a copies.targets =
    moving_is v c.rows_at_once-rows.result c.absent_in-absent.result a c.next_row-first.result copies.targets c.rules.ensures c.requires.reshaping c.rows_at_once-rows.ensures.left (sym c.lacks_two.ensures ∙ c.if-lacks_two.false) c.requires.synced c.unsynced_rows.ensures
    c.next_row-first.ensures.row c.rows_at_once-rows.ensures.absent copies.pieces in
    let step = moving_step v c.rows_at_once-rows.result c.absent_in-absent.result a b copies.targets c.requires.slices.lasting c.stage_rows.ensures.reads is in
    let adds = staged_next v t c.moved-change.result c.args.log.now.added c.stage.new.log.added c.rules.ensures keeps c.moved-change.ensures.change c.requires.empty c.stage.ensures.added in
    call_apart v t v.seats v.devices v.resync (λ m. ⊥) c.stage.new.log.added own c.stage_rows.new.log.added a b step adds copies.appended

pub commit-lost-requires-clause-had : goal.commit-lost-requires-clause-had
commit-lost-requires-clause-had g c =
    let v = c.args.array.now in
    let u = c.stage_rows.new.array in
    let a = g.R.Rack.seen c.args.rack.now in
    let b = g.R.Rack.seen c.stage_rows.new.rack in
    let t = (ahead_by v c.rows_at_once-rows.result (raised v.truth.events)).truth in
    let keeps : KeepsMembers v.truth (ahead_by v c.rows_at_once-rows.result (raised v.truth.events)).truth = record { places = refl; roles = refl; disks = refl; offset = refl; size = refl } in
    let copies = c.stage_rows.ensures.added (c.if-not-stage_rows.false) in
    let own = copies.targets in
    let is : IsMoving v c.rows_at_once-rows.result c.absent_in-absent.result a copies.targets =
    moving_is v c.rows_at_once-rows.result c.absent_in-absent.result a c.next_row-first.result copies.targets c.rules.ensures c.requires.reshaping c.rows_at_once-rows.ensures.left (sym c.lacks_two.ensures ∙ c.if-lacks_two.false) c.requires.synced c.unsynced_rows.ensures
    c.next_row-first.ensures.row c.rows_at_once-rows.ensures.absent copies.pieces in
    let step = moving_step v c.rows_at_once-rows.result c.absent_in-absent.result a b copies.targets c.requires.slices.lasting c.stage_rows.ensures.reads is in
    let adds = staged_next v t c.moved-change.result c.args.log.now.added c.stage.new.log.added c.rules.ensures keeps c.moved-change.ensures.change c.requires.empty c.stage.ensures.added in
    call_had v t v.seats v.devices v.resync (λ m. ⊥) c.stage.new.log.added own c.stage_rows.new.log.added a b step adds copies.appended (record { fit = c.requires.slices.fit; lasting = c.requires.slices.lasting; disks = c.requires.slices.disks; sectors = c.requires.slices.sectors }) c.stage_rows.ensures.reads

pub note_all-requires : goal.note_all-requires
note_all-requires g c = few_in_order c.commit-lost.result.items c.commit-lost.ensures.commits.gone.ordered

pub returns-clause-reshapes : goal.returns-clause-reshapes
returns-clause-reshapes g c =
    let v = c.args.array.now in
    let u = c.stage_rows.new.array in
    let a = g.R.Rack.seen c.args.rack.now in
    let b = g.R.Rack.seen c.stage_rows.new.rack in
    let t = (ahead_by v c.rows_at_once-rows.result (raised v.truth.events)).truth in
    let keeps : KeepsMembers v.truth (ahead_by v c.rows_at_once-rows.result (raised v.truth.events)).truth = record { places = refl; roles = refl; disks = refl; offset = refl; size = refl } in
    let copies = c.stage_rows.ensures.added (c.if-not-stage_rows.false) in
    let own = copies.targets in
    let is : IsMoving v c.rows_at_once-rows.result c.absent_in-absent.result a copies.targets =
    moving_is v c.rows_at_once-rows.result c.absent_in-absent.result a c.next_row-first.result copies.targets c.rules.ensures c.requires.reshaping c.rows_at_once-rows.ensures.left (sym c.lacks_two.ensures ∙ c.if-lacks_two.false) c.requires.synced c.unsynced_rows.ensures
    c.next_row-first.ensures.row c.rows_at_once-rows.ensures.absent copies.pieces in
    let step = moving_step v c.rows_at_once-rows.result c.absent_in-absent.result a b copies.targets c.requires.slices.lasting c.stage_rows.ensures.reads is in
    let adds = staged_next v t c.moved-change.result c.args.log.now.added c.stage.new.log.added c.rules.ensures keeps c.moved-change.ensures.change c.requires.empty c.stage.ensures.added in
    let first : c.next_row-first.result ≡ next_row v = c.next_row-first.ensures.row in
    let left = c.rows_at_once-rows.ensures.left in
    record {
      rows = c.rows_at_once-rows.result;
      some = c.rows_at_once-rows.ensures.some;
      few = c.rows_at_once-rows.ensures.few;
      left = omega (arith, first, left);
      steps =
          call_reshapes v u c.note_all.new.self c.adopt.new.self t a b (g.R.Rack.seen c.commit-lost.new.rack) c.stage_rows.new.log c.args.on.now.items c.commit-lost.result.items c.stage.new.log.added own
          c.args.log.now.number c.commit-lost.new.self.number c.moved-change.result (is_ok c.answer-answered.result)
          step adds copies.appended keeps is.few c.requires.synced (λ bits. bits)
          c.requires.slices c.stage_rows.ensures.reads c.stage_rows.ensures.notes c.commit-lost.ensures.commits c.note_all.ensures.same c.note_all.ensures.loses c.rules-2.ensures
          c.moved-change.ensures.change c.adopt.ensures
          (ap (λ (l : LogView). l.number) c.stage_rows.ensures.log ∙ ap (λ (l : LogView). l.number) c.stage.ensures.log) (ap (λ (l : LogView). l.number) c.commit-lost.ensures.log);
      answer = c.answer-answered.ensures.done;
    }

pub returns-clause-elsewhere : goal.returns-clause-elsewhere
returns-clause-elsewhere g c =
    let v = c.args.array.now in
    let u = c.stage_rows.new.array in
    let a = g.R.Rack.seen c.args.rack.now in
    let b = g.R.Rack.seen c.stage_rows.new.rack in
    let t = (ahead_by v c.rows_at_once-rows.result (raised v.truth.events)).truth in
    let keeps : KeepsMembers v.truth (ahead_by v c.rows_at_once-rows.result (raised v.truth.events)).truth = record { places = refl; roles = refl; disks = refl; offset = refl; size = refl } in
    let copies = c.stage_rows.ensures.added (c.if-not-stage_rows.false) in
    let own = copies.targets in
    let is : IsMoving v c.rows_at_once-rows.result c.absent_in-absent.result a copies.targets =
    moving_is v c.rows_at_once-rows.result c.absent_in-absent.result a c.next_row-first.result copies.targets c.rules.ensures c.requires.reshaping c.rows_at_once-rows.ensures.left (sym c.lacks_two.ensures ∙ c.if-lacks_two.false) c.requires.synced c.unsynced_rows.ensures
    c.next_row-first.ensures.row c.rows_at_once-rows.ensures.absent copies.pieces in
    let step = moving_step v c.rows_at_once-rows.result c.absent_in-absent.result a b copies.targets c.requires.slices.lasting c.stage_rows.ensures.reads is in
    let adds = staged_next v t c.moved-change.result c.args.log.now.added c.stage.new.log.added c.rules.ensures keeps c.moved-change.ensures.change c.requires.empty c.stage.ensures.added in
    call_elsewhere v t v.seats v.devices v.resync (λ m. ⊥) c.stage.new.log.added own a b (g.R.Rack.seen c.commit-lost.new.rack) c.stage_rows.new.log c.args.on.now.items c.commit-lost.result.items
    step adds copies.appended c.stage_rows.ensures.reads c.commit-lost.ensures.commits

pub returns-clause-goes : goal.returns-clause-goes
returns-clause-goes g c =
    goes_then (g.R.Rack.seen c.args.rack.now) (g.R.Rack.seen c.stage_rows.new.rack) (g.R.Rack.seen c.commit-lost.new.rack)
    (reads_goes (g.R.Rack.seen c.args.rack.now) (g.R.Rack.seen c.stage_rows.new.rack) c.stage_rows.ensures.reads)
    (record { stays = c.commit-lost.ensures.commits.stays; leaves = c.commit-lost.ensures.commits.leaves })

pub returns-clause-served : goal.returns-clause-served
returns-clause-served g c =
    let v = c.args.array.now in
    served_by (lacks_two c.note_all.new.self) (lacks_two c.adopt.new.self) c.answer-answered.result
    (next_lacks v c.note_all.new.self c.adopt.new.self (ahead_by v c.rows_at_once-rows.result (raised v.truth.events)).truth c.moved-change.result (same_view_then v c.stage_rows.new.array c.note_all.new.self c.stage_rows.ensures.notes.same c.note_all.ensures.same)
    c.rules-2.ensures (record { places = refl; roles = refl; disks = refl; offset = refl; size = refl }) c.moved-change.ensures.change c.adopt.ensures)
    c.answer-answered.ensures.served

pub returns-clause-refused : goal.returns-clause-refused
returns-clause-refused g c =
    let v = c.args.array.now in
    refused_by (lacks_two c.note_all.new.self) (lacks_two c.adopt.new.self) _ _ c.answer-answered.result
    (next_lacks v c.note_all.new.self c.adopt.new.self (ahead_by v c.rows_at_once-rows.result (raised v.truth.events)).truth c.moved-change.result (same_view_then v c.stage_rows.new.array c.note_all.new.self c.stage_rows.ensures.notes.same c.note_all.ensures.same)
    c.rules-2.ensures (record { places = refl; roles = refl; disks = refl; offset = refl; size = refl }) c.moved-change.ensures.change c.adopt.ensures)
    (ap (λ (t : Super). t.reshape_position) c.truth.ensures) c.answer-answered.ensures.refused

pub returns-clause-runs : goal.returns-clause-runs
returns-clause-runs g c = g.met.R.Rack.runs_then _ _ _ c.stage_rows.ensures.runs c.commit-lost.ensures.runs
