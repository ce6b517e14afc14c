use Rattle.std.proofs.Common.{◌≡◌, ◌+◌, ◌-◌, ◌*◌, ℕ, List, [], is_ok, sym, ap, subst, ◌∙◌, arith}
use Rattle.rack.specs.Targets.{Target}
use Rattle.log_laws.specs.View.{LogView}
use Rattle.array_image.specs.Stripes.{Layout}
use Rattle.array_model.specs.View.{View}
use Rattle.array_model.specs.Members.{first_of_row, row_layout}
use Rattle.array_model.proofs.Reading.{row_layout_then}
use Rattle.array_model.proofs.Views.{notes_none, notes_then, same_view_then}
use Rattle.rack.proofs.Reading.{only_reads_join}
use Rattle.array_core.specs.Staging.{AddsSupersOf}
use Rattle.array_core.specs.Superblocks.{adopted}
use Rattle.array_core.proofs.LogWrites.{few_in_order, reads_goes, goes_then}
use Rattle.sync_laws.specs.Rows.{lacks_row}
use Rattle.sync_laws.specs.Steps.{Steps, offset_after, resynced}
use Rattle.sync_laws.proofs.Answering.{lacking, not_ok, refused_by, served_by, staged_length}
use Rattle.sync_laws.proofs.RowStaged.{refused_lacks, row_apart, row_had, row_lacks, row_leaves, row_some, row_steps, row_valid, staged}
use Rattle.sync_laws.proofs.Stepping.{refused_steps}
use Rattle.sync_laws.proofs.Views.{IsUnsynced, next_array, stage_is}
use Rattle.array_sync.proofs.resyncing.resync_rows.Goals as goal

pub stage_next-requires-clause-room : goal.stage_next-requires-clause-room
stage_next-requires-clause-room g c =
    let v = c.args.array.now in
    let is : IsUnsynced v c.next_rows-next.result.rows = record { is_array = c.rules.ensures; grown = c.requires.grown; some = c.next_rows-next.ensures.some; rows_left = (let row = c.resync_from-row.ensures in let left = c.next_rows-next.ensures.left in omega (arith, row, left)); unsynced = c.unsynced_rows.ensures } in
    let next = stage_is v c.next_rows-next.result.rows c.resynced_to-change.result c.offset_after.result is
    (c.offset_after.ensures ∙ ap (λ (r : ℕ). offset_after v (r + c.next_rows-next.result.rows)) c.resync_from-row.ensures) c.resynced_to-change.ensures.change in
    let adds =
    subst (λ (u : View). AddsSupersOf u [] c.stage.new.log.added) next
    (subst (λ (xs : List Target). AddsSupersOf (adopted c.resynced_to-change.result v) xs c.stage.new.log.added) c.requires.empty c.stage.ensures.added) in
    let few = staged_length (resynced v c.next_rows-next.result.rows) c.stage.new.log.added (next_array v c.next_rows-next.result.rows is) adds in
    let room = c.next_rows-next.ensures.room in
    omega (arith, few, room)

pub returns-then-not-stage_next-clause-steps : goal.returns-then-not-stage_next-clause-steps
returns-then-not-stage_next-clause-steps g c =
    record {
      rows = c.next_rows-next.result.rows;
      some = c.next_rows-next.ensures.some;
      few = c.next_rows-next.ensures.few;
      left = (let row = c.resync_from-row.ensures in let left = c.next_rows-next.ensures.left in omega (arith, row, left));
      steps =
          let v = c.args.array.now in
          let u = c.stage_next.new.array in
          let a = g.R.Rack.seen c.args.rack.now in
          let b = g.R.Rack.seen c.stage_next.new.rack in
          let number : c.clear.new.self.number ≡ c.args.log.now.number =
          ap (λ (l : LogView). l.number) c.clear.ensures ∙ ap (λ (l : LogView). l.number) c.stage_next.ensures.log ∙ ap (λ (l : LogView). l.number) c.stage.ensures.log in
          subst (λ (n : ℕ). Steps v (resynced v c.next_rows-next.result.rows) u c.args.log.now.number n c.args.on.now.items a b (is_ok c.answer.result)) (sym number)
          (refused_steps v (resynced v c.next_rows-next.result.rows) u c.args.log.now.number c.args.on.now.items a b (is_ok c.answer.result) c.requires.slices.lasting c.rules.ensures (only_reads_join c.next_rows-next.ensures.reads c.stage_next.ensures.reads) (notes_then c.args.array.now c.args.array.now c.stage_next.new.array (g.R.Rack.seen c.args.rack.now) (g.R.Rack.seen c.next_rows-next.new.rack) (g.R.Rack.seen c.stage_next.new.rack) c.next_rows-next.ensures.reads.stays c.stage_next.ensures.reads.stays (notes_none c.args.array.now (g.R.Rack.seen c.args.rack.now) (g.R.Rack.seen c.next_rows-next.new.rack)) c.stage_next.ensures.notes)
          (not_ok (lacks_row u c.resync_from-row.result) c.answer.result c.answer.ensures.served
          (refused_lacks v u c.next_rows-next.result.rows c.resync_from-row.result c.stage_next.ensures.notes.lost c.next_rows-next.ensures.some c.stage_next.ensures.notes.same c.stage_next.ensures.notes.loses c.next_rows-next.ensures.had
          (lacking (lacks_row u (c.resync_from-row.result + (c.next_rows-next.result.rows - 1))) (sym c.stage_next.ensures.answer ∙ c.if-not-stage_next.true)))));
      answer = c.answer.ensures.rows;
    }

pub commit-lost-requires-clause-some : goal.commit-lost-requires-clause-some
commit-lost-requires-clause-some g c =
    row_some c.args.array.now c.next_rows-next.result.rows (g.R.Rack.seen c.args.rack.now) (g.R.Rack.seen c.stage_next.new.rack) c.stage_next.new.log.added
    (staged c.args.array.now c.stage_next.new.array (g.R.Rack.seen c.args.rack.now) (g.R.Rack.seen c.next_rows-next.new.rack) (g.R.Rack.seen c.stage_next.new.rack) c.next_rows-next.result.rows c.resync_from-row.result c.offset_after.result c.next_rows-next.result.alike c.resynced_to-change.result c.args.log.now.added c.stage.new.log.added c.stage_next.new.log.added
    (record { is_array = c.rules.ensures; grown = c.requires.grown; some = c.next_rows-next.ensures.some; rows_left = (let row = c.resync_from-row.ensures in let left = c.next_rows-next.ensures.left in omega (arith, row, left)); unsynced = c.unsynced_rows.ensures })
    c.requires.slices.lasting c.next_rows-next.ensures.reads c.resync_from-row.ensures c.offset_after.ensures c.resynced_to-change.ensures.change c.requires.empty c.stage.ensures.added
    (λ same. (c.next_rows-next.ensures.alike same, c.stage_next.ensures.idle same)) (λ other. c.stage_next.ensures.added c.if-not-stage_next.false other) c.stage_next.ensures.notes (sym c.stage_next.ensures.answer ∙ c.if-not-stage_next.false))
    c.requires.slices.lasting (only_reads_join c.next_rows-next.ensures.reads c.stage_next.ensures.reads)

pub commit-lost-requires-clause-valid : goal.commit-lost-requires-clause-valid
commit-lost-requires-clause-valid g c =
    row_valid c.args.array.now c.next_rows-next.result.rows (g.R.Rack.seen c.args.rack.now) (g.R.Rack.seen c.stage_next.new.rack) c.stage_next.new.log.added
    (staged c.args.array.now c.stage_next.new.array (g.R.Rack.seen c.args.rack.now) (g.R.Rack.seen c.next_rows-next.new.rack) (g.R.Rack.seen c.stage_next.new.rack) c.next_rows-next.result.rows c.resync_from-row.result c.offset_after.result c.next_rows-next.result.alike c.resynced_to-change.result c.args.log.now.added c.stage.new.log.added c.stage_next.new.log.added
    (record { is_array = c.rules.ensures; grown = c.requires.grown; some = c.next_rows-next.ensures.some; rows_left = (let row = c.resync_from-row.ensures in let left = c.next_rows-next.ensures.left in omega (arith, row, left)); unsynced = c.unsynced_rows.ensures })
    c.requires.slices.lasting c.next_rows-next.ensures.reads c.resync_from-row.ensures c.offset_after.ensures c.resynced_to-change.ensures.change c.requires.empty c.stage.ensures.added
    (λ same. (c.next_rows-next.ensures.alike same, c.stage_next.ensures.idle same)) (λ other. c.stage_next.ensures.added c.if-not-stage_next.false other) c.stage_next.ensures.notes (sym c.stage_next.ensures.answer ∙ c.if-not-stage_next.false))
    c.requires.slices.lasting (only_reads_join c.next_rows-next.ensures.reads c.stage_next.ensures.reads)

pub commit-lost-requires-clause-apart : goal.commit-lost-requires-clause-apart
commit-lost-requires-clause-apart g c =
    row_apart c.args.array.now c.next_rows-next.result.rows (g.R.Rack.seen c.args.rack.now) (g.R.Rack.seen c.stage_next.new.rack) c.stage_next.new.log.added
    (staged c.args.array.now c.stage_next.new.array (g.R.Rack.seen c.args.rack.now) (g.R.Rack.seen c.next_rows-next.new.rack) (g.R.Rack.seen c.stage_next.new.rack) c.next_rows-next.result.rows c.resync_from-row.result c.offset_after.result c.next_rows-next.result.alike c.resynced_to-change.result c.args.log.now.added c.stage.new.log.added c.stage_next.new.log.added
    (record { is_array = c.rules.ensures; grown = c.requires.grown; some = c.next_rows-next.ensures.some; rows_left = (let row = c.resync_from-row.ensures in let left = c.next_rows-next.ensures.left in omega (arith, row, left)); unsynced = c.unsynced_rows.ensures })
    c.requires.slices.lasting c.next_rows-next.ensures.reads c.resync_from-row.ensures c.offset_after.ensures c.resynced_to-change.ensures.change c.requires.empty c.stage.ensures.added
    (λ same. (c.next_rows-next.ensures.alike same, c.stage_next.ensures.idle same)) (λ other. c.stage_next.ensures.added c.if-not-stage_next.false other) c.stage_next.ensures.notes (sym c.stage_next.ensures.answer ∙ c.if-not-stage_next.false))
    c.requires.slices.lasting (only_reads_join c.next_rows-next.ensures.reads c.stage_next.ensures.reads)

pub commit-lost-requires-clause-had : goal.commit-lost-requires-clause-had
commit-lost-requires-clause-had g c =
    row_had c.args.array.now c.next_rows-next.result.rows (g.R.Rack.seen c.args.rack.now) (g.R.Rack.seen c.stage_next.new.rack) c.stage_next.new.log.added
    (staged c.args.array.now c.stage_next.new.array (g.R.Rack.seen c.args.rack.now) (g.R.Rack.seen c.next_rows-next.new.rack) (g.R.Rack.seen c.stage_next.new.rack) c.next_rows-next.result.rows c.resync_from-row.result c.offset_after.result c.next_rows-next.result.alike c.resynced_to-change.result c.args.log.now.added c.stage.new.log.added c.stage_next.new.log.added
    (record { is_array = c.rules.ensures; grown = c.requires.grown; some = c.next_rows-next.ensures.some; rows_left = (let row = c.resync_from-row.ensures in let left = c.next_rows-next.ensures.left in omega (arith, row, left)); unsynced = c.unsynced_rows.ensures })
    c.requires.slices.lasting c.next_rows-next.ensures.reads c.resync_from-row.ensures c.offset_after.ensures c.resynced_to-change.ensures.change c.requires.empty c.stage.ensures.added
    (λ same. (c.next_rows-next.ensures.alike same, c.stage_next.ensures.idle same)) (λ other. c.stage_next.ensures.added c.if-not-stage_next.false other) c.stage_next.ensures.notes (sym c.stage_next.ensures.answer ∙ c.if-not-stage_next.false))
    c.requires.slices.lasting (only_reads_join c.next_rows-next.ensures.reads c.stage_next.ensures.reads) c.requires.slices

pub note_all-requires : goal.note_all-requires
note_all-requires g c = few_in_order c.commit-lost.result.items c.commit-lost.ensures.commits.gone.ordered

pub returns-clause-steps : goal.returns-clause-steps
returns-clause-steps g c =
    record {
      rows = c.next_rows-next.result.rows;
      some = c.next_rows-next.ensures.some;
      few = c.next_rows-next.ensures.few;
      left = (let row = c.resync_from-row.ensures in let left = c.next_rows-next.ensures.left in omega (arith, row, left));
      steps =
          row_steps c.args.array.now c.stage_next.new.array c.note_all.new.self c.adopt.new.self (g.R.Rack.seen c.args.rack.now) (g.R.Rack.seen c.stage_next.new.rack) (g.R.Rack.seen c.commit-lost.new.rack)
          c.stage_next.new.log c.args.on.now.items c.commit-lost.result.items c.next_rows-next.result.rows c.args.log.now.number c.commit-lost.new.self.number c.resync_from-row.result c.offset_after.result c.resynced_to-change.result _
          (staged c.args.array.now c.stage_next.new.array (g.R.Rack.seen c.args.rack.now) (g.R.Rack.seen c.next_rows-next.new.rack) (g.R.Rack.seen c.stage_next.new.rack) c.next_rows-next.result.rows c.resync_from-row.result c.offset_after.result c.next_rows-next.result.alike c.resynced_to-change.result c.args.log.now.added c.stage.new.log.added c.stage_next.new.log.added
          (record { is_array = c.rules.ensures; grown = c.requires.grown; some = c.next_rows-next.ensures.some; rows_left = (let row = c.resync_from-row.ensures in let left = c.next_rows-next.ensures.left in omega (arith, row, left)); unsynced = c.unsynced_rows.ensures })
          c.requires.slices.lasting c.next_rows-next.ensures.reads c.resync_from-row.ensures c.offset_after.ensures c.resynced_to-change.ensures.change c.requires.empty c.stage.ensures.added
          (λ same. (c.next_rows-next.ensures.alike same, c.stage_next.ensures.idle same)) (λ other. c.stage_next.ensures.added c.if-not-stage_next.false other) c.stage_next.ensures.notes (sym c.stage_next.ensures.answer ∙ c.if-not-stage_next.false))
          c.requires.slices (only_reads_join c.next_rows-next.ensures.reads c.stage_next.ensures.reads) (notes_then c.args.array.now c.args.array.now c.stage_next.new.array (g.R.Rack.seen c.args.rack.now) (g.R.Rack.seen c.next_rows-next.new.rack) (g.R.Rack.seen c.stage_next.new.rack) c.next_rows-next.ensures.reads.stays c.stage_next.ensures.reads.stays (notes_none c.args.array.now (g.R.Rack.seen c.args.rack.now) (g.R.Rack.seen c.next_rows-next.new.rack)) c.stage_next.ensures.notes) c.commit-lost.ensures.commits c.note_all.ensures.same c.note_all.ensures.loses c.rules-2.ensures
          c.resync_from-row.ensures c.offset_after.ensures c.resynced_to-change.ensures.change c.adopt.ensures
          (ap (λ (l : LogView). l.number) c.stage_next.ensures.log ∙ ap (λ (l : LogView). l.number) c.stage.ensures.log)
          (ap (λ (l : LogView). l.number) c.commit-lost.ensures.log);
      answer = c.answer-answered.ensures.rows;
    }

pub returns-clause-elsewhere : goal.returns-clause-elsewhere
returns-clause-elsewhere g c =
    row_leaves c.args.array.now c.next_rows-next.result.rows (g.R.Rack.seen c.args.rack.now) (g.R.Rack.seen c.stage_next.new.rack) (g.R.Rack.seen c.commit-lost.new.rack) c.stage_next.new.log c.args.on.now.items c.commit-lost.result.items
    (staged c.args.array.now c.stage_next.new.array (g.R.Rack.seen c.args.rack.now) (g.R.Rack.seen c.next_rows-next.new.rack) (g.R.Rack.seen c.stage_next.new.rack) c.next_rows-next.result.rows c.resync_from-row.result c.offset_after.result c.next_rows-next.result.alike c.resynced_to-change.result c.args.log.now.added c.stage.new.log.added c.stage_next.new.log.added
    (record { is_array = c.rules.ensures; grown = c.requires.grown; some = c.next_rows-next.ensures.some; rows_left = (let row = c.resync_from-row.ensures in let left = c.next_rows-next.ensures.left in omega (arith, row, left)); unsynced = c.unsynced_rows.ensures })
    c.requires.slices.lasting c.next_rows-next.ensures.reads c.resync_from-row.ensures c.offset_after.ensures c.resynced_to-change.ensures.change c.requires.empty c.stage.ensures.added
    (λ same. (c.next_rows-next.ensures.alike same, c.stage_next.ensures.idle same)) (λ other. c.stage_next.ensures.added c.if-not-stage_next.false other) c.stage_next.ensures.notes (sym c.stage_next.ensures.answer ∙ c.if-not-stage_next.false)) c.requires.slices.lasting (only_reads_join c.next_rows-next.ensures.reads c.stage_next.ensures.reads) c.commit-lost.ensures.commits

pub returns-clause-goes : goal.returns-clause-goes
returns-clause-goes g c =
    goes_then (g.R.Rack.seen c.args.rack.now) (g.R.Rack.seen c.stage_next.new.rack) (g.R.Rack.seen c.commit-lost.new.rack)
    (reads_goes (g.R.Rack.seen c.args.rack.now) (g.R.Rack.seen c.stage_next.new.rack) (only_reads_join c.next_rows-next.ensures.reads c.stage_next.ensures.reads))
    (record { stays = c.commit-lost.ensures.commits.stays; leaves = c.commit-lost.ensures.commits.leaves })

pub returns-clause-served : goal.returns-clause-served
returns-clause-served g c =
    served_by (lacks_row c.note_all.new.self c.resync_from-row.result) (lacks_row c.adopt.new.self c.args.array.now.resync) c.answer-answered.result
    (row_lacks c.args.array.now c.note_all.new.self c.adopt.new.self c.next_rows-next.result.rows c.resync_from-row.result c.offset_after.result c.resynced_to-change.result
    (record { is_array = c.rules.ensures; grown = c.requires.grown; some = c.next_rows-next.ensures.some; rows_left = (let row = c.resync_from-row.ensures in let left = c.next_rows-next.ensures.left in omega (arith, row, left)); unsynced = c.unsynced_rows.ensures }) c.rules-2.ensures
    (same_view_then c.args.array.now c.stage_next.new.array c.note_all.new.self c.stage_next.ensures.notes.same c.note_all.ensures.same)
    c.resync_from-row.ensures c.offset_after.ensures c.resynced_to-change.ensures.change c.adopt.ensures)
    c.answer-answered.ensures.served

pub returns-clause-refused : goal.returns-clause-refused
returns-clause-refused g c =
    let v = c.args.array.now in
    let z = c.note_all.new.self in
    let row = c.resync_from-row.result in
    let same = same_view_then v c.stage_next.new.array z c.stage_next.ensures.notes.same c.note_all.ensures.same in
    refused_by (lacks_row z row) (lacks_row c.adopt.new.self v.resync) _ _ c.answer-answered.result
    (row_lacks v z c.adopt.new.self c.next_rows-next.result.rows row c.offset_after.result c.resynced_to-change.result
    (record { is_array = c.rules.ensures; grown = c.requires.grown; some = c.next_rows-next.ensures.some; rows_left = (let row = c.resync_from-row.ensures in let left = c.next_rows-next.ensures.left in omega (arith, row, left)); unsynced = c.unsynced_rows.ensures }) c.rules-2.ensures
    same c.resync_from-row.ensures c.offset_after.ensures c.resynced_to-change.ensures.change c.adopt.ensures)
    (ap (λ (l : Layout). first_of_row l (row * 128)) (row_layout_then v z (row * 128) same.truth) ∙ ap (λ (r : ℕ). first_of_row (row_layout v (r * 128)) (r * 128)) c.resync_from-row.ensures)
    c.answer-answered.ensures.refused

pub returns-then-not-stage_next-clause-goes : goal.returns-then-not-stage_next-clause-goes
returns-then-not-stage_next-clause-goes g c = reads_goes (g.R.Rack.seen c.args.rack.now) (g.R.Rack.seen c.stage_next.new.rack) (only_reads_join c.next_rows-next.ensures.reads c.stage_next.ensures.reads)
