use Rattle.std.proofs.Common.{◌≡◌, ◌+◌, ◌*◌, ℕ, List, [], is_ok, sym, ap, subst, ◌∙◌, arith}
use Rattle.rack.specs.Targets.{Target}
use Rattle.log_laws.specs.View.{LogView}
use Rattle.array_image.specs.Stripes.{Layout}
use Rattle.array_image.specs.SoundArray.{first_unsynced}
use Rattle.array_model.specs.View.{View}
use Rattle.array_model.specs.Members.{first_of_row, row_layout}
use Rattle.array_model.proofs.Reading.{row_layout_then}
use Rattle.array_core.specs.declared.Change.{Change}
use Rattle.array_core.specs.Staging.{AddsSupersOf}
use Rattle.array_core.specs.Superblocks.{adopted, resynced_to}
use Rattle.array_core.proofs.LogWrites.{few_in_order}
use Rattle.sync_laws.specs.Rows.{lacks_two}
use Rattle.sync_laws.specs.Steps.{Zeroes, offset_after, zeroed}
use Rattle.sync_laws.proofs.Answering.{not_ok, refused_by, served_by, staged_length}
use Rattle.sync_laws.proofs.ZeroStaged.{staged, staged_room, zero_apart, zero_had, zero_leaves, zero_refused, zero_some, zero_steps, zero_valid, zeroed_array, zeros_lacks}
use Rattle.array_sync.proofs.zeroing.zero_rows.Goals as goal

pub returns-then-lacks_two-clause-zeroes : goal.returns-then-lacks_two-clause-zeroes
returns-then-lacks_two-clause-zeroes g c =
    record {
      rows = c.rows_at_once-rows.result;
      some = c.rows_at_once-rows.ensures.some;
      few = c.rows_at_once-rows.ensures.few;
      left = (let row = c.next_row-row.ensures in let left = c.rows_at_once-rows.ensures.left in omega (arith, row, left));
      steps =
          let number : c.clear.new.self.number ≡ c.args.log.now.number = ap (λ (l : LogView). l.number) c.clear.ensures in
          subst (λ (n : ℕ). Zeroes c.args.array.now c.args.array.now c.rows_at_once-rows.result c.args.log.now.number n c.args.on.now.items (g.R.Rack.seen c.args.rack.now) (g.R.Rack.seen c.args.rack.now) (is_ok c.answer.result)) (sym number)
          (zero_refused c.args.array.now c.rows_at_once-rows.result c.args.log.now.number c.args.on.now.items (g.R.Rack.seen c.args.rack.now) (is_ok c.answer.result) c.requires.slices (record { is_array = c.rules.ensures; young = c.requires.young; some = c.rows_at_once-rows.ensures.some; rows_left = (let row = c.next_row-row.ensures in let left = c.rows_at_once-rows.ensures.left in omega (arith, row, left)) })
          (not_ok (lacks_two c.args.array.now c.next_row-row.result) c.answer.result c.answer.ensures.served (sym c.lacks_two.ensures ∙ c.if-lacks_two.true)));
      answer = c.answer.ensures.rows;
    }

pub stage_zeros-requires-clause-room : goal.stage_zeros-requires-clause-room
stage_zeros-requires-clause-room g c =
    let v = c.args.array.now in
    let next = staged_room v c.rows_at_once-rows.result c.next_row-row.result c.offset_after.result c.resynced_to-change.result (record { is_array = c.rules.ensures; young = c.requires.young; some = c.rows_at_once-rows.ensures.some; rows_left = (let row = c.next_row-row.ensures in let left = c.rows_at_once-rows.ensures.left in omega (arith, row, left)) }) c.next_row-row.ensures c.offset_after.ensures c.resynced_to-change.ensures.change in
    let adds =
    subst (λ (u : View). AddsSupersOf u [] c.stage.new.log.added) next
    (subst (λ (xs : List Target). AddsSupersOf (adopted c.resynced_to-change.result v) xs c.stage.new.log.added) c.requires.empty c.stage.ensures.added) in
    let few = staged_length (zeroed v c.rows_at_once-rows.result) c.stage.new.log.added (zeroed_array v c.rows_at_once-rows.result (record { is_array = c.rules.ensures; young = c.requires.young; some = c.rows_at_once-rows.ensures.some; rows_left = (let row = c.next_row-row.ensures in let left = c.rows_at_once-rows.ensures.left in omega (arith, row, left)) })) adds in
    let room = c.rows_at_once-rows.ensures.room in
    omega (arith, few, room)

pub commit-lost-requires-clause-some : goal.commit-lost-requires-clause-some
commit-lost-requires-clause-some g c =
    zero_some c.args.array.now c.rows_at_once-rows.result (g.R.Rack.seen c.args.rack.now) c.stage_zeros.new.log.added
    (staged c.args.array.now c.rows_at_once-rows.result c.next_row-row.result c.offset_after.result c.resynced_to-change.result c.args.log.now.added c.stage.new.log.added c.stage_zeros.new.log.added
    (record { is_array = c.rules.ensures; young = c.requires.young; some = c.rows_at_once-rows.ensures.some; rows_left = (let row = c.next_row-row.ensures in let left = c.rows_at_once-rows.ensures.left in omega (arith, row, left)) }) c.next_row-row.ensures c.offset_after.ensures c.resynced_to-change.ensures.change
    (sym c.lacks_two.ensures ∙ c.if-lacks_two.false) c.requires.empty c.stage.ensures.added c.stage_zeros.ensures.added)

pub commit-lost-requires-clause-valid : goal.commit-lost-requires-clause-valid
commit-lost-requires-clause-valid g c =
    zero_valid c.args.array.now c.rows_at_once-rows.result (g.R.Rack.seen c.args.rack.now) c.stage_zeros.new.log.added
    (staged c.args.array.now c.rows_at_once-rows.result c.next_row-row.result c.offset_after.result c.resynced_to-change.result c.args.log.now.added c.stage.new.log.added c.stage_zeros.new.log.added
    (record { is_array = c.rules.ensures; young = c.requires.young; some = c.rows_at_once-rows.ensures.some; rows_left = (let row = c.next_row-row.ensures in let left = c.rows_at_once-rows.ensures.left in omega (arith, row, left)) }) c.next_row-row.ensures c.offset_after.ensures c.resynced_to-change.ensures.change
    (sym c.lacks_two.ensures ∙ c.if-lacks_two.false) c.requires.empty c.stage.ensures.added c.stage_zeros.ensures.added)

pub commit-lost-requires-clause-apart : goal.commit-lost-requires-clause-apart
commit-lost-requires-clause-apart g c =
    zero_apart c.args.array.now c.rows_at_once-rows.result (g.R.Rack.seen c.args.rack.now) c.stage_zeros.new.log.added
    (staged c.args.array.now c.rows_at_once-rows.result c.next_row-row.result c.offset_after.result c.resynced_to-change.result c.args.log.now.added c.stage.new.log.added c.stage_zeros.new.log.added
    (record { is_array = c.rules.ensures; young = c.requires.young; some = c.rows_at_once-rows.ensures.some; rows_left = (let row = c.next_row-row.ensures in let left = c.rows_at_once-rows.ensures.left in omega (arith, row, left)) }) c.next_row-row.ensures c.offset_after.ensures c.resynced_to-change.ensures.change
    (sym c.lacks_two.ensures ∙ c.if-lacks_two.false) c.requires.empty c.stage.ensures.added c.stage_zeros.ensures.added)

pub commit-lost-requires-clause-had : goal.commit-lost-requires-clause-had
commit-lost-requires-clause-had g c =
    zero_had c.args.array.now c.rows_at_once-rows.result (g.R.Rack.seen c.args.rack.now) c.stage_zeros.new.log.added
    (staged c.args.array.now c.rows_at_once-rows.result c.next_row-row.result c.offset_after.result c.resynced_to-change.result c.args.log.now.added c.stage.new.log.added c.stage_zeros.new.log.added
    (record { is_array = c.rules.ensures; young = c.requires.young; some = c.rows_at_once-rows.ensures.some; rows_left = (let row = c.next_row-row.ensures in let left = c.rows_at_once-rows.ensures.left in omega (arith, row, left)) }) c.next_row-row.ensures c.offset_after.ensures c.resynced_to-change.ensures.change
    (sym c.lacks_two.ensures ∙ c.if-lacks_two.false) c.requires.empty c.stage.ensures.added c.stage_zeros.ensures.added) c.requires.slices

pub note_all-requires : goal.note_all-requires
note_all-requires g c =
    few_in_order c.commit-lost.result.items c.commit-lost.ensures.commits.gone.ordered

pub returns-clause-zeroes : goal.returns-clause-zeroes
returns-clause-zeroes g c =
    record {
      rows = c.rows_at_once-rows.result;
      some = c.rows_at_once-rows.ensures.some;
      few = c.rows_at_once-rows.ensures.few;
      left = (let row = c.next_row-row.ensures in let left = c.rows_at_once-rows.ensures.left in omega (arith, row, left));
      steps =
          zero_steps c.args.array.now c.note_all.new.self c.adopt.new.self (g.R.Rack.seen c.args.rack.now) (g.R.Rack.seen c.commit-lost.new.rack) c.stage_zeros.new.log c.args.on.now.items c.commit-lost.result.items c.rows_at_once-rows.result c.args.log.now.number c.commit-lost.new.self.number
          (staged c.args.array.now c.rows_at_once-rows.result c.next_row-row.result c.offset_after.result c.resynced_to-change.result c.args.log.now.added c.stage.new.log.added c.stage_zeros.new.log.added
          (record { is_array = c.rules.ensures; young = c.requires.young; some = c.rows_at_once-rows.ensures.some; rows_left = (let row = c.next_row-row.ensures in let left = c.rows_at_once-rows.ensures.left in omega (arith, row, left)) }) c.next_row-row.ensures c.offset_after.ensures c.resynced_to-change.ensures.change
          (sym c.lacks_two.ensures ∙ c.if-lacks_two.false) c.requires.empty c.stage.ensures.added c.stage_zeros.ensures.added)
          c.requires.slices c.commit-lost.ensures.commits c.note_all.ensures.same c.note_all.ensures.loses c.rules-2.ensures
          (c.adopt.ensures ∙ ap (λ (d : Change). adopted d c.note_all.new.self) (c.resynced_to-change.ensures.change ∙ ap (resynced_to c.args.array.now) (c.offset_after.ensures ∙ ap (λ (r : ℕ). offset_after c.args.array.now (r + c.rows_at_once-rows.result)) c.next_row-row.ensures)))
          (ap (λ (l : LogView). l.number) c.stage_zeros.ensures.log ∙ ap (λ (l : LogView). l.number) c.stage.ensures.log)
          (ap (λ (l : LogView). l.number) c.commit-lost.ensures.log) _;
      answer = c.answer-answered.ensures.rows;
    }

pub returns-clause-elsewhere : goal.returns-clause-elsewhere
returns-clause-elsewhere g c =
    zero_leaves c.args.array.now c.rows_at_once-rows.result (g.R.Rack.seen c.args.rack.now) (g.R.Rack.seen c.commit-lost.new.rack) c.stage_zeros.new.log c.args.on.now.items c.commit-lost.result.items
    (staged c.args.array.now c.rows_at_once-rows.result c.next_row-row.result c.offset_after.result c.resynced_to-change.result c.args.log.now.added c.stage.new.log.added c.stage_zeros.new.log.added
    (record { is_array = c.rules.ensures; young = c.requires.young; some = c.rows_at_once-rows.ensures.some; rows_left = (let row = c.next_row-row.ensures in let left = c.rows_at_once-rows.ensures.left in omega (arith, row, left)) }) c.next_row-row.ensures c.offset_after.ensures c.resynced_to-change.ensures.change
    (sym c.lacks_two.ensures ∙ c.if-lacks_two.false) c.requires.empty c.stage.ensures.added c.stage_zeros.ensures.added)
    c.requires.slices c.commit-lost.ensures.commits

pub returns-clause-served : goal.returns-clause-served
returns-clause-served g c =
    served_by (lacks_two c.note_all.new.self c.next_row-row.result) (lacks_two c.adopt.new.self (first_unsynced c.args.array.now.truth)) c.answer-answered.result
    (zeros_lacks c.args.array.now c.note_all.new.self c.adopt.new.self c.rows_at_once-rows.result (record { is_array = c.rules.ensures; young = c.requires.young; some = c.rows_at_once-rows.ensures.some; rows_left = (let row = c.next_row-row.ensures in let left = c.rows_at_once-rows.ensures.left in omega (arith, row, left)) }) c.rules-2.ensures c.note_all.ensures.same
    (c.adopt.ensures ∙ ap (λ (d : Change). adopted d c.note_all.new.self) (c.resynced_to-change.ensures.change ∙ ap (resynced_to c.args.array.now) (c.offset_after.ensures ∙ ap (λ (r : ℕ). offset_after c.args.array.now (r + c.rows_at_once-rows.result)) c.next_row-row.ensures))) (first_unsynced c.args.array.now.truth)
    ∙ ap (lacks_two c.note_all.new.self) (sym c.next_row-row.ensures))
    c.answer-answered.ensures.served

pub returns-clause-refused : goal.returns-clause-refused
returns-clause-refused g c =
    refused_by (lacks_two c.note_all.new.self c.next_row-row.result) (lacks_two c.adopt.new.self (first_unsynced c.args.array.now.truth)) _ _ c.answer-answered.result
    (zeros_lacks c.args.array.now c.note_all.new.self c.adopt.new.self c.rows_at_once-rows.result (record { is_array = c.rules.ensures; young = c.requires.young; some = c.rows_at_once-rows.ensures.some; rows_left = (let row = c.next_row-row.ensures in let left = c.rows_at_once-rows.ensures.left in omega (arith, row, left)) }) c.rules-2.ensures c.note_all.ensures.same
    (c.adopt.ensures ∙ ap (λ (d : Change). adopted d c.note_all.new.self) (c.resynced_to-change.ensures.change ∙ ap (resynced_to c.args.array.now) (c.offset_after.ensures ∙ ap (λ (r : ℕ). offset_after c.args.array.now (r + c.rows_at_once-rows.result)) c.next_row-row.ensures))) (first_unsynced c.args.array.now.truth)
    ∙ ap (lacks_two c.note_all.new.self) (sym c.next_row-row.ensures))
    (ap (λ (l : Layout). first_of_row l (c.next_row-row.result * 128)) (row_layout_then c.args.array.now c.note_all.new.self (c.next_row-row.result * 128) c.note_all.ensures.same.truth)
    ∙ ap (λ (r : ℕ). first_of_row (row_layout c.args.array.now (r * 128)) (r * 128)) c.next_row-row.ensures)
    c.answer-answered.ensures.refused
