use Rattle.std.proofs.Common.{◌≡◌, ◌+◌, ◌-◌, ◌*◌, ◌/◌, ℕ, List, [], is_ok, sym, ap, subst, ◌∙◌, arith}
use Rattle.rack.specs.Targets.{Target}
use Rattle.log_laws.specs.View.{LogView, names}
use Rattle.array_image.specs.Stripes.{Layout}
use Rattle.array_model.specs.declared.Seat.TheVariants.{Rebuilding}
use Rattle.array_model.specs.View.{View}
use Rattle.array_model.specs.Members.{first_of_row, row_layout}
use Rattle.array_model.proofs.Reading.{row_layout_then}
use Rattle.array_model.proofs.Views.{loses_then, same_view_then}
use Rattle.array_core.specs.declared.Change.{Change}
use Rattle.array_core.specs.Staging.{AddsSupersOf}
use Rattle.array_core.specs.Superblocks.{adopted}
use Rattle.array_core.proofs.LogWrites.{few_in_order, reads_goes, goes_then}
use Rattle.sync_laws.specs.Rows.{others_give, row_spent}
use Rattle.sync_laws.specs.Steps.{Steps, reach_on, rebuilt}
use Rattle.sync_laws.proofs.Answering.{lacking, not_ok, staged_length}
use Rattle.sync_laws.proofs.MemberStaged.{change_is, gives_err, gives_none, gives_ok, gives_row, member_apart, member_had, member_leaves, member_some, member_steps, member_valid, refused_spent, row_start, staged}
use Rattle.sync_laws.proofs.Rebuilt.{next_array, place_found, reach_before, rebuilding, stage_is}
use Rattle.sync_laws.proofs.Stepping.{refused_steps}
use Rattle.array_sync.proofs.rebuilding.rebuild_rows.Goals as goal

pub position-position-requires : goal.position-position-requires
position-position-requires g c =
    let v = c.args.array.now in
    let found = place_found v c.args.place (Rebuilding (reach_on v c.args.place)) c.rules.ensures c.requires.row.seat in
    (found.0, found.1, found.2)

pub next_change-change-requires : goal.next_change-change-requires
next_change-change-requires g c =
    let is = (rebuilding c.args.array.now c.args.place c.position-position.result c.rows_at_once-rows.result c.rules.ensures c.requires.row c.position-position.ensures.position c.position-position.ensures.place c.rows_at_once-rows.ensures.some (let row = c.next_row-row.ensures in let left = c.rows_at_once-rows.ensures.left in let whole = c.requires.row.whole in omega (arith, row, left, whole))) in
    let row = c.next_row-row.ensures in
    let inside = is.inside in
    omega (arith, row, inside)

pub stage_member-requires-clause-row : goal.stage_member-requires-clause-row
stage_member-requires-clause-row g c =
    let is = (rebuilding c.args.array.now c.args.place c.position-position.result c.rows_at_once-rows.result c.rules.ensures c.requires.row c.position-position.ensures.position c.position-position.ensures.place c.rows_at_once-rows.ensures.some (let row = c.next_row-row.ensures in let left = c.rows_at_once-rows.ensures.left in let whole = c.requires.row.whole in omega (arith, row, left, whole))) in
    let row = c.next_row-row.ensures in
    let inside = is.inside in
    omega (arith, row, inside)

pub stage_member-requires-clause-lacking : goal.stage_member-requires-clause-lacking
stage_member-requires-clause-lacking g c =
    let is = (rebuilding c.args.array.now c.args.place c.position-position.result c.rows_at_once-rows.result c.rules.ensures c.requires.row c.position-position.ensures.position c.position-position.ensures.place c.rows_at_once-rows.ensures.some (let row = c.next_row-row.ensures in let left = c.rows_at_once-rows.ensures.left in let whole = c.requires.row.whole in omega (arith, row, left, whole))) in
    let reach = reach_before c.args.array.now c.args.place c.position-position.result (reach_on c.args.array.now c.args.place) c.rows_at_once-rows.result is in
    let start = row_start c.args.array.now c.args.place c.position-position.result (reach_on c.args.array.now c.args.place) c.rows_at_once-rows.result c.next_row-row.result is c.next_row-row.ensures in
    omega (arith, reach, start)

pub stage_member-requires-clause-room : goal.stage_member-requires-clause-room
stage_member-requires-clause-room g c =
    let v = c.args.array.now in
    let is = (rebuilding c.args.array.now c.args.place c.position-position.result c.rows_at_once-rows.result c.rules.ensures c.requires.row c.position-position.ensures.position c.position-position.ensures.place c.rows_at_once-rows.ensures.some (let row = c.next_row-row.ensures in let left = c.rows_at_once-rows.ensures.left in let whole = c.requires.row.whole in omega (arith, row, left, whole))) in
    let next = ap (λ (d : Change). adopted d v) (change_is v c.args.place c.position-position.result (reach_on c.args.array.now c.args.place) c.rows_at_once-rows.result c.next_row-row.result c.next_change-change.result is c.next_row-row.ensures c.next_change-change.ensures.change) ∙ stage_is v c.args.place c.position-position.result (reach_on c.args.array.now c.args.place) c.rows_at_once-rows.result is in
    let adds =
    subst (λ (u : View). AddsSupersOf u [] c.stage.new.log.added) next
    (subst (λ (xs : List Target). AddsSupersOf (adopted c.next_change-change.result v) xs c.stage.new.log.added) c.requires.empty c.stage.ensures.added) in
    let few = staged_length (rebuilt v c.args.place c.rows_at_once-rows.result) c.stage.new.log.added (next_array c.args.array.now c.args.place c.position-position.result (reach_on c.args.array.now c.args.place) c.rows_at_once-rows.result is) adds in
    let room = c.rows_at_once-rows.ensures.room in
    omega (arith, few, room)

pub returns-then-not-stage_member-clause-steps : goal.returns-then-not-stage_member-clause-steps
returns-then-not-stage_member-clause-steps g c =
    record {
      rows = c.rows_at_once-rows.result;
      some = c.rows_at_once-rows.ensures.some;
      few = c.rows_at_once-rows.ensures.few;
      left = (let row = c.next_row-row.ensures in let left = c.rows_at_once-rows.ensures.left in let whole = c.requires.row.whole in omega (arith, row, left, whole));
      steps =
          let v = c.args.array.now in
          let u = c.stage_member.new.array in
          let a = g.R.Rack.seen c.args.rack.now in
          let b = g.R.Rack.seen c.stage_member.new.rack in
          let number : c.clear.new.self.number ≡ c.args.log.now.number =
          ap (λ (l : LogView). l.number) c.clear.ensures ∙ ap (λ (l : LogView). l.number) c.stage_member.ensures.log ∙ ap (λ (l : LogView). l.number) c.stage.ensures.log in
          subst (λ (n : ℕ). Steps v (rebuilt v c.args.place c.rows_at_once-rows.result) u c.args.log.now.number n c.args.on.now.items a b (is_ok c.answer.result)) (sym number)
          (refused_steps v (rebuilt v c.args.place c.rows_at_once-rows.result) u c.args.log.now.number c.args.on.now.items a b (is_ok c.answer.result) c.requires.slices.lasting c.rules.ensures c.stage_member.ensures.reads c.stage_member.ensures.notes
          (not_ok (row_spent u c.next_row-row.result) c.answer.result c.answer.ensures.served
          (refused_spent v u c.args.place c.position-position.result (reach_on v c.args.place) c.rows_at_once-rows.result c.next_row-row.result c.stage_member.ensures.notes.lost (rebuilding c.args.array.now c.args.place c.position-position.result c.rows_at_once-rows.result c.rules.ensures c.requires.row c.position-position.ensures.position c.position-position.ensures.place c.rows_at_once-rows.ensures.some (let row = c.next_row-row.ensures in let left = c.rows_at_once-rows.ensures.left in let whole = c.requires.row.whole in omega (arith, row, left, whole))) c.stage_member.ensures.notes.same c.stage_member.ensures.notes.loses c.next_row-row.ensures c.rows_at_once-rows.ensures.had
          (lacking (row_spent u (c.next_row-row.result + (c.rows_at_once-rows.result - 1))) (sym c.stage_member.ensures.answer ∙ c.if-not-stage_member.true)))));
      answer = c.answer.ensures.rows;
    }

pub returns-then-not-stage_member-clause-goes : goal.returns-then-not-stage_member-clause-goes
returns-then-not-stage_member-clause-goes g c =
    reads_goes (g.R.Rack.seen c.args.rack.now) (g.R.Rack.seen c.stage_member.new.rack) c.stage_member.ensures.reads

pub commit-lost-requires-clause-some : goal.commit-lost-requires-clause-some
commit-lost-requires-clause-some g c =
    member_some c.args.array.now c.args.place c.position-position.result (reach_on c.args.array.now c.args.place) c.rows_at_once-rows.result (g.R.Rack.seen c.args.rack.now) (g.R.Rack.seen c.stage_member.new.rack) c.stage_member.new.log.added
    (staged c.args.array.now c.stage_member.new.array (g.R.Rack.seen c.args.rack.now) (g.R.Rack.seen c.stage_member.new.rack) c.args.place c.position-position.result (reach_on c.args.array.now c.args.place) c.rows_at_once-rows.result c.next_row-row.result c.next_change-change.result c.args.log.now.added c.stage.new.log.added c.stage_member.new.log.added
    (rebuilding c.args.array.now c.args.place c.position-position.result c.rows_at_once-rows.result c.rules.ensures c.requires.row c.position-position.ensures.position c.position-position.ensures.place c.rows_at_once-rows.ensures.some (let row = c.next_row-row.ensures in let left = c.rows_at_once-rows.ensures.left in let whole = c.requires.row.whole in omega (arith, row, left, whole)))
    c.unsynced_rows.ensures c.next_row-row.ensures c.next_change-change.ensures.change c.requires.empty c.stage.ensures.added
    (c.stage_member.ensures.added c.if-not-stage_member.false) c.stage_member.ensures.notes (sym c.stage_member.ensures.answer ∙ c.if-not-stage_member.false))
    c.requires.slices.lasting c.stage_member.ensures.reads

pub commit-lost-requires-clause-valid : goal.commit-lost-requires-clause-valid
commit-lost-requires-clause-valid g c =
    member_valid c.args.array.now c.args.place c.position-position.result (reach_on c.args.array.now c.args.place) c.rows_at_once-rows.result (g.R.Rack.seen c.args.rack.now) (g.R.Rack.seen c.stage_member.new.rack) c.stage_member.new.log.added
    (staged c.args.array.now c.stage_member.new.array (g.R.Rack.seen c.args.rack.now) (g.R.Rack.seen c.stage_member.new.rack) c.args.place c.position-position.result (reach_on c.args.array.now c.args.place) c.rows_at_once-rows.result c.next_row-row.result c.next_change-change.result c.args.log.now.added c.stage.new.log.added c.stage_member.new.log.added
    (rebuilding c.args.array.now c.args.place c.position-position.result c.rows_at_once-rows.result c.rules.ensures c.requires.row c.position-position.ensures.position c.position-position.ensures.place c.rows_at_once-rows.ensures.some (let row = c.next_row-row.ensures in let left = c.rows_at_once-rows.ensures.left in let whole = c.requires.row.whole in omega (arith, row, left, whole)))
    c.unsynced_rows.ensures c.next_row-row.ensures c.next_change-change.ensures.change c.requires.empty c.stage.ensures.added
    (c.stage_member.ensures.added c.if-not-stage_member.false) c.stage_member.ensures.notes (sym c.stage_member.ensures.answer ∙ c.if-not-stage_member.false))
    c.requires.slices.lasting c.stage_member.ensures.reads

pub commit-lost-requires-clause-apart : goal.commit-lost-requires-clause-apart
commit-lost-requires-clause-apart g c =
    member_apart c.args.array.now c.args.place c.position-position.result (reach_on c.args.array.now c.args.place) c.rows_at_once-rows.result (g.R.Rack.seen c.args.rack.now) (g.R.Rack.seen c.stage_member.new.rack) c.stage_member.new.log.added
    (staged c.args.array.now c.stage_member.new.array (g.R.Rack.seen c.args.rack.now) (g.R.Rack.seen c.stage_member.new.rack) c.args.place c.position-position.result (reach_on c.args.array.now c.args.place) c.rows_at_once-rows.result c.next_row-row.result c.next_change-change.result c.args.log.now.added c.stage.new.log.added c.stage_member.new.log.added
    (rebuilding c.args.array.now c.args.place c.position-position.result c.rows_at_once-rows.result c.rules.ensures c.requires.row c.position-position.ensures.position c.position-position.ensures.place c.rows_at_once-rows.ensures.some (let row = c.next_row-row.ensures in let left = c.rows_at_once-rows.ensures.left in let whole = c.requires.row.whole in omega (arith, row, left, whole)))
    c.unsynced_rows.ensures c.next_row-row.ensures c.next_change-change.ensures.change c.requires.empty c.stage.ensures.added
    (c.stage_member.ensures.added c.if-not-stage_member.false) c.stage_member.ensures.notes (sym c.stage_member.ensures.answer ∙ c.if-not-stage_member.false))
    c.requires.slices.lasting c.stage_member.ensures.reads

pub commit-lost-requires-clause-had : goal.commit-lost-requires-clause-had
commit-lost-requires-clause-had g c =
    member_had c.args.array.now c.args.place c.position-position.result (reach_on c.args.array.now c.args.place) c.rows_at_once-rows.result (g.R.Rack.seen c.args.rack.now) (g.R.Rack.seen c.stage_member.new.rack) c.stage_member.new.log.added
    (staged c.args.array.now c.stage_member.new.array (g.R.Rack.seen c.args.rack.now) (g.R.Rack.seen c.stage_member.new.rack) c.args.place c.position-position.result (reach_on c.args.array.now c.args.place) c.rows_at_once-rows.result c.next_row-row.result c.next_change-change.result c.args.log.now.added c.stage.new.log.added c.stage_member.new.log.added
    (rebuilding c.args.array.now c.args.place c.position-position.result c.rows_at_once-rows.result c.rules.ensures c.requires.row c.position-position.ensures.position c.position-position.ensures.place c.rows_at_once-rows.ensures.some (let row = c.next_row-row.ensures in let left = c.rows_at_once-rows.ensures.left in let whole = c.requires.row.whole in omega (arith, row, left, whole)))
    c.unsynced_rows.ensures c.next_row-row.ensures c.next_change-change.ensures.change c.requires.empty c.stage.ensures.added
    (c.stage_member.ensures.added c.if-not-stage_member.false) c.stage_member.ensures.notes (sym c.stage_member.ensures.answer ∙ c.if-not-stage_member.false))
    c.requires.slices.lasting c.stage_member.ensures.reads c.requires.slices

pub note_all-requires : goal.note_all-requires
note_all-requires g c = few_in_order c.commit-lost.result.items c.commit-lost.ensures.commits.gone.ordered

pub returns-clause-steps : goal.returns-clause-steps
returns-clause-steps g c =
    record {
      rows = c.rows_at_once-rows.result;
      some = c.rows_at_once-rows.ensures.some;
      few = c.rows_at_once-rows.ensures.few;
      left = (let row = c.next_row-row.ensures in let left = c.rows_at_once-rows.ensures.left in let whole = c.requires.row.whole in omega (arith, row, left, whole));
      steps =
          member_steps c.args.array.now c.stage_member.new.array c.note_all.new.self c.adopt.new.self (g.R.Rack.seen c.args.rack.now) (g.R.Rack.seen c.stage_member.new.rack) (g.R.Rack.seen c.commit-lost.new.rack)
          c.stage_member.new.log c.args.on.now.items c.commit-lost.result.items c.args.place c.position-position.result (reach_on c.args.array.now c.args.place) c.rows_at_once-rows.result c.args.log.now.number c.commit-lost.new.self.number c.next_row-row.result c.next_change-change.result _
          (staged c.args.array.now c.stage_member.new.array (g.R.Rack.seen c.args.rack.now) (g.R.Rack.seen c.stage_member.new.rack) c.args.place c.position-position.result (reach_on c.args.array.now c.args.place) c.rows_at_once-rows.result c.next_row-row.result c.next_change-change.result c.args.log.now.added c.stage.new.log.added c.stage_member.new.log.added
          (rebuilding c.args.array.now c.args.place c.position-position.result c.rows_at_once-rows.result c.rules.ensures c.requires.row c.position-position.ensures.position c.position-position.ensures.place c.rows_at_once-rows.ensures.some (let row = c.next_row-row.ensures in let left = c.rows_at_once-rows.ensures.left in let whole = c.requires.row.whole in omega (arith, row, left, whole)))
          c.unsynced_rows.ensures c.next_row-row.ensures c.next_change-change.ensures.change c.requires.empty c.stage.ensures.added
          (c.stage_member.ensures.added c.if-not-stage_member.false) c.stage_member.ensures.notes (sym c.stage_member.ensures.answer ∙ c.if-not-stage_member.false))
          c.requires.slices c.stage_member.ensures.reads c.stage_member.ensures.notes c.commit-lost.ensures.commits c.note_all.ensures.same c.note_all.ensures.loses c.rules-2.ensures
          c.next_row-row.ensures c.next_change-change.ensures.change c.adopt.ensures
          (ap (λ (l : LogView). l.number) c.stage_member.ensures.log ∙ ap (λ (l : LogView). l.number) c.stage.ensures.log)
          (ap (λ (l : LogView). l.number) c.commit-lost.ensures.log);
      answer = c.answer-answered.ensures.rows;
    }

pub returns-clause-elsewhere : goal.returns-clause-elsewhere
returns-clause-elsewhere g c =
    member_leaves c.args.array.now c.args.place c.position-position.result (reach_on c.args.array.now c.args.place) c.rows_at_once-rows.result (g.R.Rack.seen c.args.rack.now) (g.R.Rack.seen c.stage_member.new.rack) (g.R.Rack.seen c.commit-lost.new.rack) c.stage_member.new.log c.args.on.now.items c.commit-lost.result.items
    (staged c.args.array.now c.stage_member.new.array (g.R.Rack.seen c.args.rack.now) (g.R.Rack.seen c.stage_member.new.rack) c.args.place c.position-position.result (reach_on c.args.array.now c.args.place) c.rows_at_once-rows.result c.next_row-row.result c.next_change-change.result c.args.log.now.added c.stage.new.log.added c.stage_member.new.log.added
    (rebuilding c.args.array.now c.args.place c.position-position.result c.rows_at_once-rows.result c.rules.ensures c.requires.row c.position-position.ensures.position c.position-position.ensures.place c.rows_at_once-rows.ensures.some (let row = c.next_row-row.ensures in let left = c.rows_at_once-rows.ensures.left in let whole = c.requires.row.whole in omega (arith, row, left, whole)))
    c.unsynced_rows.ensures c.next_row-row.ensures c.next_change-change.ensures.change c.requires.empty c.stage.ensures.added
    (c.stage_member.ensures.added c.if-not-stage_member.false) c.stage_member.ensures.notes (sym c.stage_member.ensures.answer ∙ c.if-not-stage_member.false)) c.requires.slices.lasting c.stage_member.ensures.reads c.commit-lost.ensures.commits

pub returns-clause-goes : goal.returns-clause-goes
returns-clause-goes g c =
    goes_then (g.R.Rack.seen c.args.rack.now) (g.R.Rack.seen c.stage_member.new.rack) (g.R.Rack.seen c.commit-lost.new.rack)
    (reads_goes (g.R.Rack.seen c.args.rack.now) (g.R.Rack.seen c.stage_member.new.rack) c.stage_member.ensures.reads)
    (record { stays = c.commit-lost.ensures.commits.stays; leaves = c.commit-lost.ensures.commits.leaves })

pub returns-clause-served : goal.returns-clause-served
returns-clause-served g c =
    gives_ok (row_spent c.note_all.new.self c.next_row-row.result) (others_give c.adopt.new.self c.args.place ((reach_on c.args.array.now c.args.place) / 128)) c.answer-answered.result
    (gives_row c.args.array.now c.note_all.new.self c.adopt.new.self c.args.place c.position-position.result (reach_on c.args.array.now c.args.place) c.rows_at_once-rows.result c.next_row-row.result c.next_change-change.result _ (rebuilding c.args.array.now c.args.place c.position-position.result c.rows_at_once-rows.result c.rules.ensures c.requires.row c.position-position.ensures.position c.position-position.ensures.place c.rows_at_once-rows.ensures.some (let row = c.next_row-row.ensures in let left = c.rows_at_once-rows.ensures.left in let whole = c.requires.row.whole in omega (arith, row, left, whole)))
    c.rules-2.ensures (same_view_then c.args.array.now c.stage_member.new.array c.note_all.new.self c.stage_member.ensures.notes.same c.note_all.ensures.same)
    (loses_then c.args.array.now c.stage_member.new.array c.note_all.new.self c.stage_member.ensures.notes.lost (names c.commit-lost.result.items) c.stage_member.ensures.notes.same.truth c.stage_member.ensures.notes.loses c.note_all.ensures.loses)
    c.next_row-row.ensures c.next_change-change.ensures.change c.adopt.ensures)
    c.answer-answered.ensures.served

pub returns-clause-refused : goal.returns-clause-refused
returns-clause-refused g c =
    let same = same_view_then c.args.array.now c.stage_member.new.array c.note_all.new.self c.stage_member.ensures.notes.same c.note_all.ensures.same in
    let start = row_start c.args.array.now c.args.place c.position-position.result (reach_on c.args.array.now c.args.place) c.rows_at_once-rows.result c.next_row-row.result (rebuilding c.args.array.now c.args.place c.position-position.result c.rows_at_once-rows.result c.rules.ensures c.requires.row c.position-position.ensures.position c.position-position.ensures.place c.rows_at_once-rows.ensures.some (let row = c.next_row-row.ensures in let left = c.rows_at_once-rows.ensures.left in let whole = c.requires.row.whole in omega (arith, row, left, whole))) c.next_row-row.ensures in
    gives_err (row_spent c.note_all.new.self c.next_row-row.result) (others_give c.adopt.new.self c.args.place ((reach_on c.args.array.now c.args.place) / 128)) _ _ c.answer-answered.result
    (gives_row c.args.array.now c.note_all.new.self c.adopt.new.self c.args.place c.position-position.result (reach_on c.args.array.now c.args.place) c.rows_at_once-rows.result c.next_row-row.result c.next_change-change.result _ (rebuilding c.args.array.now c.args.place c.position-position.result c.rows_at_once-rows.result c.rules.ensures c.requires.row c.position-position.ensures.position c.position-position.ensures.place c.rows_at_once-rows.ensures.some (let row = c.next_row-row.ensures in let left = c.rows_at_once-rows.ensures.left in let whole = c.requires.row.whole in omega (arith, row, left, whole)))
    c.rules-2.ensures (same_view_then c.args.array.now c.stage_member.new.array c.note_all.new.self c.stage_member.ensures.notes.same c.note_all.ensures.same)
    (loses_then c.args.array.now c.stage_member.new.array c.note_all.new.self c.stage_member.ensures.notes.lost (names c.commit-lost.result.items) c.stage_member.ensures.notes.same.truth c.stage_member.ensures.notes.loses c.note_all.ensures.loses)
    c.next_row-row.ensures c.next_change-change.ensures.change c.adopt.ensures)
    (ap (λ (l : Layout). first_of_row l (c.next_row-row.result * 128)) (row_layout_then c.args.array.now c.note_all.new.self (c.next_row-row.result * 128) same.truth)
    ∙ ap (λ (t : ℕ). first_of_row (row_layout c.args.array.now t) t) start)
    c.answer-answered.ensures.refused

pub returns-then-not-stage_member-clause-served : goal.returns-then-not-stage_member-clause-served
returns-then-not-stage_member-clause-served g c =
    gives_ok (row_spent c.stage_member.new.array c.next_row-row.result) (others_give c.stage_member.new.array c.args.place ((reach_on c.args.array.now c.args.place) / 128)) c.answer.result
    (gives_none c.args.array.now c.stage_member.new.array c.args.place c.position-position.result (reach_on c.args.array.now c.args.place) c.rows_at_once-rows.result c.next_row-row.result c.stage_member.ensures.notes.lost (rebuilding c.args.array.now c.args.place c.position-position.result c.rows_at_once-rows.result c.rules.ensures c.requires.row c.position-position.ensures.position c.position-position.ensures.place c.rows_at_once-rows.ensures.some (let row = c.next_row-row.ensures in let left = c.rows_at_once-rows.ensures.left in let whole = c.requires.row.whole in omega (arith, row, left, whole)))
    c.stage_member.ensures.notes.same c.stage_member.ensures.notes.loses c.next_row-row.ensures)
    c.answer.ensures.served

pub returns-then-not-stage_member-clause-refused : goal.returns-then-not-stage_member-clause-refused
returns-then-not-stage_member-clause-refused g c =
    let start = row_start c.args.array.now c.args.place c.position-position.result (reach_on c.args.array.now c.args.place) c.rows_at_once-rows.result c.next_row-row.result (rebuilding c.args.array.now c.args.place c.position-position.result c.rows_at_once-rows.result c.rules.ensures c.requires.row c.position-position.ensures.position c.position-position.ensures.place c.rows_at_once-rows.ensures.some (let row = c.next_row-row.ensures in let left = c.rows_at_once-rows.ensures.left in let whole = c.requires.row.whole in omega (arith, row, left, whole))) c.next_row-row.ensures in
    gives_err (row_spent c.stage_member.new.array c.next_row-row.result) (others_give c.stage_member.new.array c.args.place ((reach_on c.args.array.now c.args.place) / 128)) _ _ c.answer.result
    (gives_none c.args.array.now c.stage_member.new.array c.args.place c.position-position.result (reach_on c.args.array.now c.args.place) c.rows_at_once-rows.result c.next_row-row.result c.stage_member.ensures.notes.lost (rebuilding c.args.array.now c.args.place c.position-position.result c.rows_at_once-rows.result c.rules.ensures c.requires.row c.position-position.ensures.position c.position-position.ensures.place c.rows_at_once-rows.ensures.some (let row = c.next_row-row.ensures in let left = c.rows_at_once-rows.ensures.left in let whole = c.requires.row.whole in omega (arith, row, left, whole)))
    c.stage_member.ensures.notes.same c.stage_member.ensures.notes.loses c.next_row-row.ensures)
    (ap (λ (l : Layout). first_of_row l (c.next_row-row.result * 128)) (row_layout_then c.args.array.now c.stage_member.new.array (c.next_row-row.result * 128) c.stage_member.ensures.notes.same.truth)
    ∙ ap (λ (t : ℕ). first_of_row (row_layout c.args.array.now t) t) start)
    c.answer.ensures.refused
