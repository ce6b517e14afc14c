-- The lines are added one after the other.
use Rattle.std.proofs.Common.{ℕ, List, ap, ap₂, ◌∙◌}
use Rattle.pool_state.specs.declared.contents.Drive.{Drive}
use Rattle.pool_state.specs.declared.contents.State.{State}
use Rattle.lvm_group.specs.Runs.{sectors_in}
use Rattle.pool.specs.View.{book, view}
use Rattle.pool.specs.Works.{left_by}
use Rattle.shr_tool.specs.StatusText.{array_lines, count_lines, drive_lines, plan_words, pool_line}
use Rattle.shr_tool.proofs.Shown.{text_whole}
use Rattle.shr_tool.proofs.showing.show.Goals as goal

pub returns : goal.returns
returns g c =
    let x = view g.R.Rack.seen g.R.Bay.shelf c.args.pool.now in
    let b = book x in
    let same = c.state-state.ensures in
    text_whole (pool_line b.state) (drive_lines 0 b.state.drives.items) (array_lines b) (plan_words b.state.plan)
    (count_lines (sectors_in x.linear) (left_by x.linear b)) _ _ _ _ _ _ _ _ _ _ _
    (ap (λ (s : State). pool_line s) same)
    (ap (λ (ds : List Drive). drive_lines 0 ds) (c.as_slice.ensures.value ∙ ap (λ (s : State). s.drives.items) same))
    (ap (λ (s : State). plan_words s.plan) same)
    (ap₂ (λ (sectors works : ℕ). count_lines sectors works) c.size.ensures.size c.left.ensures)
    c.clear.ensures
    c.add_pool.ensures.items
    c.add_drives.ensures.items
    c.add_arrays.ensures.items
    c.add_plan.ensures.items
    c.add.ensures.items
    c.add_counts.ensures
