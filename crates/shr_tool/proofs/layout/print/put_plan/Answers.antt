use Rattle.std.proofs.Common.{◌≡◌, ◌-◌, ◌++◌, length, arith}
use Rattle.std.specs.List.{range_with_len}
use Rattle.shr_tool.specs.LayoutText.{layer_lines, unused_lines, capacity_line, bound_line}
use Rattle.shr_tool.proofs.Putting.{prefix-first, puts-second, puts-failed}
use Rattle.shr_tool.proofs.layout.print.put_plan.Goals as goal

pub returns-in_err-put_unused-clause-puts : goal.returns-in_err-put_unused-clause-puts
returns-in_err-put_unused-clause-puts g c =
    λ told.
    let taken = g.O.Sink.taken in
    let plan = c.args.plan.now in
    let units = c.args.units.now in
    let layers = layer_lines 0 plan.layers.items in
    let unused = unused_lines units plan.layers.items (range_with_len 0 (length units)) in
    let whole : length units - 0 ≡ length units = omega arith in
    let totals = capacity_line plan.capacity ++ bound_line plan.bound plan.spared in
    puts-second c.from_residual-in_err-put_unused.result (taken c.args.out.now) (taken c.put_layers.new.out) (taken c.put_unused.new.out) layers (unused ++ totals)
    (rw c.as_slice.ensures.value at (c.in_ok-put_layers.ensures.puts told))
    (puts-failed _ c.from_residual-in_err-put_unused.result (taken c.put_layers.new.out) (taken c.put_unused.new.out) (unused ++ totals) c.from_residual-in_err-put_unused.ensures.1
    (prefix-first (taken c.put_layers.new.out) (taken c.put_unused.new.out) unused totals
    (rw whole at (rw c.as_slice-2.ensures.value at (c.in_err-put_unused.ensures.puts (c.put_layers.ensures.told told))))))

pub returns-clause-puts : goal.returns-clause-puts
returns-clause-puts g c =
    λ told.
    let taken = g.O.Sink.taken in
    let plan = c.args.plan.now in
    let units = c.args.units.now in
    let layers = layer_lines 0 plan.layers.items in
    let unused = unused_lines units plan.layers.items (range_with_len 0 (length units)) in
    let whole : length units - 0 ≡ length units = omega arith in
    let totals = capacity_line plan.capacity ++ bound_line plan.bound plan.spared in
    let told1 = c.put_layers.ensures.told told in
    puts-second c.put_totals.result (taken c.args.out.now) (taken c.put_layers.new.out) (taken c.put_totals.new.out) layers (unused ++ totals)
    (rw c.as_slice.ensures.value at (c.in_ok-put_layers.ensures.puts told))
    (puts-second c.put_totals.result (taken c.put_layers.new.out) (taken c.put_unused.new.out) (taken c.put_totals.new.out) unused totals
    (rw whole at (rw c.as_slice-2.ensures.value at (c.in_ok-put_unused.ensures.puts told1)))
    (c.put_totals.ensures.puts (c.put_unused.ensures.told told1)))
