use Rattle.shr_tool.specs.LayoutText.{capacity_line, bound_line}
use Rattle.shr_tool.proofs.Putting.{prefix-first, puts-second, puts-failed}
use Rattle.std.proofs.Common.{◌++◌}
use Rattle.shr_tool.proofs.layout.print.put_totals.Goals as goal

pub returns-in_err-put_line-clause-puts : goal.returns-in_err-put_line-clause-puts
returns-in_err-put_line-clause-puts g c =
    λ told.
    let first = capacity_line c.args.plan.now.capacity in
    let second = bound_line c.args.plan.now.bound c.args.plan.now.spared in
    puts-failed _ c.from_residual.result (g.O.Sink.taken c.args.out.now) (g.O.Sink.taken c.put_line.new.out) (first ++ second) c.from_residual.ensures.1
    (prefix-first (g.O.Sink.taken c.args.out.now) (g.O.Sink.taken c.put_line.new.out) first second
    (rw c.capacity_text.ensures at (c.in_err-put_line.ensures.puts told)))

pub returns-clause-puts : goal.returns-clause-puts
returns-clause-puts g c =
    λ told.
    let first = capacity_line c.args.plan.now.capacity in
    let second = bound_line c.args.plan.now.bound c.args.plan.now.spared in
    puts-second c.put_line-2.result (g.O.Sink.taken c.args.out.now) (g.O.Sink.taken c.put_line.new.out) (g.O.Sink.taken c.put_line-2.new.out) first second
    (rw c.capacity_text.ensures at (c.in_ok-put_line.ensures.puts told))
    (rw c.bound_text.ensures at (c.put_line-2.ensures.puts (c.put_line.ensures.told told)))
