use Rattle.std.proofs.Common.{◌+◌, ◌++◌}
use Rattle.shr_tool.specs.LayoutText.{layer_line, layer_lines}
use Rattle.shr_tool.proofs.Putting.{prefix-first, puts-second, puts-failed}
use Rattle.shr_tool.proofs.layout.print.+put_layers.Goals as goal

pub returns-in_err-put_line-clause-puts : goal.returns-in_err-put_line-clause-puts
returns-in_err-put_line-clause-puts g t c =
    λ told.
    let taken = g.O.Sink.taken in
    let first = layer_line c.args.number c.in-Some.layer.now in
    let others = layer_lines (c.args.number + 1) c.in-Some.others.now in
    rw c.in-Some.ensures.cases.0
    (puts-failed _ c.from_residual.result (taken c.args.out.now) (taken c.put_line.new.out) (first ++ others) c.from_residual.ensures.1
    (prefix-first (taken c.args.out.now) (taken c.put_line.new.out) first others
    (rw c.layer_text.ensures at (c.in_err-put_line.ensures.puts told))))

pub returns-clause-puts : goal.returns-clause-puts
returns-clause-puts g t c =
    λ told.
    let taken = g.O.Sink.taken in
    let first = layer_line c.args.number c.in-Some.layer.now in
    let others = layer_lines (c.args.number + 1) c.in-Some.others.now in
    rw c.in-Some.ensures.cases.0
    (puts-second c.put_layers.result (taken c.args.out.now) (taken c.put_line.new.out) (taken c.put_layers.new.out) first others
    (rw c.layer_text.ensures at (c.in_ok-put_line.ensures.puts told))
    (c.put_layers.ensures.puts (c.put_line.ensures.told told)))
