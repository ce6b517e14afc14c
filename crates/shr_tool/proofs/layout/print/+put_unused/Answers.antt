use Rattle.std.proofs.Common.{◌+◌, ◌-◌, ◌++◌, length, get_or}
use Rattle.std.specs.List.{range_with_len}
use Rattle.shr_tool.specs.LayoutText.{unused_line, unused_lines}
use Rattle.shr_tool.proofs.Putting.{prefix-first, puts-second, puts-failed}
use Rattle.shr_tool.proofs.LayoutLemmas.{unused_from}
use Rattle.shr_tool.proofs.layout.print.+put_unused.Goals as goal

pub returns-in_err-put_unused_line-clause-puts : goal.returns-in_err-put_unused_line-clause-puts
returns-in_err-put_unused_line-clause-puts g t c =
    λ told.
    let taken = g.O.Sink.taken in
    let units = c.args.units.now in
    let place = c.args.place in
    let first = unused_line place (get_or units place 0 - c.used.result) in
    let others = unused_lines units c.args.layers.now (range_with_len (place + 1) (length units - (place + 1))) in
    rw (unused_from units c.args.layers.now place c.used.result c.if-place-units.false c.used.ensures)
    (puts-failed _ c.from_residual.result (taken c.args.out.now) (taken c.put_unused_line.new.out) (first ++ others) c.from_residual.ensures.1
    (prefix-first (taken c.args.out.now) (taken c.put_unused_line.new.out) first others
    (c.in_err-put_unused_line.ensures.puts told)))

pub returns-clause-puts : goal.returns-clause-puts
returns-clause-puts g t c =
    λ told.
    let taken = g.O.Sink.taken in
    let units = c.args.units.now in
    let place = c.args.place in
    let first = unused_line place (get_or units place 0 - c.used.result) in
    let others = unused_lines units c.args.layers.now (range_with_len (place + 1) (length units - (place + 1))) in
    rw (unused_from units c.args.layers.now place c.used.result c.if-place-units.false c.used.ensures)
    (puts-second c.put_unused.result (taken c.args.out.now) (taken c.put_unused_line.new.out) (taken c.put_unused.new.out) first others
    (c.in_ok-put_unused_line.ensures.puts told)
    (c.put_unused.ensures.puts (c.put_unused_line.ensures.told told)))
