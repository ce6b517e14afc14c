use Rattle.std.proofs.Common.{◌∙◌, [], sym, ap}
use Rattle.std.specs.Result.{result_ok}
use Rattle.lvm_group.proofs.HeaderRead.{header_read, no_header}
use Rattle.lvm_group.proofs.reading.read_header.Goals as goal

pub returns-in-Some-clause-value : goal.returns-in-Some-clause-value
returns-in-Some-clause-value g c now is =
    let read = header_read c.args.array now c.args.sector c.in-Some.bytes (c.in-Some.ensures.value now is) in
    (read.0, read.1, c.ok.ensures.value ∙ ap result_ok c.decode_header.ensures ∙ read.2)

pub returns-in-None-clause-value : goal.returns-in-None-clause-value
returns-in-None-clause-value g c now is =
    let read = header_read c.args.array now c.args.sector [] (c.in-None.ensures.value now is) in
    (read.0, read.1, sym no_header ∙ read.2)
