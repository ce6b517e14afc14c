use Rattle.std.proofs.Common.{ap, ◌∙◌}
use Rattle.parity.specs.Xor.{xor}
use Rattle.sync_laws.proofs.Summing.{piece_counts, piece_is, spent_lacks}
use Rattle.array_sync.proofs.rows.add_source.Goals as goal

pub returns-in-Ok-clause-counts : goal.returns-in-Ok-clause-counts
returns-in-Ok-clause-counts g c = λ is.
    piece_counts c.args.array.now c.member.new.self (g.R.Rack.seen c.args.rack.now) (g.R.Rack.seen c.member.new.rack) c.args.position c.args.sector
    c.rules.ensures c.member.ensures.notes c.requires.position c.requires.left c.in-Ok.ensures.served

pub returns-in-Ok-clause-sum : goal.returns-in-Ok-clause-sum
returns-in-Ok-clause-sum g c = λ is opened.
    c.xor_into.ensures ∙ ap (xor c.args.sum.now)
    (piece_is c.args.array.now c.member.new.self (g.R.Rack.seen c.args.rack.now) (g.R.Rack.seen c.member.new.rack) c.args.position c.args.sector c.member.new.into
    c.rules.ensures c.member.ensures.notes c.requires.position c.requires.left c.in-Ok.ensures.served c.in-Ok.ensures.value opened)

pub returns-in-Err-clause-lost : goal.returns-in-Err-clause-lost
returns-in-Err-clause-lost g c = λ is. spent_lacks c.member.new.self c.args.position c.args.sector c.in-Err.ensures.refused.1
