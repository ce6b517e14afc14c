use Rattle.array_model.proofs.Views.{notes_none}
use Rattle.sync_laws.proofs.Restoring.{few_wanting, given_here, spent_here}
use Rattle.array_sync.proofs.members.restore.Goals as goal

pub returns-then-position-row_members-clause-notes : goal.returns-then-position-row_members-clause-notes
returns-then-position-row_members-clause-notes g c = notes_none c.args.array.now _ _

pub returns-in-Ok-clause-given : goal.returns-in-Ok-clause-given
returns-in-Ok-clause-given g c = λ is.
    given_here c.args.array.now c.member.new.self (g.R.Rack.seen c.args.rack.now) (g.R.Rack.seen c.member.new.rack) c.args.position c.args.sector c.member.new.into
    c.rules.ensures c.member.ensures.notes c.requires.position c.requires.lacking c.in-Ok.ensures.served c.in-Ok.ensures.value

pub returns-in-Ok-clause-counts : goal.returns-in-Ok-clause-counts
returns-in-Ok-clause-counts g c = λ is inside.
    few_wanting c.args.array.now c.member.new.self (g.R.Rack.seen c.args.rack.now) (g.R.Rack.seen c.member.new.rack) c.args.position c.args.sector
    c.member.ensures.notes c.requires.lacking c.in-Ok.ensures.served

pub returns-in-Err-clause-lost : goal.returns-in-Err-clause-lost
returns-in-Err-clause-lost g c = λ is. spent_here c.member.new.self c.args.position c.args.sector c.in-Err.ensures.refused.1
