use Rattle.gpt_table.specs.Plans.{entries_plan}
use Rattle.gpt_table.proofs.Planned.{refused_plan, then_synced, then_refused}
use Rattle.gpt_table.proofs.changing.write_entries_durably.Goals as goal

pub returns-in-Err-clause-writes : goal.returns-in-Err-clause-writes
returns-in-Err-clause-writes g c =
    refused_plan (g.R.Rack.seen c.args.rack.now) (g.R.Rack.seen c.write_entries.new.rack) c.args.disk (entries_plan c.args.first c.args.bytes.now)
    c.in-Err.gone c.in-Err.ensures.writes

pub returns-in-Ok-clause-writes : goal.returns-in-Ok-clause-writes
returns-in-Ok-clause-writes g c =
    then_synced (g.R.Rack.seen c.args.rack.now) (g.R.Rack.seen c.write_entries.new.rack) (g.R.Rack.seen c.sync.new.self) c.args.disk
    (entries_plan c.args.first c.args.bytes.now) c.in_default.ensures.writes c.in-Ok.ensures.syncs

pub returns-in-Err-sync-clause-writes : goal.returns-in-Err-sync-clause-writes
returns-in-Err-sync-clause-writes g c =
    then_refused (g.R.Rack.seen c.args.rack.now) (g.R.Rack.seen c.write_entries.new.rack) (g.R.Rack.seen c.sync.new.self) c.args.disk
    (entries_plan c.args.first c.args.bytes.now) c.in-Err-sync.gone c.in_default.ensures.writes c.in-Err-sync.ensures.syncs
