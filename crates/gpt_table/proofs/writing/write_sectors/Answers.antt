use Rattle.std.proofs.Common.{◌+◌}
use Rattle.gpt_table.specs.Plans.{copy_plan}
use Rattle.gpt_table.proofs.Planned.{entries_planned, plan_own, entries_wider, entries_refused, follows_refused, all_written, sync_refused}
use Rattle.gpt_table.proofs.writing.write_sectors.Goals as goal

pub returns-in-Err-clause-writes : goal.returns-in-Err-clause-writes
returns-in-Err-clause-writes g c =
    entries_refused (g.R.Rack.seen c.args.rack.now) (g.R.Rack.seen c.write_entries.new.rack) c.args.disk c.args.own c.args.first c.args.header.now
    c.args.bytes.now c.in-Err.gone c.requires.apart c.in-Err.ensures.writes

pub returns-in-Err-write-clause-writes : goal.returns-in-Err-write-clause-writes
returns-in-Err-write-clause-writes g c =
    follows_refused (g.R.Rack.seen c.args.rack.now) (g.R.Rack.seen c.write_entries.new.rack) (g.R.Rack.seen c.write.new.self) c.args.disk c.args.own
    c.args.header.now (copy_plan c.args.own c.args.header.now c.args.first c.args.bytes.now) c.in-Err-write.gone
    (entries_wider (g.R.Rack.seen c.args.rack.now) (g.R.Rack.seen c.write_entries.new.rack) c.args.disk c.args.own c.args.first c.args.header.now c.args.bytes.now
    c.requires.apart c.in_default.ensures.writes.follows)
    c.in-Err-write.ensures.writes (plan_own c.args.own c.args.header.now c.args.first c.args.bytes.now)

pub returns-in-Ok-clause-writes : goal.returns-in-Ok-clause-writes
returns-in-Ok-clause-writes g c =
    all_written (g.R.Rack.seen c.args.rack.now) (g.R.Rack.seen c.write_entries.new.rack) (g.R.Rack.seen c.write.new.self) (g.R.Rack.seen c.sync.new.self)
    c.args.disk c.args.own c.args.first c.args.header.now c.args.bytes.now c.requires.apart
    (entries_wider (g.R.Rack.seen c.args.rack.now) (g.R.Rack.seen c.write_entries.new.rack) c.args.disk c.args.own c.args.first c.args.header.now c.args.bytes.now
    c.requires.apart c.in_default.ensures.writes.follows)
    (λ k below live. c.in_default.ensures.writes.written (c.args.first + k) _ (entries_planned c.args.first c.args.bytes.now k below) live)
    c.in_default-write.ensures.writes c.in-Ok.ensures.syncs

pub returns-in-Err-sync-clause-writes : goal.returns-in-Err-sync-clause-writes
returns-in-Err-sync-clause-writes g c =
    sync_refused (g.R.Rack.seen c.args.rack.now) (g.R.Rack.seen c.write_entries.new.rack) (g.R.Rack.seen c.write.new.self) (g.R.Rack.seen c.sync.new.self)
    c.args.disk c.args.own c.args.first c.args.header.now c.args.bytes.now c.in-Err-sync.gone
    (entries_wider (g.R.Rack.seen c.args.rack.now) (g.R.Rack.seen c.write_entries.new.rack) c.args.disk c.args.own c.args.first c.args.header.now c.args.bytes.now
    c.requires.apart c.in_default.ensures.writes.follows)
    c.in_default-write.ensures.writes c.in-Err-sync.ensures.syncs
