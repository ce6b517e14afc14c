use Rattle.gpt_table.proofs.Whole.{whole_gone_first, whole_gone_second, whole_gone_third, whole_written}
use Rattle.gpt_table.proofs.writing.write_whole.Goals as goal

pub returns-in-Err-clause-writes : goal.returns-in-Err-clause-writes
returns-in-Err-clause-writes g c =
    whole_gone_first (g.R.Rack.seen c.args.rack.now) (g.R.Rack.seen c.write_copy.new.rack) c.args.disk c.args.table.now c.in-Err.gone
    c.in-Err.ensures.writes

pub returns-in-Err-write-clause-writes : goal.returns-in-Err-write-clause-writes
returns-in-Err-write-clause-writes g c =
    whole_gone_second (g.R.Rack.seen c.args.rack.now) (g.R.Rack.seen c.write_copy.new.rack) (g.R.Rack.seen c.write.new.self) c.args.disk c.args.table.now
    c.protective_mbr-mbr.result c.in-Err-write.gone c.requires.writable.room c.protective_mbr-mbr.ensures c.in_default.ensures.writes c.in-Err-write.ensures.writes

pub returns-in-Ok-clause-writes : goal.returns-in-Ok-clause-writes
returns-in-Ok-clause-writes g c =
    whole_written (g.R.Rack.seen c.args.rack.now) (g.R.Rack.seen c.write_copy.new.rack) (g.R.Rack.seen c.write.new.self)
    (g.R.Rack.seen c.write_copy-2.new.rack) c.args.disk c.args.table.now c.protective_mbr-mbr.result c.requires.writable.room c.requires.disk
    c.requires.size c.protective_mbr-mbr.ensures c.in_default.ensures.writes c.in_default-write.ensures.writes c.in-Ok.ensures.writes

pub returns-in-Err-write_copy-clause-writes : goal.returns-in-Err-write_copy-clause-writes
returns-in-Err-write_copy-clause-writes g c =
    whole_gone_third (g.R.Rack.seen c.args.rack.now) (g.R.Rack.seen c.write_copy.new.rack) (g.R.Rack.seen c.write.new.self)
    (g.R.Rack.seen c.write_copy-2.new.rack) c.args.disk c.args.table.now c.protective_mbr-mbr.result c.in-Err-write_copy.gone c.requires.writable.room
    c.protective_mbr-mbr.ensures c.in_default.ensures.writes c.in_default-write.ensures.writes c.in-Err-write_copy.ensures.writes
