use Rattle.std.proofs.Common.{List, ℕ, subst}
use Rattle.rack.specs.Sequences.{WritesDurably}
use Rattle.raid_rack.proofs.LayingDrive.{lays_first, lays_second, lays_third}
use Rattle.raid_rack.proofs.new_drive.lay_drive.Goals as goal

pub returns-in-Err-clause-lays : goal.returns-in-Err-clause-lays
returns-in-Err-clause-lays g c =
    lays_first c.args.disk c.args.table.now (g.R.Rack.seen c.args.rack.now) (g.R.Rack.seen c.write_durably.new.rack) c.in-Err.gone c.in-Err.ensures.writes

pub returns-in-Err-write_whole-clause-lays : goal.returns-in-Err-write_whole-clause-lays
returns-in-Err-write_whole-clause-lays g c =
    lays_second c.args.disk c.args.table.now (g.R.Rack.seen c.args.rack.now) (g.R.Rack.seen c.write_durably.new.rack) (g.R.Rack.seen c.write_whole.new.rack)
    c.in-Err-write_whole.gone c.in_default.ensures.writes c.in-Err-write_whole.ensures.writes

pub returns-clause-lays : goal.returns-clause-lays
returns-clause-lays g c =
    lays_third c.args.disk c.args.table.now (g.R.Rack.seen c.args.rack.now) (g.R.Rack.seen c.write_durably.new.rack) (g.R.Rack.seen c.write_whole.new.rack)
    (g.R.Rack.seen c.write_durably-2.new.rack) c.write_durably-2.result c.requires.room c.in_default.ensures.writes c.in_default-write_whole.ensures.writes
    (subst (λ (v : List ℕ). WritesDurably (g.R.Rack.seen c.write_whole.new.rack) (g.R.Rack.seen c.write_durably-2.new.rack) c.args.disk 2049 v c.write_durably-2.result)
    c.first_gate.ensures c.write_durably-2.ensures.writes)
