use Rattle.std.proofs.Common.{ℕ, sym, subst}
use Rattle.rack.specs.Values.{IsSingle}
use Rattle.rack.specs.Seen.{IsLive}
use Rattle.rack.specs.Sequences.{WritesOnly}
use Rattle.gpt_table.specs.Disk.{now_on}
use Rattle.pool_format.specs.Drives.{IsNewDrive, IsWhole}
use Rattle.pool_format.specs.Stops.{StopsAmid}
use Rattle.pool_format.specs.Writing.{IsPart}
use Rattle.pool_format.proofs.Laying.{room_then}
use Rattle.pool_format.proofs.formatting.build.Goals as goal

pub new_volume-requires-clause-room : goal.new_volume-requires-clause-room
new_volume-requires-clause-room g c = room_then c.args.plan.now (g.R.Rack.seen c.args.rack) (g.R.Rack.seen c.write_pool.new.rack) c.write_pool.ensures.lays.only.stays c.requires.room

pub returns-in-Ok-clause-only : goal.returns-in-Ok-clause-only
returns-in-Ok-clause-only g c =
    subst (λ r. WritesOnly (g.R.Rack.seen c.args.rack) (g.R.Rack.seen r) (IsPart c.args.plan.now (g.R.Rack.seen c.args.rack).sectors)) (sym c.new_volume.ensures.below) c.write_pool.ensures.lays.only

pub returns-in-Ok-clause-stops : goal.returns-in-Ok-clause-stops
returns-in-Ok-clause-stops g c =
    subst (λ r. StopsAmid c.args.plan.now c.args.birth.now (g.R.Rack.seen c.args.rack) (g.R.Rack.seen r)) (sym c.new_volume.ensures.below) c.write_pool.ensures.stops

pub returns-in-Ok-clause-single : goal.returns-in-Ok-clause-single
returns-in-Ok-clause-single g c =
    subst (λ r. (d s : ℕ) → IsLive (g.R.Rack.seen c.args.rack) (g.R.Rack.seen r) d s → IsSingle ((g.R.Rack.seen r).held d s)) (sym c.new_volume.ensures.below) c.in-Ok.ensures.single

pub returns-in-Ok-clause-drives : goal.returns-in-Ok-clause-drives
returns-in-Ok-clause-drives g c =
    let a = g.R.Rack.seen c.args.rack in
    subst (λ r. (d : ℕ) → IsWhole a d → IsNewDrive c.args.plan.now c.args.birth.now d (a.sectors d) (now_on (g.R.Rack.seen r) d)) (sym c.new_volume.ensures.below) c.in-Ok.ensures.drives
