use Rattle.std.proofs.Common.{◌+◌, refl, arith}
use Rattle.rack.proofs.Calling.{several_fewer, several_one}
use Rattle.rack.proofs.Writing.{only_refused, only_written}
use Rattle.lvm_group.specs.Framed.{IsShown}
use Rattle.lvm_group.specs.Volume.{linear}
use Rattle.lvm_group.proofs.Below.{write_volume, unwritten_volume}
use Rattle.lvm_group.proofs.volume.VolumeRack.write.Goals as goal

pub returns-in-Ok-clause-writes : goal.returns-in-Ok-clause-writes
returns-in-Ok-clause-writes g c =
    write_volume {l = linear c.args.self.now} c.args.disk c.args.sector c.args.from.now c.args.self.now.orderly c.requires.fit.1 c.requires.disk c.requires.sector
    (rw (← c.spot-spot.ensures.array, ← c.spot-spot.ensures.sector) c.in-Ok.ensures.writes)

pub returns-in-Err-clause-writes : goal.returns-in-Err-clause-writes
returns-in-Err-clause-writes g c =
    unwritten_volume {l = linear c.args.self.now} c.args.disk c.args.sector c.args.from.now c.in-Err.field-0 c.args.self.now.orderly c.requires.fit.1 c.requires.disk c.requires.sector
    (rw (← c.spot-spot.ensures.array, ← c.spot-spot.ensures.sector) c.in-Err.ensures.writes)

pub returns-in-Ok-clause-runs : goal.returns-in-Ok-clause-runs
returns-in-Ok-clause-runs g c = (
  c.in-Ok.ensures.runs,
  record { volume = refl; pool = refl; seqno = refl; writes = λ fit. only_written (IsShown (linear c.args.self.now)) c.spot-spot.result.array c.spot-spot.result.sector c.args.from.now (c.args.sector, c.requires.sector, c.spot-spot.ensures.array, c.spot-spot.ensures.sector) c.in-Ok.ensures.writes },
)

pub returns-in-Err-clause-runs : goal.returns-in-Err-clause-runs
returns-in-Err-clause-runs g c = (
  c.in-Err.ensures.runs,
  record { volume = refl; pool = refl; seqno = refl; writes = λ fit. only_refused (IsShown (linear c.args.self.now)) c.spot-spot.result.array c.spot-spot.result.sector c.args.from.now c.in-Err.field-0 (c.args.sector, c.requires.sector, c.spot-spot.ensures.array, c.spot-spot.ensures.sector) c.in-Err.ensures.writes },
)

pub returns-in-Ok-clause-once : goal.returns-in-Ok-clause-once
returns-in-Ok-clause-once g c =
    several_fewer g.R.Rack.once 1 (1 + (linear c.args.self.now).arrays) _ _ (omega arith) (several_one g.R.Rack.once _ _ c.in-Ok.ensures.once)

pub returns-in-Err-clause-once : goal.returns-in-Err-clause-once
returns-in-Err-clause-once g c =
    several_fewer g.R.Rack.once 1 (1 + (linear c.args.self.now).arrays) _ _ (omega arith) (several_one g.R.Rack.once _ _ c.in-Err.ensures.once)
