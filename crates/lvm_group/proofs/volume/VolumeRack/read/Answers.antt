use Rattle.std.proofs.Common.{◌+◌, refl, arith}
use Rattle.rack.proofs.Calling.{several_fewer, several_one}
use Rattle.rack.proofs.Writing.{only_quiet}
use Rattle.lvm_group.specs.Framed.{IsShown}
use Rattle.lvm_group.specs.Volume.{linear}
use Rattle.lvm_group.proofs.Below.{read_volume, unread_volume}
use Rattle.lvm_group.proofs.volume.VolumeRack.read.Goals as goal

pub returns-in-Ok-clause-reads : goal.returns-in-Ok-clause-reads
returns-in-Ok-clause-reads g c =
    read_volume {l = linear c.args.self.now} c.args.disk c.args.sector _ c.args.self.now.orderly c.requires.fit.1 c.requires.sector
    (rw (← c.spot-spot.ensures.array, ← c.spot-spot.ensures.sector) c.in-Ok.ensures.reads)

pub returns-in-Err-clause-reads : goal.returns-in-Err-clause-reads
returns-in-Err-clause-reads g c =
    unread_volume {l = linear c.args.self.now} c.args.disk c.args.sector _ c.in-Err.field-0 c.args.self.now.orderly c.requires.fit.1 c.requires.sector
    (rw (← c.spot-spot.ensures.array, ← c.spot-spot.ensures.sector) c.in-Err.ensures.reads)

pub returns-in-Ok-clause-runs : goal.returns-in-Ok-clause-runs
returns-in-Ok-clause-runs g c = (
  c.in-Ok.ensures.runs,
  record { volume = refl; pool = refl; seqno = refl; writes = λ fit. only_quiet (IsShown (linear c.args.self.now)) c.in-Ok.ensures.reads.stays c.in-Ok.ensures.reads.keeps },
)

pub returns-in-Err-clause-runs : goal.returns-in-Err-clause-runs
returns-in-Err-clause-runs g c = (
  c.in-Err.ensures.runs,
  record { volume = refl; pool = refl; seqno = refl; writes = λ fit. only_quiet (IsShown (linear c.args.self.now)) c.in-Err.ensures.reads.stays c.in-Err.ensures.reads.keeps },
)

pub returns-in-Ok-clause-once : goal.returns-in-Ok-clause-once
returns-in-Ok-clause-once g c =
    several_fewer g.R.Rack.once 1 (1 + (linear c.args.self.now).arrays) _ _ (omega arith) (several_one g.R.Rack.once _ _ c.in-Ok.ensures.once)

pub returns-in-Err-clause-once : goal.returns-in-Err-clause-once
returns-in-Err-clause-once g c =
    several_fewer g.R.Rack.once 1 (1 + (linear c.args.self.now).arrays) _ _ (omega arith) (several_one g.R.Rack.once _ _ c.in-Err.ensures.once)
