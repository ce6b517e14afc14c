use Rattle.std.proofs.Common.{◌+◌, refl, arith}
use Rattle.rack.proofs.Calling.{several_fewer}
use Rattle.rack.proofs.Writing.{only_quiet}
use Rattle.lvm_group.specs.Framed.{IsShown}
use Rattle.lvm_group.specs.Volume.{linear}
use Rattle.lvm_group.proofs.Below.{sync_volume, unsynced_volume}
use Rattle.lvm_group.proofs.volume.VolumeRack.sync.Goals as goal

pub returns-in-Ok-clause-syncs : goal.returns-in-Ok-clause-syncs
returns-in-Ok-clause-syncs g c =
    sync_volume {l = linear c.args.self.now} c.args.disk c.args.self.now.orderly c.requires.fit.1 c.in-Ok.ensures.syncs

pub returns-in-Err-clause-syncs : goal.returns-in-Err-clause-syncs
returns-in-Err-clause-syncs g c =
    unsynced_volume {l = linear c.args.self.now} c.args.disk c.in-Err.field-0 c.args.self.now.orderly c.requires.fit.1 c.in-Err.ensures.syncs

pub returns-in-Ok-clause-runs : goal.returns-in-Ok-clause-runs
returns-in-Ok-clause-runs g c = (
  c.in-Ok.ensures.runs,
  record { volume = refl; pool = refl; seqno = refl; writes = λ fit. only_quiet (IsShown (linear c.args.self.now)) c.in-Ok.ensures.syncs.stays c.in-Ok.ensures.syncs.keeps },
)

pub returns-in-Err-clause-runs : goal.returns-in-Err-clause-runs
returns-in-Err-clause-runs g c = (
  c.in-Err.ensures.runs,
  record { volume = refl; pool = refl; seqno = refl; writes = λ fit. only_quiet (IsShown (linear c.args.self.now)) c.in-Err.ensures.syncs.stays c.in-Err.ensures.syncs.keeps },
)

pub returns-in-Ok-clause-once : goal.returns-in-Ok-clause-once
returns-in-Ok-clause-once g c =
    several_fewer g.R.Rack.once (linear c.args.self.now).arrays (1 + (linear c.args.self.now).arrays) _ _ (omega arith) c.in-Ok.ensures.several

pub returns-in-Err-clause-once : goal.returns-in-Err-clause-once
returns-in-Err-clause-once g c =
    several_fewer g.R.Rack.once (linear c.args.self.now).arrays (1 + (linear c.args.self.now).arrays) _ _ (omega arith) c.in-Err.ensures.several
