use Rattle.std.proofs.Common.{arith}
use Rattle.lvm_group.specs.Volume.{linear}
use Rattle.lvm_group.proofs.Counted.{no_more_sectors}
use Rattle.lvm_group.proofs.volume.VolumeRack.sectors.Goals as goal

pub overflow_mul-result : goal.overflow_mul-result
overflow_mul-result g c =
    let volume = c.args.self.now in
    let counted = volume.counted in
    let most = no_more_sectors (linear volume) (g.R.Rack.seen volume.rack) volume.orderly c.requires.fit.1 in
    let small = c.requires.fit.1.small in
    rw counted (omega arith)

pub returns-clause-bounded : goal.returns-clause-bounded
returns-clause-bounded g c =
    let volume = c.args.self.now in
    let counted = volume.counted in
    let most = no_more_sectors (linear volume) (g.R.Rack.seen volume.rack) volume.orderly c.requires.fit.1 in
    let small = c.requires.fit.1.small in
    rw counted (omega arith)
