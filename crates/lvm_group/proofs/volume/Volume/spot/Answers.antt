use Rattle.std.proofs.Common.{arith}
use Rattle.lvm_group.specs.Runs.{array_of}
use Rattle.lvm_group.specs.Volume.{linear}
use Rattle.lvm_group.specs.Laws.{array_below, sector_below}
use Rattle.lvm_group.proofs.Totals.{in_total}
use Rattle.lvm_group.proofs.volume.Volume.spot.Goals as goal

pub spot_with-requires-clause-bounded : goal.spot_with-requires-clause-bounded
spot_with-requires-clause-bounded g c =
    let l = linear c.args.self.now in
    let a = g.R.Rack.seen c.args.self.now.rack in
    let inside = c.requires.inside in
    let array = array_below l a c.args.sector c.args.self.now.orderly inside c.requires.within in
    let sector = sector_below l a c.args.sector c.args.self.now.orderly inside c.requires.within in
    let arrays = inside.arrays in
    let small = inside.small in
    let part = in_total a.sectors a.disks (array_of l c.args.sector) (omega arith) in
    rw c.as_slice.ensures.value (omega arith)
