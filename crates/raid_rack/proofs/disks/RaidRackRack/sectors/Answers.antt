use Rattle.std.proofs.Common.{ap, ◌∙◌, arith}
use Rattle.array_model.specs.View.{sectors_of}
use Rattle.array_model.proofs.Layouts.{sectors_small}
use Rattle.raid_rack.specs.RaidRack.{no_array, raid_by}
use Rattle.raid_rack.proofs.Steps.{same_element}
use Rattle.raid_rack.proofs.disks.RaidRackRack.sectors.Goals as goal

pub returns-clause-bounded : goal.returns-clause-bounded
returns-clause-bounded g c =
    let a = c.args.self.now.arrays in
    let n = c.args.disk in
    let count = c.requires.fit.running.count in
    let low = c.requires.disk in
    let small = sectors_small ((raid_by a).arrays n) (c.requires.fit.running.set.arrays n low).is_array in
    let is = c.sectors.ensures ∙ ap sectors_of (c.index-deref-disk.is ∙ same_element c.deref.result.now a.all.items n _ no_array c.deref.ensures.0 (omega (arith, count, low))) in
    omega (arith, small, is)
