-- The last value goes, which was written.
use Rattle.std.proofs.Common.{rules, refl, arith}
use Rattle.flat_array.proofs.Keeping.{items_at-get_or, Holds-unwritten}
use Rattle.flat_array.proofs.disk.FlatDisk.unwrite.Goals as goal

pub returns-then-sector-size : goal.returns-then-sector-size
returns-then-sector-size c =
    λ a v holds.
    let old = c.args.self.now in
    let inside = c.if-sector-size.true in
    let is = items_at-get_or old.sectors.items c.args.sector c.index_mut-kept.result.now (omega (arith, inside, c.size.ensures)) in
    Holds-unwritten old _ c.args.sector c.pop.new.self a v refl
    (search rules)
    (omega (arith, inside, c.size.ensures))
    holds
