use Rattle.std.proofs.Common.{◌∙◌, refl, ap}
use Rattle.raid_map.specs.LeftSymmetric.{parity_at, sector_of}
use Rattle.array_core.specs.declared.members.Spread.TheVariants.{Parity}
use Rattle.array_core.specs.declared.members.Stand.{Stand}
use Rattle.array_core.proofs.Rewriting.{parity_stand_is}
use Rattle.array_core.proofs.Array.parity_stand.Goals as goal

pub returns-clause-stand : goal.returns-clause-stand
returns-clause-stand c =
    let at : Stand = record { spread = Parity c.members-members.result; position = c.place-spot.result.parity; sector = c.place-spot.result.sector } in
    parity_stand_is c.args.self.now c.args.x c.members-members.result at c.rules.ensures c.requires.still c.requires.layout c.requires.sector c.members-members.ensures refl
    (c.place-spot.ensures.sector ∙ ap (λ k. sector_of k c.args.x) c.members-members.ensures)
    (c.place-spot.ensures.parity ∙ ap (λ k. parity_at k c.place-spot.result.sector) c.members-members.ensures)
