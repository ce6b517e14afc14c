use Rattle.std.proofs.Common.{◌∙◌, refl, sym, subst, ap, arith}
use Rattle.raid_map.specs.LeftSymmetric.{IsMemberCount}
use Rattle.array_image.specs.Stripes.{Layout, width, sector_in}
use Rattle.array_model.proofs.Layouts.{members_count, sectors_small}
use Rattle.array_core.specs.declared.members.Spread.TheVariants.{Parity}
use Rattle.array_core.specs.declared.members.Stand.{Stand}
use Rattle.array_core.proofs.RowTargets.{side_is}
use Rattle.array_core.proofs.Array.side_stand.Goals as goal

pub place-spot-requires-clause-members : goal.place-spot-requires-clause-members
place-spot-requires-clause-members c =
    subst (λ (l : Layout). IsMemberCount (width l)) c.requires.layout (members_count c.args.self.now c.args.x c.rules.ensures)

pub place-spot-requires-clause-sector : goal.place-spot-requires-clause-sector
place-spot-requires-clause-sector c =
    let small = sectors_small c.args.self.now c.rules.ensures in
    let low = c.requires.sector in
    omega (arith, low, small)

pub returns-clause-stand : goal.returns-clause-stand
returns-clause-stand c =
    let side : Stand = record { spread = Parity c.args.members; position = c.place-spot.result.parity; sector = c.place-spot.result.sector } in
    side_is c.args.self.now c.args.x c.args.members side c.rules.ensures c.requires.sector c.requires.layout refl
    (c.place-spot.ensures.sector ∙ ap (λ (l : Layout). sector_in l c.args.x) (sym c.requires.layout)) c.place-spot.ensures.parity
