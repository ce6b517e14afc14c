use Rattle.std.proofs.Common.{sym, ◌∙◌, subst, ap, arith}
use Rattle.raid_map.specs.LeftSymmetric.{IsMemberCount}
use Rattle.array_image.specs.Stripes.{Layout, width, position_in, sector_in}
use Rattle.array_model.proofs.Layouts.{members_count, sectors_small}
use Rattle.array_core.specs.Stands.{layout_of}
use Rattle.array_core.specs.declared.members.Spread.{Spread}
use Rattle.array_core.specs.declared.members.Spread.TheVariants.{Parity}
use Rattle.array_core.specs.declared.members.Stand.{Stand}
use Rattle.array_core.proofs.Rules.{stand_is}
use Rattle.array_core.proofs.Array.stand.Goals as goal

pub place-spot-requires-clause-members : goal.place-spot-requires-clause-members
place-spot-requires-clause-members c =
    let count = members_count c.args.self.now c.args.x c.rules.ensures in
    subst (λ (s : Spread). IsMemberCount (width (layout_of s))) c.in-Parity.is
    (subst (λ (l : Layout). IsMemberCount (width l)) (sym c.spread-spread.ensures) count)

pub place-spot-requires-clause-sector : goal.place-spot-requires-clause-sector
place-spot-requires-clause-sector c =
    let small = sectors_small c.args.self.now c.rules.ensures in
    omega (arith, c.requires, small)

pub returns-in-Mirror-clause-stand : goal.returns-in-Mirror-clause-stand
returns-in-Mirror-clause-stand c =
    let at : Stand = record { spread = c.spread-spread.result; position = 0; sector = c.args.x } in
    stand_is c.args.self.now c.args.x at c.rules.ensures c.requires c.spread-spread.ensures
    (ap (λ (l : Layout). position_in l c.args.x) c.in-Mirror.ensures) (ap (λ (l : Layout). sector_in l c.args.x) c.in-Mirror.ensures)

pub returns-in-Parity-clause-stand : goal.returns-in-Parity-clause-stand
returns-in-Parity-clause-stand c =
    let at : Stand = record { spread = Parity c.in-Parity.members; position = c.place-spot.result.member; sector = c.place-spot.result.sector } in
    stand_is c.args.self.now c.args.x at c.rules.ensures c.requires c.in-Parity.ensures
    (c.place-spot.ensures.member ∙ ap (λ (l : Layout). position_in l c.args.x) c.in-Parity.ensures)
    (c.place-spot.ensures.sector ∙ ap (λ (l : Layout). sector_in l c.args.x) c.in-Parity.ensures)
