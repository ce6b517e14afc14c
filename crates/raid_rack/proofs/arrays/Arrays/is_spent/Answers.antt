use Rattle.std.proofs.Common.{true, false, refl, ap, sym, ◌∙◌, arith}
use Rattle.array_model.specs.View.{View, spent_in}
use Rattle.raid_rack.specs.RaidRack.{no_array, raid_by}
use Rattle.raid_rack.proofs.Ended.{spent_by_code}
use Rattle.raid_rack.proofs.Steps.{same_element}
use Rattle.raid_rack.proofs.arrays.Arrays.is_spent.Goals as goal

pub returns-then-is_ended : goal.returns-then-is_ended
returns-then-is_ended c =
    let v = raid_by c.args.self.now in
    let n = c.args.number in
    c.if-is_ended.true
    ∙ spent_by_code v n c.args.sector true (spent_in (v.arrays n) c.args.sector) c.requires.array (sym c.if-is_ended.true ∙ c.is_ended.ensures) refl

pub returns-else-is_ended : goal.returns-else-is_ended
returns-else-is_ended c =
    let a = c.args.self.now in
    let n = c.args.number in
    let count = c.requires.count in
    let low = c.requires.number in
    spent_by_code (raid_by a) n c.args.sector false c.is_spent.result c.requires.array (sym c.if-is_ended.false ∙ c.is_ended.ensures)
    (c.is_spent.ensures
    ∙ ap (λ (u : View). spent_in u c.args.sector) (c.index-deref-number.is ∙ same_element c.deref.result.now a.all.items n _ no_array c.deref.ensures.0 (omega (arith, low, count))))
