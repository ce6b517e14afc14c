use Rattle.std.proofs.Common.{true, false, refl, ap, sym, ◌∙◌, arith}
use Rattle.array_model.specs.View.{View}
use Rattle.sync_laws.specs.Rows.{lacks_row}
use Rattle.raid_rack.specs.RaidRack.{no_array, raid_by}
use Rattle.raid_rack.proofs.Steps.{same_element}
use Rattle.raid_rack.proofs.Worked.{stuck_by_code}
use Rattle.raid_rack.proofs.arrays.Arrays.is_stuck.Goals as goal

pub returns-then-is_ended : goal.returns-then-is_ended
returns-then-is_ended c =
    let v = raid_by c.args.self.now in
    let n = c.args.number in
    c.if-is_ended.true
    ∙ stuck_by_code v n c.args.row true (lacks_row (v.arrays n) c.args.row) c.requires.array (sym c.if-is_ended.true ∙ c.is_ended.ensures) refl

pub returns-else-is_ended : goal.returns-else-is_ended
returns-else-is_ended c =
    let a = c.args.self.now in
    let n = c.args.number in
    let count = c.requires.count in
    let low = c.requires.number in
    stuck_by_code (raid_by a) n c.args.row false c.lacks_row.result c.requires.array (sym c.if-is_ended.false ∙ c.is_ended.ensures)
    (c.lacks_row.ensures
    ∙ ap (λ (u : View). lacks_row u c.args.row) (c.index-deref-number.is ∙ same_element c.deref.result.now a.all.items n _ no_array c.deref.ensures.0 (omega (arith, low, count))))
