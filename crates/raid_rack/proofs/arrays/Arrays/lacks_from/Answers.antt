use Rattle.std.proofs.Common.{◌||◌, ap, sym, ◌∙◌, arith}
use Rattle.array_model.specs.View.{View, rows_of}
use Rattle.sync_laws.specs.Rows.{lacks_two}
use Rattle.raid_rack.specs.RaidRack.{no_array, raid_by}
use Rattle.raid_rack.proofs.Steps.{same_element}
use Rattle.raid_rack.proofs.arrays.Arrays.lacks_from.Goals as goal

pub lacks_two_in-requires : goal.lacks_two_in-requires
lacks_two_in-requires c =
    let a = c.args.self.now in
    let count = c.requires.count in
    let low = c.requires.number in
    let same = c.index-deref-number.is ∙ same_element c.deref.result.now a.all.items c.args.number _ no_array c.deref.ensures.0 (omega (arith, low, count)) in
    let rows = ap rows_of same in
    let row = c.requires.row in
    omega (arith, rows, row)

pub returns-then-is_ended : goal.returns-then-is_ended
returns-then-is_ended c =
    c.if-is_ended.true ∙ sym (ap (λ b. b || lacks_two ((raid_by c.args.self.now).arrays c.args.number) c.args.row) (sym c.is_ended.ensures ∙ c.if-is_ended.true))

pub returns-else-is_ended : goal.returns-else-is_ended
returns-else-is_ended c =
    let a = c.args.self.now in
    let n = c.args.number in
    let count = c.requires.count in
    let low = c.requires.number in
    c.lacks_two_in.ensures
    ∙ ap (λ (u : View). lacks_two u c.args.row) (c.index-deref-number.is ∙ same_element c.deref.result.now a.all.items n _ no_array c.deref.ensures.0 (omega (arith, low, count)))
    ∙ sym (ap (λ b. b || lacks_two ((raid_by a).arrays n) c.args.row) (sym c.is_ended.ensures ∙ c.if-is_ended.false))
