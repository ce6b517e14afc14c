use Rattle.std.proofs.Common.{◌||◌, nat_lt, ap, sym, ◌∙◌, le-ltb, arith}
use Rattle.std.specs.List.{list_any}
use Rattle.array_model.specs.View.{View}
use Rattle.raid_laws.specs.Raid.{last_number}
use Rattle.raid_rack.proofs.Ended.{used_up_by}
use Rattle.raid_rack.proofs.arrays.Arrays.is_used_up.Goals as goal

pub returns-else-number-gt-LAST_NUMBER : goal.returns-else-number-gt-LAST_NUMBER
returns-else-number-gt-LAST_NUMBER c =
    let a = c.args.self.now in
    let same = c.number.ensures in
    let few = c.if-number-gt-LAST_NUMBER.false in
    c.is_late.ensures
    ∙ sym (ap (λ b. b || (nat_lt last_number a.state.epoch || list_any (λ (v : View). nat_lt last_number v.truth.events) a.all.items))
    (le-ltb last_number a.log.number (omega (arith, same, few))))
    ∙ used_up_by a c.requires.count
