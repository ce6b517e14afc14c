use Rattle.std.proofs.Common.{◌+◌, ◌-◌, sym, ◌∙◌, arith}
use Rattle.sync_laws.proofs.Alike.{whole_before}
use Rattle.array_sync.proofs.resyncing.next_rows.Goals as goal

pub returns-then-rows-gt0-clause-had : goal.returns-then-rows-gt0-clause-had
returns-then-rows-gt0-clause-had g c = λ more.
    let few = c.count_alike-rows.ensures.few in
    whole_before c.args.array.now (c.args.row + (c.count_alike-rows.result - 1)) (c.args.row + (c.min-many.result - 1)) (omega (arith, few)) (sym c.lacks_row.ensures ∙ c.if-not-lacks_row.true)

pub returns-then-rows-gt0-clause-whole : goal.returns-then-rows-gt0-clause-whole
returns-then-rows-gt0-clause-whole g c = λ alike.
    let few = c.count_alike-rows.ensures.few in
    whole_before c.args.array.now (c.args.row + (c.count_alike-rows.result - 1)) (c.args.row + (c.min-many.result - 1)) (omega (arith, few)) (sym c.lacks_row.ensures ∙ c.if-not-lacks_row.true)
