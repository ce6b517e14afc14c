use Rattle.std.proofs.Common.{length, take, filter, ap, ◌∙◌, arith, length-append}
use Rattle.std.proofs.lemmas.Bool.{lt-ltb}
use Rattle.gpt_table.specs.Changes.{is_above}
use Rattle.gpt_table.proofs.Chosen.{fewer_chosen}
use Rattle.gpt_table.proofs.changing.push_above.Goals as goal

pub push-requires : goal.push-requires
push-requires c =
    let chosen = fewer_chosen (is_above c.args.number) c.args.entries.now c.loop-entry.entry-index _ c.loop-entry-test.true (lt-ltb _ _ c.if-number-entry.true) in
    let so_far = ap length c.loop-entry.invariant.pushed
    ∙ length-append c.args.chosen.now.items (filter (is_above c.args.number) (take c.loop-entry.entry-index c.args.entries.now)) in
    (omega arith, omega (arith, chosen, so_far, c.requires))
