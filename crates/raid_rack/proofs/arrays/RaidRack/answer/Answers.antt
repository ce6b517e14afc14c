use Rattle.std.proofs.Common.{◌∙◌}
use Rattle.std.proofs.lemmas.Bool.{both_ways}
use Rattle.raid_rack.proofs.arrays.RaidRack.answer.Goals as goal

pub returns-clause-uncounted : goal.returns-clause-uncounted
returns-clause-uncounted g c n unspent =
    c.note_refusal.ensures.others n
    (λ same. both_ways c.is_spent.result (c.is_spent.ensures ∙ unspent same) c.if-not-is_spent.false)
