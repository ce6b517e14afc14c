use Rattle.array_core.proofs.Truths.{truth_facts}
use Rattle.array_core.proofs.Array.own_sector.Goals as goal

pub member_sector-requires : goal.member_sector-requires
member_sector-requires c = (truth_facts c.self.inside.truth c.self.invariant.truth).roles
