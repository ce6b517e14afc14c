use Rattle.std.proofs.Common.{◌∙◌, ap}
use Rattle.array_model.specs.View.{View}
use Rattle.array_core.proofs.Rules.{slot_count}
use Rattle.array_core.proofs.Array.members.Goals as goal

pub returns : goal.returns
returns c = c.len.ensures.value ∙ slot_count c.self.inside c.self.invariant ∙ ap (λ (v : View). v.truth.raid_disks) c.self.view_is
