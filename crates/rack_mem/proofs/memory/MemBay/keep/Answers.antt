use Rattle.std.proofs.Common.{length, subst, sym}
use Rattle.rack_mem.specs.Table.{value_at}
use Rattle.rack_mem.specs.History.{IsIndex, AreOn}
use Rattle.rack_mem.proofs.Histories.{IsIndex-push, AreOn-push}
use Rattle.rack_mem.proofs.memory.MemBay.keep.Goals as goal

pub invariant_of-self-clause-indexed : goal.invariant_of-self-clause-indexed
invariant_of-self-clause-indexed c =
    subst (λ calls. IsIndex calls (value_at c.args.self.now.written)) (sym c.push_within.ensures.items)
    (IsIndex-push _ c.args.call _ c.requires.quiet c.args.self.now.indexed)

pub invariant_of-self-clause-attached_first : goal.invariant_of-self-clause-attached_first
invariant_of-self-clause-attached_first c =
    subst (λ calls. AreOn calls (length c.args.self.now.attached.items)) (sym c.push_within.ensures.items)
    (AreOn-push _ c.args.call _ c.args.self.now.attached_first c.requires.disk)
