use Rattle.std.proofs.Common.{refl, arith}
use Rattle.std.proofs.Math.ListN.{length-set}
use Rattle.rack_mem.proofs.Histories.{AreOn-more}
use Rattle.std.proofs.lemmas.Option.{slice_get_read}
use Rattle.rack_mem.proofs.Attachments.{counts_fault, names_differ_still}
use Rattle.rack_mem.proofs.memory.MemBay.count_fault.Goals as goal

pub invariant_of-self-clause-names_differ : goal.invariant_of-self-clause-names_differ
invariant_of-self-clause-names_differ c =
    names_differ_still c.args.self.now.shelf.items c.args.self.now.attached.items c.args.disk c.index_mut-attached.result.now _
    (slice_get_read c.args.self.now.attached.items _ c.args.disk c.index_mut-attached.result.now refl c.requires c.index_mut-attached.ensures.value)
    refl c.args.self.now.names_differ

pub invariant_of-self-clause-attached_first : goal.invariant_of-self-clause-attached_first
invariant_of-self-clause-attached_first c =
    AreOn-more c.args.self.now.calls.items _ _ (omega (arith, length-set c.args.self.now.attached.items c.args.disk)) c.args.self.now.attached_first

pub returns-clause-faulted : goal.returns-clause-faulted
returns-clause-faulted c =
    counts_fault _ _ c.args.disk c.index_mut-attached.result.now _
    (slice_get_read c.args.self.now.attached.items _ c.args.disk c.index_mut-attached.result.now refl c.requires c.index_mut-attached.ensures.value)
    refl refl refl c.one_more-attached.ensures.later c.one_more-attached.ensures.rose refl (λ n s. refl) refl refl refl
