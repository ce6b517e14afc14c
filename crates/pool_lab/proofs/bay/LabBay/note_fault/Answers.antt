-- One disk's count rises; its name and its sectors stay.
use Rattle.std.proofs.Common.{refl, subst, sym, length-set}
use Rattle.std.proofs.lemmas.Option.{slice_get_read}
use Rattle.pool_lab.specs.Disks.{Differ}
use Rattle.pool_lab.proofs.DisksLemmas.{noted, names_kept, rose_more, grows_more}
use Rattle.pool_lab.proofs.bay.LabBay.note_fault.Goals as goal

pub invariant_of-self : goal.invariant_of-self
invariant_of-self c =
    let disks = c.args.self.now.disks.items in
    let at = slice_get_read disks _ c.args.disk _ refl c.requires c.index_mut-attached.ensures.value in
    record {
      counted = c.args.self.now.counted;
      few = let few = c.args.self.now.few in rw length-set few;
      differ = subst Differ (sym (names_kept disks c.args.disk _ _ at refl)) c.args.self.now.differ;
    }

pub returns-clause-noted : goal.returns-clause-noted
returns-clause-noted c =
    let disks = c.args.self.now.disks.items in
    let at = slice_get_read disks _ c.args.disk _ refl c.requires c.index_mut-attached.ensures.value in
    noted disks c.args.disk _ _ at refl refl
    (grows_more _ _ c.index_mut-attached.result.now.counted c.saturating_add-attached.ensures)
    (rose_more _ _ c.saturating_add-attached.ensures)

pub returns-clause-shelf : goal.returns-clause-shelf
returns-clause-shelf c =
    let disks = c.args.self.now.disks.items in
    let at = slice_get_read disks _ c.args.disk _ refl c.requires c.index_mut-attached.ensures.value in
    record { names = names_kept disks c.args.disk _ _ at refl; ready = λ n. refl; told = λ told. told; faults = refl }
