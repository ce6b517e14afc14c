use Rattle.std.proofs.Common.{sym, subst, length, ◌≤◌}
use Rattle.std.specs.Prelude.{is_ok}
use Rattle.pool_lab.specs.Disks.{Differ, names_of}
use Rattle.pool_lab.proofs.DisksLemmas.{differ_if, few_if}
use Rattle.pool_lab.proofs.bay.LabBay.add.Goals as goal

pub invariant_of-self : goal.invariant_of-self
invariant_of-self c =
    let disks = c.args.self.now.disks.items in
    record {
      counted = c.args.self.now.counted;
      few = subst (λ xs. length xs ≤ 65536) (sym c.push.ensures.items) (few_if (is_ok c.push.result) disks c.args.disk c.requires.room);
      differ = subst (λ xs. Differ (names_of xs)) (sym c.push.ensures.items) (differ_if (is_ok c.push.result) disks c.args.disk c.args.self.now.differ c.requires.new);
    }
