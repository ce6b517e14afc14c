-- No disk so far has the name.
use Rattle.std.proofs.Common.{◌≡◌, ℕ, ◌<◌, slice_get, Some}
use Rattle.pool_lab.specs.Disks.{names_of}
use Rattle.pool_lab.proofs.bay.LabBay.position.Given as goal

abbrev pub invariant-loop-at : goal.invariant-loop-at
invariant-loop-at l =
    (d : ℕ) → d < l.at → slice_get (names_of l.self.disks.items) d ≡ Some l.name → ⊥
