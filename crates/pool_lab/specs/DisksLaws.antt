-- What holds of every bay of attached disks.
use Rattle.std.specs.Prelude.{◌≡◌, ℕ, ◌<◌, ◌^◌, List, length, slice_get, Option, Some, None}
use Rattle.std.proofs.Common.{lit<}
use Rattle.std.proofs.lemmas.List.{length-map}
use Rattle.pool_lab.specs.declared.attached.Attached.{Attached}
use Rattle.pool_lab.specs.Disks.{sectors_of, names_of}

bounded_disk : (disk : Option Attached) → sectors_of disk < 2 ^ 48
bounded_disk None = lit< tt
bounded_disk (Some disk) = disk.bounded

pub bounded_disks : (disks : List Attached) (d : ℕ) → sectors_of (slice_get disks d) < 2 ^ 48
bounded_disks disks d = bounded_disk (slice_get disks d)

pub names-length : (disks : List Attached) → length (names_of disks) ≡ length disks
names-length disks = length-map disks (λ disk. disk.name)
