-- What holds of every bay of image files.
use Rattle.std.specs.Prelude.{◌≡◌, ℕ, ◌<◌, ◌^◌, List, length, slice_get, Option, Some, None}
use Rattle.std.proofs.Common.{lit<}
use Rattle.std.proofs.lemmas.List.{length-map}
use Rattle.rack_file.specs.declared.disk.FileDisk.{FileDisk}
use Rattle.rack_file.specs.Files.{sectors_of, names_of}

bounded_file : {F : Type 0} (disk : Option (FileDisk F)) → sectors_of disk < 2 ^ 48
bounded_file None = lit< tt
bounded_file (Some disk) = disk.bounded

pub bounded_files : {F : Type 0} (disks : List (FileDisk F)) (d : ℕ) → sectors_of (slice_get disks d) < 2 ^ 48
bounded_files disks d = bounded_file (slice_get disks d)

pub names-length : {F : Type 0} (disks : List (FileDisk F)) → length (names_of disks) ≡ length disks
names-length disks = length-map disks (λ disk. disk.name)
