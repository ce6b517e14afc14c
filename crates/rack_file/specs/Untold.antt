-- Image files as files with buffers: nothing of what they hold is told.
use Rattle.std.specs.Prelude.{List, [], refl}
use Rattle.rack_file.specs.declared.disk.FileDisk.{FileDisk}
use Rattle.rack_file.specs.Files.{files_seen}
use Rattle.rack_file.specs.FilesLaws.{bounded_files}
use Rattle.buffered_bay.specs.View.{View, IsPlain}

abbrev pub files_view : {F : Type 0} → List (FileDisk F) → View
files_view disks = record { seen = files_seen disks; buffer = λ d p. []; stored = λ d s. [] }

pub plain_files : {F : Type 0} (disks : List (FileDisk F)) → IsPlain ⊥ (files_seen disks)
plain_files disks =
    record {
      fit = tt;
      told = λ d tells. tells;
      tells_all = λ d told. told;
      unspent = λ d s. refl;
      lasting = tt;
      bounded = λ d inside. bounded_files disks d;
    }
