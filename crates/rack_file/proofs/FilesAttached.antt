-- A file was attached, or there was no memory.
use Rattle.std.proofs.Common.{◌≡◌, ◌<◌, ℕ, List, [], ◌∷◌, ◌++◌, length, slice_get, Some, Result, Ok, Err, IfOk, IfErr, refl}
use Rattle.rack.specs.declared.AttachFault.{AttachFault}
use Rattle.rack.specs.declared.AttachFault.TheVariants.{Memory}
use Rattle.buffered_bay.specs.StoreCalls.{AttachesFile}
use Rattle.rack_file.specs.declared.disk.FileDisk.{FileDisk}
use Rattle.rack_file.specs.Files.{files_shelf, names_of}
use Rattle.rack_file.specs.Untold.{files_view}
use Rattle.rack_file.proofs.FilesLemmas.{attached_or_not}

pub file_attached :
    {F : Type 0} (disks disks' : List (FileDisk F)) (new : FileDisk F) (faults faults' : ℕ) (name : List ℕ)
    (result : Result ℕ AttachFault)
    → new.name ≡ name
    → new.faults ≡ 0
    → ((d : ℕ) → slice_get (names_of disks) d ≡ Some name → ⊥)
    → faults' ≡ faults
    → IfOk result (λ number. (number ≡ length disks) × (disks' ≡ disks ++ new ∷ []))
    → IfErr result (λ e. (e ≡ Memory) × (disks' ≡ disks))
    → AttachesFile (files_view disks) (files_view disks') (files_shelf disks faults) (files_shelf disks' faults') name result
file_attached disks disks' new faults faults' name (Ok number) named unfaulted none same added refused =
    record {
      attaches = attached_or_not disks disks' new faults faults' name (Ok number) named unfaulted none same added refused;
      buffers = λ d p has. refl;
      stored = λ d s has. refl;
      whole = λ told. absurd told;
    }
file_attached disks disks' new faults faults' name (Err e) named unfaulted none same added refused =
    record {
      attaches = attached_or_not disks disks' new faults faults' name (Err e) named unfaulted none same added refused;
      buffers = λ d p has. refl;
      stored = λ d s has. refl;
      whole = tt;
    }
