-- The lines that refuse an opening or the making of a pool.
use Rattle.std.specs.Prelude.{ℕ, List, ◌++◌, codes, decimal}
use Rattle.layer_plan.specs.declared.PlanError.{PlanError}
use Rattle.layer_plan.specs.declared.PlanError.TheVariants.{TooFew as FewDrives, TooMany, NoRoom}
use Rattle.pool_check.specs.declared.Part.{Part}
use Rattle.pool_check.specs.declared.Part.TheVariants.{Table, State, Log, Superblock}
use Rattle.assembler.specs.declared.refusal.Refusal.{Refusal}
use Rattle.assembler.specs.declared.refusal.Refusal.TheVariants.{NoPool, TwoPools, Absent, Damaged, TooFew, DirtyDegraded, BadVolume, Memory}
use Rattle.pool_format.specs.declared.formatting.CreateFault.{CreateFault}
use Rattle.pool_format.specs.declared.formatting.CreateFault.TheVariants.{Layout, Gone, Memory as NoMemory}
use Rattle.shr_tool.specs.declared.status.Status.{Status}
use Rattle.shr_tool.specs.declared.status.Status.TheVariants.{Refused, Memory as OfMemory}

-- the word for a part of a drive
abbrev pub part_word : Part → List ℕ
part_word Table = codes "table"
part_word State = codes "state"
part_word Log = codes "log"
part_word Superblock = codes "superblock"

-- why a pool can't be opened, in words
abbrev pub refusal_words : Refusal → List ℕ
refusal_words NoPool = codes "no-pool"
refusal_words TwoPools = codes "two-pools"
refusal_words (Absent count) = codes "absent " ++ decimal count
refusal_words (Damaged place part) = codes "damaged " ++ decimal place ++ codes " " ++ part_word part
refusal_words (TooFew array) = codes "too-few " ++ decimal array
refusal_words (DirtyDegraded array) = codes "dirty-degraded " ++ decimal array
refusal_words (BadVolume array) = codes "bad-volume " ++ decimal array
refusal_words Memory = codes "memory"

-- and the status of it
abbrev pub refusal_status : Refusal → Status
refusal_status NoPool = Refused
refusal_status TwoPools = Refused
refusal_status (Absent count) = Refused
refusal_status (Damaged place part) = Refused
refusal_status (TooFew array) = Refused
refusal_status (DirtyDegraded array) = Refused
refusal_status (BadVolume array) = Refused
refusal_status Memory = OfMemory

-- why drives have no plan, in words
abbrev pub plan_words : PlanError → List ℕ
plan_words FewDrives = codes "too-few"
plan_words TooMany = codes "too-many"
plan_words (NoRoom drive) = codes "no-room " ++ decimal drive

-- why a pool can't be made, in words
abbrev pub fault_words : CreateFault → List ℕ
fault_words (Layout error) = plan_words error
fault_words (Gone disk) = codes "drive-gone " ++ decimal disk
fault_words NoMemory = codes "memory"

-- and the status of it
abbrev pub fault_status : CreateFault → Status
fault_status (Layout error) = Refused
fault_status (Gone disk) = Refused
fault_status NoMemory = OfMemory
