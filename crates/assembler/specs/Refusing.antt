-- Refusals of an opening, by those of its parts and by their causes.
use Rattle.std.specs.Prelude.{◌≡◌, ℕ, nat_lt, not, ◌&&◌, if◌then◌else◌, Bool, true, false, List, Option, Some, None, option_map}
use Rattle.std.specs.Option.{option_or}
use Rattle.rack.specs.Seen.{RackView}
use Rattle.pool_state.specs.declared.contents.State.{State}
use Rattle.log_laws.specs.View.{names}
use Rattle.pool_image.specs.Disks.{Seats}
use Rattle.pool_image.specs.Drives.{Found}
use Rattle.pool_image.specs.Meaning as meaning
use Rattle.pool_scan.specs.declared.Known.{Known}
use Rattle.pool_scan.specs.Choosing.{seat_by}
use Rattle.pool_check.specs.Drives.{AreCopied, AreDrivesOf, Drives, Loses, found_with}
use Rattle.pool_check.specs.Refusing.{CountsAbsent, absent_among, is_well, part_by, refusal_by, refused_with}
use Rattle.lvm_group.specs.declared.volume.VolumeFault.{VolumeFault}
use Rattle.lvm_group.specs.declared.volume.VolumeFault.TheVariants as volume
use Rattle.pool_check.specs.declared.CheckFault.{CheckFault}
use Rattle.pool_check.specs.declared.CheckFault.TheVariants as check
use Rattle.pool_rest.specs.declared.standing.FindFault.{FindFault}
use Rattle.pool_rest.specs.declared.standing.FindFault.TheVariants as finding
use Rattle.assembler.specs.declared.refusal.Refusal.{Refusal}
use Rattle.assembler.specs.declared.refusal.Refusal.TheVariants.{NoPool, TwoPools, Absent, Damaged, TooFew, DirtyDegraded, BadVolume, Memory}

abbrev pub by_finding : FindFault → Refusal
by_finding finding.NoPool = NoPool
by_finding finding.TwoPools = TwoPools
by_finding finding.Memory = Memory

abbrev pub by_check : CheckFault → Refusal
by_check (check.Absent count) = Absent count
by_check (check.Damaged place part) = Damaged place part
by_check (check.TooFew array) = TooFew array
by_check (check.DirtyDegraded array) = DirtyDegraded array

abbrev pub by_volume : VolumeFault → Refusal
by_volume (volume.BadVolume array) = BadVolume array
by_volume volume.Memory = Memory

-- a refusal of the disks, before the arrays are a rack and gates are closed
abbrev pub is_early : Refusal → Bool
is_early NoPool = true
is_early TwoPools = true
is_early (Absent count) = true
is_early (Damaged place part) = true
is_early (TooFew array) = true
is_early (DirtyDegraded array) = true
is_early (BadVolume array) = false
is_early Memory = false

-- ---- by the pool that the disks make

-- the meaning's refusal that it says, want of memory apart
abbrev pub meant_by : Refusal → Option meaning.Refusal
meant_by NoPool = Some meaning.no_pool
meant_by TwoPools = Some meaning.two_pools
meant_by (Absent count) = Some (meaning.absent count)
meant_by (Damaged place part) = Some (meaning.damaged place (part_by part))
meant_by (TooFew array) = Some (meaning.too_few array)
meant_by (DirtyDegraded array) = Some (meaning.dirty_degraded array)
meant_by (BadVolume array) = Some (meaning.bad_volume array)
meant_by Memory = None

-- the disks of the places, by what was read of the disks, but for places that have gone
abbrev pub seats_left : List Known → State → List ℕ → Seats
seats_left known s gone place = if nat_lt place 16 && not (names gone place) then seat_by s known place else None

-- The first refusal of a pool's drives, where the log of one place isn't well formed: or else of that log, if the place has no disk any more.
abbrev pub refused_left : Option ℕ → Found → Option meaning.Refusal
refused_left bad f = option_or (refused_with (is_well bad) None f) (option_map (λ place. meaning.damaged place meaning.in_log) bad)

-- The drives didn't pass their check, by what was read of them: a place has lost its disk only where that refused a call, and the
-- refusal is the first one of the pool that the disks left make, or else the log that isn't well formed. Whatever they tell it says how
-- many are wanting, where two or more are.
pub record FailsCheck (x y : RackView) (known : List Known) (s : State) (gone : List ℕ) (bad : Option ℕ) (why : Refusal) : Type 0 where
  pub fault : CheckFault
  pub said : why ≡ by_check fault
  pub seats : Seats
  pub loses : Loses x y (seats_left known s gone) seats
  pub counts : CountsAbsent (absent_among s seats) fault
  pub exact : (o : Drives) → AreDrivesOf x seats o → AreCopied known seats o → refused_left bad (found_with s seats o) ≡ Some (refusal_by fault)
