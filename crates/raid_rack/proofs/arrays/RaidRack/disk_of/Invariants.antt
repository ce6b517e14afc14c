use Rattle.std.proofs.Common.{◌≡◌, ◌<◌, ℕ, Some}
use Rattle.slice_rack.specs.SliceRack.{tables}
use Rattle.slice_rack.specs.Slices.{seat_of as disk_at}
use Rattle.raid_rack.specs.RaidRack.{slices_in}
use Rattle.raid_rack.proofs.arrays.RaidRack.disk_of.Given as goal

-- no disk up to here is the place's
abbrev pub invariant-loop-disk : goal.invariant-loop-disk
invariant-loop-disk g l = (d : ℕ) → d < l.disk → disk_at (tables (slices_in l.self)) l.place ≡ Some d → ⊥
