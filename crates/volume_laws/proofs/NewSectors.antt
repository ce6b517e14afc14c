-- The sectors that a volume gets hold zeros where its arrays hold zeros behind the extents that it had.
use Rattle.std.proofs.Common.{◌≡◌, ℕ, ◌<◌, ◌≤◌, ◌||◌, false, refl, ap, ◌∙◌, lt-ltb, nat_lt, Bool}
use Rattle.rack.specs.Seen.{RackView}
use Rattle.array_model.specs.View.{sectors_of}
use Rattle.lvm_group.specs.Laws.{array_below, sector_below}
use Rattle.lvm_group.specs.Runs.{array_of, IsOrderly, Linear, sector_of, sectors_in}
use Rattle.lvm_group.specs.Shown.{IsInside, volume_of}
use Rattle.raid_laws.specs.Raid.{Raid, raid_of}
use Rattle.transition_laws.specs.Growth.{HasZerosFrom}
use Rattle.transition_laws.specs.Holds.{moved_to}
use Rattle.transition_laws.proofs.ReshapeSectors.{steady}
use Rattle.volume_laws.specs.Lengthening.{HoldsZeros}

-- What an array of a rack holds past a sector, which has all its sectors once it isn't young.
pub zeros_in_rack : (F : Type 0) (r : ℕ → ℕ) (v : Raid) (x : RackView) (n first : ℕ) → (v.arrays n).young ≡ false → HasZerosFrom v x n first → HoldsZeros (raid_of F r v x) n first
zeros_in_rack F r v x n first ready zeros y past inside alive =
    zeros y past
    (steady (v.arrays n) (sectors_of (v.arrays n)) (moved_to (v.arrays n).truth) ready refl refl y
    ∙ ap (λ (t : Bool). t || nat_lt y (moved_to (v.arrays n).truth)) (lt-ltb y (sectors_of (v.arrays n)) inside)) alive

-- Each array holds zeros from a sector of its own on, and the sectors that the volume gets lie there or behind it.
pub new_sectors_zero : (m : Linear) (b : RackView) (old : ℕ) (first : ℕ → ℕ) → IsOrderly m → IsInside m b
    → ((s : ℕ) → old ≤ s → s < sectors_in m → first (array_of m s) ≤ sector_of m s) → ((n : ℕ) → n < m.arrays → HoldsZeros b n (first n)) → HoldsZeros (volume_of m b) 0 old
new_sectors_zero m b old first orderly inside behind zeros s past within alive =
    zeros (array_of m s) (array_below m b s orderly inside within) (sector_of m s) (behind s past within) (sector_below m b s orderly inside within) alive
