-- What a rack keeps whose disks may get longer.
use Rattle.std.specs.Prelude.{◌≡◌, ℕ, ◌<◌, ◌≤◌, true, false}
use Rattle.rack.specs.Values.{Keeps, MayLeave, only}
use Rattle.rack.specs.Seen.{RackView}
use Rattle.rack.specs.Moments.{Leaves}
use Rattle.parity.specs.Xor.{zeros}
use Rattle.array_model.specs.View.{sectors_of}
use Rattle.raid_laws.specs.Raid.{held_in, IsTracked, live_of, Raid}
use Rattle.transition_laws.specs.Holds.{has_sector}

-- Of the first disks, so many: one that is told stays told, and a sector that isn't spent in the end wasn't before. Each such sector that a told disk had keeps its values
-- after the calls, and a stop in them leaves one of these.
pub record KeepsOldSectors (count : ℕ) (a b : RackView) : Type 0 where
  pub told : (d : ℕ) → d < count → a.told d → b.told d
  pub spent : (d t : ℕ) → d < count → t < a.sectors d → b.spent d t ≡ false → a.spent d t ≡ false
  pub held : (d t : ℕ) → d < count → a.told d → t < a.sectors d → b.spent d t ≡ false → Keeps (a.held d t) (b.held d t)
  pub stops : a.traced → (d t : ℕ) → d < count → a.told d → t < a.sectors d → b.spent d t ≡ false → Leaves a b (λ c. MayLeave (a.held d t) (c d t))

-- array n holds nothing but zeros in each sector that it has from this one on, and that can be had
abbrev pub HasZerosFrom : Raid → RackView → (n first : ℕ) → Type 0
HasZerosFrom v x n first = (y : ℕ) → first ≤ y → has_sector (v.arrays n) y ≡ true → live_of v n y → Keeps (only (zeros 512)) (held_in v x n y)

-- Of the first arrays, so many: where one that is told holds zeros past its end, in sectors that a reshape has moved, it holds zeros after the calls in each sector that it
-- has then past that end.
abbrev pub GrowsByZeros : (count : ℕ) (v w : Raid) (a b : RackView) → Type 0
GrowsByZeros count v w a b = (n : ℕ) → n < count → IsTracked v a n → HasZerosFrom v a n (sectors_of (v.arrays n)) → HasZerosFrom w b n (sectors_of (v.arrays n))

-- no array of the volume is young
abbrev pub AreReady : Raid → Type 0
AreReady v = (n : ℕ) → n < v.state.joined → (v.arrays n).young ≡ false
