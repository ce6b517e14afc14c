-- A pool's arrays as an opening hands them over: what slices at rest hold, with the places that are absent noted in each array.
use Rattle.std.specs.Prelude.{◌≡◌, ℕ, ◌<◌, true, false}
use Rattle.rack.specs.Values.{Keeps}
use Rattle.rack.specs.Seen.{Image, RackView}
use Rattle.rack.specs.Moments.{Leaves}
use Rattle.array_image.specs.Arrays.{replayed}
use Rattle.array_image.specs.States.{is_current}
use Rattle.array_image.specs.Left.{IsInside, IsLeft}
use Rattle.log_laws.specs.Kept.{LogInvariant}
use Rattle.array_model.specs.Opened.{OpensOn}
use Rattle.raid_laws.specs.Agreeing.{AgreeLeaving, MakesAgree}
use Rattle.raid_laws.specs.Cleaning.{NoneFails}
use Rattle.raid_laws.specs.Raid.{Raid, AreLive, gone_in, held_in, is_failed, live_of, spent_of, IsTracked}
use Rattle.raid_laws.specs.Marking.{SaysBetween}

-- The slices hold these arrays: nothing is pending, the log is kept but for the places that are noted, one of the current places
-- is left, and each array that is ready for the volume is that of its superblocks.
pub record OpensRaid (v : Raid) (x : RackView) : Type 0 where
  pub few : v.state.joined < 17
  pub log : LogInvariant v.state v.number (gone_in v) x
  pub someone : (place : ℕ) × (is_current v.state place ≡ true) × (gone_in v place ≡ false)
  pub slices : AreLive v.state.made x
  pub numbers : (n : ℕ) → n < v.state.joined → (v.arrays n).number ≡ n
  pub arrays : (n : ℕ) → n < v.state.joined → OpensOn v.state (v.arrays n) x

-- Once the absent places are marked, each of these arrays is told, with the values that the slices held; and at each moment before
-- that contents say it by a state between.
pub record OpenedRaid (v w : Raid) (a b : RackView) : Type 0 where
  pub told : (n : ℕ) → n < v.state.joined → IsTracked w b n
  pub keeps : (n y : ℕ) → n < v.state.joined → live_of w n y → Keeps (held_in v a n y) (held_in w b n y)
  pub leaves :
      (n : ℕ) → n < v.state.joined → is_failed w n ≡ false → a.traced
      → Leaves a b (λ c. IsInside a.sectors c → SaysBetween v.state w.state n (held_in v a n) (spent_of w n) (replayed a.sectors c))
  -- and after superblocks were made to agree they do so
  pub agree :
      MakesAgree v w a b → NoneFails a b → (n : ℕ) → n < v.state.joined → is_failed w n ≡ false
      → (r : Image) → IsLeft b r → AgreeLeaving (v.arrays n) w.state r n
