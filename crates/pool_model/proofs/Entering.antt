-- Each stop inside a call of a rack of arrays that takes a new drive in leaves contents that hold the pool without the drive, or the pool with it.
use Rattle.std.proofs.Common.{◌≡◌, ◌≢◌, ◌⊎◌, ℕ, ◌<◌, ◌≤◌, false, true, Some, refl, inl, inr}
use Rattle.rack.specs.Seen.{Image, RackView}
use Rattle.slice_rack.specs.Slices.{IsOrderly, Slices}
use Rattle.slice_rack.specs.Sliced.{IsInside, slices_of}
use Rattle.pool_state.specs.declared.contents.Plan.{Plan}
use Rattle.pool_state.specs.declared.contents.State.{State}
use Rattle.raid_laws.specs.Enlisting.{Enlists, enlisted}
use Rattle.raid_laws.specs.Losses.{has_other}
use Rattle.raid_laws.specs.Raid.{IsTracked, Raid, is_failed}
use Rattle.pool_image.specs.Disks.{disks_of}
use Rattle.pool_image.specs.Drives.{Found}
use Rattle.pool_model.specs.Laid.{HaveOtherIds}
use Rattle.pool_model.specs.Stopped.{RecoversInCall}
use Rattle.pool_model.specs.Taken.{taken, views_of}
use Rattle.pool_model.proofs.TakingEarly.{entering_early, entering_told}
use Rattle.pool_model.proofs.TakingLate.{IsTaking, taking_late}

-- s are the tables by which the pool goes, t those in which the place has no disk, and u those with the new one. The arrays are told when the call begins, and none is over
-- when it ends; a drive is left that the pool had.
module _ (f : Found) (s t u : Slices) (v w : Raid) (place disk units : ℕ) (plan : Plan) (a b : RackView) (is : IsTaking f s t u (views_of v) v place disk a) (orderly : IsOrderly t)
    (inside : IsInside t a) (room : 10273 ≤ a.sectors disk) (enlists : Enlists t u (views_of v) place disk units plan v w a b)
    (told : (n : ℕ) → n < f.state.made → IsTracked v (slices_of t a) n) (lasts : (n : ℕ) → n < f.state.made → is_failed w n ≡ false) (left : has_other w.state place ≡ true)
    (traced : a.traced) where
  abbrev next : State
  next = enlisted place units plan v.state

  apart : (p : ℕ) → p ≢ place → f.seats p ≡ Some disk → ⊥
  apart p other seat = (is.new.others p disk other seat).1 refl

  -- What it holds after a stop: the pool that there was, by the slices that were left or by those with the new drive's, or the pool with the drive.
  pub entering_amid : (k : ℕ) (i : Image) → a.clock < k → k ≤ b.clock → b.stops k i → (enlists.mid < k → HaveOtherIds f v.state place disk i)
      → (RecoversInCall f t v.state v.state i ⊎ RecoversInCall f u v.state v.state i) ⊎ RecoversInCall (taken f (disks_of a) place disk next) u next w.state i
  entering_amid k i since until stopped ids =
      elim (entering_early f s t v place disk a is.service is.lacks apart orderly inside is.tables is.opened room is.lasting traced u units plan w b is.new enlists told lasts left
      is.orderly is.inside k i since until stopped) [
        | inl before ↦ inl before
        | inr late ↦
            inr
            (taking_late f s t u (views_of v) v place disk a b is enlists.only w units enlists.mid plan traced left lasts
            (entering_told f s t v place disk a is.service is.lacks apart orderly inside is.tables is.opened room is.lasting traced u units plan w b is.new enlists told lasts left)
            (enlists.within traced).0 k i late.0 until stopped (ids late.0) late.1)
      ]
