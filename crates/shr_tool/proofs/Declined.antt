-- A pool by which a run goes is one after a line that was declined, whether its disk is left out or nothing was laid on it.
use Rattle.std.proofs.Common.{◌≡◌, ℕ, ◌<◌, if◌then◌else◌, Bool, true, false, List, Option, Some, sym, ap, subst, inl, inr}
use Rattle.flat_array.specs.Array.{FlatArray}
use Rattle.pool_image.specs.Disks.{disks_of}
use Rattle.pool_image.specs.Drives.{Found}
use Rattle.pool_model.specs.Taken.{AreSerial, attached}
use Rattle.pool.specs.declared.replacing.GrowFault.{GrowFault}
use Rattle.pool.specs.Moment.{moment_of}
use Rattle.pool.specs.View.{View, book, spent_by, volume}
use Rattle.pool.specs.Volume.{VolumeIs, size_of}
use Rattle.shr_tool.specs.Events.{looks_at}
use Rattle.shr_tool.specs.Events.Event.{declined}
use Rattle.shr_tool.specs.Service.{GoesBy, GoesOn, IsFitDisk, IsLoneFor, Lone, StandsLone, pool_after}
use Rattle.shr_tool.specs.Timeline.{LineContract}
use Rattle.shr_tool.proofs.LeftOut.{stands_out}
use Rattle.shr_tool.proofs.Quiet.{stands_declined}
use Rattle.shr_tool.proofs.TurnedDown.{goes_then}

module _ {L : Type 0} {o : Option Lone} (x y : View) (place : ℕ) (name : List ℕ) (fault : GrowFault) (text : List ℕ) (b : FlatArray) (looks : looks_at fault ≡ true)
    (unspent : (d s : ℕ) → y.bay.spent d s ≡ false) (fit : (volume x).fit)
    (performs : LineContract x y (declined place name fault) text) (holds : VolumeIs x b) (some : (s : ℕ) × (s < size_of x) × (spent_by x.linear (book y) s ≡ false))
    (f : Found) (goes : GoesBy L o f x) (fits : IsFitDisk f (moment_of x) name)
    (lone : (l : Lone) → o ≡ Some l → IsLoneFor f l (moment_of x) (moment_of y) (declined place name fault)) where
  -- it stands alone after it as before
  stands_now : (l : Lone) → o ≡ Some l → StandsLone l (attached f (disks_of y.bay)) goes.tables y
  stands_now l so = elim (lone l so looks) [
    | inl out ↦ stands_out x y place name fault text b looks unspent fit performs holds some f goes fits l so out
    | inr nothing ↦ stands_declined x y place name fault text b looks unspent fit performs holds f goes l so nothing
  ]

  pub on_declined : GoesOn L o f (pool_after f (moment_of x) (moment_of y) (declined place name fault)) y
  on_declined = record {
    goes = subst (λ k. GoesBy L o k y) (sym pool_is) (goes_then x y place name fault text b looks unspent fit performs holds some f goes fits stands_now);
    serials = λ serial. by (looks_at fault) serial;
  }
    where
      pool_is : pool_after f (moment_of x) (moment_of y) (declined place name fault) ≡ attached f (disks_of y.bay)
      pool_is = ap (λ (c : Bool). if c then attached f (disks_of y.bay) else f) looks

      by : (c : Bool) → AreSerial f.state → AreSerial (if c then attached f (disks_of y.bay) else f).state
      by true serial = serial
      by false serial = serial
