-- What each call of a rack does, between what the rack shows before it and after it.
use Rattle.std.specs.Prelude.{◌≡◌, ◌⊎◌, ℕ, List, true, false, Result, OnOk, OnErr, IfErr, IsOk}
use Rattle.rack.specs.declared.Gone.{Gone}
use Rattle.rack.specs.Values.{MayLeave, Keeps}
use Rattle.rack.specs.Seen.{RackView, IsLive, IsPick, Rose, SameRack, appended}
use Rattle.rack.specs.Moments.{Leaves}

-- a refusal comes only where that disk's faults rose, and on a steady rack only for a spent sector; an answer never
pub record HasCause (a b : RackView) (disk sector : ℕ) {X : Type 0} (result : Result X Gone) : Type 0 where
  pub served : OnOk result (b.spent disk sector ≡ false)
  pub gone : IfErr result (λ e. (e.disk ≡ disk) × Rose (a.faults disk) (b.faults disk))
  pub spent : a.steady → OnErr result (b.spent disk sector ≡ true)

-- no value comes, and no current value changes
pub record KeepsAll (a b : RackView) : Type 0 where
  pub held : (d s : ℕ) → IsLive a b d s → Keeps (a.held d s) (b.held d s)
  pub stops : a.traced → Leaves a b (IsPick a b a.held)

-- a read gives the current value
pub record Reads (a b : RackView) (disk sector : ℕ) (into : List ℕ) {X : Type 0} (result : Result X Gone)
    : Type 0 where
  pub stays : SameRack a b
  pub cause : HasCause a b disk sector result
  pub keeps : KeepsAll a b
  pub value : OnOk result (a.told disk → into ≡ (a.held disk sector).current)

-- a write appends its value; refused, it may have done so
pub record Writes (a b : RackView) (disk sector : ℕ) (from : List ℕ) {X : Type 0} (result : Result X Gone)
    : Type 0 where
  pub stays : SameRack a b
  pub cause : HasCause a b disk sector result
  pub stops : a.traced → Leaves a b (IsPick a b (appended a.held disk sector from))
  pub done :
      OnOk result ((d s : ℕ) → IsLive a b d s → Keeps (appended a.held disk sector from d s) (b.held d s))
  pub failed :
      OnErr
      result
      ((d s : ℕ)
      → IsLive a b d s
      → Keeps (a.held d s) (b.held d s) ⊎ Keeps (appended a.held disk sector from d s) (b.held d s))

-- a sync leaves the last value of each sector of its disk alone
pub record Syncs (a b : RackView) (disk : ℕ) {X : Type 0} (result : Result X Gone) : Type 0 where
  pub stays : SameRack a b
  pub gone : IfErr result (λ e. (e.disk ≡ disk) × Rose (a.faults disk) (b.faults disk))
  pub steady : a.steady → IsOk result
  pub keeps : KeepsAll a b
  pub done :
      OnOk
      result
      ((s : ℕ) (v : List ℕ)
      → IsLive a b disk s
      → MayLeave (b.held disk s) v
      → v ≡ (b.held disk s).current)
