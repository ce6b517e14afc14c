-- What calls in a row do to a rack.
use Rattle.std.specs.Prelude.{◌≡◌, ℕ, ◌<◌, List, Result, OnOk, IfErr, IsOk}
use Rattle.rack.specs.declared.Gone.{Gone}
use Rattle.rack.specs.Values.{MayLeave}
use Rattle.rack.specs.Seen.{RackView, IsLive, Rose, SameRack}
use Rattle.rack.specs.Calls.{KeepsAll}

-- the sectors before the first extents of the first arrays, so many, are told, and not spent at the end
abbrev pub AreTold : RackView → RackView → ℕ → Type 0
AreTold a b arrays = (d s : ℕ) → d < arrays → s < 2048 → IsLive a b d s

-- each sector of the first disks has one value
abbrev pub AreSingle : RackView → RackView → ℕ → Type 0
AreSingle a b disks =
    (disk sector : ℕ) (v : List ℕ) → disk < disks → IsLive a b disk sector → MayLeave (b.held disk sector) v → v ≡ (b.held disk sector).current

-- a sync of the first disks, so many; a refusal names one of them
pub record SyncsAll (a b : RackView) (disks : ℕ) {X : Type 0} (result : Result X Gone) : Type 0 where
  pub stays : SameRack a b
  pub gone : IfErr result (λ e. (e.disk < disks) × Rose (a.faults e.disk) (b.faults e.disk))
  pub steady : a.steady → IsOk result
  pub keeps : KeepsAll a b
  pub done : OnOk result (AreSingle a b disks)
