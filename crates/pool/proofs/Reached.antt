-- Calls of a pool's arrays, reached through its volume.
use Rattle.rack.specs.Seen.{RackView, SameRack}
use Rattle.rack.specs.Shelf.{Shelf}
use Rattle.rack.specs.Calls.{KeepsAll}
use Rattle.lvm_group.proofs.Below.{keeps_volume, stays_volume}
use Rattle.lvm_group.specs.Volume.{linear}
use Rattle.raid_rack.specs.declared.arrays.RaidRack.{RaidRack}
use Rattle.raid_rack.specs.RaidRack.{KeepsRack, raid_seen}
use Rattle.pool.specs.declared.Pool.{Pool}
use Rattle.pool.specs.View.{arrays_of, view, volume}

-- a pool with other arrays below its volume
abbrev pub with_arrays : {R : Type 0} → Pool R → RaidRack R → Pool R
with_arrays pool raid = record { volume = record pool.volume { rack = raid } }

-- the volume stays where its arrays do
pub reached_stays : {R : Type 0} (seen : R → RackView) (shelf : R → Shelf) (p : Pool R) (raid : RaidRack R) → (volume (view seen shelf p)).fit
    → KeepsRack (raid_seen seen (arrays_of p)) (raid_seen seen raid) → SameRack (volume (view seen shelf p)) (volume (view seen shelf (with_arrays p raid)))
reached_stays seen shelf p raid fit keeps = stays_volume {l = linear p.volume} {a = raid_seen seen (arrays_of p)} {b = raid_seen seen raid} fit.1 keeps.stays

-- and keeps its values where they do
pub reached_keeps : {R : Type 0} (seen : R → RackView) (shelf : R → Shelf) (p : Pool R) (raid : RaidRack R) → (volume (view seen shelf p)).fit
    → KeepsRack (raid_seen seen (arrays_of p)) (raid_seen seen raid) → KeepsAll (volume (view seen shelf p)) (volume (view seen shelf (with_arrays p raid)))
reached_keeps seen shelf p raid fit keeps =
    keeps_volume {l = linear p.volume} {a = raid_seen seen (arrays_of p)} {b = raid_seen seen raid} p.volume.orderly
    (reached_stays seen shelf p raid fit keeps).fit.1 keeps.keeps
