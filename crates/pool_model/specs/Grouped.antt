-- The volume group on the arrays of a pool, whatever these may be left with.
use Rattle.std.specs.Prelude.{◌≡◌, ℕ, ◌<◌, ◌≤◌, false, [], Some, None}
use Rattle.rack.specs.Seen.{Image, RackView}
use Rattle.rack.specs.Values.{MayLeave}
use Rattle.array_model.specs.View.{sectors_of}
use Rattle.lvm_group.specs.Images.{HasOwnArea, IsVolume}
use Rattle.lvm_group.specs.Runs.{Linear, data_start}
use Rattle.lvm_text.specs.declared.group.Group.{Group}
use Rattle.pool_image.specs.Drives.{Found}
use Rattle.pool_image.specs.Meaning.{arrays_held, group_of, joined_arrays}
use Rattle.pool_image.specs.Volumes.{first_bad, linear_of}
use Rattle.raid_laws.specs.Raid.{Raid, held_in, spent_of}

-- The volume of the meaning: that of the pool's group, which has no bad array.
pub record IsVolumeOf (f : Found) (l : Linear) : Type 0 where
  pub group : Group
  pub group_is : group_of f ≡ Some group
  pub sound : first_bad (joined_arrays f) ≡ None
  pub linear : l ≡ linear_of (joined_arrays f) group

-- The arrays of a pool that are ready for the volume have the pool's metadata area, before their first extent, where they have a label.
abbrev pub HaveOwnAreas : Found → Type 0
HaveOwnAreas f = (n : ℕ) → n < f.state.joined → HasOwnArea (arrays_held f n)

-- before the first extents no sector of the arrays that are ready for the volume is spent
abbrev pub AreHeadsLive : Raid → Type 0
AreHeadsLive v = (n s : ℕ) → n < v.state.joined → s < sectors_of (v.arrays n) → s < data_start → spent_of v n s ≡ false

-- The arrays that are ready for the volume hold the group of this one: contents say it that before their first extents have what may be left there, and nothing
-- past their ends, and there they have the pool's metadata areas.
pub record HoldGroup (v : Raid) (l : Linear) (x : RackView) : Type 0 where
  pub extent : l.extent ≡ v.state.extent
  pub arrays : l.arrays ≡ v.state.joined
  pub says :
      (c : Image)
      → ((n s : ℕ) → n < v.state.joined → s < sectors_of (v.arrays n) → s < data_start → MayLeave (held_in v x n s) (c n s))
      → ((n s : ℕ) → n < v.state.joined → sectors_of (v.arrays n) ≤ s → c n s ≡ [])
      → (seqno : ℕ) × IsVolume v.state.pool.0 v.state.joined l seqno (λ n. sectors_of (v.arrays n)) c
