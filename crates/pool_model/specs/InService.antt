-- What later moments go by of a pool: disks had it, or it is one that took a new drive in.
use Rattle.std.specs.Prelude.{◌≡◌, ℕ, ◌<◌, ◌≤◌, true, length, Some}
use Rattle.std.specs.Option.{option_map_or}
use Rattle.rack.specs.Seen.{Image, RackView}
use Rattle.slice_rack.specs.Slices.{Slices}
use Rattle.md_super.specs.declared.superblock.Super.{Super}
use Rattle.pool_state.specs.declared.contents.Copied.{Copied}
use Rattle.pool_state.specs.declared.contents.State.{State}
use Rattle.array_image.specs.States.{epoch_of, is_current}
use Rattle.array_image.specs.Supers.{is_named}
use Rattle.array_model.specs.View.{HasGeometry}
use Rattle.log_laws.specs.Kept.{IsNoLater}
use Rattle.pool_image.specs.Disks.{Identities, Identity, disks_of, stands_for}
use Rattle.pool_image.specs.Drives.{Found}
use Rattle.pool_image.specs.Meaning.{truth_of}
use Rattle.raid_laws.specs.Book.{OnlyMarksSince}
use Rattle.raid_laws.specs.Raid.{Raid}
use Rattle.pool_model.specs.Left.{NoStraySuperblockBy, AreElsewhere, IsPickOutsideSlices}
use Rattle.pool_model.specs.Pools.{AreSlicesOf}

-- the epoch by which a disk is taken
abbrev pub epoch_at : Identity → ℕ
epoch_at z = option_map_or epoch_of z.copied 0

-- The disk of a seat stands for its place. Of the disks without a seat that do so, those before it say earlier states than the pool's.
pub record HasSeat (f : Found) (p d : ℕ) : Type 0 where
  pub current : is_current f.state p ≡ true
  pub low : d < f.disks.count
  pub stands : stands_for f.state (f.identities d) ≡ Some p
  pub before :
      (q : ℕ) → q < d → ((r : ℕ) → f.seats r ≡ Some q → ⊥) → stands_for f.state (f.identities q) ≡ Some p
      → epoch_at (f.identities q) < f.state.epoch

-- No disk has a later state or another one of its epoch, each seated disk has its seat, and each array has a truth, which names its own place.
pub record IsOutset (f : Found) : Type 0 where
  pub epoch : 1 ≤ f.state.epoch
  pub places : length f.state.drives.items ≤ 16
  pub made : (1 ≤ f.state.made) × (f.state.made ≤ 16)
  pub joined : (1 ≤ f.state.joined) × (f.state.joined ≤ f.state.made)
  pub copies : (d : ℕ) (copy : Copied) → d < f.disks.count → (f.identities d).copied ≡ Some copy → IsNoLater f.state copy
  pub seated : (p d : ℕ) → f.seats p ≡ Some d → HasSeat f p d
  pub truths : (n : ℕ) → n < f.state.made → (u : Super) × (truth_of f n ≡ Some u)
  pub own : (n : ℕ) (u : Super) → n < f.state.made → truth_of f n ≡ Some u → is_named u u.dev_number ≡ true

-- Of this what doesn't go by what the disks say.
pub record IsArranged (f : Found) : Type 0 where
  pub epoch : 1 ≤ f.state.epoch
  pub places : length f.state.drives.items ≤ 16
  pub made : (1 ≤ f.state.made) × (f.state.made ≤ 16)
  pub joined : (1 ≤ f.state.joined) × (f.state.joined ≤ f.state.made)
  pub seated : (p d : ℕ) → f.seats p ≡ Some d → (is_current f.state p ≡ true) × (d < f.disks.count)
  pub truths : (n : ℕ) → n < f.state.made → (u : Super) × (truth_of f n ≡ Some u)
  pub own : (n : ℕ) (u : Super) → n < f.state.made → truth_of f n ≡ Some u → is_named u u.dev_number ≡ true

-- The disks say of the pool what it goes by: some identities by which it is an outset, and which are those of contents.
pub record IsSaid (f : Found) (i : Image) : Type 0 where
  pub identities : Identities
  pub outset : IsOutset (record f { identities = identities })
  pub elsewhere : AreElsewhere (record f { identities = identities }) i

-- Outside the slices the disks are as the pool goes by, whatever they may be left with: no superblock stands where it isn't to, on the drives that
-- are current by a state.
pub record HoldSaid (f : Found) (t : Slices) (s : State) (x : RackView) : Type 0 where
  pub said : (i : Image) → IsPickOutsideSlices t x i → IsSaid f i
  pub alone : (i : Image) → IsPickOutsideSlices t x i → NoStraySuperblockBy s f i

-- A pool by which the disks x and the book v go. Its slices lie as t has them, marks alone have come to its state, all its arrays are ready for
-- the volume, with the members and the sizes that they had, and outside the slices its disks say what it goes by.
pub record RunInvariant (f : Found) (t : Slices) (v : Raid) (x : RackView) : Type 0 where
  pub disks : f.disks ≡ disks_of x
  pub arranged : IsArranged f
  pub slices : AreSlicesOf f t
  pub after : OnlyMarksSince f.state v.state
  pub joined : f.state.joined ≡ f.state.made
  pub geometry : (n : ℕ) (u : Super) → n < f.state.made → truth_of f n ≡ Some u → HasGeometry u (v.arrays n).truth
  pub held : HoldSaid f t v.state x
