-- Disks from which a pool is opened, and what an opening answers by what they mean.
use Rattle.std.specs.Prelude.{◌≡◌, ◌⊎◌, ◌+◌, ◌<◌, ◌≤◌, ◌&&◌, ℕ, ◌∷◌, [], Some, is_some}
use Rattle.rack.specs.Seen.{Image, IsPick, RackView}
use Rattle.rack.specs.Moments.{Leaves}
use Rattle.slice_rack.specs.Slices.{Slices}
use Rattle.slice_rack.specs.SliceRack.{below_of, tables}
use Rattle.array_image.specs.Left.{IsLeft}
use Rattle.array_image.specs.Record.{Gate, gate_of}
use Rattle.array_image.specs.States.{is_current}
use Rattle.md_super.specs.declared.superblock.Super.{Super}
use Rattle.pool_state.specs.declared.contents.State.{State}
use Rattle.lvm_group.specs.Runs.{Linear}
use Rattle.lvm_group.specs.Shown.{volume_of}
use Rattle.pool_image.specs.Alike.{drive_gate}
use Rattle.pool_image.specs.Disks.{disks_of}
use Rattle.pool_image.specs.Drives.{Found, found}
use Rattle.pool_image.specs.Meaning.{Volume, meaning, refusal_of, truth_of}
use Rattle.pool_image.specs.Sound.{HasSoundPlan, IsSoundList}
use Rattle.pool_check.specs.Settling.{KeepsTable}
use Rattle.pool_scan.specs.Scanning.{now_in}
use Rattle.pool_rest.specs.Moments.{BringsNoState, TakesLower}
use Rattle.pool_rest.specs.Resting.{IsIdle}
use Rattle.pool_rest.specs.SoundLogs.{HasSoundLogs}
use Rattle.array_core.specs.TruthHeld.{HoldTruth}
use Rattle.raid_rack.specs.declared.arrays.RaidRack.{RaidRack}
use Rattle.raid_laws.specs.Agreeing.{SupersAgree}
use Rattle.raid_laws.specs.Book.{OnlyMarksSince}
use Rattle.raid_laws.specs.Raid.{IsTracked, Raid}
use Rattle.raid_rack.specs.RaidRack.{raid_in, raid_seen, slices_in, slices_seen}
use Rattle.assembler.specs.declared.refusal.Refusal.{Refusal}
pub use Rattle.pool_model.specs.Grouped.{HaveOwnAreas}
use Rattle.pool_model.specs.Grouped.{HoldGroup, IsVolumeOf}
pub use Rattle.pool_model.specs.Left.{NoStraySuperblock}
use Rattle.pool_model.specs.Left.{AreElsewhere, RecoversSameVolume, IsPickOutsideSlices}
pub use Rattle.pool_model.specs.Openings.{HaveOnePool}
use Rattle.pool_model.specs.Openings.{RecoversInOpening, MayReplay}
use Rattle.pool_model.specs.Pools.{AreSlicesOf, IsSoundPool}
use Rattle.pool_model.specs.Reopening.{AreWholeSectors, HoldMeaning}
pub use Rattle.pool_model.specs.Stopped.{HaveStood, LieApart}
use Rattle.pool_model.specs.Stopped.{HaveTables}
use Rattle.assembler_laws.specs.Holding.{AreSteady, IsArrayOf}
use Rattle.assembler.specs.Refusing.{meant_by}
use Rattle.assembler_laws.specs.Moments.{GivesPool, HoldsAt, SaysVolume}
use Rattle.assembler_laws.specs.Raising.{most_opening}
use Rattle.assembler.specs.Volume.{AllLive, HoldsVolume}

-- Disks that hold a sound pool: they are told, each sector of them has one value, and by these the pool's logs, states and
-- superblocks agree. A drive may be absent, and parts of it damaged.
pub record HoldSound (x : RackView) (f : Found) : Type 0 where
  pub steady : AreSteady x
  pub found_is : found (disks_of x) (now_in x) ≡ Some f
  pub sound : IsSoundPool f
  pub logs : HasSoundLogs (disks_of x) (now_in x)

-- Targets land where a pool's slices are: by the rules on the list of drives and on the plan, or by the drives' tables alone.
abbrev pub TargetsLand : Found → Type 0
TargetsLand f = (IsSoundList f × HasSoundPlan f) ⊎ LieApart f

-- Nothing is pending on the disks of a pool, or a record whose targets land where the pool's slices are: by the rules on the list of drives
-- and on the plan, or by the drives' tables alone. It writes no state's sector, or else the drives had the state that stood, and those that it
-- takes in have gates of lower numbers.
abbrev pub MayStop : RackView → Found → Type 0
MayStop x f =
    IsIdle x
    ⊎ (TargetsLand f
    × (BringsNoState x ⊎ (HaveStood f × TakesLower x)))

-- At each moment from x to y what a stop leaves holds the pool f still, its arrays from a sector of theirs on, and targets land in it: where nothing was pending, or
-- a record that may be replayed, targets land where the pool's slices are, all its arrays are ready for the volume, and no superblock stands where a drive that is no member of an
-- array would have its slice.
abbrev pub StopsHold : RackView → RackView → Found → ℕ → Type 0
StopsHold x y f from =
    MayReplay (disks_of x) (now_in x) f → TargetsLand f → f.state.joined ≡ f.state.made → NoStraySuperblock f f.contents → x.traced
    → Leaves x y (RecoversInOpening f from)

-- And where the arrays have the pool's metadata areas it isn't refused, and means the volume that lies so on them, with what they hold: where it is in whole sectors.
abbrev pub StopsMean : RackView → RackView → Found → Linear → Type 0
StopsMean x y f l =
    f.state.joined ≡ f.state.made → HaveOwnAreas f → MayReplay (disks_of x) (now_in x) f → TargetsLand f → NoStraySuperblock f f.contents → x.traced
    → Leaves x y (λ i. AreWholeSectors f.disks i → HoldMeaning f l i)

-- a bound of the numbers of gates that a pool's drives have
abbrev pub HaveGatesUpTo : RackView → Found → ℕ → Type 0
HaveGatesUpTo x f most = (p d : ℕ) (g : Gate) → f.seats p ≡ Some d → gate_of (now_in x d drive_gate) ≡ Some g → g.number ≤ most

-- A volume that was opened means what the disks x do: it is the volume of the group of their pool, over the slices of its drives. Marks
-- alone have come to the pool's state; each array that is ready for the volume is told, and the one of the pool's superblocks, and no
-- sector of these is spent.
pub record IsMeantBy {R : Type 0} (seen : R → RackView) (x : RackView) (f : Found) (rack : RaidRack R) (l : Linear) : Type 0 where
  pub volume : Volume
  pub meant : meaning (disks_of x) (now_in x) ≡ Some (volume ∷ [])
  pub holds : HoldsVolume (volume_of l (raid_seen seen rack)) volume
  pub lies : IsVolumeOf f l
  pub slices : AreSlicesOf f (tables (slices_in rack))
  pub after : OnlyMarksSince f.state (raid_in rack).state
  -- its plan goes on
  pub plan : (raid_in rack).state.plan ≡ f.state.plan
  pub told : (n : ℕ) → n < f.state.joined → IsTracked (raid_in rack) (slices_seen seen rack) n
  pub arrays : (n : ℕ) (t : Super) → n < f.state.joined → truth_of f n ≡ Some t → IsArrayOf f n t ((raid_in rack).arrays n)
  pub live : AllLive (raid_in rack)
  pub one_pool : HaveOnePool f
  -- where all arrays are ready for the volume, and have the pool's metadata areas, they hold its group, whatever they may be left with
  pub group : f.state.joined ≡ f.state.made → HaveOwnAreas f → HoldGroup (raid_in rack) l (slices_seen seen rack)
  -- where targets land in the pool's slices a replay finds these by the drives' tables
  pub landing : TargetsLand f → HaveTables f
  -- outside the slices the disks have each drive's table, and other disks say what they said
  pub elsewhere : (i : Image) → IsPickOutsideSlices (tables (slices_in rack)) (seen (below_of (slices_in rack))) i → AreElsewhere f i
  -- and where no superblock of an array stood on a drive that is no member of it, none does
  pub alone : NoStraySuperblock f f.contents → (i : Image) → IsPickOutsideSlices (tables (slices_in rack)) (seen (below_of (slices_in rack))) i → NoStraySuperblock f i
  -- what a stop leaves inside the opening holds that volume, where it may come amid the replay of the record that was pending
  pub moments : MayStop x f → x.traced → Leaves x (seen (below_of (slices_in rack))) (HoldsAt (tables (slices_in rack)) l volume)
  -- and where all arrays are ready for the volume, and have the pool's metadata areas, they say that volume at each moment
  pub says :
      f.state.joined ≡ f.state.made → HaveOwnAreas f → MayStop x f → x.traced
      → Leaves x (seen (below_of (slices_in rack))) (SaysVolume (raid_in rack) (tables (slices_in rack)) l)
  -- what a stop leaves inside the opening isn't refused, and means that volume by its own pool, as a later opening finds it
  pub reopens : StopsMean x (seen (below_of (slices_in rack))) f l
  -- the numbers that end rise by a bounded number
  pub epoch : (raid_in rack).state.epoch ≤ f.state.epoch + most_opening
  pub events : (n : ℕ) (t : Super) → n < f.state.joined → truth_of f n ≡ Some t → ((raid_in rack).arrays n).truth.events ≤ t.events + most_opening
  -- the log's above those of the gates that the drives had before
  pub number : (most : ℕ) → HaveGatesUpTo x f most → (raid_in rack).number ≤ most + most_opening

-- The superblocks of each array that is ready for the volume agree by this state, durably: in whatever a stop leaves of the slices, once it
-- is replayed.
abbrev pub HaveAgreed : Found → State → RackView → Type 0
HaveAgreed f s x = (n : ℕ) → n < f.state.joined → (r : Image) → IsLeft x r → SupersAgree s r n

-- They say its truth, durably.
abbrev pub SayTruths : Found → Raid → RackView → Type 0
SayTruths f v x = (n : ℕ) → n < f.state.joined → HoldTruth (v.arrays n) x

-- Disks of a pool that was refused once its arrays were made: by slices of its drives what a stop left since x, or leaves now, holds the arrays that the
-- pool had, and each drive has its partition table at every moment. Whatever the disks may be left with now holds a sound pool again, by a state to
-- which just the marks of drives that have no disk have come, and that pool has the same group, the same shapes of arrays, the same bad arrays and the same volumes; it is
-- refused as the disks were before. So it is where all arrays are ready for the volume, and no superblock stands where a drive that is no member of an array would have its slice.
pub record KeepsPool (x y : RackView) (f : Found) : Type 0 where
  pub slices : Slices
  pub are : AreSlicesOf f slices
  pub moments : MayStop x f → x.traced → Leaves x y (GivesPool f slices)
  pub tables : (p d : ℕ) → f.seats p ≡ Some d → KeepsTable x y d
  pub state : State
  pub after : OnlyMarksSince f.state state
  pub marks : (p : ℕ) → is_current state p ≡ (is_current f.state p && is_some (f.seats p))
  pub again : f.state.joined ≡ f.state.made → NoStraySuperblock f f.contents → (i : Image) → IsPick y y y.held i → RecoversSameVolume f slices state i
  -- and targets land in it, if they did in the pool that there was
  pub landing :
      TargetsLand f → (all : f.state.joined ≡ f.state.made) → (alone : NoStraySuperblock f f.contents) → (i : Image) → (pick : IsPick y y y.held i)
      → LieApart (again all alone i pick).again.still.now
  pub refusal :
      f.state.joined ≡ f.state.made → NoStraySuperblock f f.contents → (i : Image) → IsPick y y y.held i → refusal_of (disks_of y) i ≡ refusal_of (disks_of x) (now_in x)

-- the meaning of these disks is refused so
abbrev pub IsMeantRefusal : RackView → Refusal → Type 0
IsMeantRefusal x why = refusal_of (disks_of x) (now_in x) ≡ meant_by why
