-- The volume that is opened on the arrays of a pool.
use Rattle.std.specs.Prelude.{◌≡◌, ◌⊎◌, ◌&&◌, ℕ, ◌+◌, ◌*◌, ◌<◌, true, false, not, List}
use Rattle.rack.specs.Values.{MayLeave}
use Rattle.rack.specs.Seen.{RackView}
use Rattle.rack.specs.Sequences.{OnlyReads}
use Rattle.pool_state.specs.declared.contents.State.{State}
use Rattle.array_image.specs.States.{is_current}
use Rattle.log_laws.specs.View.{names}
use Rattle.lvm_group.specs.Brought.{BringsUp}
use Rattle.lvm_group.specs.Opening.{IsBadVolume, Opens}
use Rattle.lvm_group.specs.Runs.{Linear}
use Rattle.lvm_group.specs.Volume.{most_opened}
use Rattle.pool_image.specs.Meaning.{Volume}
use Rattle.raid_rack.specs.declared.arrays.RaidRack.{RaidRack}
use Rattle.array_model.specs.View.{sectors_of}
use Rattle.raid_laws.specs.Raid.{Raid, is_used_up, live_of}
use Rattle.raid_rack.specs.AllRuns.{AreCalls, AreRuns, Spares}
use Rattle.raid_laws.specs.Agreeing.{MakesAgree}
use Rattle.raid_laws.specs.Moves.{RaisesBy}
use Rattle.raid_rack.specs.RaidRack.{IsFit, KeepsRack, arrays_in, raid_in, raid_seen, slices_in, slices_seen, written_in}
use Rattle.slice_rack.specs.SliceRack.{below_of}
use Rattle.assembler.specs.declared.refusal.Refusal.{Refusal}
use Rattle.assembler.specs.declared.refusal.Refusal.TheVariants.{BadVolume, Memory}

-- The superblocks of each array were made to agree where one had been written; else nothing was called. No value came or went.
pub record Agrees {R : Type 0} (seen : R → RackView) (runs : R → R → Type 0) (x y : RaidRack R) : Type 0 where
  pub kept : AreCalls seen runs x y
  pub values : KeepsRack (raid_seen seen x) (raid_seen seen y)
  pub supers : ((y ≡ x) × ((n : ℕ) → written_in x n ≡ false)) ⊎ MakesAgree (raid_in x) (raid_in y) (slices_seen seen x) (slices_seen seen y)
  pub raises : RaisesBy 18 (raid_in x) (raid_in y)

-- A volume was opened on these arrays, by what was read of them, and their texts were brought up to it: the arrays were `mid` then. After
-- that their superblocks were made to agree.
pub record OpensVolume {R : Type 0} (seen : R → RackView) (runs : R → R → Type 0) (x y : RaidRack R) (l : Linear) (seqno : ℕ) : Type 0 where
  pub mid : RaidRack R
  pub opens : Opens (raid_in x).state.pool.0 (raid_in x).state.extent (raid_in x).state.joined (raid_seen seen x) (raid_seen seen mid) l seqno
  pub brings : BringsUp (raid_in x).state.pool.0 (raid_in x).state.joined l seqno opens.runs.group (raid_seen seen x) (raid_seen seen mid)
  pub early : AreRuns seen runs x mid
  pub fit : IsFit (arrays_in mid) (slices_seen seen mid)
  pub agrees : Agrees seen runs mid y
  pub kept : AreCalls seen runs x y
  pub unused : is_used_up (raid_in y) ≡ false
  -- each call of an array raises its numbers by 18 at most, and so does the making agree
  pub raises : RaisesBy (18 * (most_opened (raid_in x).state.joined + 1)) (raid_in x) (raid_in y)

-- Nothing was written on arrays, which were y then, and numbers aren't used up. Where no drive refused a call, the slices of those that hadn't
-- been written hold what they held.
pub record AreStill {R : Type 0} (seen : R → RackView) (x y : RaidRack R) : Type 0 where
  pub reads : OnlyReads (raid_seen seen x) (raid_seen seen y)
  pub fit : IsFit (arrays_in y) (slices_seen seen y)
  pub unwritten : (n : ℕ) → written_in y n ≡ written_in x n
  pub spares : Spares (written_in y) (slices_seen seen x) (slices_seen seen y)
  pub unused : is_used_up (raid_in y) ≡ false

-- No memory could be had, and nothing was written; or numbers are used up.
abbrev pub IsShort : {R : Type 0} → (R → RackView) → RaidRack R → RaidRack R → Type 0
IsShort seen x y = AreStill seen x y ⊎ (is_used_up (raid_in y) ≡ true)

-- An array is bad, by what was read of the arrays, and nothing was written on them.
pub record HasBadVolume {R : Type 0} (seen : R → RackView) (x y : RaidRack R) (array : ℕ) : Type 0 where
  pub still : AreStill seen x y
  pub bad : IsBadVolume (raid_in x).state.pool.0 (raid_in x).state.extent (raid_in x).state.joined (raid_seen seen x) (raid_seen seen y) array

-- No volume was opened: no memory could be had, or numbers are used up, or an array is bad. The arrays were `last` then, over the rack that is
-- given back.
pub record RefusesVolume {R : Type 0} (seen : R → RackView) (runs : R → R → Type 0) (x : RaidRack R) (rack : R) (why : Refusal) : Type 0 where
  pub last : RaidRack R
  pub back : below_of (slices_in last) ≡ rack
  pub cause : ((why ≡ Memory) × IsShort seen x last) ⊎ ((array : ℕ) × (why ≡ BadVolume array) × HasBadVolume seen x last array)
  pub kept : AreCalls seen runs x last

-- A rack's one disk is a volume: of its size, and each sector that isn't spent holds what the volume does and nothing else.
pub record HoldsVolume (x : RackView) (v : Volume) : Type 0 where
  pub sectors : x.sectors 0 ≡ v.sectors
  pub contents : (s : ℕ) (u : List ℕ) → s < v.sectors → x.spent 0 s ≡ false → MayLeave (x.held 0 s) u → u ≡ v.contents s

-- no sector of the arrays that are ready for the volume is spent
abbrev pub AllLive : Raid → Type 0
AllLive v = (n y : ℕ) → n < v.state.joined → y < sectors_of (v.arrays n) → live_of v n y

-- A rack of arrays after an opening in which no disk refused a call: those current places alone are marked missing that were absent, and
-- no sector is spent unless numbers are used up.
pub record MarksAbsent (s : State) (absent : List ℕ) (v : Raid) : Type 0 where
  pub marks : (p : ℕ) → is_current v.state p ≡ (is_current s p && not (names absent p))
  pub live : is_used_up v ≡ false → AllLive v
