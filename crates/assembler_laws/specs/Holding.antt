-- What a pool's arrays hold where its disks are told.
use Rattle.std.specs.Prelude.{◌≡◌, ◌⊎◌, ℕ, ◌<◌, ◌≤◌, ◌&&◌, nat_lt, Bool, false, List, [], length, slice_get, Option, Some, None}
use Rattle.std.specs.Option.{option_map_or}
use Rattle.rack.specs.Values.{MayLeave, Values, only}
use Rattle.rack.specs.Seen.{Image, RackView}
use Rattle.rack.specs.Moments.{Leaves}
use Rattle.slice_rack.specs.Slices.{Slices, seat_of, sectors_of}
use Rattle.slice_rack.specs.Sliced.{slices_of as slices_seen}
use Rattle.md_super.specs.declared.superblock.Super.{Super}
use Rattle.pool_state.specs.declared.contents.State.{State}
use Rattle.array_image.specs.Places.{log_slice}
use Rattle.array_image.specs.States.{is_current}
use Rattle.array_image.specs.Arrays.{replayed}
use Rattle.array_image.specs.Left.{IsInside, IsLeft, reading}
use Rattle.log_laws.specs.View.{LogView, left_of, names}
use Rattle.lvm_group.specs.Runs.{data_start}
use Rattle.log_laws.specs.Opening.{Finds}
use Rattle.pool_image.specs.Disks.{disks_of, identities_of, seat_of as pool_seat}
use Rattle.pool_image.specs.Drives.{Found, found}
use Rattle.pool_image.specs.Meaning.{array_sectors, arrays_held, super_at, truth_of}
use Rattle.pool_scan.specs.declared.Known.{Known}
use Rattle.pool_scan.specs.Choosing.{AreOf}
use Rattle.pool_scan.specs.Scanning.{AllTold, now_in}
use Rattle.pool_model.specs.Left.{LeavesClean}
use Rattle.pool_model.specs.Pools.{IsSoundPool}
use Rattle.pool_rest.specs.Standing.{IsLasting}
use Rattle.pool_rest.specs.Resting.{AreSectors, AreSingle, StandsNow}
use Rattle.pool_check.specs.Drives.{Drives}
use Rattle.array_core.specs.TruthHeld.{HoldTruth}
use Rattle.raid_laws.specs.Agreeing.{SupersAgree}
use Rattle.raid_laws.specs.Raid.{Raid, IsTracked, held_in, is_failed, live_of, spent_of}
use Rattle.array_image.specs.SoundArray.{first_unsynced}
use Rattle.array_model.specs.declared.Seat.TheVariants.{Missing}
use Rattle.array_model.specs.View.{View, HasGeometry, sectors_of as sectors_in}
use Rattle.array_core.specs.Opening.{seat_by}
use Rattle.array_core.specs.Slots.{place_by}
use Rattle.raid_laws.specs.Book.{OnlyMarksSince}
use Rattle.raid_laws.specs.Marking.{SaysBetween}

-- Disks are told, none of their sectors is spent or will be, and each has one value, of 512 bytes.
pub record AreSteady (x : RackView) : Type 0 where
  pub told : AllTold x
  pub lasts : IsLasting x
  pub single : AreSingle x
  pub sized : AreSectors x

-- The pool of these disks: its state and its seats are those of the run, and its drives hold and say what they read as.
pub record IsPoolOn (s : State) (t : Slices) (x : RackView) (f : Found) : Type 0 where
  pub state : f.state ≡ s
  pub seats : (p : ℕ) → f.seats p ≡ seat_of t p
  pub chosen : (p : ℕ) → f.seats p ≡ pool_seat f.state f.disks f.identities p
  pub disks : f.disks ≡ disks_of x
  pub contents : (p d u : ℕ) → f.seats p ≡ Some d → u < x.sectors d → f.contents d u ≡ (x.held d u).current
  pub identities : (p d : ℕ) → f.seats p ≡ Some d → f.identities d ≡ identities_of f.disks f.contents d

-- The log is that of the places that have a log slice: no log is damaged, and nothing is pending.
pub record IsIdle (s : State) (t : Slices) (x : RackView) (l : LogView) : Type 0 where
  pub on : List ℕ
  pub places : (p : ℕ) → names on p ≡ (is_current s p && nat_lt 0 (sectors_of t (log_slice p)))
  pub is_pending : Bool
  pub finds : Finds l on (left_of on []) is_pending None (reading (slices_seen t x))
  pub none : l.pending ≡ []

-- what a pool's drives are, but for its state and its seats
abbrev pub drives_of : Found → Drives
drives_of f = record { disks = f.disks; before = f.before; contents = f.contents; identities = f.identities }

-- Disks that a pool is opened on: they are told, and hold this pool at rest, which is sound.
pub record HoldPool (s : State) (t : Slices) (x : RackView) (l : LogView) (f : Found) : Type 0 where
  pub steady : AreSteady x
  pub pool : IsPoolOn s t x f
  pub log : IsIdle s t x l
  pub sound : IsSoundPool f

-- Disks as they were brought to rest: they are told, their contents have this pool, which is sound, and nothing is pending there; the
-- scan and the log say what they hold.
pub record IsFoundOn (x : RackView) (known : List Known) (s : State) (t : Slices) (on : List ℕ) (l : LogView) (is_pending : Bool) (damaged : Option ℕ) (f : Found) : Type 0 where
  pub steady : AreSteady x
  pub found_is : found (disks_of x) (now_in x) ≡ Some f
  pub scan : AreOf (disks_of x) (identities_of (disks_of x) (now_in x)) known
  pub stands : StandsNow x s l is_pending damaged
  pub finds : Finds l on (left_of on []) is_pending damaged (reading (slices_seen t x))
  pub rested : is_pending ≡ false
  pub sound : IsSoundPool f

-- what the pool's contents give of an array
abbrev pub pool_values : Found → ℕ → ℕ → Values
pool_values f n y = only (arrays_held f n y)

-- The array of a number, of a truth: it has its members and its size, and those rows left to resync that it leaves. Each member that isn't missing
-- counts as far as its own superblock says.
pub record IsArrayOf (f : Found) (n : ℕ) (t : Super) (v : View) : Type 0 where
  pub geometry : HasGeometry t v.truth
  pub rows : v.resync ≡ first_unsynced t
  pub young : v.young ≡ false
  pub members :
      (k : ℕ) → k < t.raid_disks
      → (slice_get v.seats k ≡ Some Missing) ⊎ (slice_get v.seats k ≡ Some (option_map_or seat_by (super_at f n (place_by t k)) Missing))

-- Calls on slices a, which left arrays over slices b: marks alone may have come to the pool's state. Each array that is ready for the
-- volume is told and has the pool's sectors, of which each that can be had has one value, that of the pool's contents. At each moment
-- contents say so, by a state between the two. Afterwards the superblocks of each array agree.
pub record HoldsArrays (f : Found) (v : Raid) (a b : RackView) : Type 0 where
  pub after : OnlyMarksSince f.state v.state
  pub plan : v.state.plan ≡ f.state.plan
  pub told : (n : ℕ) → n < f.state.joined → IsTracked v b n
  pub arrays : (n : ℕ) (t : Super) → n < f.state.joined → truth_of f n ≡ Some t → IsArrayOf f n t (v.arrays n)
  pub sectors : (n : ℕ) → n < f.state.joined → sectors_in (v.arrays n) ≡ array_sectors f n
  pub values : (n y : ℕ) (u : List ℕ) → n < f.state.joined → live_of v n y → MayLeave (held_in v b n y) u → u ≡ arrays_held f n y
  -- the pool's own are whole sectors, with room for the volume's metadata
  pub whole : (n y : ℕ) → n < f.state.joined → length (arrays_held f n y) ≡ 512
  pub room : (n : ℕ) → n < f.state.joined → data_start ≤ array_sectors f n
  pub leaves :
      (n : ℕ) → n < f.state.joined → is_failed v n ≡ false → a.traced
      → Leaves a b (λ c. IsInside a.sectors c → SaysBetween f.state v.state n (pool_values f n) (spent_of v n) (replayed a.sectors c))
  -- the superblocks of each agree, durably
  pub agree : (n : ℕ) → n < f.state.joined → is_failed v n ≡ false → (r : Image) → IsLeft b r → SupersAgree v.state r n
  -- and say its truth
  pub truths : (n : ℕ) → n < f.state.joined → is_failed v n ≡ false → HoldTruth (v.arrays n) b
  -- and leave no row to resync where the pool's left none
  pub clean : (n : ℕ) → n < f.state.joined → is_failed v n ≡ false → (r : Image) → IsLeft b r → LeavesClean f v.state n r
