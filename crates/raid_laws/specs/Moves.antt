-- Parts of a call of a rack of arrays: what they keep and change, whatever the rack below tells, and what they do to each array
-- that stands.
use Rattle.std.specs.Prelude.{◌≡◌, ◌⊎◌, ℕ, ◌+◌, ◌<◌, ◌≤◌, ◌^◌, [], Bool, true, false, ◌==◌, ◌&&◌, not, nat_lt, if◌then◌else◌, is_ok, List, length, slice_get, Some, option_map}
use Rattle.rack.specs.Values.{Values, Keeps}
use Rattle.rack.specs.Seen.{RackView, IsLive, SameRack}
use Rattle.rack.specs.Moments.{Leaves}
use Rattle.md_super.specs.Profile.{profiled}
use Rattle.pool_state.specs.Valid.{is_valid}
use Rattle.pool_state.specs.declared.contents.State.{State}
use Rattle.array_image.specs.Places.{log_slice, log_sectors, place_of, slice_of, super_sector, array_id}
use Rattle.array_image.specs.States.{is_current}
use Rattle.array_image.specs.Supers.{has_roles, has_whole_row}
use Rattle.array_image.specs.SoundArray.{first_unsynced}
use Rattle.array_image.specs.Arrays.{Member, Shape, replayed}
use Rattle.array_image.specs.Held.{Among, IsSynced}
use Rattle.array_image.specs.Left.{IsInside}
use Rattle.array_model.specs.View.{View, IsArray, IsSameArray, HasFault, has_gone, is_missing_seat, is_whole_array, place_at, rows_of, sectors_of, shape_of, spent_in}
use Rattle.array_model.specs.declared.Seat.TheVariants.{Missing}
use Rattle.array_model.specs.Members.{HasSlices}
use Rattle.array_model.specs.ArrayCalls.{IncludesSpent, appended_at}
use Rattle.array_core.specs.Staging.{HasRowRebuilds}
use Rattle.array_core.specs.Seats.{gone}
use Rattle.raid_laws.specs.Raid.{Raid, AreLive, gone_in, is_left, is_failed, InvariantInCall}
use Rattle.log_laws.specs.Saying.{HoldsCopies}
use Rattle.raid_laws.specs.Book.{OnlyMarksSince}
use Rattle.raid_laws.specs.Frames.{Frame, KeepsFrame, frame_of}
use Rattle.raid_laws.specs.Logs.{KeepsLogs}
use Rattle.raid_laws.specs.Marking.{TiedBetween}
use Rattle.raid_laws.specs.Reach.{KeepsReach, KeepsReachOn}
use Rattle.raid_laws.specs.Rows.{KeepsLacking, KeepsRows, LeavesLacking, LeavesRows}

-- ---- what holds at each point of a call, whatever the rack below tells

-- The truth of an array is a valid superblock of the pool, with the rows that are left to resync.
pub record IsOfPool (s : State) (v : View) : Type 0 where
  pub set : v.truth.set_id.0 ≡ array_id s.pool.0 v.number
  pub profile : is_ok (profiled v.truth s.extent) ≡ true
  pub events : 0 < v.truth.events
  pub events_end : v.truth.events < 2 ^ 63
  pub row : has_whole_row v.truth ≡ true
  pub roles : has_roles (length s.drives.items) v.truth ≡ true
  pub unsynced : first_unsynced v.truth ≤ v.resync
  -- it is whole, or its superblocks leave just the rows to resync that are left in it, or a member has gone whose drive isn't marked yet
  pub synced :
      v.young ≡ false → is_whole_array v ≡ false
      → (first_unsynced v.truth ≡ v.resync) ⊎ ((place : ℕ) × (is_current s place ≡ true) × (has_gone v place ≡ true))
  -- in a young array rows are zeroed, and none is left to resync
  pub zeroed : v.young ≡ true → rows_of v ≤ v.resync
  pub rows : HasRowRebuilds v

-- No mark of this run's writes stands on an array, and its superblocks leave just the rows to resync that are left in it, unless it is young.
pub record IsUnmarked (v : View) : Type 0 where
  pub mark : v.marked ≡ false
  pub rows : v.young ≡ false → first_unsynced v.truth ≡ v.resync

-- Array n: it has the slices of its members, and the members that are missing are those whose drive is marked, or has gone in a
-- call of this array.
pub record IsSeated (s : State) (n : ℕ) (v : View) (x : RackView) : Type 0 where
  pub is_array : IsArray v
  pub number : v.number ≡ n
  pub slices : HasSlices v x
  pub marks :
      (k : ℕ) → k < v.truth.raid_disks
      → option_map is_missing_seat (slice_get v.seats k) ≡ Some (not (is_current s (place_at v k) && not (has_gone v (place_at v k))))
  pub is_of_pool : IsOfPool s v

-- an array that this run has marked is whole, or a drive has gone that isn't marked yet
abbrev pub IsMarkedWhole : Raid → ℕ → Type 0
IsMarkedWhole v n =
    (v.arrays n).marked ≡ true
    → (is_whole_array (v.arrays n) ≡ true) ⊎ ((place : ℕ) × (is_current v.state place ≡ true) × (gone_in v place ≡ true))

-- the arrays of a pool over its slices
pub record IsSet (v : Raid) (x : RackView) : Type 0 where
  pub fit : x.fit
  pub lasting : x.lasting
  pub disks : x.disks ≡ 272
  pub few : length v.state.drives.items ≤ 16
  pub most : v.state.made ≤ 16
  pub valid : (place : ℕ) → place < length v.state.drives.items → is_valid v.state place ≡ true
  pub logs : (place : ℕ) → is_left v place ≡ true → x.sectors (log_slice place) ≡ log_sectors
  pub arrays : (n : ℕ) → n < v.state.made → IsSeated v.state n (v.arrays n) x
  pub marked : (n : ℕ) → n < v.state.made → IsMarkedWhole v n

-- nobody has gone who isn't heeded
abbrev pub IsHeeded : Raid → Type 0
IsHeeded v = (n : ℕ) → n < v.state.made → (v.arrays n).went ≡ []

-- whoever went is marked
abbrev pub AreMarked : Raid → Type 0
AreMarked v = (place : ℕ) → is_current v.state place ≡ true → gone_in v place ≡ false

-- ---- what holds of an array that stands

-- An array at some point of a call: its sectors hold vals. Where whoever went is marked, images go by its own shape.
pub record IsTrackedInCall (v : Raid) (x : RackView) (n : ℕ) (vals : ℕ → Values) (spent : ℕ → Bool) : Type 0 where
  pub durable : Shape
  pub stood : InvariantInCall v.state durable vals spent (gone_in v) v x n
  pub slices : AreLive v.state.made x
  pub marked : AreMarked v → durable ≡ shape_of (v.arrays n)
  -- and members on places that are left count by the run at least as far as by the shape that images go by
  pub noted : KeepsReachOn (is_left v) durable (shape_of (v.arrays n))

-- A part of a call, seen from an array: it gives its values at each moment, and stands after it with these.
pub record SubCall (v w : Raid) (a b : RackView) (n : ℕ) (vals now : ℕ → Values) (spent : ℕ → Bool) : Type 0 where
  pub holds : IsTrackedInCall v a n vals spent → IsTrackedInCall w b n now spent
  pub leaves :
      a.traced
      → Leaves a b (λ c. IsInside a.sectors c → (amid : IsTrackedInCall v a n vals spent)
      → TiedBetween v.state w.state amid.durable (holds amid).durable n now spent (replayed a.sectors c))
  -- no member counts less far after it by the marks that images go by then
  pub reach : (amid : IsTrackedInCall v a n vals spent) → KeepsReach w.state amid.durable (holds amid).durable
  -- and so do the log slices, where they hold all copies of the state before it
  pub logs : HoldsCopies v.state a → IsTrackedInCall v a n vals spent → KeepsLogs v.state w.state a b
  -- its size and its members' places stay
  pub frame : (g : Frame) → frame_of (v.arrays n).truth ≡ g → IsTrackedInCall v a n vals spent → KeepsFrame g n (w.arrays n) a b

-- the slices of drives that are marked missing stay as they are
abbrev pub KeepsMarked : Raid → RackView → RackView → Type 0
KeepsMarked v a b = (d t : ℕ) → IsLive a b d t → is_current v.state (place_of d) ≡ false → Keeps (a.held d t) (b.held d t)

-- An array as calls leave it that change nothing of it but whom it lost, its events, the rows that its truth leaves, and its mark.
pub record OnlyFailures (u w : View) : Type 0 where
  pub same : IsSameArray u w
  pub seats : (k : ℕ) → (slice_get w.seats k ≡ slice_get u.seats k) ⊎ (slice_get w.seats k ≡ Some Missing)

-- each of them
abbrev pub KeepsArrays : Raid → Raid → Type 0
KeepsArrays v w = (n : ℕ) → n < v.state.made → OnlyFailures (v.arrays n) (w.arrays n)

-- A part of a call that moves no value: reads, syncs, losses that are noted, and commits that mark them.
pub record ChangesNoData (v w : Raid) (a b : RackView) : Type 0 where
  pub stays : SameRack a b
  pub set : IsSet w b
  pub book : OnlyMarksSince v.state w.state
  pub leaves : a.traced → Leaves a b (λ c. Unit {0})
  pub number : v.number ≤ w.number
  pub events : (n : ℕ) → n < v.state.made → (v.arrays n).truth.events ≤ (w.arrays n).truth.events
  pub arrays : KeepsArrays v w
  pub plan : w.state.plan ≡ v.state.plan
  pub sectors : (n : ℕ) → sectors_of (w.arrays n) ≡ sectors_of (v.arrays n)
  -- whoever isn't left any more has a fault, and what is spent stays so
  pub left : (place : ℕ) → is_left w place ≡ true → is_left v place ≡ true
  pub cause : (place : ℕ) → is_left v place ≡ true → is_left w place ≡ false → HasFault a b place
  pub still : (n : ℕ) → n < v.state.made → is_failed w n ≡ false → is_failed v n ≡ false
  pub spent : (n y : ℕ) → n < v.state.made → spent_in (w.arrays n) y ≡ false → spent_in (v.arrays n) y ≡ false
  -- a member counts where it counted
  pub counted :
      (n : ℕ) (m : Member) (sector : ℕ) → n < v.state.made → Among m (shape_of (w.arrays n)).members → sector < m.reach → Among m (shape_of (v.arrays n)).members
  -- a drive that was marked isn't written again
  pub unwritten : KeepsMarked v a b
  -- members' data stays as it is
  pub kept : (d t : ℕ) → IsLive a b d t → (slice_of d ≡ 0 → ⊥) → (t ≡ super_sector → ⊥) → Keeps (a.held d t) (b.held d t)
  pub parts :
      (n : ℕ) (vals : ℕ → Values) (spent : ℕ → Bool) → n < v.state.joined → n < v.state.made → is_failed w n ≡ false → IncludesSpent (w.arrays n) spent
      → SubCall v w a b n vals vals spent
  pub rows :
      (n : ℕ) (vals : ℕ → Values) (spent : ℕ → Bool) → n < v.state.joined → n < v.state.made → is_failed w n ≡ false → IncludesSpent (w.arrays n) spent
      → IsTrackedInCall v a n vals spent → LeavesRows v a n → KeepsRows v w a b n
  pub lacking :
      (n : ℕ) (vals : ℕ → Values) (spent : ℕ → Bool) → n < v.state.joined → n < v.state.made → is_failed w n ≡ false → IncludesSpent (w.arrays n) spent
      → IsTrackedInCall v a n vals spent → LeavesLacking v a n → KeepsLacking v w a b n

-- the log's number, the epoch and each array's events rise by so many at most
pub record RaisesBy (k : ℕ) (v w : Raid) : Type 0 where
  pub number : w.number ≤ v.number + k
  pub epoch : w.state.epoch ≤ v.state.epoch + k
  pub events : (n : ℕ) → n < v.state.made → (w.arrays n).truth.events ≤ (v.arrays n).truth.events + k

-- Losses are mended: nobody went from then on, and who went is marked.
pub record Mends (v w : Raid) (a b : RackView) : Type 0 where
  pub moves : ChangesNoData v w a b
  pub heeded : IsHeeded w
  pub marked : (place : ℕ) → gone_in v place ≡ true → is_current w.state place ≡ false

-- A call of array n that syncs it: losses are mended, and its members have one value a sector.
pub record SyncsOne (v w : Raid) (a b : RackView) (n : ℕ) : Type 0 where
  pub moves : ChangesNoData v w a b
  pub heeded : IsHeeded w
  pub settled :
      (vals : ℕ → Values) (spent : ℕ → Bool) → n < v.state.joined → is_failed w n ≡ false → IncludesSpent (w.arrays n) spent
      → IsTrackedInCall v a n vals spent → IsSynced (shape_of (w.arrays n)) n b.held

-- A call of array n that reads a sector: losses are mended. Where the sector isn't spent after that, its current value was read.
pub record ReadsValue (v w : Raid) (a b : RackView) (n sector : ℕ) (into : List ℕ) : Type 0 where
  pub moves : ChangesNoData v w a b
  pub heeded : IsHeeded w
  pub value :
      (vals : ℕ → Values) (spent : ℕ → Bool) → n < v.state.joined → is_failed w n ≡ false → IncludesSpent (w.arrays n) spent → spent sector ≡ false
      → IsTrackedInCall v a n vals spent → into ≡ (vals sector).current

-- A part of a call that writes: `now` are each array's values after it, by those before.
pub record ChangesData (v w : Raid) (a b : RackView) (now : ℕ → (ℕ → Values) → ℕ → Values) : Type 0 where
  pub stays : SameRack a b
  pub set : IsSet w b
  pub book : OnlyMarksSince v.state w.state
  pub leaves : a.traced → Leaves a b (λ c. Unit {0})
  pub number : v.number ≤ w.number
  pub events : (n : ℕ) → n < v.state.made → (v.arrays n).truth.events ≤ (w.arrays n).truth.events
  pub sectors : (n : ℕ) → sectors_of (w.arrays n) ≡ sectors_of (v.arrays n)
  pub unwritten : KeepsMarked v a b
  -- what is spent stays so
  pub still : (n : ℕ) → n < v.state.made → is_failed w n ≡ false → is_failed v n ≡ false
  pub spent : (n y : ℕ) → n < v.state.made → spent_in (w.arrays n) y ≡ false → spent_in (v.arrays n) y ≡ false
  pub parts :
      (n : ℕ) (vals : ℕ → Values) (spent : ℕ → Bool) → n < v.state.joined → n < v.state.made → is_failed w n ≡ false → IncludesSpent (w.arrays n) spent
      → SubCall v w a b n vals (now n vals) spent
  -- arrays that aren't written
  pub rows :
      (n : ℕ) (vals : ℕ → Values) (spent : ℕ → Bool) → ((was : ℕ → Values) → now n was ≡ was) → n < v.state.joined → n < v.state.made → is_failed w n ≡ false
      → IncludesSpent (w.arrays n) spent → IsTrackedInCall v a n vals spent → LeavesRows v a n → KeepsRows v w a b n
  -- and all of them, where a member is lacking
  pub lacking :
      (n : ℕ) (vals : ℕ → Values) (spent : ℕ → Bool) → n < v.state.joined → n < v.state.made → is_failed w n ≡ false → IncludesSpent (w.arrays n) spent
      → IsTrackedInCall v a n vals spent → LeavesLacking v a n → KeepsLacking v w a b n

-- whoever isn't left any more has a fault
pub record AreCaused (v w : Raid) (a b : RackView) : Type 0 where
  pub left : (place : ℕ) → is_left w place ≡ true → is_left v place ≡ true
  pub cause : (place : ℕ) → is_left v place ≡ true → is_left w place ≡ false → HasFault a b place

-- the values of each array once a sector of array m is written
abbrev pub written_at : ℕ → ℕ → List ℕ → ℕ → (ℕ → Values) → ℕ → Values
written_at m sector from n vals = if n == m then appended_at sector from vals else vals

-- A call that writes a sector of array m: losses are mended.
pub record WritesOne (v w : Raid) (a b : RackView) (m sector : ℕ) (from : List ℕ) : Type 0 where
  pub brings : ChangesData v w a b (written_at m sector from)
  pub arrays : KeepsArrays v w
  pub plan : w.state.plan ≡ v.state.plan
  pub caused : AreCaused v w a b
  pub heeded : IsHeeded w

-- places are noted as lost in each array
abbrev pub noted_at : List ℕ → Raid → Raid
noted_at places v = record v { arrays = λ n. if nat_lt n v.state.made then gone places (v.arrays n) else v.arrays n }
