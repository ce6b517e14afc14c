-- A current place gets another drive: it is vacated in memory alone, before a commit gives it that, over slices in which it has the new disk's already.
use Rattle.std.specs.Prelude.{◌≡◌, ◌≢◌, ℕ, ◌<◌, ◌&&◌, not, Bool, true, false, [], ◌∷◌, None}
use Rattle.rack.specs.Values.{MayLeave, Values}
use Rattle.rack.specs.Seen.{Image, IsLive, RackView}
use Rattle.pool_state.specs.declared.contents.State.{State}
use Rattle.array_image.specs.Arrays.{replayed}
use Rattle.array_image.specs.Held.{IsSynced}
use Rattle.array_image.specs.Left.{IsInside, Picks}
use Rattle.array_image.specs.Places.{log_slice, place_of}
use Rattle.array_image.specs.Record.{gate_sector}
use Rattle.array_image.specs.States.{is_current, id_of}
use Rattle.array_image.specs.Supers.{super_in}
use Rattle.array_model.specs.Says.{HoldsData}
use Rattle.array_model.specs.View.{place_at, shape_of}
use Rattle.array_core.specs.Seats.{losing}
use Rattle.log_laws.specs.Commits.{IsPendingYet}
use Rattle.log_laws.specs.Kept.{LogInvariant}
use Rattle.log_laws.specs.Standing.{IsAlike, IsWhole}
use Rattle.raid_laws.specs.Missing.{marked_from}
use Rattle.raid_laws.specs.Raid.{AreLive, IsWritten, Raid}

-- The state in which the drive of a place is marked missing, of the same epoch: it is in memory alone.
abbrev pub vacated_state : ℕ → State → State
vacated_state place s = record s { drives = record { items = marked_from (place ∷ []) 0 s.drives.items } }

-- The pool as if the drive of a place were marked missing already: its members are missing.
abbrev pub vacated : ℕ → Raid → Raid
vacated place v = record v { state = vacated_state place v.state; arrays = λ n. losing (place ∷ []) (v.arrays n) }

-- all slices but those of one place are the same, and those that the place has now can be called
pub record DiffersAt (place : ℕ) (x y : RackView) : Type 0 where
  pub sectors : (d : ℕ) → place_of d ≢ place → y.sectors d ≡ x.sectors d
  pub held : (d t : ℕ) → place_of d ≢ place → y.held d t ≡ x.held d t
  pub live : (d t : ℕ) → place_of d ≢ place → IsLive x x d t → IsLive y y d t
  pub own : (d t : ℕ) → place_of d ≡ place → t < y.sectors d → IsLive y y d t

-- What a commit that takes a drive in finds of array n, over slices that the drive has already. Images have the state s, by which the same places are
-- current as by the pool's, but for the place itself: there it may have another drive yet, and has gone then. Nothing is said of what images say of the array.
pub record FindsArray (s : State) (before : ℕ → Bool) (place : ℕ) (v : Raid) (x : RackView) (n : ℕ) (vals : ℕ → Values) (spent : ℕ → Bool) : Type 0 where
  pub epoch : s.epoch ≡ v.state.epoch
  pub pool : s.pool ≡ v.state.pool
  pub current : (p : ℕ) → p ≢ place → is_current s p ≡ is_current v.state p
  pub ids : (p : ℕ) → p ≢ place → id_of s p ≡ id_of v.state p
  pub nobody : (p : ℕ) → p ≢ place → before p ≡ false
  pub out : (is_current s place && not (before place)) ≡ false
  pub log : LogInvariant s v.number before x
  pub few : v.state.joined < 17
  pub written : IsWritten (v.arrays n)
  pub slices : AreLive v.state.made x
  pub members : HoldsData n (shape_of (v.arrays n)) (v.arrays n).resync vals spent x
  pub settled : IsSynced (shape_of (v.arrays n)) n x.held
  -- no other current place than its members' has a superblock of it
  pub alone :
      (c : Image) (p : ℕ) → Picks x c → p ≢ place → is_current v.state p ≡ true → ((k : ℕ) → k < (v.arrays n).truth.raid_disks → place_at (v.arrays n) k ≡ p → ⊥)
      → super_in v.state c n p ≡ None

-- Contents that a stop in that commit leaves while its record doesn't count: replayed they are as some that a stop before it might leave, and so are the copies of
-- states as they stand, and what is pending. No log is damaged, and the place's gate is as it was.
pub record IsFormerly (place : ℕ) (x : RackView) (c : Image) : Type 0 where
  pub before : Image
  pub picks : Picks x before
  pub alike : IsAlike (replayed x.sectors c) (replayed x.sectors before)
  pub yet : IsPendingYet x c
  pub whole : IsWhole c
  pub gate : IsLive x x (log_slice place) gate_sector → MayLeave (x.held (log_slice place) gate_sector) (c (log_slice place) gate_sector)

-- Contents of the slices before and of those after, which agree but for the place's. There those before have what the old disk may be left with.
pub record AgreesOff (place : ℕ) (x : RackView) (c e : Image) : Type 0 where
  pub same : (d t : ℕ) → place_of d ≢ place → c d t ≡ e d t
  pub own : (d t : ℕ) → place_of d ≡ place → IsLive x x d t → MayLeave (x.held d t) (c d t)
  pub inside : IsInside x.sectors c
