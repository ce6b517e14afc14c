-- A pool as it stands on disks, before its pending record is replayed: what was read of it.
use Rattle.std.specs.Prelude.{◌≡◌, ℕ, ◌<◌, ◌≤◌, Bool, true, false, ◌&&◌, nat_lt, List, [], Option, Some, None, is_some}
use Rattle.rack.specs.Seen.{Image, RackView, Rose}
use Rattle.pool_state.specs.declared.contents.State.{State}
use Rattle.slice_rack.specs.Slices.{Slices, seat_of, first_of, sectors_of}
use Rattle.slice_rack.specs.Sliced.{sliced, slices_of}
use Rattle.array_image.specs.Places.{log_slice, state_sector}
use Rattle.array_image.specs.Record.{GateAt, pending_at, damaged_log}
use Rattle.array_image.specs.States.{is_current, current_places}
use Rattle.array_image.specs.Left.{reading}
use Rattle.pool_image.specs.Disks.{Disks, Identities, disks_of, newest}
use Rattle.pool_image.specs.Replay.{logs_of, standing, standing_by}
use Rattle.pool_image.specs.Meaning.{no_pool, two_pools, refusal_of}
use Rattle.log_laws.specs.View.{LogView, names, left_of, in_order}
use Rattle.log_laws.specs.Phases.{AreLogs}
use Rattle.log_laws.specs.Opening.{Finds}
use Rattle.pool_scan.specs.declared.Known.{Known}
use Rattle.pool_scan.specs.Scanning.{AllTold, IsScan, as_read, now_in}
use Rattle.pool_scan.specs.Choosing.{AreOf, has_pool_other_than, seat_by}
use Rattle.pool_rest.specs.Laying.{laid_sectors}
use Rattle.pool_rest.specs.declared.standing.FindFault.{FindFault}
use Rattle.pool_rest.specs.declared.standing.FindFault.TheVariants.{NoPool, TwoPools, Memory}

-- no sector of a disk is spent, and none will be
pub record IsLasting (a : RackView) : Type 0 where
  pub lasting : a.lasting
  pub unspent : (d s : ℕ) → a.spent d s ≡ false

-- The slices are the log slices of the disks that were taken for the current places, where these have all of them; `on` are the
-- places that have one.
pub record IsLaid (a : RackView) (known : List Known) (s : State) (t : Slices) (on : List ℕ) : Type 0 where
  pub seats : (p : ℕ) → p < 16 → seat_of t p ≡ seat_by s known p
  -- whatever the disks hold, they show of it what the meaning of images calls the log slices
  pub shows : (c : Image) (k u : ℕ) → k < 272 → sliced t c k u ≡ logs_of (disks_of a) (seat_by s known) c k u
  pub none : (k : ℕ) → 272 ≤ k → sectors_of t k ≡ 0
  pub beyond : (p : ℕ) → 16 ≤ p → seat_of t p ≡ None
  pub sectors : (k : ℕ) → k < 272 → sectors_of t k ≡ laid_sectors a known s k
  pub firsts : (k : ℕ) → 0 < sectors_of t k → first_of t k ≡ state_sector
  pub places : (p : ℕ) → names on p ≡ (is_current s p && nat_lt 0 (sectors_of t (log_slice p)))
  pub whole : AreLogs (sectors_of t) on

-- The state is the newest of what was read.
pub record IsNewest (a b : RackView) (known : List Known) (s : State) : Type 0 where
  pub scan : IsScan a b known
  pub newest : AllTold a → newest (disks_of a) (as_read a known) ≡ Some s

-- No copy that was read is of another pool than the state.
abbrev pub IsOnePool : List Known → State → Type 0
IsOnePool known s =
    (disks : Disks) (identities : Identities) → AreOf disks identities known → has_pool_other_than s.pool.0 disks identities ≡ false

-- What was found of the pending record on these slices; `gone` are the places that refused a call in it.
pub record HasLooked (a b : RackView) (t : Slices) (on gone : List ℕ) (m : LogView) (is_pending : Bool) (damaged : Option ℕ) : Type 0 where
  pub ordered : gone ≡ in_order gone
  pub cause :
      (p : ℕ) → names gone p ≡ true
      → (names on p ≡ true) × Rose ((slices_of t a).faults (log_slice p)) ((slices_of t b).faults (log_slice p))
  pub added : m.added ≡ []
  pub lent : m.is_lent ≡ true
  pub finds : AllTold a → IsLasting a → Finds m on (left_of on gone) is_pending damaged (reading (slices_of t a))

-- What was found of the pending record on these slices is what they hold now, and no place was passed over.
abbrev pub FindsAll : RackView → Slices → List ℕ → LogView → Bool → Option ℕ → Type 0
FindsAll b t on m is_pending damaged = Finds m on (left_of on []) is_pending damaged (reading (slices_of t b))

-- What was found of the pending record is what these slices hold now, but for places that were passed over: the disk of each refused a call.
pub record FindsLeft (a b : RackView) (known : List Known) (s : State) (t : Slices) (on : List ℕ) (m : LogView) (is_pending : Bool) (damaged : Option ℕ) : Type 0 where
  pub passed : List ℕ
  pub cause : (p d : ℕ) → names passed p ≡ true → seat_by s known p ≡ Some d → Rose (a.faults d) (b.faults d)
  pub finds : AllTold a → IsLasting a → Finds m on (left_of on passed) is_pending damaged (reading (slices_of t b))

-- By the meaning of images, where no disk refused a call: the pool stands so on what the disks hold, the slices show its log
-- slices, and the log has the record that is pending there.
pub record StandsAs (a : RackView) (s : State) (t : Slices) (m : LogView) (is_pending : Bool) (damaged : Option ℕ) : Type 0 where
  pub stands : standing (disks_of a) (now_in a) ≡ Some (standing_by (disks_of a) (now_in a) s)
  pub logs : (k u : ℕ) → k < 272 → reading (slices_of t a) k u ≡ (standing_by (disks_of a) (now_in a) s).logs k u
  pub targets : IsLasting a → m.pending ≡ (standing_by (disks_of a) (now_in a) s).targets
  pub pending : IsLasting a → is_pending ≡ is_some (pending_at (current_places s) (standing_by (disks_of a) (now_in a) s).logs)
  pub number :
      IsLasting a → (g : GateAt) → pending_at (current_places s) (standing_by (disks_of a) (now_in a) s).logs ≡ Some g → g.gate.number ≡ m.number
  pub damaged_is : IsLasting a → damaged ≡ damaged_log (current_places s) (standing_by (disks_of a) (now_in a) s).logs

-- the disks as they are at the end, with the faults that they had at the start: what rose since then counts
abbrev pub since : RackView → RackView → RackView
since a b = record b { faults = a.faults }

-- and no pool is found where the meaning has this refusal
abbrev pub IsMeant : RackView → FindFault → Type 0
IsMeant a NoPool = refusal_of (disks_of a) (now_in a) ≡ Some no_pool
IsMeant a TwoPools = refusal_of (disks_of a) (now_in a) ≡ Some two_pools
IsMeant a Memory = Unit {0}

-- why no pool was found: by what was read of the disks
abbrev pub IsCause : RackView → RackView → FindFault → Type 0
IsCause a b NoPool = (known : List Known) × IsScan a b known × (AllTold a → newest (disks_of a) (as_read a known) ≡ None)
IsCause a b TwoPools =
    (known : List Known) × IsScan a b known
    × (AllTold a → (s : State) × (newest (disks_of a) (as_read a known) ≡ Some s) × (has_pool_other_than s.pool.0 (disks_of a) (as_read a known) ≡ true))
IsCause a b Memory = Unit {0}
