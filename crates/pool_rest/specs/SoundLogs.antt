-- Logs as commits of a pool leave them: what the record that is pending there brings.
use Rattle.std.specs.Prelude.{◌≡◌, ◌⊎◌, ℕ, ◌<◌, ◌≤◌, Bool, true, false, List, Option, Ok, Some, None}
use Rattle.rack.specs.Seen.{Image, RackView}
use Rattle.rack.specs.Targets.{look}
use Rattle.pool_state.specs.declared.contents.State.{State}
use Rattle.pool_state.specs.Sector.{decoded}
use Rattle.array_image.specs.Places.{log_slice, arrays_first}
use Rattle.array_image.specs.Record.{Gate, GateAt, gate_of, gate_sector, pending_at, damaged_log}
use Rattle.array_image.specs.States.{is_current, current_places}
use Rattle.log_laws.specs.Saying.{PlaceJoins, PlaceStays}
use Rattle.pool_image.specs.Disks.{Disks, disks_of, identities_of, newest, seat_of}
use Rattle.pool_image.specs.Replay.{Standing, logs_of, standing, standing_by}
use Rattle.pool_image.specs.Alike.{drive_gate, is_bad_block, MeansTheSame}
use Rattle.pool_scan.specs.Scanning.{now_in}
use Rattle.pool_rest.specs.Moments.{IsNoneOrBelow}
use Rattle.pool_rest.specs.Resting.{seated_state}

-- a later state than the one that stands, of which the record has a copy for the place that it is read from, which stays
pub record IsLater (before : Standing) (s : State) : Type 0 where
  pub later : before.state.epoch < s.epoch
  pub source : (a : GateAt) → pending_at (current_places before.state) before.logs ≡ Some a → PlaceStays before.state s a.place
  pub copy :
      (a : GateAt) → pending_at (current_places before.state) before.logs ≡ Some a
      → (u : List ℕ) × (look before.targets (log_slice a.place) 0 ≡ Some u)

-- a sector is no gate, or one of a number up to this
pub record IsGateUpTo (number : ℕ) (block : List ℕ) : Type 0 where
  pub formed : is_bad_block block ≡ false
  pub low : (g : Gate) → gate_of block ≡ Some g → g.number ≤ number

-- The logs as they stand are well formed, and the record that is pending there may be one of a commit: the state that it brings is the
-- one that stands or a later one of the same pool, and its copies are of this state, each of its own place. A place that stays has one
-- disk by both states, and no place that joins has a gate of a greater number than the record's.
pub record IsSoundLog (disks : Disks) (c : Image) (before : Standing) (s : State) : Type 0 where
  pub whole : damaged_log (current_places before.state) before.logs ≡ None
  pub next : (s ≡ before.state) ⊎ IsLater before s
  pub pool : s.pool ≡ before.state.pool
  pub copies :
      (p : ℕ) (u : List ℕ) → look before.targets (log_slice p) 0 ≡ Some u → decoded u ≡ Ok (record { state = s; own = p })
  pub seats :
      (p : ℕ) → PlaceStays before.state s p → seat_of s disks before.identities p ≡ seat_of before.state disks before.identities p
  pub joining :
      (a : GateAt) (p d : ℕ) → pending_at (current_places before.state) before.logs ≡ Some a
      → PlaceJoins before.state s p → seat_of s disks before.identities p ≡ Some d → arrays_first ≤ disks.sectors d
      → IsGateUpTo a.gate.number (c d drive_gate)

-- contents whose logs are so
pub record HasSoundLogs (disks : Disks) (c : Image) : Type 0 where
  pub before : Standing
  pub stands : standing disks c ≡ Some before
  pub log : IsSoundLog disks c before (seated_state before.targets before.state)

-- What contents i of the disks show of contents c of log slices, where these stand for the state s and the state t is brought: s is the newest state
-- that a disk says, the drives of its current places that don't join hold these log slices, and the drive that a place had which joins with another one has no
-- gate, or one of a lower number than the pending record's. A place that stays has one disk by both states, and a place that joins has its gate on its disk.
pub record ShowLogs (disks : Disks) (i c : Image) (s t : State) : Type 0 where
  pub newest_is : newest disks (identities_of disks i) ≡ Some s
  pub logs :
      (p u : ℕ) → is_current s p ≡ true → (PlaceJoins s t p → ⊥)
      → logs_of disks (seat_of s disks (identities_of disks i)) i (log_slice p) u ≡ c (log_slice p) u
  pub former :
      (a : GateAt) (p : ℕ) → pending_at (current_places s) c ≡ Some a → is_current s p ≡ true → PlaceJoins s t p
      → IsNoneOrBelow a.gate.number (logs_of disks (seat_of s disks (identities_of disks i)) i (log_slice p) gate_sector)
  pub seats :
      (p : ℕ) → PlaceStays s t p → seat_of t disks (identities_of disks i) p ≡ seat_of s disks (identities_of disks i) p
  pub gates :
      (p d : ℕ) → PlaceJoins s t p → seat_of t disks (identities_of disks i) p ≡ Some d → arrays_first ≤ disks.sectors d
      → i d drive_gate ≡ c (log_slice p) gate_sector

-- A drive had a gate of this number: one that a place of the state has now.
pub record HadGate (a b : RackView) (s : State) (number : ℕ) : Type 0 where
  pub place : ℕ
  pub disk : ℕ
  pub seat : seat_of s (disks_of b) (identities_of (disks_of b) (now_in b)) place ≡ Some disk
  pub gate : Gate
  pub has : gate_of (now_in a disk drive_gate) ≡ Some gate
  pub number_is : gate.number ≡ number

-- Nothing is pending and no log is damaged: the state is the one that the record brought, and the disks mean what they meant. The gates of the state's drives have
-- no numbers but those that these drives' gates had.
pub record IsSettled (a b : RackView) (s : State) (is_pending : Bool) (damaged : Option ℕ) : Type 0 where
  pub idle : is_pending ≡ false
  pub whole : damaged ≡ None
  pub state : (before : Standing) → standing (disks_of a) (now_in a) ≡ Some before → s ≡ seated_state before.targets before.state
  pub none : pending_at (current_places s) (standing_by (disks_of b) (now_in b) s).logs ≡ None
  pub means : MeansTheSame (disks_of a) (now_in a) (now_in b)
  pub numbers :
      (p d : ℕ) (g : Gate) → seat_of s (disks_of b) (identities_of (disks_of b) (now_in b)) p ≡ Some d → drive_gate < b.sectors d
      → gate_of (now_in b d drive_gate) ≡ Some g → HadGate a b s g.number
