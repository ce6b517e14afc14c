-- What the disks of a pool hold once its pending record is replayed.
use Rattle.std.specs.Prelude.{◌≡◌, ◌≢◌, ◌⊎◌, ℕ, ◌+◌, ◌<◌, ◌≤◌, Bool, true, false, List, [], slice_get, Option, Some, is_some, unwrap_or}
use Rattle.std.specs.List.{filter_map}
use Rattle.rack.specs.Values.{IsSector, IsSingle, Keeps, MayLeave}
use Rattle.rack.specs.Seen.{Image, RackView, Rose}
use Rattle.rack.specs.Targets.{Target, put}
use Rattle.pool_state.specs.declared.contents.State.{State}
use Rattle.array_image.specs.Places.{state_sector, arrays_first}
use Rattle.array_image.specs.Record.{Gate, GateAt, gate_of, pending_at, damaged_log}
use Rattle.array_image.specs.States.{current_places}
use Rattle.pool_image.specs.Disks.{Disks, disks_of, identities_of, seat_of}
use Rattle.pool_image.specs.Replay.{Standing, standing, standing_by, brought_state, landed, written}
use Rattle.pool_image.specs.Alike.{drive_gate}
use Rattle.log_laws.specs.View.{LogView, names}
use Rattle.pool_scan.specs.declared.Known.{Known}
use Rattle.rack.specs.Sequences.{OnlyReads, WritesOnly}
use Rattle.pool_scan.specs.Scanning.{AllTold, IsScan, now_in}
use Rattle.pool_scan.specs.Choosing.{seat_by}
use Rattle.pool_rest.specs.declared.standing.FindFault.{FindFault}
use Rattle.pool_rest.specs.declared.standing.FindFault.TheVariants.{Memory}
use Rattle.pool_rest.specs.Standing.{IsLasting, since, IsCause}

-- a sector that a replay may write: of a drive of the state, in its log slice or in the arrays' part of its disk
pub record IsOfDrive (x : RackView) (known : List Known) (s : State) (d t : ℕ) (v : List ℕ) : Type 0 where
  pub place : ℕ
  pub seat : seat_by s known place ≡ Some d
  pub behind : state_sector ≤ t
  pub before : (t < arrays_first) ⊎ (t + 33 < x.sectors d)

-- each sector of a disk has one value
abbrev pub AreSingle : RackView → Type 0
AreSingle x = (d t : ℕ) → d < x.disks → t < x.sectors d → IsSingle (x.held d t)

-- each sector of a disk has the bytes of one
abbrev pub AreSectors : RackView → Type 0
AreSectors x = (d t : ℕ) → d < x.disks → t < x.sectors d → IsSector (x.held d t).current

-- a disk's gate is closed, durably
pub record LeavesShut (x : RackView) (d : ℕ) : Type 0 where
  pub number : ℕ
  pub each : (v : List ℕ) → MayLeave (x.held d drive_gate) v → gate_of v ≡ Some (record { is_open = false; number = number })
  pub single : IsSingle (x.held d drive_gate)
  pub sized : IsSector (x.held d drive_gate).current

-- a gate keeps its values, or is shut
abbrev pub KeepsGate : RackView → RackView → ℕ → Type 0
KeepsGate x y d = Keeps (x.held d drive_gate) (y.held d drive_gate) ⊎ LeavesShut y d

-- contents with targets written whose places are those of a state
abbrev pub replayed_on : Disks → State → List Target → Image → Image
replayed_on disks s xs c = put disks.sectors (filter_map (landed disks (identities_of disks c) (seat_of s disks (identities_of disks c))) xs) c

-- a gate is closed with this number, on a disk that has the same place by both states
pub record IsClosedOn (before s : State) (x y : RackView) (number d : ℕ) : Type 0 where
  pub place : ℕ
  pub was : seat_of before (disks_of x) (identities_of (disks_of x) (now_in x)) place ≡ Some d
  pub is : seat_of s (disks_of x) (identities_of (disks_of x) (now_in x)) place ≡ Some d
  pub room : arrays_first ≤ x.sectors d
  pub gate : Gate
  pub has : gate_of (now_in y d drive_gate) ≡ Some gate
  pub closed : gate.is_open ≡ false
  pub number_is : gate.number ≡ number

-- The targets are written where the drives have them, and all else is as it was but for gates, which may be closed with the log's number.
pub record IsReplayed (x y : RackView) (before s : State) (xs : List Target) (number : ℕ) : Type 0 where
  pub contents : (d t : ℕ) → d < x.disks → t < x.sectors d → t ≢ drive_gate → now_in y d t ≡ replayed_on (disks_of x) s xs (now_in x) d t
  pub single : (d t : ℕ) → d < x.disks → t < x.sectors d → t ≢ drive_gate → IsSingle (x.held d t) → IsSingle (y.held d t)
  pub no_gate : (d : ℕ) → d < x.disks → drive_gate < x.sectors d → replayed_on (disks_of x) s xs (now_in x) d drive_gate ≡ now_in x d drive_gate
  pub gates : (d : ℕ) → d < x.disks → drive_gate < x.sectors d → (now_in y d drive_gate ≡ now_in x d drive_gate) ⊎ IsClosedOn before s x y number d
  pub leaves : (d : ℕ) → d < x.disks → drive_gate < x.sectors d → KeepsGate x y d

-- The gate of a place that has the same disk by two states is closed with this number, where the disk has a log slice.
abbrev pub AreShut : RackView → RackView → List Known → State → State → ℕ → Type 0
AreShut x y known before s number =
    (p d : ℕ) → p < 16 → seat_by before known p ≡ Some d → seat_by s known p ≡ Some d → arrays_first ≤ x.sectors d
    → gate_of (now_in y d drive_gate) ≡ Some (record { is_open = false; number = number })

-- the disk of each place of a list refused a call
abbrev pub HaveCause : RackView → RackView → List Known → State → List ℕ → Type 0
HaveCause x y known s places = (p d : ℕ) → names places p ≡ true → seat_by s known p ≡ Some d → Rose (x.faults d) (y.faults d)

-- a disk refused a call of a scan
abbrev pub IsFlagged : List Known → ℕ → Type 0
IsFlagged known d = (k : Known) × (slice_get known d ≡ Some k) × (k.gone ≡ true)

-- one of some places has this disk
abbrev pub HasDisk : List Known → State → List ℕ → ℕ → Type 0
HasDisk known s places d = (p : ℕ) × (names places p ≡ true) × (seat_by s known p ≡ Some d)

-- a disk refused a call of a replay or before it
abbrev pub HasRefused : List Known → State → List ℕ → State → List ℕ → ℕ → Type 0
HasRefused known before gone s lost d = IsFlagged known d ⊎ (HasDisk known before gone d ⊎ HasDisk known s lost d)

-- a gate was closed that had been well formed: it is that of a place of the state from before, and has the number of the gate that the pending record was read from
pub record IsShutOn (before : Standing) (a b : RackView) (d : ℕ) : Type 0 where
  pub place : ℕ
  pub seat : seat_of before.state (disks_of a) before.identities place ≡ Some d
  pub room : arrays_first ≤ a.sectors d
  pub gate : Gate
  pub has : gate_of (now_in b d drive_gate) ≡ Some gate
  pub closed : gate.is_open ≡ false
  pub source : GateAt
  pub pends : pending_at (current_places before.state) before.logs ≡ Some source
  pub number_is : gate.number ≡ source.gate.number

-- The disks hold what they held with the pending record written, but for gates: none of them was opened, and none was mended.
pub record Rests (a b : RackView) (before : Standing) : Type 0 where
  pub contents : (d t : ℕ) → d < a.disks → t < a.sectors d → t ≢ drive_gate → now_in b d t ≡ written (disks_of a) before (now_in a) d t
  pub single : (d t : ℕ) → d < a.disks → t < a.sectors d → t ≢ drive_gate → IsSingle (a.held d t) → IsSingle (b.held d t)
  pub no_gate : (d : ℕ) → d < a.disks → drive_gate < a.sectors d → written (disks_of a) before (now_in a) d drive_gate ≡ now_in a d drive_gate
  pub gates : (d : ℕ) → d < a.disks → drive_gate < a.sectors d → (now_in b d drive_gate ≡ now_in a d drive_gate) ⊎ IsShutOn before a b d
  pub leaves : (d : ℕ) → d < a.disks → drive_gate < a.sectors d → KeepsGate a b d

-- The pool stands so on what the disks hold now: its newest state, the record that is pending there, and which log is damaged.
pub record StandsNow (b : RackView) (s : State) (m : LogView) (is_pending : Bool) (damaged : Option ℕ) : Type 0 where
  pub stands : standing (disks_of b) (now_in b) ≡ Some (standing_by (disks_of b) (now_in b) s)
  pub targets : m.pending ≡ (standing_by (disks_of b) (now_in b) s).targets
  pub pending : is_pending ≡ is_some (pending_at (current_places s) (standing_by (disks_of b) (now_in b) s).logs)
  pub damaged_is : damaged ≡ damaged_log (current_places s) (standing_by (disks_of b) (now_in b) s).logs

-- the state whose drives a pending record is for
abbrev pub seated_state : List Target → State → State
seated_state xs s = unwrap_or (brought_state xs) s

-- By the meaning of images: the pool stood so on what the disks held, and they hold it with its record written, but for gates.
pub record RestsSo (a b : RackView) : Type 0 where
  pub before : Standing
  pub stands : standing (disks_of a) (now_in a) ≡ Some before
  pub rests : Rests a b before

-- each sector of a disk has one value, of 512 bytes
pub record AreSteady (x : RackView) : Type 0 where
  pub single : AreSingle x
  pub sized : AreSectors x

-- no target is to be written: nothing is pending on the disks, or a log is damaged
abbrev pub IsIdle : RackView → Type 0
IsIdle x = (before : Standing) → standing (disks_of x) (now_in x) ≡ Some before → before.targets ≡ []

-- only drives of a state were written, by what was read of the disks
pub record WritesDrives (a b : RackView) : Type 0 where
  pub known : List Known
  pub state : State
  pub scan : IsScan a b known
  pub only : WritesOnly a b (IsOfDrive a known state)

-- Why no pool was found after a replay: by what was read then, which the disks hold still. Memory was had before it.
pub record IsCauseAfter (a b : RackView) (why : FindFault) : Type 0 where
  pub writes : WritesDrives a b
  pub found : why ≢ Memory
  pub cause : AllTold a → IsLasting a → IsCause (since a b) b why

-- Why no pool was brought to rest: by what was read before anything was written, or after the replay.
abbrev pub IsRefused : RackView → RackView → FindFault → Type 0
IsRefused a b why = (OnlyReads a b × IsCause a b why) ⊎ IsCauseAfter a b why
