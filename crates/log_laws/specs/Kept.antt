-- What is kept of the log slices from one commit to the next.
use Rattle.std.specs.Prelude.{◌≡◌, ◌⊎◌, ℕ, ◌<◌, Bool, true, false, ◌==◌, ◌&&◌, ◌||◌, not, List, [], slice_get, Option, Ok, Some, None, option_map}
use Rattle.std.specs.List.{list_any}
use Rattle.rack.specs.Values.{MayLeave}
use Rattle.rack.specs.Seen.{Image, RackView, IsLive}
use Rattle.rack.specs.Targets.{Target, look}
use Rattle.pool_state.specs.declared.contents.Copied.{Copied}
use Rattle.pool_state.specs.declared.contents.State.{State}
use Rattle.pool_state.specs.Sector.{decoded}
use Rattle.array_image.specs.Places.{log_slice, place_of}
use Rattle.array_image.specs.Record.{Gate, GateAt, gate_of, gate_sector, pending_at, pending}
use Rattle.array_image.specs.States.{is_current, id_of}
use Rattle.array_image.specs.Arrays.{replayed}
use Rattle.log_laws.specs.View.{names}
use Rattle.log_laws.specs.Standing.{LogsStand, deciding, IsWhole, IsNumbered}
use Rattle.log_laws.specs.Commits.{Stands}

-- a sector is a copy of a state that names the drive of a place
pub record IsCopyOf (s : State) (place : ℕ) (u : List ℕ) : Type 0 where
  pub own : ℕ
  pub copy : decoded u ≡ Ok (record { state = s; own = own })
  pub drive : id_of s own ≡ id_of s place

-- a copy of a lower epoch, or of this very state
abbrev pub IsNoLater : State → Copied → Type 0
IsNoLater s copy = (copy.state.epoch < s.epoch) ⊎ (copy.state ≡ s)

-- The copies on the places' log slices, where those that have gone aren't written any more: a current place that is left has
-- its copy of this state, no place has a later one or another one of its epoch, and one that isn't current has an earlier one at most.
pub record CopiesStand (s : State) (gone : ℕ → Bool) (x : RackView) : Type 0 where
  pub own : (p : ℕ) (u : List ℕ) → is_current s p ≡ true → gone p ≡ false → MayLeave (x.held (log_slice p) 0) u → IsCopyOf s p u
  pub others :
      (p : ℕ) (u : List ℕ) (copy : Copied) → p < 16 → 0 < x.sectors (log_slice p) → MayLeave (x.held (log_slice p) 0) u
      → decoded u ≡ Ok copy → IsNoLater s copy
  pub earlier :
      (p : ℕ) (u : List ℕ) (copy : Copied) → p < 16 → is_current s p ≡ false → 0 < x.sectors (log_slice p)
      → MayLeave (x.held (log_slice p) 0) u → decoded u ≡ Ok copy → copy.state.epoch < s.epoch

-- a stop now leaves no open gate on a place
abbrev pub HasClosedGate : RackView → ℕ → Type 0
HasClosedGate x p = (v : List ℕ) (g : Gate) → MayLeave (x.held (log_slice p) gate_sector) v → gate_of v ≡ Some g → g.is_open ≡ false

-- What a commit finds of the log slices and leaves of them to the next one: `number` is the log's, and `gone` are the places that
-- answered `Gone`, marked or not.
pub record LogInvariant (s : State) (number : ℕ) (gone : ℕ → Bool) (x : RackView) : Type 0 where
  pub logs : (p t : ℕ) → p < 16 → t < x.sectors (log_slice p) → IsLive x x (log_slice p) t
  pub few : (p : ℕ) → is_current s p ≡ true → p < 16
  -- a place that is left has its log slice
  pub there : (p : ℕ) → is_current s p ≡ true → gone p ≡ false → 0 < x.sectors (log_slice p)
  pub copies : CopiesStand s gone x
  pub numbers : (p : ℕ) → is_current s p ≡ true → gate_sector < x.sectors (log_slice p) → IsNumbered number x p
  pub halves : (c : Image) → LogsStand x c → (a : GateAt) → pending_at (deciding c) c ≡ Some a → a.gate.number ≡ number
  -- no log is damaged
  pub whole : (c : Image) → Stands x c → IsWhole c
  -- nothing is pending, or a current place has gone and isn't marked
  pub idle : (c : Image) → LogsStand x c → (pending (deciding c) c ≡ []) ⊎ ((p : ℕ) × (is_current s p ≡ true) × (gone p ≡ true))
  -- where no current place has gone, their gates are closed
  pub closed :
      ((p : ℕ) → is_current s p ≡ true → gone p ≡ false)
      → (p : ℕ) → is_current s p ≡ true → gate_sector < x.sectors (log_slice p) → HasClosedGate x p
  -- replaying changes nothing on the places that are left
  pub quiet : (c : Image) → Stands x c → (d t : ℕ) → gone (place_of d) ≡ false → replayed x.sectors c d t ≡ c d t
  -- and brings no later copy to the others
  pub brought :
      (c : Image) (p : ℕ) (copy : Copied) → Stands x c → p < 16 → 0 < x.sectors (log_slice p)
      → decoded (replayed x.sectors c (log_slice p) 0) ≡ Ok copy → IsNoLater s copy

-- the places of a commit are the current ones that are left
abbrev pub AreLeft : State → (gone : ℕ → Bool) → (on : List ℕ) → Type 0
AreLeft s gone on = (p : ℕ) → names on p ≡ (is_current s p && not (gone p))

-- and those that went in it have gone after it
abbrev pub gone_with : (gone : ℕ → Bool) → (lost : List ℕ) → ℕ → Bool
gone_with gone lost p = gone p || names lost p

-- Where places may take a copy that aren't of the commit: those have gone after it that had gone and take none, and those that went in it.
abbrev pub gone_but : (gone : ℕ → Bool) → (takes lost : List ℕ) → ℕ → Bool
gone_but gone takes lost p = (gone p && not (names takes p)) || names lost p

-- The targets have no copy of a state, or on each place of the commit its copy of a later state, by which no place is current that
-- wasn't.
pub record CarriesState (s t : State) (xs : List Target) (on : List ℕ) : Type 0 where
  pub current : (p : ℕ) → is_current t p ≡ true → is_current s p ≡ true
  pub left : (p : ℕ) → names on p ≡ true → is_current t p ≡ true
  -- they are on the places of the commit
  pub inside : (p : ℕ) → list_any (λ x. place_of x.disk == p) xs ≡ true → names on p ≡ true
  pub either :
      ((t ≡ s) × ((p : ℕ) → look xs (log_slice p) 0 ≡ None))
      ⊎ ((s.epoch < t.epoch) × ((p : ℕ) → is_current t p ≡ true → names on p ≡ true)
      × ((p : ℕ) → names on p ≡ true → (u : List ℕ) × (look xs (log_slice p) 0 ≡ Some u) × IsCopyOf t p u)
      × ((p : ℕ) → names on p ≡ false → look xs (log_slice p) 0 ≡ None))

-- A place that is to join: it has a log slice with a closed gate of no greater number than the log's. It may have been current, and have
-- gone: then its log slice is that of another drive.
pub record MayJoin (number : ℕ) (x : RackView) (p : ℕ) : Type 0 where
  pub few : p < 16
  pub there : gate_sector < x.sectors (log_slice p)
  pub numbered : IsNumbered number x p
  pub closed : HasClosedGate x p

-- The same, where places may join: `takes` are the places of the commit and those that do. Each of them gets its copy.
pub record BringsTo (s t : State) (number : ℕ) (x : RackView) (xs : List Target) (on takes : List ℕ) : Type 0 where
  pub current : (p : ℕ) → is_current t p ≡ true → (is_current s p ≡ true) ⊎ MayJoin number x p
  -- whoever takes a copy and isn't of the commit joins
  pub joins : (p : ℕ) → names takes p ≡ true → names on p ≡ false → MayJoin number x p
  pub left : (p : ℕ) → names takes p ≡ true → is_current t p ≡ true
  pub more : (p : ℕ) → names on p ≡ true → names takes p ≡ true
  pub inside : (p : ℕ) → list_any (λ x. place_of x.disk == p) xs ≡ true → names takes p ≡ true
  pub either :
      ((t ≡ s) × ((p : ℕ) → look xs (log_slice p) 0 ≡ None) × ((p : ℕ) → names takes p ≡ true → names on p ≡ true))
      ⊎ ((s.epoch < t.epoch) × ((p : ℕ) → is_current t p ≡ true → names takes p ≡ true)
      × ((p : ℕ) → names takes p ≡ true → (u : List ℕ) × (look xs (log_slice p) 0 ≡ Some u) × IsCopyOf t p u)
      × ((p : ℕ) → names takes p ≡ false → look xs (log_slice p) 0 ≡ None))
