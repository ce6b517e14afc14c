-- What a bay shows some of whose disks are offline: these have no sectors.
use Rattle.std.specs.Prelude.{◌≡◌, ℕ, ◌<◌, ◌≤◌, Bool, true, false, List, slice_get, unwrap_or, if◌then◌else◌, Ok}
use Rattle.rack.specs.Seen.{Image, Rose, RackView}
use Rattle.rack.specs.Calls.{Reads}
use Rattle.rack.specs.Sequences.{OnlyReads}
use Rattle.rack.specs.Shelf.{Shelf}
use Rattle.rack.specs.Untouched.{KeepsDisk}

-- by a flag for each disk; one without a flag is online
abbrev pub is_offline : List Bool → ℕ → Bool
is_offline offline disk = unwrap_or (slice_get offline disk) false

abbrev pub online_of : List Bool → RackView → RackView
online_of offline x = record {
  disks = x.disks;
  sectors = λ d. if is_offline offline d then 0 else x.sectors d;
  held = x.held;
  clock = x.clock;
  stops = x.stops;
  faults = x.faults;
  spent = x.spent;
  lasting = x.lasting;
  steady = x.steady;
  fit = x.fit;
  told = x.told;
  traced = x.traced;
}

-- one of the calls between two moments read this sector of a disk
pub record Answered {B : Type 0} (seen : B → RackView) (runs : B → B → Type 0) (x y : B) (disk sector : ℕ) : Type 0 where
  pub before : B
  pub after : B
  pub kept : runs x before × runs after y
  pub into : List ℕ
  pub read : Reads (seen before) (seen after) disk sector into {X = Unit {0}} (Ok tt)

-- Each disk was asked for a sector, where it has it, and nothing was written: one that is offline refused, any other one answered.
pub record Asks {B : Type 0} (seen : B → RackView) (runs : B → B → Type 0) (x y : B) (sector : ℕ) (offline : List Bool) : Type 0 where
  pub reads : OnlyReads (seen x) (seen y)
  pub kept : runs x y
  pub refused : (d : ℕ) → is_offline offline d ≡ true → Rose ((seen x).faults d) ((seen y).faults d)
  pub answered :
      (d : ℕ) → d < (seen x).disks → sector < (seen x).sectors d → is_offline offline d ≡ false
      → Answered seen runs x y d sector

-- Calls in a row, attaching included, leave offline disks alone. `before` and `after` are the flags, `a` and `b` what the bay below shows, with all
-- sectors of these disks, and `s` and `t` its names.
pub record KeepsOffline (before after : List Bool) (a b : RackView) (s t : Shelf) : Type 0 where
  pub disks : a.disks ≤ b.disks
  pub flags : (d : ℕ) → d < a.disks → is_offline after d ≡ is_offline before d
  pub sectors : (d : ℕ) → d < a.disks → b.sectors d ≡ a.sectors d
  pub tells : (d : ℕ) → d < a.disks → a.told d → b.told d
  pub told : s.told → t.told
  pub traced : s.told → a.traced → b.traced
  pub later : s.told → a.traced → a.clock ≤ b.clock
  pub past : s.told → a.traced → (k : ℕ) (i : Image) → k ≤ a.clock → b.stops k i → a.stops k i
  pub kept : (d : ℕ) → d < a.disks → is_offline before d ≡ true → KeepsDisk s.told a b d
