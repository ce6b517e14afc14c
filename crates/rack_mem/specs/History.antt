-- The values of a sector, told by the calls.
use Rattle.std.specs.Prelude.{◌≡◌, Bool, false, ◌<◌, ◌≤◌, length, ℕ, zero, suc, ◌==◌, ◌&&◌, if◌then◌else◌, List, Option, Some, None, slice_get, unwrap_or}
use Rattle.std.specs.Option.{option_and_then}
use Rattle.rack.specs.Values.{Values, append, only}
use Rattle.rack_mem.specs.declared.calls.Effect.{Effect}
use Rattle.rack_mem.specs.declared.calls.Effect.TheVariants.{Stay, Append, Settle}
use Rattle.rack_mem.specs.declared.calls.Call.{Call}
use Rattle.rack_mem.specs.declared.calls.Call.TheVariants.{Quiet, Write, Sync}

-- the values of a disk's sector after a call: a write appends one, a sync keeps the last one alone
abbrev pub after_call : Call → ℕ → ℕ → Values → Values
after_call Quiet d s v = v
after_call (Write disk sector value) d s v = if (d == disk) && (s == sector) then append v value else v
after_call (Sync disk) d s v = if d == disk then only v.current else v

-- the same, by what the call does to the sector
abbrev pub after_effect : Effect → Values → Values
after_effect Stay v = v
after_effect (Append value) v = append v value
after_effect Settle v = only v.current

-- and after a call that may not be there
abbrev pub after_any : Option Call → ℕ → ℕ → Values → Values
after_any None d s v = v
after_any (Some call) d s v = after_call call d s v

-- the values after the first calls, from one value before them
abbrev pub values_at : List Call → ℕ → ℕ → List ℕ → ℕ → Values
values_at calls d s first zero = only first
values_at calls d s first (suc k) = after_any (slice_get calls k) d s (values_at calls d s first k)

-- the value that a call writes
abbrev pub value_of : Call → Option (List ℕ)
value_of Quiet = None
value_of (Write disk sector value) = Some value
value_of (Sync disk) = None

-- the value of the write of this number, or the one before all calls
abbrev pub written_by : List Call → Option ℕ → List ℕ → List ℕ
written_by calls None first = first
written_by calls (Some n) first = unwrap_or (option_and_then value_of (slice_get calls n)) first

-- a table has the number of each sector's last write
pub record IsIndex (calls : List Call) (last : ℕ → ℕ → Option ℕ) : Type 0 where
  pub below : (d s n : ℕ) → last d s ≡ Some n → n < length calls
  pub current : (d s : ℕ) (first : List ℕ) → (values_at calls d s first (length calls)).current ≡ written_by calls (last d s) first

-- a call writes or syncs this disk
abbrev pub touches : Call → ℕ → Bool
touches Quiet d = false
touches (Write disk sector value) d = d == disk
touches (Sync disk) d = d == disk

-- a call touches the first disks alone
abbrev pub IsOn : Call → ℕ → Type 0
IsOn call disks = (d : ℕ) → disks ≤ d → touches call d ≡ false

-- all calls touch the first disks alone
abbrev pub AreOn : List Call → ℕ → Type 0
AreOn calls disks = (k : ℕ) (call : Call) → slice_get calls k ≡ Some call → IsOn call disks
