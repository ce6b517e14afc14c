-- What a change of the group writes and leaves. Labels, empty headers and the new text come first; the headers with the text come last,
-- once all else is durable.
use Rattle.std.specs.Prelude.{◌≡◌, ◌⊎◌, ℕ, ◌+◌, ◌-◌, ◌/◌, ◌<◌, false, nat_lt, if◌then◌else◌, List, Option, Some, None, unwrap_or, Result, OnOk}
use Rattle.std.specs.Option.{option_map_or}
use Rattle.std.specs.Result.{result_ok}
use Rattle.lvm_label.specs.declared.header.Location.{Location}
use Rattle.lvm_label.specs.declared.header.Header.{Header}
use Rattle.lvm_label.specs.Header.{header_of}
use Rattle.rack.specs.declared.Gone.{Gone}
use Rattle.rack.specs.Seen.{Image, RackView, IsLive}
use Rattle.rack.specs.Moments.{Leaves}
use Rattle.rack.specs.Sequences.{IsMix, IsPayload}
use Rattle.rack.specs.Targets.{Target, look}
use Rattle.lvm_group.specs.declared.starts.TextStart.{TextStart}
use Rattle.lvm_group.specs.Parts.{is_inside, location_in}
use Rattle.lvm_group.specs.Sequences.{AreSingle}
use Rattle.lvm_group.specs.Writing.{AreStarts, Puts, first_targets, fresh, header_target, new_targets, own_area, start_at, targets_to}

-- ---- where a new text begins

-- the first sector of the area at a text's end or behind it; past the end of the area it goes on behind the header
abbrev pub next_sector : Location → ℕ
next_sector l = let end = (l.offset + l.size + 511) / 512 in if nat_lt end 2040 then end else end - 2039

-- behind the text of a location, where that is inside the area
abbrev pub sector_behind : Location → ℕ
sector_behind l = if is_inside own_area l then next_sector l else 1

abbrev pub start_by : Option Header → TextStart
start_by None = fresh
start_by (Some header) = record { sector = option_map_or sector_behind (location_in header) 1; blank = false }

-- by the bytes of the header's sector
abbrev pub start_of : List ℕ → TextStart
start_of bytes = start_by (result_ok (header_of bytes))

-- the new texts of the first arrays, so many, begin behind the last ones
abbrev pub AreBehind : RackView → ℕ → List TextStart → Type 0
AreBehind a n starts = (array : ℕ) → array < n → a.told array → start_at starts array ≡ start_of (a.held array 8).current

-- ---- two lists of targets, the second behind a sync

-- the first ones are durable on the first disks, so many, and some of the second ones stand there too
abbrev pub IsLate : RackView → RackView → List Target → List Target → ℕ → Image → Type 0
IsLate a b xs ys n c = (d s : ℕ) → d < n → IsLive a b d s → IsPayload ys d s (c d s) ⊎ (c d s ≡ unwrap_or (look xs d s) (a.held d s).current)

-- or none of the second ones does
abbrev pub IsInTurn : RackView → RackView → List Target → List Target → ℕ → Image → Type 0
IsInTurn a b xs ys n c = IsMix a b (IsPayload xs) c ⊎ IsLate a b xs ys n c

-- ---- a change

-- a new text on the first arrays, so many
pub record Changes (pool text : List ℕ) (n : ℕ) (a b : RackView) {X : Type 0} (result : Result X Gone) : Type 0 where
  pub starts : List TextStart
  pub inside : AreStarts starts
  pub behind : AreBehind a n starts
  pub puts : Puts a b (new_targets pool a.sectors starts text n) result
  pub stops : a.traced → Leaves a b (IsInTurn a b (targets_to (first_targets pool a.sectors starts text) n) (targets_to (header_target starts text) n) n)
  pub single : OnOk result (AreSingle a b n)
