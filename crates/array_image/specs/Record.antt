-- The commit log: its gates and records, and which record is pending. All by the contents of the log slices alone.
use Rattle.std.specs.Prelude.{ℕ, ◌+◌, ◌*◌, ◌%◌, Bool, true, false, ◌==◌, ◌&&◌, ◌||◌, not, nat_le, nat_lt, bytes_eq, if◌then◌else◌, List, [], ◌∷◌, map, find, replicate, codes, Option, Some, None, is_none, option_map, unwrap_or}
use Rattle.std.specs.Option.{option_and_then, option_map_or}
use Rattle.std.specs.List.{list_all, list_any, flat_map, range_with_len}
use Rattle.rack.specs.Seen.{Image}
use Rattle.shr_base.specs.Blocks.{bytes_at, number_at, put_at}
use Rattle.shr_base.specs.Crc.{crc32_of}
use Rattle.array_image.specs.Foremost.{foremost}
use Rattle.array_image.specs.Places.{log_slice, slice_of}
use Rattle.rack.specs.Targets.{Target, is_at}

-- ---- gates (docs/FORMATS.md, 'Commit log')

pub record Gate : Type 0 where
  pub is_open : Bool
  pub number : ℕ

-- the gate in a sector, if it is well formed
unfoldable pub gate_of : List ℕ → Option Gate
gate_of block =
    if bytes_eq (bytes_at 0 8 block) (codes "SHRGATE1") && (number_at 8 4 block == crc32_of (put_at 8 4 (replicate 4 0) block))
    then Some (record { is_open = number_at 12 4 block == 1; number = number_at 16 8 block })
    else None

-- where a place's gate stands in its log slice
abbrev pub gate_sector : ℕ
gate_sector = 1

-- the gate of a place
abbrev pub gate_in : Image → ℕ → Option Gate
gate_in c place = gate_of (c (log_slice place) gate_sector)

-- a sector that is there
abbrev pub is_there : List ℕ → Bool
is_there [] = false
is_there (byte ∷ bytes) = true

-- a gate that is there and isn't well formed
abbrev pub is_bad_gate : Image → ℕ → Bool
is_bad_gate c place = is_there (c (log_slice place) gate_sector) && is_none (gate_in c place)

-- ---- records

-- the first sector of the half of a number
abbrev pub half_of : ℕ → ℕ
half_of number = if number % 2 == 0 then 8 else 4100

-- sectors of a log slice, joined
abbrev pub log_bytes : (ℕ → List ℕ) → ℕ → ℕ → List ℕ
log_bytes slice first count = flat_map (λ s. slice (first + s)) (range_with_len 0 count)

-- the target of a number in a record's table, with its payload
abbrev pub target_at : (ℕ → List ℕ) → ℕ → List ℕ → ℕ → Target
target_at slice first head k =
    record { disk = number_at (64 + 12 * k) 4 head; sector = number_at (68 + 12 * k) 8 head; bytes = slice (first + 96 + k) }

-- a target that a record may have: a sector of a slice, of a log slice the state's alone
abbrev pub is_target : Target → Bool
is_target t = nat_lt t.disk 272 && (not (slice_of t.disk == 0) || (t.sector == 0))

-- no sector twice
abbrev pub are_apart : List Target → Bool
are_apart [] = true
are_apart (t ∷ others) = not (list_any (is_at t.disk t.sector) others) && are_apart others

-- the record of a number in its half of a log slice, if it is well formed
unfoldable pub record_of : ℕ → (ℕ → List ℕ) → Option (List Target)
record_of number slice =
    let first = half_of number in
    let head = log_bytes slice first 96 in
    let count = number_at 12 4 head in
    let used = log_bytes slice first (96 + count) in
    let targets = map (target_at slice first head) (range_with_len 0 count) in
    if bytes_eq (bytes_at 0 8 head) (codes "SHRBODY1")
    && ((number_at 16 8 head == number)
    && (nat_le 1 count && (nat_le count 3996
    && ((number_at 8 4 head == crc32_of (put_at 8 4 (replicate 4 0) used))
    && (list_all is_target targets && are_apart targets)))))
    then Some targets
    else None

abbrev pub record_in : Image → ℕ → ℕ → Option (List Target)
record_in c place number = record_of number (c (log_slice place))

-- ---- what is pending

-- a gate and its place
pub record GateAt : Type 0 where
  pub place : ℕ
  pub gate : Gate

abbrev pub gates_in : List ℕ → Image → List (Option GateAt)
gates_in places c = map (λ place. option_map (λ g. record { place = place; gate = g }) (gate_in c place)) places

-- of the gates of greatest number the one of the lowest place
abbrev pub decisive : List ℕ → Image → Option GateAt
decisive places c = foremost (λ a. a.gate.number) (gates_in places c)

-- a gate of another number, or an open one
abbrev pub is_open_if_of : ℕ → Option GateAt → Bool
is_open_if_of number gate = option_map_or (λ a. not (a.gate.number == number) || a.gate.is_open) gate true

-- the place and the number of the record that is pending among the gates of some places: those of greatest number are all open
unfoldable pub pending_at : List ℕ → Image → Option GateAt
pending_at places c =
    option_and_then (λ a. if list_all (is_open_if_of a.gate.number) (gates_in places c) then Some a else None) (decisive places c)

-- the pending record, if it is well formed
abbrev pub pending_record : List ℕ → Image → Option (List Target)
pending_record places c = option_and_then (λ a. record_in c a.place a.gate.number) (pending_at places c)

-- the targets that a replay writes: those of the pending record. None where nothing is pending, or a gate isn't well formed.
unfoldable pub pending : List ℕ → Image → List Target
pending places c = if list_any (is_bad_gate c) places then [] else unwrap_or (pending_record places c) []

-- the log of a place isn't well formed: its gate, or the pending record where it is read from this place
abbrev pub is_bad_log : List ℕ → Image → ℕ → Bool
is_bad_log places c place =
    is_bad_gate c place
    || option_map_or (λ a. (a.place == place) && is_none (record_in c a.place a.gate.number)) (pending_at places c) false

-- the lowest such place
abbrev pub damaged_log : List ℕ → Image → Option ℕ
damaged_log places c = find (is_bad_log places c) places
