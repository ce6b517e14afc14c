-- What contracts see of a log.
use Rattle.std.specs.Prelude.{ℕ, ◌+◌, ◌-◌, ◌^◌, Bool, false, ◌==◌, ◌&&◌, not, nat_lt, if◌then◌else◌, List, [], filter, Option, None}
use Rattle.std.specs.Option.{option_or}
use Rattle.std.specs.List.{list_any, range_with_len}
use Rattle.rack.specs.Targets.{Target, look}

pub record LogView : Type 0 where
  -- the greatest number among the gates that it read and the commits that it made since
  pub number : ℕ
  -- the targets added since it was last emptied
  pub added : List Target
  -- those of the record that was pending when it last looked, and that it hasn't replayed yet
  pub pending : List Target
  -- whether their payloads are still lent
  pub is_lent : Bool
  -- a gate that it read then is open, and it has made no commit and no replay since
  pub is_open : Bool

-- the most sectors of a record
abbrev pub most_sectors : ℕ
most_sectors = 3996

-- the number of the next commit: one more, below 2^63
abbrev pub next_number : ℕ → ℕ
next_number n = if nat_lt n (2 ^ 63 - 1) then n + 1 else n

-- a log just made
abbrev pub new_log : LogView
new_log = record { number = 0; added = []; pending = []; is_lent = false; is_open = false }

-- emptied: nothing is added to it, and no payload is lent
abbrev pub emptied : LogView → LogView
emptied l = record l { added = []; is_lent = false }

-- after a replay
abbrev pub settled : LogView → LogView
settled l = record l { added = []; pending = []; is_lent = false; is_open = false }

-- after a commit
abbrev pub committed : LogView → LogView
committed l = record { number = next_number l.number; added = []; pending = []; is_lent = false; is_open = false }

-- the bytes that it has for a sector
abbrev pub payload_of : LogView → ℕ → ℕ → Option (List ℕ)
payload_of l d s = option_or (look l.added d s) (if l.is_lent then look l.pending d s else None)

-- ---- lists of places

abbrev pub names : List ℕ → ℕ → Bool
names places p = list_any (λ q. q == p) places

-- a place of `on` that isn't among the lost ones
abbrev pub is_left : List ℕ → List ℕ → ℕ → Bool
is_left on lost p = names on p && not (names lost p)

-- the places of a list, the lowest first and each once
abbrev pub in_order : List ℕ → List ℕ
in_order places = filter (names places) (range_with_len 0 16)

-- all that are left, in this order
abbrev pub left_of : List ℕ → List ℕ → List ℕ
left_of on lost = filter (is_left on lost) (range_with_len 0 16)
