-- Growing a volume: what its arrays are to have more is appended, array by array.
use Rattle.std.specs.Prelude.{ℕ, ◌+◌, ◌-◌, ◌==◌, ◌&&◌, max, Bool, false, ◌<◌, ◌^◌, nat_le, nat_lt, if◌then◌else◌, List, [], ◌∷◌, length, slice_get}
use Rattle.std.specs.Option.{option_map_or}
use Rattle.std.specs.List.{AllByRecursion, list_all}
use Rattle.lvm_group.specs.declared.runs.Run.{Run}
use Rattle.lvm_group.specs.declared.growth.Piece.{Piece}
use Rattle.lvm_group.specs.Runs.{extents_of}
use Rattle.lvm_group.specs.Group.{most_segments}

-- ---- what arrays have

-- where a run ends on an array
abbrev pub end_on : ℕ → Run → ℕ
end_on array run = if run.array == array then run.first + run.count else 0

-- one past the last extent that an array has in runs; where these are its first ones, how many it has
unfoldable pub reach : ℕ → List Run → ℕ
reach array [] = 0
reach array (run ∷ others) = max (end_on array run) (reach array others)

-- ---- what they are to have more

-- the extents of each array from its reach up to its number, for arrays from this one on
unfoldable pub pieces : ℕ → List Run → List ℕ → List Piece
pieces array runs [] = []
pieces array runs (number ∷ others) =
    if nat_lt (reach array runs) number
    then record { array = array; first = reach array runs; count = number - reach array runs } ∷ pieces (array + 1) runs others
    else pieces (array + 1) runs others

-- pieces as runs, one behind the other from an extent of the volume on
abbrev pub run_of_piece : ℕ → Piece → Run
run_of_piece start piece = record { start = start; count = piece.count; array = piece.array; first = piece.first }

unfoldable pub started : ℕ → List Piece → List Run
started start [] = []
started start (piece ∷ others) = run_of_piece start piece ∷ started (start + piece.count) others

-- a piece goes on where a run ends
abbrev pub adjoins : Run → Piece → Bool
adjoins run piece = (run.array == piece.array) && (run.first + run.count == piece.first)

-- a run with more extents
abbrev pub longer : Run → ℕ → Run
longer run more = record { start = run.start; count = run.count + more; array = run.array; first = run.first }

-- ---- the grown volume

-- runs and then pieces from an extent of the volume on. The first piece is joined to the last run where both adjoin; others
-- can't be, since each piece is of another array.
unfoldable pub behind_runs : ℕ → List Run → List Piece → List Run
behind_runs start [] more = started start more
behind_runs start (run ∷ next ∷ others) more = run ∷ behind_runs start (next ∷ others) more
behind_runs start (run ∷ []) [] = run ∷ []
behind_runs start (run ∷ []) (piece ∷ others) =
    if adjoins run piece then longer run piece.count ∷ started (start + piece.count) others
    else run ∷ started start (piece ∷ others)

-- whether it is
unfoldable pub are_joined : List Run → List Piece → Bool
are_joined [] more = false
are_joined (run ∷ next ∷ others) more = are_joined (next ∷ others) more
are_joined (run ∷ []) [] = false
are_joined (run ∷ []) (piece ∷ others) = adjoins run piece

-- the runs of a volume whose arrays are to have these numbers of extents
abbrev pub grown : List Run → List ℕ → List Run
grown runs numbers = behind_runs (extents_of runs) runs (pieces 0 runs numbers)

-- a run has an extent, and ends within its array's number
abbrev pub is_within : List ℕ → Run → Bool
is_within numbers run = nat_lt 0 run.count && option_map_or (λ number. nat_le (run.first + run.count) number) (slice_get numbers run.array) false

-- no array has more than its number, and the grown volume has no more segments than a text may have
unfoldable pub fits : List Run → List ℕ → Bool
fits runs numbers = list_all (is_within numbers) runs && nat_le (length (grown runs numbers)) most_segments

-- numbers of extents that leave room for sums
abbrev pub AreBelow : List ℕ → Type 0
AreBelow numbers = AllByRecursion (λ number. number < 2 ^ 45) numbers
