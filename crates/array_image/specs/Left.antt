-- What a stop leaves on slices, and the same once the pending record is replayed.
use Rattle.std.specs.Prelude.{◌≡◌, ◌≢◌, ◌⊎◌, ℕ, ◌+◌, ◌<◌, ◌≤◌, nat_lt, if◌then◌else◌, List, [], None, Some}
use Rattle.std.specs.Option.{option_map_or}
use Rattle.rack.specs.Values.{MayLeave}
use Rattle.rack.specs.Seen.{Image, RackView, IsLive}
use Rattle.rack.specs.Targets.{look}
use Rattle.array_image.specs.Places.{slice_of, log_slice, member_slice}
use Rattle.array_image.specs.Record.{pending, damaged_log}
use Rattle.array_image.specs.States.{state_in, current_places}
use Rattle.array_image.specs.Arrays.{replayed}

-- there is nothing where a slice has no sector
abbrev pub IsInside : (ℕ → ℕ) → Image → Type 0
IsInside sectors c = (d t : ℕ) → sectors d ≤ t → c d t ≡ []

abbrev pub LogsInside : (ℕ → ℕ) → Image → Type 0
LogsInside sectors c = (place t : ℕ) → sectors (log_slice place) ≤ t → c (log_slice place) t ≡ []

-- contents that a stop now may leave
pub record Picks (x : RackView) (c : Image) : Type 0 where
  pub picks : (d t : ℕ) → IsLive x x d t → MayLeave (x.held d t) (c d t)
  pub inside : IsInside x.sectors c

-- those once the pending record is replayed
abbrev pub IsLeft : RackView → Image → Type 0
IsLeft x r = (c : Image) × Picks x c × ((d t : ℕ) → r d t ≡ replayed x.sectors c d t)

-- a sector of another array's slice, or a state's sector
abbrev pub IsApart : ℕ → ℕ → ℕ → Type 0
IsApart array d t = (slice_of d ≢ array + 1) × ((slice_of d ≢ 0) ⊎ (t ≡ 0))

-- Contents whose log slices a stop now may leave, whatever stands elsewhere. Replaying goes by the log slices alone, so what is
-- said of all such contents says which sectors have no target pending.
pub record PicksLogs (x : RackView) (c : Image) : Type 0 where
  pub picks : (place t : ℕ) → IsLive x x (log_slice place) t → MayLeave (x.held (log_slice place) t) (c (log_slice place) t)
  pub inside : LogsInside x.sectors c

-- nothing is pending in an array's slices
abbrev pub NothingPending : ℕ → RackView → Type 0
NothingPending array x = (c : Image) → PicksLogs x c → (place t : ℕ) → replayed x.sectors c (member_slice place array) t ≡ c (member_slice place array) t

-- the places whose gates decide: the current ones of the state in these contents
abbrev pub deciding : Image → List ℕ
deciding c = option_map_or current_places (state_in c) []

-- their gates and the pending record are well formed: an opening doesn't refuse such contents as damaged
abbrev pub IsWhole : Image → Type 0
IsWhole c = damaged_log (deciding c) c ≡ None

-- nothing is pending in contents outside an array's slices
abbrev pub IsPendingOnlyFor : ℕ → Image → Type 0
IsPendingOnlyFor array c = (d t : ℕ) → IsApart array d t → look (pending (deciding c) c) d t ≡ None

-- so it is in whatever a stop now leaves
abbrev pub PendingOnlyFor : ℕ → RackView → Type 0
PendingOnlyFor array x = (c : Image) → PicksLogs x c → IsPendingOnlyFor array c

-- what is pending in contents is for sectors that slices have
abbrev pub TargetsInside : (ℕ → ℕ) → Image → Type 0
TargetsInside sectors c = (d t : ℕ) (v : List ℕ) → look (pending (deciding c) c) d t ≡ Some v → t < sectors d

-- so it is in whatever a stop now leaves
abbrev pub TargetsExist : RackView → Type 0
TargetsExist x = (c : Image) → PicksLogs x c → TargetsInside x.sectors c

-- the contents as they read now
abbrev pub reading : RackView → Image
reading x d t = if nat_lt t (x.sectors d) then (x.held d t).current else []
