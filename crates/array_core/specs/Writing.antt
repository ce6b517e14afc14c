-- What a write makes of an array.
use Rattle.std.specs.Prelude.{◌≡◌, ◌≢◌, ◌⊎◌, ℕ, ◌<◌, Bool, true, false, ◌||◌, not, List, [], slice_get}
use Rattle.std.specs.Option.{option_map_or}
use Rattle.rack.specs.Values.{Keeps}
use Rattle.rack.specs.Seen.{RackView, IsLive}
use Rattle.array_image.specs.Places.{place_of, slice_of}
use Rattle.log_laws.specs.View.{names}
use Rattle.array_model.specs.View.{View, IsArray, LosesPlaces, is_missing_seat, is_whole_array, may_vary}
use Rattle.array_model.specs.Members.{IsSameButSeats, Notes, slice_on}
use Rattle.array_core.specs.Logging.{is_due}
use Rattle.array_core.specs.Settling.{unsynced}

-- A view u of an array that lost places since v, in which nobody had gone. A member's sector is due in u where it counted in v.
pub record Base (all : Bool) (v u : View) : Type 0 where
  pub is_array : IsArray v
  pub fresh : v.went ≡ []
  pub steady : may_vary v ≡ false
  pub same : IsSameButSeats v u
  pub lost : ℕ → Bool
  pub loses : LosesPlaces v u lost
  pub due : (j t : ℕ) → j < v.truth.raid_disks → t < v.truth.size → is_due all u j t ≡ is_due false v j t

-- A write notes the places that went in it, and nothing else of the array has changed; but a whole array of which nobody had gone
-- is marked first, where it wasn't: its truth has one more event and leaves all rows to resync.
pub data WritesView (v w : View) (a b : RackView) : Type 0 where
  as_it_was : (is_whole_array v ≡ false) ⊎ ((v.went ≢ []) ⊎ (v.marked ≡ true)) → Notes v w a b → WritesView v w a b
  newly_marked : is_whole_array v ≡ true → v.went ≡ [] → v.marked ≡ false → Notes (record (unsynced v) { marked = w.marked }) w a b → WritesView v w a b

-- a member is there, or all were when a call began
abbrev pub was_there : Bool → View → ℕ → Bool
was_there all v n = all || option_map_or (λ seat. not (is_missing_seat seat)) (slice_get v.seats n) true

-- A slice that a write doesn't go to: the log slice of a place that isn't among those of the log's commits, or one that is no log
-- slice and none of a member that was there.
abbrev pub IsElsewhere : Bool → View → List ℕ → ℕ → Type 0
IsElsewhere all v on d =
    ((slice_of d ≡ 0) × (names on (place_of d) ≡ false))
    ⊎ ((slice_of d ≢ 0) × ((n : ℕ) → n < v.truth.raid_disks → was_there all v n ≡ true → d ≢ slice_on v n))

-- so it stays as it is
abbrev pub KeepsElsewhere : Bool → View → List ℕ → RackView → RackView → Type 0
KeepsElsewhere all v on a b = (d t : ℕ) → IsLive a b d t → IsElsewhere all v on d → Keeps (a.held d t) (b.held d t)
