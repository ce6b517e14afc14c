-- Log slices of drives, laid place by place.
use Rattle.std.specs.Prelude.{◌≡◌, ◌≢◌, ℕ, ◌<◌, ◌≤◌, nat_le, nat_lt, Bool, true, ◌==◌, ◌&&◌, if◌then◌else◌, List, length, Some, None}
use Rattle.std.specs.Option.{option_map_or}
use Rattle.rack.specs.Seen.{RackView}
use Rattle.pool_state.specs.declared.contents.State.{State}
use Rattle.slice_rack.specs.Slices.{Slices, seat_of, first_of, sectors_of}
use Rattle.array_image.specs.Places.{place_of, slice_of, log_slice, state_sector, log_sectors, arrays_first}
use Rattle.log_laws.specs.View.{names}
use Rattle.pool_scan.specs.declared.Known.{Known}
use Rattle.pool_scan.specs.Choosing.{seat_by}

-- a place has got this disk, and its log slice where the disk has all of it; of other places nothing changed
pub record LaysLog (x : RackView) (t u : Slices) (place disk : ℕ) (done : Bool) : Type 0 where
  pub seats : (p : ℕ) → seat_of u p ≡ (if p == place then Some disk else seat_of t p)
  pub firsts : (k : ℕ) → place_of k ≢ place → first_of u k ≡ first_of t k
  pub sectors : (k : ℕ) → place_of k ≢ place → sectors_of u k ≡ sectors_of t k
  pub others : (k : ℕ) → place_of k ≡ place → k ≢ log_slice place → sectors_of u k ≡ 0
  pub first : done ≡ true → first_of u (log_slice place) ≡ state_sector
  pub log : sectors_of u (log_slice place) ≡ (if done then log_sectors else 0)
  pub room : done ≡ nat_le arrays_first (x.sectors disk)

-- the sectors of a slice that is laid: a log slice on a disk that has all of it
abbrev pub laid_sectors : RackView → List Known → State → ℕ → ℕ
laid_sectors x known s k =
    if slice_of k == 0
    then option_map_or (λ d. if nat_le arrays_first (x.sectors d) then log_sectors else 0) (seat_by s known (place_of k)) 0
    else 0

-- the first places have their disks and log slices, those that have one are listed, and the other places have nothing
pub record IsLaidBelow (x : RackView) (known : List Known) (s : State) (many : ℕ) (t : Slices) (on : List ℕ) : Type 0 where
  pub seats : (p : ℕ) → p < many → seat_of t p ≡ seat_by s known p
  pub none : (p : ℕ) → many ≤ p → seat_of t p ≡ None
  pub sectors : (k : ℕ) → place_of k < many → sectors_of t k ≡ laid_sectors x known s k
  pub firsts : (k : ℕ) → 0 < sectors_of t k → first_of t k ≡ state_sector
  pub empty : (k : ℕ) → many ≤ place_of k → sectors_of t k ≡ 0
  pub places : (p : ℕ) → names on p ≡ (nat_lt p many && nat_lt 0 (sectors_of t (log_slice p)))
  pub few : length on ≤ many
