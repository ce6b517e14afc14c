-- The drives of a pool as disks' contents show them, and their slices.
use Rattle.std.specs.Prelude.{ℕ, zero, suc, ◌+◌, nat_lt, if◌then◌else◌, List, [], Option, Some, option_map}
use Rattle.std.specs.Option.{option_and_then, option_map_or}
use Rattle.rack.specs.Seen.{Image}
use Rattle.md_super.specs.declared.superblock.Super.{Super}
use Rattle.pool_state.specs.declared.contents.State.{State}
use Rattle.array_image.specs.Places.{place_of, slice_of, state_sector, log_sectors, arrays_first, data_sector}
use Rattle.array_image.specs.Supers.{truth_in}
use Rattle.pool_image.specs.Disks.{Disks, Identities, Seats, identities_of, newest, seat_of}
use Rattle.pool_image.specs.Replay.{Extent, Standing, standing, written}

-- The pool of some contents: how the disks stood, what they hold and say once the pending record is replayed, the state by that,
-- and which disk each place has.
pub record Found : Type 0 where
  pub disks : Disks
  pub before : Standing
  pub contents : Image
  pub identities : Identities
  pub state : State
  pub seats : Seats

abbrev pub found_by : Disks → Standing → Image → Option Found
found_by disks before c =
    let identities = identities_of disks c in
    option_map
    (λ s. record { disks = disks; before = before; contents = c; identities = identities; state = s; seats = seat_of s disks identities })
    (newest disks identities)

-- none where no disk has a state
unfoldable pub found : Disks → Image → Option Found
found disks c = option_and_then (λ before. found_by disks before (written disks before c)) (standing disks c)

-- ---- slices (docs/FORMATS.md, 'Drive map')

-- a sector of a place's drive
abbrev pub drive_sector : Found → ℕ → ℕ → List ℕ
drive_sector f place s = option_map_or (λ d. if nat_lt s (f.disks.sectors d) then f.contents d s else []) (f.seats place) []

-- slices that begin at one sector of each drive
abbrev pub slices_from : Found → ℕ → Image
slices_from f first k s = drive_sector f (place_of k) (first + s)

-- the truth of an array whose slices begin there
abbrev pub truth_from : Found → ℕ → ℕ → Option Super
truth_from f array first = truth_in f.state (slices_from f first) array

-- the slices of an array that begin there, behind its superblock's 2048 sectors as many as a member has
abbrev pub extent_from : Found → ℕ → ℕ → Option Extent
extent_from f array first = option_map (λ t. record { first = first; sectors = data_sector + t.size }) (truth_from f array first)

abbrev pub end_of : Extent → ℕ
end_of e = e.first + e.sectors

-- where the slices of an array begin: behind those of the arrays below it, as long as each of these has a truth
unfoldable pub first_of : Found → ℕ → Option ℕ
first_of f zero = Some arrays_first
first_of f (suc n) = option_and_then (λ first. option_map end_of (extent_from f n first)) (first_of f n)

-- where the slices of a number lie, on each drive alike
unfoldable pub extent_of : Found → ℕ → Option Extent
extent_of f zero = Some (record { first = state_sector; sectors = log_sectors })
extent_of f (suc n) = option_and_then (extent_from f n) (first_of f n)

-- what the drives' slices hold
unfoldable pub slices_of : Found → Image
slices_of f = λ k s. option_map_or (λ e. if nat_lt s e.sectors then slices_from f e.first k s else []) (extent_of f (slice_of k)) []
