-- The log slice of a drive, as the contents of its disk say it.
use Rattle.std.proofs.Common.{◌≡◌, ℕ, ◌+◌, ◌<◌, ◌≤◌, Bool, if◌then◌else◌, [], Option, Some, None, unwrap_or, sym, ap, ap₂, ◌∙◌, lt-ltb, arith}
use Rattle.std.specs.Option.{option_map_or}
use Rattle.std.specs.Result.{result_ok}
use Rattle.rack.specs.Seen.{Image}
use Rattle.slice_rack.specs.Slices.{Slices, disk_of, first_of, seat_of, sectors_of}
use Rattle.slice_rack.specs.Sliced.{sliced}
use Rattle.pool_state.specs.Sector.{decoded}
use Rattle.array_image.specs.Places.{arrays_first, log_sectors, log_slice, place_of, state_sector}
use Rattle.pool_image.specs.Disks.{identities_of}
use Rattle.pool_image.specs.Drives.{Found, extent_of}
use Rattle.pool_image.specs.Replay.{Extent}
use Rattle.pool_model.proofs.Said.{AreInside}
use Rattle.pool_model.specs.Pools.{extent_in}

module _ (f : Found) (t : Slices) (i : Image) (inside : AreInside f t) (p d : ℕ) (seat : seat_of t p ≡ Some d)
    (lies : extent_of f 0 ≡ Some (extent_in t (log_slice p))) where
  pub log_lies : (first_of t (log_slice p) ≡ state_sector) × (sectors_of t (log_slice p) ≡ log_sectors)
  unfolding extent_of
  log_lies = (
    sym (ap (λ (o : Option Extent). option_map_or (λ e. e.first) o 0) lies),
    sym (ap (λ (o : Option Extent). option_map_or (λ e. e.sectors) o 0) lies),
  )

  on_place : seat_of t (place_of (log_slice p)) ≡ Some d
  on_place = ap (seat_of t) (let e : place_of (log_slice p) ≡ p = omega arith in e) ∙ seat

  log_disk : disk_of t (log_slice p) ≡ d
  log_disk = ap (λ o. unwrap_or o 0) on_place

  -- it has all of its log slice
  pub room_in : arrays_first ≤ f.disks.sectors d
  room_in =
      let within = inside (log_slice p) d on_place (let many = log_lies.1 in omega (arith, many)) in
      let first = log_lies.0 in
      let many = log_lies.1 in
      omega (arith, within, first, many)

  pub reads_in : (u : ℕ) → u < log_sectors → sliced t i (log_slice p) u ≡ i d (state_sector + u)
  reads_in u low =
      ap (λ (b : Bool). if b then i (disk_of t (log_slice p)) (first_of t (log_slice p) + u) else [])
      (lt-ltb u (sectors_of t (log_slice p)) (let many = log_lies.1 in omega (arith, low, many)))
      ∙ ap₂ (λ e first. i e (first + u)) log_disk log_lies.0

  pub many_in : sectors_of t (log_slice p) ≡ log_sectors
  many_in = log_lies.1

  pub there_in : 0 < sectors_of t (log_slice p)
  there_in = let many = many_in in omega (arith, many)

  -- its copy of the state
  pub copied_in : (identities_of f.disks i d).copied ≡ result_ok (decoded (sliced t i (log_slice p) 0))
  copied_in =
      ap (λ (b : Bool). if b then result_ok (decoded (i d state_sector)) else None) (lt-ltb state_sector (f.disks.sectors d) (let room = room_in in omega (arith, room)))
      ∙ ap (λ block. result_ok (decoded block)) (sym (reads_in 0 (omega arith)))
