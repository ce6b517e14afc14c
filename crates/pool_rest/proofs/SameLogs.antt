-- Contents that are the same in the log slices of the drives show the same logs.
use Rattle.std.proofs.Common.{◌≡◌, ℕ, ◌+◌, ◌<◌, ◌≤◌, ◌==◌, ◌&&◌, Bool, true, false, nat_lt, nat_le, if◌then◌else◌, [], Option, Some, None, refl, ap, ◌∙◌, leb-true, ltb-true}
use Rattle.std.specs.Option.{option_map_or}
use Rattle.std.proofs.lemmas.Bool.{and_parts}
use Rattle.rack.specs.Seen.{Image}
use Rattle.array_image.specs.Places.{arrays_first, log_sectors, place_of, slice_of, state_sector}
use Rattle.pool_image.specs.Disks.{Disks, Seats}
use Rattle.pool_image.specs.Replay.{Extent, log_extent, logs_of}

module _ (disks : Disks) (c i : Image) (before now : Seats) (seats : (p : ℕ) → now p ≡ before p)
    (kept : (p d u : ℕ) → before p ≡ Some d → arrays_first ≤ disks.sectors d → u < log_sectors → i d (state_sector + u) ≡ c d (state_sector + u)) where
  of_room : (p u d : ℕ) → u < log_sectors → before p ≡ Some d → (b : Bool) → nat_le arrays_first (disks.sectors d) ≡ b
      → option_map_or (λ (x : Extent). i d (x.first + u)) (if b then Some (record { first = state_sector; sectors = log_sectors }) else None) []
      ≡ option_map_or (λ (x : Extent). c d (x.first + u)) (if b then Some (record { first = state_sector; sectors = log_sectors }) else None) []
  of_room p u d low seat false room = refl
  of_room p u d low seat true room = kept p d u seat (leb-true arrays_first (disks.sectors d) room) low

  of_seat : (p u : ℕ) → u < log_sectors → (o : Option ℕ) → before p ≡ o
      → option_map_or (λ d. option_map_or (λ (x : Extent). i d (x.first + u)) (log_extent (disks.sectors d)) []) o []
      ≡ option_map_or (λ d. option_map_or (λ (x : Extent). c d (x.first + u)) (log_extent (disks.sectors d)) []) o []
  of_seat p u low None seat = refl
  of_seat p u low (Some d) seat = of_room p u d low seat (nat_le arrays_first (disks.sectors d)) refl

  of_test : (k u : ℕ) (b : Bool) → ((slice_of k == 0) && nat_lt u log_sectors) ≡ b
      → (if b then option_map_or (λ d. option_map_or (λ (x : Extent). i d (x.first + u)) (log_extent (disks.sectors d)) []) (now (place_of k)) [] else [])
      ≡ (if b then option_map_or (λ d. option_map_or (λ (x : Extent). c d (x.first + u)) (log_extent (disks.sectors d)) []) (before (place_of k)) [] else [])
  of_test k u false test = refl
  of_test k u true test =
      ap (λ o. option_map_or (λ d. option_map_or (λ (x : Extent). i d (x.first + u)) (log_extent (disks.sectors d)) []) o []) (seats (place_of k))
      ∙ of_seat (place_of k) u (ltb-true u log_sectors (and_parts (slice_of k == 0) (nat_lt u log_sectors) test).1) (before (place_of k)) refl

  pub logs_same : logs_of disks now i ≡ logs_of disks before c
  logs_same = λ j k u. of_test k u ((slice_of k == 0) && nat_lt u log_sectors) refl j
