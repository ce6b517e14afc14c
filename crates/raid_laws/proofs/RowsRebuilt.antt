-- The seats of an array once some rows of a member are rebuilt.
use Rattle.std.proofs.Common.{◌≡◌, ℕ, ◌+◌, ◌*◌, ◌%◌, ◌<◌, ◌≤◌, Bool, true, false, ◌==◌, if◌then◌else◌, List, map, length, slice_get, Option, Some, None, option_map, refl, sym, ap, subst, ◌∙◌, inl, inr, eq-eqb, arith}
use Rattle.std.proofs.lemmas.Bool.{cases_eq, cases_lt, eqb-false, ne_eqb}
use Rattle.array_model.specs.declared.Seat.{Seat}
use Rattle.array_model.specs.declared.Seat.TheVariants.{Whole, Rebuilding}
use Rattle.array_model.specs.View.{IsArray, View, place_at}
use Rattle.array_model.proofs.RowWrites.{places_apart}
use Rattle.array_image.proofs.Losing.{length_map}
use Rattle.array_core.specs.declared.slots.Slot.{Slot}
use Rattle.array_core.specs.Slots.{place_by, slots_of}
use Rattle.array_core.specs.Staging.{HasRowRebuilds}
use Rattle.sync_laws.specs.Steps.{HasRowLeft, reach_on, rebuilt, rebuilt_seat, rows_left}
use Rattle.sync_laws.proofs.Adopted.{seats_of}
use Rattle.sync_laws.proofs.Rebuilt.{get_past, mapped_at, place_found}

module _ (v : View) (place rows : ℕ) (is_array : IsArray v) (has : HasRowLeft v place) (left : rows ≤ rows_left v place) where
  -- the member's position, and how far it is rebuilt
  pub found : (k : ℕ) × (k < v.truth.raid_disks) × (place_at v k ≡ place) × (slice_get v.seats k ≡ Some (Rebuilding (reach_on v place)))
  found = place_found v place (Rebuilding (reach_on v place)) is_array has.seat

  abbrev pub own : ℕ
  own = found.0

  abbrev pub to : ℕ
  to = reach_on v place

  pub rows_inside : to + 128 * rows ≤ v.truth.size
  rows_inside = let less = has.left in omega (arith, left, less)

  next_seat : (k : ℕ) → slice_get (rebuilt v place rows).seats k
      ≡ option_map (λ (seat : Seat). if place_at v k == place then rebuilt_seat v.truth.size (to + 128 * rows) else seat) (slice_get v.seats k)
  next_seat k =
      mapped_at v (λ s. if s.place == place then rebuilt_seat v.truth.size (to + 128 * rows) else s.seat)
      (λ q seat. if q == place then rebuilt_seat v.truth.size (to + 128 * rows) else seat) (λ s. refl) is_array k

  option_same : (o : Option Seat) → option_map (λ x. x) o ≡ o
  option_same None = refl
  option_same (Some x) = refl

  pub own_before : slice_get v.seats own ≡ Some (Rebuilding to)
  own_before = found.3

  pub own_seat : slice_get (rebuilt v place rows).seats own ≡ Some (rebuilt_seat v.truth.size (to + 128 * rows))
  own_seat =
      next_seat own ∙ ap (option_map (λ (seat : Seat). if place_at v own == place then rebuilt_seat v.truth.size (to + 128 * rows) else seat)) own_before
      ∙ ap (λ (b : Bool). Some (if b then rebuilt_seat v.truth.size (to + 128 * rows) else Rebuilding to)) (eq-eqb (place_at v own) place found.2)

  pub next_count : length (rebuilt v place rows).seats ≡ v.truth.raid_disks
  next_count =
      length_map _ (slots_of v) ∙ sym (length_map (λ (s : Slot). s.seat) (slots_of v))
      ∙ ap length (seats_of (place_by v.truth) 0 v.truth.raid_disks v.seats v.devices is_array.seats is_array.devices).0 ∙ is_array.seats

  -- nobody else's seat changes
  pub other_seat : (k : ℕ) → (k ≡ own → ⊥) → slice_get (rebuilt v place rows).seats k ≡ slice_get v.seats k
  other_seat k other =
      elim (cases_lt k v.truth.raid_disks) [
        | inl low ↦
            next_seat k
            ∙ ap (λ (b : Bool). option_map (λ (seat : Seat). if b then rebuilt_seat v.truth.size (to + 128 * rows) else seat) (slice_get v.seats k))
            (ne_eqb (place_at v k) place (λ at. other (places_apart v k own is_array low found.1 (at ∙ sym found.2))))
            ∙ option_same (slice_get v.seats k)
        | inr past ↦
            get_past (rebuilt v place rows).seats k (let count = next_count in omega (arith, past, count))
            ∙ sym (get_past v.seats k (let count = is_array.seats in omega (arith, past, count)))
      ]

  pub next_array : IsArray (rebuilt v place rows)
  next_array = record {
    few = is_array.few;
    level = is_array.level;
    least = is_array.least;
    most = is_array.most;
    seats = next_count;
    devices = is_array.devices;
    small = is_array.small;
    whole_rows = is_array.whole_rows;
    placed = is_array.placed;
    synced = is_array.synced;
    reshape = is_array.reshape;
  }

  pub next_rows : HasRowRebuilds v → HasRowRebuilds (rebuilt v place rows)
  next_rows whole k at seat =
      elim (cases_eq k own) [
        | inl same ↦
            own_row (to + 128 * rows == v.truth.size) refl
            (sym (ap (λ (j : ℕ). slice_get (rebuilt v place rows).seats j) (sym same) ∙ seat) ∙ own_seat)
        | inr other ↦ whole k at (sym (other_seat k other) ∙ seat)
      ]
    where
      own_row : (b : Bool) → (to + 128 * rows == v.truth.size) ≡ b → Some (Rebuilding at) ≡ Some (if b then Whole else Rebuilding (to + 128 * rows)) → (at % 128 ≡ 0) × (at < v.truth.size)
      own_row true all same = absurd (let bad : Some (Rebuilding at) ≡ Some Whole = same in cc)
      own_row false part same =
          let here : at ≡ to + 128 * rows = (let one : Some (Rebuilding at) ≡ Some (Rebuilding (to + 128 * rows)) = same in cc) in
          let start = has.whole in
          let inside = rows_inside in
          let other = eqb-false (to + 128 * rows) v.truth.size part in (
            omega (arith, here, start),
            (elim (cases_eq (to + 128 * rows) v.truth.size) [ inl full ↦ absurd (other full) | inr less ↦ omega (arith, here, inside, less) ]),
          )
