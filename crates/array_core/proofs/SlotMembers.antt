-- The members of an array's shape, by its slots.
use Rattle.std.proofs.Common.{◌≡◌, ℕ, zero, suc, ◌+◌, ◌<◌, Bool, true, false, not, if◌then◌else◌, List, [], ◌∷◌, map, filter, length, count_by, slice_get, Option, Some, refl, sym, ap, ap₂, ◌∙◌, arith}
use Rattle.std.specs.List.{range_with_len, zip}
use Rattle.std.proofs.lemmas.List.Sums.{length-filter}
use Rattle.shr_base.specs.declared.Id.{Id}
use Rattle.array_image.specs.Arrays.{Member}
use Rattle.array_model.specs.declared.Seat.{Seat}
use Rattle.array_model.specs.View.{View, is_whole_seat, member_by_seat, member_on}
use Rattle.array_core.specs.declared.slots.Slot.{Slot}
use Rattle.array_core.specs.Slots.{slot_with, slots_of, place_by}
use Rattle.array_core.specs.Opening.{lacking}

-- a slot's member
abbrev pub member_of_slot : ℕ → Slot → Member
member_of_slot size s = member_by_seat size s.place (Some s.seat)

members_zipped : (size : ℕ) (place : ℕ → ℕ) (seat : ℕ → Option Seat) (a n : ℕ) (seats : List Seat) (devices : List Id)
    → length seats ≡ n → length devices ≡ n
    → ((k : ℕ) → k < n → seat (a + k) ≡ slice_get seats k)
    → map (λ i. member_by_seat size (place i) (seat i)) (range_with_len a n)
    ≡ map (member_of_slot size) (map slot_with (zip (map place (range_with_len a n)) (zip seats devices)))
members_zipped size place seat a zero seats devices one two at = refl
members_zipped size place seat a (suc n) [] devices one two at = absurd (omega (arith, one))
members_zipped size place seat a (suc n) (s ∷ seats) [] one two at = absurd (omega (arith, two))
members_zipped size place seat a (suc n) (s ∷ seats) (d ∷ devices) one two at =
    let here : seat a ≡ Some s = ap seat (omega arith) ∙ at 0 (omega arith) in
    let there : (k : ℕ) → k < n → seat ((a + 1) + k) ≡ slice_get seats k = λ k low. ap seat (omega arith) ∙ at (suc k) (omega (arith, low)) in
    ap₂ (λ (o : Option Seat) (ms : List Member). member_by_seat size (place a) o ∷ ms) here
    (members_zipped size place seat (a + 1) n seats devices (omega (arith, one)) (omega (arith, two)) there)

-- the members of a view's shape are those of its slots
pub members_slots : (v : View) → length v.seats ≡ v.truth.raid_disks → length v.devices ≡ v.truth.raid_disks
    → map (member_on v) (range_with_len 0 v.truth.raid_disks) ≡ map (member_of_slot v.truth.size) (slots_of v)
members_slots v seats devices =
    members_zipped v.truth.size (place_by v.truth) (slice_get v.seats) 0 v.truth.raid_disks v.seats v.devices seats devices
    (λ k low. ap (slice_get v.seats) (omega arith))

-- and as many of them are missing or rebuilding
pub lacking_members : (size : ℕ) (slots : List Slot) → lacking slots ≡ count_by (λ m. not m.is_whole) (map (member_of_slot size) slots)
lacking_members size slots =
    sym (length-filter (λ s. not (is_whole_seat s.seat)) slots)
    ∙ filtered slots
    ∙ length-filter (λ m. not m.is_whole) (map (member_of_slot size) slots)
  where
    filtered : (slots : List Slot) → length (filter (λ s. not (is_whole_seat s.seat)) slots) ≡ length (filter (λ m. not m.is_whole) (map (member_of_slot size) slots))
    filtered [] = refl
    filtered (s ∷ slots) =
        let rest = filtered slots in
        let Goal : Bool → Type 0 = λ b.
        length (if b then s ∷ filter (λ s. not (is_whole_seat s.seat)) slots else filter (λ s. not (is_whole_seat s.seat)) slots)
        ≡ length (if b then member_of_slot size s ∷ filter (λ m. not m.is_whole) (map (member_of_slot size) slots) else filter (λ m. not m.is_whole) (map (member_of_slot size) slots)) in
        let goal : Goal (not (is_whole_seat s.seat)) = elim (not (is_whole_seat s.seat)) as Goal [ true ↦ ap suc rest | false ↦ rest ] in
        goal
