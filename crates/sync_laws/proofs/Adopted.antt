-- The array of a change that keeps its members: their seats and ids stay.
use Rattle.std.proofs.Common.{◌≡◌, ℕ, zero, suc, ◌+◌, ◌<◌, Bool, false, ◌==◌, if◌then◌else◌, List, [], ◌∷◌, map, length, slice_get, Option, Some, None, option_map, unwrap_or, refl, sym, ap, ap₂, ◌∙◌, inl, inr, eq-eqb, ◌≤◌, arith}
use Rattle.std.proofs.lemmas.Bool.{cases_lt, ne_eqb}
use Rattle.std.proofs.lemmas.Option.{slice_get-map}
use Rattle.std.specs.List.{range_with_len, zip}
use Rattle.std.specs.Option.{option_map_or}
use Rattle.shr_base.specs.declared.Id.{Id}
use Rattle.array_model.specs.declared.Seat.{Seat}
use Rattle.array_model.specs.declared.Seat.TheVariants.{Whole, Missing, Rebuilding}
use Rattle.array_model.specs.View.{View, IsArray}
use Rattle.array_model.proofs.RowWrites.{places_apart}
use Rattle.array_core.specs.declared.slots.Slot.{Slot}
use Rattle.array_core.specs.declared.Change.{Change}
use Rattle.array_core.proofs.Rules.{get_range}
use Rattle.array_core.specs.Slots.{slot_with, slots_of, place_by, places_by}
use Rattle.array_core.specs.Seats.{slot_at}
use Rattle.array_core.specs.Superblocks.{adopted, adopted_seat, adopted_slot, adopted_slots}
use Rattle.sync_laws.proofs.Supers.{slot_facts}

pub same_lists : {X : Type 0} (xs ys : List X) → ((k : ℕ) → slice_get xs k ≡ slice_get ys k) → xs ≡ ys
same_lists [] [] same = refl
same_lists [] (y ∷ ys) same = absurd (let bad : None ≡ Some y = same 0 in cc)
same_lists (x ∷ xs) [] same = absurd (let bad : Some x ≡ None = same 0 in cc)
same_lists (x ∷ xs) (y ∷ ys) same =
    let head : Some x ≡ Some y = same 0 in
    ap₂ (λ z zs. z ∷ zs) (ap (λ o. unwrap_or o x) head) (same_lists xs ys (λ k. same (suc k)))

zipped_at : (place : ℕ → ℕ) (a m : ℕ) (seats : List Seat) (devices : List Id) → length seats ≡ m → length devices ≡ m → (k : ℕ) → k < m
    → (s : Slot) × (slice_get (map slot_with (zip (map place (range_with_len a m)) (zip seats devices))) k ≡ Some s)
zipped_at place a zero seats devices one two k low = absurd (omega (arith, low))
zipped_at place a (suc m) [] devices one two k low = absurd (omega (arith, one))
zipped_at place a (suc m) (x ∷ seats) [] one two k low = absurd (omega (arith, two))
zipped_at place a (suc m) (x ∷ seats) (d ∷ devices) one two zero low = (record { place = place a; seat = x; device = d }, refl)
zipped_at place a (suc m) (x ∷ seats) (d ∷ devices) one two (suc k) low = zipped_at place (a + 1) m seats devices (omega (arith, one)) (omega (arith, two)) k (omega (arith, low))

range_past : (a n k : ℕ) → n ≤ k → slice_get (range_with_len a n) k ≡ None
range_past a zero k past = refl
range_past a (suc n) zero past = absurd (omega (arith, past))
range_past a (suc n) (suc k) past = range_past (a + 1) n k (omega (arith, past))

-- the first of a list with a place, where no two have one
find_at : (slots : List Slot) (k : ℕ) (s : Slot) → slice_get slots k ≡ Some s
    → ((j : ℕ) (u : Slot) → slice_get slots j ≡ Some u → u.place ≡ s.place → j ≡ k) → slot_at slots s.place ≡ Some s
find_at [] k s is one = absurd (let bad : None ≡ Some s = is in cc)
find_at (u ∷ slots) zero s is one =
    let same : u ≡ s = ap (λ o. unwrap_or o u) is in
    ap (λ (b : Bool). if b then Some u else slot_at slots s.place) (eq-eqb u.place s.place (ap (λ (x : Slot). x.place) same)) ∙ is
find_at (u ∷ slots) (suc k) s is one =
    ap (λ (b : Bool). if b then Some u else slot_at slots s.place) (ne_eqb u.place s.place (λ same. let at = one 0 u refl same in omega (arith, at)))
    ∙ find_at slots k s is (λ j x here same. let at = one (suc j) x here same in omega (arith, at))

-- a member as a change leaves it
abbrev pub changed_slot : Change → Slot → Slot
changed_slot c s = record { place = s.place; seat = adopted_seat c s.place s.seat; device = s.device }

module _ (c : Change) (v : View) (is_array : IsArray v) (places : places_by c.truth ≡ places_by v.truth) where
  slot_changed : (k : ℕ) (s : Slot) → slice_get (slots_of v) k ≡ Some s → adopted_slot (slots_of v) c (place_by v.truth k) ≡ changed_slot c s
  slot_changed k s is =
      let facts = slot_facts v k s is_array is in
      let found : slot_at (slots_of v) s.place ≡ Some s =
      find_at (slots_of v) k s is
      (λ j u here same.
      let other = slot_facts v j u is_array here in
      places_apart v j k is_array other.0 facts.0 (sym other.1 ∙ same ∙ facts.1)) in
      ap (adopted_slot (slots_of v) c) (sym facts.1)
      ∙ ap (λ (o : Option Slot). record { place = s.place; seat = option_map_or (λ x. adopted_seat c s.place x.seat) o Whole; device = option_map_or (λ x. x.device) o c.truth.device_id }) found

  pub slots_changed : adopted_slots v c ≡ map (changed_slot c) (slots_of v)
  slots_changed =
      let f = adopted_slot (slots_of v) c in
      ap (map f) places
      ∙ same_lists (map f (places_by v.truth)) (map (changed_slot c) (slots_of v))
      (λ k.
      let left = slice_get-map f (places_by v.truth) k ∙ ap (option_map f) (slice_get-map (place_by v.truth) (range_with_len 0 v.truth.raid_disks) k) in
      let right = slice_get-map (changed_slot c) (slots_of v) k in
      left
      ∙ elim (cases_lt k v.truth.raid_disks) [
        | inl low ↦ (let at = zipped_at (place_by v.truth) 0 v.truth.raid_disks v.seats v.devices is_array.seats is_array.devices k low in
            ap (λ (o : Option ℕ). option_map f (option_map (place_by v.truth) o)) (get_range 0 v.truth.raid_disks k low)
            ∙ ap (λ (j : ℕ). Some (f (place_by v.truth j))) (let e : 0 + k ≡ k = omega arith in e)
            ∙ ap Some (slot_changed k at.0 at.1)
            ∙ sym (ap (option_map (changed_slot c)) at.1))
        | inr past ↦
            ap (λ (o : Option ℕ). option_map f (option_map (place_by v.truth) o)) (range_past 0 v.truth.raid_disks k past)
            ∙ sym (ap (option_map (changed_slot c)) (none_past k past (slice_get (slots_of v) k) refl))
      ]
      ∙ sym right)
    where
      none_past : (k : ℕ) → v.truth.raid_disks ≤ k → (o : Option Slot) → slice_get (slots_of v) k ≡ o → slice_get (slots_of v) k ≡ None
      none_past k past None is = is
      none_past k past (Some s) is = let facts = slot_facts v k s is_array is in let low = facts.0 in absurd (omega (arith, past, low))

-- ---- a change that rebuilds nobody

kept_seat : (c : Change) (place : ℕ) (seat : Seat) → c.place ≡ None → adopted_seat c place seat ≡ seat
kept_seat c place Missing none = refl
kept_seat c place Whole none =
    ap (λ (o : Option ℕ). if option_map_or (λ p. p == place) o false then (if c.to == c.truth.size then Whole else Rebuilding c.to) else Whole) none
kept_seat c place (Rebuilding to) none =
    ap (λ (o : Option ℕ). if option_map_or (λ p. p == place) o false then (if c.to == c.truth.size then Whole else Rebuilding c.to) else Rebuilding to) none

map_all : {X : Type 0} (f : X → X) (xs : List X) → ((x : X) → f x ≡ x) → map f xs ≡ xs
map_all f [] same = refl
map_all f (x ∷ xs) same = ap₂ (λ y ys. y ∷ ys) (same x) (map_all f xs same)

pub seats_of : (place : ℕ → ℕ) (a m : ℕ) (seats : List Seat) (devices : List Id) → length seats ≡ m → length devices ≡ m
    → (map (λ s. s.seat) (map slot_with (zip (map place (range_with_len a m)) (zip seats devices))) ≡ seats)
    × (map (λ s. s.device) (map slot_with (zip (map place (range_with_len a m)) (zip seats devices))) ≡ devices)
seats_of place a zero [] [] one two = (refl, refl)
seats_of place a zero (x ∷ seats) devices one two = absurd (omega (arith, one))
seats_of place a zero [] (d ∷ devices) one two = absurd (omega (arith, two))
seats_of place a (suc m) [] devices one two = absurd (omega (arith, one))
seats_of place a (suc m) (x ∷ seats) [] one two = absurd (omega (arith, two))
seats_of place a (suc m) (x ∷ seats) (d ∷ devices) one two =
    let rest = seats_of place (a + 1) m seats devices (omega (arith, one)) (omega (arith, two)) in
    (ap (λ ys. x ∷ ys) rest.0, ap (λ ys. d ∷ ys) rest.1)

pub adopted_kept : (c : Change) (v : View) → IsArray v → places_by c.truth ≡ places_by v.truth → c.place ≡ None
    → ((adopted c v).seats ≡ v.seats) × ((adopted c v).devices ≡ v.devices)
adopted_kept c v is_array places none =
    let same : adopted_slots v c ≡ slots_of v =
    slots_changed c v is_array places ∙ map_all (changed_slot c) (slots_of v) (λ s. ap (λ (seat : Seat). record { place = s.place; seat = seat; device = s.device }) (kept_seat c s.place s.seat none)) in
    let both = seats_of (place_by v.truth) 0 v.truth.raid_disks v.seats v.devices is_array.seats is_array.devices in
    (ap (map (λ s. s.seat)) same ∙ both.0, ap (map (λ s. s.device)) same ∙ both.1)
