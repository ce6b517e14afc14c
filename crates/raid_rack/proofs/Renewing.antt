-- Arrays of which nothing has changed but whom they lost, their events and their marks: a new drive has the same slices in them, and its
-- members are renewed alike.
use Rattle.std.proofs.Common.{◌≡◌, ◌⊎◌, ℕ, zero, suc, ◌+◌, ◌-◌, ◌<◌, ◌==◌, ◌&&◌, nat_le, Bool, true, false, if◌then◌else◌, List, [], ◌∷◌, get_or, is_some, length, map, slice_get, take, zip, Some, option_map, unwrap_or, refl, sym, ap, ap₂, subst, ◌∙◌, inl, inr, arith}
use Rattle.std.specs.List.{range_with_len}
use Rattle.std.specs.Option.{option_map_or}
use Rattle.std.specs.Prelude.{fold}
use Rattle.std.proofs.lemmas.Bool.{cases_lt}
use Rattle.std.proofs.lemmas.Option.{slice_get-get_or, slice_get_past, slice_get_within}
use Rattle.arrayvec.specs.ArrayVec.{ArrayVec}
use Rattle.shr_base.specs.declared.Id.{Id}
use Rattle.rack.specs.Seen.{RackView}
use Rattle.slice_rack.specs.Slices.{Slices}
use Rattle.array_image.specs.Arrays.{place_with}
use Rattle.array_image.specs.Places.{log_sectors, member_id, slice_of, state_sector}
use Rattle.array_model.specs.declared.Seat.{Seat}
use Rattle.array_model.specs.declared.Seat.TheVariants.{Missing, Rebuilding}
use Rattle.array_model.specs.View.{IsArray, View}
use Rattle.array_core.specs.declared.slots.Slot.{Slot}
use Rattle.array_core.specs.Seats.{names, renewed, seat_of, slot_at}
use Rattle.array_core.specs.Slots.{places_by, slot_with}
use Rattle.raid_rack.specs.declared.arrays.Arrays.{Arrays}
use Rattle.raid_laws.specs.Moves.{KeepsArrays, OnlyFailures}
use Rattle.raid_laws.specs.NewDrive.{ReachesAll, SeatsDrive, first_in, joins, length_in, slice_length}
use Rattle.raid_rack.specs.RaidRack.{IsRunning, no_array, raid_by}
use Rattle.raid_rack.proofs.LayingDrive.{none_joins}

-- ---- members by their positions: places, seats, ids

abbrev slots : List ℕ → List Seat → List Id → List Slot
slots ps ss ds = map slot_with (zip ps (zip ss ds))

-- a place has a member whatever its seat
found_same : (place : ℕ) (ps : List ℕ) (ss ts : List Seat) (ds : List Id) → length ss ≡ length ps → length ts ≡ length ps → length ds ≡ length ps
    → is_some (option_map (λ (s : Slot). s.seat) (slot_at (slots ps ts ds) place)) ≡ is_some (option_map (λ (s : Slot). s.seat) (slot_at (slots ps ss ds) place))
found_same place [] ss ts ds one two three = refl
found_same place (p ∷ ps) [] ts ds one two three = absurd (omega (arith, one))
found_same place (p ∷ ps) (s ∷ ss) [] ds one two three = absurd (omega (arith, two))
found_same place (p ∷ ps) (s ∷ ss) (t ∷ ts) [] one two three = absurd (omega (arith, three))
found_same place (p ∷ ps) (s ∷ ss) (t ∷ ts) (d ∷ ds) one two three =
    of (p == place) (found_same place ps ss ts ds (omega (arith, one)) (omega (arith, two)) (omega (arith, three)))
  where
    of : (b : Bool) → is_some (option_map (λ (s : Slot). s.seat) (slot_at (slots ps ts ds) place)) ≡ is_some (option_map (λ (s : Slot). s.seat) (slot_at (slots ps ss ds) place))
        → is_some (option_map (λ (s : Slot). s.seat) (if b then Some (slot_with (p, (t, d))) else slot_at (slots ps ts ds) place))
        ≡ is_some (option_map (λ (s : Slot). s.seat) (if b then Some (slot_with (p, (s, d))) else slot_at (slots ps ss ds) place))
    of true rest = refl
    of false rest = rest

module _ (place : ℕ) (id : List ℕ) where
  new_seat : Slot → Seat
  new_seat s = if names (place ∷ []) s.place then Rebuilding 0 else s.seat

  new_device : Slot → Id
  new_device s = if names (place ∷ []) s.place then record { 0 = id } else s.device

  seats_kept : (ps : List ℕ) (ss ts : List Seat) (ds : List Id) (k : ℕ) → length ss ≡ length ps → length ts ≡ length ps → length ds ≡ length ps
      → ((j : ℕ) → (slice_get ts j ≡ slice_get ss j) ⊎ (slice_get ts j ≡ Some Missing))
      → (slice_get (map new_seat (slots ps ts ds)) k ≡ slice_get (map new_seat (slots ps ss ds)) k) ⊎ (slice_get (map new_seat (slots ps ts ds)) k ≡ Some Missing)
  unfolding new_seat
  seats_kept [] ss ts ds k one two three each = inl refl
  seats_kept (p ∷ ps) [] ts ds k one two three each = absurd (omega (arith, one))
  seats_kept (p ∷ ps) (s ∷ ss) [] ds k one two three each = absurd (omega (arith, two))
  seats_kept (p ∷ ps) (s ∷ ss) (t ∷ ts) [] k one two three each = absurd (omega (arith, three))
  seats_kept (p ∷ ps) (s ∷ ss) (t ∷ ts) (d ∷ ds) (suc k) one two three each =
      seats_kept ps ss ts ds k (omega (arith, one)) (omega (arith, two)) (omega (arith, three)) (λ j. each (suc j))
  seats_kept (p ∷ ps) (s ∷ ss) (t ∷ ts) (d ∷ ds) zero one two three each = of (names (place ∷ []) p)
    where
      of : (b : Bool) → (Some (if b then Rebuilding 0 else t) ≡ Some (if b then Rebuilding 0 else s)) ⊎ (Some (if b then Rebuilding 0 else t) ≡ Some Missing)
      of true = inl refl
      of false = each 0

  devices_kept : (ps : List ℕ) (ss ts : List Seat) (ds : List Id) → length ss ≡ length ps → length ts ≡ length ps → length ds ≡ length ps
      → map new_device (slots ps ts ds) ≡ map new_device (slots ps ss ds)
  unfolding new_device
  devices_kept [] ss ts ds one two three = refl
  devices_kept (p ∷ ps) [] ts ds one two three = absurd (omega (arith, one))
  devices_kept (p ∷ ps) (s ∷ ss) [] ds one two three = absurd (omega (arith, two))
  devices_kept (p ∷ ps) (s ∷ ss) (t ∷ ts) [] one two three = absurd (omega (arith, three))
  devices_kept (p ∷ ps) (s ∷ ss) (t ∷ ts) (d ∷ ds) one two three =
      ap (λ xs. (if names (place ∷ []) p then record { 0 = id } else d) ∷ xs) (devices_kept ps ss ts ds (omega (arith, one)) (omega (arith, two)) (omega (arith, three)))

-- ---- one array

module _ (u w : View) (one : IsArray u) (two : IsArray w) (only : OnlyFailures u w) where
  places_same : places_by w.truth ≡ places_by u.truth
  places_same =
      ap₂ (λ (r : ArrayVec ℕ) k. map (λ n. unwrap_or (place_with r.items n) 16) (range_with_len 0 k)) only.same.geometry.roles only.same.geometry.disks

  many : (t : View) → IsArray t → length (places_by t.truth) ≡ t.truth.raid_disks
  many t is = length_map (range_with_len 0 t.truth.raid_disks) ∙ length_range 0 t.truth.raid_disks
    where
      length_map : (ns : List ℕ) → length (map (λ n. unwrap_or (place_with t.truth.roles.items n) 16) ns) ≡ length ns
      length_map [] = refl
      length_map (n ∷ ns) = ap suc (length_map ns)

      length_range : (a k : ℕ) → length (range_with_len a k) ≡ k
      length_range a zero = refl
      length_range a (suc k) = ap suc (length_range (a + 1) k)

  long_seats : length u.seats ≡ length (places_by u.truth)
  long_seats = one.seats ∙ sym (many u one)

  long_now : length w.seats ≡ length (places_by u.truth)
  long_now = two.seats ∙ only.same.geometry.disks ∙ sym (many u one)

  long_devices : length u.devices ≡ length (places_by u.truth)
  long_devices = one.devices ∙ sym (many u one)

  pub seat_same : (place : ℕ) → is_some (seat_of w place) ≡ is_some (seat_of u place)
  seat_same place =
      ap₂ (λ ps (ds : List Id). is_some (option_map (λ (s : Slot). s.seat) (slot_at (slots ps w.seats ds) place))) places_same only.same.devices
      ∙ found_same place (places_by u.truth) u.seats w.seats u.devices long_seats long_now long_devices

  -- renewed, it has still lost members and nothing else
  pub renewed_only : (place : ℕ) (drive : Id) → OnlyFailures (renewed place drive u) (renewed place drive w)
  unfolding new_seat new_device
  renewed_only place drive =
      let id = member_id drive.0 u.number in
      let ps = places_by u.truth in
      record {
        same = record {
          number = only.same.number;
          geometry = only.same.geometry;
          devices =
              ap (λ n. map (λ (s : Slot). if names (place ∷ []) s.place then record { 0 = member_id drive.0 n } else s.device) (slots (places_by w.truth) w.seats w.devices)) only.same.number
              ∙ ap₂ (λ qs (ds : List Id). map (new_device place id) (slots qs w.seats ds)) places_same only.same.devices
              ∙ devices_kept place id ps u.seats w.seats u.devices long_seats long_now long_devices;
          resync = only.same.resync;
          young = only.same.young;
        };
        seats = λ k.
            let here : (renewed place drive w).seats ≡ map (new_seat place id) (slots ps w.seats u.devices) =
            ap₂ (λ qs (ds : List Id). map (new_seat place id) (slots qs w.seats ds)) places_same only.same.devices in
            elim (seats_kept place id ps u.seats w.seats u.devices k long_seats long_now long_devices only.seats) [
              | inl same ↦ inl (ap (λ (ss : List Seat). slice_get ss k) here ∙ same)
              | inr lost ↦ inr (ap (λ (ss : List Seat). slice_get ss k) here ∙ lost)
            ];
      }

-- one of them, renewed or not
pub renewed_if : (u w : View) (place : ℕ) (drive : Id) (b : Bool) → IsArray u → IsArray w → OnlyFailures u w
    → OnlyFailures (if b then renewed place drive u else u) (if b then renewed place drive w else w)
renewed_if u w place drive true one two only = renewed_only u w one two only place drive
renewed_if u w place drive false one two only = only

-- ---- all arrays

-- as many arrays, of the same members
pub record AreSameMembers (xs ys : List View) : Type 0 where
  pub count : length ys ≡ length xs
  pub size : (n : ℕ) → n < length xs → slice_length (get_or ys n no_array) ≡ slice_length (get_or xs n no_array)
  pub seat : (n place : ℕ) → n < length xs → is_some (seat_of (get_or ys n no_array) place) ≡ is_some (seat_of (get_or xs n no_array) place)

module _ (xs ys : List View) (are : AreSameMembers xs ys) where
  pub first_same : (n : ℕ) → first_in ys n ≡ first_in xs n
  first_same n = ap (λ k. 10240 + k) (of 0 xs ys n are.count are.size)
    where
      of : (total : ℕ) (xs ys : List View) (n : ℕ) → length ys ≡ length xs → ((k : ℕ) → k < length xs → slice_length (get_or ys k no_array) ≡ slice_length (get_or xs k no_array))
          → fold (λ a u. a + slice_length u) total (take n ys) ≡ fold (λ a u. a + slice_length u) total (take n xs)
      of total [] [] n count size = refl
      of total [] (y ∷ ys) n count size = absurd (omega (arith, count))
      of total (x ∷ xs) [] n count size = absurd (omega (arith, count))
      of total (x ∷ xs) (y ∷ ys) zero count size = refl
      of total (x ∷ xs) (y ∷ ys) (suc n) count size =
          ap (λ k. fold (λ a u. a + slice_length u) (total + k) (take n ys)) (size 0 (omega arith))
          ∙ of (total + slice_length x) xs ys n (omega (arith, count)) (λ k low. size (suc k) (omega (arith, low)))

  pub length_same : (n : ℕ) → length_in ys n ≡ length_in xs n
  length_same n = elim (cases_lt n (length xs)) [
    | inl low ↦
        ap (λ o. option_map_or slice_length o 0) (slice_get-get_or ys n no_array (let count = are.count in omega (arith, low, count))) ∙ are.size n low
        ∙ sym (ap (λ o. option_map_or slice_length o 0) (slice_get-get_or xs n no_array low))
    | inr past ↦
        ap (λ o. option_map_or slice_length o 0) (slice_get_past ys n (let count = are.count in omega (arith, past, count)))
        ∙ sym (ap (λ o. option_map_or slice_length o 0) (slice_get_past xs n past))
  ]

  pub joins_same : (place sectors n : ℕ) → joins ys place sectors n ≡ joins xs place sectors n
  joins_same place sectors n = elim (cases_lt n (length xs)) [
    | inl low ↦
        let fits = λ (vs : List View) (u : View). is_some (seat_of u place) && nat_le (first_in vs n + slice_length u + 33) sectors in
        ap (λ o. option_map_or (fits ys) o false) (slice_get-get_or ys n no_array (let count = are.count in omega (arith, low, count)))
        ∙ ap₂ (λ b k. b && nat_le (k + slice_length (get_or ys n no_array) + 33) sectors) (are.seat n place low) (first_same n)
        ∙ ap (λ k. is_some (seat_of (get_or xs n no_array) place) && nat_le (first_in xs n + k + 33) sectors) (are.size n low)
        ∙ sym (ap (λ o. option_map_or (fits xs) o false) (slice_get-get_or xs n no_array low))
    | inr past ↦
        none_joins ys place sectors n (let count = are.count in omega (arith, past, count)) ∙ sym (none_joins xs place sectors n past)
  ]

  pub seats_same : (place disk sectors : ℕ) (t u : Slices) → SeatsDrive ys place disk sectors t u → SeatsDrive xs place disk sectors t u
  seats_same place disk sectors t u seats = record {
    seats = seats.seats;
    own = λ d on. seats.own d on
        ∙ ap₂ (λ (j : ℕ → Bool) (l : ℕ → ℕ). if slice_of d == 0 then log_sectors else if j (slice_of d - 1) then l (slice_of d - 1) else 0)
        (λ i n. joins_same place sectors n i) (λ i n. length_same n i);
    own_firsts = λ d on some. seats.own_firsts d on some
        ∙ ap (λ (f : ℕ → ℕ). if slice_of d == 0 then state_sector else f (slice_of d - 1)) (λ i n. first_same n i);
    others = seats.others;
    firsts = seats.firsts;
  }

  -- the disk reaches those that it reached
  pub reaches_same : (place sectors : ℕ) → ReachesAll xs place sectors → ReachesAll ys place sectors
  reaches_same place sectors reaches n u at some =
      let low : n < length ys = slice_get_within ys n u at in
      let before : n < length xs = let count = are.count in omega (arith, low, count) in
      let here : u ≡ get_or ys n no_array = ap (λ o. unwrap_or o u) (sym at ∙ slice_get-get_or ys n no_array low) in
      joins_same place sectors n
      ∙ reaches n (get_or xs n no_array) (slice_get-get_or xs n no_array before) (sym (are.seat n place before) ∙ ap (λ (v : View). is_some (seat_of v place)) (sym here) ∙ some)

-- settled, the arrays have the same members
pub same_members : (r q : Arrays) (x y : RackView) → IsRunning r x → IsRunning q y → q.state.made ≡ r.state.made → KeepsArrays (raid_by r) (raid_by q)
    → AreSameMembers r.all.items q.all.items
same_members r q x y before after same keeps = record {
  count = after.count ∙ same ∙ sym before.count;
  size = λ n low. ap (λ k. k + 2048) (keeps n (made n low)).same.geometry.size;
  seat = λ n place low.
      seat_same ((raid_by r).arrays n) ((raid_by q).arrays n) (before.set.arrays n (made n low)).is_array (after.set.arrays n (subst (λ k. n < k) (sym same) (made n low))).is_array
      (keeps n (made n low)) place;
}
  where
    made : (n : ℕ) → n < length r.all.items → n < r.state.made
    made n low = let count = before.count in omega (arith, low, count)
