-- The members of a new drive are those of its place, where its disk reaches each array that the place is a member of.
use Rattle.std.proofs.Common.{◌≡◌, ℕ, zero, suc, ◌+◌, ◌<◌, ◌≤◌, ◌==◌, ◌&&◌, ◌||◌, not, nat_le, if◌then◌else◌, Bool, true, false, List, [], ◌∷◌, is_some, length, map, unwrap_or, Option, Some, option_map, refl, sym, ap, ◌∙◌, inl, inr, eq-eqb, eqb-true, arith}
use Rattle.std.specs.List.{list_any, range_with_len, zip}
use Rattle.std.specs.Option.{option_map_or}
use Rattle.std.proofs.lemmas.Bool.{both_ways, cases_eq}
use Rattle.shr_base.specs.declared.Id.{Id}
use Rattle.md_super.specs.declared.superblock.Super.{Super}
use Rattle.array_image.specs.Arrays.{place_with}
use Rattle.md_super.specs.Profile.{is_mirror}
use Rattle.array_image.specs.Supers.{is_named}
use Rattle.pool_state.specs.declared.contents.State.{State}
use Rattle.rack.specs.Seen.{RackView}
use Rattle.raid_laws.specs.Moves.{IsSeated}
use Rattle.pool_model.proofs.Roles.{named_position}
use Rattle.array_core.specs.Seats.{seat_of, slot_at}
use Rattle.array_core.specs.Slots.{place_by, places_by, slot_with}
use Rattle.array_core.specs.declared.slots.Slot.{Slot}
use Rattle.array_core.proofs.Opened.{length_ranged, named_place}
use Rattle.array_model.specs.declared.Seat.{Seat}
use Rattle.array_model.specs.View.{HasGeometry, View}
use Rattle.pool_image.specs.Drives.{Found}
use Rattle.pool_image.specs.Meaning.{is_member, truth_of}
use Rattle.raid_laws.specs.NewDrive.{first_in, is_reached, joins, slice_length}
use Rattle.raid_laws.specs.Raid.{Raid}
use Rattle.pool_model.specs.Taken.{views_of}
use Rattle.pool_model.proofs.Beginnings.{view_at}

abbrev among : List ℕ → ℕ → Bool
among ps place = list_any (λ p. p == place) ps

-- a member on a place
seat_among : (place : ℕ) (ps : List ℕ) (seats : List Seat) (devices : List Id) → length seats ≡ length ps → length devices ≡ length ps
    → is_some (option_map (λ (s : Slot). s.seat) (slot_at (map slot_with (zip ps (zip seats devices))) place)) ≡ among ps place
seat_among place [] seats devices one two = refl
seat_among place (p ∷ ps) [] devices one two = absurd (omega (arith, one))
seat_among place (p ∷ ps) (x ∷ seats) [] one two = absurd (omega (arith, two))
seat_among place (p ∷ ps) (x ∷ seats) (d ∷ devices) one two =
    of (p == place) (seat_among place ps seats devices (omega (arith, one)) (omega (arith, two)))
  where
    of : (b : Bool) → is_some (option_map (λ (s : Slot). s.seat) (slot_at (map slot_with (zip ps (zip seats devices))) place)) ≡ among ps place
        → is_some (option_map (λ (s : Slot). s.seat) (if b then Some (slot_with (p, (x, d))) else slot_at (map slot_with (zip ps (zip seats devices))) place))
        ≡ (b || among ps place)
    of true rest = refl
    of false rest = rest

-- a place that is the one of a position
from_position : (g : ℕ → ℕ) (place a m : ℕ) → among (map g (range_with_len a m)) place ≡ true → (k : ℕ) × (k < a + m) × (g k ≡ place)
from_position g place a zero is = absurd (both_ways false refl is)
from_position g place a (suc m) is = of (g a == place) refl is (λ named. from_position g place (a + 1) m named)
  where
    of : (b : Bool) → (g a == place) ≡ b → (b || among (map g (range_with_len (a + 1) m)) place) ≡ true
        → (among (map g (range_with_len (a + 1) m)) place ≡ true → (k : ℕ) × (k < a + 1 + m) × (g k ≡ place)) → (k : ℕ) × (k < a + suc m) × (g k ≡ place)
    of true same named later = (a, omega arith, eqb-true (g a) place same)
    of false other named later = (let rest = later named in let low = rest.1 in (rest.0, (let e : rest.0 < a + suc m = omega (arith, low) in e), rest.2))

to_position : (g : ℕ → ℕ) (place a m k : ℕ) → a ≤ k → k < a + m → g k ≡ place → among (map g (range_with_len a m)) place ≡ true
to_position g place a zero k least most same = absurd (omega (arith, least, most))
to_position g place a (suc m) k least most same = elim (cases_eq a k) [
  | inl here ↦ ap (λ (b : Bool). b || among (map g (range_with_len (a + 1) m)) place) (eq-eqb (g a) place (ap g here ∙ same))
  | inr other ↦ of (g a == place) (to_position g place (a + 1) m k (omega (arith, least, other)) (omega (arith, most)) same)
]
  where
    of : (b : Bool) → among (map g (range_with_len (a + 1) m)) place ≡ true → (b || among (map g (range_with_len (a + 1) m)) place) ≡ true
    of true rest = refl
    of false rest = rest

-- an array whose positions have places, and each place that its roles name is that of a position
pub record HasPositions (u : View) : Type 0 where
  pub few : u.truth.raid_disks ≤ 16
  pub seats : length u.seats ≡ u.truth.raid_disks
  pub devices : length u.devices ≡ u.truth.raid_disks
  pub placed : (k : ℕ) → k < u.truth.raid_disks → (p : ℕ) × (place_with u.truth.roles.items k ≡ Some p)
  pub named : (p : ℕ) → is_named u.truth p ≡ true → (k : ℕ) × (k < u.truth.raid_disks) × (place_with u.truth.roles.items k ≡ Some p)

-- so has each array of a book whose arrays are seated
pub positions_of : (s : State) (n : ℕ) (u : View) (x : RackView) → IsSeated s n u x → HasPositions u
positions_of s n u x is =
    let few : u.truth.raid_disks ≤ 16 = by (is_mirror u.truth) is.is_array.most in
    record {
      few = few;
      seats = is.is_array.seats;
      devices = is.is_array.devices;
      placed = λ k low. let one = is.is_array.placed k low in (one.0, one.1);
      named = λ p named. named_position u.truth p (length s.drives.items) is.is_of_pool.roles (λ k low. let one = is.is_array.placed k low in (one.0, one.1)) few named;
    }
  where
    by : (b : Bool) → u.truth.raid_disks ≤ (if b then 2 else 16) → u.truth.raid_disks ≤ 16
    by true most = omega (arith, most)
    by false most = most

pub seat_named : (u : View) (place : ℕ) → HasPositions u → is_some (seat_of u place) ≡ is_named u.truth place
seat_named u place has =
    let many = length_ranged (place_by u.truth) 0 u.truth.raid_disks in
    seat_among place (places_by u.truth) u.seats u.devices (has.seats ∙ sym many) (has.devices ∙ sym many) ∙ by (among (places_by u.truth) place) (is_named u.truth place) refl refl
  where
    by : (a b : Bool) → among (places_by u.truth) place ≡ a → is_named u.truth place ≡ b → a ≡ b
    by true true is named = refl
    by false false is named = refl
    by true false is named =
        let one = from_position (place_by u.truth) place 0 u.truth.raid_disks is in
        let low : one.0 < u.truth.raid_disks = (let at = one.1 in omega (arith, at)) in
        let at = has.placed one.0 low in
        let same : at.0 ≡ place = sym (ap (λ o. unwrap_or o 16) at.1) ∙ one.2 in
        absurd (both_ways (is_named u.truth place) named
        (named_place u.truth one.0 place (let few = has.few in omega (arith, low, few)) (at.1 ∙ ap Some same)))
    by false true is named =
        let one = has.named place named in
        absurd (both_ways (among (places_by u.truth) place) is
        (to_position (place_by u.truth) place 0 u.truth.raid_disks one.0 (omega arith) (let low = one.1 in omega (arith, low)) (ap (λ o. unwrap_or o 16) one.2)))

module _ (f : Found) (v : Raid) (place sectors n : ℕ) (u : Super) (low : n < v.state.made) (truth : truth_of f n ≡ Some u)
    (geometry : HasGeometry u (v.arrays n).truth) (has : HasPositions (v.arrays n)) (reached : is_reached (views_of v) place sectors n ≡ true) where
  abbrev fits : Bool
  fits = nat_le (first_in (views_of v) n + slice_length (v.arrays n) + 33) sectors

  joins_is : joins (views_of v) place sectors n ≡ (is_some (seat_of (v.arrays n) place) && fits)
  joins_is =
      ap (λ o. option_map_or (λ (z : View). is_some (seat_of z place) && nat_le (first_in (views_of v) n + slice_length z + 33) sectors) o false) (view_at v n low)

  reached_is : (not (is_some (seat_of (v.arrays n) place)) || joins (views_of v) place sectors n) ≡ true
  reached_is =
      sym (ap (λ o. option_map_or (λ (z : View). not (is_some (seat_of z place))) o true || joins (views_of v) place sectors n) (view_at v n low)) ∙ reached

  joins_seat : joins (views_of v) place sectors n ≡ is_some (seat_of (v.arrays n) place)
  joins_seat = by (is_some (seat_of (v.arrays n) place)) joins_is reached_is
    where
      by : (b : Bool) → joins (views_of v) place sectors n ≡ (b && fits) → (not b || joins (views_of v) place sectors n) ≡ true → joins (views_of v) place sectors n ≡ b
      by true is all = all
      by false is all = is

  pub joins_member : joins (views_of v) place sectors n ≡ is_member f n place
  joins_member =
      joins_seat ∙ seat_named (v.arrays n) place has
      ∙ ap (λ roles. is_named (record u { roles = roles }) place) geometry.roles
      ∙ sym (ap (λ (o : Option Super). option_map_or (λ z. is_named z place) o false) truth)
