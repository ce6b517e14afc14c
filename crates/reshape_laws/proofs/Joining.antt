-- A member that joins: its place had no role, and takes the last position.
use Rattle.std.proofs.Common.{◌≡◌, ℕ, zero, suc, ◌+◌, ◌-◌, ◌<◌, ◌≤◌, Bool, true, false, ◌==◌, ◌&&◌, ◌||◌, nat_lt, if◌then◌else◌, List, [], ◌∷◌, ◌++◌, map, length, get_or, slice_get, count_by, Option, Some, None, option_map, unwrap_or, refl, sym, ap, ap₂, ◌∙◌, inl, inr, eq-eqb, eqb-true, lt-ltb, ltb-true, le-ltb, ltb-false, arith}
use Rattle.std.proofs.lemmas.Bool.{and_from, and_parts, cases_eq, cases_lt, ne_eqb}
use Rattle.std.proofs.lemmas.List.{map-append}
use Rattle.std.proofs.lemmas.List.FromFn.{map-range_with_len_more}
use Rattle.std.proofs.lemmas.Option.{slice_get-get_or, slice_get-map, slice_get_past}
use Rattle.std.proofs.lemmas.List.{length-append}
use Rattle.std.specs.List.{range_with_len}
use Rattle.std.specs.Option.{option_map_or}
use Rattle.shr_base.specs.declared.Id.{Id}
use Rattle.md_super.specs.Profile.{is_mirror, is_raid5}
use Rattle.array_image.specs.Supers.{has_roles, is_named, is_reshaping, named_places}
use Rattle.array_image.specs.Spent.{wanting}
use Rattle.array_model.specs.declared.Seat.{Seat}
use Rattle.array_model.specs.declared.Seat.TheVariants.{Whole, Missing, Rebuilding}
use Rattle.array_model.specs.View.{View, IsArray, place_at, seat_unless}
use Rattle.array_model.specs.Members.{members_of}
use Rattle.array_model.proofs.RowWrites.{places_apart}
use Rattle.array_core.specs.declared.Change.{Change}
use Rattle.array_core.specs.declared.slots.Slot.{Slot}
use Rattle.array_core.specs.Model.{is_truth}
use Rattle.array_core.specs.Seats.{losing, names, seat_of, slot_at}
use Rattle.array_core.specs.Slots.{place_by, places_by, slots_of}
use Rattle.array_core.specs.Superblocks.{adopted, adopted_resync, adopted_seat, adopted_slot, keeps_rows}
use Rattle.array_core.specs.Opening.{resync_by}
use Rattle.array_core.proofs.Opened.{named_place}
use Rattle.array_core.proofs.Staged.{got, slots_zipped}
use Rattle.sync_laws.proofs.Adopted.{adopted_kept, same_lists}
use Rattle.sync_laws.proofs.Supers.{slot_facts}
use Rattle.reshape_laws.specs.Ahead.{begun}
use Rattle.reshape_laws.specs.Reshapes.{lacks_joined, lacks_two}
use Rattle.reshape_laws.proofs.Begun.{begun_array, new_place}
use Rattle.reshape_laws.proofs.Roles.{count_has, nobody_next, room_left, too_many}
use Rattle.reshape_laws.proofs.StepMoves.{places, seat_kept}
use Rattle.reshape_laws.proofs.Truths.{parts_of, profile_rules}

-- ---- a place without a seat has no role

none_there : (slots : List Slot) (place k : ℕ) (s : Slot) → slot_at slots place ≡ None → slice_get slots k ≡ Some s → s.place ≡ place → ⊥
none_there [] place k s none is same = let bad : None ≡ Some s = is in cc
none_there (u ∷ slots) place zero s none is same =
    let at : u ≡ s = ap (λ o. unwrap_or o u) is in
    let found : slot_at (u ∷ slots) place ≡ Some u = ap (λ (b : Bool). if b then Some u else slot_at slots place) (eq-eqb u.place place (ap (λ (x : Slot). x.place) at ∙ same)) in
    let bad : None ≡ Some u = sym none ∙ found in
    cc
none_there (u ∷ slots) place (suc k) s none is same = by (u.place == place) none (λ rest. none_there slots place k s rest is same)
  where
    by : (b : Bool) → (if b then Some u else slot_at slots place) ≡ None → (slot_at slots place ≡ None → ⊥) → ⊥
    by true bad more = let no_slot : Some u ≡ None = bad in cc
    by false rest more = more rest

no_slot : (v : View) (place : ℕ) → seat_of v place ≡ None → slot_at (slots_of v) place ≡ None
no_slot v place = by (slot_at (slots_of v) place)
  where
    by : (o : Option Slot) → option_map (λ s. s.seat) o ≡ None → o ≡ None
    by None none = refl
    by (Some s) bad = absurd (let no_seat : Some s.seat ≡ None = bad in cc)

pub no_member : (v : View) (place k : ℕ) → IsArray v → seat_of v place ≡ None → k < v.truth.raid_disks → place_at v k ≡ place → ⊥
no_member v place k is_array joins low same =
    none_there (slots_of v) place k _ (no_slot v place joins)
    (slots_zipped (place_by v.truth) 0 v.truth.raid_disks v.seats v.devices is_array.seats is_array.devices k low)
    (ap (place_by v.truth) (let e : 0 + k ≡ k = omega arith in e) ∙ same)

module _ (v : View) (place : ℕ) (is_array : IsArray v) (truth : is_truth v.truth ≡ true) (small : place < 16) (joins : seat_of v place ≡ None) where
  has : has_roles 16 v.truth ≡ true
  has = (parts_of v.truth truth).1.1.0

  pub roles_long : length v.truth.roles.items ≡ 128
  roles_long = eqb-true (length v.truth.roles.items) 128 (profile_rules v.truth 128 (parts_of v.truth truth).0).roles

  pub most_disks : v.truth.raid_disks ≤ 16
  most_disks = by (is_mirror v.truth) is_array.most
    where
      by : (b : Bool) → v.truth.raid_disks ≤ (if b then 2 else 16) → v.truth.raid_disks ≤ 16
      by true few = omega (arith, few)
      by false few = few

  -- the members' places, by position, and after them this one
  abbrev at_place : ℕ → ℕ → Bool
  at_place n x = if n == v.truth.raid_disks then x == place else nat_lt n v.truth.raid_disks && (place_at v n == x)

  last_place : (n x : ℕ) → n ≡ v.truth.raid_disks → at_place n x ≡ (x == place)
  last_place n x at = ap (λ (b : Bool). if b then x == place else nat_lt n v.truth.raid_disks && (place_at v n == x)) (eq-eqb n v.truth.raid_disks at)

  other_place : (n x : ℕ) → (n ≡ v.truth.raid_disks → ⊥) → at_place n x ≡ (nat_lt n v.truth.raid_disks && (place_at v n == x))
  other_place n x other = ap (λ (b : Bool). if b then x == place else nat_lt n v.truth.raid_disks && (place_at v n == x)) (ne_eqb n v.truth.raid_disks other)

  member_at : (n x : ℕ) → (n ≡ v.truth.raid_disks → ⊥) → at_place n x ≡ true → (n < v.truth.raid_disks) × (place_at v n ≡ x)
  member_at n x other is =
      let both = and_parts (nat_lt n v.truth.raid_disks) (place_at v n == x) (sym (other_place n x other) ∙ is) in
      (ltb-true n v.truth.raid_disks both.0, eqb-true (place_at v n) x both.1)

  one_place : (x n m : ℕ) → at_place n x ≡ true → at_place m x ≡ true → n ≡ m
  one_place x n m first second = elim (cases_eq n v.truth.raid_disks) [
    | inl at ↦ elim (cases_eq m v.truth.raid_disks) [
      | inl also ↦ at ∙ sym also
      | inr other ↦
          let member = member_at m x other second in
          absurd (no_member v place m is_array joins member.0 (member.1 ∙ eqb-true x place (sym (last_place n x at) ∙ first)))
    ]
    | inr other ↦ elim (cases_eq m v.truth.raid_disks) [
      | inl at ↦
          let member = member_at n x other first in
          absurd (no_member v place n is_array joins member.0 (member.1 ∙ eqb-true x place (sym (last_place m x at) ∙ second)))
      | inr too ↦
          let one = member_at n x other first in
          let two = member_at m x too second in
          places_apart v n m is_array one.0 two.0 (one.1 ∙ sym two.1)
    ]
  ]

  named_once : is_named v.truth place ≡ true → (n : ℕ) → n < v.truth.raid_disks + 1 → 1 ≤ count_by (at_place n) (named_places v.truth)
  named_once named n low = elim (cases_eq n v.truth.raid_disks) [
    | inl at ↦
        let long = roles_long in
        count_has (at_place n) (is_named v.truth) 0 (length v.truth.roles.items) place (omega arith) (omega (arith, small, long)) named
        (last_place n place at ∙ eq-eqb place place refl)
    | inr other ↦
        let below : n < v.truth.raid_disks = omega (arith, low, other) in
        let few = most_disks in
        let at = is_array.placed n below in
        let long = roles_long in
        let high = at.2 in
        count_has (at_place n) (is_named v.truth) 0 (length v.truth.roles.items) at.0 (omega arith) (omega (arith, high, long))
        (named_place v.truth n at.0 (omega (arith, below, few)) at.1)
        (other_place n at.0 other
        ∙ and_from (nat_lt n v.truth.raid_disks) (place_at v n == at.0) (lt-ltb n v.truth.raid_disks below) (eq-eqb (place_at v n) at.0 (ap (λ o. unwrap_or o 16) at.1)))
  ]

  pub spare_role : 0xfffe ≤ get_or v.truth.roles.items place 0
  spare_role = elim (cases_lt (get_or v.truth.roles.items place 0) 0xfffe) [
    | inl low ↦
        let long = roles_long in
        let named : is_named v.truth place ≡ true =
        ap (λ o. option_map_or (λ r. nat_lt r 0xfffe) o false) (slice_get-get_or v.truth.roles.items place 0 (omega (arith, small, long)))
        ∙ lt-ltb (get_or v.truth.roles.items place 0) 0xfffe low in
        let count : length (named_places v.truth) ≡ v.truth.raid_disks = eqb-true (length (named_places v.truth)) v.truth.raid_disks (and_parts (length (named_places v.truth) == v.truth.raid_disks) _ has).0 in
        absurd (too_many at_place one_place (v.truth.raid_disks + 1) (named_places v.truth) (omega (arith, count)) (named_once named))
    | inr more ↦ more
  ]

  inside : place < length v.truth.roles.items
  inside = let long = roles_long in omega (arith, small, long)

  pub room_for : v.truth.raid_disks < 16
  room_for = room_left v.truth 16 place has inside small spare_role most_disks (omega arith)

  pub nobody_has : (j : ℕ) → get_or v.truth.roles.items j 0 ≡ v.truth.raid_disks → ⊥
  nobody_has j = nobody_next v.truth 16 place has inside small spare_role most_disks j (let least = is_array.least in omega (arith, least))

-- ---- the array that adopts it

map_same : {X : Type 0} (f g : ℕ → X) (a m k : ℕ) → a + m ≤ k → ((j : ℕ) → j < k → f j ≡ g j) → map f (range_with_len a m) ≡ map g (range_with_len a m)
map_same f g a zero k fits same = refl
map_same f g a (suc m) k fits same = ap₂ (λ x xs. x ∷ xs) (same a (omega (arith, fits))) (map_same f g (a + 1) m k (omega (arith, fits)) same)

map_by : {X : Type 0} (f g : ℕ → X) (xs : List ℕ) → ((x : ℕ) → f x ≡ g x) → map f xs ≡ map g xs
map_by f g [] same = refl
map_by f g (x ∷ xs) same = ap₂ (λ y ys. y ∷ ys) (same x) (map_by f g xs same)

last_got : {X : Type 0} (xs : List X) (x : X) → slice_get (xs ++ x ∷ []) (length xs) ≡ Some x
last_got [] x = refl
last_got (y ∷ xs) x = last_got xs x

module _ (v : View) (events place : ℕ) (device : Id) (is_array : IsArray v) (raid5 : is_raid5 v.truth ≡ true) (plain : is_mirror v.truth ≡ false) (still : is_reshaping v.truth ≡ false)
    (truth : is_truth v.truth ≡ true) (small : place < 16) (joins : seat_of v place ≡ None) where
  abbrev next : View
  next = begun v events place Whole device

  abbrev change : Change
  change = record { truth = (begun v events place Whole device).truth; place = None; to = 0 }

  -- the same members, and this id for a new one
  abbrev apart : Change
  apart = record { truth = record v.truth { device_id = device }; place = None; to = 0 }

  spare : 0xfffe ≤ get_or v.truth.roles.items place 0
  spare = spare_role v place is_array truth small joins

  last_is : place_at (begun v events place Whole device) v.truth.raid_disks ≡ place
  last_is =
      let long = roles_long v place is_array truth small joins in
      ap (λ o. unwrap_or o 16) (new_place v.truth.roles.items place v.truth.raid_disks (omega (arith, small, long)) (λ j low. nobody_has v place is_array truth small joins j))

  places_are : places_by (begun v events place Whole device).truth ≡ places_by v.truth ++ place ∷ []
  places_are =
      map-range_with_len_more (place_by (begun v events place Whole device).truth) 0 v.truth.raid_disks v.truth.raid_disks (omega arith)
      ∙ ap₂ (λ ps p. ps ++ p ∷ [])
      (map_same (place_by (begun v events place Whole device).truth) (place_by v.truth) 0 v.truth.raid_disks v.truth.raid_disks (omega arith)
      (λ j low. places v events place Whole device is_array plain still spare j low))
      last_is

  slot_same : (p : ℕ) → adopted_slot (slots_of v) change p ≡ adopted_slot (slots_of v) apart p
  slot_same p = by (slot_at (slots_of v) p)
    where
      seat_same : (s : Seat) → adopted_seat change p s ≡ adopted_seat apart p s
      seat_same Whole = refl
      seat_same Missing = refl
      seat_same (Rebuilding to) = refl

      by : (o : Option Slot)
          → (let made : Slot = record { place = p; seat = option_map_or (λ s. adopted_seat change p s.seat) o Whole; device = option_map_or (λ s. s.device) o device } in made)
          ≡ record { place = p; seat = option_map_or (λ s. adopted_seat apart p s.seat) o Whole; device = option_map_or (λ s. s.device) o device }
      by None = refl
      by (Some s) = ap (λ (seat : Seat). let made : Slot = record { place = p; seat = seat; device = s.device } in made) (seat_same s.seat)

  slots_are : map (adopted_slot (slots_of v) change) (places_by (begun v events place Whole device).truth)
      ≡ map (adopted_slot (slots_of v) apart) (places_by v.truth) ++ adopted_slot (slots_of v) change place ∷ []
  slots_are =
      ap (map (adopted_slot (slots_of v) change)) places_are
      ∙ map-append (adopted_slot (slots_of v) change) (places_by v.truth) (place ∷ [])
      ∙ ap (λ ss. ss ++ adopted_slot (slots_of v) change place ∷ []) (map_by (adopted_slot (slots_of v) change) (adopted_slot (slots_of v) apart) (places_by v.truth) slot_same)

  kept : ((adopted apart v).seats ≡ v.seats) × ((adopted apart v).devices ≡ v.devices)
  kept = adopted_kept apart v is_array refl refl

  seats_are : (adopted change v).seats ≡ v.seats ++ Whole ∷ []
  seats_are =
      ap (map (λ s. s.seat)) slots_are
      ∙ map-append (λ (s : Slot). s.seat) (map (adopted_slot (slots_of v) apart) (places_by v.truth)) (adopted_slot (slots_of v) change place ∷ [])
      ∙ ap₂ (λ (xs : List Seat) x. xs ++ x ∷ []) kept.0 (ap (λ (o : Option Slot). option_map_or (λ s. adopted_seat change place s.seat) o Whole) (no_slot v place joins))

  devices_are : (adopted change v).devices ≡ v.devices ++ device ∷ []
  devices_are =
      ap (map (λ s. s.device)) slots_are
      ∙ map-append (λ (s : Slot). s.device) (map (adopted_slot (slots_of v) apart) (places_by v.truth)) (adopted_slot (slots_of v) change place ∷ [])
      ∙ ap₂ (λ (xs : List Id) x. xs ++ x ∷ []) kept.1 (ap (λ (o : Option Slot). option_map_or (λ s. s.device) o device) (no_slot v place joins))

  pub adopts_member : adopted (record { truth = (begun v events place Whole device).truth; place = None; to = 0 }) v ≡ begun v events place Whole device
  adopts_member =
      let rows : keeps_rows v.truth change.truth ≡ true =
      and_from (v.truth.resync_offset == v.truth.resync_offset) (v.truth.size == v.truth.size) (eq-eqb v.truth.resync_offset v.truth.resync_offset refl) (eq-eqb v.truth.size v.truth.size refl) in
      let resync : adopted_resync v.young v.resync v.truth change.truth ≡ v.resync = ap (λ (b : Bool). if b then v.resync else resync_by v.young change.truth) rows in
      let mark : (v.marked && keeps_rows v.truth change.truth) ≡ v.marked = ap (λ (b : Bool). v.marked && b) rows ∙ and_true v.marked in
      let seats = seats_are in
      let devices = devices_are in
      λ i. record v { truth = (begun v events place Whole device).truth; seats = seats i; devices = devices i; resync = resync i; marked = mark i }
    where
      and_true : (b : Bool) → (b && true) ≡ b
      and_true true = refl
      and_true false = refl

  -- ---- and loses it, where its place isn't among those of the log's commits

  later : IsArray (begun v events place Whole device)
  later =
      begun_array v events place Whole device is_array raid5 plain (room_for v place is_array truth small joins) small (roles_long v place is_array truth small joins) spare
      (nobody_has v place is_array truth small joins)

  seat_lost : (k : ℕ) → k < v.truth.raid_disks + 1
      → slice_get (map (λ s. seat_unless (names (place ∷ [])) s.place s.seat) (slots_of next)) k ≡ slice_get (v.seats ++ Missing ∷ []) k
  seat_lost k low =
      let count = is_array.seats in
      slice_get-map (λ (s : Slot). seat_unless (names (place ∷ [])) s.place s.seat) (slots_of next) k
      ∙ ap (option_map (λ (s : Slot). seat_unless (names (place ∷ [])) s.place s.seat))
      (slots_zipped (place_by next.truth) 0 (v.truth.raid_disks + 1) next.seats next.devices later.seats later.devices k low)
      ∙ ap (λ (j : ℕ). Some (seat_unless (names (place ∷ [])) (place_by next.truth j) (unwrap_or (slice_get next.seats k) Missing))) (let e : 0 + k ≡ k = omega arith in e)
      ∙ elim (cases_eq k v.truth.raid_disks) [
        | inl at ↦
            ap (λ (b : Bool). Some (if b then Missing else unwrap_or (slice_get next.seats k) Missing))
            (ap (λ (b : Bool). b || false) (eq-eqb place (place_by next.truth k) (sym (ap (place_by next.truth) at ∙ last_is))))
            ∙ sym (ap (slice_get (v.seats ++ Missing ∷ [])) (at ∙ sym count) ∙ last_got v.seats Missing)
        | inr other ↦
            let below : k < v.truth.raid_disks = omega (arith, low, other) in
            ap (λ (b : Bool). Some (if b then Missing else unwrap_or (slice_get next.seats k) Missing))
            (ap (λ (b : Bool). b || false) (ne_eqb place (place_by next.truth k)
            (λ same. no_member v place k is_array joins below (sym (places v events place Whole device is_array plain still spare k below) ∙ sym same))))
            ∙ ap (λ (o : Option Seat). Some (unwrap_or o Missing)) (seat_kept v events place Whole device is_array plain still spare v.seats Whole k (omega (arith, below, count)))
            ∙ sym (got v.seats k Missing (omega (arith, below, count)))
            ∙ sym (seat_kept v events place Whole device is_array plain still spare v.seats Missing k (omega (arith, below, count)))
      ]

  seat_past : (k : ℕ) → v.truth.raid_disks + 1 ≤ k
      → slice_get (map (λ s. seat_unless (names (place ∷ [])) s.place s.seat) (slots_of next)) k ≡ slice_get (v.seats ++ Missing ∷ []) k
  seat_past k past =
      let count = is_array.seats in
      let long : length (v.seats ++ Missing ∷ []) ≡ length v.seats + 1 = length-append v.seats (Missing ∷ []) in
      slice_get-map (λ (s : Slot). seat_unless (names (place ∷ [])) s.place s.seat) (slots_of next) k
      ∙ ap (option_map (λ (s : Slot). seat_unless (names (place ∷ [])) s.place s.seat)) (none_past (slice_get (slots_of next) k) refl)
      ∙ sym (slice_get_past (v.seats ++ Missing ∷ []) k (omega (arith, past, count, long)))
    where
      none_past : (o : Option Slot) → slice_get (slots_of next) k ≡ o → slice_get (slots_of next) k ≡ None
      none_past None is = is
      none_past (Some s) is = let facts = slot_facts next k s later is in let low = facts.0 in absurd (omega (arith, past, low))

  pub loses_member : losing (place ∷ []) (begun v events place Whole device) ≡ begun v events place Missing device
  loses_member =
      let seats : map (λ s. seat_unless (names (place ∷ [])) s.place s.seat) (slots_of next) ≡ v.seats ++ Missing ∷ [] =
      same_lists (map (λ s. seat_unless (names (place ∷ [])) s.place s.seat) (slots_of next)) (v.seats ++ Missing ∷ [])
      (λ k. elim (cases_lt k (v.truth.raid_disks + 1)) [ inl low ↦ seat_lost k low | inr past ↦ seat_past k past ]) in
      λ i. record (begun v events place Missing device) { seats = seats i }

-- where two aren't wanting with the joining place, they aren't without it
pub joined_few : (v : View) (on : List ℕ) (place : ℕ) → lacks_joined v on place ≡ false → lacks_two v ≡ false
joined_few v on place few =
    let low = ltb-false 1 ((if names on place then 0 else 1) + wanting (v.truth.size - 1) (members_of v)) few in
    le-ltb 1 (wanting (v.truth.size - 1) (members_of v)) (omega (arith, low))
