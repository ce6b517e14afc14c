-- Members of a new drive that are to be rebuilt: which they are, and what doesn't change of their arrays.
use Rattle.std.proofs.Common.{◌≡◌, ◌≢◌, ◌⊎◌, ℕ, zero, suc, ◌+◌, ◌%◌, ◌<◌, ◌≤◌, ◌==◌, ◌&&◌, ◌||◌, not, nat_le, nat_lt, Bool, true, false, if◌then◌else◌, List, [], ◌∷◌, get_or, is_ok, is_some, length, slice_get, Option, Some, None, option_map, refl, sym, ap, subst, ◌∙◌, inl, inr, eq-eqb, eqb-true, ltb-true, arith}
use Rattle.std.specs.List.{range_with_len}
use Rattle.std.specs.Option.{option_map_or}
use Rattle.std.proofs.lemmas.Bool.{and_parts, both_ways, cases_Bool, cases_lt, ne_eqb}
use Rattle.std.proofs.lemmas.List.{length-map}
use Rattle.std.proofs.lemmas.Option.{slice_get-get_or, slice_get_past}
use Rattle.rack.specs.Seen.{RackView}
use Rattle.shr_base.specs.declared.Id.{Id}
use Rattle.md_super.specs.declared.superblock.Super.{Super}
use Rattle.md_super.specs.Profile.{is_height_of, profiled, rules}
use Rattle.pool_state.specs.declared.contents.State.{State}
use Rattle.array_image.specs.Arrays.{Member}
use Rattle.array_image.specs.Places.{array_id, data_sector, member_slice}
use Rattle.array_image.specs.States.{is_current}
use Rattle.array_image.specs.Supers.{has_roles}
use Rattle.commit_log.proofs.Deciding.{names_first}
use Rattle.array_model.specs.declared.Seat.{Seat}
use Rattle.array_model.specs.declared.Seat.TheVariants.{Missing, Rebuilding, Whole}
use Rattle.array_model.specs.View.{View, IsArray, has_gone, is_missing_seat, member_by_seat, member_on, place_at, shape_of}
use Rattle.array_core.specs.declared.slots.Slot.{Slot}
use Rattle.array_core.specs.Seats.{names, renewed, seat_of, slot_at}
use Rattle.array_core.specs.Slots.{place_by, slots_of}
use Rattle.array_core.proofs.Truths.{rule_holds}
use Rattle.raid_rack.specs.declared.arrays.Arrays.{Arrays}
use Rattle.raid_laws.specs.Enlisting.{renewed_at}
use Rattle.raid_laws.specs.Moves.{IsOfPool, IsSeated, IsUnmarked}
use Rattle.raid_laws.specs.NewDrive.{first_in, joins, slice_length}
use Rattle.raid_rack.specs.RaidRack.{IsRunning, no_array, raid_by}
use Rattle.raid_laws.proofs.Alike.{CountAlike, counting, counting_map}
use Rattle.raid_rack.proofs.LayingDrive.{joins_fits}
use Rattle.raid_laws.proofs.Agreed.{slots_count}
use Rattle.raid_laws.proofs.Rows.{KeepsClear}
use Rattle.raid_laws.proofs.Seated.{missing_of as missing_at, seats_length, zip_seats}
use Rattle.raid_laws.proofs.Settling.{slot_facts}

-- ---- a member on a place whose drive is missing is missing

found : (place : ℕ) (slots : List Slot) (s : Slot) → slot_at slots place ≡ Some s → (k : ℕ) × (slice_get slots k ≡ Some s) × (s.place ≡ place)
found place [] s is = cc
found place (x ∷ slots) s is =
    elim (cases_Bool (x.place == place)) [
      | inl here ↦
          let same : x ≡ s = some_same (sym (ap (λ b. if b then Some x else slot_at slots place) here) ∙ is) in
          (0, ap Some same, sym (ap (λ (z : Slot). z.place) same) ∙ eqb-true x.place place here)
      | inr other ↦
          let rest = found place slots s (sym (ap (λ b. if b then Some x else slot_at slots place) other) ∙ is) in
          (suc rest.0, rest.1, rest.2)
    ]
  where
    some_same : {x y : Slot} → Some x ≡ Some y → x ≡ y
    some_same e = cc

missing_of : (seat : Seat) → is_missing_seat seat ≡ true → seat ≡ Missing
missing_of Missing is = refl
missing_of Whole is = absurd (both_ways false refl is)
missing_of (Rebuilding to) is = absurd (both_ways false refl is)

pub seat_missing : (s : State) (n : ℕ) (u : View) (x : RackView) (place : ℕ) → IsSeated s n u x → is_current s place ≡ false → is_some (seat_of u place) ≡ true
    → seat_of u place ≡ Some Missing
seat_missing s n u x place seated gone some = of (slot_at (slots_of u) place) refl some
  where
    same_seat : {a b : Bool} → Some a ≡ Some b → a ≡ b
    same_seat e = cc

    of : (o : Option Slot) → slot_at (slots_of u) place ≡ o → is_some (option_map (λ (s : Slot). s.seat) o) ≡ true → seat_of u place ≡ Some Missing
    of None none is = absurd (both_ways false refl is)
    of (Some slot) at is =
        let there = found place (slots_of u) slot at in
        let facts = slot_facts u there.0 slot seated.is_array there.1 in
        let on : place_at u there.0 ≡ place = sym facts.1 ∙ there.2 in
        let marks = sym (ap (option_map is_missing_seat) facts.2) ∙ seated.marks there.0 facts.0
        ∙ ap (λ q. Some (not (is_current s q && not (has_gone u q)))) on ∙ ap (λ b. Some (not (b && not (has_gone u place)))) gone in
        ap (option_map (λ (z : Slot). z.seat)) at ∙ ap Some (missing_of slot.seat (same_seat marks))

-- where its disk is to have a slice, it is
pub joins_missing : (r : Arrays) (x : RackView) (place sectors n : ℕ) → IsRunning r x → is_current r.state place ≡ false → joins r.all.items place sectors n ≡ true
    → seat_of ((raid_by r).arrays n) place ≡ Some Missing
joins_missing r x place sectors n running gone is =
    let low = (joins_fits r.all.items place sectors n is).0 in
    let count = running.count in
    let here = slice_get-get_or r.all.items n no_array low in
    let both : (is_some (seat_of ((raid_by r).arrays n) place) && nat_le (first_in r.all.items n + slice_length ((raid_by r).arrays n) + 33) sectors) ≡ true =
    sym (ap (λ o. option_map_or (λ (u : View). is_some (seat_of u place) && nat_le (first_in r.all.items n + slice_length u + 33) sectors) o false) here) ∙ is in
    seat_missing r.state n ((raid_by r).arrays n) x place (running.set.arrays n (omega (arith, low, count))) gone (and_parts _ _ both).0

-- the place of a member has one
found_some : (slots : List Slot) (k place : ℕ) (s : Slot) → slice_get slots k ≡ Some s → s.place ≡ place
    → is_some (option_map (λ (z : Slot). z.seat) (slot_at slots place)) ≡ true
found_some [] k place s at here = cc
found_some (x ∷ slots) zero place s at here =
    ap (λ b. is_some (option_map (λ (z : Slot). z.seat) (if b then Some x else slot_at slots place)))
    (eq-eqb x.place place (ap (λ o. option_map_or (λ (z : Slot). z.place) o place) at ∙ here))
found_some (x ∷ slots) (suc k) place s at here =
    elim (cases_Bool (x.place == place)) [
      | inl first ↦ ap (λ b. is_some (option_map (λ (z : Slot). z.seat) (if b then Some x else slot_at slots place))) first
      | inr other ↦
          ap (λ b. is_some (option_map (λ (z : Slot). z.seat) (if b then Some x else slot_at slots place))) other
          ∙ found_some slots k place s at here
    ]

pub member_found : (u : View) (place k : ℕ) → IsArray u → k < u.truth.raid_disks → place_at u k ≡ place → is_some (seat_of u place) ≡ true
member_found u place k is_array low here =
    let slot = get_or (slots_of u) k no_slot in
    let is = slice_get-get_or (slots_of u) k no_slot (let count = slots_count u is_array.seats is_array.devices in omega (arith, low, count)) in
    found_some (slots_of u) k place slot is ((slot_facts u k slot is_array is).1 ∙ here)
  where
    no_slot : Slot
    no_slot = record { place = 0; seat = Missing; device = record { 0 = [] } }

pub found_member : (u : View) (place : ℕ) → IsArray u → is_some (seat_of u place) ≡ true → (k : ℕ) × (k < u.truth.raid_disks) × (place_at u k ≡ place)
found_member u place is_array some = of (slot_at (slots_of u) place) refl some
  where
    of : (o : Option Slot) → slot_at (slots_of u) place ≡ o → is_some (option_map (λ (s : Slot). s.seat) o) ≡ true
        → (k : ℕ) × (k < u.truth.raid_disks) × (place_at u k ≡ place)
    of None none is = absurd (both_ways false refl is)
    of (Some slot) at is =
        let there = found place (slots_of u) slot at in
        let facts = slot_facts u there.0 slot is_array there.1 in
        (there.0, facts.0, sym facts.1 ∙ there.2)

-- ---- arrays with renewed members

pub renewed_get : (xs ys : List View) (place : ℕ) (drive : Id) (joining : ℕ → Bool) (n : ℕ) → slice_get ys n ≡ renewed_at place drive joining n (slice_get xs n)
    → n < length xs → get_or ys n no_array ≡ (if joining n then renewed place drive (get_or xs n no_array) else get_or xs n no_array)
renewed_get xs ys place drive joining n is low =
    let here = is ∙ ap (renewed_at place drive joining n) (slice_get-get_or xs n no_array low) in
    got ys n here
  where
    got : (zs : List View) (k : ℕ) {z : View} → slice_get zs k ≡ Some z → get_or zs k no_array ≡ z
    got [] k at = cc
    got (x ∷ zs) zero at = cc
    got (x ∷ zs) (suc k) at = got zs k at

pub renewed_number : (b : Bool) (place : ℕ) (drive : Id) (u : View) → (if b then renewed place drive u else u).number ≡ u.number
renewed_number true place drive u = refl
renewed_number false place drive u = refl

pub renewed_unmarked : (b : Bool) (place : ℕ) (drive : Id) (u : View) → IsUnmarked u → IsUnmarked (if b then renewed place drive u else u)
renewed_unmarked true place drive u is = record { mark = is.mark; rows = is.rows }
renewed_unmarked false place drive u is = is

-- as many
pub renewed_count : (xs ys : List View) (place : ℕ) (drive : Id) (joining : ℕ → Bool) → ((n : ℕ) → slice_get ys n ≡ renewed_at place drive joining n (slice_get xs n))
    → length ys ≡ length xs
renewed_count [] [] place drive joining each = refl
renewed_count [] (y ∷ ys) place drive joining each = let at = each 0 in cc
renewed_count (x ∷ xs) [] place drive joining each = let at = each 0 in cc
renewed_count (x ∷ xs) (y ∷ ys) place drive joining each = ap suc (renewed_count xs ys place drive (λ n. joining (suc n)) (λ n. each (suc n)))

pub renewed_went : (b : Bool) (place : ℕ) (drive : Id) (u : View) → (if b then renewed place drive u else u).went ≡ u.went
renewed_went true place drive u = refl
renewed_went false place drive u = refl

pub renewed_truth : (b : Bool) (place : ℕ) (drive : Id) (u : View) → (if b then renewed place drive u else u).truth ≡ u.truth
renewed_truth true place drive u = refl
renewed_truth false place drive u = refl

pub renewed_resync : (b : Bool) (place : ℕ) (drive : Id) (u : View) → (if b then renewed place drive u else u).resync ≡ u.resync
renewed_resync true place drive u = refl
renewed_resync false place drive u = refl

pub renewed_clear : (b : Bool) (place : ℕ) (drive : Id) (u : View) → KeepsClear u (if b then renewed place drive u else u)
renewed_clear true place drive u = record { resync = refl; young = refl; settled = λ young is. is }
renewed_clear false place drive u = record { resync = refl; young = refl; settled = λ young is. is }

-- ---- one of them, by a state that has the place as current

-- by a state one place more is current, and it is the same in all else that arrays go by
pub record Lists (s : State) (place : ℕ) (t : State) : Type 0 where
  pub current : (p : ℕ) → is_current t p ≡ ((p == place) || is_current s p)
  pub pool : t.pool ≡ s.pool
  pub extent : t.extent ≡ s.extent
  pub drives : length t.drives.items ≡ length s.drives.items

-- a pool's members have data
pub sized_truth : (t : Super) (extent : ℕ) → is_ok (profiled t extent) ≡ true → 0 < t.size
sized_truth t extent ok =
    let size = and_parts (is_height_of extent t.size) (t.size == t.data_size) (rule_holds 5 (rules t extent) ok) in
    let high = ltb-true 2048 t.size (and_parts (nat_lt 2048 t.size) _ size.0).0 in
    omega (arith, high)

-- a member's seat, renewed where it is on the place
abbrev renew_seat : ℕ → ℕ → Seat → Seat
renew_seat place p seat = if names (place ∷ []) p then Rebuilding 0 else seat

-- how the member of a position counts by its seat
abbrev counting_by : View → ℕ → Option Seat → Member
counting_by u k o = counting (member_by_seat u.truth.size (place_at u k) o)

module _ (s t : State) (n : ℕ) (u : View) (x : RackView) (place : ℕ) (drive : Id) (lists : Lists s place t) (missing : is_current s place ≡ false)
    (seated : IsSeated s n u x) (heeded : u.went ≡ []) where
  pool_listed : IsUnmarked u → IsOfPool t u
  pool_listed unmarked =
      let pool = seated.is_of_pool in
      record {
        set = pool.set ∙ ap (λ (id : Id). array_id id.0 u.number) (sym lists.pool);
        profile = ap (λ e. is_ok (profiled u.truth e)) lists.extent ∙ pool.profile;
        events = pool.events;
        events_end = pool.events_end;
        row = pool.row;
        roles = ap (λ k. has_roles k u.truth) lists.drives ∙ pool.roles;
        unsynced = pool.unsynced;
        synced = λ young part. inl (unmarked.rows young);
        zeroed = pool.zeroed;
        rows = pool.rows;
      }

  marks_apart : (k : ℕ) → k < u.truth.raid_disks → place_at u k ≢ place
      → option_map is_missing_seat (slice_get u.seats k) ≡ Some (not (is_current t (place_at u k) && not (has_gone u (place_at u k))))
  marks_apart k low away =
      seated.marks k low
      ∙ ap (λ b. Some (not (b && not (has_gone u (place_at u k)))))
      (sym (lists.current (place_at u k) ∙ ap (λ b. b || is_current s (place_at u k)) (ne_eqb (place_at u k) place away)))

  -- one of which the place is no member is as it was
  pub seated_listed : IsUnmarked u → ((k : ℕ) → k < u.truth.raid_disks → place_at u k ≢ place) → IsSeated t n u x
  seated_listed unmarked away = record {
    is_array = seated.is_array;
    number = seated.number;
    slices = seated.slices;
    marks = λ k low. marks_apart k low (away k low);
    is_of_pool = pool_listed unmarked;
  }

  is_own : (p : ℕ) → names (place ∷ []) p ≡ true → p ≡ place
  is_own p is = sym (eqb-true place p (or_none (place == p) is))
    where
      or_none : (b : Bool) → (b || false) ≡ true → b ≡ true
      or_none true is = refl
      or_none false is = is

  is_other : (p : ℕ) → names (place ∷ []) p ≡ false → p ≢ place
  is_other p is here = both_ways (names (place ∷ []) p) is (ap (names (place ∷ [])) here ∙ names_first place [])

  seats : (k : ℕ) → slice_get (renewed place drive u).seats k ≡ option_map (renew_seat place (place_at u k)) (slice_get u.seats k)
  seats k =
      zip_seats (renew_seat place) (place_by u.truth) 0 u.truth.raid_disks u.seats u.devices k seated.is_array.seats seated.is_array.devices
      ∙ ap (λ (p : ℕ). option_map (renew_seat place (place_by u.truth p)) (slice_get u.seats k)) (let e : 0 + k ≡ k = omega arith in e)

  seats_other : (k : ℕ) → names (place ∷ []) (place_at u k) ≡ false → slice_get (renewed place drive u).seats k ≡ slice_get u.seats k
  seats_other k other =
      seats k ∙ ap (λ (b : Bool). option_map (λ (seat : Seat). if b then Rebuilding 0 else seat) (slice_get u.seats k)) other ∙ same (slice_get u.seats k)
    where
      same : (o : Option Seat) → option_map (λ (seat : Seat). seat) o ≡ o
      same None = refl
      same (Some seat) = refl

  seats_own : (k : ℕ) → names (place ∷ []) (place_at u k) ≡ true → slice_get (renewed place drive u).seats k ≡ option_map (λ seat. Rebuilding 0) (slice_get u.seats k)
  seats_own k own = seats k ∙ ap (λ (b : Bool). option_map (λ (seat : Seat). if b then Rebuilding 0 else seat) (slice_get u.seats k)) own

  -- its seat was empty
  vacant : (k : ℕ) → names (place ∷ []) (place_at u k) ≡ true → (slice_get u.seats k ≡ Some Missing) ⊎ (slice_get u.seats k ≡ None)
  vacant k own =
      elim (cases_lt k u.truth.raid_disks) [
        | inl low ↦
            inl (missing_at (slice_get u.seats k) (is_current s (place_at u k)) (has_gone u (place_at u k)) (ap (is_current s) (is_own (place_at u k) own) ∙ missing) (seated.marks k low))
        | inr past ↦ inr (slice_get_past u.seats k (let count = seated.is_array.seats in omega (arith, count, past)))
      ]

  -- so its members count as they did, though that one is there now
  pub renewed_alike : CountAlike (shape_of u) (shape_of (renewed place drive u))
  unfolding shape_of
  renewed_alike = record {
    members = counting_map (member_on (renewed place drive u)) (member_on u) (range_with_len 0 u.truth.raid_disks) same;
    size = refl;
    moved = refl;
    layout = refl;
    reached = refl;
  }
    where
      none_yet : (k : ℕ) (o : Option Seat) → (o ≡ Some Missing) ⊎ (o ≡ None) → counting_by u k (option_map (λ seat. Rebuilding 0) o) ≡ counting_by u k o
      none_yet k o (inl is) = ap (λ q. counting_by u k (option_map (λ seat. Rebuilding 0) q)) is ∙ sym (ap (counting_by u k) is)
      none_yet k o (inr is) = ap (λ q. counting_by u k (option_map (λ seat. Rebuilding 0) q)) is ∙ sym (ap (counting_by u k) is)

      same : (k : ℕ) → counting (member_on (renewed place drive u) k) ≡ counting (member_on u k)
      same k =
          elim (cases_Bool (names (place ∷ []) (place_at u k))) [
            | inl own ↦ ap (counting_by u k) (seats_own k own) ∙ none_yet k (slice_get u.seats k) (vacant k own)
            | inr other ↦ ap (counting_by u k) (seats_other k other)
          ]

  -- and it is one of the pool, where the place has its slice
  pub seated_renewed : IsUnmarked u → member_slice place n < x.disks → data_sector + u.truth.size ≤ x.sectors (member_slice place n) → IsSeated t n (renewed place drive u) x
  seated_renewed unmarked low_disk room =
      let a = seated.is_array in
      let pool = pool_listed unmarked in
      record {
        is_array = record {
          few = a.few;
          level = a.level;
          least = a.least;
          most = a.most;
          seats = seats_length (renewed place drive u).seats u.seats (λ k. renew_seat place (place_at u k)) seats ∙ a.seats;
          devices = length-map (slots_of u) _ ∙ slots_count u a.seats a.devices;
          small = a.small;
          whole_rows = a.whole_rows;
          placed = a.placed;
          synced = a.synced;
          reshape = a.reshape;
        };
        number = seated.number;
        slices = record {
          fit = seated.slices.fit;
          lasting = seated.slices.lasting;
          disks = λ k low there.
              elim (cases_Bool (names (place ∷ []) (place_at u k))) [
                | inl own ↦
                    subst (λ j. member_slice (place_at u k) j < x.disks) (sym seated.number)
                    (subst (λ p. member_slice p n < x.disks) (sym (is_own (place_at u k) own)) low_disk)
                | inr other ↦ seated.slices.disks k low (λ is. there (seats_other k other ∙ is))
              ];
          sectors = λ k low there.
              elim (cases_Bool (names (place ∷ []) (place_at u k))) [
                | inl own ↦
                    subst (λ j. data_sector + u.truth.size ≤ x.sectors (member_slice (place_at u k) j)) (sym seated.number)
                    (subst (λ p. data_sector + u.truth.size ≤ x.sectors (member_slice p n)) (sym (is_own (place_at u k) own)) room)
                | inr other ↦ seated.slices.sectors k low (λ is. there (seats_other k other ∙ is))
              ];
        };
        marks = λ k low.
            elim (cases_Bool (names (place ∷ []) (place_at u k))) [
              | inl own ↦
                  let here = is_own (place_at u k) own in
                  ap (option_map is_missing_seat) (seats_own k own)
                  ∙ there_now (slice_get u.seats k) _ (seated.marks k low)
                  ∙ sym (ap (λ b. Some (not (b && not (has_gone u (place_at u k)))))
                  (lists.current (place_at u k) ∙ ap (λ b. b || is_current s (place_at u k)) (eq-eqb (place_at u k) place here))
                  ∙ ap (λ ps. Some (not (true && not (names ps (place_at u k))))) heeded)
              | inr other ↦ ap (option_map is_missing_seat) (seats_other k other) ∙ marks_apart k low (is_other (place_at u k) other)
            ];
        is_of_pool = record {
          set = pool.set;
          profile = pool.profile;
          events = pool.events;
          events_end = pool.events_end;
          row = pool.row;
          roles = pool.roles;
          unsynced = pool.unsynced;
          synced = λ young part. inl (unmarked.rows young);
          zeroed = pool.zeroed;
          rows = λ k to is.
              elim (cases_Bool (names (place ∷ []) (place_at u k))) [
                | inl own ↦ from_start (slice_get u.seats k) to (sym (seats_own k own) ∙ is)
                | inr other ↦ seated.is_of_pool.rows k to (sym (seats_other k other) ∙ is)
              ];
        };
      }
    where
      there_now : (o : Option Seat) (b : Bool) → option_map is_missing_seat o ≡ Some b → option_map is_missing_seat (option_map (λ seat. Rebuilding 0) o) ≡ Some false
      there_now None b is = absurd (let bad : None ≡ Some b = is in cc)
      there_now (Some seat) b is = refl

      same_to : (j k : ℕ) → Some (Rebuilding j) ≡ Some (Rebuilding k) → j ≡ k
      same_to j k is = cc

      from_start : (o : Option Seat) (to : ℕ) → option_map (λ seat. Rebuilding 0) o ≡ Some (Rebuilding to) → (to % 128 ≡ 0) × (to < u.truth.size)
      from_start None to is = cc
      from_start (Some seat) to is =
          subst (λ k. (k % 128 ≡ 0) × (k < u.truth.size)) (same_to 0 to is) (refl, sized_truth u.truth s.extent seated.is_of_pool.profile)
