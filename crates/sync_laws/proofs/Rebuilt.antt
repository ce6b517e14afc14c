-- An array before and after a row of one of its members is rebuilt.
use Rattle.std.proofs.Common.{◌≡◌, ◌⊎◌, ℕ, zero, suc, ◌+◌, ◌-◌, ◌*◌, ◌/◌, ◌%◌, ◌<◌, ◌≤◌, Bool, true, false, ◌==◌, ◌&&◌, not, nat_lt, if◌then◌else◌, List, [], ◌∷◌, map, length, slice_get, Option, Some, None, option_map, unwrap_or, refl, sym, ap, ap₂, subst, ◌∙◌, inl, inr, eq-eqb, eqb-true, lt-ltb, le-ltb, arith}
use Rattle.std.proofs.lemmas.Bool.{both_ways, cases_lt, cases_eq, eqb-false, ne_eqb}
use Rattle.std.proofs.lemmas.Option.{slice_get-map}
use Rattle.std.specs.Option.{option_map_or}
use Rattle.md_super.specs.declared.superblock.Super.{Super}
use Rattle.pool_state.specs.declared.contents.State.{State}
use Rattle.array_model.specs.declared.Seat.{Seat}
use Rattle.array_model.specs.declared.Seat.TheVariants.{Whole, Missing, Rebuilding}
use Rattle.array_model.specs.View.{View, IsArray, LosesPlaces, is_missing_seat, member_on, place_at, seat_reach, seat_unless, member_by_seat}
use Rattle.array_model.specs.Members.{IsSameButSeats}
use Rattle.array_model.specs.Stages.{IsStateOf}
use Rattle.array_model.proofs.RowWrites.{places_apart}
use Rattle.array_model.proofs.Views.{loses_nobody, same_view}
use Rattle.array_image.specs.Arrays.{Member}
use Rattle.array_image.proofs.Losing.{length_map}
use Rattle.array_core.specs.declared.slots.Slot.{Slot}
use Rattle.array_core.specs.declared.Change.{Change}
use Rattle.array_core.specs.Opening.{resync_by}
use Rattle.array_core.specs.Seats.{seat_of, slot_at}
use Rattle.array_core.specs.Slots.{slots_of, place_by, places_by}
use Rattle.array_core.specs.Staging.{HasRowRebuilds}
use Rattle.array_core.specs.Superblocks.{adopted, adopted_seat, keeps_rows, rebuilt_by}
use Rattle.array_core.proofs.Seating.{map_made}
use Rattle.sync_laws.specs.Steps.{HasRowLeft, reach_on, rebuilt, rebuilt_seat, rows_left}
use Rattle.sync_laws.proofs.Adopted.{changed_slot, same_lists, seats_of, slots_changed}
use Rattle.sync_laws.proofs.Supers.{slot_facts}

-- ---- seats by position

-- what is made of each member's seat
pub mapped_at : (v : View) (f : Slot → Seat) (r : ℕ → Seat → Seat) → ((s : Slot) → f s ≡ r s.place s.seat) → IsArray v
    → (k : ℕ) → slice_get (map f (slots_of v)) k ≡ option_map (r (place_at v k)) (slice_get v.seats k)
mapped_at v f r made is_array k =
    slice_get-map f (slots_of v) k
    ∙ by (slice_get (slots_of v) k) refl
    ∙ ap (option_map (r (place_at v k))) (sym (slice_get-map (λ (s : Slot). s.seat) (slots_of v) k) ∙ ap (λ (seats : List Seat). slice_get seats k) seats)
  where
    seats : map (λ (s : Slot). s.seat) (slots_of v) ≡ v.seats
    seats = (seats_of (place_by v.truth) 0 v.truth.raid_disks v.seats v.devices is_array.seats is_array.devices).0

    by : (o : Option Slot) → slice_get (slots_of v) k ≡ o → option_map f o ≡ option_map (r (place_at v k)) (option_map (λ (s : Slot). s.seat) o)
    by None is = refl
    by (Some s) is = let facts = slot_facts v k s is_array is in ap Some (made s ∙ ap (λ (q : ℕ). r q s.seat) facts.1)

-- the member of a place has a position
found_in : (place : ℕ) (slots : List Slot) (s : Slot) → slot_at slots place ≡ Some s → (k : ℕ) × (slice_get slots k ≡ Some s) × (s.place ≡ place)
found_in place [] s is = absurd (let bad : None ≡ Some s = is in cc)
found_in place (x ∷ slots) s is =
    let Goal : Bool → Type 0 = λ b. (x.place == place) ≡ b → (if b then Some x else slot_at slots place) ≡ Some s
    → (k : ℕ) × (slice_get (x ∷ slots) k ≡ Some s) × (s.place ≡ place) in
    let goal : Goal (x.place == place) = elim (x.place == place) as Goal [
      | true ↦ λ here same. (0, same, let at : x ≡ s = ap (λ o. unwrap_or o x) same in ap (λ (t : Slot). t.place) (sym at) ∙ eqb-true x.place place here)
      | false ↦ λ none later. let rest = found_in place slots s later in (suc rest.0, rest.1, rest.2)
    ] in
    goal refl is

pub place_found : (v : View) (place : ℕ) (seat : Seat) → IsArray v → seat_of v place ≡ Some seat
    → (k : ℕ) × (k < v.truth.raid_disks) × (place_at v k ≡ place) × (slice_get v.seats k ≡ Some seat)
place_found v place seat is_array is = by (slot_at (slots_of v) place) refl is
  where
    by : (o : Option Slot) → slot_at (slots_of v) place ≡ o → option_map (λ (s : Slot). s.seat) o ≡ Some seat
        → (k : ℕ) × (k < v.truth.raid_disks) × (place_at v k ≡ place) × (slice_get v.seats k ≡ Some seat)
    by None at none = absurd (let bad : None ≡ Some seat = none in cc)
    by (Some s) at some =
        let found = found_in place (slots_of v) s at in
        let facts = slot_facts v found.0 s is_array found.1 in
        (found.0, facts.0, sym facts.1 ∙ found.2, facts.2 ∙ some)

-- ---- what the row call needs of an array

-- a member, its position, how many of its sectors are rebuilt, and so many rows that are left
pub record IsRebuilding (v : View) (place position to rows : ℕ) : Type 0 where
  pub is_array : IsArray v
  pub low : position < v.truth.raid_disks
  pub at : place_at v position ≡ place
  pub seat : slice_get v.seats position ≡ Some (Rebuilding to)
  pub reach : reach_on v place ≡ to
  pub whole : to % 128 ≡ 0
  pub some : 0 < rows
  pub inside : to + 128 * rows ≤ v.truth.size

pub rebuilding : (v : View) (place position rows : ℕ) → IsArray v → HasRowLeft v place → position < v.truth.raid_disks → place_at v position ≡ place
    → 0 < rows → rows ≤ rows_left v place → IsRebuilding v place position (reach_on v place) rows
rebuilding v place position rows is_array has low at some few =
    let found = place_found v place (Rebuilding (reach_on v place)) is_array has.seat in
    let same : found.0 ≡ position = places_apart v found.0 position is_array found.1 low (found.2 ∙ sym at) in
    record {
      is_array = is_array;
      low = low;
      at = at;
      seat = subst (λ (k : ℕ). slice_get v.seats k ≡ Some (Rebuilding (reach_on v place))) same found.3;
      reach = refl;
      whole = has.whole;
      some = some;
      inside = omega (arith, few);
    }

-- a sector outside the rows
abbrev pub Outside : (to rows t : ℕ) → Type 0
Outside to rows t = (t < to) ⊎ (to + 128 * rows ≤ t)

-- the last of them
abbrev pub last_of : (to rows : ℕ) → ℕ
last_of to rows = to / 128 + (rows - 1)

-- a seat of a place after the change
abbrev pub reseat : View → (place rows q : ℕ) → Seat → Seat
reseat v place rows q seat = if q == place then rebuilt_seat v.truth.size (reach_on v place + 128 * rows) else seat

pub get_past : {X : Type 0} (xs : List X) (k : ℕ) → length xs ≤ k → slice_get xs k ≡ None
get_past [] k past = refl
get_past (x ∷ xs) zero past = absurd (omega (arith, past))
get_past (x ∷ xs) (suc k) past = get_past xs k (omega (arith, past))

eq_swap : (m n : ℕ) → (m == n) ≡ (n == m)
eq_swap m n = elim (cases_eq m n) [
  | inl same ↦ eq-eqb m n same ∙ sym (eq-eqb n m (sym same))
  | inr other ↦ ne_eqb m n other ∙ sym (ne_eqb n m (λ same. other (sym same)))
]

rebuilt_reach : (size to : ℕ) → seat_reach size (rebuilt_seat size to) ≡ to
rebuilt_reach size to =
    let Goal : Bool → Type 0 = λ b. (to == size) ≡ b → seat_reach size (if b then Whole else Rebuilding to) ≡ to in
    let goal : Goal (to == size) = elim (to == size) as Goal [ true ↦ λ is. sym (eqb-true to size is) | false ↦ λ none. refl ] in
    goal refl

pub rebuilt_there : (size to : ℕ) → is_missing_seat (rebuilt_seat size to) ≡ false
rebuilt_there size to = by (to == size)
  where
    by : (b : Bool) → is_missing_seat (if b then Whole else Rebuilding to) ≡ false
    by true = refl
    by false = refl

module _ (v : View) (place p to rows : ℕ) (is : IsRebuilding v place p to rows) where
  abbrev next : View
  next = rebuilt v place rows

  pub next_seat : (k : ℕ) → slice_get (rebuilt v place rows).seats k ≡ option_map (reseat v place rows (place_at v k)) (slice_get v.seats k)
  next_seat k =
      mapped_at v (λ s. if s.place == place then rebuilt_seat v.truth.size (reach_on v place + 128 * rows) else s.seat) (reseat v place rows) (λ s. refl) is.is_array k

  option_same : {X : Type 0} (o : Option X) → option_map (λ x. x) o ≡ o
  option_same None = refl
  option_same (Some x) = refl

  -- nobody else's seat changes
  pub other_seat : (k : ℕ) → (place_at v k ≡ place → ⊥) → slice_get (rebuilt v place rows).seats k ≡ slice_get v.seats k
  other_seat k other =
      next_seat k
      ∙ ap (λ (b : Bool). option_map (λ (seat : Seat). if b then rebuilt_seat v.truth.size (reach_on v place + 128 * rows) else seat) (slice_get v.seats k)) (ne_eqb (place_at v k) place other)
      ∙ option_same (slice_get v.seats k)

  pub own_seat : slice_get (rebuilt v place rows).seats p ≡ Some (rebuilt_seat v.truth.size (to + 128 * rows))
  own_seat =
      next_seat p ∙ ap (option_map (reseat v place rows (place_at v p))) is.seat
      ∙ ap (λ (b : Bool). Some (if b then rebuilt_seat v.truth.size (reach_on v place + 128 * rows) else Rebuilding to)) (eq-eqb (place_at v p) place is.at)
      ∙ ap (λ (r : ℕ). Some (rebuilt_seat v.truth.size (r + 128 * rows))) is.reach

  pub place_of_other : (j : ℕ) → j < v.truth.raid_disks → (j ≡ p → ⊥) → place_at v j ≡ place → ⊥
  place_of_other j low other same = other (places_apart v j p is.is_array low is.low (same ∙ sym is.at))

  pub other_member : (j : ℕ) → j < v.truth.raid_disks → (j ≡ p → ⊥) → member_on (rebuilt v place rows) j ≡ member_on v j
  other_member j low other =
      ap (member_by_seat v.truth.size (place_at v j)) (other_seat j (place_of_other j low other))

  pub own_reach : (member_on (rebuilt v place rows) p).reach ≡ to + 128 * rows
  own_reach = ap (λ (o : Option Seat). option_map_or (seat_reach v.truth.size) o 0) own_seat ∙ rebuilt_reach v.truth.size (to + 128 * rows)

  pub reach_before : (member_on v p).reach ≡ to
  reach_before = ap (λ (o : Option Seat). option_map_or (seat_reach v.truth.size) o 0) is.seat

  -- members count alike but in the row
  pub alike : (j t : ℕ) → j < v.truth.raid_disks → (j ≡ p → Outside to rows t) → nat_lt t (member_on (rebuilt v place rows) j).reach ≡ nat_lt t (member_on v j).reach
  alike j t low outside = elim (cases_eq j p) [
    | inr other ↦ ap (λ (m : Member). nat_lt t m.reach) (other_member j low other)
    | inl same ↦
        let after = own_reach in
        let before = reach_before in
        subst (λ (k : ℕ). nat_lt t (member_on (rebuilt v place rows) k).reach ≡ nat_lt t (member_on v k).reach) (sym same)
        (elim (outside same) [
          | inl early ↦ lt-ltb t (member_on (rebuilt v place rows) p).reach (omega (arith, early, after)) ∙ sym (lt-ltb t (member_on v p).reach (omega (arith, early, before)))
          | inr late ↦ le-ltb t (member_on (rebuilt v place rows) p).reach (omega (arith, late, after)) ∙ sym (le-ltb t (member_on v p).reach (omega (arith, late, before)))
        ])
  ]

  pub next_array : IsArray (rebuilt v place rows)
  next_array =
      let old = is.is_array in
      record {
        few = old.few;
        level = old.level;
        least = old.least;
        most = old.most;
        seats = length_map _ (slots_of v) ∙ sym (length_map (λ (s : Slot). s.seat) (slots_of v)) ∙ ap length (seats_of (place_by v.truth) 0 v.truth.raid_disks v.seats v.devices old.seats old.devices).0 ∙ old.seats;
        devices = old.devices;
        small = old.small;
        whole_rows = old.whole_rows;
        placed = old.placed;
        synced = old.synced;
        reshape = old.reshape;
      }

  -- ---- whoever is there

  present_now : (k : ℕ) → (k ≡ p → ⊥) → k < v.truth.raid_disks → slice_get (rebuilt v place rows).seats k ≡ slice_get v.seats k
  present_now k other low = other_seat k (place_of_other k low other)

  pub next_state : (s : State) → IsStateOf v s → IsStateOf (rebuilt v place rows) s
  next_state s state = record {
    set = state.set;
    profile = state.profile;
    events = state.events;
    events_end = state.events_end;
    row = state.row;
    roles = state.roles;
    marks = λ k inside.
        let count = next_array.seats in
        let seats = is.is_array.seats in
        let old = state.marks k (omega (arith, inside, count, seats)) in
        elim (cases_eq k p) [
          | inr other ↦ ap (option_map (λ seat. not (is_missing_seat seat))) (present_now k other (omega (arith, inside, count))) ∙ old
          | inl same ↦
              ap (λ (j : ℕ). option_map (λ seat. not (is_missing_seat seat)) (slice_get (rebuilt v place rows).seats j)) same
              ∙ ap (option_map (λ seat. not (is_missing_seat seat))) own_seat
              ∙ ap (λ (b : Bool). Some (not b)) (rebuilt_there v.truth.size (to + 128 * rows))
              ∙ sym (ap (λ (j : ℕ). option_map (λ seat. not (is_missing_seat seat)) (slice_get v.seats j)) same ∙ ap (option_map (λ seat. not (is_missing_seat seat))) is.seat)
              ∙ old
        ];
  }

  pub next_rows : HasRowRebuilds v → HasRowRebuilds (rebuilt v place rows)
  next_rows whole k at seat =
      elim (cases_eq k p) [
        | inl same ↦ own_row (to + 128 * rows == v.truth.size) refl (sym (ap (λ (j : ℕ). slice_get (rebuilt v place rows).seats j) (sym same) ∙ seat) ∙ own_seat)
        | inr other ↦ elim (cases_lt k v.truth.raid_disks) [
          | inl low ↦ whole k at (sym (present_now k other low) ∙ seat)
          | inr past ↦ absurd (let count = next_array.seats in let bad : None ≡ Some (Rebuilding at) = sym (get_past (rebuilt v place rows).seats k (omega (arith, past, count))) ∙ seat in cc)
        ]
      ]
    where
      own_row : (b : Bool) → (to + 128 * rows == v.truth.size) ≡ b → Some (Rebuilding at) ≡ Some (if b then Whole else Rebuilding (to + 128 * rows)) → (at % 128 ≡ 0) × (at < v.truth.size)
      own_row true whole same = absurd (let bad : Some (Rebuilding at) ≡ Some Whole = same in cc)
      own_row false part same =
          let here : at ≡ to + 128 * rows = (let one : Some (Rebuilding at) ≡ Some (Rebuilding (to + 128 * rows)) = same in cc) in
          let rows_to = is.whole in
          let inside = is.inside in
          let other = eqb-false (to + 128 * rows) v.truth.size part in
          (omega (arith, here, rows_to), (elim (cases_eq (to + 128 * rows) v.truth.size) [ inl full ↦ absurd (other full) | inr less ↦ omega (arith, here, inside, less) ]))

-- ---- the array of the change

adopted_at : (c : Change) (z : View) → IsArray z → places_by c.truth ≡ places_by z.truth
    → (k : ℕ) → slice_get (adopted c z).seats k ≡ option_map (adopted_seat c (place_at z k)) (slice_get z.seats k)
adopted_at c z is_array places k =
    ap (λ (seats : List Seat). slice_get seats k)
    (ap (map (λ (s : Slot). s.seat)) (slots_changed c z is_array places)
    ∙ map_made (changed_slot c) (λ (s : Slot). s.seat) (λ s. adopted_seat c s.place s.seat) (λ s. refl) (slots_of z))
    ∙ mapped_at z (λ s. adopted_seat c s.place s.seat) (adopted_seat c) (λ s. refl) is_array k

adopted_devices : (c : Change) (z : View) → IsArray z → places_by c.truth ≡ places_by z.truth → (adopted c z).devices ≡ z.devices
adopted_devices c z is_array places =
    ap (map (λ (s : Slot). s.device)) (slots_changed c z is_array places)
    ∙ map_made (changed_slot c) (λ (s : Slot). s.device) (λ s. s.device) (λ s. refl) (slots_of z)
    ∙ (seats_of (place_by z.truth) 0 z.truth.raid_disks z.seats z.devices is_array.seats is_array.devices).1

keeps_same : (t u : Super) → t ≡ u → keeps_rows t u ≡ true
keeps_same t u same =
    ap (λ (x : Super). keeps_rows x u) same
    ∙ ap₂ (λ (p q : Bool). p && q) (eq-eqb u.resync_offset u.resync_offset refl) (eq-eqb u.size u.size refl)

and_true : (b : Bool) → (b && true) ≡ b
and_true true = refl
and_true false = refl

-- the change of the row call
abbrev pub row_change : View → (place rows : ℕ) → Change
row_change v place rows = rebuilt_by v place (reach_on v place + 128 * rows)

module _ (v : View) (place p to rows : ℕ) (is : IsRebuilding v place p to rows) (z : View) (z_array : IsArray z) (same : IsSameButSeats v z) where
  places : places_by (row_change v place rows).truth ≡ places_by z.truth
  places = ap places_by (sym same.truth)

  place_same : (k : ℕ) → place_at z k ≡ place_at v k
  place_same k = ap (λ (t : Super). place_at (record z { truth = t }) k) same.truth

  seat_adopted : (q : ℕ) (seat : Seat) → is_missing_seat seat ≡ false → adopted_seat (row_change v place rows) q seat ≡ reseat v place rows q seat
  seat_adopted q Missing there = absurd (both_ways true there refl)
  seat_adopted q Whole there = ap (λ (b : Bool). if b then rebuilt_seat v.truth.size (reach_on v place + 128 * rows) else Whole) (eq_swap place q)
  seat_adopted q (Rebuilding at) there = ap (λ (b : Bool). if b then rebuilt_seat v.truth.size (reach_on v place + 128 * rows) else Rebuilding at) (eq_swap place q)

  -- by position
  pub seat_by : (k : ℕ) → slice_get (adopted (row_change v place rows) z).seats k ≡ option_map (adopted_seat (row_change v place rows) (place_at v k)) (slice_get z.seats k)
  seat_by k =
      adopted_at (row_change v place rows) z z_array places k
      ∙ ap (λ (q : ℕ). option_map (adopted_seat (row_change v place rows) q) (slice_get z.seats k)) (place_same k)

  -- a member that is missing is on another place
  not_missing : (k : ℕ) → slice_get v.seats k ≡ Some Missing → place_at v k ≡ place → ⊥
  not_missing k gone here =
      elim (cases_lt k v.truth.raid_disks) [
        | inl low ↦
            let at : k ≡ p = places_apart v k p is.is_array low is.low (here ∙ sym is.at) in
            let bad : Some Missing ≡ Some (Rebuilding to) = sym gone ∙ ap (λ (j : ℕ). slice_get v.seats j) at ∙ is.seat in
            missing_rebuilding bad
        | inr past ↦ (let count = is.is_array.seats in let bad : None ≡ Some Missing = sym (get_past v.seats k (omega (arith, past, count))) ∙ gone in none_some bad)
      ]
    where
      missing_rebuilding : Some Missing ≡ Some (Rebuilding to) → ⊥
      missing_rebuilding bad = both_ways true (ap (λ o. option_map_or is_missing_seat o true) bad) refl

      none_some : None ≡ Some Missing → ⊥
      none_some bad = both_ways true (ap (λ (o : Option Seat). option_map_or (λ s. false) o true) bad) refl

  -- nobody else's seat changes
  pub other_kept : (k : ℕ) → (place_at v k ≡ place → ⊥) → slice_get (adopted (row_change v place rows) z).seats k ≡ slice_get z.seats k
  other_kept k other = seat_by k ∙ by (slice_get z.seats k)
    where
      none : (place == place_at v k) ≡ false
      none = ne_eqb place (place_at v k) (λ same. other (sym same))

      kept : (seat : Seat) → adopted_seat (row_change v place rows) (place_at v k) seat ≡ seat
      kept Missing = refl
      kept Whole = ap (λ (b : Bool). if b then rebuilt_seat v.truth.size (reach_on v place + 128 * rows) else Whole) none
      kept (Rebuilding at) = ap (λ (b : Bool). if b then rebuilt_seat v.truth.size (reach_on v place + 128 * rows) else Rebuilding at) none

      by : (o : Option Seat) → option_map (adopted_seat (row_change v place rows) (place_at v k)) o ≡ o
      by None = refl
      by (Some seat) = ap Some (kept seat)

  pub next_same : IsSameButSeats (rebuilt v place rows) (adopted (row_change v place rows) z)
  next_same = record {
    number = same.number;
    truth = refl;
    devices = adopted_devices (row_change v place rows) z z_array places ∙ same.devices;
    resync =
        ap (λ (b : Bool). if b then z.resync else resync_by z.young v.truth) (keeps_same z.truth v.truth same.truth) ∙ same.resync;
    young = same.young;
    marked = ap (λ (b : Bool). z.marked && b) (keeps_same z.truth v.truth same.truth) ∙ and_true z.marked ∙ same.marked;
  }

  seats_lost : (lost : ℕ → Bool) → LosesPlaces v z lost
      → (k : ℕ) → slice_get (adopted (row_change v place rows) z).seats k ≡ option_map (seat_unless lost (place_at v k)) (slice_get (rebuilt v place rows).seats k)
  seats_lost lost loses k =
      seat_by k ∙ ap (option_map (adopted_seat (row_change v place rows) (place_at v k))) (loses.seats k)
      ∙ by (slice_get v.seats k) refl
      ∙ sym (ap (option_map (seat_unless lost (place_at v k))) (next_seat v place p to rows is k))
    where
      kept : (seat : Seat) → slice_get v.seats k ≡ Some seat → adopted_seat (row_change v place rows) (place_at v k) seat ≡ reseat v place rows (place_at v k) seat
      kept Missing gone =
          sym (ap (λ (b : Bool). if b then rebuilt_seat v.truth.size (reach_on v place + 128 * rows) else Missing) (ne_eqb (place_at v k) place (not_missing k gone)))
      kept Whole seat = seat_adopted (place_at v k) Whole refl
      kept (Rebuilding at) seat = seat_adopted (place_at v k) (Rebuilding at) refl

      by_lost : (b : Bool) (seat : Seat) → slice_get v.seats k ≡ Some seat
          → adopted_seat (row_change v place rows) (place_at v k) (if b then Missing else seat) ≡ (if b then Missing else reseat v place rows (place_at v k) seat)
      by_lost true seat at = refl
      by_lost false seat at = kept seat at

      by : (o : Option Seat) → slice_get v.seats k ≡ o
          → option_map (adopted_seat (row_change v place rows) (place_at v k)) (option_map (seat_unless lost (place_at v k)) o)
          ≡ option_map (seat_unless lost (place_at v k)) (option_map (reseat v place rows (place_at v k)) o)
      by None at = refl
      by (Some seat) at = ap Some (by_lost (lost (place_at v k)) seat at)

  pub next_loses : (lost : ℕ → Bool) → LosesPlaces v z lost → LosesPlaces (rebuilt v place rows) (adopted (row_change v place rows) z) lost
  next_loses lost loses = record { seats = seats_lost lost loses; went = loses.went }

-- what is staged of it
pub stage_is : (v : View) (place p to rows : ℕ) → IsRebuilding v place p to rows → adopted (row_change v place rows) v ≡ rebuilt v place rows
stage_is v place p to rows is =
    let w = adopted (row_change v place rows) v in
    let kept = next_same v place p to rows is v is.is_array (same_view v) in
    let seats : w.seats ≡ (rebuilt v place rows).seats =
    same_lists w.seats (rebuilt v place rows).seats
    (λ k. seats_lost v place p to rows is v is.is_array (same_view v) (λ q. false) (loses_nobody v) k ∙ nobody (slice_get (rebuilt v place rows).seats k)) in
    λ i. record v { seats = seats i; devices = kept.devices i; resync = kept.resync i; marked = kept.marked i }
  where
    nobody : (o : Option Seat) → option_map (λ seat. seat) o ≡ o
    nobody None = refl
    nobody (Some seat) = refl
