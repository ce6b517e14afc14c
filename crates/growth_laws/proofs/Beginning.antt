-- The array to which a drive joins is one of the pool as well: the joining place is one of the list, and it has its slice unless it is missing.
use Rattle.std.proofs.Common.{◌≡◌, ◌≢◌, ℕ, ◌+◌, ◌-◌, ◌*◌, ◌%◌, ◌<◌, ◌≤◌, Bool, true, false, ◌&&◌, not, nat_lt, if◌then◌else◌, List, [], ◌∷◌, ◌++◌, length, get_or, slice_get, Option, Some, None, option_map, unwrap_or, refl, sym, ap, ap₂, subst, ◌∙◌, inl, inr, lt-ltb, eq-eqb, arith}
use Rattle.std.proofs.lemmas.Bool.{and_from, both_ways, cases_eq, cases_lt}
use Rattle.std.proofs.lemmas.Option.{slice_get_past}
use Rattle.std.proofs.lemmas.List.{length-append}
use Rattle.std.specs.Option.{option_map_or}
use Rattle.rack.specs.Seen.{RackView}
use Rattle.shr_base.specs.declared.Id.{Id}
use Rattle.md_super.specs.Profile.{is_mirror, is_raid5}
use Rattle.pool_state.specs.declared.contents.State.{State}
use Rattle.array_image.specs.Arrays.{Member}
use Rattle.array_image.specs.Held.{Among}
use Rattle.array_image.specs.Places.{data_sector, member_id, member_slice}
use Rattle.array_image.specs.SoundArray.{first_unsynced}
use Rattle.array_image.specs.States.{current_places, is_current}
use Rattle.array_image.specs.Stripes.{capacity, mirror, parity}
use Rattle.array_image.specs.Supers.{is_reshaping, new_row}
use Rattle.array_model.specs.declared.Seat.{Seat}
use Rattle.array_model.specs.declared.Seat.TheVariants.{Missing, Rebuilding, Whole}
use Rattle.array_model.specs.View.{View, has_gone, is_missing_seat, member_by_seat, member_on, place_at, seat_reach, sectors_of, shape_of}
use Rattle.array_model.specs.Members.{HasSlices}
use Rattle.array_model.proofs.Firsts.{member_among, position_of}
use Rattle.array_model.proofs.Views.{shape_members}
use Rattle.array_core.specs.Model.{is_truth}
use Rattle.array_core.specs.Seats.{names, seat_of}
use Rattle.array_core.specs.Superblocks.{raised}
use Rattle.reshape_laws.specs.Reshapes.{joined, joining_seat}
use Rattle.reshape_laws.proofs.Beginning.{no_mirror_now}
use Rattle.reshape_laws.proofs.Begun.{begun_array, begun_written, new_place}
use Rattle.reshape_laws.proofs.Joining.{nobody_has, roles_long, room_for, spare_role}
use Rattle.reshape_laws.proofs.Roles.{begun_roles}
use Rattle.reshape_laws.proofs.StepMoves.{places, seat_kept}
use Rattle.reshape_laws.proofs.Truths.{begun_profile}
use Rattle.raid_laws.specs.Moves.{IsHeeded, IsSeated, IsSet}
use Rattle.raid_laws.specs.Raid.{IsWritten, Raid}
use Rattle.raid_laws.proofs.Added.{names_current}
use Rattle.raid_laws.proofs.Calls.{raised_low}
use Rattle.growth_laws.specs.Growing.{HasJoiningSlice}
use Rattle.growth_laws.proofs.Becoming.{IsAtRest, pool_truth}
use Rattle.growth_laws.proofs.Steps.{MayBecome}

last_got : {X : Type 0} (xs : List X) (x : X) → slice_get (xs ++ x ∷ []) (length xs) ≡ Some x
last_got [] x = refl
last_got (y ∷ xs) x = last_got xs x

-- What joins: the place is one of the list and no member, and its slice is there unless it is missing.
pub record IsJoining (s : State) (n : ℕ) (u : View) (place : ℕ) (x : RackView) : Type 0 where
  pub seated : IsSeated s n u x
  pub few : length s.drives.items ≤ 16
  pub raid5 : is_raid5 u.truth ≡ true
  pub still : is_reshaping u.truth ≡ false
  pub listed : place < length s.drives.items
  pub joins : seat_of u place ≡ None
  pub rows : first_unsynced u.truth ≡ u.resync
  pub grown : u.young ≡ false
  pub went : u.went ≡ []
  pub disk : is_current s place ≡ true → member_slice place n < x.disks
  pub sectors : is_current s place ≡ true → u.truth.size + data_sector ≤ x.sectors (member_slice place n)

module _ (s : State) (n : ℕ) (u : View) (place : ℕ) (drive : Id) (x : RackView) (is : IsJoining s n u place x) where
  abbrev seat : Seat
  seat = joining_seat (current_places s) place

  abbrev device : Id
  device = record { 0 = member_id drive.0 u.number }

  abbrev next : View
  next = joined u (current_places s) place drive

  truth : is_truth u.truth ≡ true
  truth = pool_truth s n u x is.seated is.few

  plain : is_mirror u.truth ≡ false
  plain = no_mirror_now u is.raid5

  small : place < 16
  small = let low = is.listed in let few = is.few in omega (arith, low, few)

  room : u.truth.raid_disks < 16
  room = room_for u place is.seated.is_array truth small is.joins

  long : length u.truth.roles.items ≡ 128
  long = roles_long u place is.seated.is_array truth small is.joins

  spare : 0xfffe ≤ get_or u.truth.roles.items place 0
  spare = spare_role u place is.seated.is_array truth small is.joins

  none : (j : ℕ) → get_or u.truth.roles.items j 0 ≡ u.truth.raid_disks → ⊥
  none = nobody_has u place is.seated.is_array truth small is.joins

  -- ---- members

  last_place : place_at (joined u (current_places s) place drive) u.truth.raid_disks ≡ place
  last_place =
      let many = long in
      let low = small in
      ap (λ o. unwrap_or o 16) (new_place u.truth.roles.items place u.truth.raid_disks (omega (arith, low, many)) (λ j less. none j))

  old_place : (k : ℕ) → k < u.truth.raid_disks → place_at (joined u (current_places s) place drive) k ≡ place_at u k
  old_place k low = places u (raised u.truth.events) place seat device is.seated.is_array plain is.still spare k low

  last_seat : slice_get (u.seats ++ joining_seat (current_places s) place ∷ []) u.truth.raid_disks ≡ Some (joining_seat (current_places s) place)
  last_seat =
      subst (λ k. slice_get (u.seats ++ joining_seat (current_places s) place ∷ []) k ≡ Some (joining_seat (current_places s) place)) is.seated.is_array.seats
      (last_got u.seats (joining_seat (current_places s) place))

  old_seat : (k : ℕ) → k < u.truth.raid_disks → slice_get (u.seats ++ joining_seat (current_places s) place ∷ []) k ≡ slice_get u.seats k
  old_seat k low =
      let count = is.seated.is_array.seats in
      seat_kept u (raised u.truth.events) place seat device is.seated.is_array plain is.still spare u.seats (joining_seat (current_places s) place) k (omega (arith, low, count))

  -- what holds of each member, by its place and its seat
  each : (X : ℕ → Option Seat → Type 0) (k : ℕ) → k < u.truth.raid_disks + 1 → (k < u.truth.raid_disks → X (place_at u k) (slice_get u.seats k))
      → X place (Some (joining_seat (current_places s) place))
      → X (place_at (joined u (current_places s) place drive) k) (slice_get (u.seats ++ joining_seat (current_places s) place ∷ []) k)
  each X k low old last = elim (cases_eq k u.truth.raid_disks) [
    | inl same ↦
        subst (λ j. X (place_at (joined u (current_places s) place drive) j) (slice_get (u.seats ++ joining_seat (current_places s) place ∷ []) j)) (sym same)
        (subst (λ p. X p (slice_get (u.seats ++ joining_seat (current_places s) place ∷ []) u.truth.raid_disks)) (sym last_place)
        (subst (X place) (sym last_seat) last))
    | inr other ↦
        let below : k < u.truth.raid_disks = omega (arith, low, other) in
        subst (λ p. X p (slice_get (u.seats ++ joining_seat (current_places s) place ∷ []) k)) (sym (old_place k below))
        (subst (X (place_at u k)) (sym (old_seat k below)) (old below))
  ]

  -- a member that joins is current
  joins_current : Some (joining_seat (current_places s) place) ≢ Some Missing → is_current s place ≡ true
  joins_current there = sym (names_current s place) ∙ by (names (current_places s) place) there
    where
      by : (b : Bool) → Some (if b then Whole else Missing) ≢ Some Missing → b ≡ true
      by true there = refl
      by false there = absurd (there refl)

  pub joined_slices : HasSlices (joined u (current_places s) place drive) x
  joined_slices = record {
    fit = is.seated.slices.fit;
    lasting = is.seated.slices.lasting;
    disks = λ k low.
        each (λ p o. o ≢ Some Missing → member_slice p u.number < x.disks) k low (is.seated.slices.disks k)
        (λ there. subst (λ j. member_slice place j < x.disks) (sym is.seated.number) (is.disk (joins_current there)));
    sectors = λ k low.
        each (λ p o. o ≢ Some Missing → data_sector + u.truth.size ≤ x.sectors (member_slice p u.number)) k low (is.seated.slices.sectors k)
        (λ there.
        let long = is.sectors (joins_current there) in
        subst (λ j. data_sector + u.truth.size ≤ x.sectors (member_slice place j)) (sym is.seated.number) (omega (arith, long)));
  }

  seat_marks : option_map is_missing_seat (Some (joining_seat (current_places s) place)) ≡ Some (not (is_current s place && not (has_gone u place)))
  seat_marks =
      ap Some (by (names (current_places s) place))
      ∙ ap (λ b. Some (not b)) (names_current s place ∙ and_true (is_current s place) ∙ sym (ap (λ (b : Bool). is_current s place && not b) (ap (λ ps. names ps place) is.went)))
    where
      by : (b : Bool) → is_missing_seat (if b then Whole else Missing) ≡ not b
      by true = refl
      by false = refl

      and_true : (b : Bool) → b ≡ (b && true)
      and_true true = refl
      and_true false = refl

  row_rebuilds : (k to : ℕ) → slice_get (u.seats ++ joining_seat (current_places s) place ∷ []) k ≡ Some (Rebuilding to) → (to % 128 ≡ 0) × (to < u.truth.size)
  row_rebuilds k to at = elim (cases_lt k (u.truth.raid_disks + 1)) [
    | inl low ↦
        each (λ p o. o ≡ Some (Rebuilding to) → (to % 128 ≡ 0) × (to < u.truth.size)) k low (λ below was. is.seated.is_of_pool.rows k to was)
        (λ bad. absurd (never (names (current_places s) place) bad)) at
    | inr past ↦
        let count = is.seated.is_array.seats in
        let more : length (u.seats ++ joining_seat (current_places s) place ∷ []) ≡ length u.seats + 1 = length-append u.seats (joining_seat (current_places s) place ∷ []) in
        absurd (let bad : None ≡ Some (Rebuilding to) = sym (slice_get_past (u.seats ++ joining_seat (current_places s) place ∷ []) k (omega (arith, past, count, more))) ∙ at in cc)
  ]
    where
      never : (b : Bool) → Some (if b then Whole else Missing) ≡ Some (Rebuilding to) → ⊥
      never true bad = let whole : Some Whole ≡ Some (Rebuilding to) = bad in cc
      never false bad = let missing : Some Missing ≡ Some (Rebuilding to) = bad in cc

  -- ---- the array

  pub joined_seated : IsSeated s n (joined u (current_places s) place drive) x
  joined_seated =
      let a = is.seated.is_array in
      let pool = is.seated.is_of_pool in
      let events = raised_low u.truth.events pool.events pool.events_end in
      let least = a.least in
      record {
        is_array = begun_array u (raised u.truth.events) place seat device a is.raid5 plain room small long spare none;
        number = is.seated.number;
        slices = joined_slices;
        marks = λ k low.
            each (λ p o. option_map is_missing_seat o ≡ Some (not (is_current s p && not (has_gone u p)))) k low (is.seated.marks k) seat_marks;
        is_of_pool = record {
          set = pool.set;
          profile = begun_profile u (raised u.truth.events) place seat device s.extent plain a room pool.profile;
          events = let more = events.0 in let some = pool.events in omega (arith, more, some);
          events_end = events.1;
          row = and_from (is_raid5 u.truth) _ is.raid5
              (and_from (nat_lt 2 (u.truth.raid_disks + 1)) _ (lt-ltb 2 (u.truth.raid_disks + 1) (omega (arith, least)))
              (eq-eqb (0 % new_row (joined u (current_places s) place drive).truth) 0 (zero_mod (new_row (joined u (current_places s) place drive).truth))));
          roles = let many = long in let low = small in let few = room in
              begun_roles u.truth (length s.drives.items) place pool.roles (omega (arith, low, many)) is.listed spare (omega (arith, few));
          unsynced = pool.unsynced;
          synced = λ old part. inl is.rows;
          zeroed = λ yes. absurd (both_ways u.young is.grown yes);
          rows = row_rebuilds;
        };
      }
    where
      zero_mod : (k : ℕ) → 0 % k ≡ 0
      zero_mod k = omega arith

  pub joined_written : IsWritten u → IsWritten (joined u (current_places s) place drive)
  joined_written written =
      begun_written u (raised u.truth.events) place seat device is.seated.is_array is.raid5 plain room small long spare none u.number written

  -- a member that it hadn't is the one that joins, and its place is current where it counts
  pub joined_member : (m : Member) (t : ℕ) → Among m (shape_of (joined u (current_places s) place drive)).members → (Among m (shape_of u).members → ⊥) → t < m.reach
      → (m.place ≡ place) × (is_current s place ≡ true) × (t < u.truth.size)
  joined_member m t among old inside =
      let at = position_of next (u.truth.raid_disks + 1) m (subst (λ (ms : List Member). Among m ms) (shape_members next) among) in
      let low = at.1 in
      let here : t < (member_on next at.0).reach = subst (λ (o : Member). t < o.reach) at.2 inside in
      elim (cases_eq at.0 u.truth.raid_disks) [
        | inl same ↦
            let counts =
            reaches (names (current_places s) place)
            (subst (λ o. t < option_map_or (seat_reach u.truth.size) o 0) last_seat (subst (λ k. t < (member_on next k).reach) same here)) in (
              ap (λ (o : Member). o.place) at.2 ∙ ap (place_at next) same ∙ last_place,
              sym (names_current s place) ∙ counts.0,
              counts.1,
            )
        | inr other ↦
            let below : at.0 < u.truth.raid_disks = omega (arith, low, other) in
            let own : m ≡ member_on u at.0 = at.2 ∙ ap₂ (λ p o. member_by_seat u.truth.size p o) (old_place at.0 below) (old_seat at.0 below) in
            absurd (old (subst (λ (o : Member). Among o (shape_of u).members) (sym own)
            (subst (λ (ms : List Member). Among (member_on u at.0) ms) (sym (shape_members u)) (member_among u at.0 u.truth.raid_disks below))))
      ]
    where
      reaches : (b : Bool) → t < option_map_or (seat_reach u.truth.size) (Some (if b then Whole else Missing)) 0 → (b ≡ true) × (t < u.truth.size)
      reaches true low = (refl, low)
      reaches false low = absurd (let none : t < 0 = low in omega (arith, none))

  pub joined_sectors : sectors_of (joined u (current_places s) place drive) ≡ sectors_of u
  joined_sectors =
      ap (λ k. (k - 1) * u.truth.size) (let e : u.truth.raid_disks + 1 - 1 ≡ u.truth.raid_disks = omega arith in e)
      ∙ sym (ap₂ (λ (b c : Bool). capacity (if b then parity (u.truth.raid_disks - 1) else if c then mirror u.truth.raid_disks else parity u.truth.raid_disks) u.truth.size) is.still plain)

-- the array that a place joins, by the book
pub is_joining : (v : Raid) (n place : ℕ) (x : RackView) → IsSet v x → IsHeeded v → IsAtRest v n → is_raid5 (v.arrays n).truth ≡ true → is_reshaping (v.arrays n).truth ≡ false
    → place < length v.state.drives.items → seat_of (v.arrays n) place ≡ None → HasJoiningSlice v n place x → IsJoining v.state n (v.arrays n) place x
is_joining v n place x set heeded rest raid5 still listed joins slice = record {
  seated = set.arrays n rest.low;
  few = set.few;
  raid5 = raid5;
  still = still;
  listed = listed;
  joins = joins;
  rows = rest.rows;
  grown = rest.grown;
  went = heeded n rest.low;
  disk = slice.disk;
  sectors = slice.sectors;
}

pub joined_may : (v : Raid) (x : RackView) (n place : ℕ) (drive : Id) → IsJoining v.state n (v.arrays n) place x → IsAtRest v n
    → MayBecome v n (joined (v.arrays n) (current_places v.state) place drive) x
joined_may v x n place drive is rest = record {
  low = rest.low;
  seated = joined_seated v.state n (v.arrays n) place drive x is;
  went = is.went;
  whole = λ marked. absurd (both_ways (v.arrays n).marked rest.unmarked marked);
}
