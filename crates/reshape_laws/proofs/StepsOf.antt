-- Each of the four steps as a step by one commit: what is left for the code to show is that its targets are these.
use Rattle.std.proofs.Common.{◌≡◌, ◌≢◌, ℕ, zero, suc, ◌+◌, ◌-◌, ◌*◌, ◌%◌, ◌<◌, ◌≤◌, Bool, true, false, ◌&&◌, nat_lt, slice_get, get_or, length, List, [], ◌∷◌, ◌++◌, Option, Some, None, unwrap_or, refl, sym, ap, subst, ◌∙◌, lt-ltb, ltb-true, ltb-false, arith}
use Rattle.std.proofs.lemmas.Bool.{both_ways}
use Rattle.rack.specs.Values.{Values}
use Rattle.rack.specs.Seen.{RackView, IsLive}
use Rattle.rack.specs.Targets.{Target}
use Rattle.rack.specs.Sequences.{IsPayload}
use Rattle.shr_base.specs.declared.Id.{Id}
use Rattle.md_super.specs.Profile.{is_mirror, is_raid5}
use Rattle.pool_state.specs.declared.contents.State.{State}
use Rattle.array_image.specs.Places.{data_sector}
use Rattle.array_image.specs.Record.{are_apart}
use Rattle.array_image.specs.Supers.{is_reshaping}
use Rattle.array_image.specs.Arrays.{Member}
use Rattle.array_image.specs.SoundArray.{first_unsynced}
use Rattle.array_image.specs.Held.{Among, IsSynced, current_in}
use Rattle.array_image.specs.Spent.{wanting}
use Rattle.array_model.specs.declared.Seat.{Seat}
use Rattle.array_model.specs.declared.Seat.TheVariants.{Whole, Missing, Rebuilding}
use Rattle.array_model.specs.View.{View, IsArray, may_vary, member_on, rows_of, seat_reach, shape_of}
use Rattle.array_model.specs.Says.{ArrayInvariant}
use Rattle.array_model.specs.Members.{members_of, slice_on}
use Rattle.array_model.proofs.Firsts.{member_among, position_of}
use Rattle.array_model.proofs.Noting.{length_members}
use Rattle.array_model.proofs.RowWrites.{part_on, places_apart}
use Rattle.array_model.proofs.Filled.{two_want}
use Rattle.array_model.proofs.Views.{shape_members}
use Rattle.array_core.specs.Staging.{HasRowRebuilds}
use Rattle.array_core.proofs.Stripped.{whole_written}
use Rattle.sync_laws.proofs.Summing.{wanting_later}
use Rattle.sync_laws.proofs.Views.{slot_there}
use Rattle.reshape_laws.specs.Ahead.{AreNewRows, InRows, ahead_by, begun, finished, next_row, taken_over}
use Rattle.reshape_laws.specs.Reshapes.{lacks_two}
use Rattle.reshape_laws.proofs.Ahead.{row_moves}
use Rattle.reshape_laws.proofs.Arrays.{ahead_by_array, ahead_written, finished_array, finished_written, taken_array, taken_written}
use Rattle.reshape_laws.proofs.Committing.{Step}
use Rattle.reshape_laws.proofs.StepMoves.{begun_moves, finished_moves, places, seat_kept, taken_moves}
use Rattle.reshape_laws.proofs.Begun.{begun_array, begun_written}

-- ---- members

-- how far a member counts, where rebuilds stand between rows
pub reach_low : (v : View) → HasRowRebuilds v → (m : Member) → Among m (shape_of v).members → m.reach ≤ v.truth.size
reach_low v rows m among =
    let at = position_of v v.truth.raid_disks m (subst (λ (ms : List Member). Among m ms) (shape_members v) among) in
    subst (λ (o : Member). o.reach ≤ v.truth.size) (sym at.2) (by (slice_get v.seats at.0) (rows at.0))
  where
    by : (o : Option Seat) → ((to : ℕ) → o ≡ Some (Rebuilding to) → (to % 128 ≡ 0) × (to < v.truth.size))
        → (Rattle.std.specs.Option.option_map_or (seat_reach v.truth.size) o 0) ≤ v.truth.size
    by None rebuilding = omega arith
    by (Some Whole) rebuilding = omega arith
    by (Some Missing) rebuilding = omega arith
    by (Some (Rebuilding to)) rebuilding = let low = (rebuilding to refl).1 in omega (arith, low)

-- one of the first two members counts at the last sector, where two aren't wanting there
pub one_counts : (v : View) → IsArray v → lacks_two v ≡ false → (j : ℕ) × (j < v.truth.raid_disks) × (v.truth.size - 1 < (member_on v j).reach)
one_counts v is_array few = by (nat_lt (v.truth.size - 1) (member_on v 0).reach) (nat_lt (v.truth.size - 1) (member_on v 1).reach) refl refl
  where
    least : 2 ≤ v.truth.raid_disks
    least = is_array.least

    count : length (shape_of v).members ≡ v.truth.raid_disks
    count = ap length (shape_members v) ∙ length_members v

    by : (p q : Bool) → nat_lt (v.truth.size - 1) (member_on v 0).reach ≡ p → nat_lt (v.truth.size - 1) (member_on v 1).reach ≡ q
        → (j : ℕ) × (j < v.truth.raid_disks) × (v.truth.size - 1 < (member_on v j).reach)
    by true q is also = (0, (let two = least in omega (arith, two)), ltb-true (v.truth.size - 1) (member_on v 0).reach is)
    by false true is also = (1, (let two = least in omega (arith, two)), ltb-true (v.truth.size - 1) (member_on v 1).reach also)
    by false false is also =
        let two = least in
        let long = count in
        let none : ⊥ = both_ways (lacks_two v) few
        (lt-ltb 1 (wanting (v.truth.size - 1) (members_of v))
        (subst (λ (ms : List Member). 1 < wanting (v.truth.size - 1) ms) (shape_members v)
        (two_want (v.truth.size - 1) 0 1 (shape_of v).members (omega (arith, two, long)) (omega (arith, two, long)) (λ same. omega (arith, same))
        (ap (λ (m : Member). nat_lt (v.truth.size - 1) m.reach) (part_on v 0 (omega (arith, two))) ∙ is)
        (ap (λ (m : Member). nat_lt (v.truth.size - 1) m.reach) (part_on v 1 (omega (arith, two))) ∙ also)))) in
        absurd none

-- whoever counts anywhere isn't missing
pub counts_there : (v : View) (j t : ℕ) → t < (member_on v j).reach → slice_get v.seats j ≢ Some Missing
counts_there v j t counts gone =
    let none : (member_on v j).reach ≡ 0 = ap (λ o. Rattle.std.specs.Option.option_map_or (seat_reach v.truth.size) o 0) gone in
    omega (arith, counts, none)

-- at most one is wanting in each row
pub few_wanting : (v : View) (t : ℕ) → lacks_two v ≡ false → t < v.truth.size → wanting t (members_of v) ≤ 1
few_wanting v t few low =
    let more = wanting_later t (v.truth.size - 1) (members_of v) (omega (arith, low)) in
    let most = ltb-false 1 (wanting (v.truth.size - 1) (members_of v)) few in
    omega (arith, more, most)

-- RAID-5 that isn't marked has one value a sector
raid5_steady : (v : View) → is_mirror v.truth ≡ false → v.marked ≡ false → may_vary v ≡ false
raid5_steady v plain unmarked = by (is_mirror v.truth) v.marked _ plain unmarked
  where
    by : (m b c : Bool) → m ≡ false → b ≡ false → Rattle.std.specs.Prelude.◌||◌ b (m && c) ≡ false
    by true b c off none = absurd (both_ways true off refl)
    by false true c off none = absurd (both_ways true none refl)
    by false false c off none = refl

-- ---- finish

module _ (v : View) (events : ℕ) (is_array : IsArray v) (reshaping : is_reshaping v.truth ≡ true) (plain : is_mirror v.truth ≡ false)
    (whole : v.truth.reshape_position ≡ (v.truth.raid_disks - 1) * v.truth.size) (few : lacks_two v ≡ false)
    (unsynced : first_unsynced v.truth ≤ v.resync) (a b : RackView) where
  pub finish_step : Step v (finished v events).truth v.seats v.devices v.resync (λ m. ⊥) [] a b
  finish_step =
      let one = one_counts v is_array few in
      record {
        is_array = is_array;
        next = finished_array v events is_array;
        on = λ d i u pay. absurd pay;
        apart = refl;
        keeps = λ k low. (low, refl);
        written = λ offset stripped. finished_written v events is_array v.number (whole_written v.number v.truth offset stripped);
        unsynced = unsynced;
        some = one.0;
        some_low = one.1;
        some_there = slot_there v one.0 is_array one.1 (counts_there v one.0 (v.truth.size - 1) one.2);
        joiner = λ m none. absurd none;
        settled = λ unmarked s vals spent before holds. holds.shape.settled (raid5_steady v plain unmarked);
        rows = λ rows. rows;
        live = λ rows opened also d i u pay. absurd pay;
        moves = λ unmarked rows s vals spent before holds. finished_moves v events is_array reshaping (current_in b.held) whole (reach_low v rows) v.resync spent;
      }

-- ---- takeover

module _ (v : View) (events : ℕ) (is_array : IsArray v) (mirrored : is_mirror v.truth ≡ true) (still : is_reshaping v.truth ≡ false) (few : lacks_two v ≡ false)
    (synced : v.resync ≡ rows_of v) (unsynced : first_unsynced v.truth ≤ v.resync)
    (a b : RackView)
    (single : v.marked ≡ false → (s : State) (vals : ℕ → Values) (spent : ℕ → Bool) → ArrayInvariant s (shape_of v) v vals spent a → ArrayInvariant s (shape_of v) v vals spent b
    → IsSynced (shape_of v) v.number b.held) where
  pub take_step : Step v (taken_over v events).truth v.seats v.devices v.resync (λ m. ⊥) [] a b
  take_step =
      let one = one_counts v is_array few in
      record {
        is_array = is_array;
        next = taken_array v events is_array still;
        on = λ d i u pay. absurd pay;
        apart = refl;
        keeps = λ k low. (low, refl);
        written = λ offset stripped. taken_written v events is_array still v.number (whole_written v.number v.truth offset stripped);
        unsynced = unsynced;
        some = one.0;
        some_low = one.1;
        some_there = slot_there v one.0 is_array one.1 (counts_there v one.0 (v.truth.size - 1) one.2);
        joiner = λ m none. absurd none;
        settled = single;
        rows = λ rows. rows;
        live = λ rows opened also d i u pay. absurd pay;
        moves = λ unmarked rows s vals spent before holds.
            taken_moves v events is_array mirrored still (current_in b.held) (reach_low v rows) holds.shape.sized synced holds.shape.even spent;
      }

-- ---- rows

-- a target is a sector of the rows, of a member that counts there
pub record IsRowTarget (v : View) (many d s : ℕ) (u : List ℕ) : Type 0 where
  pub position : ℕ
  pub sector : ℕ
  pub low : position < v.truth.raid_disks
  pub counts : sector < (member_on v position).reach
  pub disk : d ≡ slice_on v position
  pub at : s ≡ data_sector + sector
  pub inside : InRows (next_row v) many sector
  pub long : length u ≡ 512

module _ (v : View) (many events : ℕ) (is_array : IsArray v) (reshaping : is_reshaping v.truth ≡ true) (plain : is_mirror v.truth ≡ false)
    (left : next_row v + many ≤ rows_of v) (few : lacks_two v ≡ false)
    (unsynced : first_unsynced v.truth ≤ v.resync)
    (a b : RackView) (own_data : List Target) (once : are_apart own_data ≡ true)
    (on : (d i : ℕ) (u : List ℕ) → IsPayload own_data d i u → IsRowTarget v many d i u)
    (news : HasRowRebuilds v → (s : State) (vals : ℕ → Values) (spent : ℕ → Bool) → ArrayInvariant s (shape_of v) v vals spent a → may_vary v ≡ false → AreNewRows v many (current_in b.held) own_data) where
  inside_size : (t : ℕ) → InRows (next_row v) many t → t < v.truth.size
  inside_size t inside =
      let whole = is_array.whole_rows in
      let high = inside.1 in
      omega (arith, left, whole, high)

  pub rows_step : Step v (ahead_by v many events).truth v.seats v.devices v.resync (λ m. ⊥) own_data a b
  rows_step =
      let one = one_counts v is_array few in
      record {
        is_array = is_array;
        next = ahead_by_array v many events is_array reshaping left;
        on = λ d i u pay.
            let at = on d i u pay in
            record {
              position = at.position;
              low = at.low;
              there = counts_there v at.position at.sector at.counts;
              disk = at.disk;
              sector = at.sector;
              at = at.at;
              inside = inside_size at.sector at.inside;
              long = at.long;
            };
        apart = once;
        keeps = λ k low. (low, refl);
        written = λ offset stripped. ahead_written v many events is_array reshaping left v.number (whole_written v.number v.truth offset stripped);
        unsynced = unsynced;
        some = one.0;
        some_low = one.1;
        some_there = slot_there v one.0 is_array one.1 (counts_there v one.0 (v.truth.size - 1) one.2);
        joiner = λ m none. absurd none;
        settled = λ unmarked s vals spent before holds. holds.shape.settled (raid5_steady v plain unmarked);
        rows = λ rows. rows;
        live = λ rows opened also d i u pay.
            let at = on d i u pay in
            let among : Among (member_on v at.position) (shape_of v).members =
            subst (λ (ms : List Member). Among (member_on v at.position) ms) (sym (shape_members v)) (member_among v at.position v.truth.raid_disks at.low) in
            subst (λ e. IsLive a a e i) (sym at.disk)
            (subst (λ e. IsLive a a (slice_on v at.position) e) (sym at.at) (opened (member_on v at.position) at.sector among at.counts));
        moves = λ unmarked rows s vals spent before holds.
            row_moves v many events is_array reshaping (current_in b.held) own_data (news rows s vals spent before (raid5_steady v plain unmarked))
            (λ t inside. few_wanting v t few (inside_size t inside)) holds.shape.sized v.resync spent;
      }

-- ---- begin

module _ (v : View) (events place : ℕ) (seat : Seat) (device : Id) (is_array : IsArray v) (raid5 : is_raid5 v.truth ≡ true) (plain : is_mirror v.truth ≡ false) (still : is_reshaping v.truth ≡ false)
    (few_disks : v.truth.raid_disks < 16) (small : place < 16) (roles : length v.truth.roles.items ≡ 128) (spare : 0xfffe ≤ get_or v.truth.roles.items place 0)
    (nobody_next : (j : ℕ) → get_or v.truth.roles.items j 0 ≡ v.truth.raid_disks → ⊥)
    (no_rebuild : (to : ℕ) → seat ≡ Rebuilding to → ⊥)
    (few : lacks_two v ≡ false) (unsynced : first_unsynced v.truth ≤ v.resync) (a b : RackView) where
  abbrev next : View
  next = begun v events place seat device

  later : IsArray (begun v events place seat device)
  later = begun_array v events place seat device is_array raid5 plain few_disks small roles spare nobody_next

  last_among : Among (member_on next v.truth.raid_disks) (shape_of next).members
  last_among =
      subst (λ (ms : List Member). Among (member_on next v.truth.raid_disks) ms) (sym (shape_members next))
      (member_among next v.truth.raid_disks (v.truth.raid_disks + 1) (omega arith))

  not_before : (m : Member) → m ≡ member_on next v.truth.raid_disks → Among m (shape_of v).members → ⊥
  not_before m is among =
      let at = position_of v v.truth.raid_disks m (subst (λ (ms : List Member). Among m ms) (shape_members v) among) in
      let low = at.1 in
      let same : v.truth.raid_disks ≡ at.0 =
      places_apart next v.truth.raid_disks at.0 later (omega arith) (omega (arith, low))
      (ap (λ (o : Member). o.place) (sym is ∙ at.2) ∙ sym (places v events place seat device is_array plain still spare at.0 low)) in
      omega (arith, same, low)

  rebuild_kept : (xs : List Seat) (k to : ℕ) → slice_get (xs ++ seat ∷ []) k ≡ Some (Rebuilding to) → slice_get xs k ≡ Some (Rebuilding to)
  rebuild_kept [] zero to is = absurd (no_rebuild to (some_is seat (Rebuilding to) is))
    where
      some_is : (x y : Seat) → Some x ≡ Some y → x ≡ y
      some_is x y same = ap (λ o. unwrap_or o x) same
  rebuild_kept [] (suc k) to is = is
  rebuild_kept (x ∷ xs) zero to is = is
  rebuild_kept (x ∷ xs) (suc k) to is = rebuild_kept xs k to is

  pub begin_step : Step v (begun v events place seat device).truth (v.seats ++ seat ∷ []) (v.devices ++ device ∷ []) v.resync (λ m. m ≡ member_on (begun v events place seat device) v.truth.raid_disks) [] a b
  begin_step =
      let one = one_counts v is_array few in
      let low = one.1 in
      record {
        is_array = is_array;
        next = later;
        on = λ d i u pay. absurd pay;
        apart = refl;
        keeps = λ k below. (omega (arith, below), places v events place seat device is_array plain still spare k below);
        written = λ offset stripped.
            begun_written v events place seat device is_array raid5 plain few_disks small roles spare nobody_next v.number (whole_written v.number v.truth offset stripped);
        unsynced = unsynced;
        some = one.0;
        some_low = omega (arith, low);
        some_there = slot_there next one.0 later (omega (arith, low))
            (λ gone. counts_there v one.0 (v.truth.size - 1) one.2 (sym (seat_kept v events place seat device is_array plain still spare v.seats seat one.0 (let count = is_array.seats in omega (arith, low, count))) ∙ gone));
        joiner = λ m is. (subst (λ (o : Member). Among o (shape_of next).members) (sym is) last_among, not_before m is);
        settled = λ unmarked s vals spent before holds. holds.shape.settled (raid5_steady v plain unmarked);
        rows = λ rows k to is. rows k to (rebuild_kept v.seats k to is);
        live = λ rows opened also d i u pay. absurd pay;
        moves = λ unmarked rows s vals spent before holds. begun_moves v events place seat device is_array plain still spare (current_in b.held) v.resync spent;
      }
