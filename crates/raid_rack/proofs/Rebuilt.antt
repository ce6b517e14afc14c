-- The code that rebuilds a row of a member, as a part of a call of all.
use Rattle.std.proofs.Common.{◌≡◌, ◌⊎◌, ℕ, zero, suc, ◌+◌, ◌*◌, ◌%◌, ◌-◌, ◌^◌, ◌<◌, ◌≤◌, Bool, true, false, ◌==◌, ◌&&◌, ◌||◌, not, nat_lt, if◌then◌else◌, List, [], ◌∷◌, map, set, get_or, slice_get, Option, Some, None, option_map, unwrap_or, Result, Ok, Err, is_ok, IfOk, IfErr, OnErr, refl, sym, ap, subst, ◌∙◌, inl, inr, eqb-true, ltb-true, lt-ltb, arith}
use Rattle.std.proofs.lemmas.Bool.{both_ways, cases_Bool, cases_eq, and_parts, and_from}
use Rattle.std.specs.List.{list_all, range_with_len}
use Rattle.std.specs.Option.{option_map_or}
use Rattle.arrayvec.specs.ArrayVec.{ArrayVec}
use Rattle.rack.specs.Seen.{RackView}
use Rattle.pool_state.specs.declared.contents.State.{State}
use Rattle.array_image.specs.Arrays.{place_with}
use Rattle.array_image.specs.States.{current_places, is_current}
use Rattle.array_image.specs.Supers.{is_reshaping}
use Rattle.log_laws.specs.View.{LogView}
use Rattle.array_model.specs.declared.Seat.{Seat}
use Rattle.array_model.specs.declared.Seat.TheVariants.{Whole, Missing, Rebuilding}
use Rattle.array_model.specs.View.{View, has_gone, is_missing_seat, is_seated, is_whole_array, is_whole_seat, member_on, place_at, present, rows_of, seat_reach, shape_of}
use Rattle.array_model.specs.Members.{members_of}
use Rattle.array_core.specs.Pool.{Goes}
use Rattle.array_core.specs.Seats.{seat_of}
use Rattle.array_core.specs.Writing.{KeepsElsewhere}
use Rattle.sync_laws.specs.Rows.{others_give}
use Rattle.sync_laws.specs.Steps.{HasRowLeft, Stepped, Steps, as_it_was, done, reach_on, rebuilt, rebuilt_seat, rows_left}
use Rattle.sync_laws.proofs.Rebuilt.{place_found, rebuilt_there}
use Rattle.raid_laws.proofs.RowsRebuilt.{next_array, next_rows, other_seat, own, own_before, own_seat}
use Rattle.raid_rack.specs.declared.arrays.Arrays.{Arrays}
use Rattle.raid_laws.specs.Raid.{Raid, is_empty, is_failed, is_used_up}
use Rattle.raid_laws.specs.Moves.{IsHeeded, IsSeated, OnlyFailures, Mends}
use Rattle.raid_rack.specs.RaidRack.{IsRunning, raid_by, no_array}
use Rattle.raid_laws.specs.Works.{Rebuilds, is_rebuilding, is_rebuilding_seat, is_whole_row, next_row}
use Rattle.raid_laws.specs.Reach.{KeepsReach}
use Rattle.raid_laws.proofs.Reach.{CountsOn, reach_by, same_counts}
use Rattle.raid_rack.specs.declared.works.Stuck.{Stuck}
use Rattle.raid_rack.proofs.Truths.{missing_none}
use Rattle.raid_rack.proofs.Resynced.{HasStepped, done_alone, has_called_step, member_less, rows_mended}
use Rattle.raid_rack.proofs.Sent.{low_named}
use Rattle.raid_laws.proofs.Stepped.{StepCall}
use Rattle.raid_rack.proofs.Steps.{set_own, set_other}
use Rattle.raid_laws.proofs.Views.{IsNext}

-- ---- a member that is being rebuilt

-- it has a row left
pub row_left : (s : State) (n : ℕ) (u : View) (x : RackView) (place : ℕ) → IsSeated s n u x → option_map_or is_rebuilding_seat (seat_of u place) false ≡ true → HasRowLeft u place
row_left s n u x place seated is = by (seat_of u place) refl is
  where
    by : (o : Option Seat) → seat_of u place ≡ o → option_map_or is_rebuilding_seat o false ≡ true → HasRowLeft u place
    by None at none = absurd (both_ways false refl none)
    by (Some Whole) at none = absurd (both_ways false refl none)
    by (Some Missing) at none = absurd (both_ways false refl none)
    by (Some (Rebuilding to)) at rebuilds =
        let found = place_found u place (Rebuilding to) seated.is_array at in
        let rows = seated.is_of_pool.rows found.0 to found.3 in
        let reach : reach_on u place ≡ to = ap (λ (o : Option Seat). option_map_or (seat_reach u.truth.size) o 0) at in
        record {
          seat = at ∙ ap (λ (k : ℕ). Some (Rebuilding k)) (sym reach);
          left = subst (λ k. k < u.truth.size) (sym reach) rows.1;
          whole = ap (λ k. k % 128) reach ∙ rows.0;
        }

same_present : (xs ys : List Seat) → ((k : ℕ) → option_map is_missing_seat (slice_get xs k) ≡ option_map is_missing_seat (slice_get ys k)) → present xs ≡ present ys
same_present [] [] same = refl
same_present [] (y ∷ ys) same = absurd (let bad : None ≡ Some (is_missing_seat y) = same 0 in cc)
same_present (x ∷ xs) [] same = absurd (let bad : Some (is_missing_seat x) ≡ None = same 0 in cc)
same_present (x ∷ xs) (y ∷ ys) same =
    ap (λ (b : Bool). if b then present xs else suc (present xs)) (ap (λ o. unwrap_or o true) (same 0))
    ∙ ap (λ (n : ℕ). if is_missing_seat y then n else suc n) (same_present xs ys (λ k. same (suc k)))

all_at : (xs : List Seat) (k : ℕ) (s : Seat) → list_all is_whole_seat xs ≡ true → slice_get xs k ≡ Some s → is_whole_seat s ≡ true
all_at [] k s all at = absurd (let bad : None ≡ Some s = at in cc)
all_at (x ∷ xs) zero s all at =
    ap is_whole_seat (sym (ap (λ o. unwrap_or o x) at)) ∙ (and_parts (is_whole_seat x) (list_all is_whole_seat xs) all).0
all_at (x ∷ xs) (suc k) s all at = all_at xs k s (and_parts (is_whole_seat x) (list_all is_whole_seat xs) all).1 at

module _ (s : State) (m : ℕ) (u : View) (x : RackView) (place rows : ℕ) (seated : IsSeated s m u x) (has : HasRowLeft u place) (left : rows ≤ rows_left u place) where
  -- the member's position, and its seat before them and after them
  abbrev at : ℕ
  at = own u place rows seated.is_array has left

  before : slice_get u.seats at ≡ Some (Rebuilding (reach_on u place))
  before = own_before u place rows seated.is_array has left

  after : slice_get (rebuilt u place rows).seats at ≡ Some (rebuilt_seat u.truth.size (reach_on u place + 128 * rows))
  after = own_seat u place rows seated.is_array has left

  others : (k : ℕ) → (k ≡ at → ⊥) → slice_get (rebuilt u place rows).seats k ≡ slice_get u.seats k
  others k other = other_seat u place rows seated.is_array has left k other

  -- whoever was missing is
  same_missing : (k : ℕ) → option_map is_missing_seat (slice_get (rebuilt u place rows).seats k) ≡ option_map is_missing_seat (slice_get u.seats k)
  same_missing k =
      elim (cases_eq k at) [
        | inl same ↦
            ap (λ j. option_map is_missing_seat (slice_get (rebuilt u place rows).seats j)) same
            ∙ ap (option_map is_missing_seat) after
            ∙ ap Some (rebuilt_there u.truth.size (reach_on u place + 128 * rows))
            ∙ sym (ap (λ j. option_map is_missing_seat (slice_get u.seats j)) same ∙ ap (option_map is_missing_seat) before)
        | inr other ↦ ap (option_map is_missing_seat) (others k other)
      ]

  -- and each member counts as far as it did, or some rows further
  pub rebuilt_grows : KeepsReach s (shape_of u) (shape_of (rebuilt u place rows))
  rebuilt_grows =
      reach_by (is_current s) u (rebuilt u place rows) refl
      (λ k low current.
      elim (cases_eq k at) [
        | inl same ↦
            subst (CountsOn u (rebuilt u place rows)) (sym same) (record {
              reach =
                  let was = ap (λ (o : Option Seat). option_map_or (seat_reach u.truth.size) o 0) before in
                  let now =
                  ap (λ (o : Option Seat). option_map_or (seat_reach u.truth.size) o 0) after
                  ∙ reach_there u.truth.size (reach_on u place + 128 * rows) in
                  omega (arith, was, now);
              there = λ was.
                  ap (λ (o : Option Seat). option_map_or is_seated o false) after
                  ∙ ap not (rebuilt_there u.truth.size (reach_on u place + 128 * rows));
              whole = λ whole. absurd (both_ways false refl (sym (ap (λ (o : Option Seat). option_map_or is_whole_seat o false) before) ∙ whole));
            })
        | inr other ↦ same_counts u (rebuilt u place rows) k refl (others k other)
      ])
    where
      reach_there : (size to : ℕ) → seat_reach size (rebuilt_seat size to) ≡ to
      reach_there size to =
          elim (cases_Bool (to == size)) [
            | inl all ↦ ap (λ (b : Bool). seat_reach size (if b then Whole else Rebuilding to)) all ∙ sym (eqb-true to size all)
            | inr less ↦ ap (λ (b : Bool). seat_reach size (if b then Whole else Rebuilding to)) less
          ]

  -- a member isn't whole
  pub part_before : is_whole_array u ≡ false
  part_before = elim (cases_Bool (is_whole_array u)) [
    | inl all ↦
        absurd (both_ways (is_whole_seat (Rebuilding (reach_on u place))) refl
        (all_at u.seats at (Rebuilding (reach_on u place))
        (and_parts (list_all is_whole_seat u.seats) ((u.resync == rows_of u) && (not u.young && not (is_reshaping u.truth))) all).0 before))
    | inr part ↦ part
  ]

  pub next_rebuilt : IsNext s m u (rebuilt u place rows) x
  next_rebuilt =
      let pool = seated.is_of_pool in
      record {
        seated = record {
          is_array = next_array u place rows seated.is_array has left;
          number = seated.number;
          slices = record {
            fit = seated.slices.fit;
            lasting = seated.slices.lasting;
            disks = λ k low there. seated.slices.disks k low (λ gone. there (missing_now k gone));
            sectors = λ k low there. seated.slices.sectors k low (λ gone. there (missing_now k gone));
          };
          marks = λ k low. same_missing k ∙ seated.marks k low;
          is_of_pool = record {
            set = pool.set;
            profile = pool.profile;
            events = pool.events;
            events_end = pool.events_end;
            row = pool.row;
            roles = pool.roles;
            unsynced = pool.unsynced;
            synced = λ young part. pool.synced young part_before;
            zeroed = pool.zeroed;
            rows = next_rows u place rows seated.is_array has left pool.rows;
          };
        };
        went = refl;
        sectors = refl;
        written = λ written. record {
          name = written.name;
          times = written.times;
          roles = written.roles;
          step = written.step;
          next_level = written.next_level;
          next_layout = written.next_layout;
          next_chunk = written.next_chunk;
          position = written.position;
          last_position = written.last_position;
          no_position = written.no_position;
          resync = written.resync;
        };
        events = omega arith;
        seats = let same = same_present (rebuilt u place rows).seats u.seats same_missing in omega (arith, same);
        was = λ marked. inl marked;
        whole = λ all. absurd (both_ways (is_whole_array u) part_before all);
      }
    where
      missing_now : (k : ℕ) → slice_get u.seats k ≡ Some Missing → slice_get (rebuilt u place rows).seats k ≡ Some Missing
      missing_now k gone = missing_none (slice_get (rebuilt u place rows).seats k) (same_missing k ∙ ap (option_map is_missing_seat) gone)

-- ---- members that are missing

-- what the others give after losses they gave before them
others_less : (u w : View) (place row a n : ℕ) → OnlyFailures u w
    → list_all (λ m. (m.place == place) || nat_lt (row * 128 + 127) m.reach) (map (member_on w) (range_with_len a n)) ≡ true
    → list_all (λ m. (m.place == place) || nat_lt (row * 128 + 127) m.reach) (map (member_on u) (range_with_len a n)) ≡ true
others_less u w place row a zero only all = refl
others_less u w place row a (suc n) only all =
    let both = and_parts ((place_at w a == place) || nat_lt (row * 128 + 127) (member_on w a).reach) _ all in
    and_from ((place_at u a == place) || nat_lt (row * 128 + 127) (member_on u a).reach) _
    (one (place_at w a == place) (ap (λ (p : ℕ). p == place) place_same) both.0)
    (others_less u w place row (a + 1) n only both.1)
  where
    place_same : place_at w a ≡ place_at u a
    place_same = ap (λ (r : ArrayVec ℕ). unwrap_or (place_with r.items a) 16) only.same.geometry.roles

    or_last : (b c : Bool) → c ≡ true → (b || c) ≡ true
    or_last true c is = refl
    or_last false c is = is

    one : (b : Bool) → b ≡ (place_at u a == place) → (b || nat_lt (row * 128 + 127) (member_on w a).reach) ≡ true
        → ((place_at u a == place) || nat_lt (row * 128 + 127) (member_on u a).reach) ≡ true
    one true is counts = ap (λ c. c || nat_lt (row * 128 + 127) (member_on u a).reach) (sym is)
    one false is counts =
        or_last (place_at u a == place) (nat_lt (row * 128 + 127) (member_on u a).reach)
        (lt-ltb (row * 128 + 127) (member_on u a).reach (member_less u w a (row * 128 + 127) only (ltb-true (row * 128 + 127) (member_on w a).reach counts)))

pub give_less : (u w : View) (place row : ℕ) → OnlyFailures u w → not (others_give w place row) ≡ false → not (others_give u place row) ≡ false
give_less u w place row only gives =
    let all = and_parts (list_all (λ m. (m.place == place) || nat_lt (row * 128 + 127) m.reach) (members_of w)) (nat_lt row w.resync) (not_false (others_give w place row) gives) in
    ap not
    (and_from (list_all (λ m. (m.place == place) || nat_lt (row * 128 + 127) m.reach) (members_of u)) (nat_lt row u.resync)
    (others_less u w place row 0 u.truth.raid_disks only
    (subst (λ n. list_all (λ m. (m.place == place) || nat_lt (row * 128 + 127) m.reach) (map (member_on w) (range_with_len 0 n)) ≡ true) only.same.geometry.disks all.0))
    (subst (λ r. nat_lt row r ≡ true) only.same.resync all.1))
  where
    not_false : (b : Bool) → not b ≡ false → b ≡ true
    not_false true is = refl
    not_false false is = sym is

-- ---- the code

-- what the rebuild of rows says of the array, before it and after it
pub record RebuiltRows (old u : View) (place rows number late : ℕ) (on : List ℕ) (x y : RackView) (answered : Bool) : Type 0 where
  pub left : rows ≤ rows_left old place
  pub steps : Steps old (rebuilt old place rows) u number late on x y answered
  pub elsewhere : KeepsElsewhere false old on x y
  pub refused : answered ≡ false → not (others_give u place (next_row old place)) ≡ true

-- the rows are array n's
rebuilt_own : (a : Arrays) (all : ArrayVec View) (log : LogView) (x y : RackView) (n place rows : ℕ) (on : List ℕ) (number : ℕ) (old u : View) (answered : Bool)
    → get_or all.items n no_array ≡ u → old ≡ get_or a.all.items n no_array → number ≡ a.log.number → RebuiltRows old u place rows number log.number on x y answered
    → RebuiltRows ((raid_by a).arrays n) (get_or all.items n no_array) place rows a.log.number log.number on x y answered
rebuilt_own a all log x y n place rows on number old u answered own old_is number_is rebuilt_rows =
    subst (λ (z : View). RebuiltRows z (get_or all.items n no_array) place rows a.log.number log.number on x y answered) old_is
    (subst (λ (z : View). RebuiltRows old z place rows a.log.number log.number on x y answered) (sym own)
    (subst (λ k. RebuiltRows old u place rows k log.number on x y answered) number_is rebuilt_rows))

pub rebuilt_call : (a : Arrays) (all : ArrayVec View) (log : LogView) (x y : RackView) (n place rows : ℕ) (on : List ℕ) (number : ℕ) (old u : View) (answered : Bool)
    → IsRunning a x → IsHeeded (raid_by a) → n < a.state.made → HasRowLeft ((raid_by a).arrays n) place
    → ((raid_by a).arrays n).truth.resync_offset ≡ 2 ^ 64 - 1 ⊎ ((raid_by a).arrays n).truth.resync_offset % 128 ≡ 0
    → old ≡ get_or a.all.items n no_array → all.items ≡ set a.all.items n u → number ≡ a.log.number → number ≤ log.number
    → on ≡ current_places a.state → list_all (λ place. nat_lt place 16) u.went ≡ true → Goes x y
    → RebuiltRows old u place rows number log.number on x y answered
    → StepCall (raid_by a) (λ k. get_or all.items k no_array) (rebuilt ((raid_by a).arrays n) place rows) log.number n x y on answered
rebuilt_call a all log x y n place rows on number old u answered running heeded low has whole old_is all_is number_is later on_is few goes rebuilt_rows =
    let f : ℕ → View = λ k. get_or all.items k no_array in
    let v = raid_by a in
    let own : f n ≡ u = ap (λ ys. get_or ys n no_array) all_is ∙ set_own a.all.items n u no_array (let count = running.count in omega (arith, low, count)) in
    let at = rebuilt_own a all log x y n place rows on number old u answered own old_is number_is rebuilt_rows in
    let seated = running.set.arrays n low in
    record {
      heeded = heeded;
      low = low;
      others = λ k other. ap (λ ys. get_or ys k no_array) all_is ∙ set_other a.all.items n k u no_array other;
      goes = goes;
      later = subst (λ k. k ≤ log.number) number_is later;
      on_is = on_is;
      few = λ p is. low_named u.went p few (sym (ap (λ (z : View). has_gone z p) own) ∙ is);
      is_next = next_rebuilt a.state n (v.arrays n) x place rows seated has at.left;
      framed = refl;
      grows = rebuilt_grows a.state n (v.arrays n) x place rows seated has at.left;
      rows = omega arith;
      young = refl;
      whole = whole;
      settled = λ is was. was;
      steps = at.steps;
      elsewhere = at.elsewhere;
    }

pub has_rebuilt : (a : Arrays) (all : ArrayVec View) (log : LogView) (x y : RackView) (n place rows : ℕ) (on : List ℕ) (number : ℕ) (old u : View) (answered : Bool)
    → IsRunning a x → IsHeeded (raid_by a) → n < a.state.made → HasRowLeft ((raid_by a).arrays n) place
    → ((raid_by a).arrays n).truth.resync_offset ≡ 2 ^ 64 - 1 ⊎ ((raid_by a).arrays n).truth.resync_offset % 128 ≡ 0
    → old ≡ get_or a.all.items n no_array → all.items ≡ set a.all.items n u → number ≡ a.log.number → number ≤ log.number
    → on ≡ current_places a.state → list_all (λ place. nat_lt place 16) u.went ≡ true → Goes x y
    → RebuiltRows old u place rows number log.number on x y answered
    → HasStepped a (record a { all = all; log = log }) x y n (rebuilt ((raid_by a).arrays n) place rows) (λ w. not (others_give w place (next_row ((raid_by a).arrays n) place))) answered
has_rebuilt a all log x y n place rows on number old u answered running heeded low has whole old_is all_is number_is later on_is few goes rebuilt_rows =
    let v = raid_by a in
    let own : get_or all.items n no_array ≡ u =
    ap (λ ys. get_or ys n no_array) all_is ∙ set_own a.all.items n u no_array (let count = running.count in omega (arith, low, count)) in
    let at = rebuilt_own a all log x y n place rows on number old u answered own old_is number_is rebuilt_rows in
    has_called_step a all log x y n (rebuilt (v.arrays n) place rows) (λ w. not (others_give w place (next_row (v.arrays n) place))) on u answered running all_is at.refused
    (rebuilt_call a all log x y n place rows on number old u answered running heeded low has whole old_is all_is number_is later on_is few goes rebuilt_rows)

pub rebuilt_raise : (old u : View) (place rows : ℕ) (x y : RackView) (is_done : Bool) → Stepped old (rebuilt old place rows) u x y is_done → u.truth.events ≤ old.truth.events + 1
rebuilt_raise old u place rows x y false (as_it_was notes) = let e = ap (λ t. t.events) notes.same.truth in omega (arith, e)
rebuilt_raise old u place rows x y true (done notes) = let e = ap (λ t. t.events) notes.same.truth in omega (arith, e)

-- what a rebuild of a row asks
pub rebuilding_parts : (v : Raid) (n place : ℕ) → is_rebuilding v n place ≡ true
    → (n < v.state.made) × (option_map_or is_rebuilding_seat (seat_of (v.arrays n) place) false ≡ true)
    × (((v.arrays n).truth.resync_offset ≡ 2 ^ 64 - 1) ⊎ ((v.arrays n).truth.resync_offset % 128 ≡ 0))
rebuilding_parts v n place is =
    let one = and_parts (nat_lt n v.state.made) _ is in
    let two = and_parts (option_map_or is_rebuilding_seat (seat_of (v.arrays n) place) false) (is_whole_row (v.arrays n).truth.resync_offset) one.1 in (
      ltb-true n v.state.made one.0,
      two.0,
      whole (v.arrays n).truth.resync_offset two.1,
    )
  where
    whole : (offset : ℕ) → is_whole_row offset ≡ true → (offset ≡ 2 ^ 64 - 1) ⊎ (offset % 128 ≡ 0)
    whole offset row =
        elim (cases_Bool (offset == 2 ^ 64 - 1)) [
          | inl last ↦ inl (eqb-true offset (2 ^ 64 - 1) last)
          | inr other ↦ inr (eqb-true (offset % 128) 0 (sym (ap (λ (b : Bool). b || (offset % 128 == 0)) other) ∙ row))
        ]

-- the answers of a row call
pub answered_refused_not : {T E : Type 0} (gives : Bool) (P : E → Type 0) (r : Result T E) → IfErr r (λ e. P e × (gives ≡ false)) → is_ok r ≡ false → not gives ≡ true
answered_refused_not gives P (Ok x) refused is = absurd (both_ways true is refl)
answered_refused_not gives P (Err e) refused is = ap not refused.1

-- rows that are rebuilt, and the mending after it
pub rebuilds_rows : (a b c : Arrays) (x y z : RackView) (m place most rows : ℕ) {E : Type 0} (did : Result ℕ E) (ended : Bool) (result : Result ℕ Stuck) → m < a.state.made
    → 0 < rows → rows ≤ most → rows ≤ rows_left ((raid_by a).arrays m) place → IfOk did (λ k. k ≡ rows)
    → HasStepped a b x y m (rebuilt ((raid_by a).arrays m) place rows) (λ w. not (others_give w place (next_row ((raid_by a).arrays m) place))) (is_ok did)
    → Mends (raid_by b) (raid_by c) y z → ended ≡ (is_empty (raid_by c) || is_used_up (raid_by c))
    → IfOk result (λ k. (did ≡ Ok k) × (ended ≡ false)) → IfErr result (λ e. (is_ok did ≡ false) ⊎ (ended ≡ true))
    → Rebuilds (raid_by a) (raid_by c) x z m place most result
rebuilds_rows a b c x y z m place most rows did ended result low some few inside number one mends ended_is told none =
    let row = next_row ((raid_by a).arrays m) place in
    let lacks : View → Bool = λ w. not (others_give w place row) in
    let made = subst (λ k. m < k) (sym one.brings.book.same.made) low in
    record {
      rows = rows_mended a b c x y z m (rows_left ((raid_by a).arrays m) place) most (rebuilt ((raid_by a).arrays m) place) lacks did result low rows some few inside number one mends
          (done_alone did ended result told);
      refused = refused result none (λ is.
          elim is [
            | inr over ↦
                or_first (is_failed (raid_by c) m) (lacks ((raid_by c).arrays m))
                (over_by (is_empty (raid_by c)) (is_used_up (raid_by c)) (present ((raid_by c).arrays m).seats == 0) (sym ended_is ∙ over))
            | inl not_done ↦
                or_second (is_failed (raid_by c) m) (lacks ((raid_by c).arrays m))
                (lacks_on (lacks ((raid_by c).arrays m))
                (λ gives.
                both_ways (lacks ((raid_by b).arrays m)) (give_less ((raid_by b).arrays m) ((raid_by c).arrays m) place row (mends.moves.arrays m made) gives) (one.refused not_done)))
          ]);
    }
  where
    refused : (r : Result ℕ Stuck) → IfErr r (λ e. (is_ok did ≡ false) ⊎ (ended ≡ true)) → {P : Type 0} → ((is_ok did ≡ false) ⊎ (ended ≡ true) → P) → OnErr r P
    refused (Ok k) is of = tt
    refused (Err e) is of = of is

    or_first : (b c : Bool) → b ≡ true → (b || c) ≡ true
    or_first true c is = refl
    or_first false c is = absurd (both_ways false refl is)

    or_second : (b c : Bool) → c ≡ true → (b || c) ≡ true
    or_second true c is = refl
    or_second false c is = is

    over_by : (e u p : Bool) → (e || u) ≡ true → (e || (u || p)) ≡ true
    over_by true u p is = refl
    over_by false true p is = refl
    over_by false false p is = absurd (both_ways false refl is)

    lacks_on : (b : Bool) → (b ≡ false → ⊥) → b ≡ true
    lacks_on true none = refl
    lacks_on false none = absurd (none refl)
