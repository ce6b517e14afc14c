-- An array of a pool after calls in which places went, and after its places are noted or heeded.
use Rattle.std.proofs.Common.{◌≡◌, ℕ, zero, suc, ◌+◌, ◌<◌, ◌≤◌, Bool, true, false, ◌==◌, ◌&&◌, ◌||◌, not, if◌then◌else◌, List, [], ◌∷◌, ◌++◌, map, length, slice_get, Option, Some, None, option_map, unwrap_or, ◌⊎◌, refl, sym, ap, ap₂, subst, ◌∙◌, inl, inr, eqb-true, arith}
use Rattle.std.proofs.lemmas.Bool.{and_from, and_parts, both_ways, cases_Bool, cases_lt}
use Rattle.std.proofs.lemmas.Option.{slice_get_past}
use Rattle.std.proofs.lemmas.List.Folds.{list_any-append}
use Rattle.std.proofs.lemmas.Map.Views.{any-filter_same}
use Rattle.std.specs.List.{list_all, list_any, range_with_len, zip}
use Rattle.shr_base.specs.declared.Id.{Id}
use Rattle.rack.specs.Seen.{RackView, SameRack}
use Rattle.pool_state.specs.declared.contents.State.{State}
use Rattle.array_image.specs.States.{is_current}
use Rattle.array_image.specs.Supers.{is_reshaping}
use Rattle.array_image.specs.Places.{data_sector}
use Rattle.commit_log.proofs.Deciding.{names_first}
use Rattle.log_laws.proofs.Naming.{names_range}
use Rattle.array_model.specs.declared.Seat.{Seat}
use Rattle.array_model.specs.declared.Seat.TheVariants.{Whole, Missing, Rebuilding}
use Rattle.array_model.specs.View.{View, IsArray, LosesPlaces, has_gone, is_missing_seat, is_whole_array, is_whole_seat, place_at, rows_of, seat_unless, shape_of, present}
use Rattle.array_model.specs.Members.{IsSameButSeats, slice_on}
use Rattle.array_model.proofs.Views.{shape_then, vary_then, fewer_left}
use Rattle.array_model.proofs.Losses.{IsLosing}
use Rattle.array_core.specs.Slots.{slot_with, place_by}
use Rattle.array_core.specs.Seats.{names, gone, joined, heeded}
use Rattle.raid_laws.specs.Moves.{IsOfPool, IsSeated}
use Rattle.raid_laws.proofs.Ranges.{any_some, any_none}

-- ---- seats after losses

pub seats_length : (ws vs : List Seat) (f : ℕ → Seat → Seat) → ((n : ℕ) → slice_get ws n ≡ option_map (f n) (slice_get vs n)) → length ws ≡ length vs
seats_length [] [] f same = refl
seats_length [] (v ∷ vs) f same = let bad : None ≡ Some (f 0 v) = same 0 in absurd (cc)
seats_length (w ∷ ws) [] f same = let bad : Some w ≡ None = same 0 in absurd (cc)
seats_length (w ∷ ws) (v ∷ vs) f same = ap suc (seats_length ws vs (λ n. f (suc n)) (λ n. same (suc n)))

pub missing_then : (lost : Bool) (o : Option Seat) → o ≡ Some Missing → option_map (λ seat. if lost then Missing else seat) o ≡ Some Missing
missing_then true o is = ap (option_map (λ seat. Missing)) is
missing_then false o is = ap (option_map (λ seat. seat)) is

pub rebuilding_before : (lost : Bool) (o : Option Seat) (to : ℕ) → option_map (λ seat. if lost then Missing else seat) o ≡ Some (Rebuilding to) → o ≡ Some (Rebuilding to)
rebuilding_before lost None to is = absurd (cc)
rebuilding_before true (Some seat) to is = absurd (cc)
rebuilding_before false (Some seat) to is = is

marks_lost : (lost went now current : Bool) (o : Option Seat) → option_map is_missing_seat o ≡ Some (not (current && not went))
    → (current ≡ true → now ≡ (lost || went)) → (current ≡ false → lost ≡ true → o ≡ Some Missing)
    → option_map is_missing_seat (option_map (λ seat. if lost then Missing else seat) o) ≡ Some (not (current && not now))
marks_lost lost went now current None is same other = absurd (let bad : None ≡ Some (not (current && not went)) = is in cc)
marks_lost true went now true (Some seat) is same other = ap (λ b. Some (not (true && not b))) (sym (same refl))
marks_lost false went now true (Some seat) is same other = is ∙ ap (λ b. Some (not (true && not b))) (sym (same refl))
marks_lost true went now false (Some seat) is same other = refl
marks_lost false went now false (Some seat) is same other = is

-- a member that isn't current is missing
pub missing_seat : (seat : Seat) → is_missing_seat seat ≡ true → seat ≡ Missing
missing_seat Whole is = absurd (both_ways false refl is)
missing_seat Missing is = refl
missing_seat (Rebuilding to) is = absurd (both_ways false refl is)

pub missing_of : (o : Option Seat) (current went : Bool) → current ≡ false → option_map is_missing_seat o ≡ Some (not (current && not went)) → o ≡ Some Missing
missing_of None current went other is = absurd (let bad : None ≡ Some (not (current && not went)) = is in cc)
missing_of (Some seat) true went other is = absurd (both_ways true other refl)
missing_of (Some seat) false went other is = ap Some (missing_seat seat (ap (λ o. unwrap_or o true) is))

-- ---- an array of a pool

-- the array with other seats, and other places that went
abbrev pub with_seats : View → List Seat → List ℕ → View
with_seats u seats went = record u { seats = seats; went = went }

pub view_with : (u w : View) → IsSameButSeats u w → w ≡ with_seats u w.seats w.went
view_with u w same = λ i. record {
  number = same.number i;
  truth = same.truth i;
  seats = w.seats;
  devices = same.devices i;
  went = w.went;
  resync = same.resync i;
  young = same.young i;
  marked = same.marked i;
}

-- the seats without some places
abbrev pub AreLost : View → List Seat → (ℕ → Bool) → Type 0
AreLost u seats lost = (k : ℕ) → slice_get seats k ≡ option_map (seat_unless lost (place_at u k)) (slice_get u.seats k)

-- a whole array is so after calls in which no place of a current member went
pub whole_then : (s : State) (n : ℕ) (u w : View) (lost : ℕ → Bool) (x : RackView) → IsSeated s n u x → IsSameButSeats u w → AreLost u w.seats lost → is_whole_array u ≡ true
    → (is_whole_array w ≡ true) ⊎ ((p : ℕ) × (is_current s p ≡ true) × (lost p ≡ true))
whole_then s n u w lost x seated same loses whole =
    let test : ℕ → Bool = λ k. lost (place_at u k) in
    let parts = and_parts (list_all is_whole_seat u.seats) ((u.resync == rows_of u) && (not u.young && not (is_reshaping u.truth))) whole in
    elim (cases_Bool (list_any test (range_with_len 0 u.truth.raid_disks))) [
      | inl some ↦
          let at = any_some test 0 u.truth.raid_disks some in
          let low = at.2 in
          let inside : at.0 < u.truth.raid_disks = omega (arith, low) in
          inr (
            place_at u at.0,
            there_current (is_current s (place_at u at.0)) (has_gone u (place_at u at.0)) u.seats at.0 parts.0
                (let count = seated.is_array.seats in omega (arith, count, inside)) (seated.marks at.0 inside),
            at.3,
          )
      | inr none ↦
          let seats : (k : ℕ) → slice_get w.seats k ≡ slice_get u.seats k = λ k.
          loses k
          ∙ elim (cases_lt k u.truth.raid_disks) [
            | inl low ↦ unlost (slice_get u.seats k) (test k) (any_none test 0 u.truth.raid_disks k none (omega arith) (omega (arith, low)))
            | inr past ↦
                let out = slice_get_past u.seats k (let count = seated.is_array.seats in omega (arith, count, past)) in
                ap (option_map (seat_unless lost (place_at u k))) out ∙ sym out
          ] in
          inl (ap is_whole_array (view_with u w same)
          ∙ and_from (list_all is_whole_seat w.seats) ((u.resync == rows_of u) && (not u.young && not (is_reshaping u.truth)))
          (ap (list_all is_whole_seat) (same_seats w.seats u.seats seats) ∙ parts.0) parts.1)
    ]
  where
    same_seats : (ws vs : List Seat) → ((k : ℕ) → slice_get ws k ≡ slice_get vs k) → ws ≡ vs
    same_seats [] [] same = refl
    same_seats [] (v ∷ vs) same = let bad : None ≡ Some v = same 0 in absurd (cc)
    same_seats (z ∷ ws) [] same = let bad : Some z ≡ None = same 0 in absurd (cc)
    same_seats (z ∷ ws) (v ∷ vs) same = ap₂ (λ (seat : Seat) (seats : List Seat). seat ∷ seats) (ap (λ o. unwrap_or o z) (same 0)) (same_seats ws vs (λ k. same (suc k)))

    unlost : (o : Option Seat) (b : Bool) → b ≡ false → option_map (λ seat. if b then Missing else seat) o ≡ o
    unlost None b is = refl
    unlost (Some seat) true is = absurd (both_ways true is refl)
    unlost (Some seat) false is = refl

    there : (current went : Bool) (seat : Seat) → is_whole_seat seat ≡ true → is_missing_seat seat ≡ not (current && not went) → current ≡ true
    there true went seat all is = refl
    there false went Whole all is = absurd (both_ways false refl is)
    there false went Missing all is = absurd (both_ways false refl all)
    there false went (Rebuilding to) all is = absurd (both_ways false refl all)

    there_current : (current went : Bool) (seats : List Seat) (k : ℕ) → list_all is_whole_seat seats ≡ true → k < length seats
        → option_map is_missing_seat (slice_get seats k) ≡ Some (not (current && not went)) → current ≡ true
    there_current current went [] k all low is = absurd (omega (arith, low))
    there_current current went (seat ∷ seats) zero all low is =
        there current went seat (and_parts (is_whole_seat seat) (list_all is_whole_seat seats) all).0 (ap (λ o. unwrap_or o true) is)
    there_current current went (seat ∷ seats) (suc k) all low is =
        there_current current went seats k (and_parts (is_whole_seat seat) (list_all is_whole_seat seats) all).1 (omega (arith, low)) is

pub or_last : (b c : Bool) → c ≡ true → (b || c) ≡ true
or_last true c is = refl
or_last false c is = is

pool_with : (s : State) (n : ℕ) (u : View) (seats : List Seat) (went : List ℕ) (lost : ℕ → Bool) (x : RackView) → IsSeated s n u x → AreLost u seats lost
    → ((p : ℕ) → is_current s p ≡ true → names went p ≡ (lost p || has_gone u p)) → IsOfPool s (with_seats u seats went)
pool_with s n u seats went lost x seated are listed =
    let pool = seated.is_of_pool in
    record {
      set = pool.set;
      profile = pool.profile;
      events = pool.events;
      events_end = pool.events_end;
      row = pool.row;
      roles = pool.roles;
      unsynced = pool.unsynced;
      synced = λ young part.
          elim (cases_Bool (is_whole_array u)) [
            | inl all ↦
                elim (whole_then s n u (with_seats u seats went) lost x seated
                (record { number = refl; truth = refl; devices = refl; resync = refl; young = refl; marked = refl }) are all) [
                  | inl yet ↦ absurd (both_ways (is_whole_array (with_seats u seats went)) part yet)
                  | inr some ↦ inr (some.0, some.1, listed some.0 some.1 ∙ ap (λ b. b || has_gone u some.0) some.2)
                ]
            | inr not_all ↦
                elim (pool.synced young not_all) [
                  | inl rows ↦ inl rows
                  | inr some ↦ inr (some.0, some.1, listed some.0 some.1 ∙ or_last (lost some.0) (has_gone u some.0) some.2)
                ]
          ];
      zeroed = pool.zeroed;
      rows = λ k to is. pool.rows k to (rebuilding_before (lost (place_at u k)) (slice_get u.seats k) to (sym (are k) ∙ is));
    }

pub array_with : (u : View) (seats : List Seat) (went : List ℕ) → length seats ≡ length u.seats → IsArray u → IsArray (with_seats u seats went)
array_with u seats went count is_array =
    record {
      few = is_array.few;
      level = is_array.level;
      least = is_array.least;
      most = is_array.most;
      seats = count ∙ is_array.seats;
      devices = is_array.devices;
      small = is_array.small;
      whole_rows = is_array.whole_rows;
      placed = is_array.placed;
      synced = is_array.synced;
      reshape = is_array.reshape;
    }

pub place_few : (u : View) (k : ℕ) → IsArray u → k < u.truth.raid_disks → place_at u k < 16
place_few u k is_array low =
    let at = is_array.placed k low in
    subst (λ p. p < 16) (sym (ap (λ o. unwrap_or o 16) at.1)) at.2

-- Calls in which places went: the array is one of the pool without them, where those that are listed and current are those.
pub seated_with : (s : State) (n : ℕ) (u : View) (seats : List Seat) (went : List ℕ) (lost : ℕ → Bool) (x y : RackView) → SameRack x y
    → IsSeated s n u x → AreLost u seats lost
    → ((p : ℕ) → is_current s p ≡ true → names went p ≡ (lost p || has_gone u p))
    → IsSeated s n (with_seats u seats went) y
seated_with s n u seats went lost x y stays seated are listed =
    record {
      is_array = array_with u seats went (seats_length seats u.seats (λ k. seat_unless lost (place_at u k)) are) seated.is_array;
      number = seated.number;
      slices = record {
        fit = stays.fit;
        lasting = stays.lasting seated.slices.lasting;
        disks = λ k low there. subst (λ m. slice_on u k < m) (sym stays.disks) (seated.slices.disks k low (was k there));
        sectors = λ k low there. subst (λ m. data_sector + u.truth.size ≤ m) (sym (stays.sectors (slice_on u k))) (seated.slices.sectors k low (was k there));
      };
      marks = λ k low.
          ap (option_map is_missing_seat) (are k)
          ∙ marks_lost (lost (place_at u k)) (has_gone u (place_at u k)) (names went (place_at u k)) (is_current s (place_at u k)) (slice_get u.seats k)
          (seated.marks k low) (λ current. listed (place_at u k) current)
          (λ other gone. missing_of (slice_get u.seats k) (is_current s (place_at u k)) (has_gone u (place_at u k)) other (seated.marks k low));
      is_of_pool = pool_with s n u seats went lost x seated are listed;
    }
  where
    was : (k : ℕ) → (slice_get seats k ≡ Some Missing → ⊥) → slice_get u.seats k ≡ Some Missing → ⊥
    was k there is = there (are k ∙ missing_then (lost (place_at u k)) (slice_get u.seats k) is)

-- ---- losses that are noted

-- a list that names nobody is empty
pub none_listed : (ps : List ℕ) → ((p : ℕ) → names ps p ≡ false) → ps ≡ []
none_listed [] none = refl
none_listed (p ∷ ps) none = absurd (both_ways (names (p ∷ ps) p) (none p) (names_first p ps))

pub names_joined : (first second : List ℕ) (p : ℕ) → p < 16 → names (joined first second) p ≡ (names first p || names second p)
names_joined first second p low =
    any-filter_same (λ q. q == p) (λ q. names first q || names second q) (names first p || names second p)
    (λ q is. ap (λ k. names first k || names second k) (eqb-true q p is)) (range_with_len 0 16)
    ∙ ap (λ b. (names first p || names second p) && b) (names_range 0 16 p (omega arith) (omega (arith, low)))
    ∙ and_true (names first p || names second p)
  where
    and_true : (b : Bool) → (b && true) ≡ b
    and_true true = refl
    and_true false = refl

pub map_get : {X Y : Type 0} (f : X → Y) (xs : List X) (n : ℕ) → slice_get (map f xs) n ≡ option_map f (slice_get xs n)
map_get f [] n = refl
map_get f (x ∷ xs) zero = refl
map_get f (x ∷ xs) (suc n) = map_get f xs n

-- seats that are changed by their places
pub zip_seats : (change : ℕ → Seat → Seat) (place : ℕ → ℕ) (a m : ℕ) (seats : List Seat) (devices : List Id) (k : ℕ)
    → length seats ≡ m → length devices ≡ m
    → slice_get (map (λ s. change s.place s.seat) (map slot_with (zip (map place (range_with_len a m)) (zip seats devices)))) k
    ≡ option_map (change (place (a + k))) (slice_get seats k)
zip_seats change place a zero [] devices k one two = refl
zip_seats change place a zero (s ∷ seats) devices k one two = absurd (omega (arith, one))
zip_seats change place a (suc m) [] devices k one two = absurd (omega (arith, one))
zip_seats change place a (suc m) (s ∷ seats) [] k one two = absurd (omega (arith, two))
zip_seats change place a (suc m) (s ∷ seats) (d ∷ devices) zero one two = ap (λ (p : ℕ). Some (change (place p) s)) (let e : a ≡ a + 0 = omega arith in e)
zip_seats change place a (suc m) (s ∷ seats) (d ∷ devices) (suc k) one two =
    zip_seats change place (a + 1) m seats devices k (omega (arith, one)) (omega (arith, two))
    ∙ ap (λ (p : ℕ). option_map (change (place p)) (slice_get seats k)) (let e : a + 1 + k ≡ a + suc k = omega arith in e)

-- the seats without the lost places
pub gone_lost : (u : View) (lost : List ℕ) → IsArray u → AreLost u (gone lost u).seats (names lost)
gone_lost u lost is_array k =
    zip_seats (seat_unless (names lost)) (place_by u.truth) 0 u.truth.raid_disks u.seats u.devices k is_array.seats is_array.devices
    ∙ ap (λ (p : ℕ). option_map (seat_unless (names lost) (place_by u.truth p)) (slice_get u.seats k)) (let e : 0 + k ≡ k = omega arith in e)

-- the array whose lost places are listed beside those that went
unfoldable pub listed : View → List ℕ → View
listed u lost = with_seats u (gone lost u).seats (lost ++ u.went)

pub listed_loses : (u : View) (lost : List ℕ) → IsArray u → LosesPlaces u (listed u lost) (names lost)
unfolding listed
listed_loses u lost is_array = record {
  seats = gone_lost u lost is_array;
  went = λ p. list_any-append (λ q. q == p) lost u.went;
}

-- what the array loses
pub gone_losing : (u : View) (lost : List ℕ) → IsArray u → ((gone lost u).went ≡ [] → u.went ≡ []) → IsLosing u (gone lost u) (names lost)
unfolding shape_of listed
gone_losing u lost is_array went =
    record {
      number = refl;
      truth = refl;
      resync = refl;
      shape = shape_then u (listed u lost) (names lost) refl (listed_loses u lost is_array);
      vary = vary_then u (listed u lost) (names lost) refl refl (listed_loses u lost is_array);
      marked = λ is. is;
      went = went;
    }

pub gone_fewer : (u : View) (lost : List ℕ) → IsArray u → present (gone lost u).seats ≤ present u.seats
unfolding listed
gone_fewer u lost is_array = fewer_left u (listed u lost) (names lost) (listed_loses u lost is_array)

-- it is one of the pool still
pub gone_seated : (s : State) (n : ℕ) (u : View) (lost : List ℕ) (x : RackView) → SameRack x x → ((p : ℕ) → is_current s p ≡ true → p < 16)
    → IsSeated s n u x → IsSeated s n (gone lost u) x
gone_seated s n u lost x stays few seated =
    seated_with s n u (gone lost u).seats (gone lost u).went (names lost) x x stays seated (gone_lost u lost seated.is_array)
    (λ p current. names_joined u.went lost p (few p current) ∙ or_swap (has_gone u p) (names lost p))
  where
    or_swap : (p q : Bool) → (p || q) ≡ (q || p)
    or_swap true true = refl
    or_swap true false = refl
    or_swap false true = refl
    or_swap false false = refl

-- and heeded, where whoever went is marked
pub heeded_seated : (s : State) (n : ℕ) (u : View) (x : RackView) → SameRack x x → IsSeated s n u x
    → ((p : ℕ) → is_current s p ≡ true → has_gone u p ≡ false) → IsSeated s n (heeded u) x
heeded_seated s n u x stays seated marked =
    seated_with s n u u.seats [] (λ p. false) x x stays seated (λ k. same (place_at u k) (slice_get u.seats k)) (λ p current. sym (marked p current))
  where
    same : (place : ℕ) (o : Option Seat) → o ≡ option_map (seat_unless (λ p. false) place) o
    same place None = refl
    same place (Some seat) = refl
