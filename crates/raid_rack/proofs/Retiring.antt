-- A place is vacated in memory: the arrays without its members are those of a pool of which the drive is missing, and a commit that gives the place another drive
-- makes the same of them as of the arrays before.
use Rattle.std.proofs.Common.{◌≡◌, ◌≢◌, ◌⊎◌, ℕ, zero, suc, ◌+◌, ◌<◌, ◌≤◌, ◌==◌, ◌&&◌, ◌||◌, not, nat_lt, Bool, true, false, if◌then◌else◌, List, [], ◌∷◌, set, slice_get, Option, Some, None, option_map, refl, sym, ap, subst, ◌∙◌, inl, inr, eq-eqb, eqb-true, arith}
use Rattle.std.specs.List.{list_any, range_with_len}
use Rattle.std.specs.Option.{option_map_or}
use Rattle.std.proofs.lemmas.Bool.{and_parts, both_ways, cases_lt, ne_eqb}
use Rattle.std.proofs.lemmas.Option.{slice_get_past}
use Rattle.rack.specs.Seen.{RackView}
use Rattle.rack.specs.Joins.{stays_same}
use Rattle.shr_base.specs.declared.Id.{Id}
use Rattle.pool_state.specs.declared.contents.Drive.{Drive}
use Rattle.pool_state.specs.declared.contents.Plan.{Plan}
use Rattle.pool_state.specs.declared.contents.State.{State}
use Rattle.array_image.specs.States.{is_current}
use Rattle.array_model.specs.declared.Seat.{Seat}
use Rattle.array_model.specs.declared.Seat.TheVariants.{Missing, Rebuilding}
use Rattle.array_model.specs.View.{View, IsArray, has_gone, place_at, seat_unless}
use Rattle.array_model.proofs.Losses.{IsLosing}
use Rattle.array_core.specs.Seats.{gone, heeded, losing, names, renewed}
use Rattle.array_core.specs.Slots.{place_by}
use Rattle.sync_laws.proofs.Adopted.{same_lists}
use Rattle.raid_laws.specs.Book.{OnlyMarksSince}
use Rattle.raid_laws.specs.Enlisting.{IsEnlisted, enlisted, next_drive, with_drive}
use Rattle.raid_laws.specs.Missing.{marked, marked_from, missing_if}
use Rattle.raid_laws.specs.Moves.{IsHeeded, IsSeated, IsSet, IsUnmarked, OnlyFailures, RaisesBy}
use Rattle.raid_laws.specs.Raid.{Raid, gone_in, is_left}
use Rattle.raid_laws.specs.Truths.{JoinsTruths, TellsThere}
use Rattle.raid_laws.specs.Vacated.{vacated, vacated_state}
use Rattle.raid_laws.proofs.Committed.{seated_marked, valid_vacated}
use Rattle.raid_laws.proofs.Losing.{only_gone}
use Rattle.raid_laws.proofs.Missing.{current_marked, length_marked}
use Rattle.raid_laws.proofs.Noted.{current_few, losing_spent}
use Rattle.raid_laws.proofs.Over.{IsFurther, over_still}
use Rattle.raid_rack.proofs.Renewing.{renewed_only}
use Rattle.raid_laws.proofs.RetiredArrays.{losing_shape}
use Rattle.raid_laws.proofs.Seated.{array_with, gone_fewer, gone_losing, gone_lost, gone_seated, heeded_seated, missing_of, names_joined, seats_length, zip_seats}
use Rattle.raid_laws.proofs.Whole.{heeded_left}

-- ---- the list of drives

or_false : (b : Bool) → (b || false) ≡ b
or_false true = refl
or_false false = refl

-- drives behind the place
marked_past : (place n : ℕ) (ds : List Drive) → place < n → marked_from (place ∷ []) n ds ≡ ds
unfolding marked_from
marked_past place n [] less = refl
marked_past place n (e ∷ es) less =
    ap (λ (b : Bool). missing_if (b || false) e ∷ marked_from (place ∷ []) (n + 1) es) (ne_eqb place n (λ same. omega (arith, same, less)))
    ∙ ap (λ (b : Bool). record e { missing = b } ∷ marked_from (place ∷ []) (n + 1) es) (or_false e.missing)
    ∙ ap (λ fs. e ∷ fs) (marked_past place (n + 1) es (omega (arith, less)))

-- another drive is put there, whatever the mark
set_marked : (place n i : ℕ) (ds : List Drive) (d : Drive) → place ≡ n + i → set (marked_from (place ∷ []) n ds) i d ≡ set ds i d
unfolding marked_from
set_marked place n i [] d is = refl
set_marked place n zero (x ∷ ds) d is = ap (λ es. d ∷ es) (marked_past place (n + 1) ds (omega (arith, is)))
set_marked place n (suc i) (x ∷ ds) d is =
    ap (λ (b : Bool). missing_if (b || false) x ∷ set (marked_from (place ∷ []) (n + 1) ds) i d) (ne_eqb place n (λ same. omega (arith, same, is)))
    ∙ ap (λ (b : Bool). record x { missing = b } ∷ set (marked_from (place ∷ []) (n + 1) ds) i d) (or_false x.missing)
    ∙ ap (λ es. x ∷ es) (set_marked place (n + 1) i ds d (omega (arith, is)))

pub enlisted_vacated : (place units : ℕ) (plan : Plan) (s : State) → enlisted place units plan (vacated_state place s) ≡ enlisted place units plan s
enlisted_vacated place units plan s =
    ap (λ (ds : List Drive). record (enlisted place units plan s) { drives = record { items = ds } })
    (set_marked place 0 place s.drives.items (record { id = next_drive s; units = units; missing = false }) (omega arith))

-- drives of which that of the place is missing already
marked_already : (place n : ℕ) (ds : List Drive) → ((i : ℕ) (d : Drive) → n + i ≡ place → slice_get ds i ≡ Some d → d.missing ≡ true) → marked_from (place ∷ []) n ds ≡ ds
unfolding marked_from
marked_already place n [] are = refl
marked_already place n (d ∷ ds) are =
    ap (λ e. e ∷ marked_from (place ∷ []) (n + 1) ds) one ∙ ap (λ es. d ∷ es) (marked_already place (n + 1) ds (λ i e at is. are (suc i) e (omega (arith, at)) is))
  where
    or_same : (b c : Bool) → (c ≡ true → b ≡ true) → (b || c) ≡ b
    or_same true c is = refl
    or_same false false is = refl
    or_same false true is = sym (is refl)

    one : missing_if (names (place ∷ []) n) d ≡ d
    one =
        ap (λ (b : Bool). record d { missing = b })
        (or_same d.missing (names (place ∷ []) n) (λ named. are 0 d (let e = eqb-true place n (or_none (place == n) named) in omega (arith, e)) refl))
      where
        or_none : (b : Bool) → (b || false) ≡ true → b ≡ true
        or_none true is = refl
        or_none false is = is

pub vacated_already : (place : ℕ) (s : State) → is_current s place ≡ false → vacated_state place s ≡ s
vacated_already place s missing =
    ap (λ (ds : List Drive). record s { drives = record { items = ds } })
    (marked_already place 0 s.drives.items
    (λ i d at is. not_false d.missing (sym (ap (λ o. option_map_or (λ (e : Drive). not e.missing) o false) (ap (slice_get s.drives.items) (let e : place ≡ i = omega (arith, at) in e) ∙ is)) ∙ missing)))
  where
    not_false : (b : Bool) → not b ≡ false → b ≡ true
    not_false true is = refl
    not_false false is = sym is

-- ---- an array

module _ (place : ℕ) (u : View) (is_array : IsArray u) where
  lost_seats : (k : ℕ) → slice_get (losing (place ∷ []) u).seats k ≡ option_map (seat_unless (names (place ∷ [])) (place_at u k)) (slice_get u.seats k)
  lost_seats k = gone_lost u (place ∷ []) is_array k

  pub losing_array : IsArray (losing (place ∷ []) u)
  losing_array =
      array_with u (losing (place ∷ []) u).seats u.went
      (seats_length (losing (place ∷ []) u).seats u.seats (λ k. seat_unless (names (place ∷ [])) (place_at u k)) lost_seats) is_array

  -- whose members there are missing already, or which has none there
  pub losing_same : ((k : ℕ) → k < u.truth.raid_disks → place_at u k ≡ place → slice_get u.seats k ≡ Some Missing) → losing (place ∷ []) u ≡ u
  losing_same missing = ap (λ (ss : List Seat). record u { seats = ss }) (same_lists (losing (place ∷ []) u).seats u.seats (λ k. lost_seats k ∙ at k))
    where
      kept : (b : Bool) (o : Option Seat) → (b ≡ true → (o ≡ Some Missing) ⊎ (o ≡ None)) → option_map (λ (s : Seat). if b then Missing else s) o ≡ o
      kept false None is = refl
      kept false (Some s) is = refl
      kept true o is = elim (is refl) [
        | inl lost ↦ ap (option_map (λ (s : Seat). Missing)) lost ∙ sym lost
        | inr none ↦ ap (option_map (λ (s : Seat). Missing)) none ∙ sym none
      ]

      or_none : (b : Bool) → (b || false) ≡ true → b ≡ true
      or_none true is = refl
      or_none false is = is

      at : (k : ℕ) → option_map (seat_unless (names (place ∷ [])) (place_at u k)) (slice_get u.seats k) ≡ slice_get u.seats k
      at k = kept (names (place ∷ []) (place_at u k)) (slice_get u.seats k)
          (λ named. elim (cases_lt k u.truth.raid_disks) [
            | inl low ↦ inl (missing k low (sym (eqb-true place (place_at u k) (or_none (place == place_at u k) named))))
            | inr past ↦ inr (slice_get_past u.seats k (let many = is_array.seats in omega (arith, past, many)))
          ])

  pub losing_only : OnlyFailures u (losing (place ∷ []) u)
  losing_only =
      let only = only_gone u (gone (place ∷ []) u) (place ∷ []) is_array refl in
      record {
        same = record {
          number = only.same.number;
          geometry = only.same.geometry;
          devices = only.same.devices;
          resync = only.same.resync;
          young = only.same.young;
        };
        seats = only.seats;
      }

  -- renewed there, it is the same
  pub renewed_losing : (drive : Id) → renewed place drive (losing (place ∷ []) u) ≡ renewed place drive u
  renewed_losing drive =
      λ i. record (renewed place drive u) {
        seats = same_lists (renewed place drive (losing (place ∷ []) u)).seats (renewed place drive u).seats seats i;
        devices = (renewed_only u (losing (place ∷ []) u) is_array losing_array losing_only place drive).same.devices i;
      }
    where
      twice : (b : Bool) (o : Option Seat)
          → option_map (λ (s : Seat). if b then Rebuilding 0 else s) (option_map (λ (s : Seat). if b then Missing else s) o) ≡ option_map (λ (s : Seat). if b then Rebuilding 0 else s) o
      twice b None = refl
      twice true (Some s) = refl
      twice false (Some s) = refl

      of : (v : View) → IsArray v → (k : ℕ) → slice_get (renewed place drive v).seats k ≡ option_map (λ (s : Seat). if names (place ∷ []) (place_at v k) then Rebuilding 0 else s) (slice_get v.seats k)
      of v array k =
          zip_seats (λ q (s : Seat). if names (place ∷ []) q then Rebuilding 0 else s) (place_by v.truth) 0 v.truth.raid_disks v.seats v.devices k array.seats array.devices
          ∙ ap (λ (p : ℕ). option_map (λ (s : Seat). if names (place ∷ []) (place_by v.truth p) then Rebuilding 0 else s) (slice_get v.seats k)) (let e : 0 + k ≡ k = omega arith in e)

      seats : (k : ℕ) → slice_get (renewed place drive (losing (place ∷ []) u)).seats k ≡ slice_get (renewed place drive u).seats k
      seats k =
          of (losing (place ∷ []) u) losing_array k ∙ ap (option_map (λ (s : Seat). if names (place ∷ []) (place_at u k) then Rebuilding 0 else s)) (lost_seats k)
          ∙ twice (names (place ∷ []) (place_at u k)) (slice_get u.seats k) ∙ sym (of u is_array k)

  pub losing_less : (heeded_now : u.went ≡ []) → IsLosing u (losing (place ∷ []) u) (names (place ∷ []))
  losing_less heeded_now =
      let less = gone_losing u (place ∷ []) is_array (λ none. heeded_now) in
      record {
        number = refl;
        truth = refl;
        resync = refl;
        shape = losing_shape (place ∷ []) u ∙ less.shape;
        vary = less.vary;
        marked = λ is. is;
        went = λ none. heeded_now;
      }

-- as the code makes it
pub heeded_losing : (place : ℕ) (u : View) → u.went ≡ [] → heeded (gone (place ∷ []) u) ≡ losing (place ∷ []) u
heeded_losing place u none = λ i. record (losing (place ∷ []) u) { went = sym none i }

-- ---- the pool

module _ (place : ℕ) (v : Raid) (x : RackView) (few : place < 16) (set : IsSet v x) (heeded_now : IsHeeded v) (unmarked : (n : ℕ) → n < v.state.made → IsUnmarked (v.arrays n)) where
  current_now : (p : ℕ) → is_current (vacated place v).state p ≡ true → (is_current v.state p ≡ true) × (names (place ∷ []) p ≡ false)
  current_now p is =
      let both = and_parts (is_current v.state p) (not (names (place ∷ []) p)) (sym (current_marked (place ∷ []) v.state p) ∙ is) in
      (both.0, not_true (names (place ∷ []) p) both.1)
    where
      not_true : (b : Bool) → not b ≡ true → b ≡ false
      not_true true is = absurd (both_ways false refl is)
      not_true false is = refl

  seated : (n : ℕ) → n < v.state.made → IsSeated (vacated place v).state n (losing (place ∷ []) (v.arrays n)) x
  seated n low =
      let u = v.arrays n in
      let none = heeded_now n low in
      let stays = stays_same x set.fit in
      let listed : (p : ℕ) → p < 16 → has_gone (gone (place ∷ []) u) p ≡ names (place ∷ []) p =
      λ p small. names_joined u.went (place ∷ []) p small ∙ ap (λ ps. names ps p || names (place ∷ []) p) none in
      let by =
      heeded_seated (marked (place ∷ []) v.state) n (gone (place ∷ []) u) x stays
      (seated_marked v.state (place ∷ []) n (gone (place ∷ []) u) x
      (λ p is. listed p (subst (λ q. q < 16) (eqb-true place p (or_none (place == p) is)) few) ∙ is)
      (let bare = unmarked n low in record { mark = bare.mark; rows = bare.rows })
      (gone_seated v.state n u (place ∷ []) x stays (λ p current. current_few v.state p set.few current) (set.arrays n low)))
      (λ p current. let at = current_now p current in listed p (current_few v.state p set.few at.0) ∙ at.1) in
      let now = subst (λ (q : View). IsSeated (marked (place ∷ []) v.state) n q x) (heeded_losing place u none) by in
      record {
        is_array = now.is_array;
        number = now.number;
        slices = now.slices;
        marks = now.marks;
        is_of_pool = record {
          set = now.is_of_pool.set;
          profile = now.is_of_pool.profile;
          events = now.is_of_pool.events;
          events_end = now.is_of_pool.events_end;
          row = now.is_of_pool.row;
          roles = now.is_of_pool.roles;
          unsynced = now.is_of_pool.unsynced;
          synced = now.is_of_pool.synced;
          zeroed = now.is_of_pool.zeroed;
          rows = now.is_of_pool.rows;
        };
      }
    where
      or_none : (b : Bool) → (b || false) ≡ true → b ≡ true
      or_none true is = refl
      or_none false is = is

  pub vacated_left : (p : ℕ) → is_left (vacated place v) p ≡ true → is_left v p ≡ true
  vacated_left p left =
      heeded_left v p heeded_now (current_now p (and_parts (is_current (vacated place v).state p) (not (gone_in (vacated place v) p)) left).0).0

  pub vacated_set : IsSet (vacated place v) x
  vacated_set = record {
    fit = set.fit;
    lasting = set.lasting;
    disks = set.disks;
    few = subst (λ k. k ≤ 16) (sym (length_marked (place ∷ []) 0 v.state.drives.items)) set.few;
    most = set.most;
    valid = λ p low. valid_vacated place v.state p (set.valid p (subst (λ k. p < k) (length_marked (place ∷ []) 0 v.state.drives.items) low));
    logs = λ p left. set.logs p (vacated_left p left);
    arrays = seated;
    marked = λ n low is. absurd (both_ways (v.arrays n).marked (unmarked n low).mark is);
  }

  pub vacated_heeded : IsHeeded (vacated place v)
  vacated_heeded n low = heeded_now n low

  pub vacated_missing : is_current (vacated place v).state place ≡ false
  vacated_missing = current_marked (place ∷ []) v.state place ∙ ap (λ (b : Bool). is_current v.state place && not (b || false)) (eq-eqb place place refl) ∙ and_false (is_current v.state place)
    where
      and_false : (b : Bool) → (b && false) ≡ false
      and_false true = refl
      and_false false = refl

  -- where its drive was missing nothing has changed
  pub vacated_same : is_current v.state place ≡ false → (n : ℕ) → n < v.state.made → losing (place ∷ []) (v.arrays n) ≡ v.arrays n
  vacated_same missing n low =
      let at = set.arrays n low in
      losing_same place (v.arrays n) at.is_array
      (λ k inside here. missing_of (slice_get (v.arrays n).seats k) (is_current v.state (place_at (v.arrays n) k)) (has_gone (v.arrays n) (place_at (v.arrays n) k))
      (ap (is_current v.state) here ∙ missing) (at.marks k inside))

  vacated_further : IsFurther v (vacated place v)
  vacated_further = record {
    left = vacated_left;
    number = omega arith;
    epoch = omega arith;
    made = refl;
    events = λ n low. omega arith;
    seats = λ n low. gone_fewer (v.arrays n) (place ∷ []) (set.arrays n low).is_array;
  }

  module _ (units : ℕ) (plan : Plan) (joining : ℕ → Bool) (apart : (n : ℕ) → n < v.state.made → joining n ≡ false → (k : ℕ) → k < (v.arrays n).truth.raid_disks → place_at (v.arrays n) k ≢ place) where
    -- the arrays with the new members
    pub with_same : (n : ℕ) → n < v.state.made → (with_drive place units plan joining (vacated place v)).arrays n ≡ (with_drive place units plan joining v).arrays n
    with_same n low =
        let u = v.arrays n in
        let array = (set.arrays n low).is_array in
        of (joining n) refl u array (λ none k inside here. absurd (apart n low none k inside here))
      where
        of : (b : Bool) → joining n ≡ b → (u : View) → IsArray u → (joining n ≡ false → (k : ℕ) → k < u.truth.raid_disks → place_at u k ≡ place → slice_get u.seats k ≡ Some Missing)
            → (if b then renewed place (next_drive v.state) (losing (place ∷ []) u) else losing (place ∷ []) u) ≡ (if b then renewed place (next_drive v.state) u else u)
        of true is u array none = renewed_losing place u array (next_drive v.state)
        of false is u array none = losing_same place u array (none is)

    gone_same : (p : ℕ) → gone_in (with_drive place units plan joining (vacated place v)) p ≡ gone_in (with_drive place units plan joining v) p
    gone_same p = λ i. nat_lt p 16 && list_any (λ n. names (went (joining n) (v.arrays n) i) p) (range_with_len 0 v.state.made)
      where
        went : (b : Bool) (u : View) → (if b then renewed place (next_drive v.state) (losing (place ∷ []) u) else losing (place ∷ []) u).went
            ≡ (if b then renewed place (next_drive v.state) u else u).went
        went true u = refl
        went false u = refl

    left_same : (p : ℕ) → is_left (with_drive place units plan joining (vacated place v)) p ≡ is_left (with_drive place units plan joining v) p
    left_same p = λ i. is_current (enlisted_vacated place units plan v.state i) p && not (gone_same p i)

    pub enlisted_back : (w : Raid) (a b : RackView) → IsEnlisted place units plan joining (vacated place v) w a b → IsEnlisted place units plan joining v w a b
    enlisted_back w a b is = record {
      book = subst (λ (s : State). OnlyMarksSince s w.state) (enlisted_vacated place units plan v.state) is.book;
      plan_is = is.plan_is;
      arrays = λ n low. subst (λ (u : View). OnlyFailures u (w.arrays n)) (with_same n low) (is.arrays n low);
      sectors = is.sectors;
      caused = record {
        left = λ p left. sym (left_same p) ∙ is.caused.left p left;
        cause = λ p left gone_now. is.caused.cause p (left_same p ∙ left) gone_now;
      };
      heeded = is.heeded;
      number = is.number;
      events = is.events;
      spent = λ n y low alive.
          losing_spent (v.arrays n) (losing (place ∷ []) (v.arrays n)) (names (place ∷ [])) (set.arrays n low).is_array
          (losing_less place (v.arrays n) (set.arrays n low).is_array (heeded_now n low)) y (is.spent n y low alive);
      still = λ n low other goes. over_still v (vacated place v) vacated_further n low (is.still n low other goes);
    }

    pub truths_back : (w : Raid) (a b : RackView) → JoinsTruths (with_drive place units plan joining (vacated place v)) w a b → JoinsTruths (with_drive place units plan joining v) w a b
    truths_back w a b truths n low tells = truths n low (subst (λ (u : View). TellsThere u a) (sym (with_same n low)) tells)

pub raises_back : (k place : ℕ) (v w : Raid) → RaisesBy k (vacated place v) w → RaisesBy k v w
raises_back k place v w raises = record { number = raises.number; epoch = raises.epoch; events = raises.events }
