-- A pool whose record is replayed means what it meant.
use Rattle.std.proofs.Common.{◌≡◌, ℕ, ◌+◌, ◌<◌, ◌≤◌, ◌==◌, ◌&&◌, ◌||◌, not, Bool, true, false, nat_lt, nat_le, if◌then◌else◌, is_none, List, [], Option, Some, None, option_map, unwrap_or, refl, sym, ap, ap₂, ◌∙◌, arith, eq-eqb, lt-ltb, ltb-true, leb-true}
use Rattle.std.specs.Option.{option_map_or, option_and_then}
use Rattle.std.specs.List.{list_any, filter_map}
use Rattle.std.proofs.lemmas.Option.{none-some}
use Rattle.std.proofs.lemmas.Bool.{both_ways}
use Rattle.rack.specs.Seen.{Image}
use Rattle.rack.specs.Targets.{Target, look, put}
use Rattle.pool_state.specs.declared.contents.State.{State}
use Rattle.array_image.specs.Places.{place_of, slice_of, log_slice, log_sectors, state_sector, arrays_first}
use Rattle.array_image.specs.Record.{GateAt, gate_sector, is_bad_gate, record_in, pending_at, pending_record, pending, is_bad_log}
use Rattle.array_image.specs.States.{current_places}
use Rattle.pool_image.specs.Disks.{Disks, Identities, identities_of, newest, seat_of}
use Rattle.pool_image.specs.Replay.{Extent, Standing, log_extent, logs_of, landed, brought_state, standing, standing_by, written}
use Rattle.pool_image.specs.Drives.{Found, found_by, found, drive_sector, slices_from, extent_of, slices_of}
use Rattle.pool_image.specs.Meaning.{Refusal, no_pool, two_pools, refused_by, refused_at, refusal_of, Volume, volumes_of, meaning}
use Rattle.pool_image.specs.Alike.{drive_gate, Agree, IsSamePool, is_bad_block, IsRested, MeansTheSame}
use Rattle.pool_image.proofs.Identities.{agree_identities, newest_same, seat_same, seat_inside, other_same}
use Rattle.pool_image.proofs.Founds.{refused_same, volumes_same}

-- ---- nothing pending

nothing : (b : Bool) (o : Option (List Target)) → o ≡ None → (if b then [] else unwrap_or o []) ≡ []
nothing true o none = refl
nothing false o none = ap (λ (o : Option (List Target)). unwrap_or o []) none

pub none_pending : (places : List ℕ) (c : Image) → pending_at places c ≡ None → pending places c ≡ []
unfolding pending
none_pending places c none =
    nothing (list_any (is_bad_gate c) places) (pending_record places c) (ap (λ (o : Option GateAt). option_and_then (λ a. record_in c a.place a.gate.number) o) none)

-- nothing written
put_none : (sectors : ℕ → ℕ) (c : Image) → put sectors [] c ≡ c
unfolding look
put_none sectors c = λ i d s. same (nat_lt s (sectors d)) (c d s) i
  where
    same : (b : Bool) (v : List ℕ) → (if b then v else v) ≡ v
    same true v = refl
    same false v = refl

pub written_none : (disks : Disks) (x : Standing) (c : Image) → x.targets ≡ [] → written disks x c ≡ c
written_none disks x c none =
    ap (λ (xs : List Target). put disks.sectors (filter_map (landed disks x.identities (seat_of (unwrap_or (brought_state xs) x.state) disks x.identities)) xs) c) none
    ∙ put_none disks.sectors c

-- a pool stands by its newest state
pub stood_by : (disks : Disks) (c : Image) (x : Standing) → standing disks c ≡ Some x
    → (s : State) × (newest disks (identities_of disks c) ≡ Some s) × (x ≡ standing_by disks c s)
unfolding standing
stood_by disks c x is = of_newest (newest disks (identities_of disks c)) refl is
  where
    some_same : (y z : Standing) → Some y ≡ Some z → y ≡ z
    some_same y z same = (cc)

    of_newest : (o : Option State) → newest disks (identities_of disks c) ≡ o → option_map (standing_by disks c) o ≡ Some x
        → (s : State) × (newest disks (identities_of disks c) ≡ Some s) × (x ≡ standing_by disks c s)
    of_newest None has at = absurd (none-some x at)
    of_newest (Some s) has at = (s, has, some_same x (standing_by disks c s) (sym at))

-- ---- the logs of places

-- the gate of a place stands on its drive
pub gate_block : (f : Found) (p : ℕ) → slices_of f (log_slice p) gate_sector ≡ drive_sector f p drive_gate
unfolding slices_of extent_of
gate_block f p =
    let of_place : place_of (log_slice p) ≡ p = omega arith in
    let first : slice_of (log_slice p) ≡ 0 = omega arith in
    ap (λ n. option_map_or (λ (e : Extent). if nat_lt gate_sector e.sectors then slices_from f e.first (log_slice p) gate_sector else []) (extent_of f n) []) first
    ∙ ap (λ q. drive_sector f q drive_gate) of_place

-- a gate that is read from a log slice is on the drive too
log_block : (disks : Disks) (s : State) (i : Identities) (e : Image) (p : ℕ) → is_bad_block (logs_of disks (seat_of s disks i) e (log_slice p) gate_sector) ≡ true
    → (d : ℕ) × (seat_of s disks i p ≡ Some d) × (arrays_first ≤ disks.sectors d) × (is_bad_block (e d drive_gate) ≡ true)
log_block disks s i e p bad = of_seat (seat_of s disks i p) refl (sym (ap is_bad_block read) ∙ bad)
  where
    block : Option ℕ → List ℕ
    block o = option_map_or (λ d. option_map_or (λ (x : Extent). e d (x.first + gate_sector)) (log_extent (disks.sectors d)) []) o []

    read : logs_of disks (seat_of s disks i) e (log_slice p) gate_sector ≡ block (seat_of s disks i p)
    read =
        let of_place : place_of (log_slice p) ≡ p = omega arith in
        let first : slice_of (log_slice p) ≡ 0 = omega arith in
        ap (λ b. if b && nat_lt gate_sector log_sectors then block (seat_of s disks i (place_of (log_slice p))) else []) (eq-eqb (slice_of (log_slice p)) 0 first)
        ∙ ap (λ q. block (seat_of s disks i q)) of_place

    of_room : (d : ℕ) (b : Bool) → nat_le arrays_first (disks.sectors d) ≡ b
        → is_bad_block (option_map_or (λ (x : Extent). e d (x.first + gate_sector)) (if b then Some (record { first = state_sector; sectors = log_sectors }) else None) []) ≡ true
        → (arrays_first ≤ disks.sectors d) × (is_bad_block (e d drive_gate) ≡ true)
    of_room d true room at = (leb-true arrays_first (disks.sectors d) room, at)
    of_room d false room at = absurd (both_ways false refl at)

    of_seat : (o : Option ℕ) → seat_of s disks i p ≡ o → is_bad_block (block o) ≡ true
        → (d : ℕ) × (seat_of s disks i p ≡ Some d) × (arrays_first ≤ disks.sectors d) × (is_bad_block (e d drive_gate) ≡ true)
    of_seat None seat at = absurd (both_ways false refl at)
    of_seat (Some d) seat at =
        let is = of_room d (nat_le arrays_first (disks.sectors d)) refl at in
        (d, seat, is.0, is.1)

and_true : (b : Bool) → (b && true) ≡ b
and_true true = refl
and_true false = refl

or_false : (b : Bool) → (b || false) ≡ b
or_false true = refl
or_false false = refl

some_nat : (m n : ℕ) → Some m ≡ Some n → m ≡ n
some_nat m n same = (cc)

module _ (disks : Disks) (c e : Image) (before after : Standing) (rests : IsRested disks c e before after) (s : State)
    (newest_now : newest disks (identities_of disks e) ≡ Some s) (after_is : after ≡ standing_by disks e s) where
  abbrev w : Image
  w = written disks before c

  abbrev f : Found
  f = record { disks = disks; before = before; contents = w; identities = identities_of disks w; state = s; seats = seat_of s disks (identities_of disks w) }

  abbrev g : Found
  g = record { disks = disks; before = after; contents = e; identities = identities_of disks e; state = s; seats = seat_of s disks (identities_of disks e) }

  seats : (p : ℕ) → seat_of s disks (identities_of disks e) p ≡ seat_of s disks (identities_of disks w) p
  seats p = seat_same disks (identities_of disks e) (identities_of disks w) rests.same.identities s p

  -- a seated place's gate is as well formed as it was
  gate_same : (p d : ℕ) → f.seats p ≡ Some d → is_bad_gate (slices_of g) p ≡ is_bad_gate (slices_of f) p
  gate_same p d seat =
      ap is_bad_block (gate_block g p)
      ∙ ap (λ o. is_bad_block (option_map_or (λ d. if nat_lt drive_gate (disks.sectors d) then e d drive_gate else []) o [])) (seats p ∙ seat)
      ∙ of_room (nat_lt drive_gate (disks.sectors d)) refl
      ∙ sym (ap is_bad_block (gate_block f p) ∙ ap (λ o. is_bad_block (option_map_or (λ d. if nat_lt drive_gate (disks.sectors d) then w d drive_gate else []) o [])) seat)
    where
      of_room : (b : Bool) → nat_lt drive_gate (disks.sectors d) ≡ b → is_bad_block (if b then e d drive_gate else []) ≡ is_bad_block (if b then w d drive_gate else [])
      of_room true room = rests.gates d (seat_inside s disks (identities_of disks w) p d seat) (ltb-true drive_gate (disks.sectors d) room)
      of_room false room = refl

  -- what its log slice shows of it too
  log_now : (p d : ℕ) → f.seats p ≡ Some d → (not (is_bad_gate (slices_of g) p) && not (is_bad_log (current_places after.state) after.logs p)) ≡ not (is_bad_gate (slices_of g) p)
  log_now p d seat =
      ap (λ (o : Option GateAt). not (is_bad_gate (slices_of g) p) && not (is_bad_gate after.logs p || option_map_or (λ a. (a.place == p) && is_none (record_in after.logs a.place a.gate.number)) o false)) rests.idle
      ∙ ap (λ b. not (is_bad_gate (slices_of g) p) && not b) (or_false (is_bad_gate after.logs p))
      ∙ by (is_bad_gate after.logs p) refl (is_bad_gate (slices_of g) p) refl
    where
      by : (b : Bool) → is_bad_gate after.logs p ≡ b → (a : Bool) → is_bad_gate (slices_of g) p ≡ a → (not a && not b) ≡ not a
      by false good a is = and_true (not a)
      by true bad true is = refl
      by true bad false is =
          let at = log_block disks s (identities_of disks e) e p (sym (ap (λ (x : Standing). is_bad_block (x.logs (log_slice p) gate_sector)) after_is) ∙ bad) in
          let room : drive_gate < disks.sectors at.0 = omega (arith, at.2) in
          absurd (both_ways (is_bad_gate (slices_of g) p) is
          (ap is_bad_block (gate_block g p)
          ∙ ap (λ o. is_bad_block (option_map_or (λ d. if nat_lt drive_gate (disks.sectors d) then e d drive_gate else []) o [])) at.1
          ∙ ap (λ b. is_bad_block (if b then e at.0 drive_gate else [])) (lt-ltb drive_gate (disks.sectors at.0) room) ∙ at.3))

  same_pool : IsSamePool f g
  same_pool = record {
    disks = refl;
    state = refl;
    seats = seats;
    all = rests.same.identities;
    identities = λ p d seat. rests.same.identities d (seat_inside s disks (identities_of disks w) p d seat);
    contents = λ p d t seat within no_gate. rests.same.contents d t (seat_inside s disks (identities_of disks w) p d seat) within no_gate;
    logs = λ p d seat.
        log_now p d seat ∙ ap not (gate_same p d seat)
        ∙ sym (ap (λ b. not (is_bad_gate (slices_of f) p) && not b) (rests.logs p) ∙ and_true (not (is_bad_gate (slices_of f) p)));
  }

  found_before : found disks c ≡ Some f
  unfolding found
  found_before =
      ap (option_and_then (λ x. found_by disks x (written disks x c))) rests.stands
      ∙ ap (option_map (λ (s : State). record { disks = disks; before = before; contents = w; identities = identities_of disks w; state = s; seats = seat_of s disks (identities_of disks w) }))
      (sym (newest_same disks (identities_of disks e) (identities_of disks w) rests.same.identities) ∙ newest_now)

  found_now : found disks e ≡ Some g
  unfolding found
  found_now =
      ap (option_and_then (λ x. found_by disks x (written disks x e))) rests.stands_now
      ∙ ap (found_by disks after) (written_none disks after e targets)
      ∙ ap (option_map (λ (s : State). record { disks = disks; before = after; contents = e; identities = identities_of disks e; state = s; seats = seat_of s disks (identities_of disks e) })) newest_now
    where
      targets : after.targets ≡ []
      targets =
          ap (λ (x : Standing). x.targets) after_is
          ∙ none_pending (current_places s) (logs_of disks (seat_of s disks (identities_of disks e)) e)
          (sym (ap (λ (x : Standing). pending_at (current_places x.state) x.logs) after_is) ∙ rests.idle)

  refusal_same : refusal_of disks e ≡ refusal_of disks c
  unfolding refusal_of
  refusal_same =
      ap (λ o. option_map_or (refused_at disks e) o (Some no_pool)) rests.stands_now
      ∙ ap₂ (λ b (o : Option Refusal). if b then Some two_pools else o) rests.pools
      (ap (λ o. option_map_or refused_by o (Some no_pool)) found_now ∙ refused_same f g same_pool ∙ sym (ap (λ o. option_map_or refused_by o (Some no_pool)) found_before))
      ∙ sym (ap (λ o. option_map_or (refused_at disks c) o (Some no_pool)) rests.stands)

  meaning_same : meaning disks e ≡ meaning disks c
  unfolding meaning
  meaning_same =
      ap₂ (λ (why : Option Refusal) (volumes : Option (List Volume)). option_map_or (λ w. None) why volumes) refusal_same
      (ap (option_map volumes_of) found_now ∙ ap Some (volumes_same f g same_pool) ∙ sym (ap (option_map volumes_of) found_before))

pub rested_means : (disks : Disks) (c e : Image) (before after : Standing) → IsRested disks c e before after → MeansTheSame disks c e
rested_means disks c e before after rests =
    let by = stood_by disks e after rests.stands_now in
    record {
      before = f disks c e before after rests by.0 by.1 by.2;
      now = g disks c e before after rests by.0 by.1 by.2;
      found_before = found_before disks c e before after rests by.0 by.1 by.2;
      found_now = found_now disks c e before after rests by.0 by.1 by.2;
      pool = same_pool disks c e before after rests by.0 by.1 by.2;
      refusal = refusal_same disks c e before after rests by.0 by.1 by.2;
      meaning = meaning_same disks c e before after rests by.0 by.1 by.2;
    }

-- ---- contents that agree inside the disks

module _ (disks : Disks) (c e : Image) (s : State) (stands : standing disks c ≡ Some (standing_by disks c s)) (stands_now : standing disks e ≡ Some (standing_by disks e s))
    (agree : Agree disks e c) (logs : (standing_by disks e s).logs ≡ (standing_by disks c s).logs) (none : (standing_by disks c s).targets ≡ []) where
  abbrev early : Found
  early = record { disks = disks; before = standing_by disks c s; contents = c; identities = identities_of disks c; state = s; seats = seat_of s disks (identities_of disks c) }

  abbrev late : Found
  late = record { disks = disks; before = standing_by disks e s; contents = e; identities = identities_of disks e; state = s; seats = seat_of s disks (identities_of disks e) }

  ids : (d : ℕ) → d < disks.count → identities_of disks e d ≡ identities_of disks c d
  ids = agree_identities disks e c agree

  newest_of : newest disks (identities_of disks c) ≡ Some s
  newest_of =
      let by = stood_by disks c (standing_by disks c s) stands in
      by.1 ∙ ap (λ (x : Standing). Some x.state) (sym by.2)

  late_seats : (p : ℕ) → seat_of s disks (identities_of disks e) p ≡ seat_of s disks (identities_of disks c) p
  late_seats p = seat_same disks (identities_of disks e) (identities_of disks c) ids s p

  late_block : (p d : ℕ) → early.seats p ≡ Some d → is_bad_gate (slices_of late) p ≡ is_bad_gate (slices_of early) p
  late_block p d seat =
      ap is_bad_block (gate_block late p)
      ∙ ap (λ o. is_bad_block (option_map_or (λ d. if nat_lt drive_gate (disks.sectors d) then e d drive_gate else []) o [])) (late_seats p ∙ seat)
      ∙ of_room (nat_lt drive_gate (disks.sectors d)) refl
      ∙ sym (ap is_bad_block (gate_block early p) ∙ ap (λ o. is_bad_block (option_map_or (λ d. if nat_lt drive_gate (disks.sectors d) then c d drive_gate else []) o [])) seat)
    where
      of_room : (b : Bool) → nat_lt drive_gate (disks.sectors d) ≡ b → is_bad_block (if b then e d drive_gate else []) ≡ is_bad_block (if b then c d drive_gate else [])
      of_room true room = ap is_bad_block (agree d drive_gate (seat_inside s disks (identities_of disks c) p d seat) (ltb-true drive_gate (disks.sectors d) room))
      of_room false room = refl

  late_pool : IsSamePool early late
  late_pool = record {
    disks = refl;
    state = refl;
    seats = late_seats;
    all = ids;
    identities = λ p d seat. ids d (seat_inside s disks (identities_of disks c) p d seat);
    contents = λ p d t seat within no_gate. agree d t (seat_inside s disks (identities_of disks c) p d seat) within;
    logs = λ p d seat. ap₂ (λ b (l : Image). not b && not (is_bad_log (current_places s) l p)) (late_block p d seat) logs;
  }

  late_targets : (standing_by disks e s).targets ≡ []
  late_targets = ap (pending (current_places s)) logs ∙ none

  early_found : found disks c ≡ Some early
  unfolding found
  early_found =
      ap (option_and_then (λ x. found_by disks x (written disks x c))) stands
      ∙ ap (found_by disks (standing_by disks c s)) (written_none disks (standing_by disks c s) c none)
      ∙ ap (option_map (λ (z : State). record { disks = disks; before = standing_by disks c s; contents = c; identities = identities_of disks c; state = z; seats = seat_of z disks (identities_of disks c) })) newest_of

  late_found : found disks e ≡ Some late
  unfolding found
  late_found =
      ap (option_and_then (λ x. found_by disks x (written disks x e))) stands_now
      ∙ ap (found_by disks (standing_by disks e s)) (written_none disks (standing_by disks e s) e late_targets)
      ∙ ap (option_map (λ (z : State). record { disks = disks; before = standing_by disks e s; contents = e; identities = identities_of disks e; state = z; seats = seat_of z disks (identities_of disks e) }))
      (newest_same disks (identities_of disks e) (identities_of disks c) ids ∙ newest_of)

  late_refusal : refusal_of disks e ≡ refusal_of disks c
  unfolding refusal_of
  late_refusal =
      ap (λ o. option_map_or (refused_at disks e) o (Some no_pool)) stands_now
      ∙ ap₂ (λ b (o : Option Refusal). if b then Some two_pools else o) (other_same disks (identities_of disks e) (identities_of disks c) ids s.pool.0)
      (ap (λ o. option_map_or refused_by o (Some no_pool)) late_found ∙ refused_same early late late_pool ∙ sym (ap (λ o. option_map_or refused_by o (Some no_pool)) early_found))
      ∙ sym (ap (λ o. option_map_or (refused_at disks c) o (Some no_pool)) stands)

  late_meaning : meaning disks e ≡ meaning disks c
  unfolding meaning
  late_meaning =
      ap₂ (λ (why : Option Refusal) (volumes : Option (List Volume)). option_map_or (λ w. None) why volumes) late_refusal
      (ap (option_map volumes_of) late_found ∙ ap Some (volumes_same early late late_pool) ∙ sym (ap (option_map volumes_of) early_found))

  pub agree_means : MeansTheSame disks c e
  agree_means = record {
    before = early;
    now = late;
    found_before = early_found;
    found_now = late_found;
    pool = late_pool;
    refusal = late_refusal;
    meaning = late_meaning;
  }
