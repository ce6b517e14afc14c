-- Contents of a pool at rest in which gates alone differ, where nothing is pending and no log is damaged, hold the same pool.
use Rattle.std.proofs.Common.{◌≡◌, ℕ, ◌+◌, ◌<◌, ◌≤◌, ◌&&◌, not, Bool, true, false, nat_lt, if◌then◌else◌, is_none, List, [], Option, None, Some, eq-eqb, refl, sym, ap, ap₂, subst, ◌∙◌, inl, inr, le-leb, lt-ltb, arith}
use Rattle.std.specs.Option.{option_map_or}
use Rattle.std.proofs.lemmas.Bool.{cases_Bool}
use Rattle.std.proofs.lemmas.Option.{none-some}
use Rattle.rack.specs.Seen.{Image}
use Rattle.pool_state.specs.declared.contents.State.{State}
use Rattle.array_image.specs.Places.{arrays_first, log_slice, log_sectors, place_of, slice_of, state_sector}
use Rattle.array_image.specs.Record.{damaged_log, gate_of, gate_sector, is_bad_gate, is_bad_log, is_there, pending}
use Rattle.array_image.specs.States.{current_places, is_current}
use Rattle.array_core.proofs.Stripped.{some_same}
use Rattle.raid_laws.proofs.Added.{names_current}
use Rattle.pool_image.specs.Alike.{Agree, IsSameButGates, IsSamePool, drive_gate}
use Rattle.pool_image.specs.Disks.{Disks, Identity, identities_of, newest, seat_of}
use Rattle.pool_image.specs.Drives.{Found, found, slices_of}
use Rattle.pool_image.specs.Meaning.{has_log}
use Rattle.pool_image.specs.Replay.{Extent, Standing, log_extent, standing_by}
use Rattle.pool_image.proofs.Identities.{agree_identities, newest_same, seat_inside, seat_same}
use Rattle.pool_image.proofs.Rested.{gate_block}
use Rattle.pool_rest.specs.SoundLogs.{HasSoundLogs}
use Rattle.pool_rest.proofs.SameLogs.{logs_same}
use Rattle.pool_model.specs.Left.{NoStraySuperblock}
use Rattle.pool_model.specs.Openings.{HadOnePool, RecoversInOpening, IsIdleIn}
use Rattle.pool_model.specs.Pools.{IsSoundPool}
use Rattle.pool_model.specs.Stopped.{LieApart}
use Rattle.pool_model.proofs.Rereading.{same_holds, same_sound}
use Rattle.pool_model.proofs.Seats.{nowhere}
use Rattle.pool_model.proofs.Settled.{IsIdlePool, idle_found, idle_logs, idle_stands, pool_at}
use Rattle.pool_model.proofs.Undamaged.{find_false, or_left}

-- what a log slice shows of the gate of a place
abbrev log_gate : Disks → Image → Option ℕ → List ℕ
log_gate disks c o = option_map_or (λ d. option_map_or (λ (x : Extent). c d (x.first + gate_sector)) (log_extent (disks.sectors d)) []) o []

-- a log that isn't damaged has a well-formed gate, on a drive that has all of its log slice
log_good : (disks : Disks) (c : Image) (s : State) (p d : ℕ) → seat_of s disks (identities_of disks c) p ≡ Some d → arrays_first ≤ disks.sectors d
    → damaged_log (current_places s) (standing_by disks c s).logs ≡ None → has_log (pool_at disks c s) p ≡ true
log_good disks c s p d seat long whole =
    ap₂ (λ a b. not a && not b)
    (ap (λ (block : List ℕ). is_there block && is_none (gate_of block)) gate_is ∙ or_left (is_bad_gate (standing_by disks c s).logs p) _ good) good
  where
    here : is_current s p ≡ true
    here = elim (cases_Bool (is_current s p)) [
      | inl now ↦ now
      | inr past ↦ absurd (none-some d (sym (nowhere s disks (identities_of disks c) p past) ∙ seat))
    ]

    good : is_bad_log (current_places s) (standing_by disks c s).logs p ≡ false
    good = find_false (is_bad_log (current_places s) (standing_by disks c s).logs) (current_places s) p whole (names_current s p ∙ here)

    of_place : place_of (log_slice p) ≡ p
    of_place = omega arith

    of_log : slice_of (log_slice p) ≡ 0
    of_log = omega arith

    gate_is : slices_of (pool_at disks c s) (log_slice p) gate_sector ≡ (standing_by disks c s).logs (log_slice p) gate_sector
    gate_is =
        gate_block (pool_at disks c s) p
        ∙ ap (λ o. option_map_or (λ e. if nat_lt drive_gate (disks.sectors e) then c e drive_gate else []) o []) seat
        ∙ ap (λ (b : Bool). if b then c d drive_gate else []) (lt-ltb drive_gate (disks.sectors d) (omega (arith, long)))
        ∙ sym (ap (λ b. option_map_or (λ (x : Extent). c d (x.first + gate_sector)) (if b then Some (record { first = state_sector; sectors = log_sectors }) else None) []) (le-leb arrays_first (disks.sectors d) long))
        ∙ sym (ap (λ b. if b && nat_lt gate_sector log_sectors then log_gate disks c (seat_of s disks (identities_of disks c) (place_of (log_slice p))) else []) (eq-eqb (slice_of (log_slice p)) 0 of_log)
        ∙ ap (λ q. log_gate disks c (seat_of s disks (identities_of disks c) q)) of_place ∙ ap (log_gate disks c) seat)

-- contents hold the pool, but for gates, and nothing is pending
pub record HoldButGates (disks : Disks) (f : Found) (i : Image) : Type 0 where
  pub now : Found
  pub found_is : found disks i ≡ Some now
  pub same : IsSamePool f now
  pub sound : IsSoundPool now
  pub logs : HasSoundLogs disks i
  pub idle : IsIdleIn disks i
  pub one_pool : HadOnePool f → HadOnePool now

module _ (disks : Disks) (c i : Image) (s : State) (newest_is : newest disks (identities_of disks c) ≡ Some s) (whole : damaged_log (current_places s) (standing_by disks c s).logs ≡ None)
    (long : (p d : ℕ) → seat_of s disks (identities_of disks c) p ≡ Some d → arrays_first ≤ disks.sectors d) (sound : IsSoundPool (pool_at disks c s))
    (same : IsSameButGates disks i c) (none : (standing_by disks i s).targets ≡ []) (whole_now : damaged_log (current_places s) (standing_by disks i s).logs ≡ None) where
  seats_kept : (p : ℕ) → seat_of s disks (identities_of disks i) p ≡ seat_of s disks (identities_of disks c) p
  seats_kept p = seat_same disks (identities_of disks i) (identities_of disks c) same.identities s p

  newest_now : newest disks (identities_of disks i) ≡ Some s
  newest_now = newest_same disks (identities_of disks i) (identities_of disks c) same.identities ∙ newest_is

  low : (p d : ℕ) → seat_of s disks (identities_of disks c) p ≡ Some d → d < disks.count
  low p d seat = seat_inside s disks (identities_of disks c) p d seat

  pool_same : IsSamePool (pool_at disks c s) (pool_at disks i s)
  pool_same = record {
    disks = refl;
    state = refl;
    seats = seats_kept;
    all = same.identities;
    identities = λ p d seat. same.identities d (low p d seat);
    contents = λ p d u seat within no_gate. same.contents d u (low p d seat) within no_gate;
    logs = λ p d seat.
        log_good disks i s p d (seats_kept p ∙ seat) (long p d seat) whole_now
        ∙ sym (log_good disks c s p d seat (long p d seat) whole);
  }

  gates_hold : HoldButGates disks (pool_at disks c s) i
  gates_hold = record {
    now = pool_at disks i s;
    found_is = idle_found disks i s newest_now none;
    same = pool_same;
    sound = same_sound (pool_at disks c s) (pool_at disks i s) pool_same sound;
    logs = idle_logs disks i s newest_now none whole_now;
    idle = λ before at. ap (λ (x : Standing). x.targets) (some_same before (standing_by disks i s) (sym at ∙ idle_stands disks i s newest_now)) ∙ none;
    one_pool = λ had d copy there here. had d copy there (sym (ap (λ (z : Identity). z.copied) (same.identities d there)) ∙ here);
  }

-- so it is of a pool that was found on the disks at rest
pub idle_holds : (disks : Disks) (c i : Image) (f : Found) (is : IsIdlePool disks c f) → IsSoundPool f → ((p d : ℕ) → f.seats p ≡ Some d → arrays_first ≤ disks.sectors d)
    → IsSameButGates disks i c → (standing_by disks i is.state).targets ≡ [] → damaged_log (current_places is.state) (standing_by disks i is.state).logs ≡ None
    → HoldButGates disks f i
idle_holds disks c i f is sound long same none whole =
    subst (λ (h : Found). IsSoundPool h → ((p d : ℕ) → h.seats p ≡ Some d → arrays_first ≤ disks.sectors d) → HoldButGates disks h i) is.same
    (λ sound long. gates_hold disks c i is.state is.newest_is is.whole long sound same none whole) sound long

-- and an opening that was stopped there holds it
pub gates_opened : (disks : Disks) (i : Image) (f : Found) → f.disks ≡ disks → IsSoundPool f → LieApart f → NoStraySuperblock f f.contents → HoldButGates disks f i → RecoversInOpening f 0 i
gates_opened disks i f on sound apart alone holds = same_holds disks i f holds.now on holds.found_is holds.same sound holds.logs apart alone (inl holds.idle) holds.one_pool

-- ---- contents that agree

-- a pool at rest is held, but for gates, by contents that are as its own inside the disks
pub agree_held : (disks : Disks) (c i : Image) (f : Found) (is : IsIdlePool disks c f) → IsSoundPool f → ((p d : ℕ) → f.seats p ≡ Some d → arrays_first ≤ disks.sectors d)
    → Agree disks i c → HoldButGates disks f i
agree_held disks c i f is sound long agree =
    idle_holds disks c i f is sound long (record { identities = ids; contents = λ d u low within no_gate. agree d u low within })
    (ap (pending (current_places is.state)) logs ∙ is.none) (ap (damaged_log (current_places is.state)) logs ∙ is.whole)
  where
    ids : (d : ℕ) → d < disks.count → identities_of disks i d ≡ identities_of disks c d
    ids d low = agree_identities disks i c agree d low

    logs : (standing_by disks i is.state).logs ≡ (standing_by disks c is.state).logs
    logs =
        logs_same disks c i (seat_of is.state disks (identities_of disks c)) (seat_of is.state disks (identities_of disks i))
        (λ p. seat_same disks (identities_of disks i) (identities_of disks c) ids is.state p)
        (λ p d u seat size low. agree d (state_sector + u) (seat_inside is.state disks (identities_of disks c) p d seat) (omega (arith, low, size)))
