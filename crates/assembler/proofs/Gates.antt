-- Closing gates of a pool at rest leaves it as it is, but for these, at each moment.
use Rattle.std.proofs.Common.{◌≡◌, ◌≢◌, ◌⊎◌, ℕ, ◌+◌, ◌<◌, ◌≤◌, ◌&&◌, Bool, true, false, nat_lt, if◌then◌else◌, List, [], Option, Some, None, unwrap_or, inl, inr, refl, sym, ap, ap₂, subst, ◌∙◌, eq-eqb, le-leb, le-ltb, lt-ltb, arith}
use Rattle.std.specs.Option.{option_map_or}
use Rattle.std.proofs.lemmas.Bool.{both_ways, cases_Bool, cases_eq, cases_lt}
use Rattle.rack.specs.Moments.{Leaves}
use Rattle.rack.specs.Seen.{Image, IsLive, RackView}
use Rattle.rack.specs.Sequences.{WritesOnly}
use Rattle.rack.specs.Targets.{Target, look}
use Rattle.rack.specs.Values.{IsSector, IsSingle, Keeps, MayLeave, Values}
use Rattle.slice_rack.specs.Laws.{live_below}
use Rattle.slice_rack.specs.Runs.{IsSliced}
use Rattle.slice_rack.specs.Slices.{IsOrderly, Slices, disk_of, first_of, seat_of as slice_seat, sectors_of}
use Rattle.slice_rack.specs.Sliced.{sliced, slices_of}
use Rattle.pool_state.specs.declared.contents.State.{State}
use Rattle.array_image.specs.Left.{IsWhole, deciding, reading}
use Rattle.array_image.specs.Places.{arrays_first, log_sectors, log_slice, place_of, slice_of, state_sector}
use Rattle.array_image.specs.Record.{damaged_log, gate_sector, pending}
use Rattle.array_image.specs.States.{current_places}
use Rattle.array_image.proofs.Frames.{state_same}
use Rattle.array_image.proofs.Replays.{SameLogs, pending_same, replayed_as_is, whole_same}
use Rattle.array_model.proofs.Keeping.{live_on, reading_live}
use Rattle.log_laws.specs.AtRest.{Opened}
use Rattle.log_laws.specs.Commits.{Stands}
use Rattle.log_laws.specs.Opening.{CanReplay, HasWork, ReplayCall, Replays, StandsReplaying}
use Rattle.log_laws.specs.Standing.{IsInside, IsLogPart, LogsStand}
use Rattle.log_laws.specs.View.{LogView}
use Rattle.commit_log.proofs.Replayable.{opened_can_replay}
use Rattle.raid_laws.proofs.Added.{names_current}
use Rattle.pool_image.specs.Alike.{IsSameButGates, IsSamePool, drive_gate}
use Rattle.pool_image.specs.Disks.{Disks, disks_of, identities_of, seat_of}
use Rattle.pool_image.specs.Drives.{Found, found}
use Rattle.pool_image.specs.Replay.{Extent, log_extent, standing_by}
use Rattle.pool_image.proofs.Identities.{same_but_gates, seat_same}
use Rattle.pool_scan.specs.Scanning.{now_in}
use Rattle.pool_check.specs.declared.Checked.{Checked}
use Rattle.pool_rest.specs.Resting.{IsIdle}
use Rattle.pool_rest.specs.SoundLogs.{HasSoundLogs}
use Rattle.pool_model.specs.Left.{NoStraySuperblock}
use Rattle.pool_model.specs.Openings.{RecoversInOpening, IsIdleIn}
use Rattle.pool_model.proofs.Found.{found_is}
use Rattle.pool_model.proofs.GatesSame.{HoldButGates, gates_opened, idle_holds}
use Rattle.pool_model.proofs.Landing.{tables_apart}
use Rattle.pool_model.proofs.Settled.{IsIdlePool, idle_pool}
use Rattle.assembler_laws.specs.Holding.{AreSteady}
use Rattle.assembler_laws.specs.Members.{AreMembers}
use Rattle.assembler.specs.Rested.{HoldRested}
use Rattle.assembler.specs.Sound.{HoldSound}
use Rattle.assembler_laws.proofs.Drives.{sliced_at}
use Rattle.assembler_laws.proofs.Still.{replays_nothing}

-- Gates of the pool e were closed: the disks hold it but for these, nothing is pending, and so it is at each moment.
pub record IsClosedSo (e : Found) (y b : RackView) : Type 0 where
  pub now : Found
  pub same : IsSamePool e now
  pub sound : HoldSound b now
  pub idle : IsIdle b
  pub leaves : y.traced → Leaves y b (RecoversInOpening e 0)

-- the sector of a gate in the slices
abbrev IsGate : ℕ → ℕ → Type 0
IsGate k u = (slice_of k ≡ 0) × (u ≡ gate_sector)

-- contents of disks are as the disks read, but for gates of their log slices; nothing is pending there, and no log is damaged
record AreClosed (t : Slices) (y : RackView) (i : Image) : Type 0 where
  off : (d u : ℕ) → d < y.disks → u < y.sectors d → (i d u ≡ now_in y d u) ⊎ IsSliced t d u (i d u)
  alike : (k u : ℕ) → u < sectors_of t k → (IsGate k u → ⊥) → sliced t i k u ≡ sliced t (now_in y) k u
  none : pending (deciding (sliced t i)) (sliced t i) ≡ []
  whole : IsWhole (sliced t i)

-- what a sector keeps is one value where it was
keeps_single : (g h : Values) → Keeps g h → IsSingle g → IsSingle h
keeps_single g h keeps single v may = single v (keeps.within v may) ∙ sym keeps.current

-- a slice holds what its disk does
in_slice : (t : Slices) (j : Image) (k u : ℕ) → u < sectors_of t k → sliced t j k u ≡ j (disk_of t k) (first_of t k + u)
in_slice t j k u within = ap (λ (b : Bool). if b then j (disk_of t k) (first_of t k + u) else []) (lt-ltb u (sectors_of t k) within)

past_slice : (t : Slices) (j : Image) (k u : ℕ) → sectors_of t k ≤ u → sliced t j k u ≡ []
past_slice t j k u past = ap (λ (b : Bool). if b then j (disk_of t k) (first_of t k + u) else []) (le-ltb u (sectors_of t k) past)

module _ (f e : Found) (t : Slices) (y : RackView) (checked : Checked) (absent : List ℕ) (orderly : IsOrderly t) (l : LogView)
    (members : AreMembers f.state t y checked absent) (rest : HoldRested y f e) (seats_f : (p : ℕ) → f.seats p ≡ slice_seat t p) (empty : l.pending ≡ [])
    (on : List ℕ) (opened : Opened f.state f.state l on (slices_of t y)) (few : (k : ℕ) → 272 ≤ k → sectors_of t k ≡ 0) where
  idle_y : IsIdlePool (disks_of y) (now_in y) e
  idle_y = idle_pool (disks_of y) (now_in y) e rest.sound.found_is rest.idle rest.sound.logs

  abbrev st : State
  st = idle_y.state

  st_is : st ≡ f.state
  st_is = ap (λ (h : Found). h.state) idle_y.same ∙ rest.same.state

  seats_e : (p : ℕ) → e.seats p ≡ slice_seat t p
  seats_e p = rest.same.seats p ∙ seats_f p

  seats_y : (p : ℕ) → seat_of st (disks_of y) (identities_of (disks_of y) (now_in y)) p ≡ slice_seat t p
  seats_y p = ap (λ (h : Found). h.seats p) idle_y.same ∙ seats_e p

  long : (p d : ℕ) → slice_seat t p ≡ Some d → arrays_first ≤ y.sectors d
  long p d seat = (let room = members.room p d seat in omega (arith, room))

  slice_there : (k u : ℕ) → u < sectors_of t k → (d : ℕ) × (slice_seat t (place_of k) ≡ Some d)
  slice_there k u within = by (slice_seat t (place_of k)) refl
    where
      by : (o : Option ℕ) → slice_seat t (place_of k) ≡ o → (d : ℕ) × (slice_seat t (place_of k) ≡ Some d)
      by (Some d) seat = (d, seat)
      by None free = absurd (let nothing = orderly.seated k free in omega (arith, within, nothing))

  -- a log slice is its place's
  log_at : (k : ℕ) → slice_of k ≡ 0 → k ≡ log_slice (place_of k)
  log_at k log = omega (arith, log)

  -- ---- contents

  module _ (i : Image) (is : AreClosed t y i) where
    shown : (j : Image) (d u : ℕ) (at : IsSliced t d u (i d u)) → sliced t j at.slice at.at ≡ j d u
    shown j d u at = in_slice t j at.slice at.at at.within ∙ ap₂ j (sym at.disk_is) (sym at.sector_is)

    gate_there : (d u : ℕ) (at : IsSliced t d u (i d u)) → IsGate at.slice at.at → u ≡ drive_gate
    gate_there d u at gate =
        let one = slice_there at.slice at.at at.within in
        let first : first_of t at.slice ≡ state_sector = ap (first_of t) (log_at at.slice gate.0) ∙ members.firsts (place_of at.slice) one.0 one.1 in
        let sector = at.sector_is in
        let second = gate.1 in
        omega (arith, first, sector, second)

    contents : (d u : ℕ) → d < y.disks → u < y.sectors d → u ≢ drive_gate → i d u ≡ now_in y d u
    contents d u low within no_gate = elim (is.off d u low within) [
      | inl same ↦ same
      | inr at ↦ sym (shown i d u at) ∙ is.alike at.slice at.at at.within (λ gate. no_gate (gate_there d u at gate)) ∙ shown (now_in y) d u at
    ]

    gates : (d : ℕ) → d < y.disks → drive_gate < y.sectors d → (i d drive_gate ≡ now_in y d drive_gate) ⊎ (arrays_first ≤ y.sectors d)
    gates d low within = elim (is.off d drive_gate low within) [
      | inl same ↦ inl same
      | inr at ↦ (let one = sliced_at f.state t y checked absent orderly members d drive_gate (i d drive_gate) at in inr (long one.0 d one.1))
    ]

    same_now : IsSameButGates (disks_of y) i (now_in y)
    same_now = same_but_gates (disks_of y) i (now_in y) contents gates

    seats_i : (p : ℕ) → seat_of st (disks_of y) (identities_of (disks_of y) i) p ≡ slice_seat t p
    seats_i p = seat_same (disks_of y) (identities_of (disks_of y) i) (identities_of (disks_of y) (now_in y)) same_now.identities st p ∙ seats_y p

    -- ---- logs

    abbrev logs : Image
    logs = (standing_by (disks_of y) i st).logs

    read : ℕ → Option ℕ → List ℕ
    read u o = option_map_or (λ d. option_map_or (λ (x : Extent). i d (x.first + u)) (log_extent (y.sectors d)) []) o []

    shows : (p u : ℕ) → logs (log_slice p) u ≡ (if nat_lt u log_sectors then read u (slice_seat t p) else [])
    unfolding read
    shows p u =
        let of_place : place_of (log_slice p) ≡ p = omega arith in
        let of_log : slice_of (log_slice p) ≡ 0 = omega arith in
        ap₂ (λ (b : Bool) (o : Option ℕ). if b && nat_lt u log_sectors then option_map_or (λ d. option_map_or (λ (x : Extent). i d (x.first + u)) (log_extent (y.sectors d)) []) o [] else [])
        (eq-eqb (slice_of (log_slice p)) 0 of_log)
        (ap (seat_of st (disks_of y) (identities_of (disks_of y) i)) of_place ∙ seats_i p)

    same_logs : SameLogs logs (sliced t i)
    unfolding read
    same_logs p u = shows p u ∙ by (slice_seat t p) refl
      where
        of_place : place_of (log_slice p) ≡ p
        of_place = omega arith

        nothing : (b : Bool) (v : List ℕ) → v ≡ [] → (if b then v else []) ≡ []
        nothing true v is = is
        nothing false v is = refl

        by : (o : Option ℕ) → slice_seat t p ≡ o → (if nat_lt u log_sectors then read u (slice_seat t p) else []) ≡ sliced t i (log_slice p) u
        by None free =
            ap (λ (o : Option ℕ). if nat_lt u log_sectors then option_map_or (λ d. option_map_or (λ (x : Extent). i d (x.first + u)) (log_extent (y.sectors d)) []) o [] else []) free
            ∙ nothing (nat_lt u log_sectors) [] refl
            ∙ sym (past_slice t i (log_slice p) u (let none = orderly.seated (log_slice p) (ap (slice_seat t) of_place ∙ free) in omega (arith, none)))
        by (Some d) seat = elim (cases_lt u log_sectors) [
          | inl low ↦
              ap₂ (λ (b : Bool) (o : Option ℕ). if b then option_map_or (λ d. option_map_or (λ (x : Extent). i d (x.first + u)) (log_extent (y.sectors d)) []) o [] else [])
              (lt-ltb u log_sectors low) seat
              ∙ ap (λ (b : Bool). option_map_or (λ (x : Extent). i d (x.first + u)) (if b then Some (record { first = state_sector; sectors = log_sectors }) else None) [])
              (le-leb arrays_first (y.sectors d) (long p d seat))
              ∙ sym (in_slice t i (log_slice p) u (let size = members.logs p d seat in omega (arith, low, size))
              ∙ ap₂ (λ k n. i k (n + u)) (ap (λ o. unwrap_or o 0) (ap (slice_seat t) of_place ∙ seat)) (members.firsts p d seat))
          | inr past ↦
              ap (λ (b : Bool). if b then read u (slice_seat t p) else []) (le-ltb u log_sectors past)
              ∙ sym (past_slice t i (log_slice p) u (let size = members.logs p d seat in omega (arith, past, size)))
        ]

    copies_same : (p : ℕ) → sliced t i (log_slice p) 0 ≡ reading (slices_of t y) (log_slice p) 0
    copies_same p = elim (cases_lt 0 (sectors_of t (log_slice p))) [
      | inl some ↦ is.alike (log_slice p) 0 some (λ gate. absurd (let second = gate.1 in omega (arith, second)))
      | inr none ↦ past_slice t i (log_slice p) 0 none ∙ sym (past_slice t (now_in y) (log_slice p) 0 none)
    ]

    deciding_is : deciding (sliced t i) ≡ current_places st
    deciding_is =
        ap (λ (o : Option State). option_map_or current_places o []) (state_same (sliced t i) (reading (slices_of t y)) copies_same ∙ opened.rest.state)
        ∙ ap current_places (sym st_is)

    none_now : (standing_by (disks_of y) i st).targets ≡ []
    none_now = pending_same logs (sliced t i) same_logs (current_places st) ∙ ap (λ ps. pending ps (sliced t i)) (sym deciding_is) ∙ is.none

    whole_now : damaged_log (current_places st) logs ≡ None
    whole_now =
        ap (λ ps. damaged_log ps logs)
        (sym (ap (λ (o : Option State). option_map_or current_places o []) (state_same logs (sliced t i) (λ p. same_logs p 0)) ∙ deciding_is))
        ∙ whole_same logs (sliced t i) same_logs is.whole

    closed_holds : HoldButGates (disks_of y) e i
    closed_holds = idle_holds (disks_of y) (now_in y) i e idle_y rest.sound.sound (λ p d seat. long p d (sym (seats_e p) ∙ seat)) same_now none_now whole_now

  -- ---- sectors of slices

  live_there : (k u : ℕ) → u < sectors_of t k → IsLive (slices_of t y) (slices_of t y) k u
  live_there k u within = elim (cases_lt k 272) [
    | inl low ↦ opened.rest.live k u low within
    | inr past ↦ absurd (let none = few k past in omega (arith, within, none))
  ]

  -- each has one value
  single : (k u : ℕ) → u < sectors_of t k → IsSingle ((slices_of t y).held k u)
  single k u within = (let at = live_below orderly members.fit.1 (live_there k u within) in rest.sound.steady.single (disk_of t k) (first_of t k + u) at.disk at.sector)

  same_in : (c : Image) (k u : ℕ) → u < sectors_of t k → MayLeave ((slices_of t y).held k u) (c k u) → c k u ≡ sliced t (now_in y) k u
  same_in c k u within may = single k u within (c k u) may ∙ sym (in_slice t (now_in y) k u within)

  can : CanReplay l (slices_of t y)
  can = opened_can_replay f.state f.state l on (slices_of t y) opened

  module _ (b : RackView) (only : WritesOnly y b (IsSliced t)) (replay : ReplayCall l (current_places f.state) [] (slices_of t y) (slices_of t b))
      (quiet : (c : Image) → LogsStand (slices_of t b) c → pending (deciding c) c ≡ []) where
    live : (d u : ℕ) → d < y.disks → u < y.sectors d → IsLive y b d u
    live d u low within = record {
      disk = subst (λ n. d < n) (sym only.stays.disks) low;
      sector = subst (λ n. u < n) (sym (only.stays.sectors d)) within;
      is_told = rest.sound.steady.told d low;
      unspent = only.stays.lasts rest.sound.steady.lasts.lasting d u (rest.sound.steady.lasts.unspent d u);
    }

    -- ---- at a stop

    module _ (traced : y.traced) (n : ℕ) (i : Image) (late : y.clock < n) (early : n ≤ b.clock) (stop : b.stops n i) where
      abbrev c : Image
      c = sliced t i

      inside : IsInside (sectors_of t) c
      inside p u past = past_slice t i (log_slice p) u past

      replays : Replays (slices_of t y) c
      replays = (replay.stops traced can).new n c late early (i, stop, λ k u. refl) inside

      mid : StandsReplaying l.pending (slices_of t y) c
      mid = (replay.midway traced can).new n c late early (i, stop, λ k u. refl) inside

      none_there : pending (deciding c) c ≡ []
      none_there = elim mid [
        | inl amid ↦ can.same c amid ∙ empty
        | inr written ↦ elim written.pends [ inl is ↦ is ∙ empty | inr is ↦ is ]
      ]

      -- what isn't the log's is as it was
      data_there : (k u : ℕ) → u < sectors_of t k → (IsLogPart k u → ⊥) → MayLeave ((slices_of t y).held k u) (c k u)
      unfolding look
      data_there k u within part =
          let before : LogsStand (slices_of t y) replays.before = record {
            picks = λ p v at. replays.stands.picks (log_slice p) v at;
            inside = replays.stands.inside;
          } in
          subst (MayLeave ((slices_of t y).held k u))
          (sym (sym (replayed_as_is (sectors_of t) c k u (ap (λ (xs : List Target). look xs k u) none_there))
          ∙ replays.same k u part ∙ replays_nothing f.state l on (slices_of t y) opened empty replays.before k u before))
          (replays.stands.picks k u (live_there k u within))

      -- and so are halves
      halves_there : (p u : ℕ) → u < sectors_of t (log_slice p) → gate_sector < u → MayLeave ((slices_of t y).held (log_slice p) u) (c (log_slice p) u)
      halves_there p u within behind = elim mid [
        | inl amid ↦ amid.parts p u (omega (arith, behind)) (live_there (log_slice p) u within)
        | inr written ↦ written.halves p u behind (live_there (log_slice p) u within)
      ]

      alike_there : (k u : ℕ) → u < sectors_of t k → (IsGate k u → ⊥) → c k u ≡ sliced t (now_in y) k u
      alike_there k u within no_gate = same_in c k u within (elim (cases_eq (slice_of k) 0) [
        | inr other ↦ data_there k u within (λ part. other part.0)
        | inl log ↦ elim (cases_lt gate_sector u) [
          | inl behind ↦
              subst (λ j. MayLeave ((slices_of t y).held j u) (c j u)) (sym (log_at k log))
              (halves_there (place_of k) u (subst (λ j. u < sectors_of t j) (log_at k log) within) behind)
          | inr most ↦ data_there k u within (λ part. no_gate (log, (let some = part.1 in omega (arith, most, some))))
        ]
      ])

      closed_there : AreClosed t y i
      closed_there = record {
        off = λ d u low within. elim ((only.stops traced).new n i late early stop d u (live d u low within)) [
          | inl may ↦ inl (rest.sound.steady.single d u low within (i d u) may)
          | inr at ↦ inr at
        ];
        alike = alike_there;
        none = none_there;
        whole = replays.whole;
      }

      opened_there : RecoversInOpening e 0 i
      opened_there =
          gates_opened (disks_of y) i e (found_is (disks_of y) (now_in y) e rest.sound.found_is).1 rest.sound.sound (tables_apart e rest.tables)
          (subst (NoStraySuperblock e) (ap (λ (h : Found). h.contents) idle_y.same) rest.alone) (closed_holds i closed_there)

    -- ---- at the end

    kept : (k u : ℕ) → u < sectors_of t k → (IsGate k u → ⊥) → Keeps ((slices_of t y).held k u) ((slices_of t b).held k u)
    unfolding look
    kept k u within no_gate =
        replay.apart k u (live_on opened.rest.lasting replay.stays (live_there k u within))
        (λ shutting. no_gate ((let slice = shutting.slice in omega (arith, slice)), shutting.gate)) (ap (λ (xs : List Target). look xs k u) empty)

    abbrev end : Image
    end = sliced t (now_in b)

    stands_end : Stands (slices_of t b) end
    stands_end = record {
      picks = λ k u at. inl (reading_live (slices_of t b) k u at);
      inside = λ p u past. past_slice t (now_in b) (log_slice p) u past;
    }

    closed_end : AreClosed t y (now_in b)
    closed_end = record {
      off = λ d u low within. elim (only.within d u (now_in b d u) (live d u low within) (inl refl)) [
        | inl may ↦ inl (rest.sound.steady.single d u low within (now_in b d u) may)
        | inr at ↦ inr at
      ];
      alike = λ k u within no_gate. in_slice t (now_in b) k u within ∙ (kept k u within no_gate).current ∙ sym (in_slice t (now_in y) k u within);
      none = quiet end (record { picks = λ p u at. stands_end.picks (log_slice p) u at; inside = stands_end.inside });
      whole = (replay.after can end stands_end).whole;
    }

    -- a gate too has one value, of 512 bytes
    gate_end : (k u : ℕ) → u < sectors_of t k → IsGate k u → IsSingle ((slices_of t b).held k u) × IsSector ((slices_of t b).held k u).current
    gate_end k u within gate = elim (cases_Bool l.is_open) [
      | inl work ↦
          let one = slice_there k u within in
          let at : k ≡ log_slice (place_of k) = log_at k gate.0 in
          let there : gate_sector < sectors_of t (log_slice (place_of k)) = subst (λ j. gate_sector < sectors_of t j) at (subst (λ v. v < sectors_of t k) gate.1 within) in
          subst (λ v. IsSingle ((slices_of t b).held k v) × IsSector ((slices_of t b).held k v).current) (sym gate.1)
          (subst (λ j. IsSingle ((slices_of t b).held j gate_sector) × IsSector ((slices_of t b).held j gate_sector).current) (sym at)
          (replay.durable (inr work) refl (place_of k) (names_current f.state (place_of k) ∙ members.current (place_of k) one.0 one.1)
          (live_on opened.rest.lasting replay.stays (live_there (log_slice (place_of k)) gate_sector there))))
      | inr shut ↦
          let keeps = (replay.idle (λ work. idle_log work shut)).held k u (live_on opened.rest.lasting replay.stays (live_there k u within)) in
          (keeps_single ((slices_of t y).held k u) ((slices_of t b).held k u) keeps (single k u within), subst IsSector (sym keeps.current) (sized k u within))
    ]
      where
        idle_log : HasWork l → l.is_open ≡ false → ⊥
        idle_log (inl some) shut = some empty
        idle_log (inr opens) shut = both_ways l.is_open shut opens

        sized : (k u : ℕ) → u < sectors_of t k → IsSector ((slices_of t y).held k u).current
        sized k u within = (let at = live_below orderly members.fit.1 (live_there k u within) in rest.sound.steady.sized (disk_of t k) (first_of t k + u) at.disk at.sector)

    slice_end : (k u : ℕ) → u < sectors_of t k → IsSingle ((slices_of t b).held k u) × IsSector ((slices_of t b).held k u).current
    slice_end k u within = elim (cases_eq (slice_of k) 0) [
      | inr other ↦ kept_end (λ gate. other gate.0)
      | inl log ↦ elim (cases_eq u gate_sector) [
        | inl is ↦ gate_end k u within (log, is)
        | inr other ↦ kept_end (λ gate. other gate.1)
      ]
    ]
      where
        kept_end : (IsGate k u → ⊥) → IsSingle ((slices_of t b).held k u) × IsSector ((slices_of t b).held k u).current
        kept_end no_gate =
            let keeps = kept k u within no_gate in
            let at = live_below orderly members.fit.1 (live_there k u within) in (
              keeps_single ((slices_of t y).held k u) ((slices_of t b).held k u) keeps (single k u within),
              subst IsSector (sym keeps.current) (rest.sound.steady.sized (disk_of t k) (first_of t k + u) at.disk at.sector),
            )

    in_slice_end : (d u : ℕ) (v : List ℕ) → IsSliced t d u v → IsSingle (b.held d u) × IsSector (b.held d u).current
    in_slice_end d u v at =
        subst (λ j. IsSingle (b.held j u) × IsSector (b.held j u).current) (sym at.disk_is)
        (subst (λ n. IsSingle (b.held (disk_of t at.slice) n) × IsSector (b.held (disk_of t at.slice) n).current) (sym at.sector_is) (slice_end at.slice at.at at.within))

    steady_end : AreSteady b
    steady_end = record {
      told = λ d low. only.stays.told d (rest.sound.steady.told d (subst (λ n. d < n) only.stays.disks low));
      lasts = record {
        lasting = only.stays.lasting rest.sound.steady.lasts.lasting;
        unspent = λ d u. only.stays.lasts rest.sound.steady.lasts.lasting d u (rest.sound.steady.lasts.unspent d u);
      };
      single = λ d u low within v may.
          let there = subst (λ n. d < n) only.stays.disks low in
          let inside = subst (λ n. u < n) (only.stays.sectors d) within in
          let at = live d u there inside in
          elim (only.within d u v at may) [
            | inr sliced ↦ (in_slice_end d u v sliced).0 v may
            | inl was ↦ elim (only.within d u (now_in b d u) at (inl refl)) [
              | inr sliced ↦ (in_slice_end d u (now_in b d u) sliced).0 v may
              | inl now ↦ rest.sound.steady.single d u there inside v was ∙ sym (rest.sound.steady.single d u there inside (now_in b d u) now)
            ]
          ];
      sized = λ d u low within.
          let there = subst (λ n. d < n) only.stays.disks low in
          let inside = subst (λ n. u < n) (only.stays.sectors d) within in
          elim (only.within d u (now_in b d u) (live d u there inside) (inl refl)) [
            | inr sliced ↦ (in_slice_end d u (now_in b d u) sliced).1
            | inl now ↦ subst IsSector (sym (rest.sound.steady.single d u there inside (now_in b d u) now)) (rest.sound.steady.sized d u there inside)
          ];
    }

    disks_end : disks_of y ≡ disks_of b
    disks_end = ap₂ (λ count sectors. record { count = count; sectors = sectors }) (sym only.stays.disks) (λ j d. sym (only.stays.sectors d) j)

    pub closing_so : IsClosedSo e y b
    closing_so =
        let held = closed_holds (now_in b) closed_end in
        record {
          now = held.now;
          same = held.same;
          sound = record {
            steady = steady_end;
            found_is = subst (λ (k : Disks). found k (now_in b) ≡ Some held.now) disks_end held.found_is;
            sound = held.sound;
            logs = subst (λ (k : Disks). HasSoundLogs k (now_in b)) disks_end held.logs;
          };
          idle = subst (λ (k : Disks). IsIdleIn k (now_in b)) disks_end held.idle;
          leaves = λ traced.
              let stops = only.stops traced in
              record { later = stops.later; kept = stops.kept; past = stops.past; new = opened_there traced };
        }
