-- The pool of contents as a stop in a replay leaves them: it is the one that the disks had, but for gates of its log, and its logs are sound.
use Rattle.std.proofs.Common.{◌≡◌, ◌⊎◌, ℕ, ◌+◌, ◌<◌, ◌≤◌, ◌&&◌, not, Bool, true, false, nat_lt, if◌then◌else◌, List, [], length, Option, Some, None, option_map, unwrap_or, refl, sym, ap, ap₂, subst, ◌∙◌, inl, inr, arith, ltb-true}
use Rattle.std.specs.List.{range_with_len}
use Rattle.std.specs.Option.{option_and_then, option_map_or}
use Rattle.std.specs.Result.{result_ok}
use Rattle.std.proofs.lemmas.Bool.{cases_Bool, cases_eq, cases_lt}
use Rattle.std.proofs.lemmas.Option.{none-some}
use Rattle.rack.specs.Seen.{Image}
use Rattle.rack.specs.Targets.{Target, look}
use Rattle.pool_state.specs.declared.contents.Copied.{Copied}
use Rattle.pool_state.specs.declared.contents.State.{State}
use Rattle.pool_state.specs.Sector.{decoded}
use Rattle.array_image.specs.Places.{arrays_first, log_sectors, log_slice, state_sector}
use Rattle.array_image.specs.Record.{GateAt, damaged_log, is_bad_gate, is_bad_log, pending, pending_at}
use Rattle.array_image.specs.States.{current_places, is_current}
use Rattle.pool_image.specs.Alike.{IsSamePool, IsSameButGates, drive_gate, is_bad_block}
use Rattle.pool_image.specs.Disks.{Disks, Identities, Seats, identities_of, newest, seat_of}
use Rattle.pool_image.specs.Drives.{Found, found, found_by, slices_of}
use Rattle.pool_image.specs.Replay.{Standing, brought_state, logs_of, standing, standing_by, written}
use Rattle.pool_image.proofs.Identities.{newest_same, same_but_gates, seat_inside, seat_same}
use Rattle.pool_image.proofs.Rested.{gate_block, written_none}
use Rattle.log_laws.specs.Saying.{PlaceJoins}
use Rattle.log_laws.specs.View.{names}
use Rattle.log_laws.proofs.Counting.{is_listed}
use Rattle.commit_log.proofs.Fewer.{current_of_all, filter_names}
use Rattle.log_laws.proofs.Naming.{names_range}
use Rattle.log_laws.proofs.Places.{joins_none, stays_or_joins}
use Rattle.commit_log.proofs.Undamaged.{whole_gates}
use Rattle.pool_rest.specs.Moments.{AreGatesKept, AreStatesKept, IsGateBelow, StandsBrought, StandsReplaying, TakesLowerIn, landed_on}
use Rattle.pool_rest.specs.Resting.{replayed_on, seated_state}
use Rattle.pool_rest.specs.SoundLogs.{HasSoundLogs, IsGateUpTo, IsSoundLog}
use Rattle.pool_rest.proofs.LaterCopies.{IsCopied, newest_later, newest_still}
use Rattle.pool_rest.proofs.MidwayDisks as on
use Rattle.pool_rest.proofs.MidwayDisks.{IsNoGate, few_before, gate_free, log_free, newest_written, seats_written, source, written_gate}
use Rattle.log_laws.proofs.HeldCopies.{no_look}
use Rattle.pool_rest.proofs.Meant.{few_stood}
use Rattle.pool_rest.proofs.Quiet.{none_brought}
use Rattle.pool_rest.proofs.SameLogs.{logs_same}
use Rattle.pool_rest.proofs.SameMeaning.{bad_log_none, no_log, seat_gate, seat_none}

-- a current place is among those that a state lists
named_of : (z : State) (p : ℕ) → length z.drives.items ≤ 16 → is_current z p ≡ true → names (current_places z) p ≡ true
named_of z p few current =
    ap (λ ps. names ps p) (current_of_all z few)
    ∙ filter_names (is_current z) (range_with_len 0 16) p current (names_range 0 16 p (omega arith) (let listed = is_listed z p current in omega (arith, listed, few)))

module _ (disks : Disks) (c i : Image) (s0 : State) (newest_before : newest disks (identities_of disks c) ≡ Some s0)
    (log : IsSoundLog disks c (standing_by disks c s0) (seated_state (standing_by disks c s0).targets s0))
    (mid : StandsReplaying disks s0 (seated_state (standing_by disks c s0).targets s0) (standing_by disks c s0).targets c i) where
  abbrev before : Standing
  before = standing_by disks c s0

  abbrev xs : List Target
  xs = (standing_by disks c s0).targets

  abbrev pub s : State
  s = seated_state (standing_by disks c s0).targets s0

  abbrev ids : Identities
  ids = identities_of disks c

  abbrev now_ids : Identities
  now_ids = identities_of disks i

  abbrev w : Image
  w = written disks (standing_by disks c s0) c

  abbrev landings : List Target
  landings = landed_on disks (seated_state (standing_by disks c s0).targets s0) (standing_by disks c s0).targets c

  tables_now : (d : ℕ) → d < disks.count → (now_ids d).table ≡ (ids d).table
  tables_now = on.tables_now disks c i s0 newest_before log mid.others mid.copies

  pub copied_or : (d : ℕ) → d < disks.count → ((now_ids d).copied ≡ (ids d).copied) ⊎ ((q : ℕ) × IsCopied disks s ids now_ids d q)
  copied_or = on.copied_or disks c i s0 newest_before log mid.others mid.copies

  seats_now : (p : ℕ) → seat_of s disks now_ids p ≡ seat_of s disks ids p
  seats_now = on.seats_now disks c i s0 newest_before log mid.others mid.copies

  again : (d t : ℕ) → d < disks.count → t < disks.sectors d → IsNoGate disks d t → replayed_on disks s xs i d t ≡ w d t
  again = on.again disks c i s0 newest_before log mid.others mid.copies

  again_gate : (d : ℕ) → drive_gate < disks.sectors d → replayed_on disks s xs i d drive_gate ≡ i d drive_gate
  again_gate = on.again_gate disks c i s0 newest_before log mid.others mid.copies

  few : length s0.drives.items ≤ 16
  few = few_before disks c i s0 newest_before log

  low : (d : ℕ) (copy : Copied) → d < disks.count → (ids d).copied ≡ Some copy → copy.state.epoch ≤ s.epoch
  low = on.low disks c i s0 newest_before log

  -- ---- gates of before

  taken : (z : State) (p d : ℕ) (j : Identities) → seat_of z disks j p ≡ Some d → is_current z p ≡ true
  taken z p d j seat = elim (cases_Bool (is_current z p)) [ inl is ↦ is | inr none ↦ absurd (none-some d (sym (seat_none disks z j p none) ∙ seat)) ]

  -- a gate on a drive of the state that is brought was well formed
  formed : (p d : ℕ) → seat_of s disks ids p ≡ Some d → arrays_first ≤ disks.sectors d → is_bad_block (c d drive_gate) ≡ false
  formed p d seat room = elim (stays_or_joins s0 s p (taken s p d ids seat)) [
    | inl stays ↦
        ap is_bad_block (sym (seat_gate disks s0 ids c p d (sym (log.seats p stays) ∙ seat) room))
        ∙ whole_gates before.logs (current_places s0) p log.whole (named_of s0 p few stays.was)
    | inr joins ↦ elim log.next [
      | inl same ↦ absurd (joins_none s0 s p same joins)
      | inr next ↦ let from = source disks c i s0 newest_before log next.later in (log.joining from.0 p d from.1 joins seat room).formed
    ]
  ]

  was_whole : (p : ℕ) → is_bad_log (current_places s0) before.logs p ≡ false
  was_whole = bad_log_none s0 before.logs log.whole few (λ p out. no_log disks s0 ids c p out)

  -- ---- the pool, by the state that stands

  abbrev pub was : Found
  was = record { disks = disks; before = before; contents = w; identities = identities_of disks w; state = s; seats = seat_of s disks (identities_of disks w) }

  pub found_was : standing disks c ≡ Some before → found disks c ≡ Some was
  unfolding found
  found_was stands =
      ap (option_and_then (λ x. found_by disks x (written disks x c))) stands
      ∙ ap (option_map (λ (y : State). record { disks = disks; before = before; contents = w; identities = identities_of disks w; state = y; seats = seat_of y disks (identities_of disks w) }))
      (newest_written disks c i s0 newest_before log)

  module _ (s1 : State) (stands_now : standing disks i ≡ Some (standing_by disks i s1))
      (replays : (d t : ℕ) → d < disks.count → t < disks.sectors d → IsNoGate disks d t → written disks (standing_by disks i s1) i d t ≡ w d t)
      (gate_now : (d : ℕ) → drive_gate < disks.sectors d → written disks (standing_by disks i s1) i d drive_gate ≡ i d drive_gate)
      (gates : (p d : ℕ) → seat_of s disks ids p ≡ Some d → arrays_first ≤ disks.sectors d → is_bad_block (i d drive_gate) ≡ false)
      (whole : (p : ℕ) → is_bad_log (current_places s1) (standing_by disks i s1).logs p ≡ false) where
    abbrev w1 : Image
    w1 = written disks (standing_by disks i s1) i

    same : IsSameButGates disks w1 w
    same =
        same_but_gates disks w1 w (λ d t there within other. replays d t there within (inl other))
        (λ d there within. elim (cases_lt (disks.sectors d) arrays_first) [ inl short ↦ inl (replays d drive_gate there within (inr short)) | inr long ↦ inr long ])

    abbrev pub now : Found
    now = record {
      disks = disks;
      before = standing_by disks i s1;
      contents = written disks (standing_by disks i s1) i;
      identities = identities_of disks (written disks (standing_by disks i s1) i);
      state = s;
      seats = seat_of s disks (identities_of disks (written disks (standing_by disks i s1) i));
    }

    newest_last : newest disks (identities_of disks w1) ≡ Some s
    newest_last = newest_same disks (identities_of disks w1) (identities_of disks w) same.identities ∙ newest_written disks c i s0 newest_before log

    pub found_now : found disks i ≡ Some now
    unfolding found
    found_now =
        ap (option_and_then (λ x. found_by disks x (written disks x i))) stands_now
        ∙ ap (option_map (λ (y : State). record {
          disks = disks;
          before = standing_by disks i s1;
          contents = w1;
          identities = identities_of disks w1;
          state = y;
          seats = seat_of y disks (identities_of disks w1);
        })) newest_last

    seats_last : (p : ℕ) → now.seats p ≡ was.seats p
    seats_last = seat_same disks (identities_of disks w1) (identities_of disks w) same.identities s

    block : (p d : ℕ) → was.seats p ≡ Some d → is_bad_gate (slices_of now) p ≡ is_bad_gate (slices_of was) p
    block p d seat =
        ap is_bad_block (gate_block now p)
        ∙ ap (λ o. is_bad_block (option_map_or (λ e. if nat_lt drive_gate (disks.sectors e) then w1 e drive_gate else []) o [])) (seats_last p ∙ seat)
        ∙ of_room (nat_lt drive_gate (disks.sectors d)) refl
        ∙ sym (ap is_bad_block (gate_block was p) ∙ ap (λ o. is_bad_block (option_map_or (λ e. if nat_lt drive_gate (disks.sectors e) then w e drive_gate else []) o [])) seat)
      where
        there : d < disks.count
        there = seat_inside s disks (identities_of disks w) p d seat

        of_room : (b : Bool) → nat_lt drive_gate (disks.sectors d) ≡ b → is_bad_block (if b then w1 d drive_gate else []) ≡ is_bad_block (if b then w d drive_gate else [])
        of_room false past = refl
        of_room true within =
            let room = ltb-true drive_gate (disks.sectors d) within in
            elim (cases_lt (disks.sectors d) arrays_first) [
              | inl short ↦ ap is_bad_block (replays d drive_gate there room (inr short))
              | inr long ↦
                  let at : seat_of s disks ids p ≡ Some d = sym (seats_written disks c i s0 newest_before log p) ∙ seat in
                  ap is_bad_block (gate_now d room) ∙ gates p d at long
                  ∙ sym (ap is_bad_block (written_gate disks c i s0 newest_before log d room) ∙ formed p d at long)
            ]

    pub pool : IsSamePool was now
    pool = record {
      disks = refl;
      state = refl;
      seats = seats_last;
      all = same.identities;
      identities = λ p d seat. same.identities d (seat_inside s disks (identities_of disks w) p d seat);
      contents = λ p d t seat within other. same.contents d t (seat_inside s disks (identities_of disks w) p d seat) within other;
      logs = λ p d seat. ap₂ (λ a b. not a && not b) (block p d seat) (whole p ∙ sym (was_whole p));
    }

  -- ---- no copy and no gate has changed

  module _ (states : AreStatesKept disks c i) (kept : AreGatesKept disks c i) where
    pub early_ids : (d : ℕ) → d < disks.count → now_ids d ≡ ids d
    early_ids d there = ap₂ (λ k z. record { copied = k; table = z }) (copied (nat_lt state_sector (disks.sectors d)) refl) (tables_now d there)
      where
        copied : (b : Bool) → nat_lt state_sector (disks.sectors d) ≡ b → (now_ids d).copied ≡ (ids d).copied
        copied true within = ap (λ (v : List ℕ). if nat_lt state_sector (disks.sectors d) then result_ok (decoded v) else None) (states d there (ltb-true state_sector (disks.sectors d) within))
        copied false past =
            ap (λ b. if b then result_ok (decoded (i d state_sector)) else None) past ∙ sym (ap (λ b. if b then result_ok (decoded (c d state_sector)) else None) past)

    newest_early : newest disks now_ids ≡ Some s0
    newest_early = newest_same disks now_ids ids early_ids ∙ newest_before

    pub stands_early : standing disks i ≡ Some (standing_by disks i s0)
    unfolding standing
    stands_early = ap (option_map (standing_by disks i)) newest_early

    seats_early : (z : State) (p : ℕ) → seat_of z disks now_ids p ≡ seat_of z disks ids p
    seats_early z p = seat_same disks now_ids ids early_ids z p

    logs_early : (standing_by disks i s0).logs ≡ before.logs
    logs_early = logs_same disks c i (seat_of s0 disks ids) (seat_of s0 disks now_ids) (seats_early s0) at
      where
        at : (p d u : ℕ) → seat_of s0 disks ids p ≡ Some d → arrays_first ≤ disks.sectors d → u < log_sectors → i d (state_sector + u) ≡ c d (state_sector + u)
        at p d u seat room less =
            let there : d < disks.count = seat_inside s0 disks ids p d seat in
            let within : state_sector + u < disks.sectors d = omega (arith, less, room) in
            elim (cases_lt 0 u) [
              | inr none ↦ subst (λ k. k < disks.sectors d → i d k ≡ c d k) (let sector : state_sector ≡ state_sector + u = omega (arith, none) in sector) (states d there) within
              | inl some ↦ elim (cases_eq (state_sector + u) drive_gate) [
                | inl gate ↦ subst (λ k. k < disks.sectors d → i d k ≡ c d k) (sym gate) (kept d there) within
                | inr other ↦
                    mid.others d (state_sector + u) there within (inl other)
                    (log_free disks c i s0 newest_before log d (state_sector + u) (omega (arith, some)) (omega (arith, less)))
              ]
            ]

    targets_early : (standing_by disks i s0).targets ≡ xs
    targets_early = ap (pending (current_places s0)) logs_early

    written_early : written disks (standing_by disks i s0) i ≡ replayed_on disks s xs i
    written_early = ap (λ (ys : List Target). replayed_on disks (seated_state ys s0) ys i) targets_early

    pub replays_early : (d t : ℕ) → d < disks.count → t < disks.sectors d → IsNoGate disks d t → written disks (standing_by disks i s0) i d t ≡ w d t
    replays_early d t there within which = ap (λ (e : Image). e d t) written_early ∙ again d t there within which

    pub gate_early : (d : ℕ) → drive_gate < disks.sectors d → written disks (standing_by disks i s0) i d drive_gate ≡ i d drive_gate
    gate_early d within = ap (λ (e : Image). e d drive_gate) written_early ∙ again_gate d within

    pub gates_early : (p d : ℕ) → seat_of s disks ids p ≡ Some d → arrays_first ≤ disks.sectors d → is_bad_block (i d drive_gate) ≡ false
    gates_early p d seat room = ap is_bad_block (kept d (seat_inside s disks ids p d seat) (omega (arith, room))) ∙ formed p d seat room

    pub whole_early : (p : ℕ) → is_bad_log (current_places s0) (standing_by disks i s0).logs p ≡ false
    whole_early p = ap (λ (l : Image). is_bad_log (current_places s0) l p) logs_early ∙ was_whole p

    abbrev pub early : Found
    early = now s0 stands_early replays_early gate_early gates_early whole_early

    pub early_found : found disks i ≡ Some early
    early_found = found_now s0 stands_early replays_early gate_early gates_early whole_early

    pub early_pool : IsSamePool was early
    early_pool = pool s0 stands_early replays_early gate_early gates_early whole_early

    -- as they stand, with the logs that they had
    abbrev stood : Standing
    stood = record { identities = identities_of disks i; state = s0; logs = before.logs; targets = before.targets }

    stood_is : standing_by disks i s0 ≡ stood
    stood_is = ap (λ (l : Image). record { identities = identities_of disks i; state = s0; logs = l; targets = pending (current_places s0) l }) logs_early

    pub stands_so : standing disks i ≡ Some stood
    stands_so = stands_early ∙ ap Some stood_is

    gate_same : (p d : ℕ) → seat_of s disks ids p ≡ Some d → arrays_first ≤ disks.sectors d → i d drive_gate ≡ c d drive_gate
    gate_same p d seat room = kept d (seat_inside s disks ids p d seat) (omega (arith, room))

    pub early_logs : HasSoundLogs disks i
    early_logs = record {
      before = stood;
      stands = stands_so;
      log = record {
        whole = log.whole;
        next = elim log.next [ inl is ↦ inl is | inr later ↦ inr (record { later = later.later; source = later.source; copy = later.copy }) ];
        pool = log.pool;
        copies = log.copies;
        seats = λ p stays. seats_early s p ∙ log.seats p stays ∙ sym (seats_early s0 p);
        joining = λ a p d at joins seat room.
            let old = sym (seats_early s p) ∙ seat in subst (IsGateUpTo a.gate.number) (sym (gate_same p d old room)) (log.joining a p d at joins old room);
      };
    }

    pub early_lower : standing disks c ≡ Some before → TakesLowerIn disks c → TakesLowerIn disks i
    early_lower stands takes other at =
        subst
        (λ (x : Standing). (a : GateAt) (p d : ℕ) → pending_at (current_places x.state) x.logs ≡ Some a → PlaceJoins x.state (seated_state x.targets x.state) p
        → seat_of (seated_state x.targets x.state) disks x.identities p ≡ Some d → arrays_first ≤ disks.sectors d → IsGateBelow a.gate.number (i d drive_gate))
        (some_standing stood other (sym stands_so ∙ at))
        (λ a p d here joins seat room.
        let old = sym (seats_early s p) ∙ seat in subst (IsGateBelow a.gate.number) (sym (gate_same p d old room)) (takes before stands a p d here joins old room))
      where
        some_standing : (a b : Standing) → Some a ≡ Some b → a ≡ b
        some_standing a b is = cc

  -- ---- the state stands that the record is for

  module _ (brought : StandsBrought disks s0 s xs c i) where
    pub newest_late : newest disks now_ids ≡ Some s
    newest_late = elim brought.copied [
      | inl same ↦ newest_still disks s ids now_ids tables_now copied_or low (newest_before ∙ ap Some (sym same))
      | inr copy ↦
          let new = on.new_copy disks c i s0 newest_before log mid.others mid.copies copy.disk copy.copy in
          elim log.next [
            | inl same ↦ newest_still disks s ids now_ids tables_now copied_or low (newest_before ∙ ap Some (sym same))
            | inr next ↦ newest_later disks s ids now_ids tables_now copied_or low s0 newest_before next.later copy.disk new.0 copy.there new.1
          ]
    ]

    pub stands_late : standing disks i ≡ Some (standing_by disks i s)
    unfolding standing
    stands_late = ap (option_map (standing_by disks i)) newest_late

    abbrev logs : Image
    logs = logs_of disks (seat_of s disks (identities_of disks c)) i

    logs_late : (standing_by disks i s).logs ≡ logs
    logs_late = ap (λ (f : Seats). logs_of disks f i) (λ k p. seats_now p k)

    -- the record is pending yet, or nothing is and all of it is written
    pub targets_late : ((standing_by disks i s).targets ≡ xs) ⊎ (((standing_by disks i s).targets ≡ []) × ((d t : ℕ) → d < disks.count → t < disks.sectors d → IsNoGate disks d t → i d t ≡ w d t))
    targets_late = elim brought.pends [
      | inl yet ↦ inl (ap (pending (current_places s)) logs_late ∙ yet)
      | inr done ↦ inr (ap (pending (current_places s)) logs_late ∙ done.1, on.done disks c i s0 newest_before log mid.others mid.copies done.0)
    ]

    -- its state is the one that it is for
    seated_again : seated_state xs s ≡ s
    seated_again = of (brought_state xs)
      where
        of : (o : Option State) → unwrap_or o (unwrap_or o s0) ≡ unwrap_or o s0
        of None = refl
        of (Some z) = refl

    seated_late : seated_state (standing_by disks i s).targets s ≡ s
    seated_late = elim targets_late [
      | inl yet ↦ ap (λ (ys : List Target). seated_state ys s) yet ∙ seated_again
      | inr done ↦ ap (λ (ys : List Target). seated_state ys s) done.0 ∙ sym (none_brought s)
    ]

    written_late : (standing_by disks i s).targets ≡ xs → written disks (standing_by disks i s) i ≡ replayed_on disks s xs i
    written_late yet = ap (λ (ys : List Target). replayed_on disks (seated_state ys s) ys i) yet ∙ ap (λ (z : State). replayed_on disks z xs i) seated_again

    pub replays_late : (d t : ℕ) → d < disks.count → t < disks.sectors d → IsNoGate disks d t → written disks (standing_by disks i s) i d t ≡ w d t
    replays_late d t there within which = elim targets_late [
      | inl yet ↦ ap (λ (e : Image). e d t) (written_late yet) ∙ again d t there within which
      | inr done ↦ ap (λ (e : Image). e d t) (written_none disks (standing_by disks i s) i done.0) ∙ done.1 d t there within which
    ]

    pub gate_late : (d : ℕ) → drive_gate < disks.sectors d → written disks (standing_by disks i s) i d drive_gate ≡ i d drive_gate
    gate_late d within = elim targets_late [
      | inl yet ↦ ap (λ (e : Image). e d drive_gate) (written_late yet) ∙ again_gate d within
      | inr done ↦ ap (λ (e : Image). e d drive_gate) (written_none disks (standing_by disks i s) i done.0)
    ]

    few_late : length s.drives.items ≤ 16
    few_late = few_stood disks i s newest_late

    pub gates_late : (p d : ℕ) → seat_of s disks ids p ≡ Some d → arrays_first ≤ disks.sectors d → is_bad_block (i d drive_gate) ≡ false
    gates_late p d seat room =
        ap is_bad_block (sym (seat_gate disks s ids i p d seat room))
        ∙ whole_gates logs (current_places s) p brought.whole (named_of s p few_late (taken s p d ids seat))

    whole_now : damaged_log (current_places s) (standing_by disks i s).logs ≡ None
    whole_now = ap (damaged_log (current_places s)) logs_late ∙ brought.whole

    pub whole_late : (p : ℕ) → is_bad_log (current_places s) (standing_by disks i s).logs p ≡ false
    whole_late = bad_log_none s (standing_by disks i s).logs whole_now few_late (λ p out. no_log disks s now_ids i p out)

    abbrev pub late : Found
    late = now s stands_late replays_late gate_late gates_late whole_late

    pub late_found : found disks i ≡ Some late
    late_found = found_now s stands_late replays_late gate_late gates_late whole_late

    pub late_pool : IsSamePool was late
    late_pool = pool s stands_late replays_late gate_late gates_late whole_late

    pub late_logs : HasSoundLogs disks i
    late_logs = record {
      before = standing_by disks i s;
      stands = stands_late;
      log = subst (IsSoundLog disks i (standing_by disks i s)) (sym seated_late) (record {
        whole = whole_now;
        next = inl refl;
        pool = refl;
        copies = λ p u is. elim targets_late [
          | inl yet ↦ log.copies p u (sym (ap (λ (ys : List Target). look ys (log_slice p) 0) yet) ∙ is)
          | inr done ↦ absurd (no_look (log_slice p) 0 u (sym (ap (λ (ys : List Target). look ys (log_slice p) 0) done.0) ∙ is))
        ];
        seats = λ p stays. refl;
        joining = λ a p d at joins seat room. absurd (joins_none s s p refl joins);
      });
    }

    -- no drive is taken in any more
    pub late_lower : TakesLowerIn disks i
    late_lower other at =
        subst
        (λ (x : Standing). (a : GateAt) (p d : ℕ) → pending_at (current_places x.state) x.logs ≡ Some a → PlaceJoins x.state (seated_state x.targets x.state) p
        → seat_of (seated_state x.targets x.state) disks x.identities p ≡ Some d → arrays_first ≤ disks.sectors d → IsGateBelow a.gate.number (i d drive_gate))
        (some_standing (standing_by disks i s) other (sym stands_late ∙ at))
        (λ a p d here joins seat room. absurd (joins_none s (seated_state (standing_by disks i s).targets s) p seated_late joins))
      where
        some_standing : (a b : Standing) → Some a ≡ Some b → a ≡ b
        some_standing a b is = cc
