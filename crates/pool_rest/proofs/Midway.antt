-- What stops in a replay leave on the disks: no copy and no log has changed yet, or the state that the record is for stands.
use Rattle.std.proofs.Common.{◌≡◌, ◌≢◌, ◌⊎◌, ℕ, ◌+◌, ◌<◌, ◌≤◌, Bool, true, List, [], length, Option, Some, None, Ok, unwrap_or, refl, sym, ap, ap₂, subst, ◌∙◌, inl, inr, arith}
use Rattle.std.specs.List.{filter_map, list_all, range_with_len}
use Rattle.std.specs.Option.{option_map_or}
use Rattle.std.specs.Result.{result_ok}
use Rattle.std.proofs.lemmas.Bool.{cases_eq, cases_lt}
use Rattle.std.proofs.lemmas.Option.{none-some}
use Rattle.rack.specs.Values.{MayLeave}
use Rattle.rack.specs.Seen.{Image, RackView, IsLive, IsPick}
use Rattle.rack.specs.Moments.{Leaves}
use Rattle.rack.specs.Joins.{leaves_then, leaves_weaker}
use Rattle.rack.specs.Targets.{Target, look}
use Rattle.slice_rack.specs.Landing.{landing}
use Rattle.slice_rack.specs.Runs.{IsSliced}
use Rattle.slice_rack.specs.Slices.{Slices, disk_of, first_of, sectors_of}
use Rattle.slice_rack.specs.Sliced.{sliced, slices_of}
use Rattle.slice_rack.specs.Laws.{disk_below, sector_below}
use Rattle.slice_rack.proofs.Landed.{look_landed, look_nowhere}
use Rattle.slice_rack.proofs.Running.{sliced_or}
use Rattle.pool_state.specs.declared.contents.State.{State}
use Rattle.pool_state.specs.Sector.{decoded}
use Rattle.array_image.specs.Arrays.{replayed}
use Rattle.array_image.specs.Left.{reading}
use Rattle.array_image.specs.Places.{arrays_first, log_sectors, log_slice, place_of, slice_of, state_sector}
use Rattle.array_image.specs.Record.{GateAt, damaged_log, gate_sector, is_target, pending, pending_at, record_in, record_of}
use Rattle.array_image.specs.States.{current_places, is_current, state_in}
use Rattle.array_image.proofs.Frames.{state_same}
use Rattle.pool_image.specs.Alike.{Agree, drive_gate}
use Rattle.pool_image.specs.Disks.{Disks, Identities, disks_of, identities_of, seat_of as drive_of}
use Rattle.pool_image.specs.Replay.{landed, logs_of}
use Rattle.log_laws.specs.Opening.{AreWritten, CanReplay, Replays, StandsAmid, StandsReplaying as SlicesStand}
use Rattle.log_laws.specs.Standing.{IsInside, IsLogPart, deciding}
use Rattle.log_laws.specs.View.{LogView, names}
use Rattle.commit_log.proofs.Amid.{each_or, log_of_place, not_state, replayed_as}
use Rattle.log_laws.proofs.Counting.{few_in}
use Rattle.log_laws.proofs.Epochs.{state_either, state_latest}
use Rattle.commit_log.proofs.Fewer.{current_of_all, names_filter}
use Rattle.log_laws.proofs.Naming.{names_range, range_below}
use Rattle.commit_log.proofs.Replayable.{pending_named}
use Rattle.commit_log.proofs.ReplaySays.{replay_pends}
use Rattle.commit_log.proofs.Restored.{pending_by, put_there}
use Rattle.commit_log.proofs.Undamaged.{whole_by}
use Rattle.pool_scan.specs.declared.Known.{Known}
use Rattle.pool_scan.specs.Choosing.{AreOf, seat_by}
use Rattle.pool_scan.specs.Scanning.{AllTold, IsUnfaulted, now_in}
use Rattle.pool_scan.proofs.Seated.{seat_by_is}
use Rattle.pool_rest.specs.Moments.{AreAllWritten, AreGatesKept, AreOfDrives, AreStatesKept, BringsState, IsCopyWritten, StandsBrought, StandsReplaying, landed_on}
use Rattle.pool_rest.specs.Resting.{AreSingle}
use Rattle.pool_rest.specs.Standing.{FindsAll, IsLaid, IsLasting}
use Rattle.pool_rest.proofs.Laid.{has_log, laid_all}
use Rattle.pool_rest.proofs.Moments.{amid_gives, brought_can, live_w, one_value, same_logs, source_there}
use Rattle.pool_rest.proofs.OnDrives.{OnDrives, filter_same, landing_is, log_first, past_none, sliced_place}
use Rattle.pool_rest.proofs.Sliced.{SameAt, same_sliced, sliced_inside, sliced_outside}

-- contents that agree with those from before
pub still_stands : (disks : Disks) (s0 s : State) (xs : List Target) (c i : Image) → Agree disks i c → StandsReplaying disks s0 s xs c i
still_stands disks s0 s xs c i agree = record {
  others = λ d t there within which none. agree d t there within;
  copies = λ d there within. inl (agree d state_sector there within);
  says = inl (λ d there within. agree d state_sector there within, λ d there within. agree d drive_gate there within);
}

module _ {x w y : RackView} {known : List Known} {s : State} {t v : Slices} {on unread closing lost : List ℕ} {l : LogView}
    (parts : OnDrives x w y known s t v on unread closing lost l) (free : IsUnfaulted x y) (told : AllTold x) (lasts : IsLasting x) (single : AreSingle x)
    (u : Slices) (of : AreOfDrives x (seat_by s known) u)
    (are : AreOf (disks_of x) (identities_of (disks_of x) (now_in x)) known) (valid : list_all is_target l.pending ≡ true) (can : CanReplay l (slices_of v w))
    (s0 : State) (state : state_in (sliced v (now_in x)) ≡ Some s0) (next : (s ≡ s0) ⊎ (s0.epoch < s.epoch))
    (own : (p : ℕ) (b : List ℕ) → look l.pending (log_slice p) 0 ≡ Some b → decoded b ≡ Ok (record { state = s; own = p }))
    (copy : (s ≡ s0) ⊎ ((p : ℕ) × (b : List ℕ) × (0 < sectors_of v (log_slice p)) × (look l.pending (log_slice p) 0 ≡ Some b))) where
  abbrev disks : Disks
  disks = disks_of x

  abbrev c : Image
  c = now_in x

  abbrev ids : Identities
  ids = identities_of (disks_of x) (now_in x)

  abbrev held : Image
  held = sliced v (now_in x)

  abbrev landings : List Target
  landings = landed_on (disks_of x) s l.pending (now_in x)

  targets : landings ≡ filter_map (landing v) l.pending
  targets = filter_same (landed disks ids (drive_of s disks ids)) (landing v) l.pending valid (λ z few. landing_is parts free told are z few)

  -- ---- sectors of the disks by slices

  -- a sector of a slice
  module _ (d j : ℕ) (is : IsSliced v d j []) where
    read_at : (e : Image) → e d j ≡ sliced v e is.slice is.at
    read_at e = ap₂ (λ k q. e k q) is.disk_is is.sector_is ∙ sym (sliced_inside v e is.slice is.at is.within)

    look_at : look landings d j ≡ look l.pending is.slice is.at
    look_at =
        ap (λ xs. look xs d j) targets ∙ ap₂ (λ k q. look (filter_map (landing v) l.pending) k q) is.disk_is is.sector_is
        ∙ look_landed v parts.orderly l.pending is.slice is.at is.within

    some : 0 < sectors_of v is.slice
    some = let low = is.within in omega (arith, low)

    place : (place_of is.slice < 16) × (seat_by s known (place_of is.slice) ≡ Some (disk_of v is.slice))
    place = sliced_place parts is.slice some

    -- in the log's part of the disk it is one of a log slice
    log_at : j < arrays_first → (slice_of is.slice ≡ 0) × (j ≡ state_sector + is.at)
    log_at low = elim (cases_eq (slice_of is.slice) 0) [
      | inl log ↦ (log, (let first = log_first parts is.slice log some in let at = is.sector_is in omega (arith, first, at)))
      | inr member ↦
          let within = parts.cut.within is.slice (omega (arith, member)) some in
          let behind = within.behind in
          let at = is.sector_is in
          absurd (omega (arith, behind, at, low))
    ]

    -- a log slice's disk has all of it
    long : slice_of is.slice ≡ 0 → arrays_first ≤ x.sectors d
    long log =
        let first = log_first parts is.slice log some in
        let slice : log_slice (place_of is.slice) ≡ is.slice = log_of_place is.slice log in
        let full : sectors_of v is.slice ≡ log_sectors =
        parts.cut.sectors is.slice log ∙ ap (sectors_of t) (sym slice)
        ∙ (has_log x known s t on (place_of is.slice) parts.laid (subst (λ n. 0 < n) (parts.cut.sectors is.slice log ∙ ap (sectors_of t) (sym slice)) some)).2 in
        let ends = parts.inside.slices is.slice some in
        let room : w.sectors (disk_of v is.slice) ≡ x.sectors d = parts.reads.stays.sectors (disk_of v is.slice) ∙ ap x.sectors (sym is.disk_is) in
        omega (arith, ends, full, first, room)

    -- the gate of a log slice
    gate_at : slice_of is.slice ≡ 0 → is.at ≡ gate_sector → j ≡ drive_gate
    gate_at log at =
        let first = log_first parts is.slice log some in
        let sector = is.sector_is in
        omega (arith, first, sector, at)

  sliced_at : (d j : ℕ) → IsSliced v d j [] ⊎ ((b : List ℕ) → IsSliced v d j b → ⊥)
  sliced_at d j = elim (sliced_or v d j (past_none parts)) [ inl is ↦ inl (is.0 []) | inr nowhere ↦ inr nowhere ]

  in_slice : (k : ℕ) → 0 < sectors_of v k → k < 272
  in_slice k more = elim (cases_lt k 272) [ inl few ↦ few | inr past ↦ (let none = past_none parts k past in absurd (omega (arith, more, none))) ]

  -- a value from before the replay
  old : (k j : ℕ) (b : List ℕ) → j < sectors_of v k → MayLeave ((slices_of v w).held k j) b → b ≡ held k j
  old k j b low may =
      one_value parts free told lasts single u of (disk_of v k) (first_of v k + j) b (disk_below v w k j parts.orderly parts.inside low) (sector_below v w k j parts.inside low) may
      ∙ sym (sliced_inside v (now_in x) k j low)

  live : (k j : ℕ) → j < sectors_of v k → IsLive (slices_of v w) (slices_of v w) k j
  live k j low = live_w parts free told lasts single u of k j low

  -- ---- log slices as the disks show them

  seats_fn : seat_by s known ≡ drive_of s disks ids
  seats_fn = λ i p. seat_by_is disks ids known are s p i

  same_log : (k : ℕ) → slice_of k ≡ 0 → place_of k < 16 → SameAt t v k
  same_log k log few = record {
    sectors = parts.cut.sectors k log;
    first = λ more. parts.cut.firsts k log;
    disk = λ more. ap (λ (o : Option ℕ). unwrap_or o 0) (parts.cut.seats (place_of k));
  }

  shown : (i : Image) (p j : ℕ) → p < 16 → logs_of disks (drive_of s disks ids) i (log_slice p) j ≡ sliced v i (log_slice p) j
  shown i p j few =
      let laid : IsLaid x known s t on = laid_all x x known s t on (λ d. refl) parts.laid in
      let low : place_of (log_slice p) < 16 = (let same : place_of (log_slice p) ≡ p = omega arith in omega (arith, few, same)) in
      ap (λ seats. logs_of disks seats i (log_slice p) j) (sym seats_fn)
      ∙ sym (laid.shows i (log_slice p) j (omega (arith, few)))
      ∙ same_sliced t v i (log_slice p) j (same_log (log_slice p) (omega arith) low)

  -- ---- what a stop leaves

  module _ (i : Image) (off : (d j : ℕ) → d < x.disks → j < x.sectors d → ((b : List ℕ) → IsSliced v d j b → ⊥) → i d j ≡ c d j)
      (mid : SlicesStand l.pending (slices_of v w) (sliced v i)) (replays : Replays (slices_of v w) (sliced v i)) where
    abbrev e : Image
    e = sliced v i

    pends : (pending (deciding e) e ≡ l.pending) ⊎ (pending (deciding e) e ≡ [])
    pends = replay_pends l (slices_of v w) e can mid

    -- without a target a sector is as it was, but for the log's own
    other : (k j : ℕ) → j < sectors_of v k → (IsLogPart k j → ⊥) → look l.pending k j ≡ None → e k j ≡ held k j
    unfolding look
    other k j low part none =
        elim pends [
          | inl same ↦ sym (put_there (sectors_of v) l.pending e k j nothing) ∙ sym (replayed_as (slices_of v w) e l.pending k j same) ∙ gives
          | inr idle ↦ sym (put_there (sectors_of v) [] e k j (λ b at. absurd (none-some b at))) ∙ sym (replayed_as (slices_of v w) e [] k j idle) ∙ gives
        ]
      where
        nothing : {b : List ℕ} (z : List ℕ) → look l.pending k j ≡ Some z → b ≡ z
        nothing z at = absurd (none-some z (sym none ∙ at))

        gives : replayed (sectors_of v) e k j ≡ held k j
        gives = amid_gives parts free told lasts single u of can e replays k j part low ∙ put_there (sectors_of v) l.pending held k j nothing

    -- copies of the state
    copy_or : (p : ℕ) → 0 < sectors_of v (log_slice p) → (e (log_slice p) 0 ≡ held (log_slice p) 0) ⊎ (look l.pending (log_slice p) 0 ≡ Some (e (log_slice p) 0))
    copy_or p low = elim mid [
      | inl amid ↦ elim (amid.states.picks p (live (log_slice p) 0 low)) [ inl may ↦ inl (old (log_slice p) 0 (e (log_slice p) 0) low may) | inr new ↦ inr new ]
      | inr done ↦ by done (look l.pending (log_slice p) 0) refl
    ]
      where
        by : AreWritten l.pending (slices_of v w) e → (o : Option (List ℕ)) → look l.pending (log_slice p) 0 ≡ o
            → (e (log_slice p) 0 ≡ held (log_slice p) 0) ⊎ (look l.pending (log_slice p) 0 ≡ Some (e (log_slice p) 0))
        by done None none = inl (other (log_slice p) 0 low (not_state p) none)
        by done (Some b) has = inr (has ∙ ap Some (sym (done.all (log_slice p) 0 b has low)))

    -- halves of logs are as they were
    half : (p j : ℕ) → gate_sector < j → j < sectors_of v (log_slice p) → e (log_slice p) j ≡ held (log_slice p) j
    half p j more low =
        old (log_slice p) j (e (log_slice p) j) low
        (elim mid [
          | inl amid ↦ amid.parts p j (omega (arith, more)) (live (log_slice p) j low)
          | inr done ↦ done.halves p j more (live (log_slice p) j low)
        ])

    -- ---- by sectors of the disks

    others : (d j : ℕ) → d < x.disks → j < x.sectors d → (j ≢ drive_gate) ⊎ (x.sectors d < arrays_first) → look landings d j ≡ None → i d j ≡ c d j
    others d j there within which none = elim (sliced_at d j) [
      | inr nowhere ↦ off d j there within nowhere
      | inl is ↦ read_at d j is i ∙ by is (cases_eq (slice_of is.slice) 0) (cases_lt gate_sector is.at) (cases_eq is.at 0) ∙ sym (read_at d j is c)
    ]
      where
        unwritten : (is : IsSliced v d j []) → (IsLogPart is.slice is.at → ⊥) → e is.slice is.at ≡ held is.slice is.at
        unwritten is part = other is.slice is.at is.within part (sym (look_at d j is) ∙ none)

        by : (is : IsSliced v d j []) → (slice_of is.slice ≡ 0) ⊎ (slice_of is.slice ≡ 0 → ⊥) → (gate_sector < is.at) ⊎ (is.at ≤ gate_sector) → (is.at ≡ 0) ⊎ (is.at ≡ 0 → ⊥)
            → e is.slice is.at ≡ held is.slice is.at
        by is (inr member) upto zero = unwritten is (λ part. member part.0)
        by is (inl log) (inl more) zero =
            subst (λ k. is.at < sectors_of v k → e k is.at ≡ held k is.at) (log_of_place is.slice log) (half (place_of is.slice) is.at more) is.within
        by is (inl log) (inr upto) (inl zero) = unwritten is (λ part. (let some = part.1 in omega (arith, some, zero)))
        by is (inl log) (inr upto) (inr some) =
            let at : is.at ≡ gate_sector = omega (arith, upto, some) in
            absurd (elim which [
              | inl no_gate ↦ no_gate (gate_at d j is log at)
              | inr short ↦ (let room = long d j is log in omega (arith, short, room))
            ])

    -- the state's sector of a disk is the first one of a log slice
    module _ (d : ℕ) (is : IsSliced v d state_sector []) where
      first_at : (log_slice (place_of is.slice) ≡ is.slice) × (is.at ≡ 0)
      first_at = let at = log_at d state_sector is (omega arith) in (log_of_place is.slice at.0, (let same = at.1 in omega (arith, same)))

      move : (f : ℕ → ℕ → List ℕ) → f is.slice is.at ≡ f (log_slice (place_of is.slice)) 0
      move f = ap₂ f (sym first_at.0) first_at.1

      log_there : 0 < sectors_of v (log_slice (place_of is.slice))
      log_there = subst (λ k. 0 < sectors_of v k) (sym first_at.0) (some d state_sector is)

      copy_look : look landings d state_sector ≡ look l.pending (log_slice (place_of is.slice)) 0
      copy_look = look_at d state_sector is ∙ ap₂ (look l.pending) (sym first_at.0) first_at.1

      copy_read : (f : Image) → f d state_sector ≡ sliced v f (log_slice (place_of is.slice)) 0
      copy_read f = read_at d state_sector is f ∙ move (sliced v f)

    copies : (d : ℕ) → d < x.disks → state_sector < x.sectors d → (i d state_sector ≡ c d state_sector) ⊎ (look landings d state_sector ≡ Some (i d state_sector))
    copies d there within = elim (sliced_at d state_sector) [
      | inr nowhere ↦ inl (off d state_sector there within nowhere)
      | inl is ↦ elim (copy_or (place_of is.slice) (log_there d is)) [
        | inl same ↦ inl (copy_read d is i ∙ same ∙ sym (copy_read d is c))
        | inr new ↦ inr (copy_look d is ∙ new ∙ ap Some (sym (copy_read d is i)))
      ]
    ]

    gates_kept : StandsAmid l.pending (slices_of v w) e → AreGatesKept disks c i
    gates_kept amid d there within = elim (sliced_at d drive_gate) [
      | inr nowhere ↦ off d drive_gate there within nowhere
      | inl is ↦
          let at = log_at d drive_gate is (omega arith) in
          let more : 0 < is.at = (let same = at.1 in omega (arith, same)) in
          read_at d drive_gate is i
          ∙ subst (λ k. is.at < sectors_of v k → e k is.at ≡ held k is.at) (log_of_place is.slice at.0)
          (λ low. old (log_slice (place_of is.slice)) is.at (e (log_slice (place_of is.slice)) is.at) low (amid.parts (place_of is.slice) is.at more (live (log_slice (place_of is.slice)) is.at low)))
          is.within
          ∙ sym (read_at d drive_gate is c)
    ]

    all_written : AreWritten l.pending (slices_of v w) e → AreAllWritten disks landings i
    all_written done d j b there within has = elim (sliced_at d j) [
      | inl is ↦ read_at d j is i ∙ done.all is.slice is.at b (sym (look_at d j is) ∙ has) is.within
      | inr nowhere ↦
          absurd (none-some b (sym (look_nowhere v l.pending d j (λ k q inside disk sector. nowhere [] (record { slice = k; at = q; within = inside; disk_is = disk; sector_is = sector })))
          ∙ ap (λ xs. look xs d j) (sym targets) ∙ has))
    ]

    -- ---- the state that stands

    copy_place : (p : ℕ) → (e (log_slice p) 0 ≡ held (log_slice p) 0) ⊎ ((0 < sectors_of v (log_slice p)) × (look l.pending (log_slice p) 0 ≡ Some (e (log_slice p) 0)))
    copy_place p = elim (cases_lt 0 (sectors_of v (log_slice p))) [
      | inr none ↦ inl (sliced_outside v i (log_slice p) 0 none ∙ sym (sliced_outside v c (log_slice p) 0 none))
      | inl low ↦ elim (copy_or p low) [ inl same ↦ inl same | inr new ↦ inr (low, new) ]
    ]

    stands : (state_in e ≡ Some s0) ⊎ (state_in e ≡ Some s)
    stands =
        state_either s0 s e held state (elim next [ inl same ↦ (let epoch = ap (λ (z : State). z.epoch) same in omega (arith, epoch)) | inr later ↦ omega (arith, later) ])
        (λ p low. elim (copy_place p) [
          | inl same ↦ inl same
          | inr new ↦ inr (record { own = p; copy = own p (e (log_slice p) 0) new.1; drive = refl })
        ])

    -- a copy of the state is in none that stand for an earlier one
    not_before : (f : Image) (p : ℕ) → p < 16 → state_in f ≡ Some s0 → decoded (f (log_slice p) 0) ≡ Ok (record { state = s; own = p }) → s ≡ s0
    not_before f p few is has = elim next [
      | inl same ↦ same
      | inr later ↦ (let low = state_latest s0 f p (record { state = s; own = p }) is few (ap result_ok has) in absurd (omega (arith, later, low)))
    ]

    -- ---- where the state stands that the record is for

    module _ (now : state_in e ≡ Some s) where
      few : length s.drives.items ≤ 16
      few = few_in e s now

      places : deciding e ≡ current_places s
      places = ap (λ (o : Option State). option_map_or current_places o []) now

      small : (p : ℕ) → names (current_places s) p ≡ true → p < 16
      small p named =
          let current = (names_filter (is_current s) (range_with_len 0 16) p (sym (ap (λ ps. names ps p) (current_of_all s few)) ∙ named)).1 in
          range_below 0 16 p current

      abbrev logs : Image
      logs = logs_of disks (drive_of s disks ids) i

      gates : (p : ℕ) → names (current_places s) p ≡ true → logs (log_slice p) gate_sector ≡ e (log_slice p) gate_sector
      gates p named = shown i p gate_sector (small p named)

      records : (a : GateAt) → pending_at (current_places s) e ≡ Some a → record_in logs a.place a.gate.number ≡ record_in e a.place a.gate.number
      records a at = ap (record_of a.gate.number) (λ j q. shown i a.place q (small a.place (pending_named (current_places s) e a at).0) j)

      pends_now : pending (current_places s) logs ≡ pending (deciding e) e
      pends_now = pending_by logs e (current_places s) gates records ∙ ap (λ ps. pending ps e) (sym places)

      whole_now : damaged_log (current_places s) logs ≡ None
      whole_now = whole_by logs e (current_places s) gates records (ap (λ ps. damaged_log ps e) (sym places) ∙ replays.whole)

      brought : (s ≡ s0) ⊎ IsCopyWritten disks landings i → StandsBrought disks s0 s l.pending c i
      brought copied = record {
        copied = copied;
        gates = elim mid [ inl amid ↦ inl (gates_kept amid) | inr done ↦ inr (all_written done) ];
        pends = elim mid [
          | inl amid ↦ inl (pends_now ∙ can.same e amid)
          | inr done ↦ elim done.pends [ inl same ↦ inl (pends_now ∙ same) | inr idle ↦ inr (all_written done, pends_now ∙ idle) ]
        ];
        whole = whole_now;
      }

    -- ---- both together

    -- a copy that is written
    written_at : (p : ℕ) → 0 < sectors_of v (log_slice p) → look l.pending (log_slice p) 0 ≡ Some (e (log_slice p) 0) → IsCopyWritten disks landings i
    written_at p low new =
        let first : first_of v (log_slice p) + 0 ≡ state_sector = (let at = log_first parts (log_slice p) (omega arith) low in omega (arith, at)) in
        let is : IsSliced v (disk_of v (log_slice p)) state_sector [] = record { slice = log_slice p; at = 0; within = low; disk_is = refl; sector_is = sym first } in
        record {
          disk = disk_of v (log_slice p);
          there = subst (λ n. disk_of v (log_slice p) < n) parts.reads.stays.disks (disk_below v w (log_slice p) 0 parts.orderly parts.inside low);
          room = subst (λ n. n < x.sectors (disk_of v (log_slice p))) first
              (subst (λ n. first_of v (log_slice p) + 0 < n) (parts.reads.stays.sectors (disk_of v (log_slice p))) (sector_below v w (log_slice p) 0 parts.inside low));
          copy = look_at (disk_of v (log_slice p)) state_sector is ∙ new ∙ ap Some (sym (read_at (disk_of v (log_slice p)) state_sector is i));
        }

    -- all copies are as they were
    kept : ((p : ℕ) → p < 16 → e (log_slice p) 0 ≡ held (log_slice p) 0) → (AreStatesKept disks c i × AreGatesKept disks c i) ⊎ StandsBrought disks s0 s l.pending c i
    kept olds = elim mid [
      | inl amid ↦ inl (states, gates_kept amid)
      | inr done ↦
          let same : s ≡ s0 = elim copy [
            | inl same ↦ same
            | inr some ↦
                let low = in_slice (log_slice some.0) some.2 in
                let few : some.0 < 16 = omega (arith, low) in
                not_before held some.0 few state
                (ap decoded (sym (olds some.0 few) ∙ done.all (log_slice some.0) 0 some.1 some.3 some.2) ∙ own some.0 some.1 some.3)
          ] in
          inr (brought (now ∙ ap Some (sym same)) (inl same))
    ]
      where
        states : AreStatesKept disks c i
        states d there within = elim (sliced_at d state_sector) [
          | inr nowhere ↦ off d state_sector there within nowhere
          | inl is ↦ copy_read d is i ∙ olds (place_of is.slice) (place d state_sector is).0 ∙ sym (copy_read d is c)
        ]

        now : state_in e ≡ Some s0
        now = state_same e held all ∙ state
          where
            all : (p : ℕ) → e (log_slice p) 0 ≡ held (log_slice p) 0
            all p = elim (cases_lt p 16) [
              | inl few ↦ olds p few
              | inr past ↦
                  let none : sectors_of v (log_slice p) ≡ 0 = past_none parts (log_slice p) (omega (arith, past)) in
                  sliced_outside v i (log_slice p) 0 (omega (arith, none)) ∙ sym (sliced_outside v c (log_slice p) 0 (omega (arith, none)))
            ]

    says : (AreStatesKept disks c i × AreGatesKept disks c i) ⊎ StandsBrought disks s0 s l.pending c i
    says =
        elim (each_or (λ p. e (log_slice p) 0 ≡ held (log_slice p) 0)
        ((p : ℕ) × (p < 16) × (0 < sectors_of v (log_slice p)) × (look l.pending (log_slice p) 0 ≡ Some (e (log_slice p) 0))) (range_with_len 0 16)
        (λ p among. elim (copy_place p) [ inl same ↦ inl same | inr new ↦ inr (p, range_below 0 16 p among, new.0, new.1) ])) [
          | inl olds ↦ kept (λ p few. olds p (names_range 0 16 p (omega arith) (omega (arith, few))))
          | inr new ↦
              let has = own new.0 (e (log_slice new.0) 0) new.3 in
              let now : state_in e ≡ Some s = elim stands [ inl before ↦ before ∙ ap Some (sym (not_before e new.0 new.1 before has)) | inr now ↦ now ] in
              inr (brought now (inr (written_at new.0 new.2 new.3)))
        ]

    pub stands_replaying : StandsReplaying disks s0 s l.pending c i
    stands_replaying = record { others = others; copies = copies; says = says }

  -- At each moment of the replay, and of the reads before it.
  pub midway_leaves : x.traced → Leaves x y (StandsReplaying disks s0 s l.pending c)
  midway_leaves traced =
      let P : Image → Type 0 = StandsReplaying disks s0 s l.pending c in
      let after = parts.reads.stays.traced traced in
      let stops = parts.apart.stops after in
      let reads : (i : Image) → IsPick x w x.held i → P i = λ i pick.
      still_stands disks s0 s l.pending c i
      (λ d j there within.
      single d j there within (i d j)
      (pick d j (record {
        disk = subst (λ n. d < n) (sym parts.reads.stays.disks) there;
        sector = subst (λ n. j < n) (sym (parts.reads.stays.sectors d)) within;
        is_told = told d there;
        unspent = parts.reads.stays.lasts lasts.lasting d j (lasts.unspent d j);
      }))) in
      leaves_then P (leaves_weaker (IsPick x w x.held) P reads (parts.reads.keeps.stops traced))
      (record {
        later = stops.later;
        kept = stops.kept;
        past = stops.past;
        new = λ k i since until stop.
            let inside : IsInside (sectors_of v) (sliced v i) = λ p j past. sliced_outside v i (log_slice p) j past in
            stands_replaying i
            (λ d j there within nowhere.
            let disk = subst (λ n. d < n) (sym parts.reads.stays.disks) there in
            let sector = subst (λ n. j < n) (sym (parts.reads.stays.sectors d)) within in
            elim (stops.new k i since until stop d j (record {
              disk = subst (λ n. d < n) (sym parts.apart.stays.disks) disk;
              sector = subst (λ n. j < n) (sym (parts.apart.stays.sectors d)) sector;
              is_told = parts.reads.stays.told d (told d there);
              unspent = parts.apart.stays.lasts (parts.reads.stays.lasting lasts.lasting) d j (parts.reads.stays.lasts lasts.lasting d j (lasts.unspent d j));
            })) [
              | inl may ↦ one_value parts free told lasts single u of d j (i d j) disk sector may
              | inr is ↦ absurd (nowhere (i d j) is)
            ])
            ((parts.call.midway after can).new k (sliced v i) since until (i, stop, λ d j. refl) inside)
            ((parts.call.stops after can).new k (sliced v i) since until (i, stop, λ d j. refl) inside);
      })

-- by the record that was found
pub brought_midway : {x w y : RackView} {known : List Known} {s : State} {t v : Slices} {on unread closing lost : List ℕ} {l : LogView}
    (parts : OnDrives x w y known s t v on unread closing lost l) (free : IsUnfaulted x y) (told : AllTold x) (lasts : IsLasting x) (single : AreSingle x)
    (u : Slices) (of : AreOfDrives x (seat_by s known) u) → AreOf (disks_of x) (identities_of (disks_of x) (now_in x)) known → list_all is_target l.pending ≡ true
    → (s0 : State) (t0 : Slices) (on0 : List ℕ) (is_pending : Bool) → IsLaid x known s0 t0 on0 → FindsAll x t0 on0 l is_pending None
    → BringsState x known s0 s l on0 (reading (slices_of t0 x)) → state_in (sliced u (now_in x)) ≡ Some s0
    → x.traced → Leaves x y (StandsReplaying (disks_of x) s0 s l.pending (now_in x))
brought_midway {x} {w} {y} {known} {s} {t} {v} {on} {unread} {closing} {lost} {l} parts free told lasts single u of are valid s0 t0 on0 is_pending laid finds brings state =
    midway_leaves parts free told lasts single u of are valid
    (brought_can parts free told lasts single u of s0 t0 on0 is_pending laid finds brings state) s0
    (state_same (sliced v (now_in x)) (sliced u (now_in x)) (λ p. sym (same_logs parts free told lasts single u of (now_in x) p 0)) ∙ state)
    brings.next brings.copies
    (elim brings.copy [
      | inl same ↦ inl same
      | inr some ↦ inr (brings.at.place, some.0, source_there parts free told lasts single u of s0 t0 on0 is_pending laid finds brings state, some.1)
    ])
