-- The pool that such contents have: nothing is pending in it.
use Rattle.std.proofs.Common.{◌≡◌, ℕ, ◌+◌, ◌≤◌, ◌==◌, ◌&&◌, Bool, true, if◌then◌else◌, List, [], Option, Some, None, option_map, unwrap_or, sym, ap, ap₂, subst, ◌∙◌, inl, inr, le-leb, le-ltb, lt-ltb, arith}
use Rattle.std.specs.Option.{option_and_then, option_map_or}
use Rattle.std.proofs.lemmas.Bool.{cases_lt}
use Rattle.std.proofs.lemmas.Option.{none-some}
use Rattle.rack.specs.Seen.{Image, RackView}
use Rattle.rack.specs.Targets.{Target, look}
use Rattle.slice_rack.specs.Slices.{Slices}
use Rattle.pool_state.specs.declared.contents.State.{State}
use Rattle.array_image.specs.Foremost.{foremost}
use Rattle.array_image.specs.Places.{arrays_first, log_sectors, log_slice, place_of, slice_of, state_sector}
use Rattle.array_image.specs.Record.{GateAt, damaged_log, gate_sector, pending, pending_at, record_in, record_of}
use Rattle.array_image.specs.States.{current_places, is_current}
use Rattle.log_laws.specs.Standing.{deciding}
use Rattle.log_laws.specs.View.{names}
use Rattle.log_laws.proofs.Places.{joins_none}
use Rattle.commit_log.proofs.Replayable.{pending_named}
use Rattle.commit_log.proofs.Restored.{pending_by}
use Rattle.commit_log.proofs.Undamaged.{whole_by}
use Rattle.raid_laws.specs.Raid.{Raid}
use Rattle.raid_laws.proofs.Added.{names_current}
use Rattle.pool_image.specs.Disks.{Identities, Seats, seat_of}
use Rattle.pool_image.specs.Drives.{Found, found, found_by}
use Rattle.pool_image.specs.Replay.{Extent, Standing, brought_state, log_extent, logs_of, standing, standing_by, written}
use Rattle.pool_image.proofs.Rested.{written_none}
use Rattle.pool_rest.specs.SoundLogs.{HasSoundLogs}
use Rattle.pool_model.proofs.Copies.{IsKnown, c, ids, kept, log_many, log_reads, log_room, newest_now, nothing_pending, s, seat_there, seats_now, stands, state_is}

module _ (f : Found) (t : Slices) (v : Raid) (y : RackView) (i : Image) (known : IsKnown f t v y i) where
  abbrev pub book : State
  book = s f t v y i known

  abbrev pub says : Identities
  says = ids f t v y i known

  abbrev pub held : Image
  held = c f t v y i known

  abbrev pub seats : Seats
  seats = seat_of book f.disks says

  abbrev pub logs : Image
  logs = logs_of f.disks seats i

  -- the log slices of current places are those of the tables
  pub log_same : (p u : ℕ) → is_current book p ≡ true → logs (log_slice p) u ≡ held (log_slice p) u
  log_same p u now =
      let one = seat_there f t v y i known p now in
      let d = one.0 in
      let room = log_room f t v y i known p d one.1 now in
      let of_log : slice_of (log_slice p) ≡ 0 = omega arith in
      let of_place : place_of (log_slice p) ≡ p = omega arith in
      let read : Option ℕ → List ℕ = λ o. option_map_or (λ e. option_map_or (λ (k : Extent). i e (k.first + u)) (log_extent (f.disks.sectors e)) []) o [] in
      elim (cases_lt u log_sectors) [
        | inl low ↦
            ap₂ (λ (n : ℕ) (b : Bool). if (n == 0) && b then read (seats (place_of (log_slice p))) else []) of_log (lt-ltb u log_sectors low)
            ∙ ap (λ q. read (seats q)) of_place
            ∙ ap read (seats_now f t v y i known p now ∙ one.1)
            ∙ ap (λ (b : Bool). option_map_or (λ (k : Extent). i d (k.first + u)) (if b then Some (record { first = state_sector; sectors = log_sectors }) else None) [])
            (le-leb arrays_first (f.disks.sectors d) room)
            ∙ sym (log_reads f t v y i known p d one.1 now u low)
        | inr past ↦
            ap₂ (λ (n : ℕ) (b : Bool). if (n == 0) && b then read (seats (place_of (log_slice p))) else []) of_log (le-ltb u log_sectors past)
            ∙ sym (nothing p d u one.1 now past)
      ]
    where
      nothing : (p d u : ℕ) → f.seats p ≡ Some d → is_current book p ≡ true → log_sectors ≤ u → held (log_slice p) u ≡ []
      nothing p d u seat now past =
          known.left.picks.inside (log_slice p) u
          (let many = log_many f t v y i known p d seat now in omega (arith, many, past))

  listed : (p : ℕ) → names (current_places book) p ≡ true → is_current book p ≡ true
  listed p among = sym (names_current book p) ∙ among

  gates : (p : ℕ) → names (current_places book) p ≡ true → logs (log_slice p) gate_sector ≡ held (log_slice p) gate_sector
  gates p among = log_same p gate_sector (listed p among)

  records : (a : GateAt) → pending_at (current_places book) held ≡ Some a → record_in logs a.place a.gate.number ≡ record_in held a.place a.gate.number
  records a at = ap (record_of a.gate.number) (λ j u. log_same a.place u (listed a.place (pending_named (current_places book) held a at).0) j)

  deciding_is : deciding held ≡ current_places book
  deciding_is = ap (λ (o : Option State). option_map_or current_places o []) (state_is f t v y i known)

  abbrev pub stood : Standing
  stood = standing_by f.disks i book

  pub no_targets : stood.targets ≡ []
  no_targets =
      pending_by logs held (current_places book) gates records
      ∙ subst (λ ps. pending ps held ≡ []) deciding_is (nothing_pending f t v y i known)

  pub stands_so : standing f.disks i ≡ Some stood
  unfolding standing
  stands_so = ap (option_map (standing_by f.disks i)) (newest_now f t v y i known)

  -- the pool that is found
  abbrev pub now : Found
  now = record { disks = f.disks; before = stood; contents = i; identities = says; state = book; seats = seats }

  pub found_now : found f.disks i ≡ Some now
  unfolding found
  found_now =
      ap (option_and_then (λ before. found_by f.disks before (written f.disks before i))) stands_so
      ∙ ap (found_by f.disks stood) (written_none f.disks stood i no_targets)
      ∙ ap (option_map (λ (z : State). record { disks = f.disks; before = stood; contents = i; identities = says; state = z; seats = seat_of z f.disks says })) (newest_now f t v y i known)

  -- ---- its logs

  pub logs_whole : damaged_log (current_places book) logs ≡ None
  logs_whole =
      whole_by logs held (current_places book) gates records
      (subst (λ ps. damaged_log ps held ≡ None) deciding_is ((kept f t v y i known).whole held (stands f t v y i known)))

  same_state : unwrap_or (brought_state stood.targets) book ≡ book
  unfolding foremost
  same_state = ap (λ xs. unwrap_or (brought_state xs) book) no_targets

  no_target : (p : ℕ) → look stood.targets (log_slice p) 0 ≡ None
  unfolding look
  no_target p = ap (λ (xs : List Target). look xs (log_slice p) 0) no_targets

  pub sound_logs : HasSoundLogs f.disks i
  sound_logs = record {
    before = stood;
    stands = stands_so;
    log = record {
      whole = logs_whole;
      next = inl same_state;
      pool = ap (λ (z : State). z.pool) same_state;
      copies = λ p u at. absurd (none-some u (sym (no_target p) ∙ at));
      seats = λ p stays. ap (λ (z : State). seat_of z f.disks says p) same_state;
      joining = λ a p d at joins. absurd (joins_none book (unwrap_or (brought_state stood.targets) book) p same_state joins);
    };
  }

  pub idle_now : (before : Standing) → standing f.disks i ≡ Some before → before.targets ≡ []
  idle_now before at = ap (λ (o : Option Standing). option_map_or (λ z. z.targets) o []) (sym at ∙ stands_so) ∙ no_targets
