-- What an array that was told keeps while a drive is taken in, and what stops leave meanwhile.
use Rattle.std.proofs.Common.{◌≡◌, ◌≢◌, ◌⊎◌, ℕ, ◌+◌, ◌-◌, ◌<◌, ◌≤◌, ◌^◌, ◌==◌, Bool, true, false, ◌||◌, List, [], ◌∷◌, length, Ok, Some, refl, sym, ap, ap₂, subst, ◌∙◌, inl, inr, arith}
use Rattle.rack.specs.Values.{MayLeave, Values}
use Rattle.rack.specs.Seen.{Image, IsLive, RackView, SameRack}
use Rattle.rack.specs.Moments.{Leaves}
use Rattle.rack.specs.Joins.{leaves_then, leaves_weaker, live_second, stays_then}
use Rattle.rack.specs.Sequences.{IsMix, OnlyReads, WritesOnly}
use Rattle.gpt_table.specs.declared.Table.{Table}
use Rattle.gpt_table.specs.Disk.{now_on}
use Rattle.gpt_table.specs.Plans.{IsOfTable}
use Rattle.slice_rack.specs.Slices.{IsOrderly, Slices, first_of, place_of, seat_of, sectors_of}
use Rattle.slice_rack.specs.Sliced.{sliced, slices_of}
use Rattle.slice_rack.specs.Runs.{IsSliced}
use Rattle.pool_state.specs.declared.contents.Plan.{Plan}
use Rattle.pool_state.specs.declared.contents.State.{State}
use Rattle.array_image.specs.Arrays.{replayed}
use Rattle.array_image.specs.Held.{IsSynced}
use Rattle.array_image.specs.Left.{IsInside}
use Rattle.array_image.specs.Places.{log_sectors, log_slice, slice_of, state_sector}
use Rattle.array_image.specs.Record.{gate_sector}
use Rattle.array_image.specs.States.{is_current, state_in}
use Rattle.array_model.specs.ArrayCalls.{IncludesSpent}
use Rattle.array_model.specs.View.{View, shape_of, spent_in}
use Rattle.array_model.proofs.Keeping.{live_on}
use Rattle.log_laws.specs.Kept.{LogInvariant}
use Rattle.log_laws.specs.Saying.{RecoversTo}
use Rattle.log_laws.proofs.Kept.{place_of_log}
use Rattle.log_laws.proofs.HeldCopies.{kept_holds}
use Rattle.raid_laws.specs.Vacated.{DiffersAt, vacated}
use Rattle.raid_laws.specs.Book.{after_same}
use Rattle.raid_laws.specs.Enlisting.{FindsEach, HasNoCopy, IsEnlisted, IsNewLog, IsOpenDisk, JoinsEach, JoinsPart, KeepsTold, HoldsLaid, HoldsTable, SaysBy, SaysFormer, SaysJoining, SaysLatter, SaysReplacing, SaysLaying, SettlesWhole, enlisted, next_drive, with_drive}
use Rattle.raid_laws.specs.Laws.{live_parts}
use Rattle.raid_laws.specs.Frames.{Frame, HasFrame, KeepsFrame, frame_of}
use Rattle.raid_laws.specs.Logs.{LogsBetween}
use Rattle.raid_laws.specs.Losses.{has_other}
use Rattle.raid_laws.specs.Marking.{SaysBetween}
use Rattle.raid_laws.specs.Moves.{IsTrackedInCall, IsHeeded, IsSet, ChangesNoData, SubCall}
use Rattle.raid_laws.specs.NewDrive.{IsOfDrive, LaysDrive, SeatsDrive, first_laid, gate_at, sectors_laid}
use Rattle.raid_laws.specs.Rows.{KeepsRows, LeavesFrom, LeavesRows, from_lower}
use Rattle.raid_laws.specs.Raid.{IsTracked, Raid, InvariantInCall, held_in, is_failed, spent_of}
use Rattle.raid_laws.specs.Since.{AreJoinSince, AreSince, AreTakenSince, KeepsJoinSince, KeepsTakenSince}
use Rattle.raid_laws.proofs.Apart.{moves_quiet, reads_apart, seat_is}
use Rattle.raid_rack.proofs.LayingDrive.{copy_agrees, in_disk, of_copy}
use Rattle.raid_rack.proofs.Enlisted.{current_enlisted}
use Rattle.raid_rack.proofs.EnlistReplaced.{found_frame, found_holds, found_leaves, found_rows, found_since}
use Rattle.raid_laws.proofs.Leaving.{leaves_below, leaves_both, leaves_where, sliced_inside}
use Rattle.raid_laws.proofs.Moving.{moves_then, part_says}
use Rattle.raid_laws.proofs.NewSupers.{tells_now}
use Rattle.raid_laws.proofs.Others.{some_other}
use Rattle.raid_laws.proofs.Over.{number_room, or_from}
use Rattle.raid_rack.proofs.Reseated.{reseated_amid, reseated_rows, reseated_settled}
use Rattle.raid_laws.proofs.Since.{kept_since}
use Rattle.raid_rack.proofs.Untouched.{disk_new, disk_still, off_slices}
use Rattle.raid_laws.proofs.Whole.{amid_stood, stood_keeps, stood_own, told_amid}
use Rattle.std.proofs.lemmas.Bool.{cases_Bool, ne_eqb}
use Rattle.array_core.specs.Seats.{losing}
use Rattle.array_core.specs.Superblocks.{is_settled}
use Rattle.array_core.specs.TruthHeld.{HoldTruth}
use Rattle.array_core.proofs.TruthHeld.{hold_tells}
use Rattle.raid_laws.specs.Truths.{JoinsTruths}
use Rattle.raid_rack.proofs.Truths.{tells_loses}

-- a state between one and itself is that one
between_same : (s : State) (n : ℕ) (vals : ℕ → Values) (spent : ℕ → Bool) (r : Image) → s.epoch < 2 ^ 63 - 1 → SaysBetween s s n vals spent r → SaysBy s n vals spent r
between_same s n vals spent r low at =
    let is : s ≡ at.state =
    elim at.sooner.raised [
      | inl same ↦ same
      | inr (inl later) ↦ let up = at.later.epoch in absurd (omega (arith, up, later))
      | inr (inr most) ↦ absurd (omega (arith, low, most))
    ] in
    subst (λ (q : State). SaysBy q n vals spent r) (sym is) (record { is_state = at.is_state; shape = at.shape; says = at.says })

logs_same : (s : State) (sectors : ℕ → ℕ) (c : Image) → s.epoch < 2 ^ 63 - 1 → LogsBetween s s sectors c → RecoversTo s sectors c
logs_same s sectors c low at =
    let is : s ≡ at.state =
    elim at.sooner.raised [
      | inl same ↦ same
      | inr (inl later) ↦ let up = at.later.epoch in absurd (omega (arith, up, later))
      | inr (inr most) ↦ absurd (omega (arith, low, most))
    ] in
    subst (λ (q : State). RecoversTo q sectors c) (sym is) at.says

module _ (arrays : List View) (place disk units : ℕ) (plan : Plan) (joining : ℕ → Bool) (t u : Slices) (v s w : Raid) (a m y b : RackView) (table : Table)
    (orderly : IsOrderly t) (orderly_now : IsOrderly u) (few : place < 16) (free : (p : ℕ) → seat_of t p ≢ Some disk)
    (set : IsSet v (slices_of t a)) (heeded : IsHeeded v) (listed : place < length v.state.drives.items) (size : table.sectors ≡ a.sectors disk)
    (room : 10273 ≤ a.sectors disk) (lays : LaysDrive a m disk table {X = Unit {0}} (Ok tt))
    (settles : SettlesWhole v s (slices_of t m) (slices_of t y)) (two : WritesOnly m y (IsSliced t))
    (seats : SeatsDrive arrays place disk (a.sectors disk) t u) (fit : (slices_of u y).fit)
    (joined : IsEnlisted place units plan joining s w (slices_of u y) (slices_of u b)) (each : is_current v.state place ≡ false → JoinsEach place units plan s w (slices_of u y) (slices_of u b))
    (finds : FindsEach place units plan (vacated place s) w (slices_of u y) (slices_of u b))
    (less : (n k : ℕ) → n < s.state.made → spent_in (w.arrays n) k ≡ false → spent_in (losing (place ∷ []) (s.arrays n)) k ≡ false)
    (three : WritesOnly y b (IsSliced u)) (set_now : IsSet w (slices_of u b)) where
  early : SameRack a y
  early = stays_then lays.only.stays two.stays

  -- the parts before the commit write no slice
  laid_reads : OnlyReads (slices_of t a) (slices_of t m)
  laid_reads = reads_apart t a m disk (IsOfDrive disk table) orderly set.fit.1 lays.only (λ d z k at. at.0) free

  quiet : ChangesNoData v v (slices_of t a) (slices_of t m)
  quiet = moves_quiet v (slices_of t a) (slices_of t m) set laid_reads

  before : ChangesNoData v s (slices_of t a) (slices_of t y)
  before = moves_then v v s (slices_of t a) (slices_of t m) (slices_of t y) quiet settles.moves

  low_now : (n : ℕ) → n < v.state.made → n < s.state.made
  low_now n low = subst (λ (q : State). n < q.made) (sym settles.same) low

  listed_then : place < length s.state.drives.items
  listed_then = subst (λ (q : State). place < length q.drives.items) (sym settles.same) listed

  set_then : IsSet s (slices_of t y)
  set_then = settles.moves.set

  current_then : (p : ℕ) → is_current s.state p ≡ is_current v.state p
  current_then p = ap (λ (q : State). is_current q p) settles.same

  -- ---- the new disk is open

  module _ (opened : IsOpenDisk a disk) where
    opened_now : (z : ℕ) → z < y.sectors disk → IsLive y y disk z
    opened_now z within =
        let live = live_on set.lasting early (opened z (subst (λ k. z < k) (early.sectors disk) within)) in
        record { disk = live.disk; sector = live.sector; is_told = early.told disk live.is_told; unspent = live.unspent }

    differs : DiffersAt place (slices_of t y) (slices_of u y)
    differs = record {
      sectors = λ d other. seats.others d other;
      held = λ d z other. ap₂ (λ e f. y.held e (f + z)) (disk_still arrays place disk (a.sectors disk) t u seats d other) (seats.firsts d other);
      live = λ d z other live. record {
        disk = live.disk;
        sector = subst (λ k. z < k) (sym (seats.others d other)) live.sector;
        is_told = subst (λ e. y.told e) (sym (disk_still arrays place disk (a.sectors disk) t u seats d other)) live.is_told;
        unspent = ap₂ (λ e f. y.spent e (f + z)) (disk_still arrays place disk (a.sectors disk) t u seats d other) (seats.firsts d other) ∙ live.unspent;
      };
      own = λ d z same within.
          let on = disk_new arrays place disk (a.sectors disk) t u seats d same in
          let ends = fit.1.slices d (omega (arith, within)) in
          let length = ap y.sectors on in
          let live = opened_now (first_of u d + z) (omega (arith, ends, length, within)) in
          record {
            disk = omega (arith, same, few);
            sector = within;
            is_told = subst (λ e. y.told e) (sym on) live.is_told;
            unspent = ap (λ e. y.spent e (first_of u d + z)) on ∙ live.unspent;
          };
    }

    -- its log slice
    log_place : place_of (log_slice place) ≡ place
    log_place = place_of_log place

    log_first : first_of u (log_slice place) ≡ state_sector
    log_first =
        let long = seats.own (log_slice place) log_place in
        let zeroth : slice_of (log_slice place) ≡ 0 = omega arith in
        seats.own_firsts (log_slice place) log_place (subst (λ k. 0 < k) (sym (long ∙ ap (sectors_laid arrays place (a.sectors disk)) zeroth)) (omega arith))
        ∙ ap (first_laid arrays) zeroth

    -- settling left the new disk alone
    laid_then : (z : ℕ) (k : List ℕ) → z < a.sectors disk → MayLeave (y.held disk z) k → MayLeave (m.held disk z) k
    laid_then z k within left =
        let live = live_on set.lasting early (opened z within) in
        (two.others disk z (record { disk = live.disk; sector = live.sector; is_told = lays.only.stays.told disk live.is_told; unspent = live.unspent })
        (λ q at. free (place_of at.slice) (seat_is t at.slice at.at orderly at.within ∙ ap Some (sym at.disk_is)))).within k left

    log_size : sectors_of u (log_slice place) ≡ log_sectors
    log_size = seats.own (log_slice place) log_place ∙ ap (sectors_laid arrays place (a.sectors disk)) (let zeroth : slice_of (log_slice place) ≡ 0 = omega arith in zeroth)

    log_held : (z : ℕ) → (slices_of u y).held (log_slice place) z ≡ y.held disk (state_sector + z)
    log_held z = ap₂ (λ e f. y.held e (f + z)) (disk_new arrays place disk (a.sectors disk) t u seats (log_slice place) log_place) log_first

    new_log : IsNewLog place (slices_of u y)
    new_log = record {
      live = λ z within. differs.own (log_slice place) z log_place within;
      state = λ k left.
          lays.cleared (live_on set.lasting lays.only.stays (opened state_sector (omega (arith, room)))) k
          (laid_then state_sector k (omega (arith, room)) (subst (λ h. MayLeave h k) (log_held 0) left));
      gate = λ k left.
          lays.gate (live_on set.lasting lays.only.stays (opened gate_at (omega (arith, room)))) k
          (laid_then gate_at k (omega (arith, room)) (subst (λ h. MayLeave h k) (log_held gate_sector) left));
    }

    -- at each moment from then on it holds its table
    table_at : (c : Image) → IsMix y b (IsSliced u) c → HoldsTable disk table c
    table_at c mix copy =
        copy_agrees copy table (now_on m disk) (c disk)
        (λ z of.
        let of_table : IsOfTable (a.sectors disk) z = subst (λ k. IsOfTable k z) size (of_copy copy table.sectors z of) in
        let within : z < a.sectors disk = in_disk (a.sectors disk) z room of_table in
        let old : MayLeave (y.held disk z) (c disk z) =
        elim (mix disk z (live_second early (live_on set.lasting (stays_then early three.stays) (opened z within)))) [
          | inl was ↦ was
          | inr at ↦ absurd (off_slices arrays place disk (a.sectors disk) t u seats orderly_now room z (c disk z) of_table at)
        ] in
        sym (lays.durable z (live_on set.lasting lays.only.stays (opened z within)) (c disk z) (laid_then z (c disk z) within old)))
        (lays.copies
        (λ z of. live_on set.lasting lays.only.stays (opened z (in_disk (a.sectors disk) z room (subst (λ k. IsOfTable k z) size of)))) copy)

    -- before them, what it held or what is laid on it
    laid_at : (c : Image) → IsMix a m (IsOfDrive disk table) c → HoldsLaid a disk table c
    laid_at c mix z within = mix disk z (live_on set.lasting lays.only.stays (opened z within))

    laid_still : (c : Image) → IsMix m y (IsSliced t) c → HoldsLaid a disk table c
    laid_still c mix z within =
        lays.only.within disk z (c disk z) (live_on set.lasting lays.only.stays (opened z within))
        (elim (mix disk z (live_second lays.only.stays (live_on set.lasting early (opened z within)))) [
          | inl was ↦ was
          | inr at ↦ absurd (free (place_of at.slice) (seat_is t at.slice at.at orderly at.within ∙ ap Some (sym at.disk_is)))
        ])

    -- ---- superblocks

    pub enlisted_truths : JoinsTruths (with_drive place units plan joining s) w (slices_of u y) (slices_of u b)
        → (n : ℕ) → n < v.state.made → HoldTruth (v.arrays n) (slices_of t a) → HoldTruth (w.arrays n) (slices_of u b)
    enlisted_truths joins n low held =
        let now = low_now n low in
        let tells = tells_loses (v.arrays n) (s.arrays n) (slices_of t a) (slices_of t y) set.lasting before.stays (before.arrays n low) (hold_tells (v.arrays n) (slices_of t a) held) in
        joins n now (tells_now place (slices_of t y) (slices_of u y) differs (s.arrays n) (next_drive s.state) (joining n) (set_then.arrays n now).is_array tells)

    -- ---- an array

    module _ (n : ℕ) (low : n < v.state.made) (told : IsTracked v (slices_of t a) n) (other : has_other w.state place ≡ true) where
      abbrev vals : ℕ → Values
      vals = held_in v (slices_of t a) n

      module _ (goes : is_failed w n ≡ false) where
        goes_then : is_failed s n ≡ false
        goes_then = joined.still n (low_now n low) other goes

        covers : IncludesSpent (w.arrays n) (spent_of w n)
        covers k alive = (live_parts w n k alive).1

        covers_then : IncludesSpent (s.arrays n) (spent_of w n)
        covers_then k alive = joined.spent n k (low_now n low) (covers k alive)

        stands : IsTrackedInCall v (slices_of t a) n vals (spent_of w n)
        stands = told_amid v (slices_of t a) n (spent_of w n) heeded told (before.still n low goes_then)
            (λ k alive. or_from (is_failed v n) (spent_in (v.arrays n) k) (before.still n low goes_then) (before.spent n k low (covers_then k alive)))

        part : SubCall v s (slices_of t a) (slices_of t y) n vals vals (spent_of w n)
        part = before.parts n vals (spent_of w n) told.joined low goes_then covers_then

        joined_then : n < s.state.joined
        joined_then = subst (λ (q : State). n < q.joined) (sym settles.same) told.joined

        settled : IsSynced (shape_of (s.arrays n)) n (slices_of t y).held
        settled =
            settles.settled n vals (spent_of w n) low told.joined goes_then covers_then
            ((quiet.parts n vals (spent_of w n) told.joined low (before.still n low goes_then) (λ k alive. before.spent n k low (covers_then k alive))).holds stands)

        early_amid : IsTrackedInCall s (slices_of t y) n vals (spent_of w n)
        early_amid = part.holds stands

        -- ---- stops before the commit

        abbrev clean : Type 0
        clean = LeavesRows v (slices_of t a) n

        abbrev laying : Image → Type 0
        laying = SaysLaying t disk table v w a n vals

        abbrev joining_now : Image → Type 0
        joining_now = SaysJoining t u disk table (enlisted place units plan v.state) v w a n vals

        early_rows : clean → KeepsRows v s (slices_of t a) (slices_of t y) n
        early_rows rows = before.rows n vals (spent_of w n) told.joined low goes_then covers_then stands rows

        abbrev g : Frame
        g = frame_of (v.arrays n).truth

        early_frame : KeepsFrame g n (s.arrays n) (slices_of t a) (slices_of t y)
        early_frame = part.frame g refl stands

        early_leaves : a.traced → Leaves a y laying
        early_leaves traced =
            let Said : Image → Type 0 =
            λ c. IsInside (sectors_of t) c → IsTrackedInCall v (slices_of t a) n vals (spent_of w n) → SaysBetween v.state s.state n vals (spent_of w n) (replayed (sectors_of t) c) in
            let Rows : Image → Type 0 = λ c. IsInside (sectors_of t) c → LeavesFrom (v.arrays n).resync n (replayed (sectors_of t) c) in
            let Logs : Image → Type 0 = λ c. IsInside (sectors_of t) c → LogsBetween v.state s.state (sectors_of t) c in
            let Since : Image → Type 0 = λ c. IsInside (sectors_of t) c → AreSince v.state (sectors_of t) c in
            let Framed : Image → Type 0 = λ c. IsInside (sectors_of t) c → HasFrame g n (replayed (sectors_of t) c) in
            let log = (told.stood (before.still n low goes_then)).log in
            let logs = part.logs (kept_holds v.state v.number (slices_of t a) log) stands in
            leaves_weaker (λ c. HoldsLaid a disk table c × (Since (sliced t c) × (Framed (sliced t c) × (Logs (sliced t c) × (Said (sliced t c) × (clean → Rows (sliced t c))))))) laying
            (λ c at.
            let epoch = (number_room v n (before.still n low goes_then)).1 in
            record {
              laid = at.0;
              says = between_same v.state n vals (spent_of w n) (replayed (sectors_of t) (sliced t c)) (omega (arith, epoch))
                  (subst (λ (q : State). SaysBetween v.state q n vals (spent_of w n) (replayed (sectors_of t) (sliced t c))) settles.same (at.1.1.1.1.0 (sliced_inside t c) stands));
              rows = λ rows. at.1.1.1.1.1 rows (sliced_inside t c);
              since = at.1.0 (sliced_inside t c);
              frame = at.1.1.0 (sliced_inside t c);
              logs = logs_same v.state (sectors_of t) (sliced t c) (omega (arith, epoch))
                  (subst (λ (q : State). LogsBetween v.state q (sectors_of t) (sliced t c)) settles.same (at.1.1.1.0 (sliced_inside t c)));
            })
            (leaves_below t a y (λ c. Since c × (Framed c × (Logs c × (Said c × (clean → Rows c))))) (HoldsLaid a disk table)
            (leaves_then (HoldsLaid a disk table)
            (leaves_weaker (IsMix a m (IsOfDrive disk table)) (HoldsLaid a disk table) laid_at (lays.only.stops traced))
            (leaves_weaker (IsMix m y (IsSliced t)) (HoldsLaid a disk table) laid_still (two.stops (lays.only.stays.traced traced))))
            (leaves_both Since (λ c. Framed c × (Logs c × (Said c × (clean → Rows c))))
            ((logs.since v.state (after_same v.state) (kept_since v.state v.number (slices_of t a) log)).leaves traced)
            (leaves_both Framed (λ c. Logs c × (Said c × (clean → Rows c))) (early_frame.leaves traced)
            (leaves_both Logs (λ c. Said c × (clean → Rows c)) (logs.leaves traced)
            (leaves_where Said Rows clean (part_says v s (slices_of t a) (slices_of t y) n vals vals (spent_of w n) part traced) (λ rows. (early_rows rows).leaves traced))))))

        former_early : (spent : ℕ → Bool) (i : Image) → SaysFormer s (slices_of t y) n vals spent (sectors_of t) (sliced t i)
            → SaysFormer v (slices_of t a) n vals spent (sectors_of t) (sliced t i)
        former_early spent i former = record {
          says = subst (λ (q : State). SaysBy q n vals spent (replayed (sectors_of t) (sliced t i))) settles.same former.says;
          rows = λ rows.
              let first = early_rows rows in
              from_lower (v.arrays n).resync (s.arrays n).resync n (replayed (sectors_of t) (sliced t i)) first.later (former.rows first.after);
          logs = subst (λ (q : State). RecoversTo q (sectors_of t) (sliced t i)) settles.same former.logs;
          since = subst (λ (q : State). AreSince q (sectors_of t) (sliced t i)) settles.same former.since;
          frame = subst (λ f. HasFrame f n (replayed (sectors_of t) (sliced t i))) early_frame.after former.frame;
        }

        -- ---- and in it, where the place's drive was missing

        module _ (missing : is_current v.state place ≡ false) where
          missing_then : is_current s.state place ≡ false
          missing_then = current_then place ∙ missing

          then_amid : IsTrackedInCall s (slices_of u y) n vals (spent_of w n)
          then_amid =
              reseated_amid s (slices_of t y) (slices_of u y) place n vals (spent_of w n) differs set_then settles.heeded missing_then (λ there. new_log.state) (low_now n low) (part.holds stands)

          then_settled : IsSynced (shape_of (s.arrays n)) n (slices_of u y).held
          then_settled = reseated_settled s (slices_of t y) (slices_of u y) place n differs set_then missing_then (low_now n low) settled

          joins_part : JoinsPart place units plan s w (slices_of u y) (slices_of u b) n vals (spent_of w n)
          joins_part =
              each missing new_log other n vals (spent_of w n) (subst (λ (q : State). n < q.joined) (sym settles.same) told.joined) (low_now n low) goes covers then_amid then_settled

          late_rows : clean → KeepsRows s w (slices_of u y) (slices_of u b) n
          late_rows rows =
              joins_part.rows
              (reseated_rows s (slices_of t y) (slices_of u y) place n vals (spent_of w n) differs set_then settles.heeded missing_then (λ there. new_log.state) (low_now n low) (part.holds stands)
              (early_rows rows).after)

          late_frame : KeepsFrame g n (w.arrays n) (slices_of u y) (slices_of u b)
          late_frame = joins_part.frame g early_frame.after

          then_log : LogInvariant s.state s.number (λ p. false) (slices_of u y)
          then_log = (amid_stood s (slices_of u y) n vals (spent_of w n) settles.heeded then_amid).log

          -- the copies of states that stand
          late_since : KeepsJoinSince v.state (enlisted place units plan v.state) (slices_of u y) (slices_of u b)
          late_since =
              subst (λ (q : State). KeepsJoinSince q (enlisted place units plan q) (slices_of u y) (slices_of u b)) settles.same
              (joins_part.since (kept_holds s.state s.number (slices_of u y) then_log) (kept_since s.state s.number (slices_of u y) then_log))

          late_leaves : y.traced → Leaves y b joining_now
          late_leaves traced =
              let Said : Image → Type 0 = λ c. IsInside (sectors_of u) c → SaysBy s.state n vals (spent_of w n) (replayed (sectors_of u) c)
              ⊎ SaysBetween (enlisted place units plan s.state) w.state n vals (spent_of w n) (replayed (sectors_of u) c) in
              let Rows : Image → Type 0 = λ c. IsInside (sectors_of u) c → LeavesFrom (s.arrays n).resync n (replayed (sectors_of u) c) in
              let Logs : Image → Type 0 = λ c. IsInside (sectors_of u) c → RecoversTo s.state (sectors_of u) c
              ⊎ LogsBetween (enlisted place units plan s.state) w.state (sectors_of u) c in
              let Since : Image → Type 0 = λ c. IsInside (sectors_of u) c → AreJoinSince v.state (enlisted place units plan v.state) (sectors_of u) c in
              let Framed : Image → Type 0 = λ c. IsInside (sectors_of u) c → HasFrame g n (replayed (sectors_of u) c) in
              leaves_weaker (λ c. IsMix y b (IsSliced u) c × (Since (sliced u c) × (Framed (sliced u c) × (Logs (sliced u c) × (Said (sliced u c) × (clean → Rows (sliced u c))))))) joining_now
              (λ c at.
              record {
                holds = table_at c at.0;
                says = subst (λ (q : State). SaysBy q n vals (spent_of w n) (replayed (sectors_of u) (sliced u c))
                    ⊎ SaysBetween (enlisted place units plan q) w.state n vals (spent_of w n) (replayed (sectors_of u) (sliced u c))) settles.same (at.1.1.1.1.0 (sliced_inside u c));
                rows = λ rows. from_lower (v.arrays n).resync (s.arrays n).resync n (replayed (sectors_of u) (sliced u c)) (early_rows rows).later (at.1.1.1.1.1 rows (sliced_inside u c));
                since = at.1.0 (sliced_inside u c);
                frame = at.1.1.0 (sliced_inside u c);
                logs = subst (λ (q : State). RecoversTo q (sectors_of u) (sliced u c) ⊎ LogsBetween (enlisted place units plan q) w.state (sectors_of u) (sliced u c))
                    settles.same (at.1.1.1.0 (sliced_inside u c));
              })
              (leaves_below u y b (λ c. Since c × (Framed c × (Logs c × (Said c × (clean → Rows c))))) (IsMix y b (IsSliced u)) (three.stops traced)
              (leaves_both Since (λ c. Framed c × (Logs c × (Said c × (clean → Rows c)))) (late_since.leaves traced)
              (leaves_both Framed (λ c. Logs c × (Said c × (clean → Rows c))) (late_frame.leaves traced)
              (leaves_both Logs (λ c. Said c × (clean → Rows c))
              (joins_part.logs (kept_holds s.state s.number (slices_of u y) then_log) traced)
              (leaves_where Said Rows clean (joins_part.leaves traced) (λ rows. (late_rows rows).leaves traced))))))

        -- ---- and where it was current

        module _ (was : is_current v.state place ≡ true) where
          was_then : is_current s.state place ≡ true
          was_then = current_then place ∙ was

          someone : (p : ℕ) × (is_current s.state p ≡ true) × (p ≢ place)
          someone =
              let at = some_other w.state place other in (
                at.0,
                sym (current_enlisted place units plan s.state at.0 listed_then ∙ ap (λ c. c || is_current s.state at.0) (ne_eqb at.0 place at.2)) ∙ joined.book.current at.0 at.1,
                at.2,
              )

          replaced_amid : IsTrackedInCall w (slices_of u b) n vals (spent_of w n)
          replaced_amid =
              found_holds arrays place disk units plan t u s w y b (a.sectors disk) orderly orderly_now free seats (early.lasting set.lasting) set_then.fit.1 three differs new_log log_size set_then
              settles.heeded listed_then was_then finds other someone less n vals (spent_of w n) joined_then (low_now n low) goes covers early_amid settled

          replaced_frame : frame_of (w.arrays n).truth ≡ g
          replaced_frame =
              found_frame arrays place disk units plan t u s w y b (a.sectors disk) orderly orderly_now free seats (early.lasting set.lasting) set_then.fit.1 three differs new_log log_size set_then
              settles.heeded listed_then was_then finds other someone less n vals (spent_of w n) joined_then (low_now n low) goes covers early_amid settled
              ∙ early_frame.after

          replaced_since : KeepsTakenSince (λ p. p == place) v.state (enlisted place units plan v.state) (slices_of u y) (slices_of u b)
          replaced_since =
              subst (λ (q : State). KeepsTakenSince (λ p. p == place) q (enlisted place units plan q) (slices_of u y) (slices_of u b)) settles.same
              (found_since arrays place disk units plan t u s w y b (a.sectors disk) orderly orderly_now free seats (early.lasting set.lasting) set_then.fit.1 three differs new_log log_size set_then
              settles.heeded listed_then was_then finds other someone less n vals (spent_of w n) joined_then (low_now n low) goes covers early_amid settled)

          replaced_rows : clean → ((v.arrays n).resync ≤ (w.arrays n).resync) × LeavesRows w (slices_of u b) n
          replaced_rows rows =
              let first = early_rows rows in
              let last =
              found_rows arrays place disk units plan t u s w y b (a.sectors disk) orderly orderly_now free seats (early.lasting set.lasting) set_then.fit.1 three differs new_log log_size set_then
              settles.heeded listed_then was_then finds other someone less n vals (spent_of w n) joined_then (low_now n low) goes covers early_amid settled first.after.settled first.after.young in
              (let one = first.later in let two = last.0 in omega (arith, one, two), last.1)

          replaced_leaves : y.traced → Leaves y b (SaysReplacing t u place disk table (enlisted place units plan v.state) v w a n vals)
          replaced_leaves traced =
              let Found : Image → Type 0 = λ i. IsMix y b (IsSliced u) i
              × ((SaysFormer s (slices_of t y) n vals (spent_of w n) (sectors_of t) (sliced t i) × HasNoCopy place (sliced u i) × (state_in (replayed (sectors_of u) (sliced u i)) ≡ Some s.state))
              ⊎ (SaysLatter s.state (enlisted place units plan s.state) s.number w n vals (spent_of w n) (frame_of (s.arrays n).truth) (sectors_of u) (sliced u i)
              × (is_settled (s.arrays n) ≡ true → (s.arrays n).young ≡ false → LeavesFrom (s.arrays n).resync n (replayed (sectors_of u) (sliced u i))))) in
              let Since : Image → Type 0 = λ c. IsInside (sectors_of u) c → AreTakenSince (λ p. p == place) v.state (enlisted place units plan v.state) (sectors_of u) c in
              leaves_weaker (λ i. Found i × Since (sliced u i)) (SaysReplacing t u place disk table (enlisted place units plan v.state) v w a n vals)
              (λ i at. record {
                holds = table_at i at.0.0;
                says = elim at.0.1 [
                  | inl former ↦ inl (former_early (spent_of w n) i former.0, former.1, former.2 ∙ ap Some settles.same)
                  | inr latter ↦
                      inr (
                        subst (λ f. SaysLatter v.state (enlisted place units plan v.state) v.number w n vals (spent_of w n) f (sectors_of u) (sliced u i)) early_frame.after
                            (subst (λ k. SaysLatter v.state (enlisted place units plan v.state) k w n vals (spent_of w n) (frame_of (s.arrays n).truth) (sectors_of u) (sliced u i)) settles.number
                            (subst (λ (q : State). SaysLatter q (enlisted place units plan q) s.number w n vals (spent_of w n) (frame_of (s.arrays n).truth) (sectors_of u) (sliced u i)) settles.same latter.0)),
                        λ rows.
                            let first = early_rows rows in
                            from_lower (v.arrays n).resync (s.arrays n).resync n (replayed (sectors_of u) (sliced u i)) first.later (latter.1 first.after.settled first.after.young),
                      )
                ];
                since = at.1 (sliced_inside u i);
              })
              (leaves_below u y b Since Found
              (found_leaves arrays place disk units plan t u s w y b (a.sectors disk) orderly orderly_now free seats (early.lasting set.lasting) set_then.fit.1 three differs new_log log_size set_then
              settles.heeded listed_then was_then finds other someone less n vals (spent_of w n) joined_then (low_now n low) goes covers early_amid settled traced)
              (replaced_since.leaves traced))

        -- ---- after it

        after_amid : IsTrackedInCall w (slices_of u b) n vals (spent_of w n)
        after_amid = elim (cases_Bool (is_current v.state place)) [ inl was ↦ replaced_amid was | inr missing ↦ (joins_part missing).holds ]

        after_frame : frame_of (w.arrays n).truth ≡ g
        after_frame = elim (cases_Bool (is_current v.state place)) [ inl was ↦ replaced_frame was | inr missing ↦ (late_frame missing).after ]

        after_rows : clean → ((v.arrays n).resync ≤ (w.arrays n).resync) × LeavesRows w (slices_of u b) n
        after_rows rows = elim (cases_Bool (is_current v.state place)) [
          | inl was ↦ replaced_rows was rows
          | inr missing ↦ (
            let one = (early_rows rows).later in let after = (late_rows missing rows).later in omega (arith, one, after),
            (late_rows missing rows).after,
          )
        ]

        after_stood : InvariantInCall w.state (shape_of (w.arrays n)) vals (spent_of w n) (λ p. false) w (slices_of u b) n
        after_stood = amid_stood w (slices_of u b) n vals (spent_of w n) joined.heeded after_amid

        made_after : n < w.state.made
        made_after = subst (λ k. n < k) (sym joined.book.same.made) (low_now n low)

        past_leaves : y.traced → Leaves y b (λ c. Unit {0})
        past_leaves traced = leaves_weaker (IsMix y b (IsSliced u)) (λ c. Unit {0}) (λ c mix. tt) (three.stops traced)

      pub keeps_told : KeepsTold t u place disk units plan table v w a b y.clock n
      keeps_told = record {
        told = record {
          joined = subst (λ k. n < k) (sym (joined.book.same.joined ∙ ap (λ (q : State). q.joined) settles.same)) told.joined;
          stood = λ goes. stood_own w (slices_of u b) n vals joined.heeded set_now (made_after goes) (after_stood goes);
          slices = λ goes. (after_amid goes).slices;
        };
        keeps = λ k alive. stood_keeps w (slices_of u b) n k vals (after_stood (live_parts w n k alive).0) alive;
        before = λ traced goes k c since until stopped.
            (early_leaves goes traced).new k c since until ((past_leaves goes (early.traced traced)).past k c until stopped);
        after = λ missing traced goes. (late_leaves goes missing (early.traced traced)).new;
        replacing = λ was traced goes. (replaced_leaves goes was (early.traced traced)).new;
        framed = λ goes. after_frame goes;
        since = λ missing goes. (late_since goes missing).holds;
        copied = λ was goes. (replaced_since goes was).holds;
        rows = λ goes rows. after_rows goes rows;
      }
