-- A current place gives way to a new drive: what stops leave from the time on when the slices of the new disk were added, seen from an array that stood over the
-- slices before and is settled.
use Rattle.std.proofs.Common.{◌≡◌, ◌≢◌, ◌⊎◌, ℕ, ◌+◌, ◌<◌, ◌≤◌, ◌==◌, ◌||◌, nat_lt, Bool, true, false, if◌then◌else◌, List, [], ◌∷◌, length, Ok, Some, sym, ap, ap₂, subst, ◌∙◌, inl, inr, eq-eqb, eqb-true, lt-ltb}
use Rattle.std.proofs.lemmas.Bool.{both_ways, cases_eq, ne_eqb}
use Rattle.rack.specs.Values.{MayLeave, Values}
use Rattle.rack.specs.Seen.{Image, RackView}
use Rattle.rack.specs.Moments.{Leaves}
use Rattle.rack.specs.Joins.{leaves_weaker}
use Rattle.rack.specs.Sequences.{IsMix, WritesOnly}
use Rattle.slice_rack.specs.Slices.{IsOrderly, Slices, disk_of, first_of, place_of, seat_of, sectors_of}
use Rattle.slice_rack.specs.Sliced.{IsInside as AreInside, sliced, slices_of}
use Rattle.slice_rack.specs.Laws.{live_below}
use Rattle.slice_rack.specs.Runs.{IsSliced}
use Rattle.pool_state.specs.Sector.{decoded}
use Rattle.pool_state.specs.declared.contents.Copied.{Copied}
use Rattle.pool_state.specs.declared.contents.Plan.{Plan}
use Rattle.pool_state.specs.declared.contents.State.{State}
use Rattle.array_core.specs.Seats.{losing}
use Rattle.array_core.specs.Superblocks.{is_settled}
use Rattle.array_image.specs.Arrays.{replayed}
use Rattle.array_image.specs.Held.{IsSynced}
use Rattle.array_image.specs.Left.{IsInside}
use Rattle.array_image.specs.Places.{log_sectors, log_slice}
use Rattle.array_image.specs.States.{is_current, state_in}
use Rattle.array_model.specs.ArrayCalls.{IncludesSpent}
use Rattle.array_model.specs.View.{View, shape_of, spent_in}
use Rattle.array_model.proofs.Keeping.{live_on}
use Rattle.log_laws.specs.Kept.{LogInvariant}
use Rattle.log_laws.proofs.Kept.{place_of_log}
use Rattle.raid_laws.specs.Enlisting.{FindsEach, FindsPart, HasNoCopy, IsNewLog, SaysFormer, SaysLatter, enlisted}
use Rattle.raid_laws.specs.Frames.{frame_of}
use Rattle.raid_laws.specs.Losses.{has_other}
use Rattle.raid_laws.specs.Moves.{IsTrackedInCall, IsHeeded, IsSet}
use Rattle.raid_laws.specs.NewDrive.{SeatsDrive}
use Rattle.raid_laws.specs.Raid.{Raid, is_failed}
use Rattle.raid_laws.specs.Rows.{LeavesFrom, LeavesRows}
use Rattle.raid_laws.specs.Since.{HoldsTakenSince, IsSince, KeepsTakenSince}
use Rattle.raid_laws.specs.Vacated.{AgreesOff, DiffersAt, FindsArray, IsFormerly, vacated}
use Rattle.raid_laws.proofs.Apart.{seat_is}
use Rattle.raid_rack.proofs.Enlisted.{current_enlisted}
use Rattle.raid_laws.proofs.FormerSays.{former_says}
use Rattle.raid_laws.proofs.Leaving.{leaves_below, sliced_inside}
use Rattle.raid_laws.proofs.ReseatedLogs.{no_copy}
use Rattle.raid_laws.proofs.RetiredArrays.{retired_finds}
use Rattle.raid_rack.proofs.Retiring.{enlisted_vacated}
use Rattle.raid_laws.proofs.Since.{kept_since}
use Rattle.raid_rack.proofs.Untouched.{disk_still}
use Rattle.raid_laws.proofs.Whole.{amid_stood}

module _ (arrays : List View) (place disk units : ℕ) (plan : Plan) (t u : Slices) (s w : Raid) (y b : RackView) (sectors : ℕ)
    (orderly : IsOrderly t) (orderly_now : IsOrderly u) (free : (p : ℕ) → seat_of t p ≢ Some disk) (seats : SeatsDrive arrays place disk sectors t u)
    (lasting : y.lasting) (inside_t : AreInside t y) (three : WritesOnly y b (IsSliced u))
    (differs : DiffersAt place (slices_of t y) (slices_of u y)) (new_log : IsNewLog place (slices_of u y)) (size : sectors_of u (log_slice place) ≡ log_sectors)
    (set : IsSet s (slices_of t y)) (heeded : IsHeeded s) (listed : place < length s.state.drives.items) (was : is_current s.state place ≡ true)
    (finds : FindsEach place units plan (vacated place s) w (slices_of u y) (slices_of u b)) (other : has_other w.state place ≡ true)
    (someone : (p : ℕ) × (is_current s.state p ≡ true) × (p ≢ place))
    (less : (n k : ℕ) → n < s.state.made → spent_in (w.arrays n) k ≡ false → spent_in (losing (place ∷ []) (s.arrays n)) k ≡ false) where
  abbrev x : RackView
  x = slices_of t y

  -- the old disk has no place by the tables after
  unseated : (d k i : ℕ) (value : List ℕ) → place_of d ≡ place → k < sectors_of t d → IsSliced u (disk_of t d) i value → ⊥
  unseated d k i value here within at =
      let old : seat_of t (place_of d) ≡ Some (disk_of t d) = seat_is t d k orderly within in
      let q = place_of at.slice in
      let new : seat_of u q ≡ Some (disk_of t d) = seat_is u at.slice at.at orderly_now at.within ∙ ap Some (sym at.disk_is) in
      elim (cases_eq q place) [
        | inl same ↦
            free (place_of d)
            (old ∙ sym (sym (seats.seats q ∙ ap (λ (c : Bool). if c then Some disk else seat_of t q) (eq-eqb q place same)) ∙ new))
        | inr away ↦
            away
            (orderly.one_place q (place_of d) (disk_of t d)
            (sym (seats.seats q ∙ ap (λ (c : Bool). if c then Some disk else seat_of t q) (ne_eqb q place away)) ∙ new) old
            ∙ here)
      ]

  agrees : (i : Image) → IsMix y b (IsSliced u) i → AgreesOff place x (sliced t i) (sliced u i)
  agrees i mix = record {
    same = λ d k away.
        ap₂ (λ (disk_at : ℕ) (at : ℕ). if nat_lt k (sectors_of t d) then i disk_at (at + k) else []) (sym (disk_still arrays place disk sectors t u seats d away)) (sym (seats.firsts d away))
        ∙ ap (λ long. if nat_lt k long then i (disk_of u d) (first_of u d + k) else []) (sym (seats.others d away));
    own = λ d k here live.
        subst (MayLeave (y.held (disk_of t d) (first_of t d + k)))
        (sym (ap (λ (c : Bool). if c then i (disk_of t d) (first_of t d + k) else []) (lt-ltb k (sectors_of t d) live.sector)))
        (elim (mix (disk_of t d) (first_of t d + k) (live_on lasting three.stays (live_below orderly inside_t live))) [
          | inl old ↦ old
          | inr at ↦ absurd (unseated d k (first_of t d + k) (i (disk_of t d) (first_of t d + k)) here live.sector at)
        ]);
    inside = sliced_inside t i;
  }

  module _ (n : ℕ) (vals : ℕ → Values) (spent : ℕ → Bool) (joined : n < s.state.joined) (low : n < s.state.made) (goes : is_failed w n ≡ false) (covers : IncludesSpent (w.arrays n) spent)
      (amid : IsTrackedInCall s x n vals spent) (settled : IsSynced (shape_of (s.arrays n)) n x.held) where
    found_array : FindsArray s.state (λ p. p == place) place (vacated place s) (slices_of u y) n vals spent
    found_array = retired_finds place x (slices_of u y) differs s n vals spent set heeded low was someone new_log (λ k alive. less n k low (covers k alive)) amid settled

    found : FindsPart place units plan s.state (vacated place s) w (slices_of u y) (slices_of u b) n vals spent
    found = finds new_log other s.state (λ p. p == place) n vals spent joined low goes covers found_array

    pub found_holds : IsTrackedInCall w (slices_of u b) n vals spent
    found_holds = found.holds

    pub found_frame : frame_of (w.arrays n).truth ≡ frame_of (s.arrays n).truth
    found_frame = found.frame

    abbrev next : State
    next = enlisted place units plan s.state

    log : LogInvariant s.state s.number (λ p. false) x
    log = (amid_stood s x n vals spent heeded amid).log

    before : HoldsTakenSince (λ p. p == place) s.state next (slices_of u y)
    before p block few there left = record {
      own = λ old now. let apart = apart_of p old in inl ((at p apart block few there left).own now);
      joins = λ copy how now is. absurd (elim (cases_eq p place) [
        | inl here ↦ none p here block copy left is
        | inr apart ↦ elim how [
          | inl new ↦ apart (eqb-true p place new)
          | inr past ↦
              both_ways (is_current s.state p) past
              (sym (current_enlisted place units plan s.state p listed ∙ ap (λ c. c || is_current s.state p) (ne_eqb p place apart)) ∙ now)
        ]
      ]);
      former = λ copy past gone_now is.
          let apart : p ≢ place = λ here. both_ways (is_current s.state p) past (subst (λ q. is_current s.state q ≡ true) (sym here) was) in
          (at p apart block few there left).former copy past is;
    }
      where
        apart_of : (p : ℕ) → (p == place) ≡ false → p ≢ place
        apart_of p old here = both_ways (p == place) old (eq-eqb p place here)

        off : (p : ℕ) → p ≢ place → place_of (log_slice p) ≢ place
        off p apart here = apart (sym (place_of_log p) ∙ here)

        at : (p : ℕ) → p ≢ place → (block : List ℕ) → p < 16 → 0 < sectors_of u (log_slice p) → MayLeave ((slices_of u y).held (log_slice p) 0) block → IsSince s.state p block
        at p apart block few there left =
            kept_since s.state s.number x log p block few (subst (λ k. 0 < k) (seats.others (log_slice p) (off p apart)) there)
            (subst (λ h. MayLeave h block) (differs.held (log_slice p) 0 (off p apart)) left)

        none : (p : ℕ) → p ≡ place → (block : List ℕ) (copy : Copied) → MayLeave ((slices_of u y).held (log_slice p) 0) block → decoded block ≡ Ok copy → ⊥
        none p here block copy left is = no_copy block copy (new_log.state block (subst (λ q. MayLeave ((slices_of u y).held (log_slice q) 0) block) here left)) is

    pub found_since : KeepsTakenSince (λ p. p == place) s.state next (slices_of u y) (slices_of u b)
    found_since =
        let same : enlisted place units plan (vacated place s).state ≡ next = enlisted_vacated place units plan s.state in
        subst (λ (q : State). HoldsTakenSince (λ p. p == place) s.state q (slices_of u y) → KeepsTakenSince (λ p. p == place) s.state q (slices_of u y) (slices_of u b)) same
        (found.since (λ p. p == place)) before

    -- at each moment
    abbrev Says : Image → Type 0
    Says i = (SaysFormer s x n vals spent (sectors_of t) (sliced t i) × HasNoCopy place (sliced u i) × (state_in (replayed (sectors_of u) (sliced u i)) ≡ Some s.state))
        ⊎ (SaysLatter s.state next s.number w n vals spent (frame_of (s.arrays n).truth) (sectors_of u) (sliced u i)
        × (is_settled (s.arrays n) ≡ true → (s.arrays n).young ≡ false → LeavesFrom (s.arrays n).resync n (replayed (sectors_of u) (sliced u i))))

    pub found_leaves : y.traced → Leaves y b (λ i. IsMix y b (IsSliced u) i × Says i)
    found_leaves traced =
        let same : enlisted place units plan (vacated place s).state ≡ next = enlisted_vacated place units plan s.state in
        let Found : Image → Type 0 = λ e. IsInside (sectors_of u) e → IsFormerly place (slices_of u y) e
        ⊎ (SaysLatter s.state (enlisted place units plan (vacated place s).state) s.number w n vals spent (frame_of (s.arrays n).truth) (sectors_of u) e
        × (is_settled (s.arrays n) ≡ true → (s.arrays n).young ≡ false → LeavesFrom (s.arrays n).resync n (replayed (sectors_of u) e))) in
        leaves_weaker (λ i. IsMix y b (IsSliced u) i × Found (sliced u i)) (λ i. IsMix y b (IsSliced u) i × Says i)
        (λ i at. (
          at.0,
          elim (at.1 (sliced_inside u i)) [
            | inl former ↦
                inl (former_says place x (slices_of u y) differs s n vals spent set heeded low was someone new_log size amid (sliced t i) (sliced u i) (agrees i at.0) former)
            | inr latter ↦
                inr (
                  subst (λ (q : State). SaysLatter s.state q s.number w n vals spent (frame_of (s.arrays n).truth) (sectors_of u) (sliced u i)) same latter.0,
                  latter.1,
                )
          ],
        ))
        (leaves_below u y b Found (IsMix y b (IsSliced u)) (three.stops traced) (found.leaves traced))

    pub found_rows : is_settled (s.arrays n) ≡ true → (s.arrays n).young ≡ false → ((s.arrays n).resync ≤ (w.arrays n).resync) × LeavesRows w (slices_of u b) n
    found_rows = found.rows
