-- A row that is read and changed by one commit keeps the array, and the log.
use Rattle.std.proofs.Common.{◌≡◌, ℕ, ◌+◌, ◌<◌, Bool, true, false, ◌==◌, ◌&&◌, ◌||◌, not, if◌then◌else◌, List, [], ◌∷◌, length, slice_get, Option, Some, None, option_map, unwrap_or, refl, sym, ap, subst, ◌∙◌, inl, inr, eqb-true, ltb-true, arith}
use Rattle.std.proofs.lemmas.Bool.{both_ways, and_from}
use Rattle.std.specs.List.{list_any}
use Rattle.rack.specs.Values.{Values}
use Rattle.rack.specs.Seen.{Image, RackView, IsLive}
use Rattle.rack.specs.Targets.{Target, look}
use Rattle.rack.specs.Sequences.{IsPayload, OnlyReads}
use Rattle.pool_state.specs.declared.contents.State.{State}
use Rattle.array_image.specs.Places.{place_of, log_slice, data_sector}
use Rattle.array_image.specs.States.{is_current}
use Rattle.array_image.specs.Held.{Among, current_in}
use Rattle.array_image.specs.Stripes.{sector_in}
use Rattle.array_image.proofs.Frames.{value_by_data}
use Rattle.array_image.specs.Places.{member_slice}
use Rattle.array_model.specs.Says.{ImageShowsArray, ArrayInvariant}
use Rattle.array_model.specs.ArrayCalls.{IncludesSpent, appended_at}
use Rattle.array_model.specs.Rows.{RowChange, written}
use Rattle.array_model.proofs.Losses.{IsLosing}
use Rattle.array_model.proofs.Moves.{CallRefines, moves_then, moves_by}
use Rattle.array_model.proofs.Opening.{agree_counted}
use Rattle.array_core.proofs.Marking.{says_appended}
use Rattle.md_super.specs.declared.superblock.Super.{Super}
use Rattle.std.specs.Option.{option_map_or}
use Rattle.array_image.specs.Left.{PicksLogs}
use Rattle.array_image.specs.Arrays.{Member, Shape, layout_at, replayed}
use Rattle.array_image.proofs.Replays.{replayed_as_is}
use Rattle.log_laws.specs.View.{LogView, names, next_number}
use Rattle.log_laws.specs.Standing.{IsReady, SomeoneDecides}
use Rattle.log_laws.specs.Commits.{CommitCall}
use Rattle.log_laws.specs.Kept.{LogInvariant, CarriesState, gone_with}
use Rattle.log_laws.proofs.Kept.{brings_nothing, kept_ready, kept_decides, kept_idle}
use Rattle.log_laws.proofs.KeptAfter.{kept_after, kept_keeps}
use Rattle.array_model.specs.declared.Seat.{Seat}
use Rattle.array_model.specs.declared.Seat.TheVariants.{Whole, Missing, Rebuilding}
use Rattle.array_model.specs.View.{View, IsArray, shape_of, spent_in, sectors_of, member_on, place_at, has_gone, seat_reach, is_missing_seat}
use Rattle.array_model.specs.Members.{Notes, slice_on}
use Rattle.array_model.proofs.Firsts.{member_among}
use Rattle.array_model.proofs.Looking.{look_payload}
use Rattle.array_model.proofs.Keeping.{live_on, live_after, keeping_calls}
use Rattle.array_model.proofs.Parts.{is_at_own}
use Rattle.array_model.proofs.Reading.{slice_same}
use Rattle.array_model.proofs.Views.{shape_members}
use Rattle.array_core.specs.Logging.{is_due, StagedRow}
use Rattle.array_core.specs.Pool.{MayLog}
use Rattle.array_core.proofs.LogFrames.{look_nothing}
use Rattle.array_core.proofs.RowCommits.{IsOwnData, logged_moves}
use Rattle.array_core.proofs.RowLists.{own_on}
use Rattle.array_core.specs.Writing.{Base}
use Rattle.array_core.proofs.RowOwed.{RowList, row_owes}

-- the target of a place
any_place : (xs : List Target) (p : ℕ) → list_any (λ x. place_of x.disk == p) xs ≡ true → (d s : ℕ) × (u : List ℕ) × IsPayload xs d s u × (place_of d ≡ p)
any_place [] p is = absurd (both_ways false refl is)
any_place (x ∷ xs) p is = by (place_of x.disk == p) (list_any (λ x. place_of x.disk == p) xs) refl is (λ later. any_place xs p later)
  where
    by : (b rest : Bool) → (place_of x.disk == p) ≡ b → (b || rest) ≡ true
        → (rest ≡ true → (d s : ℕ) × (u : List ℕ) × IsPayload xs d s u × (place_of d ≡ p))
        → (d s : ℕ) × (u : List ℕ) × IsPayload (x ∷ xs) d s u × (place_of d ≡ p)
    by true rest at now later = (x.disk, x.sector, x.bytes, inl (is_at_own x, refl), eqb-true (place_of x.disk) p at)
    by false rest at now later = let one = later now in (one.0, one.1, one.2, inr one.3, one.4)

abbrev pub nobody : ℕ → Bool
nobody place = false

module _ (s : State) (all : Bool) (b0 u w : View) (a b c : RackView) (l : LogView) (on lost : List ℕ)
    (base : Base all b0 u) (is_array : IsArray u) (lasting : a.lasting) (reads : OnlyReads a b) (list : RowList all u l.added)
    (commit : CommitCall l on lost b c) (may : MayLog s b0 w l.number on a) (left : (place : ℕ) → has_gone w place ≡ false → names lost place ≡ false) where
  kept_b : LogInvariant s l.number nobody b
  kept_b = kept_keeps s l.number nobody a b lasting reads.stays reads.keeps may.log

  in_base : (j : ℕ) → j < u.truth.raid_disks → j < b0.truth.raid_disks
  in_base j low = subst (λ (t : Super). j < t.raid_disks) base.same.truth low

  -- a member whose sector is due counts there
  counted : (j : ℕ) → j < u.truth.raid_disks → is_due all u j list.sector ≡ true → list.sector < (member_on b0 j).reach
  counted j low due =
      ltb-true list.sector (member_on b0 j).reach
      (sym (base.due j list.sector (in_base j low) (subst (λ (t : Super). list.sector < t.size) base.same.truth list.low)) ∙ due)

  -- so its place is current
  current_on : (j : ℕ) → j < u.truth.raid_disks → is_due all u j list.sector ≡ true → is_current s (place_at b0 j) ≡ true
  current_on j low due =
      by (slice_get b0.seats j) (may.state.marks j (let inside = in_base j low in let seats = base.is_array.seats in omega (arith, inside, seats)))
      (counted j low due)
    where
      by : (o : Option Seat) → option_map (λ seat. not (is_missing_seat seat)) o ≡ Some (is_current s (place_at b0 j))
          → list.sector < option_map_or (seat_reach b0.truth.size) o 0 → is_current s (place_at b0 j) ≡ true
      by None is counts = cc
      by (Some Whole) is counts = sym (ap (λ o. unwrap_or o true) is)
      by (Some (Rebuilding to)) is counts = sym (ap (λ o. unwrap_or o true) is)
      by (Some Missing) is counts = absurd (omega (arith, counts))

  place_on : (j : ℕ) → place_of (slice_on u j) ≡ place_at b0 j
  place_on j =
      let same = slice_same b0 u j base.same in
      let few = base.is_array.few in
      omega (arith, same, few)

  inside_on : (p : ℕ) → list_any (λ x. place_of x.disk == p) l.added ≡ true → names on p ≡ true
  inside_on p any =
      let one = any_place l.added p any in
      let at = list.on one.0 one.1 one.2 one.3 in
      let place : place_at b0 at.position ≡ p = sym (place_on at.position) ∙ ap place_of (sym at.disk) ∙ one.4 in
      may.places p ∙ ap (λ (k : Bool). k && true) (ap (is_current s) (sym place) ∙ current_on at.position at.low at.own.0)

  pub log_own : IsOwnData b0.number l.added
  log_own = subst (λ n. IsOwnData n l.added) base.same.number (own_on u list.sector _ l.added is_array list.on (λ j v own. own.1))

  no_state : (p : ℕ) → look l.added (log_slice p) 0 ≡ None
  no_state p =
      let Goal : Option (List ℕ) → Type 0 = λ o. look l.added (log_slice p) 0 ≡ o → o ≡ None in
      let goal : Goal (look l.added (log_slice p) 0) = elim (look l.added (log_slice p) 0) as Goal [
        | None ↦ λ is. refl
        | Some v ↦ λ is. let at = (log_own.own (log_slice p) 0 v is).1 in absurd (omega (arith, at))
      ] in
      goal refl

  brings : CarriesState s s l.added on
  brings = brings_nothing s nobody l.added on may.places inside_on no_state

  pub log_ready : IsReady l on b
  log_ready =
      kept_ready s s nobody l on b may.someone.0 kept_b brings may.room (reads.stays.lasting lasting)
      (λ d i v is.
      let at = list.on d i v (look_payload l.added d i v is) in
      let opened = may.opened (member_on b0 at.position) list.sector
      (subst (λ ms. Among (member_on b0 at.position) ms) (sym (shape_members b0)) (member_among b0 at.position b0.truth.raid_disks (in_base at.position at.low))) (counted at.position at.low at.own.0) in
      let live = live_after reads.stays (live_on lasting reads.stays opened) in
      subst (λ e. IsLive b b e i) (sym (at.disk ∙ slice_same b0 u at.position base.same))
      (subst (λ e. IsLive b b (slice_on b0 at.position) e) (sym at.sector) live))
      may.someone.1 refl

  pub log_decides : SomeoneDecides l.added on lost b
  log_decides =
      let p = may.someone.0 in
      kept_decides s s l.number nobody l.added on lost b p kept_b brings may.places
      (and_from (names on p) (not (names lost p)) (may.places p ∙ ap (λ (k : Bool). k && true) may.someone.1) (ap not (left p may.someone.2)))
      may.someone.1

  pub log_kept : LogInvariant s (next_number l.number) (gone_with nobody lost) c
  log_kept = kept_after s s nobody l on lost b c commit kept_b brings may.places log_ready log_decides

  pub log_quiet : (i : Image) → PicksLogs b i → (d t : ℕ) → replayed b.sectors i d t ≡ i d t
  log_quiet i picks d t =
      replayed_as_is b.sectors i d t
      (ap (λ (xs : List Target). look xs d t) (kept_idle s l.number nobody b i kept_b picks (λ p current. refl)) ∙ look_nothing d t)

-- ---- the whole of it

-- what a row owes by some contents it owes by others that members have where they count
change_kept : (shape : Shape) (n resync x : ℕ) (from : List ℕ) (cur now : Image) (xs : List Target)
    → ((m : Member) (t : ℕ) → Among m shape.members → t < m.reach → now (member_slice m.place n) (data_sector + t) ≡ cur (member_slice m.place n) (data_sector + t))
    → RowChange shape n resync x from cur xs → RowChange shape n resync x from now xs
change_kept shape n resync x from cur now xs same change =
    let over : (m : Member) (t : ℕ) → Among m shape.members → t < m.reach → written xs now (member_slice m.place n) (data_sector + t) ≡ written xs cur (member_slice m.place n) (data_sector + t) =
    λ m t among counts. ap (unwrap_or (look xs (member_slice m.place n) (data_sector + t))) (same m t among counts) in
    record {
      alone = change.alone;
      value = λ y alive.
          value_by_data shape (written xs now) (written xs cur) n y (λ m among counts. over m (sector_in (layout_at shape y) y) among counts)
          ∙ change.value y alive
          ∙ ap (λ (v : List ℕ). if y == x then from else v) (sym (value_by_data shape now cur n y (λ m among counts. same m (sector_in (layout_at shape y) y) among counts)));
      even = λ y counts agree.
          agree_counted shape n y (written xs now) (written xs cur) over
          (change.even y counts (agree_counted shape n y cur now (λ m t among counted. sym (same m t among counted)) agree));
    }

-- A row that was read and changed by one commit, whoever went in it.
pub logged_row : (s : State) (all : Bool) (b0 u z w : View) (a b c : RackView) (l : LogView) (on lost : List ℕ) (x : ℕ) (from : List ℕ) (gone : ℕ → Bool)
    → Base all b0 u → IsArray u → a.lasting → x < sectors_of u → length from ≡ 512 → spent_in u x ≡ false
    → OnlyReads a b → Notes u z a b → StagedRow all u z a x from l.added → RowList all u l.added
    → CommitCall l on lost b c → MayLog s b0 w l.number on a
    → IsLosing b0 w gone → ((place : ℕ) → gone place ≡ false → names lost place ≡ false) → (w.went ≡ [] → lost ≡ [])
    → ((place : ℕ) → has_gone w place ≡ false → names lost place ≡ false)
    → (vals : ℕ → Values) (spent : ℕ → Bool) → IncludesSpent w spent
    → CallRefines b0.number a c (ArrayInvariant s (shape_of b0) b0 vals spent a) (ImageShowsArray s b0.number (shape_of b0) (appended_at x from vals) spent) (ArrayInvariant s (shape_of b0) w (appended_at x from vals) spent c)
logged_row s all b0 u z w a b c l on lost x from gone base is_array lasting low wide unspent reads notes row list commit may losing left none left_w vals spent covers =
    let n = b0.number in
    let H : Type 0 = ArrayInvariant s (shape_of b0) b0 vals spent a in
    let Middle : Type 0 = H × ArrayInvariant s (shape_of b0) b0 vals spent b in
    let P : Image → Type 0 = ImageShowsArray s n (shape_of b0) (appended_at x from vals) spent in
    let Q : Type 0 = ArrayInvariant s (shape_of b0) w (appended_at x from vals) spent c in
    let keeps = keeping_calls a b lasting reads.stays reads.keeps s (shape_of b0) b0 vals spent in
    let read : CallRefines n a b H (ImageShowsArray s n (shape_of b0) vals spent) Middle =
    record { stays = keeps.stays; leaves = keeps.leaves; holds = λ h. (h, keeps.holds h); apart = keeps.apart; calm = keeps.calm; bounded = keeps.bounded } in
    let first : CallRefines n a b H P Middle =
    moves_by n a b H H Middle Middle (ImageShowsArray s n (shape_of b0) vals spent) P (λ h. h) (λ r. says_appended s n (shape_of b0) x from vals spent r) (λ q. q) read in
    let second : CallRefines n b c Middle P Q =
    logged_moves s b0 w b c l on lost gone base.is_array base.fresh base.steady commit
    (log_ready s all b0 u w a b c l on lost base is_array lasting reads list commit may left_w)
    (log_decides s all b0 u w a b c l on lost base is_array lasting reads list commit may left_w)
    (log_kept s all b0 u w a b c l on lost base is_array lasting reads list commit may left_w)
    (log_quiet s all b0 u w a b c l on lost base is_array lasting reads list commit may left_w)
    (log_own s all b0 u w a b c l on lost base is_array lasting reads list commit may left_w)
    losing left none vals spent covers x from Middle (λ h. h.1)
    (λ h.
    let g = h.0.shape in
    change_kept (shape_of b0) n b0.resync x from (current_in a.held) (current_in b.held) l.added
    (λ m t among counts. (reads.keeps.held _ _ (live_on lasting reads.stays (g.open_left m t among counts))).current)
    (row_owes all b0 u z a x from base low wide unspent notes.same notes.lost notes.loses (record { opened = g.open_left; sized = g.sized; even = g.even }) l.added row)) in
    moves_then n a b c H Middle Q P lasting (λ d t live other. reads.keeps.held d t live) first second
