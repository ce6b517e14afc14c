-- What a stop inside calls of a pool in service leaves is refused for an excused reason alone: its drives keep all their parts.
--
-- `calls_reopen` says it of calls that write slices alone. It asks for the pool's slices and its drives' tables (`HoldTabled`) by the slices of the calls: for a pool in
-- service these are there (`slices_by`), and `vacant_lies` gives them where a place whose drive is missing has no disk any more.
use Rattle.std.proofs.Common.{◌≡◌, ◌⊎◌, ℕ, suc, ◌+◌, ◌<◌, ◌≤◌, ◌&&◌, ◌||◌, not, Bool, true, false, nat_lt, if◌then◌else◌, is_some, List, [], Option, Some, None, option_map, unwrap_or, refl, sym, ap, ap₂, subst, ◌∙◌, inl, inr, lt-ltb, arith}
use Rattle.std.specs.Option.{option_and_then, option_map_or}
use Rattle.std.specs.Result.{result_ok}
use Rattle.std.proofs.lemmas.Bool.{both_ways, cases_Bool}
use Rattle.std.proofs.lemmas.Option.{none-some}
use Rattle.rack.specs.Seen.{Image, RackView}
use Rattle.rack.specs.Sequences.{WritesOnly}
use Rattle.rack.specs.Targets.{look}
use Rattle.slice_rack.specs.Runs.{IsSliced}
use Rattle.slice_rack.specs.Slices.{Slices, seat_of as slice_seat, sectors_of}
use Rattle.slice_rack.specs.Sliced.{sliced, slices_of as slices_shown}
use Rattle.gpt_table.specs.declared.Table.{Table}
use Rattle.gpt_table.specs.Changes.{the_table}
use Rattle.md_super.specs.declared.superblock.Super.{Super}
use Rattle.pool_state.specs.declared.contents.Copied.{Copied}
use Rattle.pool_state.specs.declared.contents.State.{State}
use Rattle.array_image.specs.Arrays.{Shape, replayed}
use Rattle.array_image.specs.Left.{IsLeft}
use Rattle.array_image.specs.Places.{arrays_first, data_sector, log_slice, member_slice, state_sector}
use Rattle.array_image.specs.Record.{is_bad_gate}
use Rattle.array_image.specs.States.{is_current}
use Rattle.array_core.proofs.Stripped.{some_same}
use Rattle.array_model.specs.View.{shape_of as shape_by_book}
use Rattle.log_laws.proofs.Kept.{put_none}
use Rattle.lvm_group.specs.Runs.{Linear}
use Rattle.pool_image.specs.Alike.{drive_gate, is_bad_block}
use Rattle.pool_image.specs.Disks.{Identities, identities_of, newest}
use Rattle.pool_image.specs.Drives.{Found, extent_from, extent_of, first_of, found, slices_of, truth_from}
use Rattle.pool_image.specs.Meaning.{Refusal, damage_of, dirty_degraded, first_damaged, has_log, has_slice_of, has_table, is_dirty_degraded, is_member, is_table, joined_arrays, refusal_of, shape_of}
use Rattle.pool_image.specs.Replay.{Extent, Standing, standing, standing_by, written}
use Rattle.pool_image.specs.Volumes.{first_bad}
use Rattle.pool_image.proofs.Identities.{seat_inside}
use Rattle.pool_image.proofs.Rested.{gate_block, stood_by}
use Rattle.pool_rest.specs.Moments.{StandsReplaying, landed_on}
use Rattle.pool_rest.specs.Resting.{seated_state}
use Rattle.pool_rest.specs.SoundLogs.{IsSoundLog}
use Rattle.pool_rest.proofs.Midway.{still_stands}
use Rattle.pool_rest.proofs.MidwayDisks.{copied_or, seats_written, tables_now, written_gate}
use Rattle.pool_rest.proofs.MidwayPool.{found_was, gates_early, was, whole_early}
use Rattle.raid_laws.specs.Agreeing.{HasOwnRows, SayTruth}
use Rattle.raid_laws.specs.Book.{OnlyMarksSince, after_then}
use Rattle.raid_laws.specs.Raid.{HasMarkedSeats, IsTracked, Raid, is_failed}
use Rattle.raid_laws.specs.Reach.{KeepsReach, ReachBetween}
use Rattle.raid_laws.specs.Runs.{CrashInvariant}
use Rattle.raid_laws.specs.Since.{AreSince, HasOwnSince}
use Rattle.pool_model.specs.Alone.{AreTabled, HoldTabled, IsTabled}
use Rattle.pool_model.specs.InService.{RunInvariant}
use Rattle.pool_model.specs.Left.{HavePlaces, HaveSlices}
use Rattle.pool_model.specs.Pools.{extent_in}
use Rattle.pool_model.specs.Reopening.{HoldVolume, MayRefuse, NextOpenInCall}
use Rattle.pool_model.specs.Stopped.{AreSlicesNow, RecoversInCall, RecoversBetween}
use Rattle.pool_model.specs.Taken.{LacksDrive}
use Rattle.pool_model.proofs.Amid.{moments_since, nothing_past, off_amid, off_more}
use Rattle.pool_model.proofs.Found.{IsFound, few_places, found_is, some_made}
use Rattle.pool_model.proofs.LackingRows.{HasOwnLeft, dirty_rows, leaves_lacking}
use Rattle.pool_model.proofs.Logs.{copied_in, room_in, there_in}
use Rattle.pool_model.proofs.Named.{id_same}
use Rattle.pool_model.proofs.Said.{AreInside}
use Rattle.pool_model.proofs.Seats.{nowhere}
use Rattle.pool_model.proofs.Undamaged.{none_absent, slice_alike, table_alike}
use Rattle.pool_model.proofs.Unrefused.{no_damage, no_damages, refused_so}
use Rattle.pool_model.proofs.Vacant.{slices_now, sliced_before}
use Rattle.pool_model.proofs.WereThere.{HadThere, book_there, supers_there}

-- ---- what is known of the pool

-- The pool that contents have: its state came of another, and each of its current places has the drive that it had, by slices.
record IsNow (f : Found) (t : Slices) (v : State) (g : Found) : Type 0 where
  after : OnlyMarksSince v g.state
  seats : (p : ℕ) → is_current g.state p ≡ true → g.seats p ≡ f.seats p
  slices : HaveSlices g t

-- a slice of an array that is there has sectors
some_sectors : (g : Found) (n : ℕ) (e : Extent) → extent_of g (suc n) ≡ Some e → 0 < e.sectors
unfolding extent_of
some_sectors g n e is = of (first_of g n) is
  where
    by : (first : ℕ) (o : Option Super) → option_map (λ (u : Super). record { first = first; sectors = data_sector + u.size }) o ≡ Some e → 0 < e.sectors
    by first None at = absurd (none-some e at)
    by first (Some u) at =
        let same : data_sector + u.size ≡ e.sectors = ap (λ (k : Extent). k.sectors) (some_same (record { first = first; sectors = data_sector + u.size }) e at) in
        omega (arith, same)

    of : (o : Option ℕ) → option_and_then (extent_from g n) o ≡ Some e → 0 < e.sectors
    of None at = absurd (none-some e at)
    of (Some first) at = by first (truth_from g n first) at

module _ (f : Found) (t : Slices) (v : State) (i : Image) (begun : OnlyMarksSince f.state v) (had : AreSlicesNow f t v) (inside : AreInside f t)
    (since : AreSince v (sectors_of t) (sliced t i))
    (s0 : State) (stands : standing f.disks i ≡ Some (standing_by f.disks i s0)) (newest_is : newest f.disks (identities_of f.disks i) ≡ Some s0)
    (log : IsSoundLog f.disks i (standing_by f.disks i s0) (seated_state (standing_by f.disks i s0).targets s0)) where
  abbrev before : Standing
  before = standing_by f.disks i s0

  abbrev s : State
  s = seated_state (standing_by f.disks i s0).targets s0

  abbrev ids : Identities
  ids = identities_of f.disks i

  -- the disks with the record written
  abbrev w : Image
  w = written f.disks (standing_by f.disks i s0) i

  mid : StandsReplaying f.disks s0 (seated_state (standing_by f.disks i s0).targets s0) (standing_by f.disks i s0).targets i i
  mid = still_stands f.disks s0 s before.targets i i (λ d k there within. refl)

  abbrev g : Found
  g = was f.disks i i s0 newest_is log mid

  found_now : found f.disks i ≡ Some g
  found_now = found_was f.disks i i s0 newest_is log mid stands

  is_found : IsFound g
  is_found = (found_is f.disks i g found_now).0

  -- a sector that no target lands on stays, and a copy of the state stays or is the one that lands there
  others : (d k : ℕ) → look (landed_on f.disks s before.targets i) d k ≡ None → w d k ≡ i d k
  others d k none = put_none f.disks.sectors (landed_on f.disks s before.targets i) i d k none

  copies : (d : ℕ) → state_sector < f.disks.sectors d
      → (w d state_sector ≡ i d state_sector) ⊎ (look (landed_on f.disks s before.targets i) d state_sector ≡ Some (w d state_sector))
  copies d within = of (look (landed_on f.disks s before.targets i) d state_sector) refl
    where
      of : (o : Option (List ℕ)) → look (landed_on f.disks s before.targets i) d state_sector ≡ o
          → (w d state_sector ≡ i d state_sector) ⊎ (look (landed_on f.disks s before.targets i) d state_sector ≡ Some (w d state_sector))
      of None none = inl (others d state_sector none)
      of (Some u) is =
          inr (is ∙ ap Some (sym (
          ap (λ b. if b then unwrap_or (look (landed_on f.disks s before.targets i) d state_sector) (i d state_sector) else i d state_sector) (lt-ltb state_sector (f.disks.sectors d) within)
          ∙ ap (λ (o : Option (List ℕ)). unwrap_or o (i d state_sector)) is)))

  module _ (is : IsNow f t v g) where
    -- ---- a drive of a current place

    module _ (p d : ℕ) (now : is_current g.state p ≡ true) (seat : g.seats p ≡ Some d) where
      before_call : is_current v p ≡ true
      before_call = is.after.current p now

      seat_before : f.seats p ≡ Some d
      seat_before = sym (is.seats p now) ∙ seat

      there : d < f.disks.count
      there = seat_inside s f.disks g.identities p d seat

      on_place : slice_seat t p ≡ Some d
      on_place = is.slices.seats p d seat

      -- it has all of its log slice
      room : arrays_first ≤ f.disks.sectors d
      room = room_in g t i inside p d on_place (is.slices.logs p d seat)

      -- it says a state since the call began
      own : HasOwnSince v p (sliced t i (log_slice p) 0)
      own = (since p (few_places g is_found p now) (there_in g t i inside p d on_place (is.slices.logs p d seat))).own before_call

      own_copied : (ids d).copied ≡ Some own.copy
      own_copied = copied_in g t i inside p d on_place (is.slices.logs p d seat) ∙ ap result_ok own.is

      copied_now : is_some (g.identities d).copied ≡ true
      copied_now = elim (copied_or f.disks i w s0 newest_is log (λ e k below within which none. others e k none) (λ e below within. copies e within) d there) [
        | inl same ↦ ap is_some (same ∙ own_copied)
        | inr new ↦ ap is_some new.1.1
      ]

      -- ---- its table

      few : (n : ℕ) → n < g.state.made → n < 16
      few n low = (let most = (some_made g is_found).1 in omega (arith, low, most))

      made_same : g.state.made ≡ f.state.made
      made_same = is.after.same.made ∙ begun.same.made

      low_now : (n : ℕ) → n < f.state.made → n < g.state.made
      low_now n low = (let made = made_same in omega (arith, low, made))

      -- it was a member of the arrays that it is a member of
      member_before : (n : ℕ) → n < f.state.made → is_member g n p ≡ true → is_member f n p ≡ true
      member_before n low member = elim (cases_Bool (is_member f n p)) [
        | inl was ↦ was
        | inr past ↦
            let size = had.others n p (few n (low_now n low)) (ap₂ (λ a b. a && b) (lt-ltb n f.state.made low) past) in
            let some = some_sectors g n (extent_in t (member_slice p n)) (is.slices.members n p d (low_now n low) seat member) in absurd (omega (arith, size, some))
      ]

      wants_same : (table : Table) (k n : ℕ) → n < f.state.made
          → (not (is_member g n p) || has_slice_of g k table (n + 1)) ≡ (not (is_member f n p) || has_slice_of f k table (n + 1))
      wants_same table k n low = of (is_member g n p) (is_member f n p) refl refl
        where
          of : (a b : Bool) → is_member g n p ≡ a → is_member f n p ≡ b
              → (not (is_member g n p) || has_slice_of g k table (n + 1)) ≡ (not (is_member f n p) || has_slice_of f k table (n + 1))
          of false false none past = ap (λ a. not a || has_slice_of g k table (n + 1)) none ∙ sym (ap (λ a. not a || has_slice_of f k table (n + 1)) past)
          of true true member was =
              ap₂ (λ a b. not a || b) (member ∙ sym was)
              (slice_alike f g table k n (is.slices.members n p d (low_now n low) seat member ∙ sym (had.members n p d low before_call seat_before was)))
          of true false member past = absurd (both_ways (is_member f n p) past (member_before n low member))
          of false true none was =
              (let size = is.slices.others n p (low_now n low) none in
              let some = some_sectors f n (extent_in t (member_slice p n)) (had.members n p d low before_call seat_before was) in absurd (omega (arith, size, some)))

      table_now : IsTabled f p (f.disks.sectors d) (i d) → has_table g p d ≡ true
      table_now tabled =
          ap (λ o. option_map_or (is_table g p (f.disks.sectors d)) o false)
          (tables_now f.disks i w s0 newest_is log (λ e k below within which none. others e k none) (λ e below within. copies e within) d there)
          ∙ table_alike f g p (f.disks.sectors d) (id_same f.state g.state (after_then f.state v g.state begun is.after).same p) made_same
          (λ table. wants_same table (f.disks.sectors d)) (the_table (f.disks.sectors d) (i d))
          ∙ tabled

      -- ---- its log

      gate_good : is_bad_gate (slices_of g) p ≡ false
      gate_good =
          ap is_bad_block (gate_block g p
          ∙ ap (λ o. option_map_or (λ e. if nat_lt drive_gate (f.disks.sectors e) then w e drive_gate else []) o []) seat
          ∙ ap (λ (b : Bool). if b then w d drive_gate else []) (lt-ltb drive_gate (f.disks.sectors d) within)
          ∙ written_gate f.disks i i s0 newest_is log d within)
          ∙ gates_early f.disks i i s0 newest_is log mid (λ e below within. refl) (λ e below within. refl) p d (sym (seats_written f.disks i i s0 newest_is log p) ∙ seat) room
        where
          within : drive_gate < f.disks.sectors d
          within = (let long = room in omega (arith, long))

      log_now : has_log g p ≡ true
      log_now = ap₂ (λ a b. not a && not b) gate_good (whole_early f.disks i i s0 newest_is log mid (λ e below within. refl) (λ e below within. refl) p)

    -- such a drive keeps all its parts, where the members on its place were there
    whole_on : (p d : ℕ) → is_current g.state p ≡ true → g.seats p ≡ Some d → IsTabled f p (f.disks.sectors d) (i d)
        → ((n : ℕ) → n < f.state.made → is_member f n p ≡ true → HadThere g p n) → damage_of g p ≡ None
    whole_on p d now seat tabled stood =
        no_damage g p d seat (record {
          table = table_now p d now seat tabled;
          copy = copied_now p d now seat;
          log = log_now p d now seat;
          supers =
              supers_there g is_found p now
              (λ n low member.
              let made = made_same p d now seat in
              let less : n < f.state.made = omega (arith, low, made) in
              stood n less (member_before p d now seat n less member));
        })

    none_damaged : HavePlaces g.state g → AreTabled f (λ d. Unit {0}) v i → ((p n : ℕ) → is_current g.state p ≡ true → n < f.state.made → HadThere g p n) → first_damaged g ≡ None
    none_damaged present tabled stood =
        no_damages g
        (λ p now.
        let drive = present p now in
        whole_on p drive.0 now drive.1 (tabled p drive.0 (seat_before p drive.0 now drive.1) (inl (before_call p drive.0 now drive.1))) (λ n low member. stood p n now low))

    -- a drive's copy is of the pool
    own_pool : (p d : ℕ) (copy : Copied) → g.seats p ≡ Some d → (ids d).copied ≡ Some copy → copy.state.pool ≡ g.state.pool
    own_pool p d copy seat here = elim (cases_Bool (is_current g.state p)) [
      | inr past ↦ absurd (none-some d (sym (nowhere s f.disks g.identities p past) ∙ seat))
      | inl now ↦
          ap (λ (z : Copied). z.state.pool) (some_same copy (own p d now seat).copy (sym here ∙ own_copied p d now seat))
          ∙ (own p d now seat).after.same.pool ∙ sym is.after.same.pool
    ]

    excused_now : HavePlaces g.state g → AreTabled f (λ d. Unit {0}) v i → ((p n : ℕ) → is_current g.state p ≡ true → n < f.state.made → HadThere g p n) → (book : Raid)
        → ((n : ℕ) → n < g.state.made → is_dirty_degraded g n ≡ true → MayRefuse book g (dirty_degraded n)) → first_bad (joined_arrays g) ≡ None
        → (why : Refusal) → refusal_of f.disks i ≡ Some why → MayRefuse book g why
    excused_now present tabled stood book dirty good why at = elim (refused_so g (MayRefuse book g) (λ other. other) (λ n low lacks. lacks) dirty (none_absent g present) good why i stands found_now log.pool own_pool at) [
      | inl excused ↦ excused
      | inr wants ↦ absurd (none-some why (sym (none_damaged present tabled stood) ∙ wants))
    ]

-- ---- a stop inside calls

-- Contents that hold a pool still, between two states, have one by which the record that is pending is written, so what follows of that is so of it.
between_by : (f : Found) (t : Slices) (v u : State) (i : Image) (begun : OnlyMarksSince f.state v) (had : AreSlicesNow f t v) (inside : AreInside f t) (since : AreSince v (sectors_of t) (sliced t i))
    → (between : RecoversBetween f t v u i) (P : Found → Type 0)
    → ((s0 : State) (stands : standing f.disks i ≡ Some (standing_by f.disks i s0)) (newest_is : newest f.disks (identities_of f.disks i) ≡ Some s0)
    (log : IsSoundLog f.disks i (standing_by f.disks i s0) (seated_state (standing_by f.disks i s0).targets s0))
    → IsNow f t v (g f t v i begun had inside since s0 stands newest_is log) → P (g f t v i begun had inside since s0 stands newest_is log))
    → P between.still.now
between_by f t v u i begun had inside since between P each =
    let still = between.still in
    let by = stood_by f.disks i still.logs.before still.logs.stands in
    let stands : standing f.disks i ≡ Some (standing_by f.disks i by.0) = still.logs.stands ∙ ap Some by.2 in
    let log : IsSoundLog f.disks i (standing_by f.disks i by.0) (seated_state (standing_by f.disks i by.0).targets by.0) =
    subst (λ (x : Standing). IsSoundLog f.disks i x (seated_state x.targets x.state)) by.2 still.logs.log in
    let here : g f t v i begun had inside since by.0 stands by.1 log ≡ still.now =
    some_same (g f t v i begun had inside since by.0 stands by.1 log) still.now (sym (found_now f t v i begun had inside since by.0 stands by.1 log) ∙ still.found_is) in
    let is : IsNow f t v still.now = record {
      after = subst (OnlyMarksSince v) (sym still.state) between.later;
      seats = λ q now. still.seats q (subst (λ (z : State). is_current z q ≡ true) still.state now);
      slices = still.slices;
    } in
    subst P here (each by.0 stands by.1 log (subst (IsNow f t v) (sym here) is))

-- Then the drive of a current place that has its table keeps all its parts, if the members on its place were there.
pub between_whole : (f : Found) (t : Slices) (v u : State) (i : Image) → OnlyMarksSince f.state v → AreSlicesNow f t v → AreInside f t → AreSince v (sectors_of t) (sliced t i)
    → (between : RecoversBetween f t v u i) → (p d : ℕ) → is_current between.state p ≡ true → f.seats p ≡ Some d → IsTabled f p (f.disks.sectors d) (i d)
    → ((n : ℕ) → n < f.state.made → is_member f n p ≡ true → HadThere between.still.now p n) → damage_of between.still.now p ≡ None
between_whole f t v u i begun had inside since between p d counts seat tabled stood =
    between_by f t v u i begun had inside since between
    (λ k. is_current k.state p ≡ true → k.seats p ≡ Some d → ((n : ℕ) → n < f.state.made → is_member f n p ≡ true → HadThere k p n) → damage_of k p ≡ None)
    (λ s0 stands newest_is log is now seat_now there. whole_on f t v i begun had inside since s0 stands newest_is log is p d now seat_now tabled there)
    (ap (λ (z : State). is_current z p) between.still.state ∙ counts) (between.still.seats p counts ∙ seat) stood

-- And its copy is of the pool, before the record is replayed.
pub between_own : (f : Found) (t : Slices) (v u : State) (i : Image) → OnlyMarksSince f.state v → AreSlicesNow f t v → AreInside f t → AreSince v (sectors_of t) (sliced t i)
    → (between : RecoversBetween f t v u i) → (p d : ℕ) (copy : Copied) → is_current between.state p ≡ true → f.seats p ≡ Some d → (identities_of f.disks i d).copied ≡ Some copy
    → copy.state.pool ≡ between.still.now.state.pool
between_own f t v u i begun had inside since between p d copy counts seat here =
    between_by f t v u i begun had inside since between (λ k. k.seats p ≡ Some d → copy.state.pool ≡ k.state.pool)
    (λ s0 stands newest_is log is seat_now. own_pool f t v i begun had inside since s0 stands newest_is log is p d copy seat_now here)
    (between.still.seats p counts ∙ seat)

-- the members of a pool's arrays count as far as in the book v at least, and no further than in w
abbrev CountsBetween : Raid → Raid → Found → Type 0
CountsBetween v w g =
    (n : ℕ) (shape : Shape) → n < v.state.made → shape_of g n ≡ Some shape
    → KeepsReach g.state (shape_by_book (v.arrays n)) shape × KeepsReach w.state shape (shape_by_book (w.arrays n))

-- Contents that hold the pool still and mean a volume where they aren't refused, with copies since the calls began, members that count as far as between the books, no rows to resync
-- but the first book's where a member is lacking, and the tables of current places' drives.
pub amid_reopens : (f : Found) (t : Slices) (v w : Raid) (l : Linear) (i : Image) → OnlyMarksSince f.state v.state → HasMarkedSeats v → AreSlicesNow f t v.state → AreInside f t
    → AreTabled f (λ d. Unit {0}) v.state i → AreSince v.state (sectors_of t) (sliced t i)
    → ((n : ℕ) → n < f.state.made → ReachBetween v w n (replayed (sectors_of t) (sliced t i))) → ((n : ℕ) → n < f.state.made → HasOwnLeft v n (replayed (sectors_of t) (sliced t i)))
    → RecoversInCall f t v.state w.state i → HoldVolume f t l i → NextOpenInCall f t l v w i
amid_reopens f t v w l i begun marked had inside tabled since reach left amid volume =
    let still = amid.between.still in
    let by = stood_by f.disks i still.logs.before still.logs.stands in
    let stands : standing f.disks i ≡ Some (standing_by f.disks i by.0) = still.logs.stands ∙ ap Some by.2 in
    let log : IsSoundLog f.disks i (standing_by f.disks i by.0) (seated_state (standing_by f.disks i by.0).targets by.0) =
    subst (λ (x : Standing). IsSoundLog f.disks i x (seated_state x.targets x.state)) by.2 still.logs.log in
    let g : Found = was f.disks i i by.0 by.1 log (mid f t v.state i begun had inside since by.0 stands by.1 log) in
    let found_g : found f.disks i ≡ Some g = found_now f t v.state i begun had inside since by.0 stands by.1 log in
    let here : still.now ≡ g = some_same still.now g (sym still.found_is ∙ found_g) in
    let is : IsNow f t v.state still.now = record {
      after = subst (OnlyMarksSince v.state) (sym still.state) amid.between.later;
      seats = λ p now. still.seats p (subst (λ (z : State). is_current z p ≡ true) still.state now);
      slices = still.slices;
    } in
    let is_now : IsNow f t v.state g = subst (IsNow f t v.state) here is in
    let present : HavePlaces g.state g =
    subst (λ (k : Found). HavePlaces k.state k) here (λ p now. amid.present p (subst (λ (z : State). is_current z p ≡ true) still.state now)) in
    let counts : CountsBetween v w g = subst (CountsBetween v w) here
    (λ n shape low at.
    let made = begun.same.made in
    let less : n < f.state.made = omega (arith, low, made) in
    subst (λ (z : State). KeepsReach z (shape_by_book (v.arrays n)) shape × KeepsReach w.state shape (shape_by_book (w.arrays n))) (sym still.state)
    (reach n less amid.between.state shape still.is_state (sym (still.shapes n less) ∙ at))) in
    let stood : (p n : ℕ) → is_current g.state p ≡ true → n < f.state.made → HadThere g p n =
    λ p n now low.
    let made = begun.same.made in
    let less : n < v.state.made = omega (arith, low, made) in
    record {
      was = shape_by_book (v.arrays n);
      keeps = λ shape at. (counts n shape less at).0;
      there = book_there v marked n p less (is_now.after.current p now);
    } in
    let dirty : (n : ℕ) → n < g.state.made → is_dirty_degraded g n ≡ true → MayRefuse v g (dirty_degraded n) =
    subst (λ (k : Found). (n : ℕ) → n < k.state.made → is_dirty_degraded k n ≡ true → MayRefuse v k (dirty_degraded n)) here
    (λ n low lacks. (
      lacks,
      λ young.
          let made = is.after.same.made in
          let first = begun.same.made in
          let less : n < f.state.made = omega (arith, low, made, first) in
          dirty_rows f t amid.between.state i still v n less (left n less) lacks young,
    )) in
    let same : g ≡ volume.now = some_same g volume.now (sym found_g ∙ volume.found_is) in
    record {
      volume = volume;
      reach = subst (CountsBetween v w) same counts;
      excused =
          subst (λ (k : Found). (why : Refusal) → refusal_of f.disks i ≡ Some why → MayRefuse v k why) same
          (excused_now f t v.state i begun had inside since by.0 stands by.1 log is_now present tabled stood v dirty
          (subst (λ (k : Found). first_bad (joined_arrays k) ≡ None) (sym same) volume.lies.sound));
    }

-- So it is with stops inside calls that write slices alone, of a pool by slices that lie as those of its current places, where the arrays are told when calls begin, its superblocks say
-- the book's truths then, whose rows are the arrays' own, and none is over when they end.
pub calls_reopen : (f : Found) (t : Slices) (v w : Raid) (x y : RackView) (l : Linear) → OnlyMarksSince f.state v.state → HasMarkedSeats v → AreSlicesNow f t v.state → AreInside f t
    → HoldTabled f v.state t x → x.lasting → WritesOnly x y (IsSliced t) → CrashInvariant v w (slices_shown t x) (slices_shown t y)
    → ((n : ℕ) → n < f.state.made → IsTracked v (slices_shown t x) n) → ((n : ℕ) → n < f.state.made → is_failed w n ≡ false)
    → ((n : ℕ) (r : Image) → n < f.state.made → IsLeft (slices_shown t x) r → SayTruth (v.arrays n) v.state r n) → ((n : ℕ) → n < f.state.made → HasOwnRows (v.arrays n))
    → x.traced → (k : ℕ) (i : Image) → x.clock < k → k ≤ y.clock → y.stops k i → RecoversInCall f t v.state w.state i → HoldVolume f t l i → NextOpenInCall f t l v w i
calls_reopen f t v w x y l begun marked had inside tabled lasting only keeps told lasts truths own traced k i late early stop amid volume =
    amid_reopens f t v w l i begun marked had inside (tabled i (off_amid t x y lasting only traced k i late early stop))
    (((moments_since v w (slices_shown t x) (slices_shown t y) keeps (told 0 first) (lasts 0 first)).leaves traced).new k (sliced t i) late early (i, stop, λ d s. refl) (nothing_past t i))
    (λ n low. (keeps.reach n (told n low) (lasts n low) traced).new k (sliced t i) late early (i, stop, λ d s. refl)) left amid volume
  where
    -- of an array that lacks a member the stop leaves no rows to resync but the book's
    left : (n : ℕ) → n < f.state.made → HasOwnLeft v n (replayed (sectors_of t) (sliced t i))
    left n low = record {
      is_array = (own n low).is_array;
      frame = (keeps.frames n (told n low) (lasts n low) traced).new k (sliced t i) late early (i, stop, λ d s. refl);
      from = λ young.
          let before = leaves_lacking v (slices_shown t x) n (told n low) (keeps.still n (lasts n low)) (λ r at. truths n r low at) (own n low) young in
          ((keeps.lacking n (told n low) (lasts n low) before).leaves traced).new k (sliced t i) late early (i, stop, λ d s. refl) (nothing_past t i);
    }

    first : 0 < f.state.made
    first =
        let still = amid.between.still in
        let some = (some_made still.now (found_is f.disks i still.now still.found_is).0).0 in
        let now : still.now.state.made ≡ amid.between.state.made = ap (λ (z : State). z.made) still.state in
        let later = amid.between.later.same.made in
        let made = begun.same.made in
        omega (arith, some, now, later, made)

-- its slices and tables, where a place whose drive is missing has no disk any more
pub vacant_lies : (f : Found) (t u : Slices) (v : Raid) (x : RackView) (place : ℕ) → RunInvariant f t v x → LacksDrive f t u v place x → HoldTabled f v.state t x
    → AreSlicesNow f u v.state × HoldTabled f v.state u x
vacant_lies f t u v x place is lacks tabled = (
  slices_now t u place lacks.vacated f is.slices v.state lacks.missing is.arranged.made.1,
  λ i off. tabled i (off_more t u x (sliced_before t u place lacks.vacated) i off),
)
