-- Contents of a pool at rest that differ in sectors of partition tables alone, where each disk has the table that it had, hold the same pool.
use Rattle.std.proofs.Common.{◌≡◌, ℕ, suc, ◌+◌, ◌<◌, ◌≤◌, ◌&&◌, ◌||◌, not, Bool, true, false, nat_lt, if◌then◌else◌, is_some, List, [], Option, Some, None, option_map, refl, sym, ap, ap₂, subst, ◌∙◌, inl, inr, ltb-true, arith}
use Rattle.std.specs.Option.{option_and_then, option_map_or}
use Rattle.std.specs.Result.{result_ok}
use Rattle.std.proofs.lemmas.Bool.{both_ways, cases_Bool}
use Rattle.std.proofs.lemmas.Option.{none-some}
use Rattle.rack.specs.Seen.{Image}
use Rattle.rack.specs.Targets.{Target, look}
use Rattle.gpt_table.specs.declared.Table.{Table}
use Rattle.md_super.specs.declared.superblock.Super.{Super}
use Rattle.pool_state.specs.declared.contents.Copied.{Copied}
use Rattle.pool_state.specs.declared.contents.State.{State}
use Rattle.pool_state.specs.Sector.{decoded}
use Rattle.array_image.specs.Arrays.{Shape, sectors_by}
use Rattle.array_image.specs.Foremost.{foremost}
use Rattle.array_image.specs.Places.{arrays_first, data_sector, log_slice, member_slice, place_of, state_sector, super_sector}
use Rattle.array_image.specs.Record.{damaged_log, is_bad_gate, is_bad_log, pending}
use Rattle.array_image.specs.States.{current_places, is_current}
use Rattle.array_image.specs.Supers.{is_unclean, super_in}
use Rattle.array_image.proofs.Frames.{super_of_sector}
use Rattle.array_core.proofs.Stripped.{some_same}
use Rattle.raid_laws.specs.Book.{after_same}
use Rattle.raid_laws.specs.Reach.{KeepsReach, reach_same}
use Rattle.log_laws.proofs.Places.{joins_none}
use Rattle.pool_image.specs.Alike.{drive_gate, is_bad_block}
use Rattle.pool_image.specs.Disks.{Disks, Identity, identities_of, newest, seat_of}
use Rattle.pool_image.specs.Drives.{Found, drive_sector, extent_of, found, found_by, slices_from, slices_of, truth_from}
use Rattle.pool_image.specs.Meaning.{array_sectors, arrays_held, damage_of, has_log, has_supers, has_table, is_member, is_table, shape_of, super_at, truth_of}
use Rattle.pool_image.specs.Replay.{Extent, Standing, extent_by, logs_of, standing, standing_by, written}
use Rattle.pool_image.proofs.Founds.{first_behind}
use Rattle.pool_image.proofs.Identities.{newest_same, seat_inside, seat_same}
use Rattle.pool_image.proofs.Rested.{gate_block, stood_by, written_none}
use Rattle.pool_image.proofs.Truths.{extent_found, slice_of_member, slice_sector}
use Rattle.pool_rest.specs.Resting.{seated_state}
use Rattle.pool_rest.specs.SoundLogs.{HasSoundLogs, IsSoundLog}
use Rattle.pool_model.specs.Left.{NoStraySuperblock, HasNoSuper}
use Rattle.pool_model.specs.Openings.{HaveGoodTables, RecoversInOpening, IsButTables, IsIdleIn}
use Rattle.pool_model.specs.Pools.{IsSoundPool}
use Rattle.pool_model.specs.Stopped.{LieApart}
use Rattle.pool_model.proofs.Alike.{HasTruths, extent_same, first_same, member_same, truth_same}
use Rattle.pool_model.proofs.Current.{SameCurrent, SameMembers, array_current, shape_current, sound_current, truth_current}
use Rattle.pool_model.proofs.Found.{found_is, some_made}
use Rattle.pool_model.proofs.Layers.{IsLaid, laid, none_there}
use Rattle.pool_model.proofs.LackingRows.{dirty_unsynced}
use Rattle.pool_model.proofs.NoSuper.{no_super_bare, no_super_in}
use Rattle.pool_rest.proofs.SameLogs.{logs_same}
use Rattle.pool_model.proofs.TableRoom.{log_room, member_room}
use Rattle.pool_model.proofs.Undamaged.{all_below, members_alike}
use Rattle.pool_model.proofs.Unrefused.{no_damage, no_drive, undamaged}

-- the pool of contents in which nothing is pending
abbrev pub pool_at : Disks → Image → State → Found
pool_at disks c s = record {
  disks = disks;
  before = standing_by disks c s;
  contents = c;
  identities = identities_of disks c;
  state = s;
  seats = seat_of s disks (identities_of disks c);
}

-- contents are found so
pub idle_found : (disks : Disks) (c : Image) (s : State) → newest disks (identities_of disks c) ≡ Some s → (standing_by disks c s).targets ≡ []
    → found disks c ≡ Some (pool_at disks c s)
unfolding found standing
idle_found disks c s newest_is none =
    ap (λ o. option_and_then (λ x. found_by disks x (written disks x c)) (option_map (standing_by disks c) o)) newest_is
    ∙ ap (found_by disks (standing_by disks c s)) (written_none disks (standing_by disks c s) c none)
    ∙ ap (option_map (λ (z : State). record { disks = disks; before = standing_by disks c s; contents = c; identities = identities_of disks c; state = z; seats = seat_of z disks (identities_of disks c) })) newest_is

pub idle_stands : (disks : Disks) (c : Image) (s : State) → newest disks (identities_of disks c) ≡ Some s → standing disks c ≡ Some (standing_by disks c s)
unfolding standing
idle_stands disks c s newest_is = ap (option_map (standing_by disks c)) newest_is

-- no target brings another state
seated_none : (s : State) → seated_state [] s ≡ s
unfolding foremost
seated_none s = refl

-- logs in which nothing is pending and none is damaged are sound
pub idle_logs : (disks : Disks) (c : Image) (s : State) → newest disks (identities_of disks c) ≡ Some s → (standing_by disks c s).targets ≡ []
    → damaged_log (current_places s) (standing_by disks c s).logs ≡ None → HasSoundLogs disks c
unfolding look
idle_logs disks c s newest_is none whole =
    let seated : seated_state (standing_by disks c s).targets s ≡ s = ap (λ (xs : List Target). seated_state xs s) none ∙ seated_none s in
    record {
      before = standing_by disks c s;
      stands = idle_stands disks c s newest_is;
      log = subst (λ (z : State). IsSoundLog disks c (standing_by disks c s) z) (sym seated) (record {
        whole = whole;
        next = inl refl;
        pool = refl;
        copies = λ p u at. absurd (none-some u (sym (ap (λ (xs : List Target). look xs (log_slice p) 0) none) ∙ at));
        seats = λ p stays. refl;
        joining = λ a p d at joins seat. absurd (joins_none s s p refl joins);
      });
    }

module _ (disks : Disks) (c i : Image) (s : State) (newest_is : newest disks (identities_of disks c) ≡ Some s) (idle : (standing_by disks c s).targets ≡ [])
    (whole : damaged_log (current_places s) (standing_by disks c s).logs ≡ None) (sound : IsSoundPool (pool_at disks c s)) (tables : HaveGoodTables (pool_at disks c s))
    (but : IsButTables (pool_at disks c s) c i) (alone : NoStraySuperblock (pool_at disks c s) c) (alone_now : NoStraySuperblock (pool_at disks c s) i)
    (apart : LieApart (pool_at disks c s)) where
  abbrev f : Found
  f = pool_at disks c s

  abbrev g : Found
  g = pool_at disks i s

  -- ---- sectors that are no table's

  kept : (d u : ℕ) → d < disks.count → u < disks.sectors d → 34 ≤ u → ((p : ℕ) → f.seats p ≡ Some d → u + 33 < disks.sectors d) → i d u ≡ c d u
  kept d u low within behind before = but.others d u low within (λ of. elim of.at_end [
    | inl first ↦ omega (arith, first, behind)
    | inr last ↦ (let room = before of.place of.seat in omega (arith, last, room))
  ])

  long : (p d : ℕ) → f.seats p ≡ Some d → arrays_first + 32 < disks.sectors d
  long p d seat = log_room f p d (tables p d seat)

  below : (p d : ℕ) → f.seats p ≡ Some d → d < disks.count
  below p d seat = seat_inside s disks f.identities p d seat

  -- ---- what the disks say

  copied : (d : ℕ) → d < disks.count → (identities_of disks i d).copied ≡ (identities_of disks c d).copied
  copied d low = of (nat_lt state_sector (disks.sectors d)) refl
    where
      of : (b : Bool) → nat_lt state_sector (disks.sectors d) ≡ b
          → (if b then result_ok (decoded (i d state_sector)) else None) ≡ (if b then result_ok (decoded (c d state_sector)) else None)
      of true within =
          ap (λ (v : List ℕ). result_ok (decoded v))
          (kept d state_sector low (ltb-true state_sector (disks.sectors d) within) (omega arith) (λ p seat. let room = long p d seat in omega (arith, room)))
      of false past = refl

  ids : (d : ℕ) → d < disks.count → identities_of disks i d ≡ identities_of disks c d
  ids d low = ap₂ (λ (k : Option Copied) (z : Option Table). record { copied = k; table = z }) (copied d low) (but.tables d low)

  newest_now : newest disks (identities_of disks i) ≡ Some s
  newest_now = newest_same disks (identities_of disks i) (identities_of disks c) ids ∙ newest_is

  seats_kept : (p : ℕ) → g.seats p ≡ f.seats p
  seats_kept p = seat_same disks (identities_of disks i) (identities_of disks c) ids s p

  -- ---- logs

  logs_kept : logs_of disks g.seats i ≡ logs_of disks f.seats c
  logs_kept =
      logs_same disks c i f.seats g.seats seats_kept
      (λ p d u seat size low.
      kept d (state_sector + u) (below p d seat) (omega (arith, low, size)) (omega arith) (λ q there. let more = long q d there in omega (arith, more, low)))

  none_now : (standing_by disks i s).targets ≡ []
  none_now = ap (pending (current_places s)) logs_kept ∙ idle

  idle_now : IsIdleIn disks i
  idle_now before at =
      ap (λ (x : Standing). x.targets) (some_same before (standing_by disks i s) (sym at ∙ idle_stands disks i s newest_now)) ∙ none_now

  -- ---- sectors of drives

  drive_kept : (p u : ℕ) → 34 ≤ u → ((d : ℕ) → f.seats p ≡ Some d → u + 33 < disks.sectors d) → drive_sector g p u ≡ drive_sector f p u
  drive_kept p u behind before =
      ap (λ o. option_map_or (λ d. if nat_lt u (disks.sectors d) then i d u else []) o []) (seats_kept p) ∙ of (f.seats p) refl
    where
      of_test : (d : ℕ) → f.seats p ≡ Some d → (b : Bool) → nat_lt u (disks.sectors d) ≡ b → (if b then i d u else []) ≡ (if b then c d u else [])
      of_test d seat true within = kept d u (below p d seat) (ltb-true u (disks.sectors d) within) behind (λ q there. before d seat)
      of_test d seat false past = refl

      of : (o : Option ℕ) → f.seats p ≡ o
          → option_map_or (λ d. if nat_lt u (disks.sectors d) then i d u else []) o [] ≡ option_map_or (λ d. if nat_lt u (disks.sectors d) then c d u else []) o []
      of None seat = refl
      of (Some d) seat = of_test d seat (nat_lt u (disks.sectors d)) refl

  few : f.state.made ≤ 16
  few = (some_made f (found_is disks c f (idle_found disks c s newest_is idle)).0).1

  -- ---- one array

  module _ (n : ℕ) (low : n < f.state.made) where
    small : n < 16
    small = let most = few in omega (arith, low, most)

    abbrev truth : Super
    truth = (sound.rules.arrays n low).0

    truth_before : truth_of f n ≡ Some truth
    truth_before = (sound.rules.arrays n low).1

    lie : IsLaid f n truth
    lie = laid f n truth small truth_before

    abbrev first : ℕ
    first = lie.first

    behind_log : arrays_first ≤ first
    behind_log = first_behind f n first lie.begins

    extent_before : extent_of f (suc n) ≡ Some (record { first = first; sectors = data_sector + truth.size })
    extent_before = extent_found f n first truth lie.begins lie.is

    room : (p d : ℕ) → is_member f n p ≡ true → f.seats p ≡ Some d → first + (data_sector + truth.size) + 32 < disks.sectors d
    room p d member seat = member_room f p d (tables p d seat) n (record { first = first; sectors = data_sector + truth.size }) low member extent_before

    -- a place that is no member has no superblock of the array there
    none_on : (j : Image) → NoStraySuperblock f j → (p : ℕ) → is_member f n p ≡ false
        → HasNoSuper s.pool.0 n (option_map_or (λ d. if nat_lt (first + super_sector) (disks.sectors d) then j d (first + super_sector) else []) (f.seats p) [])
    none_on j is p none = of (f.seats p) refl
      where
        of_test : (d : ℕ) → f.seats p ≡ Some d → (b : Bool) → nat_lt (first + super_sector) (disks.sectors d) ≡ b → HasNoSuper s.pool.0 n (if b then j d (first + super_sector) else [])
        of_test d seat true within = is n p d first low seat none lie.begins (ltb-true (first + super_sector) (disks.sectors d) within)
        of_test d seat false past = no_super_bare s.pool.0 n [] none_there

        of : (o : Option ℕ) → f.seats p ≡ o
            → HasNoSuper s.pool.0 n (option_map_or (λ d. if nat_lt (first + super_sector) (disks.sectors d) then j d (first + super_sector) else []) o [])
        of None seat = no_super_bare s.pool.0 n [] none_there
        of (Some d) seat = of_test d seat (nat_lt (first + super_sector) (disks.sectors d)) refl

    place_is : (p : ℕ) → place_of (member_slice p n) ≡ p
    place_is p = let inside = small in omega (arith, inside)

    none_before : (p : ℕ) → is_member f n p ≡ false → super_in s (slices_from f first) n p ≡ None
    none_before p none =
        no_super_in s (slices_from f first) n p
        (subst (HasNoSuper s.pool.0 n) (sym (ap (λ q. drive_sector f q (first + super_sector)) (place_is p))) (none_on c alone p none))

    none_after : (p : ℕ) → is_member f n p ≡ false → super_in s (slices_from g first) n p ≡ None
    none_after p none =
        no_super_in s (slices_from g first) n p
        (subst (HasNoSuper s.pool.0 n)
        (sym (ap (λ q. drive_sector g q (first + super_sector)) (place_is p)
        ∙ ap (λ o. option_map_or (λ d. if nat_lt (first + super_sector) (disks.sectors d) then i d (first + super_sector) else []) o []) (seats_kept p)))
        (none_on i alone_now p none))

    -- sectors of a member's slice
    sector_kept : (p u : ℕ) → is_member f n p ≡ true → u < data_sector + truth.size → drive_sector g (place_of (member_slice p n)) (first + u) ≡ drive_sector f (place_of (member_slice p n)) (first + u)
    sector_kept p u member within =
        drive_kept (place_of (member_slice p n)) (first + u) (let low = behind_log in omega (arith, low))
        (λ d seat. let end = room p d member (ap f.seats (sym (place_is p)) ∙ seat) in omega (arith, end, within))

    super_from : (p : ℕ) → is_current s p ≡ true → super_in s (slices_from g first) n p ≡ super_in s (slices_from f first) n p
    super_from p counts = elim (cases_Bool (is_member f n p)) [
      | inl member ↦ super_of_sector s (slices_from g first) (slices_from f first) n p (sector_kept p super_sector member (omega arith))
      | inr none ↦ none_after p none ∙ sym (none_before p none)
    ]

    truth_there : truth_from g n first ≡ truth_from f n first
    truth_there = truth_current s (slices_from g first) (slices_from f first) n super_from

  has : (n : ℕ) → n < f.state.made → (u : Super) × (truth_of f n ≡ Some u)
  has n low = (truth n low, truth_before n low)

  has_truths : HasTruths f g
  has_truths n first u low begins is =
      subst (λ k. truth_from g n k ≡ truth_from f n k) (some_same (lie n low).first first (sym (lie n low).begins ∙ begins)) (truth_there n low) ∙ is

  module _ (n : ℕ) (low : n < f.state.made) where
    truth_now : truth_of g n ≡ Some (truth n low)
    truth_now = truth_same f g few has has_truths n low ∙ truth_before n low

    extent_now : extent_of g (suc n) ≡ Some (record { first = (lie n low).first; sectors = data_sector + (truth n low).size })
    extent_now = extent_same f g few has has_truths n low ∙ extent_before n low

    -- a member's slice
    slice_kept : (p u : ℕ) → is_member f n p ≡ true → slices_of g (member_slice p n) u ≡ slices_of f (member_slice p n) u
    unfolding slices_of
    slice_kept p u member =
        let number = slice_of_member p n (small n low) in
        ap (λ o. option_map_or (λ (e : Extent). if nat_lt u e.sectors then slices_from g e.first (member_slice p n) u else []) o []) (ap (extent_of g) number ∙ extent_now)
        ∙ of (nat_lt u (data_sector + (truth n low).size)) refl
        ∙ sym (ap (λ o. option_map_or (λ (e : Extent). if nat_lt u e.sectors then slices_from f e.first (member_slice p n) u else []) o []) (ap (extent_of f) number ∙ extent_before n low))
      where
        of : (b : Bool) → nat_lt u (data_sector + (truth n low).size) ≡ b
            → (if b then slices_from g (lie n low).first (member_slice p n) u else []) ≡ (if b then slices_from f (lie n low).first (member_slice p n) u else [])
        of true within = sector_kept n low p u member (ltb-true u (data_sector + (truth n low).size) within)
        of false past = refl

    -- the superblocks of a slice are those where it lies
    super_of_g : (p : ℕ) → super_in s (slices_of g) n p ≡ super_in s (slices_from g (lie n low).first) n p
    super_of_g p =
        super_of_sector s (slices_of g) (slices_from g (lie n low).first) n p
        (slice_sector g (member_slice p n) super_sector (lie n low).first (data_sector + (truth n low).size) (ap (extent_of g) (slice_of_member p n (small n low)) ∙ extent_now) (omega arith))

    super_of_f : (p : ℕ) → super_in s (slices_of f) n p ≡ super_in s (slices_from f (lie n low).first) n p
    super_of_f p =
        super_of_sector s (slices_of f) (slices_from f (lie n low).first) n p
        (slice_sector f (member_slice p n) super_sector (lie n low).first (data_sector + (truth n low).size) (ap (extent_of f) (slice_of_member p n (small n low)) ∙ extent_before n low) (omega arith))

    supers : SameCurrent s n (slices_of g) (slices_of f)
    supers p counts = super_of_g p ∙ super_from n low p counts ∙ sym (super_of_f p)

    members : SameMembers s n (slices_of g) (slices_of f)
    members p u counts has k = elim (cases_Bool (is_member f n p)) [
      | inl member ↦ slice_kept p k member
      | inr none ↦ absurd (none-some u (sym (super_of_f p ∙ none_before n low p none) ∙ has))
    ]

    pub value_kept : (x : ℕ) → arrays_held g n x ≡ arrays_held f n x
    value_kept x = array_current s (slices_of g) (slices_of f) n supers members x

    pub shape_kept : shape_of g n ≡ shape_of f n
    shape_kept = shape_current s (slices_of g) (slices_of f) n supers

    pub sectors_kept : array_sectors g n ≡ array_sectors f n
    sectors_kept = ap (λ (o : Option Shape). option_map_or sectors_by o 0) shape_kept

  -- ---- the pool

  pub sound_kept : IsSoundPool g
  sound_kept = record {
    rules = record {
      arrays = λ n low. (truth n low, truth_now n low, sound_current s (slices_of g) (slices_of f) n (supers n low) (members n low) (truth n low) (sound.rules.arrays n low).2);
      joined = sound.rules.joined;
      copies = λ d copy low here epoch. sound.rules.copies d copy low (sym (copied d low) ∙ here) epoch;
      epochs = λ p d copy seat here.
          let was = sym (seats_kept p) ∙ seat in
          sound.rules.epochs p d copy was (sym (copied d (below p d was)) ∙ here);
    };
    own = λ n u low is. sound.own n u low (truth_before n low ∙ sym (truth_now n low) ∙ is);
  }

  member_kept : (n p : ℕ) → n < f.state.made → is_member g n p ≡ is_member f n p
  member_kept n p low = member_same f g few has has_truths n low p

  apart_kept : LieApart g
  apart_kept m n p d a b less low seat none member lies there =
      let was : f.seats p ≡ Some d = sym (seats_kept p) ∙ seat in
      apart m n p d a b less low was (sym (member_kept m p (omega (arith, less, low))) ∙ none) (sym (member_kept n p low) ∙ member)
      (ap (λ (z : Identity). extent_by (disks.sectors d) z.table (suc m)) (sym (ids d (below p d was))) ∙ lies)
      (extent_before n low ∙ sym (extent_now n low) ∙ there)

  alone_kept : NoStraySuperblock g i
  alone_kept n p d first low seat none begins within =
      alone_now n p d first low (sym (seats_kept p) ∙ seat) (sym (member_kept n p low) ∙ none) (sym (first_same f g few has has_truths n (omega (arith, low))) ∙ begins) within

  -- a drive that has all its parts keeps them
  module _ (p d : ℕ) (counts : is_current s p ≡ true) (seat : f.seats p ≡ Some d) where
    table_kept : has_table g p d ≡ has_table f p d
    table_kept =
        ap (λ (z : Identity). option_map_or (is_table g p (disks.sectors d)) z.table false) (ids d (below p d seat))
        ∙ members_alike f g p (disks.sectors d) refl refl (λ n low. member_kept n p low) (λ n low. extent_now n low ∙ sym (extent_before n low)) (f.identities d).table

    gate_kept : is_bad_gate (slices_of g) p ≡ is_bad_gate (slices_of f) p
    gate_kept =
        ap is_bad_block (gate_block g p ∙ drive_kept p drive_gate (omega arith)
        (λ e there. let room = long p e there in omega (arith, room)) ∙ sym (gate_block f p))

    log_kept : has_log g p ≡ has_log f p
    log_kept = ap₂ (λ a (logs : Image). not a && not (is_bad_log (current_places s) logs p)) gate_kept logs_kept

    supers_kept : has_supers g p ≡ has_supers f p
    supers_kept =
        all_below (λ n. not (is_member g n p) || is_some (super_at g n p)) (λ n. not (is_member f n p) || is_some (super_at f n p)) 0 f.state.made
        (λ n low. ap₂ (λ a o. not a || is_some o) (member_kept n p (omega (arith, low))) (supers n (omega (arith, low)) p counts))

    whole_kept : damage_of f p ≡ None → damage_of g p ≡ None
    whole_kept none =
        let fine = undamaged f p d seat none in
        no_damage g p d (seats_kept p ∙ seat)
        (record {
          table = table_kept ∙ fine.table;
          copy = ap is_some (copied d (below p d seat)) ∙ fine.copy;
          log = log_kept ∙ fine.log;
          supers = supers_kept ∙ fine.supers;
        })

  parts_kept : (p : ℕ) → is_current s p ≡ true → damage_of f p ≡ None → (o : Option ℕ) → f.seats p ≡ o → damage_of g p ≡ None
  parts_kept p counts none None free = no_drive g p (seats_kept p ∙ free)
  parts_kept p counts none (Some d) seat = whole_kept p d counts seat none

  pub tables_hold : RecoversInOpening f 0 i
  tables_hold = record {
    now = g;
    found_is = idle_found disks i s newest_now none_now;
    sound = sound_kept;
    logs = idle_logs disks i s newest_now none_now (ap (damaged_log (current_places s)) logs_kept ∙ whole);
    after = after_same s;
    plan = refl;
    marks = λ p counts past. absurd (both_ways (is_current s p) past counts);
    seats = λ p counts. seats_kept p;
    values = λ n x low from inside. value_kept n low x;
    apart = apart_kept;
    alone = alone_kept;
    stops = inl idle_now;
    sectors = sectors_kept;
    reach = λ n before left low was is. subst (KeepsReach s before) (some_same before left (sym was ∙ sym (shape_kept n low) ∙ is)) (reach_same (is_current s) before);
    unsynced = λ n low dirty. ap (λ (o : Option Super). option_map_or is_unclean o false) (truth_before n low ∙ sym (truth_now n low)) ∙ dirty_unsynced g n dirty;
    parts = λ p counts none. parts_kept p counts none (f.seats p) refl;
    one_pool = λ had d copy there here. had d copy there (sym (copied d there) ∙ here);
  }

-- A pool that was found on the disks, with nothing pending and sound logs, is the one of these contents.
pub record IsIdlePool (disks : Disks) (c : Image) (f : Found) : Type 0 where
  pub state : State
  pub newest_is : newest disks (identities_of disks c) ≡ Some state
  pub none : (standing_by disks c state).targets ≡ []
  pub whole : damaged_log (current_places state) (standing_by disks c state).logs ≡ None
  pub same : pool_at disks c state ≡ f

pub idle_pool : (disks : Disks) (c : Image) (f : Found) → found disks c ≡ Some f → IsIdleIn disks c → HasSoundLogs disks c → IsIdlePool disks c f
idle_pool disks c f found_before idle logs =
    let by = stood_by disks c logs.before logs.stands in
    let none = idle (standing_by disks c by.0) (idle_stands disks c by.0 by.1) in
    record {
      state = by.0;
      newest_is = by.1;
      none = none;
      whole = subst (λ (x : Standing). damaged_log (current_places x.state) x.logs ≡ None) by.2 logs.log.whole;
      same = some_same (pool_at disks c by.0) f (sym (idle_found disks c by.0 by.1 none) ∙ found_before);
    }

-- So it is of a pool that was found on the disks, with nothing pending.
pub settled_holds : (disks : Disks) (c i : Image) (f : Found) → found disks c ≡ Some f → IsIdleIn disks c → IsSoundPool f → HasSoundLogs disks c → HaveGoodTables f
    → LieApart f → IsButTables f c i → NoStraySuperblock f c → NoStraySuperblock f i → RecoversInOpening f 0 i
settled_holds disks c i f found_before idle sound logs tables apart but alone alone_now =
    let is = idle_pool disks c f found_before idle logs in
    subst (λ (h : Found). IsSoundPool h → HaveGoodTables h → LieApart h → IsButTables h c i → NoStraySuperblock h c → NoStraySuperblock h i → RecoversInOpening h 0 i) is.same
    (λ sound tables apart but alone alone_now. tables_hold disks c i is.state is.newest_is is.none is.whole sound tables but alone alone_now apart)
    sound tables apart but alone alone_now
