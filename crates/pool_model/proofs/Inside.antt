-- What a stop inside a call leaves says the pool once its record is written.
use Rattle.std.proofs.Common.{◌≡◌, ◌⊎◌, ℕ, zero, suc, ◌+◌, ◌-◌, ◌<◌, ◌≤◌, ◌&&◌, Bool, true, false, bytes_eq, nat_lt, if◌then◌else◌, List, [], position, slice_get, Option, Some, None, option_map, unwrap_or, refl, sym, ap, ap₂, subst, ◌∙◌, inl, inr, ltb-true, arith}
use Rattle.std.specs.Option.{option_and_then, option_map_or}
use Rattle.std.specs.Result.{result_ok}
use Rattle.std.proofs.lemmas.Bool.{both_ways, cases_Bool, cases_eq, cases_lt}
use Rattle.std.proofs.lemmas.Option.{none-some}
use Rattle.rack.specs.Seen.{Image}
use Rattle.rack.specs.Targets.{Target, look}
use Rattle.slice_rack.specs.Slices.{Slices, disk_of, first_of as slice_first, seat_of as slice_seat, sectors_of}
use Rattle.slice_rack.specs.Sliced.{sliced}
use Rattle.slice_rack.proofs.Landed.{look_nowhere}
use Rattle.gpt_table.specs.declared.Table.{Table}
use Rattle.md_super.specs.declared.superblock.Super.{Super}
use Rattle.pool_state.specs.declared.contents.Copied.{Copied}
use Rattle.pool_state.specs.declared.contents.State.{State}
use Rattle.pool_state.specs.Sector.{decoded}
use Rattle.array_image.specs.Arrays.{array_in, arrays_in, replayed, shape_in}
use Rattle.array_image.specs.Places.{data_sector, log_sectors, log_slice, member_slice, place_of, slice_of, state_sector, super_sector}
use Rattle.array_image.specs.States.{current_places, epoch_of, is_current}
use Rattle.array_image.specs.Supers.{truth_in}
use Rattle.array_image.proofs.Frames.{super_of_sector}
use Rattle.array_core.proofs.Stripped.{some_same}
use Rattle.log_laws.specs.Kept.{IsNoLater}
use Rattle.log_laws.specs.Saying.{AreOwnCopies}
use Rattle.log_laws.proofs.Kept.{later_yet}
use Rattle.commit_log.proofs.Replaying.{pending_sound}
use Rattle.pool_image.specs.Disks.{Identities, Identity, identities_of, newest, seat_of, stands_for}
use Rattle.pool_image.specs.Drives.{Found, end_of, extent_from, first_of, found, found_by, slices_of}
use Rattle.pool_image.specs.Meaning.{is_member}
use Rattle.pool_image.specs.Replay.{Extent, standing_by, written}
use Rattle.pool_image.proofs.Founds.{first_behind}
use Rattle.pool_image.proofs.Truths.{extent_found}
use Rattle.pool_rest.proofs.BroughtCopies.{tables}
use Rattle.pool_rest.proofs.Landings.{where_landed}
use Rattle.pool_model.specs.InService.{epoch_at}
use Rattle.pool_model.specs.Left.{NoStraySuperblockBy, HasNoSuper, Recovers}
use Rattle.pool_model.specs.Pools.{extent_in}
use Rattle.pool_model.specs.Stopped.{SaysArray, SaysStopped, StandFor}
use Rattle.pool_model.proofs.Brought.{apart, e, e_is, e_none, lands_as, replays, ys, zs}
use Rattle.pool_model.proofs.Current.{SameCurrent, SameMembers, array_current, shape_current, sound_current, truth_current}
use Rattle.pool_model.proofs.Extents.{sectors_now}
use Rattle.pool_model.proofs.Found.{newest_latest}
use Rattle.pool_model.proofs.Layers.{IsLaid, laid}
use Rattle.pool_model.proofs.Logs.{log_lies}
use Rattle.pool_model.proofs.Named.{IsNamed, id_same, same_position, stands_named, stands_same}
use Rattle.pool_model.proofs.Said.{SaysPool, SaysSeats, pool_of}
use Rattle.pool_model.proofs.Seats.{nowhere, seats_now}
use Rattle.pool_model.proofs.Still.{alone_now, same, slices_now, sound_now, value_now}
use Rattle.pool_model.proofs.Stopped.{c, copied_is, few, ids, later_base, many, on_place, seated_or}

module _ (f : Found) (t : Slices) (base s : State) (i : Image) (stop : SaysStopped f t base s i) (st : StandFor f t s i) where
  abbrev xs : List Target
  xs = (standing_by f.disks i st.stood).targets

  abbrev held : Image
  held = sliced t i

  -- the disks with the record written, and what they say
  abbrev after : Image
  after = e f t base s i stop st

  abbrev says : Identities
  says = identities_of f.disks after

  -- a disk has one place
  one_place : (p q d : ℕ) → f.seats p ≡ Some d → f.seats q ≡ Some d → p ≡ q
  one_place p q d here there = some_same p q (sym (stop.is.seated p d here).stands ∙ (stop.is.seated q d there).stands)

  own_copies : AreOwnCopies s xs
  own_copies p w is = stop.says.brings p w (ap (λ (zs : List Target). look zs (log_slice p) 0) (sym st.targets) ∙ is)

  -- no state is brought to a disk that isn't a current place's
  no_copy : (d : ℕ) → ((p : ℕ) → is_current s p ≡ true → f.seats p ≡ Some d → ⊥) → look (ys f t base s i stop st) d state_sector ≡ None
  no_copy d none = of (look (ys f t base s i stop st) d state_sector) refl
    where
      seated_at : (p : ℕ) → seat_of s f.disks (ids f t base s i stop) p ≡ Some d → (is_current s p ≡ true) ⊎ (is_current s p ≡ false) → ⊥
      seated_at p seat (inl now) = none p now (sym (st.seats p now) ∙ seat)
      seated_at p seat (inr past) = none-some d (sym (nowhere s f.disks (ids f t base s i stop) p past) ∙ seat)

      of : (o : Option (List ℕ)) → look (ys f t base s i stop st) d state_sector ≡ o → look (ys f t base s i stop st) d state_sector ≡ None
      of None is = is
      of (Some v) is =
          elim (where_landed f.disks (ids f t base s i stop) s xs
          (pending_sound (current_places st.stood) (standing_by f.disks i st.stood).logs).valid (apart f t base s i stop st) d state_sector v is) [
            | inl copy ↦ absurd (seated_at copy.place copy.seat (cases_Bool (is_current s copy.place)))
            | inr part ↦ absurd (omega (arith, part.0))
          ]

  -- each disk has the table that it had
  pub table_same : (d : ℕ) → (says d).table ≡ (ids f t base s i stop d).table
  table_same d =
      ap (λ (z : Image). (identities_of f.disks z d).table) (λ j d k. e_is f t base s i stop st d k j)
      ∙ tables f.disks i s xs (pending_sound (current_places st.stood) (standing_by f.disks i st.stood).logs).valid (apart f t base s i stop st) own_copies d

  -- such a disk says what it said
  same_says : (d : ℕ) → ((p : ℕ) → is_current s p ≡ true → f.seats p ≡ Some d → ⊥) → says d ≡ ids f t base s i stop d
  same_says d none =
      ap₂ (λ (k : Option Copied) (z : Option Table). record { copied = k; table = z })
      (ap (λ (w : List ℕ). if nat_lt state_sector (f.disks.sectors d) then result_ok (decoded w) else None) (e_none f t base s i stop st d state_sector (no_copy d none)))
      (table_same d)

  -- ---- copies

  own_now : (p d : ℕ) → is_current s p ≡ true → f.seats p ≡ Some d
      → (k : ℕ) × ((says d).copied ≡ Some (record { state = s; own = k })) × (option_map (λ drive. drive.id.0) (slice_get s.drives.items k) ≡ option_map (λ drive. drive.id.0) (slice_get s.drives.items p))
  own_now p d now seat =
      let at : place_of (log_slice p) ≡ p = omega arith in
      let was = stop.after.current p now in
      let copy = stop.says.copies.own p now (let size = many f t base s i stop p d seat was in omega (arith, size)) in (
        copy.own,
        copied_is f t base s i stop p d seat was after
            ∙ ap (λ (w : List ℕ). result_ok (decoded w)) (replays f t base s i stop st (log_slice p) 0 (ap (is_current s) at ∙ now))
            ∙ ap result_ok copy.copy,
        copy.drive,
      )

  lift : (copy : Copied) → IsNoLater st.stood copy → IsNoLater s copy
  lift copy bound = elim st.early [
    | inl same ↦ subst (λ (z : State). IsNoLater z copy) (sym same) bound
    | inr less ↦ later_yet st.stood s copy less bound
  ]

  latest_now : (q : ℕ) (copy : Copied) → q < f.disks.count → (says q).copied ≡ Some copy → IsNoLater s copy
  latest_now q copy low here = elim (seated_or f t base s i stop q) [
    | inr none ↦ still (λ p now seat. none p seat)
    | inl one ↦ elim (cases_Bool (is_current s one.0)) [
      | inr past ↦ still (λ p now seat. both_ways (is_current s one.0) past (ap (is_current s) (one_place one.0 p q one.1 seat) ∙ now))
      | inl now ↦
          let is = own_now one.0 q now one.1 in
          inr (ap (λ (k : Copied). k.state) (some_same copy (record { state = s; own = is.0 }) (sym here ∙ is.1)))
    ]
  ]
    where
      still : ((p : ℕ) → is_current s p ≡ true → f.seats p ≡ Some q → ⊥) → IsNoLater s copy
      still none = lift copy (st.latest q copy low (sym (ap (λ (z : Identity). z.copied) (same_says q none)) ∙ here))

  -- a drive whose place was marked says an earlier state
  former_now : (r q p d : ℕ) → f.seats r ≡ Some q → is_current s r ≡ false → f.seats p ≡ Some d → is_current s p ≡ true → stands_for s (says q) ≡ Some p
      → epoch_at (says q) < epoch_at (says d)
  former_now r q p d other past seat now stands =
      let same = same_says q (λ p now seat. both_ways (is_current s r) past (ap (is_current s) (one_place r p q other seat) ∙ now)) in
      let was = st.former r q p other past now (ap (stands_for s) (sym same) ∙ stands) in
      let new : epoch_at (says d) ≡ s.epoch = ap (λ (o : Option Copied). option_map_or epoch_of o 0) (own_now p d now seat).1 in
      let still : epoch_at (says q) ≡ epoch_at (ids f t base s i stop q) = ap epoch_at same in
      omega (arith, was, new, still)

  -- a current place's drive stands for it
  stands_own : (p d : ℕ) → is_current s p ≡ true → f.seats p ≡ Some d → stands_for s (says d) ≡ Some p
  stands_own p d now seat =
      let is = own_now p d now seat in
      let after = later_base f t base s i stop in
      let named : IsNamed f.state (f.identities d) p = stands_named f.state (f.identities d) p (stop.is.seated p d seat).stands in
      ap (λ o. stands_for s (record { copied = o; table = (says d).table })) is.1
      ∙ ap (option_and_then (λ id. position (λ drive. bytes_eq drive.id.0 id) s.drives.items)) (is.2 ∙ id_same f.state s after.same p ∙ named.place)
      ∙ same_position named.id s.drives.items f.state.drives.items after.same.drives ∙ named.first

  -- and no disk for one without a drive
  absent_now : (p d : ℕ) → is_current s p ≡ true → f.seats p ≡ None → d < f.disks.count → stands_for s (says d) ≡ Some p → ⊥
  absent_now p d now free low stands = elim (seated_or f t base s i stop d) [
    | inr none ↦ still (λ q here seat. none q seat)
    | inl one ↦ elim (cases_Bool (is_current s one.0)) [
      | inr past ↦ still (λ q here seat. both_ways (is_current s one.0) past (ap (is_current s) (one_place one.0 q d one.1 seat) ∙ here))
      | inl here ↦
          let same : one.0 ≡ p = some_same one.0 p (sym (stands_own one.0 d here one.1) ∙ stands) in
          none-some d (sym free ∙ ap f.seats (sym same) ∙ one.1)
    ]
  ]
    where
      still : ((q : ℕ) → is_current s q ≡ true → f.seats q ≡ Some d → ⊥) → ⊥
      still none =
          stop.absent p d (stop.after.current p now) free low
          (sym (stands_same base s stop.after.same (ids f t base s i stop d)) ∙ ap (stands_for s) (sym (same_says d none)) ∙ stands)

  pub says_seats : SaysSeats f s after
  says_seats = record {
    is = stop.is;
    after = later_base f t base s i stop;
    absent = absent_now;
    copies = λ p d now seat.
        let is = own_now p d now seat in
        record { copy = record { state = s; own = is.0 }; is = is.1; since = (later_base f t base s i stop).epoch; drive = is.2 };
    former = former_now;
    others = λ q none low. same_says q (λ p now seat. none p seat) ∙ stop.elsewhere.others q none low;
  }

  newest_now : newest f.disks says ≡ Some s
  newest_now =
      let p = stop.someone.0 in
      let d = stop.someone.1 in
      let seat = stop.someone.3 in
      let is = own_now p d stop.someone.2 seat in
      newest_latest (λ q. (says q).copied) f.disks.count d (record { state = s; own = is.0 }) s (stop.is.seated p d seat).low is.1 refl latest_now

  -- ---- arrays

  module _ (n : ℕ) (low : n < f.state.made) where
    small : n < 16
    small = let most = stop.is.made.1 in omega (arith, low, most)

    abbrev written_as : Image
    written_as = replayed (sectors_of t) held

    member_same : (p k : ℕ) → is_current s p ≡ true → sliced t after (member_slice p n) k ≡ written_as (member_slice p n) k
    member_same p k now =
        let at : place_of (member_slice p n) ≡ p = (let few = small in omega (arith, few)) in
        replays f t base s i stop st (member_slice p n) k (ap (is_current s) at ∙ now)

    same_current : SameCurrent s n (sliced t after) written_as
    same_current p now = super_of_sector s (sliced t after) written_as n p (member_same p super_sector now)

    same_members : SameMembers s n (sliced t after) written_as
    same_members p w now super k = member_same p k now

    array_now : SaysArray f s (sliced t after) n
    array_now =
        let was = stop.arrays n low in
        record {
          truth = was.truth;
          is_truth = truth_current s (sliced t after) written_as n same_current ∙ was.is_truth;
          sound = sound_current s (sliced t after) written_as n same_current same_members was.truth was.sound;
          size = was.size;
          layout = was.layout;
          named = was.named;
        }

    pub truth_same : truth_in s (sliced t after) n ≡ truth_in s written_as n
    truth_same = truth_current s (sliced t after) written_as n same_current

    pub shape_same : shape_in s (sliced t after) n ≡ shape_in s written_as n
    shape_same = shape_current s (sliced t after) written_as n same_current

    pub value_same : (x : ℕ) → array_in s (sliced t after) n x ≡ arrays_in written_as n x
    unfolding arrays_in
    value_same x =
        array_current s (sliced t after) written_as n same_current same_members x
        ∙ sym (ap (λ (o : Option State). option_map_or (λ z. array_in z written_as n x) o []) stop.says.is_state)

  -- ---- places without a superblock

  lie : (n : ℕ) (low : n < f.state.made) → IsLaid f n (stop.is.truths n low).0
  lie n low = laid f n (stop.is.truths n low).0 (small n low) (stop.is.truths n low).1

  next_first : (n : ℕ) (low : n < f.state.made) → first_of f (suc n) ≡ Some ((lie n low).first + (data_sector + (stop.is.truths n low).0.size))
  unfolding first_of
  next_first n low =
      ap (option_and_then (λ first. option_map end_of (extent_from f n first))) (lie n low).begins
      ∙ ap (λ (o : Option Super). option_map end_of (option_map (λ (z : Super). record { first = (lie n low).first; sectors = data_sector + z.size }) o)) (lie n low).is

  -- slices of later arrays begin behind those of earlier ones
  begins_behind : (n m a : ℕ) (low : n < f.state.made) → suc n ≤ m → m ≤ f.state.made → first_of f m ≡ Some a
      → (lie n low).first + (data_sector + (stop.is.truths n low).0.size) ≤ a
  begins_behind n zero a low behind most at = absurd (omega (arith, behind))
  begins_behind n (suc m) a low behind most at = elim (cases_eq n m) [
    | inl here ↦
        let same : (lie n low).first + (data_sector + (stop.is.truths n low).0.size) ≡ a = some_same _ a (sym (next_first n low) ∙ ap (λ k. first_of f (suc k)) here ∙ at) in
        omega (arith, same)
    | inr other ↦
        let less : m < f.state.made = omega (arith, most) in
        let before = begins_behind n m (lie m less).first low (omega (arith, behind, other)) (omega (arith, most)) (lie m less).begins in
        let same : (lie m less).first + (data_sector + (stop.is.truths m less).0.size) ≡ a = some_same _ a (sym (next_first m less) ∙ at) in
        omega (arith, same, before)
  ]

  member_or : (b c : Bool) → (b ≡ true) × (c ≡ true) ⊎ ((b && c) ≡ false)
  member_or true true = inl (refl, refl)
  member_or true false = inr refl
  member_or false c = inr refl

  -- where a place has no slice of an array none of its slices has the sector of the superblock
  apart_there : (n p first m j : ℕ) (low : n < f.state.made) (d : ℕ) → is_current base p ≡ true → f.seats p ≡ Some d → is_member f n p ≡ false → first_of f n ≡ Some first
      → m < 16 → j < sectors_of t (member_slice p m) → first + super_sector ≡ slice_first t (member_slice p m) + j → ⊥
  apart_there n p first m j low d was seat none begins few within same = elim (member_or (nat_lt m f.state.made) (is_member f m p)) [
    | inr nothing ↦ (let size = stop.slices.others m p few nothing in omega (arith, within, size))
    | inl both ↦
        let less : m < f.state.made = ltb-true m f.state.made both.0 in
        let at : Some (extent_in t (member_slice p m)) ≡ Some (record { first = (lie m less).first; sectors = data_sector + (stop.is.truths m less).0.size }) =
        sym (stop.slices.members m p d less was seat both.1) ∙ extent_found f m (lie m less).first (stop.is.truths m less).0 (lie m less).begins (lie m less).is in
        let start : slice_first t (member_slice p m) ≡ (lie m less).first = ap (λ (o : Option Extent). option_map_or (λ x. x.first) o 0) at in
        let size : sectors_of t (member_slice p m) ≡ data_sector + (stop.is.truths m less).0.size = ap (λ (o : Option Extent). option_map_or (λ x. x.sectors) o 0) at in
        let here : (lie n low).first ≡ first = some_same (lie n low).first first (sym (lie n low).begins ∙ begins) in
        elim (cases_lt m n) [
          | inl earlier ↦
              let behind = begins_behind m n first less (omega (arith, earlier)) (omega (arith, low)) begins in
              omega (arith, within, same, start, size, behind)
          | inr from ↦ elim (cases_eq m n) [
            | inl equal ↦ both_ways (is_member f n p) none (ap (λ k. is_member f k p) (sym equal) ∙ both.1)
            | inr other ↦
                let behind = begins_behind n m (lie m less).first low (omega (arith, from, other)) (omega (arith, less)) (lie m less).begins in
                omega (arith, same, start, behind, here)
          ]
        ]
  ]

  -- so no target lands there
  pub alone_now_written : NoStraySuperblockBy s f after
  alone_now_written n p d first low now seat none begins within =
      subst (HasNoSuper f.state.pool.0 n)
      (sym (e_none f t base s i stop st d (first + super_sector)
      (ap (λ (ws : List Target). look ws d (first + super_sector)) (lands_as f t base s i stop st)
      ∙ look_nowhere t (zs f t base s i stop st) d (first + super_sector) nowhere_there)))
      (stop.alone n p d first low now seat none begins within)
    where
      was : is_current base p ≡ true
      was = stop.after.current p now

      on : slice_seat t p ≡ Some d
      on = on_place f t base s i stop p d seat was

      of_place : (k j q : ℕ) → slice_seat t (place_of k) ≡ Some q → j < sectors_of t k → d ≡ disk_of t k → first + super_sector ≡ slice_first t k + j → ⊥
      of_place k j q other inside disk sector =
          let there : disk_of t k ≡ q = ap (λ o. unwrap_or o 0) other in
          let place : place_of k ≡ p = stop.orderly.one_place (place_of k) p d (other ∙ ap Some (sym (disk ∙ there))) on in
          elim (cases_eq (slice_of k) 0) [
            | inl log ↦
                let is : k ≡ log_slice p = omega (arith, log, place) in
                let lies_at = log_lies f t i stop.inside p d on (stop.slices.logs p d was seat) in
                let start : slice_first t k ≡ state_sector = ap (slice_first t) is ∙ lies_at.0 in
                let size : sectors_of t k ≡ log_sectors = ap (sectors_of t) is ∙ lies_at.1 in
                let behind = first_behind f n first begins in
                omega (arith, inside, sector, start, size, behind)
            | inr member ↦
                let m : ℕ = slice_of k - 1 in
                let is : k ≡ member_slice p m = omega (arith, member, place) in
                apart_there n p first m j low d was seat none begins (omega arith) (subst (λ x. j < sectors_of t x) is inside)
                (subst (λ x. first + super_sector ≡ slice_first t x + j) is sector)
          ]

      nowhere_there : (k j : ℕ) → j < sectors_of t k → d ≡ disk_of t k → first + super_sector ≡ slice_first t k + j → ⊥
      nowhere_there k j inside disk sector = of (slice_seat t (place_of k)) refl
        where
          of : (o : Option ℕ) → slice_seat t (place_of k) ≡ o → ⊥
          of (Some q) other = of_place k j q other inside disk sector
          of None free = let nothing = stop.orderly.seated k free in omega (arith, inside, nothing)

  -- ---- the pool

  pub says_pool : SaysPool f t s after
  says_pool = record {
    is = stop.is;
    after = later_base f t base s i stop;
    joined = stop.joined;
    slices = record {
      seats = λ p d now seat. stop.slices.seats p d (stop.after.current p now) seat;
      logs = λ p d now seat. stop.slices.logs p d (stop.after.current p now) seat;
      members = λ n p d low now seat member. stop.slices.members n p d low (stop.after.current p now) seat member;
      others = stop.slices.others;
      unseated = λ k now free. stop.slices.unseated k (stop.after.current (place_of k) now) free;
    };
    inside = stop.inside;
    newest_is = newest_now;
    seats = seats_now f s after says_seats;
    own = λ p d now seat. let is = own_now p d now seat in (is.0, is.1);
    latest = latest_now;
    arrays = array_now;
    alone = alone_now_written;
  }

  abbrev pub now : Found
  now = pool_of f s after (standing_by f.disks i st.stood)

  pub found_now : found f.disks i ≡ Some now
  unfolding found
  found_now =
      ap (option_and_then (λ z. found_by f.disks z (written f.disks z i))) st.stands
      ∙ ap (option_map (λ (z : State). record {
        disks = f.disks;
        before = standing_by f.disks i st.stood;
        contents = after;
        identities = says;
        state = z;
        seats = seat_of z f.disks says;
      })) newest_now

  -- Contents that say so hold the pool still, by the state that is brought.
  unfoldable pub stopped_still : Recovers f t s i
  stopped_still = record {
    now = now;
    found_is = found_now;
    sound = sound_now f t s after (standing_by f.disks i st.stood) says_pool;
    logs = st.logs;
    state = refl;
    seats = seats_now f s after says_seats;
    slices = slices_now f t s after (standing_by f.disks i st.stood) says_pool;
    joined = (later_base f t base s i stop).same.joined ∙ stop.joined ∙ sym (later_base f t base s i stop).same.made;
    alone = alone_now f t s after (standing_by f.disks i st.stood) says_pool after alone_now_written;
    sectors = sectors_now f t s after (standing_by f.disks i st.stood) says_pool;
    is_state = stop.says.is_state;
    truths = λ n low.
        truth_current s (slices_of now) (sliced t after) n (same f t s after (standing_by f.disks i st.stood) says_pool n low)
        ∙ truth_same n low;
    shapes = λ n low.
        shape_current s (slices_of now) (sliced t after) n (same f t s after (standing_by f.disks i st.stood) says_pool n low)
        ∙ shape_same n low;
    values = λ n x low. value_now f t s after (standing_by f.disks i st.stood) says_pool n low x ∙ value_same n low x;
  }
