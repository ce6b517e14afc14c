-- The superblocks of a young array's members make it: it may come to the book, and its slices end on a drive.
use Rattle.std.proofs.Common.{◌≡◌, ◌≢◌, ℕ, ◌+◌, ◌/◌, ◌<◌, ◌≤◌, ◌^◌, ◌&&◌, not, nat_le, Bool, true, false, List, count_by, get_or, length, slice_get, sum_by, take, if◌then◌else◌, Option, Some, Ok, option_map, unwrap_or, refl, sym, ap, subst, ◌∙◌, inl, inr, arith}
use Rattle.std.proofs.lemmas.Bool.{and_parts, both_ways, cases_Bool, eq-eqb, le-leb, leb-true, lt-ltb, ltb-false, ne_eqb}
use Rattle.std.proofs.lemmas.List.FromFn.{get_or-map-range_with_len, length-map-range_with_len, take-map-range_with_len}
use Rattle.std.proofs.lemmas.List.Sums.{sum_by_more}
use Rattle.std.proofs.lemmas.Option.{slice_get_within}
use Rattle.std.specs.Int.{is_power_of_two}
use Rattle.rack.specs.Seen.{RackView}
use Rattle.md_super.specs.declared.superblock.Super.{Super}
use Rattle.pool_state.specs.declared.contents.State.{State}
use Rattle.pool_state.specs.Valid.{is_extent}
use Rattle.array_image.specs.Places.{data_sector, member_slice}
use Rattle.array_image.specs.SoundArray.{first_unsynced}
use Rattle.array_image.specs.States.{is_current}
use Rattle.array_model.specs.declared.Seat.{Seat}
use Rattle.array_model.specs.declared.Seat.TheVariants.{Missing, Rebuilding, Whole}
use Rattle.array_model.specs.Members.{HasSlices}
use Rattle.array_model.specs.View.{IsArray, View, is_missing_seat}
use Rattle.array_core.specs.declared.Found.{Found}
use Rattle.array_core.specs.Model.{is_truth}
use Rattle.array_core.specs.Opening.{opened, truth_of, view_found}
use Rattle.array_core.specs.Seats.{names}
use Rattle.array_core.specs.Slots.{place_by}
use Rattle.array_core.proofs.Opened.{map_ranged}
use Rattle.array_core.proofs.Truths.{unsynced_left}
use Rattle.new_array.specs.Supers.{has}
use Rattle.new_array.proofs.Extents.{extent_chunks}
use Rattle.new_array.proofs.Lists.{filter_few}
use Rattle.new_array.proofs.Opened as whole
use Rattle.new_array.proofs.Supers.{IsLayer, profile_ok, roles_ok}
use Rattle.raid_laws.specs.Moves.{IsOfPool, IsSeated, IsSet}
use Rattle.raid_laws.specs.NewDrive.{first_in, slice_length}
use Rattle.raid_laws.specs.Raid.{Raid}
use Rattle.transition_laws.specs.Changes.{changed, makes}
use Rattle.growth_laws.specs.Growing.{has_room, lacks_places}
use Rattle.growth_laws.specs.NewArrays.{drive_id, found_for, may_make, new_size, new_view, reaches, reaching, super_for, top_of, views_of}
use Rattle.growth_laws.proofs.Layers.{MayMake, make_parts, set_extent, some_drive}
use Rattle.growth_laws.proofs.Made.{IsUnzeroed, made_state, MayCome}

-- An array of this height may be made, and one of its members is missing at most.
pub record CanMake (v : Raid) (height : ℕ) : Type 0 where
  pub due : MayMake v v.state.made height
  pub extent : is_extent v.state.extent ≡ true
  pub drives : length v.state.drives.items ≤ 16
  pub some : lacks_places v (reaching v height) ≡ false

pub can_make : (v : Raid) (x : RackView) (height : ℕ) → IsSet v x → may_make v v.state.made height ≡ true → lacks_places v (reaching v height) ≡ false → CanMake v height
can_make v x height set due some =
    let parts = make_parts v v.state.made height due in
    record { due = parts; extent = set_extent v x set (some_drive v height parts.members); drives = set.few; some = some }

module _ (v : Raid) (height seconds : ℕ) (may : CanMake v height) where
  abbrev s : State
  s = v.state

  abbrev members : List ℕ
  members = reaching v height

  abbrev size : ℕ
  size = new_size v height

  abbrev drives : ℕ
  drives = length v.state.drives.items

  abbrev found : List Found
  found = found_for v.state (reaching v height) (new_size v height) seconds

  due : MayMake v v.state.made height
  due = may.due

  layer : IsLayer v.state.extent (length v.state.drives.items) (reaching v height) (new_size v height)
  layer = record {
    reaches = reaches v.state (top_of v + height);
    members_are = refl;
    least = due.members;
    few = let many = filter_few (reaches v.state (top_of v + height)) 0 drives in let most = may.drives in omega (arith, many, most);
    height = height;
    some = due.some;
    size_is = refl;
  }

  some_extent : 0 < v.state.extent
  some_extent =
      let bounds = (and_parts (is_power_of_two v.state.extent) (nat_le 128 v.state.extent && nat_le v.state.extent 65536) may.extent).1 in
      let least = leb-true 128 v.state.extent (and_parts (nat_le 128 v.state.extent) (nat_le v.state.extent 65536) bounds).0 in
      omega (arith, least)

  -- an array can go by its truth
  pub new_usable : (t : Super) → truth_of found ≡ Some t → is_truth t ≡ true
  new_usable t leads =
      let chunks = extent_chunks v.state.extent may.extent in
      let room = due.room in
      whole.truth_usable v.state.pool (drive_id v.state) members v.state.made size 0 seconds v.state.extent drives may.drives layer (is_current v.state)
      chunks.0 chunks.1 some_extent (omega (arith, room)) t leads

  opens : (t : Super) × (truth_of found ≡ Some t) × (opened v.state.made true found ≡ Ok (view_found v.state.made true found t))
  opens =
      whole.array_opens v.state.pool (drive_id v.state) members v.state.made size 0 seconds v.state.extent drives may.drives layer (is_current v.state) true
      (ltb-false 1 (count_by (λ place. not (is_current v.state place)) members) may.some) (λ old. absurd (both_ways true old refl))

  -- its superblocks make it
  pub new_opens : opened v.state.made true found ≡ Ok (new_view seconds v height)
  new_opens = opens.2 ∙ ap (λ o. Ok (view_found v.state.made true found (unwrap_or o (super_for v.state members size seconds 0)))) (sym opens.1)

  -- with the truth of a member
  new_is : (p : ℕ) × (has members p ≡ true) × (new_view seconds v height ≡ view_found v.state.made true found (super_for v.state members size seconds p))
  new_is =
      let own = whole.truth_is v.state.pool (drive_id v.state) members v.state.made size 0 seconds v.state.extent drives may.drives layer (is_current v.state) opens.0 opens.1 in (
        own.0,
        own.1,
        ap (λ o. view_found v.state.made true found (unwrap_or o (super_for v.state members size seconds 0))) opens.1 ∙ ap (view_found v.state.made true found) own.3,
      )

  low_member : (p : ℕ) → has members p ≡ true → p < 16
  low_member p among =
      let low = whole.member_low v.state.pool (drive_id v.state) members v.state.made size 0 seconds v.state.extent drives may.drives layer (is_current v.state) p among in
      let most = may.drives in
      omega (arith, low, most)

  -- ---- it may come to the book

  -- the slices of its members are there, unless their places are missing
  abbrev pub HasMemberSlices : RackView → Type 0
  HasMemberSlices x =
      (p : ℕ) → names (reaching v height) p ≡ true → is_current v.state p ≡ true → 2048 + new_size v height ≤ x.sectors (member_slice p v.state.made)

  module _ (p : ℕ) (among_p : has members p ≡ true) where
    abbrev t : Super
    t = super_for v.state (reaching v height) (new_size v height) seconds p

    abbrev u : View
    u = view_found v.state.made true (found_for v.state (reaching v height) (new_size v height) seconds) (super_for v.state (reaching v height) (new_size v height) seconds p)

    seat_is : (k : ℕ) → k < length members → slice_get u.seats k ≡ Some (if is_current v.state (place_by t k) then Whole else Missing)
    seat_is k low =
        whole.seat_is v.state.pool (drive_id v.state) members v.state.made size 0 seconds v.state.extent drives may.drives layer (is_current v.state) true p k (low_member p among_p) low

    member_at : (k : ℕ) → k < length members → has members (place_by t k) ≡ true
    member_at k low =
        whole.position_member v.state.pool (drive_id v.state) members v.state.made size 0 seconds v.state.extent drives may.drives layer (is_current v.state) p k (low_member p among_p) low

    -- a member that isn't missing is on a current place
    there_current : (k : ℕ) → k < length members → slice_get u.seats k ≢ Some Missing → is_current v.state (place_by t k) ≡ true
    there_current k low there = elim (cases_Bool (is_current v.state (place_by t k))) [
      | inl is ↦ is
      | inr not_so ↦ absurd (there (seat_is k low ∙ ap (λ (b : Bool). Some (if b then Whole else Missing)) not_so))
    ]

    new_slices : (x : RackView) → IsSet v x → HasMemberSlices x → HasSlices u x
    new_slices x set slices = record {
      fit = set.fit;
      lasting = set.lasting;
      disks = λ k low there.
          let small = low_member (place_by t k) (member_at k low) in
          let number = due.few in
          let disks = set.disks in
          omega (arith, small, number, disks);
      sectors = λ k low there. slices (place_by t k) (member_at k low) (there_current k low there);
    }

    new_pool : IsOfPool (made_state v.state) u
    new_pool = record {
      set = refl;
      profile =
          profile_ok v.state.pool (drive_id v.state p) members v.state.made p size 0 seconds v.state.extent drives may.drives layer (low_member p among_p) v.state.extent 1 (omega arith) some_extent;
      events = omega arith;
      events_end = omega arith;
      row = refl;
      roles = roles_ok v.state.pool (drive_id v.state p) members v.state.made p size 0 seconds v.state.extent drives may.drives layer (low_member p among_p) drives (omega arith);
      unsynced = unsynced_left true t;
      synced = λ old. absurd (both_ways true old refl);
      zeroed = λ young. omega arith;
      rows = λ k to rebuilds. absurd (by_seat k to rebuilds);
    }
      where
        not_so : (b : Bool) (to : ℕ) → ◌≡◌ {A = Option Seat} (Some (Rebuilding to)) (Some (if b then Whole else Missing)) → ⊥
        not_so true to same = cc
        not_so false to same = cc

        by_seat : (k to : ℕ) → slice_get u.seats k ≡ Some (Rebuilding to) → ⊥
        by_seat k to rebuilds =
            let within = slice_get_within u.seats k (Rebuilding to) rebuilds in
            let count = whole.seats_count v.state.pool (drive_id v.state) members v.state.made size 0 seconds v.state.extent drives may.drives layer (is_current v.state) true p in
            not_so (is_current v.state (place_by t k)) to (sym rebuilds ∙ seat_is k (omega (arith, within, count)))

    seated : (x : RackView) → IsSet v x → HasMemberSlices x → IsArray u → IsSeated (made_state v.state) v.state.made u x
    seated x set slices is_array = record {
      is_array = is_array;
      number = refl;
      slices = new_slices x set slices;
      marks = λ k low. ap (option_map is_missing_seat) (seat_is k low) ∙ of (is_current v.state (place_by t k));
      is_of_pool = new_pool;
    }
      where
        of : (b : Bool) → option_map is_missing_seat (Some (if b then Whole else Missing)) ≡ Some (not (b && true))
        of true = refl
        of false = refl

  -- THE ARRAY THAT THEY MAKE MAY COME
  pub new_may_come : (x : RackView) → IsSet v x → HasMemberSlices x → IsArray (new_view seconds v height) → MayCome v (new_view seconds v height) x
  new_may_come x set slices is_array = record {
    joined = due.joined;
    few = due.few;
    seated =
        subst (λ w. IsSeated (made_state v.state) v.state.made w x) (sym new_is.2) (seated new_is.0 new_is.1 x set slices (subst IsArray new_is.2 is_array));
    went = ap (λ (w : View). w.went) new_is.2;
    unmarked = ap (λ (w : View). w.marked) new_is.2;
  }

  pub new_unzeroed : IsUnzeroed (new_view seconds v height)
  new_unzeroed = record {
    young = ap (λ (w : View). w.young) new_is.2;
    none =
        ap (λ (w : View). first_unsynced w.truth) new_is.2 ∙ ap (λ (b : Bool). if b then 0 else new_size v height / 128) (lt-ltb 0 (new_size v height) (omega arith));
  }

  -- its slices end on a drive behind all others
  pub new_room : has_room (changed (makes (new_view seconds v height)) v) ≡ true
  new_room =
      let next = new_view seconds v height in
      let z : Raid = changed (makes next) v in
      let made = v.state.made in
      let long = length-map-range_with_len z.arrays 0 (made + 1) in
      let last : get_or (views_of z) made next ≡ next =
      get_or-map-range_with_len z.arrays 0 (made + 1) made made next (omega arith) (omega arith) ∙ ap (λ (b : Bool). if b then next else v.arrays made) (eq-eqb made made refl) in
      let before : take made (views_of z) ≡ take made (views_of v) =
      take-map-range_with_len z.arrays 0 (made + 1) made (omega arith)
      ∙ map_ranged z.arrays v.arrays 0 made
      (λ k least low. ap (λ (b : Bool). if b then next else v.arrays k) (ne_eqb k made (λ same. omega (arith, low, same))))
      ∙ sym (take-map-range_with_len v.arrays 0 made made (omega arith)) in
      let more = sum_by_more slice_length (views_of z) made next (omega (arith, long)) in
      let size_is : slice_length (get_or (views_of z) made next) ≡ new_size v height + data_sector = ap slice_length last ∙ ap slice_length new_is.2 in
      let same = ap (sum_by slice_length) before in
      let room = due.room in
      le-leb (first_in (views_of z) (made + 1) + 33) (2 ^ 48) (omega (arith, more, size_is, same, room))
