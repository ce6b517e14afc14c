-- The arrays of a new pool over its slices are a set of arrays, each whole.
use Rattle.std.proofs.Common.{◌≡◌, ℕ, pos, eqb-true, zero, suc, ◌+◌, ◌-◌, ◌*◌, ◌<◌, ◌≤◌, ◌^◌, ◌==◌, ◌&&◌, not, nat_le, nat_lt, Bool, true, false, List, [], ◌∷◌, get_or, map, length, slice_get, slice_index, if◌then◌else◌, Option, Some, None, Ok, option_map, unwrap_or, refl, sym, ap, subst, ◌∙◌, inl, le-leb, lt-ltb, arith}
use Rattle.std.specs.Option.{option_map_or}
use Rattle.std.specs.List.{range_with_len, list_all}
use Rattle.std.proofs.lemmas.Bool.{and_from, and_parts, both_ways}
use Rattle.std.proofs.lemmas.List.FromFn.{length-map-range_with_len}
use Rattle.std.proofs.lemmas.Option.{get_or_from_slice_get, slice_get_within}
use Rattle.rack.specs.Seen.{RackView}
use Rattle.slice_rack.specs.Slices.{Slices, sectors_of as slice_sectors}
use Rattle.slice_rack.specs.Sliced.{slices_of}
use Rattle.md_super.specs.declared.superblock.Super.{Super}
use Rattle.pool_state.specs.declared.contents.Drive.{Drive}
use Rattle.pool_state.specs.declared.contents.State.{State}
use Rattle.pool_state.specs.Valid.{has_arrays, has_epoch, has_places, is_drive, is_extent, is_valid}
use Rattle.array_image.specs.Places.{data_sector}
use Rattle.array_image.specs.States.{is_current}
use Rattle.array_model.specs.declared.Seat.{Seat}
use Rattle.array_model.specs.declared.Seat.TheVariants.{Whole, Rebuilding}
use Rattle.array_model.specs.View.{View, IsArray, is_missing_seat, sectors_of}
use Rattle.array_image.specs.Stripes.{capacity, mirror, parity}
use Rattle.std.specs.Ordering.{int_eq}
use Rattle.array_core.specs.declared.slots.Slot.{Slot}
use Rattle.array_core.specs.Opening.{opened, slot_by, slots_found, super_at, view_found}
use Rattle.array_core.specs.Slots.{place_by, places_by}
use Rattle.array_core.proofs.Rules.{get_map, get_range, zero_more}
use Rattle.array_core.proofs.Opened.{current_below}
use Rattle.array_core.proofs.Truths.{unsynced_left}
use Rattle.raid_rack.specs.declared.arrays.Arrays.{Arrays}
use Rattle.raid_laws.specs.Moves.{IsSeated}
use Rattle.raid_rack.specs.RaidRack.{IsFit, no_array}
use Rattle.pool_format.specs.declared.Birth.{Birth}
use Rattle.pool_format.specs.declared.planning.NewArray.{NewArray}
use Rattle.pool_format.specs.declared.planning.NewPool.{NewPool}
use Rattle.pool_format.specs.Arrays.{new_found, new_view, new_views, view_or_none}
use Rattle.pool_format.specs.Parts.{new_drive, new_state, new_super}
use Rattle.pool_format.specs.Plan.{IsNewArray, IsPlan, has}
use Rattle.pool_format.specs.Slices.{AreLaid, sectors_planned}
use Rattle.pool_format.specs.Volume.{IsNewRaid}
use Rattle.new_array.proofs.Extents.{extent_chunks}
use Rattle.pool_format.proofs.Laying.{member_drive, member_slice_is}
use Rattle.pool_format.proofs.Lists.{got, no_element}
use Rattle.pool_format.proofs.Opening.{array_opens, members_few, position_member, seen_at, truth_is}
use Rattle.pool_format.proofs.Slicing.{log_planned}
use Rattle.pool_format.proofs.Supers.{profile_ok, roles_ok}
use Rattle.pool_format.proofs.Units.{extent_bounds}

one_times : (n : ℕ) → 1 * n ≡ n
one_times n = omega arith

pub state_drives : (plan : NewPool) (birth : Birth) → length (new_state plan birth).drives.items ≡ length plan.units.items
state_drives plan birth = length-map-range_with_len (λ place. new_drive birth place (slice_index plan.units.items place)) 0 (length plan.units.items)

-- the view of a number
pub view_at : (birth : Birth) (number : ℕ) (arrays : List NewArray) (n : ℕ) (a : NewArray) → slice_get arrays n ≡ Some a → slice_get (new_views birth number arrays) n ≡ Some (new_view birth a (number + n))
view_at birth number [] n a is = absurd (no_element is)
view_at birth number (b ∷ others) zero a is = ap (λ e. Some (new_view birth e number)) (ap (λ o. unwrap_or o b) is) ∙ ap (λ k. Some (new_view birth a k)) (omega arith)
view_at birth number (b ∷ others) (suc n) a is = view_at birth (number + 1) others n a is ∙ ap (λ k. Some (new_view birth a k)) (omega arith)

pub views_count : (birth : Birth) (number : ℕ) (arrays : List NewArray) → length (new_views birth number arrays) ≡ length arrays
views_count birth number [] = refl
views_count birth number (a ∷ others) = ap suc (views_count birth (number + 1) others)

module _ (plan : NewPool) (birth : Birth) (is : IsPlan plan) where
  abbrev s : State
  s = new_state plan birth

  abbrev n_drives : ℕ
  n_drives = length plan.units.items

  drives_many : length s.drives.items ≡ n_drives
  drives_many = length-map-range_with_len (λ place. new_drive birth place (slice_index plan.units.items place)) 0 n_drives

  pub drive_at : (p : ℕ) → p < n_drives → slice_get s.drives.items p ≡ Some (new_drive birth p (slice_index plan.units.items p))
  drive_at p low =
      let f : ℕ → Drive = λ place. new_drive birth place (slice_index plan.units.items place) in
      get_map f (range_with_len 0 n_drives) p ∙ ap (option_map f) (get_range 0 n_drives p low) ∙ ap (λ (j : ℕ). Some (f j)) (zero_more p)

  pub drive_current : (p : ℕ) → p < n_drives → is_current s p ≡ true
  drive_current p low = ap (λ o. option_map_or (λ (d : Drive). not d.missing) o false) (drive_at p low)

  drives_good : (a k : ℕ) → a + k ≤ n_drives → list_all is_drive (map (λ place. new_drive birth place (slice_index plan.units.items place)) (range_with_len a k)) ≡ true
  drives_good a zero few = refl
  drives_good a (suc k) few =
      let one = got plan.units.items a (omega (arith, few)) in
      let bounds = is.units a one.0 one.1 in
      let own : slice_index plan.units.items a ≡ one.0 = get_or_from_slice_get plan.units.items a one.0 0 one.1 in
      let some = bounds.0 in
      let low = bounds.1 in
      and_from (nat_le 1 (slice_index plan.units.items a) && nat_lt (slice_index plan.units.items a) (2 ^ 41)) _
      (and_from (nat_le 1 (slice_index plan.units.items a)) (nat_lt (slice_index plan.units.items a) (2 ^ 41))
      (le-leb 1 (slice_index plan.units.items a) (omega (arith, own, some))) (lt-ltb (slice_index plan.units.items a) (2 ^ 41) (omega (arith, own, low))))
      (drives_good (a + 1) k (omega (arith, few)))

  -- the state is valid on each place
  pub state_valid : (p : ℕ) → p < n_drives → is_valid s p ≡ true
  state_valid p low =
      let many = drives_many in
      let least = is.least in
      let most = is.most in
      let some = is.some in
      let few = is.few in
      let made = length plan.arrays.items in
      and_from (is_extent plan.extent) _ is.extent
      (and_from (has_places s p) _
      (and_from (nat_le 2 (length s.drives.items) && nat_le (length s.drives.items) 16) (nat_lt p (length s.drives.items) && nat_lt 0 (length s.drives.items))
      (and_from (nat_le 2 (length s.drives.items)) _ (le-leb 2 (length s.drives.items) (omega (arith, many, least))) (le-leb (length s.drives.items) 16 (omega (arith, many, most))))
      (and_from (nat_lt p (length s.drives.items)) _ (lt-ltb p (length s.drives.items) (omega (arith, many, low))) (lt-ltb 0 (length s.drives.items) (omega (arith, many, least)))))
      (and_from (has_arrays s) _
      (and_from (nat_le 1 made && nat_le made 16) (nat_le 1 made && (nat_le made made && nat_le made (made + 1)))
      (and_from (nat_le 1 made) _ (le-leb 1 made (omega (arith, some))) (le-leb made 16 few))
      (and_from (nat_le 1 made) _ (le-leb 1 made (omega (arith, some)))
      (and_from (nat_le made made) _ (le-leb made made (omega arith)) (le-leb made (made + 1) (omega arith)))))
      (and_from (list_all is_drive s.drives.items) (has_epoch s) (drives_good 0 n_drives (omega arith)) refl)))

  -- ---- one array

  module _ (n : ℕ) (a : NewArray) (at : slice_get plan.arrays.items n ≡ Some a) (is_array : IsArray (new_view birth a n)) where
    abbrev na : IsNewArray plan.extent n_drives a
    na = is.each n a at

    chunks : (m : ℕ) × (plan.extent ≡ m * 128)
    chunks = extent_chunks plan.extent is.extent

    some_extent : 0 < plan.extent
    some_extent = let least = (extent_bounds plan.extent is.extent).0 in omega (arith, least)

    few : length a.members.items ≤ 16
    few = members_few a plan.extent n_drives na is.most

    opens : (t : Super) × (Rattle.array_core.specs.Opening.truth_of (new_found birth a n) ≡ Some t) × (opened n false (new_found birth a n) ≡ Ok (view_found n false (new_found birth a n) t))
    opens = array_opens birth a n plan.extent n_drives chunks.0 is.most na chunks.1 some_extent few

    own : (p : ℕ) × (has a.members.items p ≡ true) × (opens.0 ≡ new_super birth a n p)
    own = truth_is birth a n plan.extent n_drives chunks.0 is.most na chunks.1 some_extent few opens.0 opens.1

    view_is : new_view birth a n ≡ view_found n false (new_found birth a n) opens.0
    view_is = ap view_or_none opens.2

    module _ (p : ℕ) (among_p : has a.members.items p ≡ true) where
      abbrev u : Super
      u = new_super birth a n p

      abbrev v : View
      v = view_found n false (new_found birth a n) u

      low_p : p < n_drives
      low_p = member_drive plan is n p a at among_p

      small_p : p < 16
      small_p = let low = low_p in let most = is.most in omega (arith, low, most)

      among : (k : ℕ) → k < length a.members.items → has a.members.items (place_by u k) ≡ true
      among k low = position_member birth a n plan.extent n_drives chunks.0 is.most na chunks.1 some_extent few p k small_p low

      seat_whole : (k : ℕ) → k < length a.members.items → slice_get v.seats k ≡ Some Whole
      seat_whole k low =
          let h : ℕ → Slot = λ place. slot_by place (super_at (new_found birth a n) place) in
          get_map (λ (e : Slot). e.seat) (slots_found (new_found birth a n) u) k
          ∙ ap (option_map (λ (e : Slot). e.seat))
          (get_map h (places_by u) k
          ∙ ap (option_map h) (get_map (place_by u) (range_with_len 0 (length a.members.items)) k ∙ ap (option_map (place_by u)) (get_range 0 (length a.members.items) k low)
          ∙ ap (λ (j : ℕ). Some (place_by u j)) (zero_more k)))
          ∙ ap (λ o. Some (slot_by (place_by u k) o).seat) (seen_at birth a n plan.extent n_drives chunks.0 is.most na chunks.1 some_extent few (place_by u k))
          ∙ ap (λ b. Some (slot_by (place_by u k) (if b then Some (new_super birth a n (place_by u k)) else None)).seat) (among k low)

      seated_super : IsArray v → (x : RackView) (t : Slices) → (slices_of t x).fit → x.lasting → AreLaid plan.arrays.items n_drives (17 * n_drives) t → IsSeated s n v (slices_of t x)
      seated_super made x t fit lasting laid =
          let number = slice_get_within plan.arrays.items n a at in
          let few_arrays = is.few in
          let most_drives = is.most in
          record {
            is_array = made;
            number = refl;
            slices = record {
              fit = fit;
              lasting = lasting;
              disks = λ k low not_missing. let own = member_drive plan is n (place_by u k) a at (among k low) in omega (arith, own, number, few_arrays, most_drives);
              sectors = λ k low not_missing.
                  let q : ℕ = place_by u k in
                  let own = member_drive plan is n q a at (among k low) in
                  let size : slice_sectors t (17 * q + n + 1) ≡ a.size + data_sector =
                  laid.sectors (17 * q + n + 1)
                  ∙ ap (λ b. if b then sectors_planned plan.arrays.items (17 * q + n + 1) else 0) (lt-ltb (17 * q + n + 1) (17 * n_drives) (omega (arith, own, number, few_arrays)))
                  ∙ (member_slice_is plan is n q a at (among k low)).0 in
                  omega (arith, size);
            };
            marks = λ k low.
                ap (option_map is_missing_seat) (seat_whole k low)
                ∙ ap (λ b. Some (not (b && true))) (sym (drive_current (place_by u k) (member_drive plan is n (place_by u k) a at (among k low))));
            is_of_pool = record {
              set = refl;
              profile = profile_ok birth a n p plan.extent n_drives is.most na small_p few plan.extent 1 (omega arith) some_extent;
              events = omega arith;
              events_end = omega arith;
              row = refl;
              roles = roles_ok birth a n p plan.extent n_drives is.most na small_p few (length s.drives.items) (let many = drives_many in omega (arith, many));
              unsynced = unsynced_left false u;
              synced = λ old part. inl refl;
              zeroed = λ young. absurd (both_ways false refl young);
              rows = λ k to rebuilds.
                  let within = slice_get_within v.seats k (Rebuilding to) rebuilds in
                  let count = made.seats in
                  absurd (not_whole to (sym rebuilds ∙ seat_whole k (omega (arith, within, count))));
            };
          }
        where
          not_whole : (to : ℕ) → ◌≡◌ {A = Option Seat} (Some (Rebuilding to)) (Some Whole) → ⊥
          not_whole to same = cc

    pub new_seated : (x : RackView) (t : Slices) → (slices_of t x).fit → x.lasting → AreLaid plan.arrays.items n_drives (17 * n_drives) t → IsSeated s n (new_view birth a n) (slices_of t x)
    new_seated x t fit lasting laid =
        let view : new_view birth a n ≡ view_found n false (new_found birth a n) (new_super birth a n own.0) =
        view_is ∙ ap (view_found n false (new_found birth a n)) own.2 in
        subst (λ w. IsSeated s n w (slices_of t x)) (sym view) (seated_super own.0 own.1 (subst IsArray view is_array) x t fit lasting laid)

    -- its sectors are the data of all its members but one
    pub new_sectors : sectors_of (new_view birth a n) ≡ (length a.members.items - 1) * a.size
    new_sectors =
        ap sectors_of (view_is ∙ ap (view_found n false (new_found birth a n)) own.2)
        ∙ of (length a.members.items == 2) refl
      where
        of : (b : Bool) → (length a.members.items == 2) ≡ b
            → capacity (if int_eq (pos (if b then 1 else 5)) (pos 1) then mirror (length a.members.items) else parity (length a.members.items)) a.size ≡ (length a.members.items - 1) * a.size
        of true two = let same = eqb-true (length a.members.items) 2 two in let one : length a.members.items - 1 ≡ 1 = omega (arith, same) in sym (ap (λ k. k * a.size) one ∙ one_times a.size)
        of false more = refl

    pub new_quiet : ((new_view birth a n).went ≡ []) × ((new_view birth a n).marked ≡ false)
    new_quiet = (ap (λ (w : View). w.went) view_is, ap (λ (w : View). w.marked) view_is)

  -- ---- all arrays

  pub new_fit : (x : RackView) (t : Slices) (arrs : Arrays) → IsNewRaid plan birth t arrs → (slices_of t x).fit → x.lasting → IsFit arrs (slices_of t x)
  new_fit x t arrs new fit lasting = record {
    running = record {
      count = ap (λ (vs : List View). length vs) new.arrays ∙ views_count birth 0 plan.arrays.items ∙ sym (ap (λ (r : State). r.made) new.state);
      set = record {
        fit = fit;
        lasting = lasting;
        disks = refl;
        few = subst (λ (r : State). length r.drives.items ≤ 16) (sym new.state) (let many = drives_many in let most = is.most in omega (arith, many, most));
        most = subst (λ (r : State). r.made ≤ 16) (sym new.state) is.few;
        valid = λ place low.
            subst (λ (r : State). is_valid r place ≡ true) (sym new.state)
            (state_valid place (let own = subst (λ (r : State). place < length r.drives.items) new.state low in let many = drives_many in omega (arith, own, many)));
        logs = λ place left.
            let current = (and_parts (is_current arrs.state place) _ left).0 in
            let own = current_below s place (subst (λ (r : State). is_current r place ≡ true) new.state current) in
            let many = drives_many in
            new.laid.sectors (17 * place)
            ∙ ap (λ b. if b then sectors_planned plan.arrays.items (17 * place) else 0) (lt-ltb (17 * place) (17 * n_drives) (omega (arith, own, many)))
            ∙ (log_planned plan.arrays.items place).0;
        arrays = λ n low.
            let one = one_of n low in
            subst (λ w. IsSeated arrs.state n w (slices_of t x)) (sym one.2.0)
            (subst (λ (r : State). IsSeated r n (new_view birth one.0 n) (slices_of t x)) (sym new.state) (new_seated n one.0 one.1 one.2.1 x t fit lasting new.laid));
        marked = λ n low marked.
            let one = one_of n low in
            absurd (both_ways (get_or arrs.all.items n no_array).marked (ap (λ (w : View). w.marked) one.2.0 ∙ (new_quiet n one.0 one.1 one.2.1).1) marked);
      };
    };
    heeded = λ n low. let one = one_of n low in ap (λ (w : View). w.went) one.2.0 ∙ (new_quiet n one.0 one.1 one.2.1).0;
  }
    where
      one_of : (n : ℕ) → n < arrs.state.made → (a : NewArray) × (slice_get plan.arrays.items n ≡ Some a) × ((get_or arrs.all.items n no_array ≡ new_view birth a n) × IsArray (new_view birth a n))
      one_of n low =
          let one = got plan.arrays.items n (subst (λ (r : State). n < r.made) new.state low) in
          let at : slice_get arrs.all.items n ≡ Some (new_view birth one.0 n) =
          ap (λ (vs : List View). slice_get vs n) new.arrays ∙ view_at birth 0 plan.arrays.items n one.0 one.1 ∙ ap (λ k. Some (new_view birth one.0 k)) (zero_more n) in
          (one.0, one.1, (get_or_from_slice_get arrs.all.items n (new_view birth one.0 n) no_array at, new.are n (new_view birth one.0 n) at))
