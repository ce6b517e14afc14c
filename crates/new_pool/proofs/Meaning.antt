-- What a new pool means: nothing refuses it, and its volume is all zeros.
use Rattle.std.proofs.Common.{◌≡◌, ℕ, zero, suc, ◌+◌, ◌-◌, ◌<◌, ◌≤◌, ◌&&◌, nat_lt, Bool, true, false, [], ◌∷◌, find, length, map, slice_get, replicate, if◌then◌else◌, Option, Some, None, option_map, refl, sym, ap, subst, ◌∙◌, inl, inr, lt-ltb, arith}
use Rattle.std.specs.Option.{option_map_or, option_or}
use Rattle.std.specs.List.{range_with_len}
use Rattle.std.proofs.Math.Nat.{mul-le-mul_right}
use Rattle.std.specs.Result.{result_ok}
use Rattle.std.proofs.lemmas.Bool.{cases_lt}
use Rattle.std.proofs.lemmas.List.{length-map}
use Rattle.rack.specs.Seen.{Image}
use Rattle.pool_state.specs.declared.contents.Copied.{Copied}
use Rattle.pool_state.specs.declared.contents.State.{State}
use Rattle.pool_state.specs.Sector.{decoded}
use Rattle.array_image.specs.Foremost.{foremost}
use Rattle.array_image.specs.Arrays.{Member, Shape, member_in, shape_by, value_by}
use Rattle.array_image.specs.Held.{Among}
use Rattle.array_image.specs.Places.{data_sector, member_slice, state_sector}
use Rattle.array_image.specs.States.{epoch_of}
use Rattle.array_image.specs.Supers.{is_unclean}
use Rattle.lvm_group.specs.Founding.{AreSized, HoldNew}
use Rattle.lvm_group.specs.Group.{linear_in}
use Rattle.lvm_group.specs.Made.{new_volume}
use Rattle.lvm_group.specs.Opening.{Means}
use Rattle.lvm_group.specs.Runs.{Linear, array_of, sector_of, sectors_in}
use Rattle.lvm_group.proofs.NewMeaning.{spot_inside}
use Rattle.lvm_group.proofs.Written.{find_none, range_below}
use Rattle.pool_image.specs.Disks.{Disks, identities_of}
use Rattle.pool_image.specs.Drives.{Found, found, slices_of}
use Rattle.pool_image.specs.Meaning.{Refusal, Volume, absent, array_sectors, arrays_held, arrays_of, bad_volume, damaged, dirty_degraded, first_damaged, in_state, is_dirty_degraded, is_too_few, joined_arrays, lacking_of, meaning, no_pool, refusal_of, refused_at, refused_by, shape_of, too_few, truth_of, two_pools, volume_by, volumes_of}
use Rattle.pool_image.specs.Replay.{standing, standing_by}
use Rattle.pool_image.specs.Volumes.{Arrays, first_bad, group_in}
use Rattle.pool_image.proofs.Groups.{AreWholeArrays, bad_alike, group_alike}
use Rattle.pool_image.proofs.Parts.{held_in}
use Rattle.pool_image.proofs.Wholes.{value_sized}
use Rattle.pool_format.specs.declared.Birth.{Birth}
use Rattle.pool_format.specs.declared.planning.NewArray.{NewArray}
use Rattle.pool_format.specs.declared.planning.NewPool.{NewPool}
use Rattle.pool_format.specs.Data.{IsGroupRead, extents_of, sizes_of}
use Rattle.pool_format.specs.Parts.{new_state, new_super}
use Rattle.pool_format.proofs.Lists.{got}
use Rattle.pool_format.proofs.Making.{size_listed}
use Rattle.pool_format.proofs.Units.{extent_bounds}
use Rattle.new_pool.specs.Contents.{IsNewPool, MeanNoneOrZeros, MeanZeros, SaysNone, partly, zeros}
use Rattle.new_pool.proofs.Founds.{found_is, shown, stands}
use Rattle.new_pool.proofs.Sound.{value_at_sized}
use Rattle.new_pool.proofs.Truths.{array_is}
use Rattle.new_pool.proofs.Undamaged.{no_other_pool, none_absent, none_damaged, one_damaged}
use Rattle.new_pool.proofs.Values.{first, is_member, none_lacks, sectors_now, shape, shape_is, value_now}

-- a member of a range is that of a number
among_range : (h : ℕ → Member) (m : Member) (a k : ℕ) → Among m (map h (range_with_len a k)) → (j : ℕ) × (j < a + k) × (m ≡ h j)
among_range h m a zero among = absurd among
among_range h m a (suc k) (inl here) = (a, omega arith, here)
among_range h m a (suc k) (inr later) = let rest = among_range h m (a + 1) k later in (rest.0, let low = rest.1 in omega (arith, low), rest.2)

no_and : (b : Bool) → (b && false) ≡ false
no_and true = refl
no_and false = refl

module _ (plan : NewPool) (birth : Birth) (disks : Disks) (c : Image) (is : IsNewPool plan birth disks c) where
  abbrev f : Found
  f = shown plan birth disks c is

  abbrev s : State
  s = new_state plan birth

  abbrev arrays : Arrays
  arrays = joined_arrays f

  array_got : (n : ℕ) → n < s.made → (a : NewArray) × (slice_get plan.arrays.items n ≡ Some a)
  array_got n low = got plan.arrays.items n low

  -- ---- no array is too few, or dirty and degraded

  whole_shape : (n : ℕ) → n < s.made → option_map_or (λ (sh : Shape). nat_lt 1 (lacking_of sh)) (shape_of f n) true ≡ false
  whole_shape n low =
      let a = array_got n low in
      ap (λ o. option_map_or (λ (sh : Shape). nat_lt 1 (lacking_of sh)) o true) (shape_is plan birth disks c is n a.0 a.1)
      ∙ ap (λ m. nat_lt 1 m) (none_lacks plan birth disks c is n a.0 a.1)

  not_dirty : (n : ℕ) → n < s.made → is_dirty_degraded f n ≡ false
  not_dirty n low =
      let a = array_got n low in
      ap (λ o. nat_lt n s.joined && (option_map_or (λ (sh : Shape). nat_lt 0 (lacking_of sh)) o false && option_map_or is_unclean (truth_of f n) false)) (shape_is plan birth disks c is n a.0 a.1)
      ∙ ap (λ m. nat_lt n s.joined && (nat_lt 0 m && option_map_or is_unclean (truth_of f n) false)) (none_lacks plan birth disks c is n a.0 a.1)
      ∙ no_and (nat_lt n s.joined)

  none_few : find (is_too_few f) (arrays_of f) ≡ None
  none_few = find_none (is_too_few f) (arrays_of f) (λ i n at. let low = (range_below 0 s.made i n at).1 in whole_shape n (omega (arith, low)))

  none_dirty : find (is_dirty_degraded f) (arrays_of f) ≡ None
  none_dirty = find_none (is_dirty_degraded f) (arrays_of f) (λ i n at. let low = (range_below 0 s.made i n at).1 in not_dirty n (omega (arith, low)))

  -- ---- arrays of whole sectors

  module _ (n : ℕ) (a : NewArray) (at : slice_get plan.arrays.items n ≡ Some a) where
    abbrev k : ℕ
    k = length a.members.items

    member_sized : (m : Member) (sector : ℕ) → Among m (map (member_in s (slices_of f) n (new_super birth a n (first plan birth disks c is n a at))) (range_with_len 0 k)) → sector < m.reach
        → length (slices_of f (member_slice m.place n) (data_sector + sector)) ≡ 512
    member_sized m sector among reached =
        let one = among_range (member_in s (slices_of f) n (new_super birth a n (first plan birth disks c is n a at))) m 0 k among in
        let low = one.1 in
        let same : m ≡ member_in s (slices_of f) n (new_super birth a n (first plan birth disks c is n a at)) one.0 = one.2 in
        ap (λ (o : Member). length (slices_of f (member_slice o.place n) (data_sector + sector))) same
        ∙ value_at_sized plan birth disks c is n a at (first plan birth disks c is n a at) (is_member plan birth disks c is n a at) sector one.0 (omega (arith, low))
        (subst (λ (o : Member). sector < o.reach) same reached)

    sector_sized : (x : ℕ) → length (arrays_held f n x) ≡ 512
    unfolding shape_by
    sector_sized x =
        ap (λ o. length (option_map_or (λ (sh : Shape). value_by sh (slices_of f) n x) o [])) (shape_is plan birth disks c is n a at)
        ∙ value_sized (shape plan birth disks c is n a at) (slices_of f) n x (member_sized)

    room_now : 2048 ≤ array_sectors f n
    room_now =
        let one = array_is plan birth disks c is n a at in
        let least = one.least in
        let size = one.size_is in
        let most = mul-le-mul_right a.size (let two : 1 ≤ k - 1 = omega (arith, least) in two) in
        let sectors = sectors_now plan birth disks c is n a at in
        omega (arith, most, sectors, size)

  whole_arrays : AreWholeArrays arrays
  whole_arrays = record {
    whole = λ n low t inside. let a = array_got n low in sector_sized n a.0 a.1 t;
    room = λ n low. let a = array_got n low in let room = room_now n a.0 a.1 in omega (arith, room);
  }

  -- ---- its group

  extents_many : length (extents_of plan) ≡ length plan.arrays.items
  extents_many = length-map plan.arrays.items (λ (a : NewArray). a.extents)

  low_array : (n : ℕ) → n < length (extents_of plan) → n < s.made
  low_array n low = let many = extents_many in omega (arith, low, many)

  sized : AreSized (sizes_of plan) (array_sectors f) (extents_of plan)
  sized n low =
      let a = array_got n (low_array n low) in
      sectors_now plan birth disks c is n a.0 a.1 ∙ sym (size_listed plan is.is_plan n a.0 a.1)

  hold : HoldNew birth.pool plan.extent (sizes_of plan) (extents_of plan) (held_in arrays)
  hold n t low before =
      let a = array_got n (low_array n low) in
      let room = room_now n a.0 a.1 in
      let sectors = sectors_now plan birth disks c is n a.0 a.1 in
      ap (λ b. if b then arrays_held f n t else []) (lt-ltb t (array_sectors f n) (omega (arith, before, room)))
      ∙ value_now plan birth disks c is n a.0 a.1 t (omega (arith, before, room, sectors))

  -- ---- what refuses it

  refused_so : refusal_of disks c ≡ refused_by f
  unfolding refusal_of
  refused_so =
      ap (λ o. option_map_or (refused_at disks c) o (Some no_pool)) (stands plan birth disks c is)
      ∙ ap (λ b. if b then Some two_pools else option_map_or refused_by (found disks c) (Some no_pool)) (no_other_pool plan birth disks c is)
      ∙ ap (λ o. option_map_or refused_by o (Some no_pool)) (found_is plan birth disks c is)

  -- a drive that has no copy yet
  pub state_refused : is.said < disks.count → refusal_of disks c ≡ Some (damaged is.said in_state)
  unfolding refused_by
  state_refused some =
      let few : Option Refusal = option_or (option_map too_few (find (is_too_few f) (arrays_of f)))
      (option_or (option_map dirty_degraded (find (is_dirty_degraded f) (arrays_of f))) (option_map bad_volume (first_bad (joined_arrays f)))) in
      refused_so
      ∙ ap (λ m. if nat_lt 1 m then Some (absent m) else option_or (first_damaged f) few) (none_absent plan birth disks c is)
      ∙ ap (λ o. option_or o few) (one_damaged plan birth disks c is some)

  abbrev pub line : Linear
  line = new_volume plan.extent (extents_of plan)

  module _ (read : IsGroupRead plan birth) where
    means : Means birth.pool plan.extent s.joined (array_sectors f) line 1 (held_in arrays)
    means =
        let some = is.is_plan.some in
        let many = extents_many in
        subst (λ n. Means birth.pool plan.extent n (array_sectors f) line 1 (held_in arrays)) many
        (read.means (array_sectors f) (held_in arrays) (omega (arith, some, many)) sized hold)

    group_is : group_in arrays ≡ Some means.group
    group_is = sym (group_alike arrays whole_arrays) ∙ means.found

    none_bad : first_bad arrays ≡ None
    none_bad = sym (bad_alike arrays whole_arrays) ∙ means.sound

    -- ---- what it means

    unrefused : disks.count ≤ is.said → refused_by f ≡ None
    unfolding refused_by
    unrefused all =
        let bad : Option ℕ → _ = λ o. option_map bad_volume o in
        let dirty : Option ℕ → _ = λ o. option_or (option_map dirty_degraded o) (bad (first_bad arrays)) in
        let few : Option ℕ → _ = λ o. option_or (option_map too_few o) (dirty (find (is_dirty_degraded f) (arrays_of f))) in
        ap (λ m. if nat_lt 1 m then Some (absent m) else option_or (first_damaged f) (few (find (is_too_few f) (arrays_of f)))) (none_absent plan birth disks c is)
        ∙ ap (λ o. option_or o (few (find (is_too_few f) (arrays_of f)))) (none_damaged plan birth disks c is all)
        ∙ ap few none_few
        ∙ ap dirty none_dirty
        ∙ ap bad none_bad

    not_refused : disks.count ≤ is.said → refusal_of disks c ≡ None
    not_refused all = refused_so ∙ unrefused all

    abbrev volume : Volume
    volume = volume_by line (arrays_held f)

    volumes_are : volumes_of f ≡ volume ∷ []
    volumes_are =
        ap (λ o. option_map_or (λ g. volume_by (linear_in s.joined g) (arrays_held f) ∷ []) o []) group_is
        ∙ ap (λ (l : Linear). volume_by l (arrays_held f) ∷ []) (sym means.volume)

    meant : disks.count ≤ is.said → meaning disks c ≡ Some (volume ∷ [])
    unfolding meaning
    meant all =
        ap (λ o. option_map_or (λ why. None) o (option_map volumes_of (found disks c))) (not_refused all)
        ∙ ap (option_map volumes_of) (found_is plan birth disks c is)
        ∙ ap Some volumes_are

    all_zeros : (t : ℕ) → t < sectors_in line → volume.contents t ≡ replicate 512 0
    all_zeros t inside =
        let some = (extent_bounds plan.extent is.is_plan.extent).0 in
        let spot = spot_inside birth.pool plan.extent s.joined (array_sectors f) line 1 (held_in arrays) t (omega (arith, some)) means inside in
        let a = array_got (array_of line t) spot.low in
        let within = spot.inside in
        let sectors = sectors_now plan birth disks c is (array_of line t) a.0 a.1 in
        ap (λ b. if b then arrays_held f (array_of line t) (sector_of line t) else []) (lt-ltb t (sectors_in line) inside)
        ∙ value_now plan birth disks c is (array_of line t) a.0 a.1 (sector_of line t) (omega (arith, within, sectors))
        ∙ read.blank (array_of line t) (sector_of line t) spot.least

    pub zeros_meant : disks.count ≤ is.said → MeanZeros disks c (sectors_in line)
    zeros_meant all = record { volume = volume; meant = meant all; size = refl; zeros = all_zeros }

    -- all copies stand, or one is wanting
    pub new_meant : MeanNoneOrZeros disks c (sectors_in line)
    new_meant = elim (cases_lt is.said disks.count) [ inl some ↦ partly is.said some (state_refused some) | inr all ↦ zeros (zeros_meant all) ]

-- ---- no copies

none_foremost : (g : ℕ → Option Copied) (a n : ℕ) → ((d : ℕ) → d < a + n → g d ≡ None) → foremost epoch_of (map g (range_with_len a n)) ≡ None
unfolding foremost
none_foremost g a zero none = refl
none_foremost g a (suc n) none =
    ap (λ o. foremost epoch_of (o ∷ map g (range_with_len (a + 1) n))) (none a (omega arith)) ∙ none_foremost g (a + 1) n (λ d low. none d (omega (arith, low)))

-- disks of which none says a state show no pool
pub none_meant : (disks : Disks) (c : Image) → ((d : ℕ) → d < disks.count → SaysNone (c d state_sector)) → refusal_of disks c ≡ Some no_pool
unfolding refusal_of standing
none_meant disks c none =
    ap (λ o. option_map_or (refused_at disks c) (option_map (standing_by disks c) (option_map (λ (copy : Copied). copy.state) o)) (Some no_pool))
    (none_foremost (λ d. (identities_of disks c d).copied) 0 disks.count (λ d low. of d (omega (arith, low)) (nat_lt state_sector (disks.sectors d))))
  where
    of : (d : ℕ) → d < disks.count → (b : Bool) → (if b then result_ok (decoded (c d state_sector)) else None) ≡ None
    of d low true = none d low
    of d low false = refl
