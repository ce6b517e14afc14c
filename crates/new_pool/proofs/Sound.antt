-- The states, the superblocks and the rows of a new pool agree.
use Rattle.std.proofs.Common.{◌≡◌, ℕ, pos, zero, suc, ◌+◌, ◌*◌, ◌%◌, ◌<◌, ◌≤◌, ◌==◌, ◌&&◌, ◌||◌, nat_lt, Bool, true, false, List, get_or, map, length, slice_get, take, if◌then◌else◌, Option, Some, None, option_map, unwrap_or, refl, sym, ap, subst, ◌∙◌, inl, inr, lt-ltb, eq-eqb, eqb-true, arith}
use Rattle.std.specs.Option.{option_map_or}
use Rattle.std.specs.Ordering.{int_eq}
use Rattle.std.specs.List.{list_all, range_with_len}
use Rattle.std.proofs.Math.Nat.{mul-mod_left}
use Rattle.std.proofs.lemmas.Bool.{and_parts, both_ways, cases_Bool, cases_lt}
use Rattle.std.proofs.lemmas.List.Quantifiers.{position-Some}
use Rattle.std.proofs.lemmas.Option.{none-some, slice_get-get_or}
use Rattle.parity.specs.Xor.{xor_all, zeros}
use Rattle.rack.specs.Seen.{Image}
use Rattle.md_super.specs.declared.superblock.Super.{Super}
use Rattle.pool_state.specs.declared.contents.State.{State}
use Rattle.array_image.specs.Places.{data_sector, member_slice, super_sector}
use Rattle.array_image.specs.States.{is_current}
use Rattle.array_image.specs.Stripes.{AgreeIn, AreAll, Layout, first_there, mirror, parity, sector_in, there, width}
use Rattle.array_image.specs.Supers.{has_roles, is_named, is_rebuilding, named_places, new_row, super_in, truth_in}
use Rattle.array_image.specs.Arrays.{Shape, column, layout_at, member_in, place_with, shape_by, shape_in, stripe_in}
use Rattle.array_image.specs.Even.{AreEven}
use Rattle.array_image.specs.SoundArray.{IsSoundArray, IsWrittenSuper, array_fields, first_unsynced}
use Rattle.array_image.proofs.Frames.{super_of_sector}
use Rattle.array_core.proofs.Rules.{get_map, get_range, placed, zero_more}
use Rattle.pool_image.specs.Disks.{Disks, identities_of}
use Rattle.pool_image.specs.Drives.{Found, extent_of, slices_of}
use Rattle.pool_image.specs.Meaning.{truth_of}
use Rattle.pool_image.specs.Sound.{IsSoundState}
use Rattle.pool_image.proofs.Identities.{seat_inside}
use Rattle.pool_image.proofs.Truths.{slice_of_member, slice_sector}
use Rattle.pool_format.specs.declared.Birth.{Birth}
use Rattle.pool_format.specs.declared.planning.NewArray.{NewArray}
use Rattle.pool_format.specs.declared.planning.NewPool.{NewPool}
use Rattle.pool_format.specs.Data.{IsMemberData, array_sector}
use Rattle.new_array.specs.Supers.{new_roles, role_of}
use Rattle.pool_format.specs.Parts.{new_state, new_super}
use Rattle.pool_format.specs.Plan.{has}
use Rattle.pool_format.proofs.Founded.{drive_current}
use Rattle.pool_format.proofs.Opening.{members_few, position_member}
use Rattle.new_array.proofs.Extents.{extent_chunks}
use Rattle.pool_format.proofs.Units.{extent_bounds}
use Rattle.pool_format.proofs.Lists.{got}
use Rattle.new_array.proofs.Roles.{named_at, role_low, role_spare}
use Rattle.pool_format.proofs.Supers.{roles_ok}
use Rattle.new_pool.specs.Contents.{IsNewPool}
use Rattle.new_pool.proofs.Identities.{copy_here}
use Rattle.new_pool.proofs.Founds.{shown}
use Rattle.new_pool.proofs.Rows.{columns, copies_agree, parity_agrees}
use Rattle.new_pool.proofs.Truths.{IsNewTruth, array_is, extent_at, from, low_array, member_low, no_super, slice_at, some_one, super_from, truth_at, truth_here}

nothing_mod : (n : ℕ) → 0 % n ≡ 0
nothing_mod n = let none : 0 ≡ 0 * n = omega arith in ap (λ v. v % n) none ∙ mul-mod_left 0 n

-- ---- one array

module _ (plan : NewPool) (birth : Birth) (disks : Disks) (c : Image) (is : IsNewPool plan birth disks c) (n : ℕ) (a : NewArray) (at : slice_get plan.arrays.items n ≡ Some a) where
  abbrev f : Found
  f = shown plan birth disks c is

  abbrev s : State
  s = new_state plan birth

  abbrev slices : Image
  slices = slices_of f

  abbrev k : ℕ
  k = length a.members.items

  abbrev block : ℕ → Super
  block p = new_super birth a n p

  super_same : (p : ℕ) → super_in s slices n p ≡ super_in s (from plan birth disks c is n a at) n p
  super_same p =
      super_of_sector s slices (from plan birth disks c is n a at) n p
      (slice_sector f (member_slice p n) super_sector a.first (data_sector + a.size)
      (ap (extent_of f) (slice_of_member p n (low_array plan birth disks c is n a at)) ∙ extent_at plan birth disks c is n a at) (omega arith))

  pub super_at : (p : ℕ) → has a.members.items p ≡ true → super_in s slices n p ≡ Some (block p)
  super_at p among = super_same p ∙ super_from plan birth disks c is n a at p among

  pub super_is : (p : ℕ) (u : Super) → is_current s p ≡ true → super_in s slices n p ≡ Some u → (has a.members.items p ≡ true) × (u ≡ block p)
  super_is p u current here = elim (cases_Bool (has a.members.items p)) [
    | inl among ↦ (among, some_one u (block p) (sym here ∙ super_at p among))
    | inr apart ↦ absurd (none-some u (sym (super_same p ∙ no_super plan birth disks c is n a at p apart current) ∙ here))
  ]

  roles_good : (p : ℕ) → p < 16 → has_roles 16 (block p) ≡ true
  roles_good p low =
      let one = array_is plan birth disks c is n a at in
      roles_ok birth a n p plan.extent (length plan.units.items) is.is_plan.most one low (members_few a plan.extent (length plan.units.items) one is.is_plan.most) 16 is.is_plan.most

  low_member : (p : ℕ) → has a.members.items p ≡ true → p < 16
  low_member p among =
      let low = member_low plan birth disks c is n a at p among in
      let many = is.count in
      let most = is.is_plan.most in
      omega (arith, low, many, most)

  -- the roles that a pool writes
  good_roles : list_all (λ role. nat_lt role 0xfffe || (role == 0xffff)) (new_roles a.members.items) ≡ true
  good_roles = of_range 0 128
    where
      of_role : (p : ℕ) → (nat_lt (role_of a.members.items p) 0xfffe || (role_of a.members.items p == 0xffff)) ≡ true
      of_role p = elim (cases_Bool (has a.members.items p)) [
        | inl among ↦
            let low = role_low a.members.items p among in
            let few = members_few a plan.extent (length plan.units.items) (array_is plan birth disks c is n a at) is.is_plan.most in
            ap (λ b. b || (role_of a.members.items p == 0xffff)) (lt-ltb (role_of a.members.items p) 0xfffe (omega (arith, low, few)))
        | inr apart ↦ ap (λ r. nat_lt r 0xfffe || (r == 0xffff)) (role_spare a.members.items p apart)
      ]

      of_range : (b m : ℕ) → list_all (λ role. nat_lt role 0xfffe || (role == 0xffff)) (map (role_of a.members.items) (range_with_len b m)) ≡ true
      of_range b zero = refl
      of_range b (suc m) = ap (λ t. t && list_all (λ role. nat_lt role 0xfffe || (role == 0xffff)) (map (role_of a.members.items) (range_with_len (b + 1) m))) (of_role b) ∙ of_range (b + 1) m

  written : (p : ℕ) → IsWrittenSuper n (block p)
  written p = record {
    name = refl;
    times = refl;
    roles = good_roles;
    step = refl;
    next_level = refl;
    next_layout = refl;
    next_chunk = refl;
    position = nothing_mod (new_row (block p));
    last_position = omega arith;
    no_position = λ not_reshaping. refl;
    resync = inl refl;
  }

  two_members : (p : ℕ) → has a.members.items p ≡ true → 2 ≤ length (named_places (block p))
  two_members p among =
      let parts = and_parts (length (named_places (block p)) == k) _ (roles_good p (low_member p among)) in
      let many = eqb-true (length (named_places (block p))) k parts.0 in
      let least = (array_is plan birth disks c is n a at).least in
      omega (arith, many, least)

  -- ---- its rows

  abbrev array : ℕ → List ℕ
  array = array_sector plan birth n

  module _ (first : ℕ) (is_member : has a.members.items first ≡ true) where
    abbrev u : Super
    u = block first

    -- the place of a position
    abbrev place : ℕ → ℕ
    place j = unwrap_or (place_with u.roles.items j) 16

    pub among_at : (j : ℕ) → j < k → has a.members.items (place j) ≡ true
    among_at j low =
        let one = array_is plan birth disks c is n a at in
        let chunks = extent_chunks plan.extent is.is_plan.extent in
        let wide = (extent_bounds plan.extent is.is_plan.extent).0 in
        position_member birth a n plan.extent (length plan.units.items) chunks.0 is.is_plan.most one chunks.1 (omega (arith, wide)) (members_few a plan.extent (length plan.units.items) one is.is_plan.most)
        first j (low_member first is_member) low

    -- has that position
    role_at : (j : ℕ) → j < k → role_of a.members.items (place j) ≡ j
    role_at j low =
        let there = placed u j (roles_good first (low_member first is_member)) low in
        let found = position-Some (λ role. role == j) u.roles.items there.0 0 there.1 in
        let role = eqb-true (get_or u.roles.items there.0 0) j found.1 in
        let inside : there.0 < 128 = let few = there.2 in omega (arith, few) in
        let own : slice_get u.roles.items there.0 ≡ Some (role_of a.members.items there.0) =
        get_map (role_of a.members.items) (range_with_len 0 128) there.0 ∙ ap (option_map (role_of a.members.items)) (get_range 0 128 there.0 inside) ∙ ap (λ (q : ℕ). Some (role_of a.members.items q)) (zero_more there.0) in
        let same : Some (role_of a.members.items there.0) ≡ Some (get_or u.roles.items there.0 0) = sym own ∙ slice_get-get_or u.roles.items there.0 0 found.0 in
        ap (λ (o : Option ℕ). role_of a.members.items (unwrap_or o 16)) there.1
        ∙ ap (λ (o : Option ℕ). unwrap_or o 0) same ∙ role

    -- what stands at a sector of the members' data
    abbrev pub value : ℕ → ℕ → List ℕ
    value sector j = slices (member_slice (place j) n) (data_sector + sector)

    pub column_at : (sector j : ℕ) → sector < a.size → j < k → column slices n sector (member_in s slices n u j) ≡ Some (value sector j)
    column_at sector j inside low =
        let among = among_at j low in
        let drive = member_low plan birth disks c is n a at (place j) among in
        ap (λ b. if nat_lt sector (if b then option_map_or (λ (own : Super). if is_rebuilding own then own.recovery_offset else a.size) (super_in s slices n (place j)) 0 else 0) then Some (value sector j) else None)
        (drive_current plan birth is.is_plan (place j) (subst (λ m. place j < m) is.count drive))
        ∙ ap (λ o. if nat_lt sector (option_map_or (λ (own : Super). if is_rebuilding own then own.recovery_offset else a.size) o 0) then Some (value sector j) else None) (super_at (place j) among)
        ∙ ap (λ b. if b then Some (value sector j) else None) (lt-ltb sector a.size inside)

    pub data_at : (sector j : ℕ) → sector < a.size → j < k → IsMemberData k array j sector (value sector j)
    data_at sector j inside low =
        let among = among_at j low in
        let drive = member_low plan birth disks c is n a at (place j) among in
        let here : a.first + (data_sector + sector) ≡ a.first + data_sector + sector = omega arith in
        subst (λ v. IsMemberData k array j sector v) (sym (slice_at plan birth disks c is n a at (place j) (data_sector + sector) among (omega (arith, inside)) ∙ ap (c (place j)) here))
        (subst (λ r. IsMemberData k array r sector (c (place j) (a.first + data_sector + sector))) (role_at j low)
        ((is.drives (place j) drive).member_data n a at among sector inside))

    value_sized : (sector j : ℕ) → sector < a.size → j < k → length (value sector j) ≡ 512
    value_sized sector j inside low =
        let among = among_at j low in
        let drive = member_low plan birth disks c is n a at (place j) among in
        let room = is.members n (place j) a at among drive in
        ap (λ (v : List ℕ). length v) (slice_at plan birth disks c is n a at (place j) (data_sector + sector) among (omega (arith, inside)))
        ∙ is.sized (place j) (a.first + (data_sector + sector)) drive (omega (arith, room, inside))

    -- that of a member, as far as it counts
    pub value_at_sized : (sector j : ℕ) → j < k → sector < (member_in s slices n u j).reach → length (slices (member_slice (member_in s slices n u j).place n) (data_sector + sector)) ≡ 512
    value_at_sized sector j low reached =
        let among = among_at j low in
        let drive = member_low plan birth disks c is n a at (place j) among in
        let reach : (member_in s slices n u j).reach ≡ a.size =
        ap (λ b. if b then option_map_or (λ (own : Super). if is_rebuilding own then own.recovery_offset else a.size) (super_in s slices n (place j)) 0 else 0)
        (drive_current plan birth is.is_plan (place j) (subst (λ m. place j < m) is.count drive))
        ∙ ap (λ o. option_map_or (λ (own : Super). if is_rebuilding own then own.recovery_offset else a.size) o 0) (super_at (place j) among) in
        value_sized sector j (subst (λ size. sector < size) reach reached) low

    abbrev pub layout_by : Bool → Layout
    layout_by two = if int_eq (pos (if two then 1 else 5)) (pos 1) then mirror k else parity k

    agrees_by : (sector : ℕ) → sector < a.size → (two : Bool) → (k == 2) ≡ two
        → AgreeIn (layout_by two) (there (map (column slices n sector) (take (width (layout_by two)) (map (member_in s slices n u) (range_with_len 0 k)))))
    agrees_by sector inside true two =
        let least = (array_is plan birth disks c is n a at).least in
        subst (λ vs. AreAll (first_there vs) vs) (sym (columns slices n sector (member_in s slices n u) (value sector) 0 k (λ j from low. column_at sector j inside (omega (arith, low)))))
        (copies_agree (array sector) (value sector) k (omega (arith, least)) (λ j low. (data_at sector j inside low).mirror (eqb-true k 2 two)))
    agrees_by sector inside false more =
        let least = (array_is plan birth disks c is n a at).least in
        let wide : 2 < k = elim (cases_lt 2 k) [ inl less ↦ less | inr few ↦ absurd (both_ways (k == 2) more (eq-eqb k 2 (omega (arith, least, few)))) ] in
        subst (λ vs. xor_all 512 vs ≡ zeros 512) (sym (columns slices n sector (member_in s slices n u) (value sector) 0 k (λ j from low. column_at sector j inside (omega (arith, low)))))
        (parity_agrees k array sector (value sector) wide (λ j low. value_sized sector j inside low) (λ j x low stands. (data_at sector j inside low).own wide x stands) (λ j low parity. (data_at sector j inside low).parity wide parity))

    pub same_layout : (x : ℕ) → layout_at (shape_by s slices n u) x ≡ layout_by (k == 2)
    unfolding shape_by
    same_layout x = of (nat_lt x 0) (layout_by (k == 2))
      where
        of : (b : Bool) (l : Layout) → (if b then l else l) ≡ l
        of true l = refl
        of false l = refl

    even_by : (resync : ℕ) → AreEven (shape_by s slices n u) n resync slices
    unfolding shape_by
    even_by resync x inside row all =
        let sector : ℕ = sector_in (layout_at (shape_by s slices n u) x) x in
        subst (λ l. AgreeIn l (there (stripe_in slices n (shape_by s slices n u) l sector))) (sym (same_layout x)) (agrees_by sector inside (k == 2) refl)

    truth_is : truth_in s slices n ≡ Some u → (shape : Shape) → shape_in s slices n ≡ Some shape → shape_by s slices n u ≡ shape
    truth_is here shape shape_is = some_shape (sym (ap (option_map (shape_by s slices n)) here) ∙ shape_is)
      where
        some_shape : {x y : Shape} → Some x ≡ Some y → x ≡ y
        some_shape same = (cc)

    agreeing : truth_in s slices n ≡ Some u → IsSoundArray s slices n u
    agreeing here = record {
      two = two_members first is_member;
      written = written first;
      same = λ p q v w current_p current_q here_p here_q events.
          ap array_fields (super_is p v current_p here_p).1 ∙ sym (ap array_fields (super_is q w current_q here_q).1);
      rebuilt = λ p v current_p here_p rebuilding.
          absurd (both_ways (is_rebuilding v) (ap is_rebuilding (super_is p v current_p here_p).1) rebuilding);
      even = λ ready shape shape_is.
          subst (λ sh. AreEven sh n (first_unsynced u) slices) (truth_is here shape shape_is) (even_by (first_unsynced u));
    }

    named_own : is_named u u.dev_number ≡ true
    named_own =
        let few = members_few a plan.extent (length plan.units.items) (array_is plan birth disks c is n a at) is.is_plan.most in
        let low = low_member first is_member in
        named_at u a.members.items refl few first (omega (arith, low)) ∙ is_member

  -- the array agrees, by the superblock of one of its members
  pub record IsNewArrayOf (t : Super) : Type 0 where
    pub truth_is : truth_in s slices n ≡ Some t
    pub sound : IsSoundArray s slices n t
    pub own : is_named t t.dev_number ≡ true
    pub is_new : IsNewTruth plan birth disks c is n a at t

  pub new_array : (t : Super) × IsNewArrayOf t
  new_array =
      let truth = truth_here plan birth disks c is n a at in
      let new : IsNewTruth plan birth disks c is n a at truth.0 = truth.2 in
      let here : truth_in s slices n ≡ Some (block new.place) = truth_at plan birth disks c is n a at ∙ ap Some new.is_new in (
        block new.place,
        record {
          truth_is = here;
          sound = agreeing new.place new.among here;
          own = named_own new.place new.among;
          is_new = record { place = new.place; among = new.among; is_new = refl };
        },
      )

-- ---- the pool

module _ (plan : NewPool) (birth : Birth) (disks : Disks) (c : Image) (is : IsNewPool plan birth disks c) where
  abbrev pub pool : Found
  pool = shown plan birth disks c is

  -- what a number below those of the arrays is
  array_got : (n : ℕ) → n < (new_state plan birth).made → (a : NewArray) × (slice_get plan.arrays.items n ≡ Some a)
  array_got n low = got plan.arrays.items n low

  pub sound_state : IsSoundState pool
  sound_state = record {
    arrays = λ n low.
        let a = array_got n low in
        let one = new_array plan birth disks c is n a.0 a.1 in
        (one.0, (one.1).truth_is, (one.1).sound);
    joined = λ no_plan. refl;
    copies = λ d copy low here same. copy_here plan birth disks c is d copy low here;
    epochs = λ place d copy seated here.
        ap (λ (t : State). t.epoch) (copy_here plan birth disks c is d copy (seat_inside (new_state plan birth) disks (identities_of disks c) place d seated) here);
  }

  -- each array's truth is the superblock of a member of it
  pub own_truth : (n : ℕ) (u : Super) → n < pool.state.made → truth_of pool n ≡ Some u → is_named u u.dev_number ≡ true
  own_truth n u low here =
      let a = array_got n low in
      let one = new_array plan birth disks c is n a.0 a.1 in
      subst (λ (t : Super). is_named t t.dev_number ≡ true) (some_one one.0 u (sym (one.1).truth_is ∙ here)) (one.1).own
