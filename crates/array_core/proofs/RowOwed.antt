-- What the targets of a row owe, and that a commit can have them.
use Rattle.std.proofs.Common.{◌≡◌, ◌⊎◌, ℕ, ◌+◌, ◌<◌, ◌≤◌, Bool, true, false, ◌||◌, nat_lt, List, [], ◌∷◌, ◌++◌, map, take, length, refl, sym, ap, ap₂, subst, ◌∙◌, inl, inr, lt-ltb, arith}
use Rattle.std.proofs.lemmas.Bool.{both_ways}
use Rattle.std.specs.List.{list_all}
use Rattle.rack.specs.Seen.{RackView}
use Rattle.rack.specs.Targets.{Target, target}
use Rattle.rack.specs.Sequences.{IsPayload}
use Rattle.parity.specs.Xor.{xor, zeros}
use Rattle.raid_map.specs.LeftSymmetric.{IsMemberCount, member_of, sector_of, parity_at, row_at}
use Rattle.raid_map.proofs.Rows.{apart_from_parity}
use Rattle.array_image.specs.Places.{member_slice, data_sector}
use Rattle.array_image.specs.Record.{is_target, are_apart}
use Rattle.array_image.specs.Stripes.{Layout, mirror, parity, width, capacity, given, position_in, sector_in, there, AgreeIn}
use Rattle.array_image.specs.Supers.{is_reshaping}
use Rattle.array_image.specs.Arrays.{Member, Shape, column, first_layout, layout_at, value_by}
use Rattle.array_image.specs.Even.{AreEven}
use Rattle.array_image.specs.Held.{Among, current_in}
use Rattle.array_image.specs.Marks.{lower}
use Rattle.array_image.specs.Spent.{wanting, spent_with, spent_by}
use Rattle.array_image.proofs.Settled.{among_take}
use Rattle.array_model.specs.View.{View, IsArray, LosesPlaces, shape_of, spent_in, sectors_of, member_on}
use Rattle.array_model.specs.Says.{IsOpen}
use Rattle.array_model.specs.Members.{IsSameButSeats, members_of, slice_on}
use Rattle.array_model.specs.Rows.{RowChange, part_at, data_at, parity_part, IsPlain, straight}
use Rattle.array_model.proofs.Copies.{copies_change}
use Rattle.array_model.proofs.Degraded.{parity_change}
use Rattle.array_model.proofs.Filled.{two_want, long_zeros}
use Rattle.array_model.proofs.SideParity.{side_value}
use Rattle.array_model.proofs.Firsts.{map_take, position_of}
use Rattle.array_model.proofs.Layouts.{layout_by, members_count, reshaping_parity, sector_inside}
use Rattle.array_model.proofs.Looking.{look_payload}
use Rattle.array_model.proofs.Noting.{layout_is, laid_out, length_members, losing_of, spent_fewer, unspent_then, covers_before}
use Rattle.array_model.proofs.Parts.{at_is, look_one}
use Rattle.array_model.proofs.ParityRow.{data_inside, parity_inside, same_place}
use Rattle.array_model.proofs.Reading.{layout_same, open_then, slice_same, spent_given}
use Rattle.array_model.proofs.RowWrites.{part_on, plain_shape}
use Rattle.array_model.proofs.Sides.{off_side, on_side, rows_apart, straight_change, straight_part, straight_plain, straight_sector, straight_spent, straight_value, take_twice}
use Rattle.array_model.proofs.Spared.{at_most_one, lost_value, wanting_take}
use Rattle.array_model.proofs.Views.{shape_members, shape_then, members_then, loses_then, same_view_then}
use Rattle.array_core.specs.declared.members.Stand.{Stand}
use Rattle.array_core.specs.Logging.{is_due, one_if, sector_target, due_copies, MakesParity, IsChange, data_alone, with_parity, IsRowAt, StagedRow, staged_copies, staged_change}
use Rattle.array_core.specs.Writing.{Base}
use Rattle.array_core.proofs.Gathering.{spent_after, value_after}
use Rattle.array_core.proofs.RowLists.{AllOn, one_on, join_on, weaker_on, copies_on, copies_has, valid_on, copies_apart, change_apart, copies_same, some_payload, payload_or, payload_left, payload_right, one_has}

-- ---- a list that a commit can have

pub record RowList (all : Bool) (u : View) (xs : List Target) : Type 0 where
  pub sector : ℕ
  pub low : sector < u.truth.size
  pub on : AllOn u sector (λ j w. (is_due all u j sector ≡ true) × (length w ≡ 512)) xs
  pub valid : list_all is_target xs ≡ true
  pub apart : are_apart xs ≡ true
  pub some : 0 < length xs

one_apart : (due : Bool) (x : Target) → are_apart (one_if due x) ≡ true
one_apart true x = refl
one_apart false x = refl

one_some : (due : Bool) (x : Target) → due ≡ true → 0 < length (one_if due x)
one_some true x is = omega arith
one_some false x is = absurd (both_ways false refl is)

longer : (xs : List Target) (y : Target) → 0 < length (xs ++ y ∷ [])
longer [] y = omega arith
longer (x ∷ xs) y = omega arith

if_which : (due : Bool) (d0 s0 : ℕ) (bytes : List ℕ) (d s : ℕ) (v : List ℕ) → IsPayload (one_if due (target d0 s0 bytes)) d s v → (d ≡ d0) × (s ≡ s0) × (v ≡ bytes)
if_which true d0 s0 bytes d s v (inl here) = let at = at_is d s (target d0 s0 bytes) here.0 in (at.0, at.1, here.1)
if_which true d0 s0 bytes d s v (inr none) = absurd none
if_which false d0 s0 bytes d s v is = absurd is

-- of two members of an array that isn't spent one is due
due_or : (all : Bool) (u : View) (i j t : ℕ) → IsArray u → i < u.truth.raid_disks → j < u.truth.raid_disks → (i ≡ j → ⊥) → wanting t (members_of u) ≤ 1
    → is_due all u i t ≡ false → is_due all u j t ≡ true
due_or true u i j t is_array low_i low_j other few none = absurd (both_ways true none refl)
due_or false u i j t is_array low_i low_j other few none =
    let Goal : Bool → Type 0 = λ b. nat_lt t (member_on u j).reach ≡ b → b ≡ true in
    let goal : Goal (nat_lt t (member_on u j).reach) = elim (nat_lt t (member_on u j).reach) as Goal [
      | true ↦ λ is. refl
      | false ↦ λ is.
          let long = length_members u in
          let part : (k : ℕ) → k < u.truth.raid_disks → part_at k (members_of u) ≡ member_on u k =
          λ k low. subst (λ (ms : List Member). part_at k ms ≡ member_on u k) (shape_members u) (part_on u k low) in
          let two = two_want t i j (members_of u) (omega (arith, low_i, long)) (omega (arith, low_j, long)) other
          (ap (λ (m : Member). nat_lt t m.reach) (part i low_i) ∙ none) (ap (λ (m : Member). nat_lt t m.reach) (part j low_j) ∙ is) in
          absurd (omega (arith, two, few))
    ] in
    goal refl

few_want : (u : View) (x t : ℕ) → t ≡ sector_in (layout_at (shape_of u) x) x → spent_in u x ≡ false → wanting t (members_of u) ≤ 1
few_want u x t is unspent = at_most_one (wanting t (members_of u)) (nat_lt (row_at t) u.resync) (sym (spent_given u x t is) ∙ unspent)

pub row_list : (all : Bool) (u w : View) (a : RackView) (x : ℕ) (from : List ℕ) (xs : List Target) → IsArray u → x < sectors_of u → length from ≡ 512 → spent_in u x ≡ false
    → StagedRow all u w a x from xs → RowList all u xs
row_list all u w a x from xs is_array low wide unspent (staged_copies n layout) =
    let most : n ≤ u.truth.raid_disks = subst (λ (l : Layout). width l ≤ u.truth.raid_disks) layout (layout_is u x is_array).most in
    let least : 2 ≤ n = subst (λ (l : Layout). 2 ≤ width l) layout (layout_is u x is_array).least in
    let at : x ≡ sector_in (layout_at (shape_of u) x) x = ap (λ (l : Layout). sector_in l x) (sym layout) in
    let inside = sector_inside u x is_array low in
    let on = weaker_on u x (λ j v. (j < n) × (is_due all u j x ≡ true) × (v ≡ from)) (λ j v. (is_due all u j x ≡ true) × (length v ≡ 512)) (due_copies all u x from n)
    (λ j v own. (own.1, ap length own.2 ∙ wide)) (copies_on all u x from n most) in
    record {
      sector = x;
      low = omega (arith, at, inside);
      on = on;
      valid = valid_on u x _ (due_copies all u x from n) is_array on;
      apart = copies_apart all u x from n is_array most;
      some =
          let Goal : Bool → Type 0 = λ b. is_due all u 0 x ≡ b → 0 < length (due_copies all u x from n) in
          let goal : Goal (is_due all u 0 x) = elim (is_due all u 0 x) as Goal [
            | true ↦ λ is. some_payload _ _ _ from (copies_has all u x from n 0 (omega (arith, least)) is)
            | false ↦ λ is.
                some_payload _ _ _ from (copies_has all u x from n 1 (omega (arith, least))
                (due_or all u 0 1 x is_array (omega (arith, least, most)) (omega (arith, least, most)) (λ same. omega (arith, same)) (few_want u x x at unspent) is))
          ] in
          goal refl;
    }
row_list all u w a x from xs is_array low wide unspent (staged_change k at side targets row change) = of targets change
  where
    count : IsMemberCount k
    count = subst (λ (l : Layout). IsMemberCount (width l)) row.layout (members_count u x is_array)

    most : k ≤ u.truth.raid_disks
    most = subst (λ (l : Layout). width l ≤ u.truth.raid_disks) row.layout (layout_is u x is_array).most

    low_p : at.position < u.truth.raid_disks
    low_p = let inside = row.stand.position in let wide_p = row.stand.members in omega (arith, inside, wide_p)

    low_q : side.position < u.truth.raid_disks
    low_q = let inside = row.side_stand.position in let wide_q = row.side_stand.members in omega (arith, inside, wide_q)

    differ : at.position ≡ side.position → ⊥
    differ same =
        apart_from_parity k x count.least
        (ap (λ (l : Layout). position_in l x) (sym row.layout) ∙ sym row.position ∙ same ∙ row.side_position
        ∙ ap (parity_at k) (row.side_sector ∙ row.sector ∙ ap (λ (l : Layout). sector_in l x) row.layout))

    of : (ys : List Target) → IsChange all u w a at side from ys → RowList all u ys
    of ys (data_alone none) =
        let P : ℕ → List ℕ → Type 0 = λ j v. (is_due all u j at.sector ≡ true) × (length v ≡ 512) in
        let on = one_on u at.sector at.position P (is_due all u at.position at.sector) from low_p (λ due. (due, wide)) in
        record {
          sector = at.sector;
          low = row.stand.sector;
          on = on;
          valid = valid_on u at.sector P _ is_array on;
          apart = one_apart (is_due all u at.position at.sector) (sector_target u at.position at.sector from);
          some =
              one_some (is_due all u at.position at.sector) (sector_target u at.position at.sector from)
              (due_or all u side.position at.position at.sector is_array low_q low_p (λ same. differ (sym same)) (few_want u x at.sector row.sector unspent) none);
        }
    of ys (with_parity new due long makes) =
        let P : ℕ → List ℕ → Type 0 = λ j v. (is_due all u j at.sector ≡ true) × (length v ≡ 512) in
        let on = join_on u at.sector P (one_if (is_due all u at.position at.sector) (sector_target u at.position at.sector from)) (sector_target u side.position at.sector new ∷ [])
        (one_on u at.sector at.position P (is_due all u at.position at.sector) from low_p (λ own. (own, wide)))
        (one_on u at.sector side.position P true new low_q (λ own. (due, long))) in
        record {
          sector = at.sector;
          low = row.stand.sector;
          on = on;
          valid = valid_on u at.sector P _ is_array on;
          apart = change_apart u at.sector at.position side.position from new (is_due all u at.position at.sector) is_array low_p low_q differ;
          some = longer (one_if (is_due all u at.position at.sector) (sector_target u at.position at.sector from)) (sector_target u side.position at.sector new);
        }

-- ---- what they owe

unspent_base : (all : Bool) (b0 u : View) (x : ℕ) → Base all b0 u → spent_in u x ≡ false → spent_in b0 x ≡ false
unspent_base all b0 u x base unspent = covers_before b0 u base.lost (losing_of b0 u base.lost base.same base.loses) (spent_in u) (λ y alive. alive) x unspent

-- what the array holds as one reads it
pub record IsRead (b0 : View) (a : RackView) : Type 0 where
  pub opened : IsOpen (shape_of b0) b0.number a
  pub sized : (m : Member) (t : ℕ) → Among m (shape_of b0).members → t < m.reach → length (current_in a.held (member_slice m.place b0.number) (data_sector + t)) ≡ 512
  pub even : AreEven (shape_of b0) b0.number b0.resync (current_in a.held)

module _ (all : Bool) (b0 u w : View) (a : RackView) (x : ℕ) (from : List ℕ) (base : Base all b0 u) (low : x < sectors_of u) (wide : length from ≡ 512)
    (unspent : spent_in u x ≡ false) (same_w : IsSameButSeats u w) (lost_w : ℕ → Bool) (loses_w : LosesPlaces u w lost_w) (is_read : IsRead b0 a) where
  abbrev shape : Shape
  shape = shape_of b0

  layout_of_base : layout_at (shape_of u) x ≡ layout_at (shape_of b0) x
  layout_of_base = layout_same b0 u x base.same.truth

  low_base : x < sectors_of b0
  low_base = subst (λ (t : _). x < capacity (first_layout t) t.size) base.same.truth low

  -- copies are those of an array that doesn't reshape
  still : (n : ℕ) → layout_at (shape_of b0) x ≡ mirror n → is_reshaping b0.truth ≡ false
  still n layout = by (is_reshaping b0.truth) (nat_lt x b0.truth.reshape_position) refl refl
    where
      by : (b moved : Bool) → is_reshaping b0.truth ≡ b → nat_lt x b0.truth.reshape_position ≡ moved → b ≡ false
      by false moved is is_m = refl
      by true true is is_m = let bad = sym layout ∙ layout_by b0 x true true is is_m ∙ reshaping_parity b0 base.is_array is in absurd (cc)
      by true false is is_m = let bad = sym layout ∙ layout_by b0 x true false is is_m in absurd (cc)

  unspent_b : spent_by (shape_of b0) b0.resync x ≡ false
  unspent_b = unspent_base all b0 u x base unspent

  inside_b : sector_in (layout_at (shape_of b0) x) x < b0.truth.size
  inside_b = sector_inside b0 x base.is_array low_base

  disks : u.truth.raid_disks ≡ b0.truth.raid_disks
  disks = ap (λ (t : _). t.raid_disks) base.same.truth

  copies_owe : (n : ℕ) → layout_at (shape_of u) x ≡ mirror n → RowChange (shape_of b0) b0.number b0.resync x from (current_in a.held) (due_copies all u x from n)
  copies_owe n layout =
      let copied : layout_at (shape_of b0) x ≡ mirror n = sym layout_of_base ∙ layout in
      let whole = plain_shape b0 base.is_array (still n copied) in
      let plain : IsPlain (shape_of b0) (mirror n) = subst (λ (l : Layout). IsPlain (shape_of b0) l) (sym (whole.layout_is x) ∙ copied) whole in
      let at : sector_in (layout_at (shape_of b0) x) x ≡ x = ap (λ (l : Layout). sector_in l x) (sym layout_of_base ∙ layout) in
      let inside : x < b0.truth.size = (let inside = inside_b in omega (arith, inside, at)) in
      let long = length_members b0 in
      let count = plain.count in
      let members : length (shape_of b0).members ≡ b0.truth.raid_disks = ap length (shape_members b0) ∙ long in
      let least : 2 ≤ n = (let least = base.is_array.least in omega (arith, least, count, members)) in
      let xs = due_copies false b0 x from n in
      let is : due_copies all u x from n ≡ xs = copies_same all u b0 x from n base.same (λ j small. base.due j x (omega (arith, small, count, members)) inside) in
      let on = copies_on false b0 x from n (omega (arith, count, members)) in
      subst (λ ys. RowChange (shape_of b0) b0.number b0.resync x from (current_in a.held) ys) (sym is)
      (copies_change (shape_of b0) n b0.number b0.resync x from (current_in a.held) xs plain least
      (λ m among counts.
      let found = position_of b0 b0.truth.raid_disks m (subst (λ ms. Among m ms) (shape_members b0) among) in
      let small = found.1 in
      let due : is_due false b0 found.0 x ≡ true = subst (λ (o : Member). nat_lt x o.reach ≡ true) found.2 (lt-ltb x m.reach counts) in
      look_one xs (member_slice m.place b0.number) (data_sector + x) from
      (subst (λ (o : Member). IsPayload xs (member_slice o.place b0.number) (data_sector + x) from) (sym found.2) (copies_has false b0 x from n found.0 (omega (arith, small, count, members)) due))
      (λ v is_v. (on _ _ v is_v).own.2))
      (λ d i v is_v. let one = on d i v (look_payload xs d i v is_v) in (one.sector, one.own.2)))

  module _ (k : ℕ) (at side : Stand) (row : IsRowAt u x k at side) where
    here : layout_at (shape_of b0) x ≡ parity k
    here = sym layout_of_base ∙ row.layout

    most : k ≤ b0.truth.raid_disks
    most = subst (λ (l : Layout). width l ≤ b0.truth.raid_disks) here (layout_is b0 x base.is_array).most

    -- the row is one of its layout's members, which don't reshape
    plain : IsPlain (straight (shape_of b0) k) (parity k)
    plain = straight_plain b0 k base.is_array most

    count : IsMemberCount k
    count = subst (λ (l : Layout). IsMemberCount (width l)) (sym layout_of_base ∙ row.layout) (members_count b0 x base.is_array)

    t_is : at.sector ≡ sector_of k x
    t_is = row.sector ∙ ap (λ (l : Layout). sector_in l x) row.layout

    p_is : at.position ≡ member_of k x
    p_is = row.position ∙ ap (λ (l : Layout). position_in l x) row.layout

    q_is : side.position ≡ parity_at k (sector_of k x)
    q_is = row.side_position ∙ ap (parity_at k) (row.side_sector ∙ t_is)

    low_p : at.position < b0.truth.raid_disks
    low_p = let inside = row.stand.position in let most = row.stand.members in let same = disks in omega (arith, inside, most, same)

    low_q : side.position < b0.truth.raid_disks
    low_q = let inside = row.side_stand.position in let most = row.side_stand.members in let same = disks in omega (arith, inside, most, same)

    in_size : at.sector < b0.truth.size
    in_size = subst (λ (t : _). at.sector < t.size) base.same.truth row.stand.sector

    in_p : at.position < k
    in_p = subst (λ (l : Layout). at.position < width l) row.spread row.stand.position

    in_q : side.position < k
    in_q = subst (λ (l : Layout). side.position < width l) row.side_spread row.side_stand.position

    part_p : data_at (straight (shape_of b0) k) k x ≡ member_on b0 at.position
    part_p = ap (λ j. part_at j (take k (shape_of b0).members)) (sym p_is) ∙ straight_part b0 at.position k in_p most

    part_q : parity_part (straight (shape_of b0) k) k x ≡ member_on b0 side.position
    part_q = ap (λ j. part_at j (take k (shape_of b0).members)) (sym q_is) ∙ straight_part b0 side.position k in_q most

    d_p : slice_on u at.position ≡ member_slice (data_at (straight (shape_of b0) k) k x).place b0.number
    d_p = slice_same b0 u at.position base.same ∙ ap (λ (m : Member). member_slice m.place b0.number) (sym part_p)

    d_q : slice_on u side.position ≡ member_slice (parity_part (straight (shape_of b0) k) k x).place b0.number
    d_q = slice_same b0 u side.position base.same ∙ ap (λ (m : Member). member_slice m.place b0.number) (sym part_q)

    differ : member_slice (data_at (straight (shape_of b0) k) k x).place b0.number ≡ member_slice (parity_part (straight (shape_of b0) k) k x).place b0.number → ⊥
    differ same =
        apart_from_parity k x count.least
        (plain.apart (member_of k x) (parity_at k (sector_of k x)) (data_inside (straight (shape_of b0) k) k x plain count) (parity_inside (straight (shape_of b0) k) k (sector_of k x) plain count)
        (same_place (data_at (straight (shape_of b0) k) k x).place (parity_part (straight (shape_of b0) k) k x).place b0.number same))

    due_p : sector_of k x < (data_at (straight (shape_of b0) k) k x).reach → is_due all u at.position at.sector ≡ true
    due_p counts =
        base.due at.position at.sector low_p in_size
        ∙ ap₂ (λ (m : Member) s. nat_lt s m.reach) (sym part_p) t_is ∙ lt-ltb (sector_of k x) (data_at (straight (shape_of b0) k) k x).reach counts

    due_q : sector_of k x < (parity_part (straight (shape_of b0) k) k x).reach → is_due all u side.position at.sector ≡ true
    due_q counts =
        base.due side.position at.sector low_q in_size
        ∙ ap₂ (λ (m : Member) s. nat_lt s m.reach) (sym part_q) t_is ∙ lt-ltb (sector_of k x) (parity_part (straight (shape_of b0) k) k x).reach counts

    abbrev IsOne : List ℕ → ℕ → ℕ → List ℕ → Type 0
    IsOne new d s v = ((d ≡ slice_on u at.position) × (s ≡ data_sector + at.sector) × (v ≡ from)) ⊎ ((d ≡ slice_on u side.position) × (s ≡ data_sector + at.sector) × (v ≡ new))

    by_targets : (new : List ℕ) (xs : List Target) → length new ≡ 512
        → ((d s : ℕ) (v : List ℕ) → IsPayload xs d s v → IsOne new d s v)
        → (is_due all u at.position at.sector ≡ true → IsPayload xs (slice_on u at.position) (data_sector + at.sector) from)
        → (is_due all u side.position at.sector ≡ true → IsPayload xs (slice_on u side.position) (data_sector + at.sector) new)
        → (sector_of k x < (parity_part (straight (shape_of b0) k) k x).reach
        → new ≡ xor (xor (current_in a.held (member_slice (parity_part (straight (shape_of b0) k) k x).place b0.number) (data_sector + sector_of k x)) (value_by (shape_of b0) (current_in a.held) b0.number x)) from)
        → RowChange (shape_of b0) b0.number b0.resync x from (current_in a.held) xs
    by_targets new xs long which has_p has_q next =
        let n = b0.number in
        let dp = member_slice (data_at (straight (shape_of b0) k) k x).place n in
        let dq = member_slice (parity_part (straight (shape_of b0) k) k x).place n in
        let here_is : (d s : ℕ) (v : List ℕ) → IsPayload xs d s v → ((d ≡ dp) × (s ≡ data_sector + sector_of k x) × (v ≡ from)) ⊎ ((d ≡ dq) × (s ≡ data_sector + sector_of k x) × (v ≡ new)) =
        λ d s v is. elim (which d s v is) [
          | inl one ↦ inl (one.0 ∙ d_p, one.1 ∙ ap (λ i. data_sector + i) t_is, one.2)
          | inr two ↦ inr (two.0 ∙ d_q, two.1 ∙ ap (λ i. data_sector + i) t_is, two.2)
        ] in
        straight_change (shape_of b0) k n b0.resync x from (current_in a.held) xs here (λ y. rows_apart b0 x k y base.is_array here)
        (λ d i v is. elim (here_is d i v (look_payload xs d i v is)) [ inl one ↦ one.1 | inr two ↦ two.1 ])
        (parity_change (straight (shape_of b0) k) k n b0.resync x from new (current_in a.held) xs plain count wide long
        (λ m t among counts. is_read.sized m t (among_take k (shape_of b0).members m among) counts)
        (λ counts.
        look_one xs dp (data_sector + sector_of k x) from
        (subst (λ d. IsPayload xs d (data_sector + sector_of k x) from) d_p (subst (λ i. IsPayload xs (slice_on u at.position) (data_sector + i) from) t_is (has_p (due_p counts))))
        (λ v is. elim (here_is dp _ v is) [ inl one ↦ one.2 | inr two ↦ absurd (differ two.0) ]))
        (λ counts.
        look_one xs dq (data_sector + sector_of k x) new
        (subst (λ d. IsPayload xs d (data_sector + sector_of k x) new) d_q (subst (λ i. IsPayload xs (slice_on u side.position) (data_sector + i) new) t_is (has_q (due_q counts))))
        (λ v is. elim (here_is dq _ v is) [ inl one ↦ absurd (differ (sym one.0)) | inr two ↦ two.2 ]))
        (λ d i v is. here_is d i v (look_payload xs d i v is))
        (straight_spent (shape_of b0) k b0.resync x here unspent_b)
        (λ counts. next counts ∙ ap (λ v. xor (xor (current_in a.held (member_slice (parity_part (straight (shape_of b0) k) k x).place n) (data_sector + sector_of k x)) v) from) (sym (straight_value (shape_of b0) k n x (current_in a.held) here))))

    opened_u : IsOpen (shape_of u) u.number a
    opened_u = open_then b0 u a a base.same base.lost base.loses a is_read.opened

    old_is : (new : List ℕ) (makes : MakesParity u w a at side from new) → makes.old ≡ value_by (shape_of b0) (current_in a.held) b0.number x
    old_is new makes =
        let spread = row.spread ∙ sym row.layout in
        let same = same_view_then b0 u makes.found base.same makes.same in
        let lost : ℕ → Bool = λ place. makes.lost place || base.lost place in
        let loses = loses_then b0 u makes.found base.lost makes.lost base.same.truth base.loses makes.loses in
        value_after u makes.found x at a makes.old makes.same spread row.position row.sector (makes.old_is opened_u)
        ∙ ap₂ (λ (g : Shape) n. value_by g (current_in a.held) n x) (shape_then b0 makes.found lost same.truth loses) base.same.number
        ∙ lost_value lost (shape_of b0) b0.number b0.resync (current_in a.held) x (laid_out b0 base.is_array) is_read.even is_read.sized
        (unspent_then b0 makes.found lost (losing_of b0 makes.found lost same loses) x (spent_after u makes.found x at false makes.same spread row.position row.sector makes.unspent))

    size_is : (v : View) → (shape_of v).size ≡ v.truth.size
    unfolding shape_of
    size_is v = refl

    parity_is : (new : List ℕ) (makes : MakesParity u w a at side from new) → sector_of k x < (parity_part (straight (shape_of b0) k) k x).reach
        → makes.side_old ≡ current_in a.held (member_slice (parity_part (straight (shape_of b0) k) k x).place b0.number) (data_sector + sector_of k x)
    parity_is new makes counts =
        let same = same_view_then b0 u w base.same same_w in
        let lost : ℕ → Bool = λ place. lost_w place || base.lost place in
        let loses = loses_then b0 u w base.lost lost_w base.same.truth base.loses loses_w in
        let members : members_of w ≡ map (lower lost) (shape_of b0).members = members_then b0 w lost same.truth loses ∙ ap (map (lower lost)) (sym (shape_members b0)) in
        let s_is : side.sector ≡ sector_of k x = row.side_sector ∙ t_is in
        let Row : Layout → List Member → ℕ → ℕ → ℕ → List ℕ = λ l ms n i j. given l (map (column (current_in a.held) n i) (take (width l) ms)) j in
        let low : Member → Member = lower lost in
        let all : List Member = (shape_of b0).members in
        let t = sector_of k x in
        let taken : take k (map low (take k all)) ≡ take k (map low all) = ap (take k) (sym (map_take low k all)) ∙ take_twice k (map low all) in
        let unspent_all : spent_with (wanting t (map low all)) (nat_lt (row_at t) b0.resync) ≡ false =
        sym (λ i. spent_with (wanting (s_is i) (members i)) (nat_lt (row_at (s_is i)) (same.resync i))) ∙ makes.still in
        let unspent_side : spent_with (wanting t (map low (take k all))) (nat_lt (row_at t) b0.resync) ≡ false =
        spent_fewer (wanting t (map low (take k all))) (wanting t (map low all)) (nat_lt (row_at t) b0.resync)
        (subst (λ ms. wanting t ms ≤ wanting t (map low all)) (map_take low k all) (wanting_take k t (map low all))) unspent_all in
        let Agree : Layout → List Member → Type 0 = λ l ms. AgreeIn l (there (map (column (current_in a.held) b0.number (sector_in l x)) ms)) in
        makes.side_is opened_u
        ∙ (λ i. Row (row.side_spread i) (members i) (same.number i) (s_is i) ((row.side_position ∙ ap (parity_at k) s_is) i))
        ∙ ap (λ ms. given (parity k) (map (column (current_in a.held) b0.number t) ms) (parity_at k t)) (sym taken)
        ∙ side_value (straight (shape_of b0) k) k b0.number b0.resync x (current_in a.held) lost plain count
        (λ m i among counts. is_read.sized m i (among_take k all m among) counts)
        (λ synced counts.
        on_side (shape_of b0) k x here Agree
        (is_read.even x (subst (λ n. sector_in (layout_at (shape_of b0) x) x < n) (sym (size_is b0)) inside_b)
        (subst (λ i. row_at i < b0.resync) (straight_sector (shape_of b0) k x here) synced)
        (off_side (shape_of b0) k x here (λ l ms. (m : Member) → Among m ms → sector_in l x < m.reach) counts)))
        unspent_side counts

    change_owes : (xs : List Target) → IsChange all u w a at side from xs → RowChange (shape_of b0) b0.number b0.resync x from (current_in a.held) xs
    change_owes xs (data_alone none) =
        let own = one_if (is_due all u at.position at.sector) (sector_target u at.position at.sector from) in
        by_targets (zeros 512) own long_zeros
        (λ d s v is. inl (one_which d s v is))
        (λ due. one_has (is_due all u at.position at.sector) (sector_target u at.position at.sector from) due)
        (λ due. absurd (both_ways (is_due all u side.position at.sector) none due))
        (λ counts. absurd (both_ways (is_due all u side.position at.sector) none (due_q counts)))
      where
        one_which : (d s : ℕ) (v : List ℕ) → IsPayload (one_if (is_due all u at.position at.sector) (sector_target u at.position at.sector from)) d s v
            → (d ≡ slice_on u at.position) × (s ≡ data_sector + at.sector) × (v ≡ from)
        one_which d s v is = if_which (is_due all u at.position at.sector) (slice_on u at.position) (data_sector + at.sector) from d s v is
    change_owes xs (with_parity new due long makes) =
        let own = one_if (is_due all u at.position at.sector) (sector_target u at.position at.sector from) in
        let second = sector_target u side.position at.sector new ∷ [] in
        by_targets new (own ++ second) long
        (λ d s v is. elim (payload_or own second d s v is) [
          | inl one ↦ inl (if_which (is_due all u at.position at.sector) (slice_on u at.position) (data_sector + at.sector) from d s v one)
          | inr two ↦ inr (if_which true (slice_on u side.position) (data_sector + at.sector) new d s v two)
        ])
        (λ is_due_p. payload_left own second _ _ from (one_has (is_due all u at.position at.sector) (sector_target u at.position at.sector from) is_due_p))
        (λ is_due_q. payload_right own second _ _ new (one_has true (sector_target u side.position at.sector new) refl))
        (λ counts. makes.new_is ∙ ap₂ (λ p q. xor (xor p q) from) (parity_is new makes counts) (old_is new makes))

  pub row_owes : (xs : List Target) → StagedRow all u w a x from xs → RowChange (shape_of b0) b0.number b0.resync x from (current_in a.held) xs
  row_owes xs (staged_copies n layout) = copies_owe n layout
  row_owes xs (staged_change k at side targets row change) = change_owes k at side row targets change
