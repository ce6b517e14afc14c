-- Rows of an array that may be reshaped: below its position and above it they share no sector of the members. So a row is that of an
-- array of the first members alone, which doesn't reshape.
use Rattle.std.proofs.Common.{◌≡◌, ◌⊎◌, ℕ, zero, suc, ◌+◌, ◌-◌, ◌*◌, ◌/◌, ◌%◌, ◌<◌, ◌≤◌, Bool, true, false, ◌==◌, nat_lt, if◌then◌else◌, List, [], ◌∷◌, map, take, length, Option, Some, None, unwrap_or, refl, sym, ap, subst, ◌∙◌, inl, inr, eqb-true, ltb-true, ltb-false, arith}
use Rattle.std.proofs.Math.Nat.{div-add-mod, mul-le-mul_left, mul-le-mul_right}
use Rattle.rack.specs.Seen.{Image}
use Rattle.rack.specs.Targets.{Target, look}
use Rattle.md_super.specs.Profile.{is_mirror}
use Rattle.raid_map.specs.LeftSymmetric.{member_of, sector_of, row_at, row_of}
use Rattle.raid_map.proofs.Rows.{rows_are_apart}
use Rattle.array_image.specs.Places.{member_slice, data_sector}
use Rattle.array_image.specs.Stripes.{Layout, parity, width, position_in, sector_in, there, given, AgreeIn}
use Rattle.array_image.specs.Arrays.{Member, Shape, column, layout_at, value_by}
use Rattle.array_image.specs.Held.{Among, member_at, source_in}
use Rattle.array_image.specs.Even.{AllCount}
use Rattle.array_image.specs.Spent.{wanting, spent_with, spent_by}
use Rattle.array_image.specs.Supers.{is_reshaping}
use Rattle.array_image.proofs.Frames.{value_by_data}
use Rattle.array_model.specs.View.{View, IsArray, member_on, shape_of}
use Rattle.array_model.specs.Rows.{AgreeAt, IsPlain, RowChange, part_at, source_at, sector_at, straight, written}
use Rattle.array_model.proofs.DataFrames.{columns_same}
use Rattle.array_model.proofs.Layouts.{layout_by, reshaping_parity}
use Rattle.array_model.proofs.Noting.{length_members, length_taken, spent_fewer}
use Rattle.array_model.proofs.RowWrites.{part_on, places_apart}
use Rattle.array_model.proofs.Spared.{wanting_take}
use Rattle.array_model.proofs.Views.{shape_members}

-- ---- the array of one side

pub straight_layout : (shape : Shape) (k y : ℕ) → layout_at (straight shape k) y ≡ parity k
straight_layout shape k y = elim (nat_lt y 0) as (λ b. (if b then parity k else parity k) ≡ parity k) [ true ↦ refl | false ↦ refl ]

pub take_twice : (k : ℕ) (members : List Member) → take k (take k members) ≡ take k members
take_twice zero members = refl
take_twice (suc k) [] = refl
take_twice (suc k) (m ∷ others) = ap (λ ms. m ∷ ms) (take_twice k others)

-- what is said of a sector by its layout and its members
module _ (shape : Shape) (k y : ℕ) (here : layout_at shape y ≡ parity k) (Said : Layout → List Member → Type 0) where
  pub on_side : Said (layout_at shape y) (take (width (layout_at shape y)) shape.members)
      → Said (layout_at (straight shape k) y) (take (width (layout_at (straight shape k) y)) (take k shape.members))
  on_side said =
      subst (λ l. Said l (take (width l) (take k shape.members))) (sym (straight_layout shape k y))
      (subst (Said (parity k)) (sym (take_twice k shape.members)) (subst (λ l. Said l (take (width l) shape.members)) here said))

  pub off_side : Said (layout_at (straight shape k) y) (take (width (layout_at (straight shape k) y)) (take k shape.members))
      → Said (layout_at shape y) (take (width (layout_at shape y)) shape.members)
  off_side said =
      subst (λ l. Said l (take (width l) shape.members)) (sym here)
      (subst (Said (parity k)) (take_twice k shape.members) (subst (λ l. Said l (take (width l) (take k shape.members))) (straight_layout shape k y) said))

pub straight_sector : (shape : Shape) (k y : ℕ) → layout_at shape y ≡ parity k → sector_at (straight shape k) y ≡ sector_at shape y
straight_sector shape k y here = ap (λ l. sector_in l y) (straight_layout shape k y ∙ sym here)

pub straight_value : (shape : Shape) (k n y : ℕ) (c : Image) → layout_at shape y ≡ parity k → value_by (straight shape k) c n y ≡ value_by shape c n y
unfolding value_by
straight_value shape k n y c here =
    off_side shape k y here
    (λ l ms. value_by (straight shape k) c n y ≡ given l (map (column c n (sector_in l y)) ms) (position_in l y)) refl

pub straight_spent : (shape : Shape) (k resync y : ℕ) → layout_at shape y ≡ parity k → spent_by shape resync y ≡ false → spent_by (straight shape k) resync y ≡ false
straight_spent shape k resync y here unspent =
    subst (λ t. spent_with (wanting t (take k shape.members)) (nat_lt (row_at t) resync) ≡ false) (sym (straight_sector shape k y here))
    (spent_fewer (wanting (sector_at shape y) (take k shape.members)) (wanting (sector_at shape y) shape.members) (nat_lt (row_at (sector_at shape y)) resync)
    (wanting_take k (sector_at shape y) shape.members) unspent)

pub straight_source : (shape : Shape) (k y : ℕ) → layout_at shape y ≡ parity k → source_at (straight shape k) y ≡ source_at shape y
straight_source shape k y here =
    ap (λ l. source_in l (sector_in l y) (position_in l y) (take k shape.members)) (straight_layout shape k y)
    ∙ ap (member_at (sector_of k y) (member_of k y)) (take_twice k shape.members)
    ∙ sym (ap (λ l. source_in l (sector_in l y) (position_in l y) shape.members) here)

-- its members stand at their positions
part_take : (j k : ℕ) (members : List Member) → j < k → part_at j (take k members) ≡ part_at j members
part_take j zero members low = absurd (omega (arith, low))
part_take j (suc k) [] low = refl
part_take zero (suc k) (m ∷ others) low = refl
part_take (suc j) (suc k) (m ∷ others) low = part_take j k others (omega (arith, low))

pub straight_part : (v : View) (j k : ℕ) → j < k → k ≤ v.truth.raid_disks → part_at j (straight (shape_of v) k).members ≡ member_on v j
straight_part v j k low most = part_take j k (shape_of v).members low ∙ part_on v j (omega (arith, low, most))

pub straight_plain : (v : View) (k : ℕ) → IsArray v → k ≤ v.truth.raid_disks → IsPlain (straight (shape_of v) k) (parity k)
straight_plain v k is_array most =
    let long : length (shape_of v).members ≡ v.truth.raid_disks = ap length (shape_members v) ∙ length_members v in
    let count : length (take k (shape_of v).members) ≡ k = length_taken k (shape_of v).members (omega (arith, long, most)) in
    record {
      layout_is = straight_layout (shape_of v) k;
      count = count;
      apart = λ i j low_i low_j same.
          let in_i : i < k = omega (arith, low_i, count) in
          let in_j : j < k = omega (arith, low_j, count) in
          places_apart v i j is_array (omega (arith, in_i, most)) (omega (arith, in_j, most))
          (sym (ap (λ (m : Member). m.place) (straight_part v i k in_i most)) ∙ same ∙ ap (λ (m : Member). m.place) (straight_part v j k in_j most));
    }

-- ---- a change of one side

module _ (shape : Shape) (k n resync x : ℕ) (from : List ℕ) (cur : Image) (xs : List Target)
    (here : layout_at shape x ≡ parity k)
    (apart : (y : ℕ) → (layout_at shape y ≡ parity k) ⊎ (sector_at shape y ≡ sector_of k x → ⊥))
    (only : (d i : ℕ) (u : List ℕ) → look xs d i ≡ Some u → i ≡ data_sector + sector_of k x)
    (change : RowChange (straight shape k) n resync x from cur xs) where
  at_x : sector_at shape x ≡ sector_of k x
  at_x = ap (λ l. sector_in l x) here

  kept : (y : ℕ) → (sector_at shape y ≡ sector_of k x → ⊥) → (m : Member)
      → written xs cur (member_slice m.place n) (data_sector + sector_at shape y) ≡ cur (member_slice m.place n) (data_sector + sector_at shape y)
  kept y other m =
      let d = member_slice m.place n in
      let i = data_sector + sector_at shape y in
      let Goal : Option (List ℕ) → Type 0 = λ o. look xs d i ≡ o → unwrap_or o (cur d i) ≡ cur d i in
      let goal : Goal (look xs d i) = elim (look xs d i) as Goal [
        | None ↦ λ is. refl
        | Some u ↦ λ is. absurd (other (let at = only d i u is in omega (arith, at)))
      ] in
      goal refl

  value_now : (y : ℕ) → spent_by shape resync y ≡ false → value_by shape (written xs cur) n y ≡ (if y == x then from else value_by shape cur n y)
  value_now y alive = elim (apart y) [
    | inl is ↦
        sym (straight_value shape k n y (written xs cur) is)
        ∙ change.value y (straight_spent shape k resync y is alive)
        ∙ ap (λ (v : List ℕ). if y == x then from else v) (straight_value shape k n y cur is)
    | inr other ↦
        value_by_data shape (written xs cur) cur n y (λ m among counts. kept y other m)
        ∙ elsewhere (y == x) (λ is. other (ap (sector_at shape) (eqb-true y x is) ∙ at_x)) (value_by shape cur n y)
  ]
    where
      elsewhere : (b : Bool) → (b ≡ true → ⊥) → (v : List ℕ) → v ≡ (if b then from else v)
      elsewhere true other v = absurd (other refl)
      elsewhere false other v = refl

  even_now : (y : ℕ) → AllCount (layout_at shape y) shape (sector_at shape y) → AgreeAt shape n cur y → AgreeAt shape n (written xs cur) y
  even_now y counts agree = elim (apart y) [
    | inl is ↦
        let Agree : Image → Layout → List Member → Type 0 = λ c l ms. AgreeIn l (there (map (column c n (sector_in l y)) ms)) in
        off_side shape k y is (Agree (written xs cur))
        (change.even y (on_side shape k y is (λ l ms. (m : Member) → Among m ms → sector_in l y < m.reach) counts) (on_side shape k y is (Agree cur) agree))
    | inr other ↦
        subst (λ stripe. AgreeIn (layout_at shape y) (there stripe))
        (sym (columns_same (written xs cur) cur n (sector_at shape y) (take (width (layout_at shape y)) shape.members) (λ m among counted. kept y other m)))
        agree
  ]

  pub straight_change : RowChange shape n resync x from cur xs
  straight_change = record {
    alone = λ y m u source is. elim (apart y) [
      | inl at ↦
          change.alone y m u (straight_source shape k y at ∙ source)
          (subst (λ t. look xs (member_slice m.place n) (data_sector + t) ≡ Some u) (sym (straight_sector shape k y at)) is)
      | inr other ↦ absurd (other (let at = only (member_slice m.place n) (data_sector + sector_at shape y) u is in omega (arith, at)))
    ];
    value = value_now;
    even = even_now;
  }

-- ---- the border

-- a row below whole new rows, and an old one that isn't below them
border : (m position y z : ℕ) → 3 ≤ m → m ≤ 16 → position % (128 * (m - 1)) ≡ 0 → y < position → position ≤ z → sector_of m y ≡ sector_of (m - 1) z → ⊥
border m position y z three most whole below above same =
    let a = position / (128 * (m - 1)) in
    let new = rows_are_apart m (record { least = omega (arith, three); most = most }) in
    let old = rows_are_apart (m - 1) (record { least = omega (arith, three); most = omega (arith, most) }) in
    let cut : position ≡ a * (m - 1) * 128 = position_is (m - 1) a (sym (div-add-mod position (128 * (m - 1))) ∙ ap (λ r. 128 * (m - 1) * a + r) whole) in
    let low : row_of m y < a = (new.array_end y a).1 (subst (λ p. y < p) cut below) in
    let less : a * (m - 1 - 1) * 128 ≤ a * (m - 1) * 128 = mul-le-mul_right 128 (mul-le-mul_left a (omega arith)) in
    let row : row_of m y ≡ row_of (m - 1) z = sym (new.row y) ∙ ap row_at same ∙ old.row z in
    let end = (old.array_end z a).0 (subst (λ r. r < a) row low) in
    omega (arith, end, less, cut, above)
  where
    position_is : {position : ℕ} (n a : ℕ) → position ≡ 128 * n * a + 0 → position ≡ a * n * 128
    position_is n a is = is ∙ swap n a
      where
        swap : (n a : ℕ) → 128 * n * a + 0 ≡ a * n * 128
        swap n a = grind arith

-- another sector of the array has this row's layout, or stands in no sector of this row
pub rows_apart : (v : View) (x k y : ℕ) → IsArray v → layout_at (shape_of v) x ≡ parity k
    → (layout_at (shape_of v) y ≡ parity k) ⊎ (sector_at (shape_of v) y ≡ sector_of k x → ⊥)
rows_apart v x k y is_array here = by (is_reshaping v.truth) refl
  where
    few : (b : Bool) → v.truth.raid_disks ≤ (if b then 2 else 16) → v.truth.raid_disks ≤ 16
    few true low = omega (arith, low)
    few false low = low

    by : (b : Bool) → is_reshaping v.truth ≡ b → (layout_at (shape_of v) y ≡ parity k) ⊎ (sector_at (shape_of v) y ≡ sector_of k x → ⊥)
    by false is = inl (layout_by v y false (nat_lt y v.truth.reshape_position) is refl ∙ sym (layout_by v x false (nat_lt x v.truth.reshape_position) is refl) ∙ here)
    by true is = sides (nat_lt x v.truth.reshape_position) (nat_lt y v.truth.reshape_position) refl refl
      where
        m : ℕ
        m = v.truth.raid_disks

        at : (z : ℕ) (b : Bool) → nat_lt z v.truth.reshape_position ≡ b → layout_at (shape_of v) z ≡ (if b then parity v.truth.raid_disks else parity (v.truth.raid_disks - 1))
        at z b is_b = layout_by v z true b is is_b ∙ ap (λ (l : Layout). if b then l else parity (v.truth.raid_disks - 1)) (reshaping_parity v is_array is)

        crossed : (p q : ℕ) → p < v.truth.reshape_position → v.truth.reshape_position ≤ q → sector_of v.truth.raid_disks p ≡ sector_of (v.truth.raid_disks - 1) q → ⊥
        crossed p q below above =
            let reshape = is_array.reshape is in
            border v.truth.raid_disks v.truth.reshape_position p q reshape.1 (few (is_mirror v.truth) is_array.most) reshape.2 below above

        sides : (old new : Bool) → nat_lt x v.truth.reshape_position ≡ old → nat_lt y v.truth.reshape_position ≡ new
            → (layout_at (shape_of v) y ≡ parity k) ⊎ (sector_at (shape_of v) y ≡ sector_of k x → ⊥)
        sides true true is_x is_y = inl (at y true is_y ∙ sym (at x true is_x) ∙ here)
        sides false false is_x is_y = inl (at y false is_y ∙ sym (at x false is_x) ∙ here)
        sides true false is_x is_y =
            inr (λ same.
            crossed x y (ltb-true x v.truth.reshape_position is_x) (ltb-false y v.truth.reshape_position is_y)
            (ap (λ (l : Layout). sector_of (width l) x) (sym (at x true is_x) ∙ here) ∙ sym same ∙ ap (λ (l : Layout). sector_in l y) (at y false is_y)))
        sides false true is_x is_y =
            inr (λ same.
            crossed y x (ltb-true y v.truth.reshape_position is_y) (ltb-false x v.truth.reshape_position is_x)
            (ap (λ (l : Layout). sector_in l y) (sym (at y true is_y)) ∙ same ∙ ap (λ (l : Layout). sector_of (width l) x) (sym here ∙ at x false is_x)))
