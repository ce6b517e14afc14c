-- A row that is resynced: its sectors keep their values, and its members agree.
use Rattle.std.proofs.Common.{◌≡◌, ◌⊎◌, ℕ, zero, suc, ◌+◌, ◌-◌, ◌*◌, ◌/◌, ◌%◌, ◌<◌, ◌≤◌, Bool, true, false, not, nat_lt, if◌then◌else◌, List, [], ◌∷◌, map, take, length, Some, refl, sym, ap, ap₂, subst, ◌∙◌, inl, inr, lt-ltb, le-ltb, ltb-true, ltb-false, append-nil, arith}
use Rattle.std.proofs.Math.Nat.{mul-le-mul_left, mul-le-mul_right, div-add-mod}
use Rattle.std.proofs.lemmas.Bool.{both_ways, cases_lt, cases_eq, ne_eqb}
use Rattle.std.specs.List.{range_with_len}
use Rattle.raid_map.specs.LeftSymmetric.{IsMemberCount, member_of, parity_at, row_at, row_of, sector_of}
use Rattle.raid_map.proofs.Rows.{apart_from_parity, rows_are_apart}
use Rattle.parity.specs.Xor.{xor, xor_all, zeros}
use Rattle.parity.proofs.Laws.{xor_is_a_group, parity_restores}
use Rattle.array_image.specs.Stripes.{Layout, mirror, parity, width, position_in, sector_in}
use Rattle.array_image.specs.Supers.{is_reshaping, new_row}
use Rattle.array_image.specs.Arrays.{Member, layout_at}
use Rattle.array_image.specs.Held.{first_counting, member_at, source_in}
use Rattle.array_image.specs.Spent.{wanting}
use Rattle.array_image.proofs.Losing.{map_join}
use Rattle.md_super.specs.Profile.{is_mirror}
use Rattle.array_model.specs.View.{View, IsArray, member_on, shape_of}
use Rattle.array_model.specs.Members.{members_of, row_layout}
use Rattle.array_model.specs.Rows.{sector_at}
use Rattle.array_model.proofs.Filled.{long_zeros, xor_zeros}
use Rattle.array_model.proofs.Firsts.{firsts, first_found, first_none, parity_source, take_firsts}
use Rattle.array_model.proofs.Layouts.{layout_by, reshaping_parity, row_by}
use Rattle.array_model.proofs.Noting.{layout_is}
use Rattle.array_model.proofs.ParityRow.{long_xor}
use Rattle.array_model.proofs.Views.{shape_members}
use Rattle.sync_laws.specs.Rows.{lacks_row, makes_others}
use Rattle.sync_laws.proofs.Summing.{lacks_one, range_more, wanting_later}

-- ---- a row has one layout

-- the whole new rows below a position
cut : (n position : ℕ) → position % (128 * n) ≡ 0 → position ≡ position / (128 * n) * n * 128
cut n position whole = by (position / (128 * n)) (sym (div-add-mod position (128 * n)) ∙ ap (λ r. 128 * n * (position / (128 * n)) + r) whole)
  where
    by : (a : ℕ) → position ≡ 128 * n * a + 0 → position ≡ a * n * 128
    by a is = is ∙ swap n a
      where
        swap : (n a : ℕ) → 128 * n * a + 0 ≡ a * n * 128
        swap n a = grind arith

one_more : (r n : ℕ) → (r + 1) * n * 128 ≡ r * n * 128 + n * 128
one_more r n = grind arith

row_times : (r n : ℕ) → r * (128 * n) ≡ r * n * 128
row_times r n = grind arith

-- the row of a sector of the array has the layout that holds it
pub row_layout_at : (v : View) (y : ℕ) → IsArray v → row_layout v (sector_at (shape_of v) y) ≡ layout_at (shape_of v) y
row_layout_at v y is_array = by (is_reshaping v.truth) refl
  where
    few : (b : Bool) → v.truth.raid_disks ≤ (if b then 2 else 16) → v.truth.raid_disks ≤ 16
    few true low = omega (arith, low)
    few false low = low

    by : (b : Bool) → is_reshaping v.truth ≡ b → row_layout v (sector_at (shape_of v) y) ≡ layout_at (shape_of v) y
    by false is =
        row_by v (sector_at (shape_of v) y) false (nat_lt (row_at (sector_at (shape_of v) y) * new_row v.truth) v.truth.reshape_position) is refl
        ∙ sym (layout_by v y false (nat_lt y v.truth.reshape_position) is refl)
    by true is = sides (nat_lt y v.truth.reshape_position) refl
      where
        m : ℕ
        m = v.truth.raid_disks

        position : ℕ
        position = v.truth.reshape_position

        reshape : (3 ≤ v.truth.raid_disks) × (v.truth.reshape_position % (128 * (v.truth.raid_disks - 1)) ≡ 0)
        reshape = ((is_array.reshape is).1, (is_array.reshape is).2)

        at : (b : Bool) → nat_lt y v.truth.reshape_position ≡ b → layout_at (shape_of v) y ≡ (if b then parity v.truth.raid_disks else parity (v.truth.raid_disks - 1))
        at b is_b = layout_by v y true b is is_b ∙ ap (λ (l : Layout). if b then l else parity (v.truth.raid_disks - 1)) (reshaping_parity v is_array is)

        row : (b : Bool) → nat_lt (row_at (sector_at (shape_of v) y) * new_row v.truth) v.truth.reshape_position ≡ b
            → row_layout v (sector_at (shape_of v) y) ≡ (if b then parity v.truth.raid_disks else parity (v.truth.raid_disks - 1))
        row b is_b = row_by v (sector_at (shape_of v) y) true b is is_b ∙ ap (λ (l : Layout). if b then l else parity (v.truth.raid_disks - 1)) (reshaping_parity v is_array is)

        sides : (b : Bool) → nat_lt y v.truth.reshape_position ≡ b → row_layout v (sector_at (shape_of v) y) ≡ layout_at (shape_of v) y
        sides true is_y =
            let layout = at true is_y in
            let apart = rows_are_apart v.truth.raid_disks (record { least = omega (arith, reshape.0); most = few (is_mirror v.truth) is_array.most }) in
            let a = v.truth.reshape_position / (128 * (v.truth.raid_disks - 1)) in
            let below = ltb-true y v.truth.reshape_position is_y in
            let whole = cut (v.truth.raid_disks - 1) v.truth.reshape_position reshape.1 in
            let low : row_of v.truth.raid_disks y < a = (apart.array_end y a).1 (subst (λ p. y < p) whole below) in
            let r : row_at (sector_at (shape_of v) y) ≡ row_of v.truth.raid_disks y = ap (λ (l : Layout). row_at (sector_in l y)) layout ∙ apart.row y in
            let more : (row_of v.truth.raid_disks y + 1) * (v.truth.raid_disks - 1) * 128 ≤ a * (v.truth.raid_disks - 1) * 128 = mul-le-mul_right 128 (mul-le-mul_right (v.truth.raid_disks - 1) (omega (arith, low))) in
            let split : (row_of v.truth.raid_disks y + 1) * (v.truth.raid_disks - 1) * 128 ≡ row_of v.truth.raid_disks y * (v.truth.raid_disks - 1) * 128 + (v.truth.raid_disks - 1) * 128 = one_more (row_of v.truth.raid_disks y) (v.truth.raid_disks - 1) in
            let times = row_times (row_of v.truth.raid_disks y) (v.truth.raid_disks - 1) in
            let three = reshape.0 in
            row true
            (ap (λ k. nat_lt (k * new_row v.truth) v.truth.reshape_position) r
            ∙ lt-ltb (row_of v.truth.raid_disks y * new_row v.truth) v.truth.reshape_position (omega (arith, more, split, times, whole, three)))
            ∙ sym layout
        sides false is_y =
            let layout = at false is_y in
            let k = v.truth.raid_disks - 1 in
            let apart = rows_are_apart k (record { least = omega (arith, reshape.0); most = (let most = few (is_mirror v.truth) is_array.most in omega (arith, most)) }) in
            let a = v.truth.reshape_position / (128 * k) in
            let above = ltb-false y v.truth.reshape_position is_y in
            let whole = cut k v.truth.reshape_position reshape.1 in
            let r : row_at (sector_at (shape_of v) y) ≡ row_of k y = ap (λ (l : Layout). row_at (sector_in l y)) layout ∙ apart.row y in
            let least : a ≤ row_of k y =
            elim (cases_lt (row_of k y) a) [
              | inr more ↦ more
              | inl less ↦
                  let end = (apart.array_end y a).0 less in
                  let fewer : a * (k - 1) * 128 ≤ a * k * 128 = mul-le-mul_right 128 (mul-le-mul_left a (omega arith)) in
                  absurd (omega (arith, end, fewer, whole, above))
            ] in
            let more : a * k * 128 ≤ row_of k y * k * 128 = mul-le-mul_right 128 (mul-le-mul_right k least) in
            let times = row_times (row_of k y) k in
            row false
            (ap (λ j. nat_lt (j * new_row v.truth) v.truth.reshape_position) r
            ∙ le-ltb (row_of k y * new_row v.truth) v.truth.reshape_position (omega (arith, more, times, whole)))
            ∙ sym layout

-- ---- XOR of a row

pub total_more : (f : ℕ → List ℕ) (k : ℕ) → xor_all 512 (map f (range_with_len 0 (k + 1))) ≡ xor (xor_all 512 (map f (range_with_len 0 k))) (f k)
total_more f k =
    let vs : List (List ℕ) = map f (range_with_len 0 k) in
    ap (λ js. xor_all 512 (map f js)) (range_more k)
    ∙ ap (xor_all 512) (map_join f (range_with_len 0 k) (k ∷ []))
    ∙ parity_restores.any_order 512 vs (f k) []
    ∙ ap (λ ws. xor (f k) (xor_all 512 ws)) (append-nil vs)
    ∙ xor_is_a_group.commutes (f k) (xor_all 512 vs)

pub total_none : (f : ℕ → List ℕ) → xor_all 512 (map f (range_with_len 0 0)) ≡ zeros 512
unfolding xor_all
total_none f = refl

to_suc : (f : ℕ → List ℕ) (k : ℕ) → xor_all 512 (map f (range_with_len 0 (suc k))) ≡ xor (xor_all 512 (map f (range_with_len 0 k))) (f k)
to_suc f k = ap (λ j. xor_all 512 (map f (range_with_len 0 j))) (let e : suc k ≡ k + 1 = omega arith in e) ∙ total_more f k

pub total_long : (f : ℕ → List ℕ) (k : ℕ) → ((j : ℕ) → j < k → length (f j) ≡ 512) → length (xor_all 512 (map f (range_with_len 0 k))) ≡ 512
total_long f zero long = ap length (total_none f) ∙ long_zeros
total_long f (suc k) long = ap length (to_suc f k) ∙ long_xor _ (f k) (total_long f k (λ j low. long j (omega (arith, low)))) (long k (omega arith))

-- with another chunk in the place of zeros
one_put : (f h : ℕ → List ℕ) (q k : ℕ) → ((j : ℕ) → j < k → length (f j) ≡ 512) → f q ≡ zeros 512 → ((j : ℕ) → j < k → (j ≡ q → ⊥) → h j ≡ f j)
    → ((k ≤ q) × (xor_all 512 (map h (range_with_len 0 k)) ≡ xor_all 512 (map f (range_with_len 0 k))))
    ⊎ ((q < k) × (xor_all 512 (map h (range_with_len 0 k)) ≡ xor (xor_all 512 (map f (range_with_len 0 k))) (h q)))
one_put f h q zero long blank same = inl (omega arith, total_none h ∙ sym (total_none f))
one_put f h q (suc k) long blank same =
    let before : (j : ℕ) → j < k → length (f j) ≡ 512 = λ j low. long j (omega (arith, low)) in
    let sum : List ℕ = xor_all 512 (map f (range_with_len 0 k)) in
    let wide : length sum ≡ 512 = total_long f k before in
    elim (one_put f h q k before blank (λ j low other. same j (omega (arith, low)) other)) [
      | inr past ↦
          let later = past.0 in
          inr (
            omega (arith, later),
            to_suc h k ∙ ap₂ xor past.1 (same k (omega arith) (λ is. omega (arith, is, later)))
                ∙ xor_is_a_group.associates sum (h q) (f k) ∙ ap (xor sum) (xor_is_a_group.commutes (h q) (f k)) ∙ sym (xor_is_a_group.associates sum (f k) (h q))
                ∙ ap (λ u. xor u (h q)) (sym (to_suc f k)),
          )
      | inl early ↦ elim (cases_eq k q) [
        | inl is ↦ inr (
          omega (arith, is),
          to_suc h k ∙ ap₂ xor early.1 (ap h is) ∙ ap (λ u. xor u (h q)) (sym (xor_zeros sum wide) ∙ ap (xor sum) (sym (ap f is ∙ blank)) ∙ sym (to_suc f k)),
        )
        | inr other ↦
            let least = early.0 in
            inl (omega (arith, least, other), to_suc h k ∙ ap₂ xor early.1 (same k (omega arith) other) ∙ sym (to_suc f k))
      ]
    ]

-- the sum in its place makes zeros of the row
pub sum_put : (f h : ℕ → List ℕ) (q k : ℕ) → q < k → ((j : ℕ) → j < k → length (f j) ≡ 512) → f q ≡ zeros 512 → ((j : ℕ) → j < k → (j ≡ q → ⊥) → h j ≡ f j)
    → h q ≡ xor_all 512 (map f (range_with_len 0 k))
    → xor_all 512 (map h (range_with_len 0 k)) ≡ zeros 512
sum_put f h q k low long blank same is =
    elim (one_put f h q k long blank same) [
      | inl early ↦ absurd (let least = early.0 in omega (arith, least, low))
      | inr past ↦
          past.1 ∙ ap (xor (xor_all 512 (map f (range_with_len 0 k)))) is
          ∙ xor_is_a_group.own_inverse (xor_all 512 (map f (range_with_len 0 k))) ∙ ap zeros (total_long f k long)
    ]

-- a first chunk and zeros make that chunk
pub first_alone : (f : ℕ → List ℕ) (k : ℕ) → 0 < k → length (f 0) ≡ 512 → ((j : ℕ) → 0 < j → f j ≡ zeros 512) → xor_all 512 (map f (range_with_len 0 k)) ≡ f 0
first_alone f zero some long blank = absurd (omega (arith, some))
first_alone f (suc zero) some long blank =
    to_suc f 0 ∙ ap (λ u. xor u (f 0)) (total_none f) ∙ xor_is_a_group.commutes (zeros 512) (f 0) ∙ xor_zeros (f 0) long
first_alone f (suc (suc k)) some long blank =
    to_suc f (suc k) ∙ ap₂ xor (first_alone f (suc k) (omega arith) long blank) (blank (suc k) (omega arith)) ∙ xor_zeros (f 0) long

-- ---- the row's members

-- each of them counts
pub all_counts : (v : View) (row j t : ℕ) → lacks_row v row ≡ false → j < v.truth.raid_disks → t < row * 128 + 128 → t < (member_on v j).reach
all_counts v row j t lacks low inside = by (nat_lt t (member_on v j).reach) refl
  where
    by : (b : Bool) → nat_lt t (member_on v j).reach ≡ b → t < (member_on v j).reach
    by true is = ltb-true t (member_on v j).reach is
    by false is =
        let one = lacks_one v j t low is in
        let more = wanting_later t (row * 128 + 127) (members_of v) (omega (arith, inside)) in
        absurd (both_ways (lacks_row v row) lacks (lt-ltb 0 (wanting (row * 128 + 127) (members_of v)) (omega (arith, one, more))))

-- those of a layout
pub taken : (v : View) (y : ℕ) → IsArray v → take (width (layout_at (shape_of v) y)) (shape_of v).members ≡ firsts v (width (layout_at (shape_of v) y))
taken v y is_array =
    let layout = layout_at (shape_of v) y in
    ap (take (width layout)) (shape_members v) ∙ take_firsts v (width layout) v.truth.raid_disks (layout_is v y is_array).most

-- a sector whose members all count isn't one of those that are made of others
pub source_at_position : (v : View) (layout : Layout) (y : ℕ) (m : Member) → IsMemberCount (width layout) → width layout ≤ v.truth.raid_disks
    → ((j : ℕ) → j < width layout → sector_in layout y < (member_on v j).reach)
    → position_in layout y < width layout
    → source_in layout (sector_in layout y) (position_in layout y) (members_of v) ≡ Some m
    → (j : ℕ) × (j < width layout) × (m ≡ member_on v j) × (makes_others layout (sector_in layout y) j ≡ true)
source_at_position v (mirror n) y m count most counts inside is =
    let low : 0 < n = (let least = count.least in omega (arith, least)) in
    let found = first_found v y 0 n low (first_none y) (lt-ltb y (member_on v 0).reach (counts 0 low)) in
    (0, low, same (sym is ∙ ap (first_counting y) (take_firsts v n v.truth.raid_disks most) ∙ found), refl)
  where
    same : {x z : Member} → Some x ≡ Some z → x ≡ z
    same e = cc
source_at_position v (parity n) y m count most counts inside is =
    let t = sector_of n y in
    let p = member_of n y in
    let found = parity_source v t p n true inside (lt-ltb t (member_on v p).reach (counts p inside)) in (
      p,
      inside,
      same (sym is ∙ ap (member_at t p) (take_firsts v n v.truth.raid_disks most) ∙ found),
      ap not (ne_eqb p (parity_at n t) (apart_from_parity n y count.least)),
    )
  where
    same : {x z : Member} → Some x ≡ Some z → x ≡ z
    same e = cc
