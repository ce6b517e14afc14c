-- Which member a sector of the array comes from.
use Rattle.std.proofs.Common.{◌≡◌, ℕ, zero, suc, ◌+◌, ◌-◌, ◌*◌, ◌<◌, ◌≤◌, Bool, true, false, ◌==◌, not, nat_lt, if◌then◌else◌, map, Option, Some, None, unwrap_or, refl, sym, ap, subst, ◌∙◌, inl, inr, eq-eqb, eqb-true, lt-ltb, arith}
use Rattle.std.proofs.lemmas.Bool.{both_ways, cases_eq, eqb-false}
use Rattle.std.specs.List.{range_with_len}
use Rattle.raid_map.specs.LeftSymmetric.{IsMemberCount, parity_at, row_at}
use Rattle.raid_map.proofs.Rows.{row_members_differ}
use Rattle.md_super.specs.Profile.{is_mirror}
use Rattle.array_image.specs.Arrays.{Member, layout_at, final_layout}
use Rattle.array_image.specs.Held.{first_counting, member_at, source_in}
use Rattle.array_image.specs.Stripes.{Layout, mirror, parity, width, position_in, sector_in}
use Rattle.array_image.specs.Supers.{is_reshaping, new_row}
use Rattle.array_model.specs.View.{View, IsArray, member_on, shape_of}
use Rattle.array_model.specs.Members.{members_of, row_layout}
use Rattle.array_model.specs.Rows.{source_at, sector_at}
use Rattle.array_model.proofs.Firsts.{first_found, first_none, parity_source, take_firsts}
use Rattle.array_model.proofs.Layouts.{final_by, layout_by, row_by, row_layout_is}
use Rattle.array_model.proofs.Noting.{layout_is, low_position}
use Rattle.array_model.proofs.Views.{shape_members}
use Rattle.sync_laws.specs.Rows.{is_source, makes_others}

-- a member's own sector is an array's where it counts there
pub source_on : (w : View) (layout : Layout) (y : ℕ) → width layout ≤ w.truth.raid_disks → position_in layout y < width layout
    → sector_in layout y < (member_on w (position_in layout y)).reach
    → source_in layout (sector_in layout y) (position_in layout y) (members_of w) ≡ Some (member_on w (position_in layout y))
source_on w (mirror n) y most low counts =
    ap (first_counting y) (take_firsts w n w.truth.raid_disks most) ∙ first_found w y 0 n low (first_none y) (lt-ltb y (member_on w 0).reach counts)
source_on w (parity n) y most low counts =
    let t = sector_in (parity n) y in
    let q = position_in (parity n) y in
    ap (member_at t q) (take_firsts w n w.truth.raid_disks most) ∙ parity_source w t q n true low (lt-ltb t (member_on w q).reach counts)

pub own_source : (w : View) (y : ℕ) → IsArray w → sector_at (shape_of w) y < (member_on w (position_in (layout_at (shape_of w) y) y)).reach
    → source_at (shape_of w) y ≡ Some (member_on w (position_in (layout_at (shape_of w) y) y))
own_source w y is_array counts =
    let layout = layout_at (shape_of w) y in
    ap (source_in layout (sector_in layout y) (position_in layout y)) (shape_members w)
    ∙ source_on w layout y (layout_is w y is_array).most (low_position w.truth.raid_disks layout y (layout_is w y is_array)) counts

-- ---- of members that count alike

record IsSourceOf (f h : ℕ → Member) (a n : ℕ) (m : Member) (o : Option Member) : Type 0 where
  position : ℕ
  least : a ≤ position
  most : position < a + n
  own : m ≡ f position
  other : o ≡ Some (h position)

first_alike : (f h : ℕ → Member) (t a n : ℕ) (m : Member) → ((j : ℕ) → a ≤ j → j < a + n → nat_lt t (f j).reach ≡ nat_lt t (h j).reach)
    → first_counting t (map f (range_with_len a n)) ≡ Some m → IsSourceOf f h a n m (first_counting t (map h (range_with_len a n)))
unfolding first_counting
first_alike f h t a zero m same is = absurd (let bad : None ≡ Some m = is in cc)
first_alike f h t a (suc n) m same is =
    let rest = first_alike f h t (a + 1) n m (λ j least most. same j (omega (arith, least)) (omega (arith, most))) in
    by (nat_lt t (f a).reach) (nat_lt t (h a).reach) (same a (omega arith) (omega arith)) is rest
  where
    by : (b c : Bool) → b ≡ c → (if b then Some (f a) else first_counting t (map f (range_with_len (a + 1) n))) ≡ Some m
        → (first_counting t (map f (range_with_len (a + 1) n)) ≡ Some m → IsSourceOf f h (a + 1) n m (first_counting t (map h (range_with_len (a + 1) n))))
        → IsSourceOf f h a (suc n) m (if c then Some (h a) else first_counting t (map h (range_with_len (a + 1) n)))
    by true true alike here rest = record { position = a; least = omega arith; most = omega arith; own = ap (λ o. unwrap_or o m) (sym here); other = refl }
    by true false alike here rest = absurd (let bad : true ≡ false = alike in cc)
    by false true alike later rest = absurd (let bad : false ≡ true = alike in cc)
    by false false alike later rest =
        let found = rest later in
        let least = found.least in
        let most = found.most in
        record { position = found.position; least = omega (arith, least); most = omega (arith, most); own = found.own; other = found.other }

at_alike : (f h : ℕ → Member) (t q a n : ℕ) (m : Member) → ((j : ℕ) → a ≤ j → j < a + n → nat_lt t (f j).reach ≡ nat_lt t (h j).reach)
    → member_at t q (map f (range_with_len a n)) ≡ Some m → IsSourceOf f h a n m (member_at t q (map h (range_with_len a n)))
unfolding member_at
at_alike f h t q a zero m same is = absurd (let bad : None ≡ Some m = is in cc)
at_alike f h t zero a (suc n) m same is = by (nat_lt t (f a).reach) (nat_lt t (h a).reach) (same a (omega arith) (omega arith)) is
  where
    by : (b c : Bool) → b ≡ c → (if b then Some (f a) else None) ≡ Some m → IsSourceOf f h a (suc n) m (if c then Some (h a) else None)
    by true true alike here = record { position = a; least = omega arith; most = omega arith; own = ap (λ o. unwrap_or o m) (sym here); other = refl }
    by true false alike here = absurd (let bad : true ≡ false = alike in cc)
    by false c alike none = absurd (let bad : None ≡ Some m = none in cc)
at_alike f h t (suc q) a (suc n) m same is =
    let found = at_alike f h t q (a + 1) n m (λ j least most. same j (omega (arith, least)) (omega (arith, most))) is in
    let least = found.least in
    let most = found.most in
    record { position = found.position; least = omega (arith, least); most = omega (arith, most); own = found.own; other = found.other }

-- the source in one array is that of its position in another
pub record IsSourceBefore (v w : View) (layout : Layout) (t q : ℕ) (m : Member) : Type 0 where
  pub position : ℕ
  pub low : position < width layout
  pub own : m ≡ member_on w position
  pub before : source_in layout t q (members_of v) ≡ Some (member_on v position)

pub source_alike : (v w : View) (layout : Layout) (t q : ℕ) (m : Member) → width layout ≤ v.truth.raid_disks → w.truth.raid_disks ≡ v.truth.raid_disks
    → ((j : ℕ) → j < width layout → nat_lt t (member_on w j).reach ≡ nat_lt t (member_on v j).reach)
    → source_in layout t q (members_of w) ≡ Some m → IsSourceBefore v w layout t q m
source_alike v w (mirror n) t q m most disks same is =
    let found = first_alike (member_on w) (member_on v) t 0 n m (λ j least less. same j (omega (arith, less))) (ap (first_counting t) (sym (take_firsts w n w.truth.raid_disks (omega (arith, most, disks)))) ∙ is) in
    let less = found.most in
    record { position = found.position; low = omega (arith, less); own = found.own; before = ap (first_counting t) (take_firsts v n v.truth.raid_disks most) ∙ found.other }
source_alike v w (parity n) t q m most disks same is =
    let found = at_alike (member_on w) (member_on v) t q 0 n m (λ j least less. same j (omega (arith, less))) (ap (member_at t q) (sym (take_firsts w n w.truth.raid_disks (omega (arith, most, disks)))) ∙ is) in
    let less = found.most in
    record { position = found.position; low = omega (arith, less); own = found.own; before = ap (member_at t q) (take_firsts v n v.truth.raid_disks most) ∙ found.other }

-- ---- mirrors

-- a mirror has two members at most
mirror_by : (v : View) (k : ℕ) (reshaping moved : Bool) → IsArray v → (if reshaping then if moved then final_layout v.truth else parity (v.truth.raid_disks - 1) else final_layout v.truth) ≡ mirror k → k ≤ 2
mirror_by v k reshaping moved is_array = by reshaping moved (is_mirror v.truth) refl
  where
    apart : {n m : ℕ} → parity n ≡ mirror m → ⊥
    apart same = cc

    counted : {n m : ℕ} → mirror n ≡ mirror m → m ≡ n
    counted same = ap width (sym same)

    final : (b : Bool) → is_mirror v.truth ≡ b → final_layout v.truth ≡ mirror k → k ≤ 2
    final true mirrors layout =
        let most : v.truth.raid_disks ≤ 2 = subst (λ (b : Bool). v.truth.raid_disks ≤ (if b then 2 else 16)) mirrors is_array.most in
        let same = counted (sym (final_by v true mirrors) ∙ layout) in
        omega (arith, most, same)
    final false mirrors layout = absurd (apart (sym (final_by v false mirrors) ∙ layout))

    by : (reshaping moved : Bool) (b : Bool) → is_mirror v.truth ≡ b
        → (if reshaping then if moved then final_layout v.truth else parity (v.truth.raid_disks - 1) else final_layout v.truth) ≡ mirror k → k ≤ 2
    by true true b is_m layout = final b is_m layout
    by true false b is_m layout = absurd (apart layout)
    by false moved b is_m layout = final b is_m layout

pub mirror_two : (v : View) (y k : ℕ) → IsArray v → layout_at (shape_of v) y ≡ mirror k → k ≤ 2
mirror_two v y k is_array is =
    mirror_by v k (is_reshaping v.truth) (nat_lt y v.truth.reshape_position) is_array
    (sym (layout_by v y (is_reshaping v.truth) (nat_lt y v.truth.reshape_position) refl refl) ∙ is)

-- ---- the member that is made of others

-- one is
pub one_made : (v : View) (sector : ℕ) → IsArray v → (j : ℕ) × (j < width (row_layout v sector)) × (is_source v sector j ≡ false)
one_made v sector is_array =
    let layout = row_layout_is v sector is_array in
    by (row_layout v sector) (record { least = layout.least; most = (let most = layout.most in let few = layout.count in omega (arith, most, few)) })
  where
    by : (layout : Layout) → IsMemberCount (width layout) → (j : ℕ) × (j < width layout) × (makes_others layout sector j ≡ false)
    by (mirror n) count = (1, (let least = count.least in omega (arith, least)), refl)
    by (parity n) count = (parity_at n sector, (row_members_differ n count).parity_is_member sector, ap not (eq-eqb (parity_at n sector) (parity_at n sector) refl))

-- and no other
pub made_alone : (v : View) (sector i j : ℕ) → IsArray v → i < width (row_layout v sector) → j < width (row_layout v sector) → is_source v sector i ≡ false → is_source v sector j ≡ false → i ≡ j
made_alone v sector i j is_array = by (row_layout v sector) refl
  where
    not_true : (b : Bool) → not b ≡ false → b ≡ true
    not_true true is = refl
    not_true false is = absurd (both_ways true is refl)

    by : (layout : Layout) → row_layout v sector ≡ layout → i < width layout → j < width layout → makes_others layout sector i ≡ false → makes_others layout sector j ≡ false → i ≡ j
    by (mirror n) is low_i low_j made_i made_j =
        let two =
        mirror_by v n (is_reshaping v.truth) (nat_lt (row_at sector * new_row v.truth) v.truth.reshape_position) is_array
        (sym (row_by v sector (is_reshaping v.truth) (nat_lt (row_at sector * new_row v.truth) v.truth.reshape_position) refl refl) ∙ is) in
        let other_i = eqb-false i 0 made_i in
        let other_j = eqb-false j 0 made_j in
        elim (cases_eq i j) [ inl same ↦ same | inr differs ↦ absurd (elim (cases_eq i 0) [ inl zero_i ↦ other_i zero_i | inr some_i ↦ elim (cases_eq j 0) [ inl zero_j ↦ other_j zero_j | inr some_j ↦ omega (arith, two, low_i, low_j, some_i, some_j, differs) ] ]) ]
    by (parity n) is low_i low_j made_i made_j = eqb-true i (parity_at n sector) (not_true (i == parity_at n sector) made_i) ∙ sym (eqb-true j (parity_at n sector) (not_true (j == parity_at n sector) made_j))
