-- A row of zeros on an array's members.
use Rattle.std.proofs.Common.{◌≡◌, ◌⊎◌, ℕ, zero, suc, ◌+◌, ◌-◌, ◌*◌, ◌<◌, ◌≤◌, Bool, true, false, nat_lt, if◌then◌else◌, List, [], ◌∷◌, ◌++◌, map, take, drop, length, slice_get, Option, Some, None, unwrap_or, refl, sym, ap, ap₂, subst, ◌∙◌, inl, inr, ltb-true, lt-ltb, mul-le-mul_left, arith}
use Rattle.std.proofs.lemmas.Bool.{cases_lt}
use Rattle.std.specs.Option.{option_map_or}
use Rattle.rack.specs.Seen.{Image, RackView}
use Rattle.rack.specs.Targets.{Target, look, target}
use Rattle.raid_map.specs.LeftSymmetric.{row_at}
use Rattle.parity.specs.Xor.{xor, xor_all, zeros}
use Rattle.array_image.specs.Places.{member_slice, data_sector}
use Rattle.array_image.specs.Stripes.{Layout, mirror, parity, width, position_in, sector_in, Stripe, there, at_position, without, first_there, given, AgreeIn}
use Rattle.array_image.specs.Arrays.{Member, column, layout_at, stripe_in, value_by}
use Rattle.array_image.specs.Even.{AreEven}
use Rattle.array_image.specs.Held.{Among, current_in}
use Rattle.array_image.proofs.Frames.{value_by_data}
use Rattle.array_image.proofs.Losing.{data_of}
use Rattle.array_image.proofs.Lost.{there_all}
use Rattle.array_image.proofs.Noted.{columns_all}
use Rattle.array_image.specs.Marks.{lower, lowered}
use Rattle.array_image.proofs.Marked.{among_lowered}
use Rattle.array_image.proofs.Settled.{among_take}
use Rattle.array_model.proofs.Whole.{among_kept}
use Rattle.commit_log.proofs.Story.{payload_is}
use Rattle.array_model.specs.declared.Seat.{Seat}
use Rattle.array_model.specs.declared.Seat.TheVariants.{Whole, Missing, Rebuilding}
use Rattle.array_model.specs.View.{View, IsArray, member_on, seat_reach, shape_of}
use Rattle.array_model.specs.Members.{slice_on}
use Rattle.array_model.specs.Rows.{sector_at, written}
use Rattle.array_model.proofs.DataFrames.{columns_same}
use Rattle.array_model.proofs.Filled.{long_zeros, xor_zeros}
use Rattle.array_model.proofs.Firsts.{position_of}
use Rattle.array_model.proofs.Looking.{look_payload}
use Rattle.array_model.proofs.MirrorRow.{agree_one}
use Rattle.array_model.proofs.Views.{shape_members}
use Rattle.array_core.specs.Staging.{HasRowRebuilds}
use Rattle.sync_laws.specs.Rows.{AddsCopies, AreCopies, AreZeros, OfMember, OfCounting, counts_in}
use Rattle.sync_laws.specs.Steps.{row_in}
use Rattle.sync_laws.proofs.Copying.{copies_then, one_target}
use Rattle.sync_laws.proofs.Owed.{RowMoves, none_or}

-- ---- its targets

pub zeros_next : (v : View) (p first sector : ℕ) (from : List ℕ) (xs ys zs : List Target) → IsArray v → p < v.truth.raid_disks → from ≡ zeros 512 → first ≤ sector
    → AddsCopies v (OfMember p first (sector - first)) AreZeros (sector - first) xs ys → zs ≡ ys ++ target (slice_on v p) (data_sector + sector) from ∷ []
    → AddsCopies v (OfMember p first (sector + 1 - first)) AreZeros (sector + 1 - first) xs zs
zeros_next v p first sector from xs ys zs is_array low blank least so_far added =
    let many = sector - first in
    let at : first + many ≡ sector = omega (arith, least) in
    let next : many + 1 ≡ sector + 1 - first = omega (arith, least) in
    let one : AddsCopies v (OfMember p sector 1) AreZeros 1 ys zs =
    one_target v (OfMember p sector 1) AreZeros sector p from ys zs low (ap length blank ∙ long_zeros) (omega arith, omega arith, refl)
    (λ s j inside. let below = inside.0 in let most = inside.1 in (omega (arith, below, most), inside.2)) blank added in
    subst (λ (n : ℕ). AddsCopies v (OfMember p first n) AreZeros n xs zs) next
    (copies_then v (OfMember p first many) (OfMember p sector 1) (OfMember p first (many + 1)) AreZeros many 1 xs ys zs is_array
    (λ t j is. let most = is.1 in (is.0, omega (arith, most), is.2))
    (λ t j is. let low_t = is.0 in let most = is.1 in (omega (arith, low_t, at), omega (arith, most, at), is.2))
    (λ t j is. elim (cases_lt t sector) [
      | inl less ↦ inl (is.0, omega (arith, less, at), is.2)
      | inr past ↦ (let most = is.1 in inr (past, omega (arith, most, at), is.2))
    ])
    (λ t j before now. let most = before.1 in let low_t = now.0 in omega (arith, most, low_t, at))
    so_far one)

pub zeros_more : (v : View) (row k : ℕ) (xs ys zs : List Target) → IsArray v → AddsCopies v (OfCounting v (row * 128) 128 k) AreZeros (k * 128) xs ys
    → AddsCopies v (λ t j. OfMember k (row * 128) 128 t j × (counts_in v row j ≡ true)) AreZeros 128 ys zs
    → AddsCopies v (OfCounting v (row * 128) 128 (k + 1)) AreZeros ((k + 1) * 128) xs zs
zeros_more v row k xs ys zs is_array so_far one =
    subst (λ (n : ℕ). AddsCopies v (OfCounting v (row * 128) 128 (k + 1)) AreZeros n xs zs) (let e : k * 128 + 128 ≡ (k + 1) * 128 = omega arith in e)
    (copies_then v (OfCounting v (row * 128) 128 k) (λ t j. OfMember k (row * 128) 128 t j × (counts_in v row j ≡ true)) (OfCounting v (row * 128) 128 (k + 1)) AreZeros (k * 128) 128 xs ys zs is_array
    (λ t j is. let low = is.2 in (is.0, is.1, omega (arith, low), is.3))
    (λ t j is. let at = is.0.2 in (is.0.0, is.0.1, omega (arith, at), subst (λ (r : ℕ). counts_in v r j ≡ true) (sym (in_row t is.0.0 is.0.1)) is.1))
    (λ t j is. elim (cases_lt j k) [
      | inl less ↦ inl (is.0, is.1, less, is.3)
      | inr past ↦ (let low = is.2 in inr ((is.0, is.1, omega (arith, low, past)), subst (λ (r : ℕ). counts_in v r j ≡ true) (in_row t is.0 is.1) is.3))
    ])
    (λ t j before now. let low = before.2 in let at = now.0.2 in omega (arith, low, at))
    so_far one)
  where
    in_row : (t : ℕ) → row * 128 ≤ t → t < row * 128 + 128 → row_at t ≡ row
    in_row t least most = omega (arith, least, most)

-- a row more of so many sectors
pub row_more : (n k m : ℕ) → k + 1 ≤ m → n * k + n ≤ n * m
row_more n k m low = subst (λ (j : ℕ). j ≤ n * m) (times n k) (mul-le-mul_left n low)
  where
    times : (n k : ℕ) → n * (k + 1) ≡ n * k + n
    times n k = grind arith

-- those of one row more
pub zeros_row : (v : View) (first row members : ℕ) (xs ys zs : List Target) → IsArray v → first ≤ row
    → AddsCopies v (OfCounting v (first * 128) (128 * (row - first)) members) AreZeros (members * 128 * (row - first)) xs ys
    → AddsCopies v (OfCounting v (row * 128) 128 members) AreZeros (members * 128) ys zs
    → AddsCopies v (OfCounting v (first * 128) (128 * (row + 1 - first)) members) AreZeros (members * 128 * (row + 1 - first)) xs zs
zeros_row v first row members xs ys zs is_array least so_far one =
    subst (λ (n : ℕ). AddsCopies v (OfCounting v (first * 128) (128 * n) members) AreZeros (members * 128 * n) xs zs) (let e : row - first + 1 ≡ row + 1 - first = omega (arith, least) in e)
    (subst (λ (n : ℕ). AddsCopies v (OfCounting v (first * 128) (128 * (row - first + 1)) members) AreZeros n xs zs) (times (members * 128) (row - first))
    (copies_then v (OfCounting v (first * 128) (128 * (row - first)) members) (OfCounting v (row * 128) 128 members) (OfCounting v (first * 128) (128 * (row - first + 1)) members) AreZeros
    (members * 128 * (row - first)) (members * 128) xs ys zs is_array
    (λ t j is. let most = is.1 in (is.0, omega (arith, most), is.2, is.3))
    (λ t j is. let low = is.0 in let most = is.1 in (omega (arith, low, least), omega (arith, most, least), is.2, is.3))
    (λ t j is. elim (cases_lt t (row * 128)) [
      | inl less ↦ inl (is.0, omega (arith, less, least), is.2, is.3)
      | inr past ↦ (let most = is.1 in inr (past, omega (arith, most, least), is.2, is.3))
    ])
    (λ t j before now. let most = before.1 in let low = now.0 in omega (arith, most, low, least))
    so_far one))
  where
    times : (n k : ℕ) → n * k + n ≡ n * (k + 1)
    times n k = grind arith

-- ---- stripes of zeros

abbrev AreBlank : Stripe → Type 0
AreBlank [] = Unit {0}
AreBlank (o ∷ os) = ((o ≡ None) ⊎ (o ≡ Some (zeros 512))) × AreBlank os

blank_first : (os : Stripe) → AreBlank os → first_there (there os) ≡ zeros 512
unfolding there
blank_first [] blank = refl
blank_first (None ∷ os) blank = blank_first os blank.1
blank_first (Some v ∷ os) (inl none, rest) = absurd (let bad : Some v ≡ None = none in cc)
blank_first (Some v ∷ os) (inr is, rest) = ap (λ o. unwrap_or o (zeros 512)) is

xor_two : xor (zeros 512) (zeros 512) ≡ zeros 512
xor_two = xor_zeros (zeros 512) long_zeros

blank_xor : (os : Stripe) → AreBlank os → xor_all 512 (there os) ≡ zeros 512
unfolding there xor_all
blank_xor [] blank = refl
blank_xor (None ∷ os) blank = blank_xor os blank.1
blank_xor (Some v ∷ os) (inl none, rest) = absurd (let bad : Some v ≡ None = none in cc)
blank_xor (Some v ∷ os) (inr is, rest) = ap₂ xor (ap (λ o. unwrap_or o (zeros 512)) is) (blank_xor os rest) ∙ xor_two

blank_take : (k : ℕ) (os : Stripe) → AreBlank os → AreBlank (take k os)
blank_take zero os blank = tt
blank_take (suc k) [] blank = tt
blank_take (suc k) (o ∷ os) blank = (blank.0, blank_take k os blank.1)

blank_drop : (k : ℕ) (os : Stripe) → AreBlank os → AreBlank (drop k os)
blank_drop zero os blank = blank
blank_drop (suc k) [] blank = tt
blank_drop (suc k) (o ∷ os) blank = blank_drop k os blank.1

blank_join : (os ps : Stripe) → AreBlank os → AreBlank ps → AreBlank (os ++ ps)
blank_join [] ps one two = two
blank_join (o ∷ os) ps one two = (one.0, blank_join os ps one.1 two)

blank_at : (q : ℕ) (os : Stripe) → AreBlank os → (at_position q os ≡ None) ⊎ (at_position q os ≡ Some (zeros 512))
unfolding at_position
blank_at q [] blank = inl refl
blank_at zero (o ∷ os) blank = blank.0
blank_at (suc q) (o ∷ os) blank = blank_at q os blank.1

blank_given : (layout : Layout) (os : Stripe) (q : ℕ) → AreBlank os → given layout os q ≡ zeros 512
unfolding given
blank_given (mirror n) os q blank = blank_first os blank
blank_given (parity n) os q blank = elim (blank_at q os blank) [
  | inl none ↦
      ap (λ o. option_map_or (λ v. v) o (xor_all 512 (there (without q os)))) none
      ∙ blank_xor (without q os) (blank_join (take q os) (drop (suc q) os) (blank_take q os blank) (blank_drop (suc q) os blank))
  | inr is ↦ ap (λ o. option_map_or (λ v. v) o (xor_all 512 (there (without q os)))) is
]

blank_columns : (c : Image) (n t : ℕ) (ms : List Member) → ((m : Member) → Among m ms → t < m.reach → data_of c n t m ≡ zeros 512) → AreBlank (map (column c n t) ms)
blank_columns c n t [] all = tt
blank_columns c n t (m ∷ ms) all =
    let Goal : Bool → Type 0 = λ b. nat_lt t m.reach ≡ b
    → ((if b then Some (data_of c n t m) else None) ≡ None) ⊎ ((if b then Some (data_of c n t m) else None) ≡ Some (zeros 512)) in
    let goal : Goal (nat_lt t m.reach) = elim (nat_lt t m.reach) as Goal [
      | true ↦ λ is. inr (ap Some (all m (inl refl) (ltb-true t m.reach is)))
      | false ↦ λ is. inl refl
    ] in
    (goal refl, blank_columns c n t ms (λ o among. all o (inr among)))

all_xor : (c : Image) (n t : ℕ) (ms : List Member) → ((m : Member) → Among m ms → data_of c n t m ≡ zeros 512) → xor_all 512 (map (data_of c n t) ms) ≡ zeros 512
unfolding xor_all
all_xor c n t [] all = refl
all_xor c n t (m ∷ ms) all = ap₂ xor (all m (inl refl)) (all_xor c n t ms (λ o among. all o (inr among))) ∙ xor_two

-- ---- the rows

module _ (v : View) (rows : ℕ) (b : RackView) (xs : List Target) (is_array : IsArray v) (rebuilds : HasRowRebuilds v) (copies : AreCopies v (OfCounting v (v.resync * 128) (128 * rows) v.truth.raid_disks) AreZeros xs) where
  abbrev n : ℕ
  n = v.number

  abbrev cur : Image
  cur = current_in b.held

  abbrev now : Image
  now = written xs (current_in b.held)

  none_before : (d t : ℕ) → t < v.resync * 128 → look xs d (data_sector + t) ≡ None
  none_before d t before =
      none_or (look xs d (data_sector + t))
      (λ u found.
      let at = copies.on d (data_sector + t) u (look_payload xs d (data_sector + t) u found) in
      let first = at.inside.0 in
      let sector = at.at in
      omega (arith, before, first, sector))

  same_before : (d t : ℕ) → t < v.resync * 128 → now d (data_sector + t) ≡ cur d (data_sector + t)
  same_before d t before = ap (λ (o : Option (List ℕ)). unwrap_or o (current_in b.held d (data_sector + t))) (none_before d t before)

  -- whoever counts at a sector of a row counts in it
  counts_all : (j t : ℕ) → t < (member_on v j).reach → counts_in v (row_at t) j ≡ true
  counts_all j t counts = lt-ltb (row_at t * 128 + 127) (member_on v j).reach (by (slice_get v.seats j) refl counts)
    where
      by : (o : Option Seat) → slice_get v.seats j ≡ o → t < option_map_or (seat_reach v.truth.size) o 0 → row_at t * 128 + 127 < option_map_or (seat_reach v.truth.size) o 0
      by None is less = absurd (omega (arith, less))
      by (Some Whole) is less = let whole = is_array.whole_rows in omega (arith, less, whole)
      by (Some Missing) is less = absurd (omega (arith, less))
      by (Some (Rebuilding to)) is less = let whole = (rebuilds j to is).0 in omega (arith, less, whole)

  zeros_at : (m : Member) (t : ℕ) → Among m (shape_of v).members → t < m.reach → v.resync * 128 ≤ t → t < v.resync * 128 + 128 * rows → data_of now n t m ≡ zeros 512
  zeros_at m t among counts first last =
      let at = position_of v v.truth.raid_disks m (subst (λ (ms : List Member). Among m ms) (shape_members v) among) in
      let reach : t < (member_on v at.0).reach = subst (λ (o : Member). t < o.reach) at.2 counts in
      let has = copies.has t at.0 (first, last, at.1, counts_all at.0 t reach) in
      let is = copies.on (slice_on v at.0) (data_sector + t) has.0 has.1 in
      subst (λ (o : Member). data_of now n t o ≡ zeros 512) (sym at.2)
      (ap (λ (o : Option (List ℕ)). unwrap_or o (current_in b.held (slice_on v at.0) (data_sector + t))) (payload_is xs (slice_on v at.0) (data_sector + t) has.0 copies.apart has.1) ∙ is.bytes)

  row_sectors : (y : ℕ) → (v.resync ≤ row_in v y) × (row_in v y < v.resync + rows) → (v.resync * 128 ≤ sector_at (shape_of v) y) × (sector_at (shape_of v) y < v.resync * 128 + 128 * rows)
  row_sectors y row = (let least = row.0 in omega (arith, least), (let most = row.1 in omega (arith, most)))

  -- the rows' sectors are zeros in contents that have them
  pub row_zeros : (r : Image) → ((m : Member) (t : ℕ) → Among m (shape_of v).members → t < m.reach → r (member_slice m.place v.number) (data_sector + t) ≡ now (member_slice m.place v.number) (data_sector + t))
      → (y : ℕ) → (v.resync ≤ row_in v y) × (row_in v y < v.resync + rows) → value_by (shape_of v) r v.number y ≡ zeros 512
  unfolding value_by
  row_zeros r same y row =
      let layout = layout_at (shape_of v) y in
      let t = sector_in layout y in
      let inside = row_sectors y row in
      blank_given layout (stripe_in r n (shape_of v) layout t) (position_in layout y)
      (blank_columns r n t (take (width layout) (shape_of v).members)
      (λ m among counts.
      let all = among_take (width layout) (shape_of v).members m among in
      same m t all counts ∙ zeros_at m t all counts inside.0 inside.1))

  -- and in those of the members that are left
  pub row_zeros_left : (gone : ℕ → Bool) (r : Image)
      → ((m : Member) (t : ℕ) → Among m (shape_of v).members → t < m.reach → gone m.place ≡ false → r (member_slice m.place v.number) (data_sector + t) ≡ now (member_slice m.place v.number) (data_sector + t))
      → (y : ℕ) → (v.resync ≤ row_in v y) × (row_in v y < v.resync + rows) → value_by (lowered gone (shape_of v)) r v.number y ≡ zeros 512
  unfolding value_by
  row_zeros_left gone r same y row =
      let layout = layout_at (shape_of v) y in
      let t = sector_in layout y in
      let inside = row_sectors y row in
      let ms = (shape_of v).members in
      blank_given layout (stripe_in r n (lowered gone (shape_of v)) layout t) (position_in layout y)
      (blank_columns r n t (take (width layout) (map (lower gone) ms))
      (λ m among counts.
      let left = among_take (width layout) (map (lower gone) ms) m among in
      let all = among_lowered gone t ms m left counts in
      same m t all counts (among_kept gone t ms m left counts) ∙ zeros_at m t all counts inside.0 inside.1))

  even_kept : AreEven (shape_of v) v.number v.resync cur → AreEven (shape_of v) v.number (v.resync + rows) now
  even_kept even y inside synced counts =
      let layout = layout_at (shape_of v) y in
      let t = sector_in layout y in
      let ms = take (width layout) (shape_of v).members in
      elim (cases_lt (row_at t) v.resync) [
        | inl less ↦
            subst (λ stripe. AgreeIn layout (there stripe))
            (sym (columns_same now cur n t ms (λ m among counted. same_before (member_slice m.place n) t (omega (arith, less)))))
            (even y inside less counts)
        | inr more ↦
            let sectors = row_sectors y (more, synced) in
            let all : (m : Member) → Among m ms → data_of now n t m ≡ zeros 512 =
            λ m among. zeros_at m t (among_take (width layout) (shape_of v).members m among) (counts m among) sectors.0 sectors.1 in
            subst (λ stripe. AgreeIn layout (there stripe)) (sym (columns_all now n t ms counts))
            (subst (λ vs. AgreeIn layout vs) (sym (there_all (map (data_of now n t) ms))) (agrees layout t ms all))
      ]
    where
      agrees : (layout : Layout) (t : ℕ) (ms : List Member) → ((m : Member) → Among m ms → data_of now v.number t m ≡ zeros 512) → AgreeIn layout (map (data_of now v.number t) ms)
      agrees (mirror k) t ms all = agree_one (zeros 512) v.number t k now ms all
      agrees (parity k) t ms all = all_xor now v.number t ms all

  pub zero_moves : (spent : ℕ → Bool) → ((y : ℕ) → spent y ≡ false → row_in v y < v.resync) → RowMoves v (shape_of v) (v.resync + rows) spent cur xs
  zero_moves spent aside = record {
    counted = λ m t among counts. inl (m, among, refl, counts);
    value = λ y alive.
        value_by_data (shape_of v) now cur n y
        (λ m among counts. let row = aside y alive in same_before (member_slice m.place n) (sector_in (layout_at (shape_of v) y) y) (omega (arith, row)));
    source = λ y m alive is. let row = aside y alive in inl (m, is, refl, refl, none_before (member_slice m.place n) (sector_at (shape_of v) y) (omega (arith, row)));
    even = even_kept;
  }
