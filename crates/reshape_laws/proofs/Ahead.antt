-- The next rows of a reshape: once they are written and the position is past them, each sector of the array has the value that it had, and
-- the rows agree. Where the next row is direct, writing any part of it changes nothing by the position before it.
use Rattle.std.proofs.Common.{◌≡◌, ℕ, ◌+◌, ◌-◌, ◌*◌, ◌<◌, ◌≤◌, Bool, true, false, ◌==◌, nat_lt, if◌then◌else◌, List, map, take, length, Option, Some, None, unwrap_or, refl, sym, ap, ap₂, subst, ◌∙◌, inl, inr, eq-eqb, lt-ltb, le-ltb, arith}
use Rattle.std.proofs.lemmas.Bool.{cases_lt, ne_eqb}
use Rattle.std.specs.List.{range_with_len}
use Rattle.rack.specs.Seen.{Image}
use Rattle.rack.specs.Targets.{Target, look}
use Rattle.md_super.specs.Profile.{is_mirror}
use Rattle.raid_map.specs.LeftSymmetric.{IsMemberCount, StandsAt, member_of, parity_at, row_at, sector_of}
use Rattle.raid_map.proofs.Rows.{apart_from_parity, row_members_differ, rows_are_apart, answer_of, sector_from, some_is_data, stands_once}
use Rattle.parity.specs.Xor.{xor_all, zeros}
use Rattle.array_image.specs.Places.{member_slice, data_sector}
use Rattle.array_image.specs.Stripes.{Layout, parity, width, position_in, sector_in, there, given, AgreeIn}
use Rattle.array_image.specs.Supers.{is_reshaping}
use Rattle.array_image.specs.Arrays.{Member, Shape, column, layout_at, value_by}
use Rattle.array_image.specs.Even.{AllCount, AreEven}
use Rattle.array_image.specs.Held.{Among, source_in}
use Rattle.array_image.specs.Spent.{wanting}
use Rattle.array_image.proofs.Frames.{value_by_data}
use Rattle.array_image.proofs.Lost.{there_all}
use Rattle.array_model.specs.View.{View, IsArray, member_on, shape_of}
use Rattle.array_model.specs.Members.{members_of, slice_on}
use Rattle.array_model.specs.Rows.{written}
use Rattle.array_model.proofs.DataFrames.{columns_same}
use Rattle.array_model.proofs.Filled.{filled_sized, long_zeros, total_sized, total_there}
use Rattle.array_model.proofs.Firsts.{firsts, member_among, none_given, take_firsts}
use Rattle.array_model.proofs.Layouts.{layout_by, reshaping_parity}
use Rattle.array_model.proofs.Views.{shape_members}
use Rattle.array_model.proofs.WholeWrites.{own_value}
use Rattle.array_image.proofs.Sources.{source_counts}
use Rattle.array_image.proofs.Settled.{among_take}
use Rattle.reshape_laws.specs.Ahead.{AreNewRows, InRows, IsDirect, ShapeMoves, ahead_by, data_piece, new_piece, next_row, row_parity, row_sectors, sector_on}
use Rattle.reshape_laws.proofs.Addresses.{below_row, left_direct, made_of, new_count, next_position, old_count, past_row, position_rows}
use Rattle.reshape_laws.proofs.Stripe.{row_gives, each_shown}
use Rattle.reshape_laws.proofs.Sums.{sum_put, total_long}

-- ---- the sector at a place

pub sector_on_stands : (k j t : ℕ) → 2 ≤ k → j < k → (j ≡ parity_at k t → ⊥) → StandsAt k (sector_on k j t) j t
unfolding answer_of sector_from
sector_on_stands k j t two low other = (some_is_data k j t two low other (answer_of k j t)).0 refl

-- that of a sector's own place is the sector
pub sector_on_own : (k y : ℕ) → 2 ≤ k → member_of k y < k → sector_on k (member_of k y) (sector_of k y) ≡ y
sector_on_own k y two low =
    stands_once k (sector_on k (member_of k y) (sector_of k y)) y (member_of k y) (sector_of k y) two
    (sector_on_stands k (member_of k y) (sector_of k y) two low (apart_from_parity k y two))
    (record { on_member = refl; at_sector = refl })

-- ---- values by a shape

-- shapes with the same members, and the same layout at a sector
pub value_laid : (f g : Shape) (c : Image) (n y : ℕ) → layout_at g y ≡ layout_at f y → g.members ≡ f.members → value_by g c n y ≡ value_by f c n y
unfolding value_by
value_laid f g c n y layout members =
    ap₂ (λ (l : Layout) (ms : List Member). given l (map (column c n (sector_in l y)) (take (width l) ms)) (position_in l y)) layout members

without_own : (f : Shape) (c : Image) (n y : ℕ)
    → ((m : Member) (t : ℕ) → Among m f.members → t < m.reach → length (c (member_slice m.place n) (data_sector + t)) ≡ 512)
    → source_in (layout_at f y) (sector_in (layout_at f y) y) (position_in (layout_at f y) y) f.members ≡ None → length (value_by f c n y) ≡ 512
unfolding value_by
without_own f c n y sized none =
    let l : Layout = layout_at f y in
    let t : ℕ = sector_in (layout_at f y) y in
    let ms : List Member = take (width (layout_at f y)) f.members in
    let wide = filled_sized c n t ms (λ m among counts. sized m t (among_take (width l) f.members m among) counts) in
    ap length (none_given l c n t (position_in l y) f.members none ∙ total_there c n t ms wide) ∙ total_sized c n t ms wide

-- whole sectors give whole values
pub value_long : (f : Shape) (c : Image) (n y k : ℕ) → layout_at f y ≡ parity k
    → ((m : Member) (t : ℕ) → Among m f.members → t < m.reach → length (c (member_slice m.place n) (data_sector + t)) ≡ 512)
    → length (value_by f c n y) ≡ 512
value_long f c n y k layout sized =
    let t : ℕ = sector_in (layout_at f y) y in
    let Goal : Option Member → Type 0 = λ o. source_in (layout_at f y) t (position_in (layout_at f y) y) f.members ≡ o → length (value_by f c n y) ≡ 512 in
    let goal : Goal (source_in (layout_at f y) t (position_in (layout_at f y) y) f.members) =
    elim (source_in (layout_at f y) t (position_in (layout_at f y) y) f.members) as Goal [
      | Some m ↦ λ is.
          let found = source_counts f y m is in
          ap length (own_value f n y c m is) ∙ sized m t found.among found.counts
      | None ↦ λ none. without_own f c n y sized none
    ] in
    goal refl

none_or : (o : Option (List ℕ)) → ((u : List ℕ) → o ≡ Some u → ⊥) → o ≡ None
none_or None lacks = refl
none_or (Some u) lacks = absurd (lacks u refl)

-- ---- where a sector stands before the rows' move and after it

pub data Side (v : View) (many events y : ℕ) : Type 0 where
  -- in a new row below them
  below :
      layout_at (shape_of v) y ≡ parity v.truth.raid_disks → layout_at (shape_of (ahead_by v many events)) y ≡ parity v.truth.raid_disks
      → (InRows (next_row v) many (sector_of v.truth.raid_disks y) → ⊥) → Side v many events y
  -- in one of them: it stands in an old row before the move
  moving :
      layout_at (shape_of v) y ≡ parity (v.truth.raid_disks - 1) → layout_at (shape_of (ahead_by v many events)) y ≡ parity v.truth.raid_disks
      → InRows (next_row v) many (sector_of v.truth.raid_disks y) → Side v many events y
  -- in an old row past them
  above :
      layout_at (shape_of v) y ≡ parity (v.truth.raid_disks - 1) → layout_at (shape_of (ahead_by v many events)) y ≡ parity (v.truth.raid_disks - 1)
      → (InRows (next_row v) many (sector_of (v.truth.raid_disks - 1) y) → ⊥) → Side v many events y

module _ (v : View) (is_array : IsArray v) (reshaping : is_reshaping v.truth ≡ true) where
  three : 3 ≤ v.truth.raid_disks
  three = (is_array.reshape reshaping).1

  most : v.truth.raid_disks ≤ 16
  most = by (is_mirror v.truth) is_array.most
    where
      by : (b : Bool) → v.truth.raid_disks ≤ (if b then 2 else 16) → v.truth.raid_disks ≤ 16
      by true few = omega (arith, few)
      by false few = few

  count : IsMemberCount v.truth.raid_disks
  count = new_count v.truth.raid_disks three most

  older : IsMemberCount (v.truth.raid_disks - 1)
  older = old_count v.truth.raid_disks three most

  cut : v.truth.reshape_position ≡ next_row v * row_sectors v.truth.raid_disks
  cut = position_rows v.truth.raid_disks v.truth.reshape_position (is_array.reshape reshaping).2

  before_at : (y : ℕ) (b : Bool) → nat_lt y v.truth.reshape_position ≡ b
      → layout_at (shape_of v) y ≡ (if b then parity v.truth.raid_disks else parity (v.truth.raid_disks - 1))
  before_at y b is =
      layout_by v y true b reshaping is ∙ ap (λ (l : Layout). if b then l else parity (v.truth.raid_disks - 1)) (reshaping_parity v is_array reshaping)

  -- ---- a direct row: by the position before it no sector stands on its sectors, so whatever is written there changes nothing

  direct_other : IsDirect v.truth.raid_disks (next_row v) → (y : ℕ) → row_at (sector_in (layout_at (shape_of v) y) y) ≡ next_row v → ⊥
  direct_other direct y same = elim (cases_lt y v.truth.reshape_position) [
    | inl low ↦
        let row = (rows_are_apart v.truth.raid_disks count).row y in
        let less = below_row v.truth.raid_disks (next_row v) y count (subst (λ p. y < p) cut low) in
        let is : row_at (sector_of v.truth.raid_disks y) ≡ next_row v =
        ap (λ (l : Layout). row_at (sector_in l y)) (sym (before_at y true (lt-ltb y v.truth.reshape_position low))) ∙ same in
        omega (arith, is, row, less)
    | inr high ↦
        let row = (rows_are_apart (v.truth.raid_disks - 1) older).row y in
        let more = left_direct v.truth.raid_disks (next_row v) y three most direct (subst (λ p. p ≤ y) cut high) in
        let is : row_at (sector_of (v.truth.raid_disks - 1) y) ≡ next_row v =
        ap (λ (l : Layout). row_at (sector_in l y)) (sym (before_at y false (le-ltb y v.truth.reshape_position high))) ∙ same in
        omega (arith, is, row, more)
  ]

  pub direct_value : IsDirect v.truth.raid_disks (next_row v) → (c e : Image)
      → ((d t : ℕ) → (row_at t ≡ next_row v → ⊥) → c d (data_sector + t) ≡ e d (data_sector + t))
      → (y : ℕ) → value_by (shape_of v) c v.number y ≡ value_by (shape_of v) e v.number y
  direct_value direct c e same y =
      value_by_data (shape_of v) c e v.number y
      (λ m among counts. same (member_slice m.place v.number) (sector_in (layout_at (shape_of v) y) y) (direct_other direct y))

  pub direct_even : IsDirect v.truth.raid_disks (next_row v) → (c e : Image)
      → ((d t : ℕ) → (row_at t ≡ next_row v → ⊥) → c d (data_sector + t) ≡ e d (data_sector + t))
      → (synced : ℕ) → AreEven (shape_of v) v.number synced e → AreEven (shape_of v) v.number synced c
  direct_even direct c e same synced even y inside row counts =
      subst (λ stripe. AgreeIn (layout_at (shape_of v) y) (there stripe))
      (sym (columns_same c e v.number (sector_in (layout_at (shape_of v) y) y) (take (width (layout_at (shape_of v) y)) (shape_of v).members)
      (λ m among counted. same (member_slice m.place v.number) (sector_in (layout_at (shape_of v) y) y) (direct_other direct y))))
      (even y inside row counts)

module _ (v : View) (many events : ℕ) (is_array : IsArray v) (reshaping : is_reshaping v.truth ≡ true) where
  abbrev past : ℕ
  past = v.truth.reshape_position + 128 * many * (v.truth.raid_disks - 1)

  next_cut : v.truth.reshape_position + 128 * many * (v.truth.raid_disks - 1) ≡ (next_row v + many) * row_sectors v.truth.raid_disks
  next_cut = next_position v.truth.raid_disks (next_row v) many v.truth.reshape_position (cut v is_array reshaping)

  after_at : (y : ℕ) (b : Bool) → nat_lt y (v.truth.reshape_position + 128 * many * (v.truth.raid_disks - 1)) ≡ b
      → layout_at (shape_of (ahead_by v many events)) y ≡ (if b then parity v.truth.raid_disks else parity (v.truth.raid_disks - 1))
  after_at y b is =
      layout_by (ahead_by v many events) y true b reshaping is ∙ ap (λ (l : Layout). if b then l else parity (v.truth.raid_disks - 1)) (reshaping_parity v is_array reshaping)

  pub side : (y : ℕ) → Side v many events y
  side y = elim (cases_lt y v.truth.reshape_position) [
    | inl low ↦
        let row = (rows_are_apart v.truth.raid_disks (count v is_array reshaping)).row y in
        below (before_at v is_array reshaping y true (lt-ltb y v.truth.reshape_position low)) (after_at y true (lt-ltb y past (omega (arith, low))))
        (λ same.
        let least = same.0 in
        let less = below_row v.truth.raid_disks (next_row v) y (count v is_array reshaping) (subst (λ p. y < p) (cut v is_array reshaping) low) in
        omega (arith, least, row, less))
    | inr high ↦ elim (cases_lt y past) [
      | inl low ↦
          let row = (rows_are_apart v.truth.raid_disks (count v is_array reshaping)).row y in
          let least = past_row v.truth.raid_disks (next_row v) y (count v is_array reshaping) (subst (λ p. p ≤ y) (cut v is_array reshaping) high) in
          let less = below_row v.truth.raid_disks (next_row v + many) y (count v is_array reshaping) (subst (λ p. y < p) next_cut low) in
          moving (before_at v is_array reshaping y false (le-ltb y v.truth.reshape_position high)) (after_at y true (lt-ltb y past low))
          (omega (arith, row, least), omega (arith, row, less))
      | inr over ↦
          let row = (rows_are_apart (v.truth.raid_disks - 1) (older v is_array reshaping)).row y in
          let more = made_of v.truth.raid_disks (next_row v + many) y (three v is_array reshaping) (most v is_array reshaping) (subst (λ p. p ≤ y) next_cut over) in
          above (before_at v is_array reshaping y false (le-ltb y v.truth.reshape_position high)) (after_at y false (le-ltb y past over))
          (λ same. let less = same.1 in omega (arith, less, row, more))
    ]
  ]

  members_same : (shape_of (ahead_by v many events)).members ≡ (shape_of v).members
  unfolding shape_of
  members_same = refl

  size_same : (shape_of (ahead_by v many events)).size ≡ (shape_of v).size
  unfolding shape_of
  size_same = refl

  all_members : take v.truth.raid_disks (shape_of v).members ≡ firsts v v.truth.raid_disks
  all_members = ap (take v.truth.raid_disks) (shape_members v) ∙ take_firsts v v.truth.raid_disks v.truth.raid_disks (omega arith)

  -- ---- the rows that were written

  module _ (cur : Image) (xs : List Target) (copies : AreNewRows v many cur xs)
      (few : (t : ℕ) → InRows (next_row v) many t → wanting t (members_of v) ≤ 1)
      (sized : (m : Member) (t : ℕ) → Among m (shape_of v).members → t < m.reach → length (cur (member_slice m.place v.number) (data_sector + t)) ≡ 512) where
    abbrev f : Shape
    f = shape_of v

    abbrev g : Shape
    g = shape_of (ahead_by v many events)

    abbrev n : ℕ
    n = v.number

    abbrev now : Image
    now = written xs cur

    kept_at : (d t : ℕ) → (InRows (next_row v) many t → ⊥) → written xs cur d (data_sector + t) ≡ cur d (data_sector + t)
    kept_at d t outside =
        ap (λ (o : Option (List ℕ)). unwrap_or o (cur d (data_sector + t)))
        (none_or (look xs d (data_sector + t))
        (λ u found.
        let at = copies.on d (data_sector + t) u found in
        let sector = at.at in
        let inside = at.inside in
        outside (omega (arith, sector, inside.0), omega (arith, sector, inside.1))))

    value_sized : (y : ℕ) → length (value_by (shape_of v) cur v.number y) ≡ 512
    value_sized y = elim (side y) [
      | below layout later other ↦ value_long (shape_of v) cur v.number y v.truth.raid_disks layout sized
      | moving layout later inside ↦ value_long (shape_of v) cur v.number y (v.truth.raid_disks - 1) layout sized
      | above layout later other ↦ value_long (shape_of v) cur v.number y (v.truth.raid_disks - 1) layout sized
    ]

    abbrev piece : ℕ → ℕ → List ℕ
    piece t j = new_piece (shape_of v) v.number cur v.truth.raid_disks t j

    piece_at : (t j : ℕ) → (j ≡ parity_at v.truth.raid_disks t → ⊥) → piece t j ≡ value_by (shape_of v) cur v.number (sector_on v.truth.raid_disks j t)
    piece_at t j other =
        ap (λ (b : Bool). if b then row_parity (shape_of v) v.number cur v.truth.raid_disks t else value_by (shape_of v) cur v.number (sector_on v.truth.raid_disks j t))
        (ne_eqb j (parity_at v.truth.raid_disks t) other)

    abbrev data_of_row : ℕ → ℕ → List ℕ
    data_of_row t j = data_piece (shape_of v) v.number cur v.truth.raid_disks t j

    data_at : (t j : ℕ) → (j ≡ parity_at v.truth.raid_disks t → ⊥) → data_of_row t j ≡ value_by (shape_of v) cur v.number (sector_on v.truth.raid_disks j t)
    data_at t j other =
        ap (λ (b : Bool). if b then zeros 512 else value_by (shape_of v) cur v.number (sector_on v.truth.raid_disks j t))
        (ne_eqb j (parity_at v.truth.raid_disks t) other)

    data_long : (t j : ℕ) → length (data_of_row t j) ≡ 512
    data_long t j = elim (j == parity_at v.truth.raid_disks t) as
        (λ (b : Bool). length (if b then zeros 512 else value_by (shape_of v) cur v.number (sector_on v.truth.raid_disks j t)) ≡ 512) [
          | true ↦ long_zeros
          | false ↦ value_sized (sector_on v.truth.raid_disks j t)
        ]

    parity_is : (t : ℕ) → row_parity (shape_of v) v.number cur v.truth.raid_disks t ≡ xor_all 512 (map (data_of_row t) (range_with_len 0 v.truth.raid_disks))
    unfolding row_parity
    parity_is t = refl

    piece_long : (t j : ℕ) → length (piece t j) ≡ 512
    piece_long t j = elim (j == parity_at v.truth.raid_disks t) as
        (λ (b : Bool). length (if b then row_parity (shape_of v) v.number cur v.truth.raid_disks t else value_by (shape_of v) cur v.number (sector_on v.truth.raid_disks j t)) ≡ 512) [
          | true ↦ ap length (parity_is t) ∙ total_long (data_of_row t) v.truth.raid_disks (λ i low. data_long t i)
          | false ↦ value_sized (sector_on v.truth.raid_disks j t)
        ]

    -- its sum is zeros
    pub row_agrees : (t : ℕ) → xor_all 512 (map (piece t) (range_with_len 0 v.truth.raid_disks)) ≡ zeros 512
    row_agrees t =
        let q = parity_at v.truth.raid_disks t in
        sum_put (data_of_row t) (piece t) (parity_at v.truth.raid_disks t) v.truth.raid_disks
        ((row_members_differ v.truth.raid_disks (count v is_array reshaping)).parity_is_member t)
        (λ j low. data_long t j)
        (ap (λ (b : Bool). if b then zeros 512 else value_by (shape_of v) cur v.number (sector_on v.truth.raid_disks q t)) (eq-eqb q q refl))
        (λ j low other. piece_at t j other ∙ sym (data_at t j other))
        (ap (λ (b : Bool). if b then row_parity (shape_of v) v.number cur v.truth.raid_disks t else value_by (shape_of v) cur v.number (sector_on v.truth.raid_disks q t)) (eq-eqb q q refl)
        ∙ parity_is t)

    -- a member that counts has its piece
    pieces : (t : ℕ) → InRows (next_row v) many t → (j : ℕ) → j < v.truth.raid_disks → t < (member_on v j).reach
        → written xs cur (slice_on v j) (data_sector + t) ≡ piece t j
    pieces t inside j low counts = ap (λ (o : Option (List ℕ)). unwrap_or o (cur (slice_on v j) (data_sector + t))) (copies.has t j inside low counts)

    -- the row gives each of its pieces, one member wanting or none
    pub row_has : (t j : ℕ) → InRows (next_row v) many t → j < v.truth.raid_disks
        → given (parity v.truth.raid_disks) (map (column (written xs cur) v.number t) (firsts v v.truth.raid_disks)) j ≡ piece t j
    row_has t j inside low =
        row_gives v (written xs cur) t v.truth.raid_disks (piece t) (pieces t inside) (row_agrees t) (λ i less. piece_long t i) (few t inside) j low

    -- so a sector that moves has the value that it had
    value_moved : (y : ℕ) → layout_at (shape_of (ahead_by v many events)) y ≡ parity v.truth.raid_disks → InRows (next_row v) many (sector_of v.truth.raid_disks y)
        → value_by (shape_of (ahead_by v many events)) (written xs cur) v.number y ≡ value_by (shape_of v) cur v.number y
    unfolding value_by
    value_moved y layout inside =
        let two : 2 ≤ v.truth.raid_disks = (let least = three v is_array reshaping in omega (arith, least)) in
        let low = (row_members_differ v.truth.raid_disks (count v is_array reshaping)).is_member y in
        ap (λ (l : Layout). given l (map (column (written xs cur) v.number (sector_in l y)) (take (width l) (shape_of (ahead_by v many events)).members)) (position_in l y)) layout
        ∙ ap (λ (ms : List Member). given (parity v.truth.raid_disks) (map (column (written xs cur) v.number (sector_of v.truth.raid_disks y)) ms) (member_of v.truth.raid_disks y))
        (ap (take v.truth.raid_disks) members_same ∙ all_members)
        ∙ row_has (sector_of v.truth.raid_disks y) (member_of v.truth.raid_disks y) inside low
        ∙ piece_at (sector_of v.truth.raid_disks y) (member_of v.truth.raid_disks y) (apart_from_parity v.truth.raid_disks y two)
        ∙ ap (λ x. value_by (shape_of v) cur v.number x) (sector_on_own v.truth.raid_disks y two low)

    -- any other stands where it stood, and the rows aren't there
    value_left : (y j : ℕ) → layout_at (shape_of v) y ≡ parity j → layout_at (shape_of (ahead_by v many events)) y ≡ parity j → (InRows (next_row v) many (sector_of j y) → ⊥)
        → value_by (shape_of (ahead_by v many events)) (written xs cur) v.number y ≡ value_by (shape_of v) cur v.number y
    value_left y j layout later other =
        value_laid (shape_of v) (shape_of (ahead_by v many events)) (written xs cur) v.number y (later ∙ sym layout) members_same
        ∙ value_by_data (shape_of v) (written xs cur) cur v.number y
        (λ m among counts.
        kept_at (member_slice m.place v.number) (sector_in (layout_at (shape_of v) y) y)
        (λ same. other (subst (λ (l : Layout). InRows (next_row v) many (sector_in l y)) layout same)))

    -- NO VALUE CHANGES, of any sector
    pub value_kept : (y : ℕ) → value_by (shape_of (ahead_by v many events)) (written xs cur) v.number y ≡ value_by (shape_of v) cur v.number y
    value_kept y = elim (side y) [
      | below layout later other ↦ value_left y v.truth.raid_disks layout later other
      | moving layout later inside ↦ value_moved y later inside
      | above layout later other ↦ value_left y (v.truth.raid_disks - 1) layout later other
    ]

    -- ---- rows that agree

    even_left : (synced y j : ℕ) → AreEven (shape_of v) v.number synced cur
        → layout_at (shape_of v) y ≡ parity j → layout_at (shape_of (ahead_by v many events)) y ≡ parity j → (InRows (next_row v) many (sector_of j y) → ⊥)
        → sector_in (layout_at (shape_of (ahead_by v many events)) y) y < (shape_of (ahead_by v many events)).size
        → row_at (sector_in (layout_at (shape_of (ahead_by v many events)) y) y) < synced
        → AllCount (layout_at (shape_of (ahead_by v many events)) y) (shape_of (ahead_by v many events)) (sector_in (layout_at (shape_of (ahead_by v many events)) y) y)
        → AgreeIn (layout_at (shape_of (ahead_by v many events)) y)
        (there (map (column (written xs cur) v.number (sector_in (layout_at (shape_of (ahead_by v many events)) y) y)) (take (width (layout_at (shape_of (ahead_by v many events)) y)) (shape_of (ahead_by v many events)).members)))
    even_left synced y j even layout later other inside row counts =
        let same : layout_at (shape_of (ahead_by v many events)) y ≡ layout_at (shape_of v) y = later ∙ sym layout in
        let Agree : Image → Layout → List Member → Type 0 = λ c l ms. AgreeIn l (there (map (column c v.number (sector_in l y)) (take (width l) ms))) in
        let old : Agree cur (layout_at (shape_of v) y) (shape_of v).members =
        even y
        (subst (λ (l : Layout). sector_in l y < (shape_of v).size) same (subst (λ k. sector_in (layout_at (shape_of (ahead_by v many events)) y) y < k) size_same inside))
        (subst (λ (l : Layout). row_at (sector_in l y) < synced) same row)
        (subst (λ (l : Layout). (m : Member) → Among m (take (width l) (shape_of v).members) → sector_in l y < m.reach) same
        (subst (λ (ms : List Member). (m : Member) → Among m (take (width (layout_at (shape_of (ahead_by v many events)) y)) ms) → sector_in (layout_at (shape_of (ahead_by v many events)) y) y < m.reach) members_same counts)) in
        let t : ℕ = sector_in (layout_at (shape_of (ahead_by v many events)) y) y in
        subst (λ stripe. AgreeIn (layout_at (shape_of (ahead_by v many events)) y) (there stripe))
        (sym (columns_same (written xs cur) cur v.number t (take (width (layout_at (shape_of (ahead_by v many events)) y)) (shape_of (ahead_by v many events)).members)
        (λ m among counted. kept_at (member_slice m.place v.number) t (λ is. other (subst (λ (l : Layout). InRows (next_row v) many (sector_in l y)) later is)))))
        (subst (λ (ms : List Member). Agree cur (layout_at (shape_of (ahead_by v many events)) y) ms) (sym members_same)
        (subst (λ (l : Layout). Agree cur l (shape_of v).members) (sym same) old))

    even_moved : (y : ℕ) → layout_at (shape_of (ahead_by v many events)) y ≡ parity v.truth.raid_disks → InRows (next_row v) many (sector_of v.truth.raid_disks y)
        → AllCount (layout_at (shape_of (ahead_by v many events)) y) (shape_of (ahead_by v many events)) (sector_in (layout_at (shape_of (ahead_by v many events)) y) y)
        → AgreeIn (layout_at (shape_of (ahead_by v many events)) y)
        (there (map (column (written xs cur) v.number (sector_in (layout_at (shape_of (ahead_by v many events)) y) y)) (take (width (layout_at (shape_of (ahead_by v many events)) y)) (shape_of (ahead_by v many events)).members)))
    even_moved y later inside counts =
        let t : ℕ = sector_of v.truth.raid_disks y in
        let ms : take v.truth.raid_disks (shape_of (ahead_by v many events)).members ≡ firsts v v.truth.raid_disks = ap (take v.truth.raid_disks) members_same ∙ all_members in
        let each : (m : Member) → Among m (take v.truth.raid_disks (shape_of (ahead_by v many events)).members) → t < m.reach =
        subst (λ (l : Layout). (m : Member) → Among m (take (width l) (shape_of (ahead_by v many events)).members) → sector_in l y < m.reach) later counts in
        let counted : (j : ℕ) → j < v.truth.raid_disks → t < (member_on v j).reach =
        λ j low. each (member_on v j) (subst (λ (os : List Member). Among (member_on v j) os) (sym ms) (member_among v j v.truth.raid_disks low)) in
        let shown = each_shown v (written xs cur) t v.truth.raid_disks (piece t) (pieces t inside) 0 v.truth.raid_disks (omega arith) counted in
        subst (λ (l : Layout). AgreeIn l (there (map (column (written xs cur) v.number (sector_in l y)) (take (width l) (shape_of (ahead_by v many events)).members)))) (sym later)
        (subst (λ (os : List Member). xor_all 512 (there (map (column (written xs cur) v.number t) os)) ≡ zeros 512) (sym ms)
        (ap (λ stripe. xor_all 512 (there stripe)) shown ∙ ap (xor_all 512) (there_all (map (piece t) (range_with_len 0 v.truth.raid_disks))) ∙ row_agrees t))

    -- ROWS THAT AGREE DO SO AFTER IT, and the new ones do
    pub even_kept : (synced : ℕ) → AreEven (shape_of v) v.number synced cur → AreEven (shape_of (ahead_by v many events)) v.number synced (written xs cur)
    even_kept synced even y inside row counts = elim (side y) [
      | below layout later other ↦ even_left synced y v.truth.raid_disks even layout later other inside row counts
      | moving layout later in_it ↦ even_moved y later in_it counts
      | above layout later other ↦ even_left synced y (v.truth.raid_disks - 1) even layout later other inside row counts
    ]

    -- what the rows' step owes
    pub row_moves : (synced : ℕ) (spent : ℕ → Bool) → ShapeMoves v.number (shape_of v) (shape_of (ahead_by v many events)) synced synced spent (λ m. ⊥) cur xs
    row_moves synced spent = record {
      counted = λ m t among counts. inl (m, subst (λ (ms : List Member). Among m ms) members_same among, refl, counts);
      value = λ y alive. value_kept y;
      even = even_kept synced;
    }
