-- A RAID-5 row of which a member may be missing: a sector and its parity are written where these count.
use Rattle.std.proofs.Common.{◌≡◌, ◌⊎◌, ℕ, ◌+◌, ◌<◌, ◌≤◌, Bool, true, false, ◌==◌, nat_lt, if◌then◌else◌, List, map, take, length, Option, Some, None, unwrap_or, refl, sym, ap, ap₂, subst, ◌∙◌, inl, inr, eqb-true, eq-eqb, ltb-true, arith}
use Rattle.std.proofs.lemmas.Bool.{both_ways, ne_eqb}
use Rattle.rack.specs.Seen.{Image}
use Rattle.rack.specs.Targets.{Target, look}
use Rattle.parity.specs.Xor.{xor, xor_all, zeros}
use Rattle.raid_map.specs.LeftSymmetric.{IsMemberCount, member_of, sector_of, parity_at}
use Rattle.raid_map.proofs.Rows.{stands_once, apart_from_parity}
use Rattle.array_image.specs.Places.{member_slice, data_sector}
use Rattle.array_image.specs.Stripes.{Layout, parity, width, position_in, sector_in, there, AgreeIn}
use Rattle.array_image.specs.Arrays.{Member, Shape, column, layout_at, stripe_in, value_by}
use Rattle.array_image.specs.Held.{Among, member_at}
use Rattle.array_image.specs.Even.{AllCount}
use Rattle.array_image.specs.Spent.{wanting, spent_by}
use Rattle.array_image.proofs.Frames.{value_by_data}
use Rattle.array_image.proofs.Sources.{source_counts}
use Rattle.array_model.specs.Members.{gathered}
use Rattle.array_model.specs.Rows.{AgreeAt, RowChange, data_at, parity_part, written, source_at, sector_at, part_at, IsPlain}
use Rattle.array_model.proofs.DataFrames.{columns_same}
use Rattle.array_model.proofs.Firsts.{none_given}
use Rattle.array_model.proofs.ParityRow.{AreSized, one_new, same_place, data_inside, parity_inside, parity_source}
use Rattle.array_model.proofs.Parts.{part_among, plain_sector, plain_source, plain_take}
use Rattle.array_model.proofs.Spared.{at_most_one}
use Rattle.array_model.proofs.WholeWrites.{own_value}
use Rattle.array_model.proofs.Filled.{xor_same, xor_new, xor_zeros, filled, filled_there, filled_none, filled_sized, total, total_sized, total_there, at_part, two_want}

-- ---- the row

module _ (shape : Shape) (k n resync x : ℕ) (from new : List ℕ) (cur : Image) (xs : List Target)
    (plain : IsPlain shape (parity k)) (count : IsMemberCount k) (wide : length from ≡ 512) (long : length new ≡ 512)
    (sized : (m : Member) (t : ℕ) → Among m shape.members → t < m.reach → length (cur (member_slice m.place n) (data_sector + t)) ≡ 512)
    (hit : sector_of k x < (data_at shape k x).reach → look xs (member_slice (data_at shape k x).place n) (data_sector + sector_of k x) ≡ Some from)
    (side : sector_of k x < (parity_part shape k x).reach → look xs (member_slice (parity_part shape k x).place n) (data_sector + sector_of k x) ≡ Some new)
    (only : (d i : ℕ) (u : List ℕ) → look xs d i ≡ Some u
    → ((d ≡ member_slice (data_at shape k x).place n) × (i ≡ data_sector + sector_of k x) × (u ≡ from))
    ⊎ ((d ≡ member_slice (parity_part shape k x).place n) × (i ≡ data_sector + sector_of k x) × (u ≡ new)))
    (unspent : spent_by shape resync x ≡ false)
    (next : sector_of k x < (parity_part shape k x).reach → new ≡ xor (xor (cur (member_slice (parity_part shape k x).place n) (data_sector + sector_of k x)) (value_by shape cur n x)) from) where
  abbrev t : ℕ
  t = sector_of k x

  abbrev p : ℕ
  p = member_of k x

  abbrev q : ℕ
  q = parity_at k (sector_of k x)

  abbrev members : List Member
  members = shape.members

  abbrev f : Image
  f = written xs cur

  in_p : member_of k x < length shape.members
  in_p = data_inside shape k x plain count

  in_q : parity_at k (sector_of k x) < length shape.members
  in_q = parity_inside shape k (sector_of k x) plain count

  differ : member_of k x ≡ parity_at k (sector_of k x) → ⊥
  differ = apart_from_parity k x count.least

  written_is : (d i : ℕ) (o : Option (List ℕ)) → look xs d i ≡ o → written xs cur d i ≡ unwrap_or o (cur d i)
  written_is d i o is = ap (λ (w : Option (List ℕ)). unwrap_or w (cur d i)) is

  no_look : (d i : ℕ) → ((u : List ℕ) → look xs d i ≡ Some u → ⊥) → written xs cur d i ≡ cur d i
  no_look d i none =
      let Goal : Option (List ℕ) → Type 0 = λ o. look xs d i ≡ o → unwrap_or o (cur d i) ≡ cur d i in
      let goal : Goal (look xs d i) = elim (look xs d i) as Goal [ None ↦ λ is. refl | Some u ↦ λ is. absurd (none u is) ] in
      goal refl

  -- members at other positions keep their sector
  others_same : (j : ℕ) → j < length shape.members → (j ≡ member_of k x → ⊥) → (j ≡ parity_at k (sector_of k x) → ⊥)
      → written xs cur (member_slice (part_at j shape.members).place n) (data_sector + sector_of k x) ≡ cur (member_slice (part_at j shape.members).place n) (data_sector + sector_of k x)
  others_same j inside not_p not_q =
      no_look (member_slice (part_at j members).place n) (data_sector + t)
      (λ u is. elim (only _ _ u is) [
        | inl own ↦ not_p (plain.apart j p inside in_p (same_place (part_at j members).place (data_at shape k x).place n own.0))
        | inr par ↦ not_q (plain.apart j q inside in_q (same_place (part_at j members).place (parity_part shape k x).place n par.0))
      ])

  -- and other sectors are kept by all
  sectors_same : (m : Member) (i : ℕ) → (i ≡ sector_of k x → ⊥) → written xs cur (member_slice m.place n) (data_sector + i) ≡ cur (member_slice m.place n) (data_sector + i)
  sectors_same m i other =
      no_look (member_slice m.place n) (data_sector + i)
      (λ u is. elim (only _ _ u is) [
        | inl own ↦ other (let at = own.1 in omega (arith, at))
        | inr par ↦ other (let at = par.1 in omega (arith, at))
      ])

  abbrev g : Member → List ℕ
  g = filled cur n (sector_of k x)

  abbrev h : Member → List ℕ
  h = filled (written xs cur) n (sector_of k x)

  by_count : (P : List ℕ → List ℕ → Type 0) (m : Member)
      → (sector_of k x < m.reach → P (cur (member_slice m.place n) (data_sector + sector_of k x)) (written xs cur (member_slice m.place n) (data_sector + sector_of k x)))
      → (nat_lt (sector_of k x) m.reach ≡ false → P (zeros 512) (zeros 512))
      → P (filled cur n (sector_of k x) m) (filled (written xs cur) n (sector_of k x) m)
  by_count P m there_is none =
      let Goal : Bool → Type 0 = λ b. nat_lt t m.reach ≡ b → P (g m) (h m) in
      let goal : Goal (nat_lt t m.reach) = elim (nat_lt t m.reach) as Goal [
        | true ↦ λ is.
            let counts = ltb-true t m.reach is in
            subst (λ v. P v (h m)) (sym (filled_there cur n t m counts))
            (subst (λ v. P (cur (member_slice m.place n) (data_sector + t)) v) (sym (filled_there f n t m counts)) (there_is counts))
        | false ↦ λ is. subst (λ v. P v (h m)) (sym (filled_none cur n t m is)) (subst (λ v. P (zeros 512) v) (sym (filled_none f n t m is)) (none is))
      ] in
      goal refl

  h_other : (j : ℕ) → j < length shape.members → (j ≡ member_of k x → ⊥) → (j ≡ parity_at k (sector_of k x) → ⊥) → h (part_at j shape.members) ≡ g (part_at j shape.members)
  h_other j inside not_p not_q = by_count (λ v w. w ≡ v) (part_at j members) (λ counts. others_same j inside not_p not_q) (λ none. refl)

  -- the row once the sector alone is written
  abbrev one : Member → List ℕ
  one m = if m.place == (data_at shape k x).place then h m else g m

  one_data : one (data_at shape k x) ≡ h (data_at shape k x)
  one_data = ap (λ (b : Bool). if b then h (data_at shape k x) else g (data_at shape k x)) (eq-eqb _ _ refl)

  one_other : (j : ℕ) → j < length shape.members → (j ≡ member_of k x → ⊥) → one (part_at j shape.members) ≡ g (part_at j shape.members)
  one_other j inside not_p =
      ap (λ (b : Bool). if b then h (part_at j members) else g (part_at j members))
      (ne_eqb (part_at j members).place (data_at shape k x).place (λ same. not_p (plain.apart j p inside in_p same)))

  one_rest : (j : ℕ) → j < length shape.members → (j ≡ parity_at k (sector_of k x) → ⊥) → h (part_at j shape.members) ≡ one (part_at j shape.members)
  one_rest j inside not_q =
      let Goal : Bool → Type 0 = λ b. (j == p) ≡ b → h (part_at j members) ≡ one (part_at j members) in
      let goal : Goal (j == p) = elim (j == p) as Goal [
        | true ↦ λ is.
            let At : ℕ → Type 0 = λ i. h (part_at i members) ≡ one (part_at i members) in
            let here : At p = sym one_data in
            subst At (sym (eqb-true j p is)) here
        | false ↦ λ no.
            let not_p : j ≡ p → ⊥ = λ is. both_ways (j == p) no (eq-eqb j p is) in
            h_other j inside not_p not_q ∙ sym (one_other j inside not_p)
      ] in
      goal refl

  g_sized : AreSized g shape.members
  g_sized = filled_sized cur n t members (λ m among counts. sized m t among counts)

  f_sized : (m : Member) → Among m shape.members → sector_of k x < m.reach → length (written xs cur (member_slice m.place n) (data_sector + sector_of k x)) ≡ 512
  f_sized m among counts =
      let d = member_slice m.place n in
      let i = data_sector + t in
      let Goal : Option (List ℕ) → Type 0 = λ o. look xs d i ≡ o → length (unwrap_or o (cur d i)) ≡ 512 in
      let goal : Goal (look xs d i) = elim (look xs d i) as Goal [
        | None ↦ λ is. sized m t among counts
        | Some u ↦ λ is. elim (only d i u is) [ inl own ↦ ap length own.2 ∙ wide | inr par ↦ ap length par.2 ∙ long ]
      ] in
      goal refl

  h_sized : AreSized h shape.members
  h_sized = filled_sized f n t members f_sized

  one_sized : AreSized one shape.members
  one_sized m among =
      elim (m.place == (data_at shape k x).place) as (λ b. length (if b then h m else g m) ≡ 512) [ true ↦ h_sized m among | false ↦ g_sized m among ]

  -- the row with both changed
  totals : total (written xs cur) n (sector_of k x) shape.members
      ≡ xor (xor (xor (xor (total cur n (sector_of k x) shape.members) (g (data_at shape k x))) (h (data_at shape k x))) (g (parity_part shape k x))) (h (parity_part shape k x))
  unfolding total
  totals =
      one_new one h q members in_q one_sized one_rest
      ∙ ap₂ (λ v w. xor (xor v w) (h (parity_part shape k x)))
      (one_new g one p members in_p g_sized (λ j inside other. one_other j inside other) ∙ ap (xor (xor (xor_all 512 (map g members)) (g (data_at shape k x)))) one_data)
      (one_other q in_q (λ same. differ (sym same)))

  sized_p : length (g (data_at shape k x)) ≡ 512
  sized_p = g_sized (data_at shape k x) (part_among p members in_p)

  sized_q : length (g (parity_part shape k x)) ≡ 512
  sized_q = g_sized (parity_part shape k x) (part_among q members in_q)

  sized_t : length (total cur n (sector_of k x) shape.members) ≡ 512
  sized_t = total_sized cur n t members g_sized

  h_data : sector_of k x < (data_at shape k x).reach → h (data_at shape k x) ≡ from
  h_data counts = filled_there f n t (data_at shape k x) counts ∙ written_is _ _ (Some from) (hit counts)

  h_parity : sector_of k x < (parity_part shape k x).reach → h (parity_part shape k x) ≡ new
  h_parity counts = filled_there f n t (parity_part shape k x) counts ∙ written_is _ _ (Some new) (side counts)

  -- the old value of the written sector, where its member counts
  old_own : sector_of k x < (data_at shape k x).reach → value_by shape cur n x ≡ g (data_at shape k x)
  old_own counts =
      let source : source_at shape x ≡ Some (data_at shape k x) = source_there x counts in
      own_value shape n x cur (data_at shape k x) source ∙ ap (λ i. cur (member_slice (data_at shape k x).place n) (data_sector + i)) (plain_sector shape (parity k) x plain)
      ∙ sym (filled_there cur n t (data_at shape k x) counts)
    where
      source_there : (y : ℕ) → sector_of k y < (data_at shape k y).reach → source_at shape y ≡ Some (data_at shape k y)
      source_there y counts =
          plain_source shape (parity k) y plain
          ∙ ap (member_at (sector_of k y) (member_of k y)) (plain_take shape (parity k) plain)
          ∙ at_part (sector_of k y) (member_of k y) shape.members (data_inside shape k y plain count) counts

  -- where all count the row's sum stays
  same_total : sector_of k x < (data_at shape k x).reach → sector_of k x < (parity_part shape k x).reach
      → total (written xs cur) n (sector_of k x) shape.members ≡ total cur n (sector_of k x) shape.members
  same_total at_p at_q =
      totals
      ∙ ap₂ (λ v w. xor (xor (xor (xor (total cur n t members) (g (data_at shape k x))) v) (g (parity_part shape k x))) w) (h_data at_p)
      (h_parity at_q ∙ next at_q ∙ ap₂ (λ v w. xor (xor v w) from) (sym (filled_there cur n t (parity_part shape k x) at_q)) (old_own at_p))
      ∙ xor_same (total cur n t members) (g (data_at shape k x)) from (g (parity_part shape k x)) sized_t sized_p wide sized_q

  -- what a sector without a source has
  unsourced : (c : Image) (y : ℕ) → sector_of k y ≡ sector_of k x → source_at shape y ≡ None → AreSized (filled c n (sector_of k x)) shape.members
      → value_by shape c n y ≡ total c n (sector_of k x) shape.members
  unfolding value_by
  unsourced c y same none sizes =
      let layout = layout_at shape y in
      none_given layout c n (sector_in layout y) (position_in layout y) members none
      ∙ ap₂ (λ (i : ℕ) (ms : List Member). gathered c n i ms)
      (plain_sector shape (parity k) y plain ∙ same)
      (ap (λ (l : Layout). take (width l) members) (plain.layout_is y) ∙ plain_take shape (parity k) plain)
      ∙ total_there c n t members sizes

  -- of two members one counts at the sector
  counts_but : (i j : ℕ) → i < length shape.members → j < length shape.members → (i ≡ j → ⊥) → nat_lt (sector_of k x) (part_at i shape.members).reach ≡ false
      → sector_of k x < (part_at j shape.members).reach
  counts_but i j low_i low_j other none =
      let Goal : Bool → Type 0 = λ b. nat_lt t (part_at j members).reach ≡ b → t < (part_at j members).reach in
      let goal : Goal (nat_lt t (part_at j members).reach) = elim (nat_lt t (part_at j members).reach) as Goal [
        | true ↦ λ is. ltb-true t (part_at j members).reach is
        | false ↦ λ is.
            let two = two_want t i j members low_i low_j other none is in
            let few : wanting t members ≤ 1 = subst (λ s. wanting s members ≤ 1) (plain_sector shape (parity k) x plain) (at_most_one _ _ unspent) in
            absurd (omega (arith, two, few))
      ] in
      goal refl

  -- a sector without a source: its member doesn't count
  none_counts : (y : ℕ) → sector_of k y ≡ sector_of k x → source_at shape y ≡ None → nat_lt (sector_of k x) (data_at shape k y).reach ≡ false
  none_counts y same none =
      let Goal : Bool → Type 0 = λ b. nat_lt t (data_at shape k y).reach ≡ b → b ≡ false in
      let goal : Goal (nat_lt t (data_at shape k y).reach) = elim (nat_lt t (data_at shape k y).reach) as Goal [
        | false ↦ λ is. refl
        | true ↦ λ is.
            let source : source_at shape y ≡ Some (data_at shape k y) =
            plain_source shape (parity k) y plain
            ∙ ap (member_at (sector_of k y) (member_of k y)) (plain_take shape (parity k) plain)
            ∙ at_part (sector_of k y) (member_of k y) members (data_inside shape k y plain count) (subst (λ s. s < (data_at shape k y).reach) (sym same) (ltb-true t (data_at shape k y).reach is)) in
            absurd (none_some (sym none ∙ source))
      ] in
      goal refl
    where
      none_some : {m : Member} → None ≡ Some m → ⊥
      none_some is = cc

  -- only one sector of the array stands there
  same_sector : (y : ℕ) → sector_of k y ≡ sector_of k x → member_of k y ≡ member_of k x → y ≡ x
  same_sector y sector position = stands_once k y x (member_of k x) (sector_of k x) count.least (record { on_member = position; at_sector = sector }) (record { on_member = refl; at_sector = refl })

  alone_in : (y : ℕ) (m : Member) (u : List ℕ) → source_at shape y ≡ Some m → look xs (member_slice m.place n) (data_sector + sector_at shape y) ≡ Some u → (y ≡ x) × (u ≡ from)
  alone_in y m u source is =
      let y_is = plain_sector shape (parity k) y plain in
      let m_is = parity_source shape k y m plain source in
      let sector_is : data_sector + sector_at shape y ≡ data_sector + sector_of k x → sector_of k y ≡ sector_of k x = λ at. omega (arith, at, y_is) in
      elim (only (member_slice m.place n) (data_sector + sector_at shape y) u is) [
        | inl own ↦
            let place = ap (λ (o : Member). o.place) (sym m_is) ∙ same_place m.place (data_at shape k x).place n own.0 in
            (same_sector y (sector_is own.1) (plain.apart (member_of k y) p (data_inside shape k y plain count) in_p place), own.2)
        | inr par ↦
            let place = ap (λ (o : Member). o.place) (sym m_is) ∙ same_place m.place (parity_part shape k x).place n par.0 in
            absurd (apart_from_parity k y count.least (plain.apart (member_of k y) q (data_inside shape k y plain count) in_q place ∙ ap (parity_at k) (sym (sector_is par.1))))
      ]

  by_same : (y : ℕ) (v w : List ℕ) → (y ≡ x → v ≡ from) → ((y ≡ x → ⊥) → v ≡ w) → v ≡ (if y == x then from else w)
  by_same y v w here other =
      let Goal : Bool → Type 0 = λ b. (y == x) ≡ b → v ≡ (if b then from else w) in
      let goal : Goal (y == x) = elim (y == x) as Goal [ true ↦ λ is. here (eqb-true y x is) | false ↦ λ no. other (λ is. both_ways (y == x) no (eq-eqb y x is)) ] in
      goal refl

  -- a sector of the row
  value_in : (y : ℕ) → sector_of k y ≡ sector_of k x → value_by shape (written xs cur) n y ≡ (if y == x then from else value_by shape cur n y)
  value_in y same =
      let Goal : Option Member → Type 0 = λ o. source_at shape y ≡ o → value_by shape f n y ≡ (if y == x then from else value_by shape cur n y) in
      let goal : Goal (source_at shape y) = elim (source_at shape y) as Goal [
        | Some m ↦ λ is.
            let found = source_counts shape y m is in
            let m_is = parity_source shape k y m plain is in
            let at = plain_sector shape (parity k) y plain ∙ same in
            let d = member_slice m.place n in
            let own : (c : Image) → value_by shape c n y ≡ c d (data_sector + t) = λ c. own_value shape n y c m is ∙ ap (λ i. c d (data_sector + i)) at in
            by_same y (value_by shape f n y) (value_by shape cur n y)
            (λ here.
            let m_x : m ≡ data_at shape k x = m_is ∙ ap (data_at shape k) here in
            own f ∙ written_is d (data_sector + t) (Some from)
            (subst (λ (o : Member). t < o.reach → look xs (member_slice o.place n) (data_sector + t) ≡ Some from) (sym m_x) hit (subst (λ s. s < m.reach) at found.counts)))
            (λ other.
            own f
            ∙ no_look d (data_sector + t) (λ u look_is. other (alone_in y m u is (subst (λ s. look xs d (data_sector + s) ≡ Some u) (sym at) look_is)).0)
            ∙ sym (own cur))
        | None ↦ λ is.
            let wants = none_counts y same is in
            let old = unsourced cur y same is g_sized in
            let new_total = unsourced f y same is h_sized in
            by_same y (value_by shape f n y) (value_by shape cur n y)
            (λ here.
            let none : nat_lt t (data_at shape k x).reach ≡ false = subst (λ z. nat_lt t (data_at shape k z).reach ≡ false) here wants in
            let counts = counts_but p q in_p in_q differ none in
            let value_x : value_by shape cur n x ≡ total cur n t members = ap (value_by shape cur n) (sym here) ∙ old in
            new_total ∙ totals
            ∙ ap₂ (λ v w. xor (xor (xor (xor (total cur n t members) v) w) (g (parity_part shape k x))) (h (parity_part shape k x))) (filled_none cur n t (data_at shape k x) none) (filled_none f n t (data_at shape k x) none)
            ∙ ap (λ v. xor (xor v (g (parity_part shape k x))) (h (parity_part shape k x))) (xor_zeros _ (ap length (xor_zeros (total cur n t members) sized_t) ∙ sized_t) ∙ xor_zeros (total cur n t members) sized_t)
            ∙ ap (xor (xor (total cur n t members) (g (parity_part shape k x))))
            (h_parity counts ∙ next counts ∙ ap₂ (λ v w. xor (xor v w) from) (sym (filled_there cur n t (parity_part shape k x) counts)) value_x)
            ∙ xor_new (total cur n t members) (g (parity_part shape k x)) from sized_t sized_q wide)
            (λ other.
            let in_y = data_inside shape k y plain count in
            let not_p : member_of k y ≡ p → ⊥ = λ position. other (same_sector y same position) in
            let not_q : member_of k y ≡ q → ⊥ = λ position. apart_from_parity k y count.least (position ∙ ap (parity_at k) (sym same)) in
            new_total
            ∙ same_total (counts_but (member_of k y) p in_y in_p not_p wants) (counts_but (member_of k y) q in_y in_q not_q wants)
            ∙ sym old)
      ] in
      goal refl

  value_now : (y : ℕ) → value_by shape (written xs cur) n y ≡ (if y == x then from else value_by shape cur n y)
  value_now y =
      let Goal : Bool → Type 0 = λ b. (sector_of k y == sector_of k x) ≡ b → value_by shape f n y ≡ (if y == x then from else value_by shape cur n y) in
      let goal : Goal (sector_of k y == sector_of k x) = elim (sector_of k y == sector_of k x) as Goal [
        | true ↦ λ is. value_in y (eqb-true (sector_of k y) (sector_of k x) is)
        | false ↦ λ no.
            let other : sector_at shape y ≡ sector_of k x → ⊥ = λ same. both_ways (sector_of k y == sector_of k x) no (eq-eqb _ _ (sym (plain_sector shape (parity k) y plain) ∙ same)) in
            by_same y (value_by shape f n y) (value_by shape cur n y)
            (λ here. absurd (other (plain_sector shape (parity k) y plain ∙ ap (sector_of k) here)))
            (λ elsewhere. value_by_data shape f cur n y (λ m among counts. sectors_same m (sector_at shape y) other))
      ] in
      goal refl

  even_now : (y : ℕ) → AllCount (layout_at shape y) shape (sector_at shape y) → AgreeAt shape n cur y → AgreeAt shape n (written xs cur) y
  even_now y counting agree =
      let layout = layout_at shape y in
      let sector = sector_in layout y in
      let y_is : sector ≡ sector_of k y = plain_sector shape (parity k) y plain in
      let all : take (width layout) members ≡ members = ap (λ (l : Layout). take (width l) members) (plain.layout_is y) ∙ plain_take shape (parity k) plain in
      let Goal : Bool → Type 0 = λ b. (sector == t) ≡ b → AgreeIn layout (there (stripe_in f n shape layout sector)) in
      let goal : Goal (sector == t) = elim (sector == t) as Goal [
        | false ↦ λ no.
            subst (λ stripe. AgreeIn layout (there stripe))
            (sym (columns_same f cur n sector (take (width layout) members) (λ m among counts. sectors_same m sector (λ same. both_ways (sector == t) no (eq-eqb sector t same)))))
            agree
        | true ↦ λ is.
            let at : sector ≡ t = eqb-true sector t is in
            let count_all : (j : ℕ) → j < length members → t < (part_at j members).reach =
            λ j low. subst (λ s. s < (part_at j members).reach) at (counting (part_at j members) (subst (λ (ms : List Member). Among (part_at j members) ms) (sym all) (part_among j members low))) in
            let sum : (c : Image) → AreSized (filled c n t) members → xor_all 512 (there (stripe_in c n shape layout sector)) ≡ total c n t members =
            λ c sizes. ap₂ (λ (ms : List Member) i. xor_all 512 (there (map (column c n i) ms))) all at ∙ total_there c n t members sizes in
            let old : total cur n t members ≡ zeros 512 =
            sym (sum cur g_sized) ∙ subst (λ (l : Layout). AgreeIn l (there (stripe_in cur n shape layout sector))) (plain.layout_is y) agree in
            subst (λ (l : Layout). AgreeIn l (there (stripe_in f n shape layout sector))) (sym (plain.layout_is y))
            (sum f h_sized ∙ same_total (count_all p in_p) (count_all q in_q) ∙ old)
      ] in
      goal refl

  pub parity_change : RowChange shape n resync x from cur xs
  parity_change = record { alone = alone_in; value = λ y alive. value_now y; even = even_now }
