-- Rows whose members agree already.
use Rattle.std.proofs.Common.{◌≡◌, ℕ, ◌+◌, ◌*◌, ◌<◌, ◌≤◌, Bool, false, List, [], map, take, length, refl, sym, ap, subst, ◌∙◌, inl, inr, le-ltb, ltb-false, arith}
use Rattle.std.proofs.lemmas.Bool.{cases_lt, cases_eq}
use Rattle.std.specs.List.{range_with_len}
use Rattle.rack.specs.Seen.{Image, RackView, IsLive}
use Rattle.rack.specs.Targets.{look}
use Rattle.rack.specs.Sequences.{OnlyReads}
use Rattle.raid_map.specs.LeftSymmetric.{row_at}
use Rattle.parity.specs.Xor.{xor, xor_all, zeros}
use Rattle.parity.proofs.Laws.{xor_is_a_group}
use Rattle.array_image.specs.Places.{member_slice, data_sector}
use Rattle.array_image.specs.Stripes.{Layout, mirror, parity, width, sector_in, there, AgreeIn}
use Rattle.array_image.specs.Arrays.{Member, layout_at}
use Rattle.array_image.specs.Even.{AreEven}
use Rattle.array_image.specs.Held.{Among, current_in}
use Rattle.array_image.specs.Spent.{wanting}
use Rattle.array_image.proofs.Losing.{data_of}
use Rattle.array_image.proofs.Lost.{there_all}
use Rattle.array_image.proofs.Noted.{columns_all}
use Rattle.array_model.specs.View.{View, IsArray, member_on, shape_of}
use Rattle.array_model.specs.Says.{IsOpen}
use Rattle.array_model.specs.Members.{members_of, row_layout, slice_on}
use Rattle.array_model.specs.Rows.{sector_at}
use Rattle.array_model.proofs.Filled.{xor_zeros}
use Rattle.array_model.proofs.Firsts.{firsts, member_among, position_of}
use Rattle.array_model.proofs.Keeping.{live_on}
use Rattle.array_model.proofs.Layouts.{row_layout_is}
use Rattle.array_model.proofs.MirrorRow.{agree_one}
use Rattle.array_model.proofs.Noting.{layout_is}
use Rattle.array_model.proofs.Reading.{open_calls}
use Rattle.array_model.proofs.Views.{notes_none, shape_members}
use Rattle.array_core.proofs.Seating.{map_made}
use Rattle.sync_laws.specs.Rows.{AreAlike, IsAlike, held_sum, lacks_row}
use Rattle.sync_laws.proofs.Agreeing.{all_counts, row_layout_at, taken, total_more, total_none}
use Rattle.sync_laws.proofs.Owed.{RowMoves}
use Rattle.sync_laws.proofs.Restoring.{same_made}
use Rattle.sync_laws.proofs.Sources.{mirror_two}
use Rattle.sync_laws.proofs.Summing.{wanting_later}
use Rattle.sync_laws.proofs.Views.{last_row}

-- ---- their sum

pub held_none : (v : View) (c : Image) (t : ℕ) → zeros 512 ≡ held_sum v c t 0
held_none v c t = sym (total_none (λ j. c (slice_on v j) (data_sector + t)))

pub held_more : (v : View) (c : Image) (t k : ℕ) → xor (held_sum v c t k) (c (slice_on v k) (data_sector + t)) ≡ held_sum v c t (k + 1)
held_more v c t k = sym (total_more (λ j. c (slice_on v j) (data_sector + t)) k)

-- where no row lacks a member, none before it does
pub whole_before : (v : View) (row last : ℕ) → row ≤ last → lacks_row v last ≡ false → lacks_row v row ≡ false
whole_before v row last low whole =
    let few = ltb-false 0 (wanting (last * 128 + 127) (members_of v)) whole in
    let later = wanting_later (row * 128 + 127) (last * 128 + 127) (members_of v) (omega (arith, low)) in
    le-ltb 0 (wanting (row * 128 + 127) (members_of v)) (omega (arith, few, later))

-- a member's sector that counts can be called
pub live_at : (v : View) (a : RackView) (j t : ℕ) → j < v.truth.raid_disks → t < (member_on v j).reach → IsOpen (shape_of v) v.number a → IsLive a a (slice_on v j) (data_sector + t)
live_at v a j t low counts opened =
    opened (member_on v j) t (subst (λ (ms : List Member). Among (member_on v j) ms) (sym (shape_members v)) (member_among v j v.truth.raid_disks low)) counts

-- what they hold after reads they held before them
pub alike_before : (v : View) (a b : RackView) (t : ℕ) → IsArray v → a.lasting → OnlyReads a b → lacks_row v (row_at t) ≡ false → IsAlike v b t → IsAlike v a t
alike_before v a b t is_array lasting reads whole alike opened =
    let most = (row_layout_is v t is_array).most in
    ap (xor_all 512)
    (same_made (λ j. current_in a.held (slice_on v j) (data_sector + t)) (λ j. current_in b.held (slice_on v j) (data_sector + t)) 0 (width (row_layout v t))
    (λ j least inside.
    let low : j < v.truth.raid_disks = omega (arith, inside, most) in
    sym (reads.keeps.held (slice_on v j) (data_sector + t) (live_on lasting reads.stays (live_at v a j t low (all_counts v (row_at t) j t whole low (omega arith)) opened))).current))
    ∙ alike (open_calls v v a b lasting reads (notes_none v a b) opened)

-- ---- nothing is written to them

module _ (v : View) (rows : ℕ) (some : 0 < rows) (a b : RackView) (is_array : IsArray v) (lasting : a.lasting) (reads : OnlyReads a b)
    (lacks : lacks_row v (last_row v rows) ≡ false)
    (alike : AreAlike v a (v.resync * 128) (128 * rows))
    (opened : IsOpen (shape_of v) v.number a)
    (sized : (m : Member) (t : ℕ) → Among m (shape_of v).members → t < m.reach → length (current_in b.held (member_slice m.place v.number) (data_sector + t)) ≡ 512) where
  abbrev n : ℕ
  n = v.number

  abbrev cur : Image
  cur = current_in b.held

  abbrev piece : ℕ → ℕ → List ℕ
  piece t j = current_in b.held (slice_on v j) (data_sector + t)

  counts_in : (j t : ℕ) → j < v.truth.raid_disks → t < v.resync * 128 + 128 * rows → t < (member_on v j).reach
  counts_in j t low inside = all_counts v (last_row v rows) j t lacks low (omega (arith, inside, some))

  in_layout : (y j : ℕ) → j < width (layout_at (shape_of v) y) → j < v.truth.raid_disks
  in_layout y j low = let most = (layout_is v y is_array).most in omega (arith, low, most)

  piece_sized : (y j : ℕ) → j < width (layout_at (shape_of v) y) → sector_at (shape_of v) y < v.resync * 128 + 128 * rows → length (piece (sector_at (shape_of v) y) j) ≡ 512
  piece_sized y j low last =
      let inside = in_layout y j low in
      sized (member_on v j) (sector_at (shape_of v) y)
      (subst (λ (ms : List Member). Among (member_on v j) ms) (sym (shape_members v)) (member_among v j v.truth.raid_disks inside)) (counts_in j (sector_at (shape_of v) y) inside last)

  -- their sum now
  sum_now : (y : ℕ) → v.resync * 128 ≤ sector_at (shape_of v) y → sector_at (shape_of v) y < v.resync * 128 + 128 * rows
      → held_sum v (current_in b.held) (sector_at (shape_of v) y) (width (layout_at (shape_of v) y)) ≡ zeros 512
  sum_now y first last =
      let t = sector_at (shape_of v) y in
      ap (xor_all 512)
      (same_made (piece t) (λ j. current_in a.held (slice_on v j) (data_sector + t)) 0 (width (layout_at (shape_of v) y))
      (λ j least inside.
      let low = in_layout y j (omega (arith, inside)) in
      (reads.keeps.held (slice_on v j) (data_sector + t) (live_on lasting reads.stays (live_at v a j t low (counts_in j t low last) opened))).current))
      ∙ ap (λ (l : Layout). held_sum v (current_in a.held) t (width l)) (sym (row_layout_at v y is_array))
      ∙ alike t first last opened

  -- two that make zeros are equal
  same_two : (x z : List ℕ) → length x ≡ 512 → length z ≡ 512 → xor x z ≡ zeros 512 → z ≡ x
  same_two x z long_x long_z none =
      let own : xor x x ≡ zeros 512 = xor_is_a_group.own_inverse x ∙ ap zeros long_x in
      sym (xor_is_a_group.commutes (zeros 512) z ∙ xor_zeros z long_z)
      ∙ ap (λ u. xor u z) (sym own) ∙ xor_is_a_group.associates x x z ∙ ap (xor x) none ∙ xor_zeros x long_x

  row_agrees : (y : ℕ) (layout : Layout) → layout_at (shape_of v) y ≡ layout → v.resync * 128 ≤ sector_at (shape_of v) y → sector_at (shape_of v) y < v.resync * 128 + 128 * rows
      → AgreeIn layout (map (data_of cur v.number (sector_at (shape_of v) y)) (firsts v (width layout)))
  row_agrees y (parity k) is first last =
      let t = sector_at (shape_of v) y in
      ap (xor_all 512) (map_made (member_on v) (data_of cur n t) (piece t) (λ j. refl) (range_with_len 0 k))
      ∙ subst (λ (l : Layout). held_sum v (current_in b.held) t (width l) ≡ zeros 512) is (sum_now y first last)
  row_agrees y (mirror k) is first last =
      let t = sector_at (shape_of v) y in
      let two = mirror_two v y k is_array is in
      let least : 2 ≤ k = subst (λ (l : Layout). 2 ≤ width l) is (layout_is v y is_array).least in
      let count : k ≡ 2 = omega (arith, two, least) in
      let low : (j : ℕ) → j < 2 → j < width (layout_at (shape_of v) y) = λ j less. subst (λ (l : Layout). j < width l) (sym is) (omega (arith, less, least)) in
      let long_0 = piece_sized y 0 (low 0 (omega arith)) last in
      let long_1 = piece_sized y 1 (low 1 (omega arith)) last in
      let sum : xor (piece t 0) (piece t 1) ≡ zeros 512 =
      ap (λ u. xor u (piece t 1)) (sym (xor_is_a_group.commutes (zeros 512) (piece t 0) ∙ xor_zeros (piece t 0) long_0) ∙ ap (λ u. xor u (piece t 0)) (held_none v cur t) ∙ held_more v cur t 0)
      ∙ held_more v cur t 1
      ∙ ap (held_sum v cur t) (sym count)
      ∙ subst (λ (l : Layout). held_sum v (current_in b.held) t (width l) ≡ zeros 512) is (sum_now y first last) in
      let same = same_two (piece t 0) (piece t 1) long_0 long_1 sum in
      agree_one (piece t 0) n t k cur (firsts v k)
      (λ m among.
      let at = position_of v k m among in
      let less = at.1 in
      ap (data_of cur n t) at.2
      ∙ elim (cases_eq at.0 0) [
        | inl zero_is ↦ ap (piece t) zero_is
        | inr other ↦ (let one_is : at.0 ≡ 1 = omega (arith, other, less, count) in ap (piece t) one_is ∙ same)
      ])

  even_kept : AreEven (shape_of v) v.number v.resync cur → AreEven (shape_of v) v.number (v.resync + rows) cur
  even_kept even y inside synced counts =
      let layout = layout_at (shape_of v) y in
      let t = sector_in layout y in
      elim (cases_lt (row_at t) v.resync) [
        | inl less ↦ even y inside less counts
        | inr more ↦
            let ms = take (width layout) (shape_of v).members in
            subst (λ stripe. AgreeIn layout (there stripe)) (sym (columns_all cur n t ms counts))
            (subst (λ vs. AgreeIn layout vs) (sym (there_all (map (data_of cur n t) ms)))
            (subst (λ (os : List Member). AgreeIn layout (map (data_of cur n t) os)) (sym (taken v y is_array))
            (row_agrees y layout refl (omega (arith, more)) (omega (arith, synced)))))
      ]

  pub alike_moves : (spent : ℕ → Bool) → RowMoves v (shape_of v) (v.resync + rows) spent cur []
  unfolding look
  alike_moves spent = record {
    counted = λ m t among counts. inl (m, among, refl, counts);
    value = λ y alive. refl;
    source = λ y m alive is. inl (m, is, refl, refl, refl);
    even = even_kept;
  }
