-- What the targets of resynced rows owe.
use Rattle.std.proofs.Common.{◌≡◌, ℕ, ◌+◌, ◌*◌, ◌<◌, ◌≤◌, Bool, true, false, not, if◌then◌else◌, List, map, take, length, Option, Some, None, unwrap_or, refl, sym, ap, subst, ◌∙◌, inl, inr, eq-eqb, lt-ltb, arith}
use Rattle.std.proofs.lemmas.Bool.{both_ways, cases_lt, ne_eqb}
use Rattle.std.specs.List.{range_with_len}
use Rattle.rack.specs.Seen.{Image, RackView}
use Rattle.rack.specs.Targets.{Target, look}
use Rattle.rack.specs.Sequences.{OnlyReads}
use Rattle.raid_map.specs.LeftSymmetric.{IsMemberCount, parity_at, row_at}
use Rattle.raid_map.proofs.Rows.{row_members_differ}
use Rattle.parity.specs.Xor.{xor_all, zeros}
use Rattle.array_image.specs.Places.{member_slice, data_sector}
use Rattle.array_image.specs.Stripes.{Layout, mirror, parity, width, position_in, sector_in, there, AgreeIn}
use Rattle.array_image.specs.Arrays.{Member, layout_at, value_by}
use Rattle.array_image.specs.Even.{AreEven}
use Rattle.array_image.specs.Held.{Among, current_in, source_in}
use Rattle.array_image.specs.Spent.{wanting}
use Rattle.array_image.proofs.Frames.{value_by_data}
use Rattle.array_image.proofs.Losing.{data_of}
use Rattle.array_image.proofs.Lost.{there_all}
use Rattle.array_image.proofs.Noted.{columns_all}
use Rattle.commit_log.proofs.Story.{payload_is}
use Rattle.array_model.specs.View.{View, IsArray, member_on, place_at, shape_of}
use Rattle.array_model.specs.Says.{IsOpen}
use Rattle.array_model.specs.Members.{members_of, row_layout, slice_on}
use Rattle.array_model.specs.Rows.{written, source_at, sector_at}
use Rattle.array_model.proofs.DataFrames.{columns_same}
use Rattle.array_model.proofs.Filled.{long_zeros}
use Rattle.array_model.proofs.Firsts.{firsts, member_among, position_of}
use Rattle.array_model.proofs.Layouts.{members_count}
use Rattle.array_model.proofs.Looking.{look_payload}
use Rattle.array_model.proofs.MirrorRow.{agree_one}
use Rattle.array_model.proofs.Noting.{laid_out, layout_is, low_position}
use Rattle.array_model.proofs.RowWrites.{places_apart}
use Rattle.array_model.proofs.Spared.{wanting_take}
use Rattle.array_model.proofs.Views.{notes_none, shape_members}
use Rattle.array_model.proofs.WholeWrites.{own_value}
use Rattle.array_core.proofs.Seating.{map_made}
use Rattle.sync_laws.specs.Rows.{AreCopies, IsRowSum, OfRow, is_source, lacks_row, makes_others, row_sum, source_sector}
use Rattle.sync_laws.proofs.Agreeing.{all_counts, first_alone, row_layout_at, source_at_position, sum_put, taken}
use Rattle.sync_laws.proofs.Owed.{RowMoves, none_or, source_wants}
use Rattle.sync_laws.proofs.Summing.{sum_kept, wanting_later}
use Rattle.sync_laws.proofs.Views.{last_row}

-- where a target is
record IsMade (v : View) (rows d t : ℕ) : Type 0 where
  position : ℕ
  disk : d ≡ slice_on v position
  first : v.resync * 128 ≤ t
  last : t < v.resync * 128 + 128 * rows
  low : position < width (row_layout v t)
  made : is_source v t position ≡ false

module _ (v : View) (rows : ℕ) (some : 0 < rows) (a b : RackView) (xs : List Target) (is_array : IsArray v) (lasting : a.lasting) (reads : OnlyReads a b)
    (lacks : lacks_row v (last_row v rows) ≡ false)
    (copies : AreCopies v (OfRow v (v.resync * 128) (128 * rows)) (IsRowSum v a) xs)
    (opened : IsOpen (shape_of v) v.number a)
    (sized : (m : Member) (t : ℕ) → Among m (shape_of v).members → t < m.reach → length (current_in b.held (member_slice m.place v.number) (data_sector + t)) ≡ 512) where
  abbrev n : ℕ
  n = v.number

  abbrev cur : Image
  cur = current_in b.held

  abbrev now : Image
  now = written xs (current_in b.held)

  counts_in : (j t : ℕ) → j < v.truth.raid_disks → t < v.resync * 128 + 128 * rows → t < (member_on v j).reach
  counts_in j t low inside = all_counts v (last_row v rows) j t lacks low (omega (arith, inside, some))

  -- of the row's layout
  in_layout : (y j : ℕ) → j < width (layout_at (shape_of v) y) → j < v.truth.raid_disks
  in_layout y j low = let most = (layout_is v y is_array).most in omega (arith, low, most)

  made_at : (d t : ℕ) (u : List ℕ) → look xs d (data_sector + t) ≡ Some u → IsMade v rows d t
  made_at d t u is =
      let at = copies.on d (data_sector + t) u (look_payload xs d (data_sector + t) u is) in
      let same : at.sector ≡ t = (let sector = at.at in omega (arith, sector)) in
      let inside : OfRow v (v.resync * 128) (128 * rows) t at.position = subst (λ i. OfRow v (v.resync * 128) (128 * rows) i at.position) same at.inside in
      record { position = at.position; disk = at.disk; first = inside.0; last = inside.1; low = inside.2; made = inside.3 }

  -- a member that is made of the others has their sum
  target_is : (y j : ℕ) → v.resync * 128 ≤ sector_at (shape_of v) y → sector_at (shape_of v) y < v.resync * 128 + 128 * rows → j < width (layout_at (shape_of v) y)
      → makes_others (layout_at (shape_of v) y) (sector_at (shape_of v) y) j ≡ false
      → look xs (slice_on v j) (data_sector + sector_at (shape_of v) y) ≡ Some (row_sum v (current_in b.held) (sector_at (shape_of v) y) (width (layout_at (shape_of v) y)))
  target_is y j first last low made =
      let t = sector_at (shape_of v) y in
      let layout = row_layout_at v y is_array in
      let most = (layout_is v y is_array).most in
      let has = copies.has t j (first, last, subst (λ (l : Layout). j < width l) (sym layout) low, ap (λ (l : Layout). makes_others l t j) layout ∙ made) in
      let at = copies.on (slice_on v j) (data_sector + t) has.0 has.1 in
      let same : at.sector ≡ t = (let sector = at.at in omega (arith, sector)) in
      let bytes : IsRowSum v a t has.0 = subst (λ i. IsRowSum v a i has.0) same at.bytes in
      payload_is xs (slice_on v j) (data_sector + t) has.0 copies.apart has.1
      ∙ ap Some
      (bytes opened
      ∙ ap (λ (l : Layout). row_sum v (current_in a.held) t (width l)) layout
      ∙ sym (sum_kept v v a b t (width (layout_at (shape_of v) y)) lasting reads (notes_none v a b) most (λ k less is. counts_in k t (in_layout y k less) last) opened))

  -- the source of a sector isn't made of others
  source_none : (y : ℕ) (m : Member) → source_at (shape_of v) y ≡ Some m → look xs (member_slice m.place v.number) (data_sector + sector_at (shape_of v) y) ≡ None
  source_none y m is =
      let t = sector_at (shape_of v) y in
      let layout = layout_at (shape_of v) y in
      none_or (look xs (member_slice m.place n) (data_sector + t))
      (λ u found.
      let made = made_at (member_slice m.place n) t u found in
      let row = row_layout_at v y is_array in
      let source =
      source_at_position v layout y m (members_count v y is_array) (layout_is v y is_array).most
      (λ j low. counts_in j t (in_layout y j low) made.last)
      (low_position v.truth.raid_disks layout y (layout_is v y is_array))
      (ap (source_in layout t (position_in layout y)) (sym (shape_members v)) ∙ is) in
      let low = made.low in
      let place : place_at v source.0 ≡ place_at v made.position =
      (let disk = made.disk in let here : m.place ≡ place_at v source.0 = ap (λ (o : Member). o.place) source.2 in omega (arith, disk, here)) in
      let same : source.0 ≡ made.position =
      places_apart v source.0 made.position is_array (in_layout y source.0 source.1)
      (in_layout y made.position (subst (λ (l : Layout). made.position < width l) row low)) place in
      both_ways (is_source v t made.position) made.made
      (ap (λ (l : Layout). makes_others l t made.position) row ∙ ap (makes_others layout t) (sym same) ∙ source.3))

  none_same : (d t : ℕ) → look xs d (data_sector + t) ≡ None → now d (data_sector + t) ≡ cur d (data_sector + t)
  none_same d t is = ap (λ (o : Option (List ℕ)). unwrap_or o (current_in b.held d (data_sector + t))) is

  value_kept : (y : ℕ) → value_by (shape_of v) now v.number y ≡ value_by (shape_of v) cur v.number y
  value_kept y =
      let shape = shape_of v in
      let t = sector_at shape y in
      let layout = layout_at shape y in
      let Goal : Option Member → Type 0 = λ o. source_at shape y ≡ o → value_by shape now n y ≡ value_by shape cur n y in
      let goal : Goal (source_at shape y) = elim (source_at shape y) as Goal [
        | Some m ↦ λ is.
            own_value shape n y now m is ∙ none_same (member_slice m.place n) t (source_none y m is) ∙ sym (own_value shape n y cur m is)
        | None ↦ λ none.
            value_by_data shape now cur n y
            (λ m among counts.
            none_same (member_slice m.place n) t
            (none_or (look xs (member_slice m.place n) (data_sector + t))
            (λ u found.
            let made = made_at (member_slice m.place n) t u found in
            let wants = source_wants layout t (position_in layout y) shape.members ((laid_out v is_array).fits y) none in
            let more = wanting_take (width layout) t shape.members in
            let all : wanting t shape.members ≡ wanting t (members_of v) = ap (wanting t) (shape_members v) in
            let last = made.last in
            let end = last_row v rows in
            let later = wanting_later t (end * 128 + 127) (members_of v) (omega (arith, last, some)) in
            both_ways (lacks_row v end) lacks (lt-ltb 0 (wanting (end * 128 + 127) (members_of v)) (omega (arith, wants, more, all, later))))))
      ] in
      goal refl

  -- ---- the row agrees

  abbrev piece : ℕ → ℕ → List ℕ
  piece t j = now (slice_on v j) (data_sector + t)

  member_sized : (t j : ℕ) → j < v.truth.raid_disks → t < v.resync * 128 + 128 * rows → length (cur (slice_on v j) (data_sector + t)) ≡ 512
  member_sized t j low last =
      sized (member_on v j) t (subst (λ (ms : List Member). Among (member_on v j) ms) (sym (shape_members v)) (member_among v j v.truth.raid_disks low)) (counts_in j t low last)

  source_sized : (y j : ℕ) → j < width (layout_at (shape_of v) y) → sector_at (shape_of v) y < v.resync * 128 + 128 * rows
      → length (source_sector v cur (sector_at (shape_of v) y) j) ≡ 512
  source_sized y j low last =
      let t = sector_at (shape_of v) y in
      elim (is_source v t j) as (λ (s : Bool). length (if s then cur (slice_on v j) (data_sector + t) else zeros 512) ≡ 512) [
        | true ↦ member_sized t j (in_layout y j low) last
        | false ↦ long_zeros
      ]

  -- one that makes the others keeps its sector
  piece_kept : (y j : ℕ) → j < width (layout_at (shape_of v) y)
      → makes_others (layout_at (shape_of v) y) (sector_at (shape_of v) y) j ≡ true
      → piece (sector_at (shape_of v) y) j ≡ source_sector v cur (sector_at (shape_of v) y) j
  piece_kept y j low makes =
      let t = sector_at (shape_of v) y in
      let row = row_layout_at v y is_array in
      let source : is_source v t j ≡ true = ap (λ (l : Layout). makes_others l t j) row ∙ makes in
      none_same (slice_on v j) t
      (none_or (look xs (slice_on v j) (data_sector + t))
      (λ u found.
      let made = made_at (slice_on v j) t u found in
      let low_made = made.low in
      let place : place_at v j ≡ place_at v made.position = (let disk = made.disk in omega (arith, disk)) in
      let same : j ≡ made.position =
      places_apart v j made.position is_array (in_layout y j low) (in_layout y made.position (subst (λ (l : Layout). made.position < width l) row low_made)) place in
      both_ways (is_source v t made.position) made.made (subst (λ k. is_source v t k ≡ true) same source)))
      ∙ sym (ap (λ (s : Bool). if s then cur (slice_on v j) (data_sector + t) else zeros 512) source)

  piece_made : (y j : ℕ) → v.resync * 128 ≤ sector_at (shape_of v) y → sector_at (shape_of v) y < v.resync * 128 + 128 * rows → j < width (layout_at (shape_of v) y)
      → makes_others (layout_at (shape_of v) y) (sector_at (shape_of v) y) j ≡ false
      → piece (sector_at (shape_of v) y) j ≡ row_sum v cur (sector_at (shape_of v) y) (width (layout_at (shape_of v) y))
  piece_made y j first last low made =
      ap (λ (o : Option (List ℕ)). unwrap_or o (cur (slice_on v j) (data_sector + sector_at (shape_of v) y))) (target_is y j first last low made)

  abbrev sum_of : ℕ → ℕ → List ℕ
  sum_of t k = xor_all 512 (map (source_sector v cur t) (range_with_len 0 k))

  sum_is : (t k : ℕ) → row_sum v cur t k ≡ sum_of t k
  unfolding row_sum
  sum_is t k = refl

  row_agrees : (y : ℕ) (layout : Layout) → layout_at (shape_of v) y ≡ layout → v.resync * 128 ≤ sector_at (shape_of v) y → sector_at (shape_of v) y < v.resync * 128 + 128 * rows
      → AgreeIn layout (map (data_of now v.number (sector_at (shape_of v) y)) (firsts v (width layout)))
  row_agrees y (mirror k) is first last =
      let t = sector_at (shape_of v) y in
      let f = source_sector v cur t in
      let low : (j : ℕ) → j < k → j < width (layout_at (shape_of v) y) = λ j less. subst (λ (l : Layout). j < width l) (sym is) less in
      let some : 0 < k = (let least = (layout_is v y is_array).least in subst (λ (l : Layout). 0 < width l) is (omega (arith, least))) in
      let row : row_layout v t ≡ mirror k = row_layout_at v y is_array ∙ is in
      let blank : (j : ℕ) → 0 < j → f j ≡ zeros 512 =
      λ j more.
      ap (λ (s : Bool). if s then cur (slice_on v j) (data_sector + t) else zeros 512)
      (ap (λ (l : Layout). makes_others l t j) row ∙ ne_eqb j 0 (λ none. omega (arith, none, more))) in
      let makes : (j : ℕ) (s : Bool) → makes_others (mirror k) t j ≡ s → makes_others (layout_at (shape_of v) y) t j ≡ s =
      λ j s at. ap (λ (l : Layout). makes_others l t j) is ∙ at in
      let kept : piece t 0 ≡ f 0 = piece_kept y 0 (low 0 some) (makes 0 true refl) in
      let each : (j : ℕ) → j < k → piece t j ≡ f 0 =
      λ j less. elim (cases_lt 0 j) [
        | inl more ↦
            piece_made y j first last (low j less) (makes j false (ne_eqb j 0 (λ none. omega (arith, none, more))))
            ∙ ap (λ (l : Layout). row_sum v cur t (width l)) is ∙ sum_is t k
            ∙ first_alone f k some (source_sized y 0 (low 0 some) last) blank
        | inr none ↦ (let zero_is : 0 ≡ j = omega (arith, none) in subst (λ i. piece t i ≡ f 0) zero_is kept)
      ] in
      agree_one (f 0) n t k now (firsts v k)
      (λ m among. let at = position_of v k m among in ap (data_of now n t) at.2 ∙ each at.0 at.1)
  row_agrees y (parity k) is first last =
      let t = sector_at (shape_of v) y in
      let f = source_sector v cur t in
      let q = parity_at k t in
      let count : IsMemberCount k = subst (λ (l : Layout). IsMemberCount (width l)) is (members_count v y is_array) in
      let low : (j : ℕ) → j < k → j < width (layout_at (shape_of v) y) = λ j less. subst (λ (l : Layout). j < width l) (sym is) less in
      let inside : q < k = (row_members_differ k count).parity_is_member t in
      let row : row_layout v t ≡ parity k = row_layout_at v y is_array ∙ is in
      let own : makes_others (parity k) t q ≡ false = ap not (eq-eqb q q refl) in
      let blank : f q ≡ zeros 512 =
      ap (λ (s : Bool). if s then cur (slice_on v q) (data_sector + t) else zeros 512) (ap (λ (l : Layout). makes_others l t q) row ∙ own) in
      ap (xor_all 512) (map_made (member_on v) (data_of now n t) (piece t) (λ j. refl) (range_with_len 0 k))
      ∙ sum_put f (piece t) q k inside
      (λ j less. source_sized y j (low j less) last) blank
      (λ j less other. piece_kept y j (low j less) (ap (λ (l : Layout). makes_others l t j) is ∙ ap not (ne_eqb j q other)))
      (piece_made y q first last (low q inside) (ap (λ (l : Layout). makes_others l t q) is ∙ own) ∙ ap (λ (l : Layout). row_sum v cur t (width l)) is ∙ sum_is t k)

  even_kept : AreEven (shape_of v) v.number v.resync cur → AreEven (shape_of v) v.number (v.resync + rows) now
  even_kept even y inside synced counts =
      let shape = shape_of v in
      let layout = layout_at shape y in
      let t = sector_in layout y in
      elim (cases_lt (row_at t) v.resync) [
        | inl less ↦
            subst (λ stripe. AgreeIn layout (there stripe))
            (sym (columns_same now cur n t (take (width layout) shape.members)
            (λ m among counted.
            none_same (member_slice m.place n) t
            (none_or (look xs (member_slice m.place n) (data_sector + t))
            (λ u found. let made = made_at (member_slice m.place n) t u found in let first = made.first in omega (arith, first, less))))))
            (even y inside less counts)
        | inr more ↦
            let first : v.resync * 128 ≤ t = omega (arith, more) in
            let last : t < v.resync * 128 + 128 * rows = omega (arith, synced) in
            subst (λ stripe. AgreeIn layout (there stripe)) (sym (columns_all now n t (take (width layout) shape.members) (λ m among. counts m among)))
            (subst (λ vs. AgreeIn layout vs) (sym (there_all (map (data_of now n t) (take (width layout) shape.members))))
            (subst (λ ms. AgreeIn layout (map (data_of now n t) ms)) (sym (taken v y is_array))
            (row_agrees y layout refl first last)))
      ]

  pub row_moves : (spent : ℕ → Bool) → RowMoves v (shape_of v) (v.resync + rows) spent cur xs
  row_moves spent = record {
    counted = λ m t among counts. inl (m, among, refl, counts);
    value = λ y alive. value_kept y;
    source = λ y m alive is. inl (m, is, refl, refl, source_none y m is);
    even = even_kept;
  }
