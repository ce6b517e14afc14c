-- What the targets of a rebuilt row owe.
use Rattle.std.proofs.Common.{◌≡◌, ◌⊎◌, ℕ, ◌+◌, ◌*◌, ◌<◌, ◌≤◌, Bool, true, false, nat_lt, if◌then◌else◌, List, map, take, length, Option, Some, None, unwrap_or, refl, sym, ap, ap₂, subst, ◌∙◌, inl, inr, lt-ltb, le-ltb, ltb-true, arith}
use Rattle.std.proofs.lemmas.Bool.{cases_eq, cases_lt}
use Rattle.std.specs.List.{range_with_len}
use Rattle.rack.specs.Seen.{Image, RackView}
use Rattle.rack.specs.Targets.{Target, look}
use Rattle.rack.specs.Sequences.{OnlyReads}
use Rattle.raid_map.specs.LeftSymmetric.{row_at}
use Rattle.parity.specs.Xor.{xor_all}
use Rattle.array_image.specs.Places.{member_slice, data_sector}
use Rattle.array_image.specs.Stripes.{Layout, mirror, parity, width, position_in, sector_in, there, given, AgreeIn}
use Rattle.array_image.specs.Arrays.{Member, column, layout_at, stripe_in, value_by}
use Rattle.array_image.specs.Even.{AllCount, AreEven}
use Rattle.array_image.specs.Held.{Among, current_in, first_counting, member_at, source_in}
use Rattle.array_image.proofs.Losing.{column_there, data_of}
use Rattle.array_image.proofs.Lost.{there_all}
use Rattle.array_image.proofs.Noted.{columns_all}
use Rattle.commit_log.proofs.Story.{payload_is}
use Rattle.array_model.specs.View.{View, member_on, place_at, shape_of}
use Rattle.array_model.specs.Says.{IsOpen}
use Rattle.array_model.specs.Members.{members_of, row_layout, slice_on}
use Rattle.array_model.specs.Rows.{source_at, sector_at, written}
use Rattle.array_model.proofs.Filled.{filled, filled_none, filled_sized, filled_there, long_zeros, total, total_there}
use Rattle.array_model.proofs.Firsts.{firsts, first_found, first_next, first_none, member_among, none_given, parity_source, position_of, take_firsts}
use Rattle.array_model.proofs.Looking.{look_payload}
use Rattle.array_model.proofs.MirrorRow.{agree_one}
use Rattle.array_model.proofs.Noting.{layout_is, low_position}
use Rattle.array_model.proofs.Reading.{given_kept, given_source, layout_same, value_given}
use Rattle.array_model.proofs.Views.{loses_nobody, same_view, shape_members}
use Rattle.array_model.proofs.WholeWrites.{own_value}
use Rattle.array_core.proofs.Seating.{map_made}
use Rattle.sync_laws.specs.Rows.{AreCopies, IsGiven, OfMember}
use Rattle.sync_laws.specs.Steps.{rebuilt}
use Rattle.sync_laws.proofs.Agreeing.{row_layout_at, sum_put}
use Rattle.sync_laws.proofs.Copying.{slices_differ}
use Rattle.sync_laws.proofs.Owed.{RowMoves, none_or}
use Rattle.sync_laws.proofs.Others.{OthersGive}
use Rattle.sync_laws.proofs.Rebuilt.{IsRebuilding, Outside, alike, last_of, next_array, other_member, own_reach, reach_before}
use Rattle.sync_laws.proofs.Restoring.{row_firsts, same_row}
use Rattle.sync_laws.proofs.Sources.{IsSourceBefore, mirror_two, own_source, source_alike}

same_size : (v : View) (place rows : ℕ) → (shape_of (rebuilt v place rows)).size ≡ (shape_of v).size
unfolding shape_of
same_size v place rows = refl

size_is : (v : View) → (shape_of v).size ≡ v.truth.size
unfolding shape_of
size_is v = refl

-- one of the row, and what is written there
record IsTarget (v : View) (a : RackView) (xs : List Target) (p t : ℕ) : Type 0 where
  bytes : List ℕ
  found : look xs (slice_on v p) (data_sector + t) ≡ Some bytes
  is : IsGiven v a p t bytes

module _ (v : View) (place p to rows : ℕ) (is : IsRebuilding v place p to rows) (a b : RackView) (xs : List Target) (lasting : a.lasting) (reads : OnlyReads a b)
    (others : OthersGive v p (last_of to rows))
    (copies : AreCopies v (OfMember p to (128 * rows)) (IsGiven v a p) xs)
    (opened : IsOpen (shape_of v) v.number a)
    (sized : (m : Member) (t : ℕ) → Among m (shape_of v).members → t < m.reach → length (current_in b.held (member_slice m.place v.number) (data_sector + t)) ≡ 512) where
  abbrev n : ℕ
  n = v.number

  abbrev g : View
  g = rebuilt v place rows

  abbrev cur : Image
  cur = current_in b.held

  abbrev now : Image
  now = written xs (current_in b.held)

  -- ---- the targets

  made_at : (d t : ℕ) (u : List ℕ) → look xs d (data_sector + t) ≡ Some u → (to ≤ t) × (t < to + 128 * rows) × (d ≡ slice_on v p)
  made_at d t u found =
      let at = copies.on d (data_sector + t) u (look_payload xs d (data_sector + t) u found) in
      let same : at.sector ≡ t = (let sector = at.at in omega (arith, sector)) in
      let inside : OfMember p to (128 * rows) t at.position = subst (λ i. OfMember p to (128 * rows) i at.position) same at.inside in
      (inside.0, inside.1, at.disk ∙ ap (slice_on v) inside.2)

  target_at : (t : ℕ) → to ≤ t → t < to + 128 * rows → IsTarget v a xs p t
  target_at t first last =
      let has = copies.has t p (first, last, refl) in
      let at = copies.on (slice_on v p) (data_sector + t) has.0 has.1 in
      let same : at.sector ≡ t = (let sector = at.at in omega (arith, sector)) in
      record {
        bytes = has.0;
        found = payload_is xs (slice_on v p) (data_sector + t) has.0 copies.apart has.1;
        is = subst (λ i. IsGiven v a p i has.0) same at.bytes;
      }

  -- no other sector is written
  none_at : (j t : ℕ) → j < v.truth.raid_disks → (j ≡ p → Outside to rows t) → look xs (slice_on v j) (data_sector + t) ≡ None
  none_at j t low outside =
      none_or (look xs (slice_on v j) (data_sector + t))
      (λ u found.
      let made = made_at (slice_on v j) t u found in
      let first = made.0 in
      let last = made.1 in
      elim (outside (slices_differ v j p is.is_array low is.low made.2)) [ inl before ↦ omega (arith, before, first) | inr after ↦ omega (arith, after, last) ])

  same_at : (j t : ℕ) → j < v.truth.raid_disks → (j ≡ p → Outside to rows t) → now (slice_on v j) (data_sector + t) ≡ cur (slice_on v j) (data_sector + t)
  same_at j t low outside = ap (λ (o : Option (List ℕ)). unwrap_or o (cur (slice_on v j) (data_sector + t))) (none_at j t low outside)

  -- and the row's are what the others give
  target_now : (y : ℕ) → p < width (layout_at (shape_of v) y) → (target : IsTarget v a xs p (sector_at (shape_of v) y))
      → target.bytes ≡ given (layout_at (shape_of v) y) (map (column cur v.number (sector_at (shape_of v) y)) (take (width (layout_at (shape_of v) y)) (members_of v))) p
  target_now y low target =
      let t = sector_at (shape_of v) y in
      let layout = row_layout_at v y is.is_array in
      target.is opened (subst (λ (l : Layout). p < width l) (sym layout) low)
      ∙ sym (given_kept v v a b (row_layout v t) t p lasting reads (same_view v) (λ q. false) (loses_nobody v) opened)
      ∙ ap (λ (l : Layout). given l (map (column cur v.number t) (take (width l) (members_of v))) p) layout

  -- ---- members

  counts_here : (j t : ℕ) → j < v.truth.raid_disks → (j ≡ p → ⊥) → t < to + 128 * rows → t < (member_on v j).reach
  counts_here j t low other last =
      let counts = others.counts j low other in
      let whole = is.whole in
      omega (arith, counts, whole, last)

  lacks_here : (t : ℕ) → to ≤ t → nat_lt t (member_on v p).reach ≡ false
  lacks_here t first = let reach = reach_before v place p to rows is in le-ltb t (member_on v p).reach (omega (arith, reach, first))

  member_same : (j : ℕ) → j < v.truth.raid_disks → (j ≡ p → ⊥) → member_on (rebuilt v place rows) j ≡ member_on v j
  member_same j low other = other_member v place p to rows is j low other

  same_count : (j t : ℕ) → j < v.truth.raid_disks → (j ≡ p → Outside to rows t) → nat_lt t (member_on (rebuilt v place rows) j).reach ≡ nat_lt t (member_on v j).reach
  same_count j t low outside = alike v place p to rows is j t low outside

  column_same : (j t : ℕ) → j < v.truth.raid_disks → (j ≡ p → Outside to rows t) → column now v.number t (member_on (rebuilt v place rows) j) ≡ column cur v.number t (member_on v j)
  column_same j t low outside =
      ap₂ (λ (c : Bool) (u : List ℕ). if c then Some u else None) (same_count j t low outside) (same_at j t low outside)

  -- ---- a sector of the array

  -- its stripe stays, or it is in the row
  where_is : (y : ℕ)
      → ((j : ℕ) → j < width (layout_at (shape_of v) y) → j ≡ p → Outside to rows (sector_at (shape_of v) y))
      ⊎ ((p < width (layout_at (shape_of v) y)) × (to ≤ sector_at (shape_of v) y) × (sector_at (shape_of v) y < to + 128 * rows))
  where_is y =
      let t = sector_at (shape_of v) y in
      let k = width (layout_at (shape_of v) y) in
      elim (cases_lt p k) [
        | inr past ↦ inl (λ j low same. absurd (omega (arith, low, same, past)))
        | inl inside ↦ elim (cases_lt t to) [
          | inl early ↦ inl (λ j low same. inl early)
          | inr first ↦ elim (cases_lt t (to + 128 * rows)) [ inl last ↦ inr (inside, first, last) | inr late ↦ inl (λ j low same. inr late) ]
        ]
      ]

  in_layout : (y j : ℕ) → j < width (layout_at (shape_of v) y) → j < v.truth.raid_disks
  in_layout y j low = let most = (layout_is v y is.is_array).most in omega (arith, low, most)

  layout_after : (y : ℕ) → layout_at (shape_of (rebuilt v place rows)) y ≡ layout_at (shape_of v) y
  layout_after y = layout_same v (rebuilt v place rows) y refl

  stripe_same : (y : ℕ) → ((j : ℕ) → j < width (layout_at (shape_of v) y) → j ≡ p → Outside to rows (sector_at (shape_of v) y))
      → map (column now v.number (sector_at (shape_of v) y)) (take (width (layout_at (shape_of v) y)) (members_of (rebuilt v place rows)))
      ≡ map (column cur v.number (sector_at (shape_of v) y)) (take (width (layout_at (shape_of v) y)) (members_of v))
  stripe_same y outside =
      let t = sector_at (shape_of v) y in
      let layout = layout_at (shape_of v) y in
      let most = (layout_is v y is.is_array).most in
      row_firsts (rebuilt v place rows) now n t layout most
      ∙ same_row v (rebuilt v place rows) now cur n n t (width layout) (λ j low. column_same j t (in_layout y j low) (outside j low))
      ∙ sym (row_firsts v cur n t layout most)

  value_after : (y : ℕ) → value_by (shape_of (rebuilt v place rows)) now v.number y
      ≡ given (layout_at (shape_of v) y) (map (column now v.number (sector_at (shape_of v) y)) (take (width (layout_at (shape_of v) y)) (members_of (rebuilt v place rows)))) (position_in (layout_at (shape_of v) y) y)
  value_after y =
      let layout = layout_at (shape_of v) y in
      sym (value_given (rebuilt v place rows) now y layout (sector_in layout y) (position_in layout y) (sym (layout_after y))
      (ap (λ (l : Layout). position_in l y) (sym (layout_after y))) (ap (λ (l : Layout). sector_in l y) (sym (layout_after y))))

  value_before : (y : ℕ) → value_by (shape_of v) cur v.number y
      ≡ given (layout_at (shape_of v) y) (map (column cur v.number (sector_at (shape_of v) y)) (take (width (layout_at (shape_of v) y)) (members_of v))) (position_in (layout_at (shape_of v) y) y)
  value_before y = let layout = layout_at (shape_of v) y in sym (value_given v cur y layout (sector_in layout y) (position_in layout y) refl refl refl)

  -- where a sector of the row comes from
  position_low : (y : ℕ) → position_in (layout_at (shape_of v) y) y < width (layout_at (shape_of v) y)
  position_low y = low_position v.truth.raid_disks (layout_at (shape_of v) y) y (layout_is v y is.is_array)

  source_after : (y : ℕ) → sector_at (shape_of v) y < to + 128 * rows → source_at (shape_of (rebuilt v place rows)) y ≡ Some (member_on (rebuilt v place rows) (position_in (layout_at (shape_of v) y) y))
  source_after y last =
      let q = position_in (layout_at (shape_of v) y) y in
      let t = sector_at (shape_of v) y in
      let low = in_layout y q (position_low y) in
      let counts : t < (member_on (rebuilt v place rows) q).reach =
      elim (cases_eq q p) [
        | inl same ↦ (let after = own_reach v place p to rows is in subst (λ (k : ℕ). t < (member_on (rebuilt v place rows) k).reach) (sym same) (omega (arith, last, after)))
        | inr other ↦ subst (λ (m : Member). t < m.reach) (sym (member_same q low other)) (counts_here q t low other last)
      ] in
      let found = own_source (rebuilt v place rows) y (next_array v place p to rows is) in
      let at : position_in (layout_at (shape_of (rebuilt v place rows)) y) y ≡ q = ap (λ (l : Layout). position_in l y) (layout_after y) in
      let here : sector_at (shape_of (rebuilt v place rows)) y ≡ t = ap (λ (l : Layout). sector_in l y) (layout_after y) in
      found (subst (λ (s : ℕ). s < (member_on (rebuilt v place rows) (position_in (layout_at (shape_of (rebuilt v place rows)) y) y)).reach) (sym here) (subst (λ (k : ℕ). t < (member_on (rebuilt v place rows) k).reach) (sym at) counts))
      ∙ ap (λ (k : ℕ). Some (member_on (rebuilt v place rows) k)) at

  source_before : (y : ℕ) → sector_at (shape_of v) y < to + 128 * rows → (position_in (layout_at (shape_of v) y) y ≡ p → ⊥)
      → source_at (shape_of v) y ≡ Some (member_on v (position_in (layout_at (shape_of v) y) y))
  source_before y last other = own_source v y is.is_array (counts_here _ (sector_at (shape_of v) y) (in_layout y _ (position_low y)) other last)

  value_kept : (y : ℕ) → value_by (shape_of (rebuilt v place rows)) now v.number y ≡ value_by (shape_of v) cur v.number y
  value_kept y =
      let layout = layout_at (shape_of v) y in
      let t = sector_at (shape_of v) y in
      let q = position_in layout y in
      elim (where_is y) [
        | inl outside ↦ value_after y ∙ ap (λ stripe. given layout stripe q) (stripe_same y outside) ∙ sym (value_before y)
        | inr inside ↦
            own_value (shape_of (rebuilt v place rows)) n y now (member_on (rebuilt v place rows) q) (source_after y inside.2)
            ∙ ap (λ (l : Layout). now (slice_on v q) (data_sector + sector_in l y)) (layout_after y)
            ∙ elim (cases_eq q p) [
              | inr other ↦
                  same_at q t (in_layout y q (position_low y)) (λ same. absurd (other same))
                  ∙ sym (own_value (shape_of v) n y cur (member_on v q) (source_before y inside.2 other))
              | inl same ↦ (let target = target_at t inside.1 inside.2 in
                  ap (λ (k : ℕ). now (slice_on v k) (data_sector + t)) same
                  ∙ ap (λ (o : Option (List ℕ)). unwrap_or o (cur (slice_on v p) (data_sector + t))) target.found
                  ∙ target_now y inside.0 target
                  ∙ ap (given layout (map (column cur n t) (take (width layout) (members_of v)))) (sym same)
                  ∙ sym (value_before y))
            ]
      ]

  source_kept : (y : ℕ) (m : Member) → source_at (shape_of (rebuilt v place rows)) y ≡ Some m
      → ((o : Member) × (source_at (shape_of v) y ≡ Some o) × (o.place ≡ m.place) × (sector_at (shape_of (rebuilt v place rows)) y ≡ sector_at (shape_of v) y)
      × (look xs (member_slice m.place v.number) (data_sector + sector_at (shape_of (rebuilt v place rows)) y) ≡ None))
      ⊎ (look xs (member_slice m.place v.number) (data_sector + sector_at (shape_of (rebuilt v place rows)) y) ≡ Some (value_by (shape_of v) cur v.number y))
  source_kept y m source =
      let layout = layout_at (shape_of v) y in
      let t = sector_at (shape_of v) y in
      let q = position_in layout y in
      let here : sector_at (shape_of (rebuilt v place rows)) y ≡ t = ap (λ (l : Layout). sector_in l y) (layout_after y) in
      elim (where_is y) [
        | inl outside ↦
            let found : IsSourceBefore v (rebuilt v place rows) layout t q m =
            source_alike v (rebuilt v place rows) layout t q m (layout_is v y is.is_array).most refl (λ j low. same_count j t (in_layout y j low) (outside j low))
            (sym (ap (λ (l : Layout). source_in l (sector_in l y) (position_in l y) (shape_of (rebuilt v place rows)).members) (layout_after y)
            ∙ ap (source_in layout t q) (shape_members (rebuilt v place rows))) ∙ source) in
            let low = in_layout y found.position found.low in
            let slice : member_slice m.place n ≡ slice_on v found.position = ap (λ (o : Member). member_slice o.place n) found.own in
            inl (
              member_on v found.position,
              ap (source_in layout t q) (shape_members v) ∙ found.before,
              ap (λ (o : Member). o.place) (sym found.own),
              here,
              ap₂ (λ (d s : ℕ). look xs d (data_sector + s)) slice here ∙ none_at found.position t low (outside found.position found.low),
            )
        | inr inside ↦
            let own : member_on (rebuilt v place rows) q ≡ m = some_same (sym (source_after y inside.2) ∙ source) in
            let slice : member_slice m.place n ≡ slice_on v q = ap (λ (o : Member). member_slice o.place n) (sym own) in
            elim (cases_eq q p) [
              | inr other ↦ inl (
                member_on v q,
                source_before y inside.2 other,
                ap (λ (o : Member). o.place) own,
                here,
                ap₂ (λ (d s : ℕ). look xs d (data_sector + s)) slice here ∙ none_at q t (in_layout y q (position_low y)) (λ same. absurd (other same)),
              )
              | inl same ↦ (let target = target_at t inside.1 inside.2 in
                  inr (
                  ap₂ (λ (d s : ℕ). look xs d (data_sector + s)) (slice ∙ ap (slice_on v) same) here ∙ target.found
                  ∙ ap Some (target_now y inside.0 target
                  ∙ ap (given layout (map (column cur n t) (take (width layout) (members_of v)))) (sym same)
                  ∙ sym (value_before y))))
            ]
      ]
    where
      some_same : {x z : Member} → Some x ≡ Some z → x ≡ z
      some_same e = cc

  counted : (m : Member) (t : ℕ) → Among m (shape_of (rebuilt v place rows)).members → t < m.reach
      → ((o : Member) × Among o (shape_of v).members × (o.place ≡ m.place) × (t < o.reach)) ⊎ ((u : List ℕ) × (look xs (member_slice m.place v.number) (data_sector + t) ≡ Some u))
  counted m t among counts =
      let at = position_of (rebuilt v place rows) v.truth.raid_disks m (subst (λ (ms : List Member). Among m ms) (shape_members (rebuilt v place rows)) among) in
      let j = at.0 in
      let reach : t < (member_on (rebuilt v place rows) j).reach = subst (λ (o : Member). t < o.reach) at.2 counts in
      let old : Among (member_on v j) (shape_of v).members = subst (λ (ms : List Member). Among (member_on v j) ms) (sym (shape_members v)) (member_among v j v.truth.raid_disks at.1) in
      let place_is : place_at v j ≡ m.place = ap (λ (o : Member). o.place) (sym at.2) in
      elim (cases_eq j p) [
        | inr other ↦ inl (member_on v j, old, place_is, subst (λ (o : Member). t < o.reach) (member_same j at.1 other) reach)
        | inl same ↦
            let after = own_reach v place p to rows is in
            let before = reach_before v place p to rows is in
            let last : t < (member_on (rebuilt v place rows) p).reach = subst (λ (k : ℕ). t < (member_on (rebuilt v place rows) k).reach) same reach in
            elim (cases_lt t to) [
              | inl early ↦ inl (member_on v j, old, place_is, subst (λ (k : ℕ). t < (member_on v k).reach) (sym same) (omega (arith, early, before)))
              | inr first ↦ (let target = target_at t first (omega (arith, last, after)) in
                  inr (target.bytes, ap (λ (d : ℕ). look xs d (data_sector + t)) (ap (λ (q : ℕ). member_slice q n) (sym place_is) ∙ ap (slice_on v) same) ∙ target.found))
            ]
      ]

  -- ---- the row agrees

  sized_on : (j t : ℕ) → j < v.truth.raid_disks → t < (member_on v j).reach → length (cur (slice_on v j) (data_sector + t)) ≡ 512
  sized_on j t low counts =
      sized (member_on v j) t (subst (λ (ms : List Member). Among (member_on v j) ms) (sym (shape_members v)) (member_among v j v.truth.raid_disks low)) counts

  abbrev piece : ℕ → ℕ → List ℕ
  piece t j = now (slice_on v j) (data_sector + t)

  piece_made : (y : ℕ) → p < width (layout_at (shape_of v) y) → to ≤ sector_at (shape_of v) y → sector_at (shape_of v) y < to + 128 * rows
      → piece (sector_at (shape_of v) y) p
      ≡ given (layout_at (shape_of v) y) (map (column cur v.number (sector_at (shape_of v) y)) (take (width (layout_at (shape_of v) y)) (members_of v))) p
  piece_made y low first last =
      let t = sector_at (shape_of v) y in
      let target = target_at t first last in
      ap (λ (o : Option (List ℕ)). unwrap_or o (cur (slice_on v p) (data_sector + t))) target.found ∙ target_now y low target

  -- the other copy of a mirror gives it
  copy_given : (y k j : ℕ) → layout_at (shape_of v) y ≡ mirror k → p < k → j < k → (j ≡ p → ⊥) → to ≤ sector_at (shape_of v) y → sector_at (shape_of v) y < to + 128 * rows
      → cur (slice_on v j) (data_sector + sector_at (shape_of v) y) ≡ given (mirror k) (map (column cur v.number (sector_at (shape_of v) y)) (take k (members_of v))) p
  copy_given y k j layout low_p low_j other first last =
      let t = sector_at (shape_of v) y in
      let two = mirror_two v y k is.is_array layout in
      let inside : (i : ℕ) → i < k → i < v.truth.raid_disks = λ i low. in_layout y i (subst (λ (l : Layout). i < width l) (sym layout) low) in
      let counts = counts_here j t (inside j low_j) other last in
      let most : k ≤ v.truth.raid_disks = subst (λ (l : Layout). width l ≤ v.truth.raid_disks) layout (layout_is v y is.is_array).most in
      given_source v (mirror k) cur t p j (cur (slice_on v j) (data_sector + t))
      (ap (first_counting t) (take_firsts v k v.truth.raid_disks most) ∙ found t k j two low_p low_j other (lt-ltb t (member_on v j).reach counts) (lacks_here t first))
      (column_there cur n t (member_on v j) counts)
    where
      found : (t k j : ℕ) → k ≤ 2 → p < k → j < k → (j ≡ p → ⊥) → nat_lt t (member_on v j).reach ≡ true → nat_lt t (member_on v p).reach ≡ false
          → first_counting t (firsts v k) ≡ Some (member_on v j)
      found t k j two low_p low_j other counts lacks = elim (cases_lt j 1) [
        | inl least ↦ (let zero_is : 0 ≡ j = omega (arith, least) in
            subst (λ (i : ℕ). first_counting t (firsts v k) ≡ Some (member_on v i)) zero_is
            (first_found v t 0 k (omega (arith, low_j)) (first_none t) (subst (λ (i : ℕ). nat_lt t (member_on v i).reach ≡ true) (sym zero_is) counts)))
        | inr more ↦
            let one_is : 1 ≡ j = omega (arith, more, low_j, two) in
            let none_is : p ≡ 0 = elim (cases_eq p 0) [ inl same ↦ same | inr differs ↦ absurd (other (omega (arith, one_is, low_p, two, differs))) ] in
            subst (λ (i : ℕ). first_counting t (firsts v k) ≡ Some (member_on v i)) one_is
            (first_found v t 1 k (omega (arith, low_j, one_is))
            (first_next v t 0 (first_none t) (subst (λ (i : ℕ). nat_lt t (member_on v i).reach ≡ false) none_is lacks))
            (subst (λ (i : ℕ). nat_lt t (member_on v i).reach ≡ true) (sym one_is) counts))
      ]

  -- the others' XOR is that of all, with zeros in the member's place
  abbrev full : ℕ → ℕ → List ℕ
  full t j = filled cur v.number t (member_on v j)

  sum_given : (t k : ℕ) → k ≤ v.truth.raid_disks → p < k → to ≤ t → t < to + 128 * rows
      → given (parity k) (map (column cur v.number t) (take k (members_of v))) p ≡ xor_all 512 (map (full t) (range_with_len 0 k))
  unfolding total
  sum_given t k most low first last =
      let ms = take k (members_of v) in
      let firsts_is : ms ≡ firsts v k = take_firsts v k v.truth.raid_disks most in
      let none : source_in (parity k) t p (members_of v) ≡ None = ap (member_at t p) firsts_is ∙ parity_source v t p k false low (lacks_here t first) in
      none_given (parity k) cur n t p (members_of v) none
      ∙ ap (λ os. xor_all 512 (there (map (column cur n t) os))) firsts_is
      ∙ total_there cur n t (firsts v k)
      (filled_sized cur n t (firsts v k)
      (λ m among counts.
      let at = position_of v k m among in
      let inside = at.1 in
      subst (λ (o : Member). length (cur (member_slice o.place n) (data_sector + t)) ≡ 512) (sym at.2)
      (sized_on at.0 t (omega (arith, inside, most)) (subst (λ (o : Member). t < o.reach) at.2 counts))))
      ∙ ap (xor_all 512) (map_made (member_on v) (filled cur n t) (full t) (λ j. refl) (range_with_len 0 k))

  full_sized : (t j : ℕ) → j < v.truth.raid_disks → to ≤ t → t < to + 128 * rows → length (full t j) ≡ 512
  full_sized t j low first last = elim (cases_eq j p) [
    | inl same ↦ ap (λ (k : ℕ). length (full t k)) same ∙ ap length (filled_none cur n t (member_on v p) (lacks_here t first)) ∙ long_zeros
    | inr other ↦ (let counts = counts_here j t low other last in ap length (filled_there cur n t (member_on v j) counts) ∙ sized_on j t low counts)
  ]

  row_agrees : (y : ℕ) (layout : Layout) → layout_at (shape_of v) y ≡ layout → p < width layout → to ≤ sector_at (shape_of v) y → sector_at (shape_of v) y < to + 128 * rows
      → AgreeIn layout (map (data_of now v.number (sector_at (shape_of v) y)) (firsts (rebuilt v place rows) (width layout)))
  row_agrees y (mirror k) layout low first last =
      let t = sector_at (shape_of v) y in
      let x = given (mirror k) (map (column cur n t) (take k (members_of v))) p in
      let inside : (i : ℕ) → i < k → i < v.truth.raid_disks = λ i less. in_layout y i (subst (λ (l : Layout). i < width l) (sym layout) less) in
      let own : piece t p ≡ x =
      piece_made y (subst (λ (l : Layout). p < width l) (sym layout) low) first last
      ∙ ap (λ (l : Layout). given l (map (column cur n t) (take (width l) (members_of v))) p) layout in
      let each : (j : ℕ) → j < k → piece t j ≡ x =
      λ j less. elim (cases_eq j p) [
        | inl same ↦ ap (piece t) same ∙ own
        | inr other ↦ same_at j t (inside j less) (λ same. absurd (other same)) ∙ copy_given y k j layout low less other first last
      ] in
      agree_one x n t k now (firsts (rebuilt v place rows) k)
      (λ m among. let at = position_of (rebuilt v place rows) k m among in ap (data_of now n t) at.2 ∙ each at.0 at.1)
  row_agrees y (parity k) layout low first last =
      let t = sector_at (shape_of v) y in
      let most : k ≤ v.truth.raid_disks = subst (λ (l : Layout). width l ≤ v.truth.raid_disks) layout (layout_is v y is.is_array).most in
      ap (xor_all 512) (map_made (member_on (rebuilt v place rows)) (data_of now n t) (piece t) (λ j. refl) (range_with_len 0 k))
      ∙ sum_put (full t) (piece t) p k low
      (λ j less. full_sized t j (omega (arith, less, most)) first last)
      (filled_none cur n t (member_on v p) (lacks_here t first))
      (λ j less other.
      same_at j t (omega (arith, less, most)) (λ same. absurd (other same))
      ∙ sym (filled_there cur n t (member_on v j) (counts_here j t (omega (arith, less, most)) other last)))
      (piece_made y (subst (λ (l : Layout). p < width l) (sym layout) low) first last
      ∙ ap (λ (l : Layout). given l (map (column cur n t) (take (width l) (members_of v))) p) layout
      ∙ sum_given t k most low first last)

  agree_after : (y : ℕ) → sector_at (shape_of v) y < v.truth.size → row_at (sector_at (shape_of v) y) < v.resync
      → AllCount (layout_at (shape_of v) y) (shape_of (rebuilt v place rows)) (sector_at (shape_of v) y)
      → AreEven (shape_of v) v.number v.resync cur
      → AgreeIn (layout_at (shape_of v) y) (there (map (column now v.number (sector_at (shape_of v) y)) (take (width (layout_at (shape_of v) y)) (members_of (rebuilt v place rows)))))
  agree_after y inside synced counts even =
      let layout = layout_at (shape_of v) y in
      let t = sector_at (shape_of v) y in
      let k = width layout in
      let most = (layout_is v y is.is_array).most in
      let after : take k (members_of (rebuilt v place rows)) ≡ firsts (rebuilt v place rows) k = take_firsts (rebuilt v place rows) k v.truth.raid_disks most in
      let all : (j : ℕ) → j < k → t < (member_on (rebuilt v place rows) j).reach =
      λ j low. counts (member_on (rebuilt v place rows) j)
      (subst (λ (ms : List Member). Among (member_on (rebuilt v place rows) j) (take k ms)) (sym (shape_members (rebuilt v place rows)))
      (subst (λ (ms : List Member). Among (member_on (rebuilt v place rows) j) ms) (sym after) (member_among (rebuilt v place rows) j k low))) in
      elim (where_is y) [
        | inl outside ↦
            subst (λ stripe. AgreeIn layout (there stripe)) (sym (stripe_same y outside))
            (subst (λ (ms : List Member). AgreeIn layout (there (map (column cur n t) (take k ms)))) (shape_members v)
            (even y (subst (λ (s : ℕ). t < s) (sym (size_is v)) inside) synced
            (λ m among.
            let at = position_of v k m (subst (λ (ms : List Member). Among m ms) (take_firsts v k v.truth.raid_disks most) (subst (λ (ms : List Member). Among m (take k ms)) (shape_members v) among)) in
            subst (λ (o : Member). t < o.reach) (sym at.2)
            (ltb-true t (member_on v at.0).reach (sym (same_count at.0 t (in_layout y at.0 at.1) (outside at.0 at.1)) ∙ lt-ltb t (member_on (rebuilt v place rows) at.0).reach (all at.0 at.1))))))
        | inr row ↦
            subst (λ (ms : List Member). AgreeIn layout (there (map (column now n t) ms))) (sym after)
            (subst (λ stripe. AgreeIn layout (there stripe))
            (sym (columns_all now n t (firsts (rebuilt v place rows) k)
            (λ m among. let at = position_of (rebuilt v place rows) k m among in subst (λ (o : Member). t < o.reach) (sym at.2) (all at.0 at.1))))
            (subst (λ vs. AgreeIn layout vs) (sym (there_all (map (data_of now n t) (firsts (rebuilt v place rows) k))))
            (row_agrees y layout refl row.0 row.1 row.2)))
      ]

  even_kept : AreEven (shape_of v) v.number v.resync cur → AreEven (shape_of (rebuilt v place rows)) v.number v.resync now
  even_kept even y =
      subst (λ (l : Layout). sector_in l y < (shape_of (rebuilt v place rows)).size → row_at (sector_in l y) < v.resync → AllCount l (shape_of (rebuilt v place rows)) (sector_in l y)
      → AgreeIn l (there (stripe_in now v.number (shape_of (rebuilt v place rows)) l (sector_in l y))))
      (sym (layout_after y))
      (λ inside synced counts.
      subst (λ (ms : List Member). AgreeIn (layout_at (shape_of v) y) (there (map (column now n (sector_at (shape_of v) y)) (take (width (layout_at (shape_of v) y)) ms)))) (sym (shape_members (rebuilt v place rows)))
      (agree_after y (subst (λ (s : ℕ). sector_at (shape_of v) y < s) (same_size v place rows ∙ size_is v) inside) synced counts even))

  pub rebuilt_moves : (spent : ℕ → Bool) → RowMoves v (shape_of (rebuilt v place rows)) v.resync spent cur xs
  rebuilt_moves spent = record {
    counted = counted;
    value = λ y alive. value_kept y;
    source = λ y m alive source. source_kept y m source;
    even = even_kept;
  }
