-- A RAID-5 row that is rewritten, whoever goes in it.
use Rattle.std.proofs.Common.{◌≡◌, ℕ, ◌+◌, ◌<◌, true, false, nat_lt, List, [], ◌∷◌, length, refl, sym, ap, ap₂, subst, ◌∙◌, inl, inr, arith}
use Rattle.rack.specs.Seen.{RackView}
use Rattle.rack.specs.Targets.{Target, target}
use Rattle.rack.specs.Sequences.{OnlyReads}
use Rattle.parity.specs.Xor.{xor}
use Rattle.raid_map.specs.LeftSymmetric.{member_of, sector_of, parity_at}
use Rattle.raid_map.proofs.Rows.{row_members_differ}
use Rattle.array_image.specs.Places.{data_sector}
use Rattle.array_image.specs.Stripes.{Layout, parity, width, position_in, sector_in}
use Rattle.array_image.specs.Supers.{is_reshaping}
use Rattle.array_image.specs.Arrays.{layout_at, final_layout}
use Rattle.array_image.specs.Held.{current_in}
use Rattle.array_image.proofs.Losing.{data_of}
use Rattle.array_model.specs.View.{View, IsArray, shape_of, is_whole_array, sectors_of, has_gone, place_at}
use Rattle.array_model.specs.Members.{slice_on, Notes, Works}
use Rattle.array_model.specs.Rows.{part_at, changed, Wrote, row}
use Rattle.array_model.proofs.Layouts.{layout_by, sector_inside}
use Rattle.array_model.proofs.Reading.{slice_same}
use Rattle.array_model.proofs.Writing.{works_reads, works_then, gone_stays}
use Rattle.array_model.proofs.ParityRow.{next_parity}
use Rattle.array_model.proofs.RowWrites.{whole_parts, whole_seat, kept_then, gone_uncounted}
use Rattle.array_model.proofs.Changing.{parity_owes, old_value, column_data, changed_is, whole_or, whole_length, whole_same, next_sized, count_of}
use Rattle.array_core.specs.declared.members.Spread.TheVariants.{Parity}
use Rattle.array_core.specs.declared.members.Stand.{Stand}
use Rattle.array_core.specs.Stands.{IsStand, layout_of}
use Rattle.array_core.specs.Parities.{FoundParity}
use Rattle.array_core.proofs.Gathering.{spent_after, value_after}

-- the layout of a whole RAID-5 array
pub layout_still : (v : View) (x : ℕ) → is_reshaping v.truth ≡ false → final_layout v.truth ≡ parity v.truth.raid_disks → layout_at (shape_of v) x ≡ parity v.truth.raid_disks
layout_still v x still layout = layout_by v x false (nat_lt x v.truth.reshape_position) still refl ∙ layout

pub parity_stand_is : (v : View) (x members : ℕ) (at : Stand) → IsArray v → is_reshaping v.truth ≡ false → final_layout v.truth ≡ parity v.truth.raid_disks → x < sectors_of v
    → members ≡ v.truth.raid_disks → at.spread ≡ Parity members → at.sector ≡ sector_of v.truth.raid_disks x → at.position ≡ parity_at v.truth.raid_disks at.sector
    → IsStand v at
parity_stand_is v x members at is_array still layout low is_m is_spread is_s is_p =
    let wide : width (layout_of at.spread) ≡ v.truth.raid_disks = ap (λ s. width (layout_of s)) is_spread ∙ is_m in
    let member = (row_members_differ v.truth.raid_disks (count_of v is_array layout)).parity_is_member at.sector in
    let inside = sector_inside v x is_array low in
    let at_s : sector_in (layout_at (shape_of v) x) x ≡ sector_of v.truth.raid_disks x = ap (λ (l : Layout). sector_in l x) (layout_still v x still layout) in
    record {
      members = omega (arith, wide);
      position = omega (arith, wide, member, is_p);
      sector = omega (arith, inside, at_s, is_s);
    }

pub change_wrote : (v u w z : View) (a b c d : RackView) (x : ℕ) (at side : Stand) (from new : List ℕ)
    → a.lasting → IsArray v → is_whole_array v ≡ true → v.went ≡ [] → final_layout v.truth ≡ parity v.truth.raid_disks → x < sectors_of v
    → IsStand v at → layout_of at.spread ≡ layout_at (shape_of v) x → at.position ≡ position_in (layout_at (shape_of v) x) x → at.sector ≡ sector_in (layout_at (shape_of v) x) x
    → IsStand v side → side.position ≡ parity_at v.truth.raid_disks side.sector → side.sector ≡ sector_of v.truth.raid_disks x
    → length from ≡ 512 → length new ≡ 512
    → OnlyReads a b → Notes v u a b → FoundParity v u a at side from new
    → Works u w b c (target (slice_on u at.position) (data_sector + at.sector) from ∷ [])
    → Works w z c d (target (slice_on w side.position) (data_sector + at.sector) new ∷ [])
    → (has_gone w (place_at w side.position) ≡ true → (y : List ℕ) → Works w z c d (target (slice_on w side.position) (data_sector + at.sector) y ∷ []))
    → side.position < v.truth.raid_disks → at.position < v.truth.raid_disks
    → Wrote v z a d x from
change_wrote v u w z a b c d x at side from new lasting is_array whole fresh layout low stand spread is_p is_s side_stand side_p side_s sized wide reads notes found first second idle low_q low_p =
    let n = v.truth.raid_disks in
    let lay = layout_still v x (whole_parts v whole).1 layout in
    let p_is : at.position ≡ member_of n x = is_p ∙ ap (λ (l : Layout). position_in l x) lay in
    let s_is : at.sector ≡ sector_of n x = is_s ∙ ap (λ (l : Layout). sector_in l x) lay in
    let q_is : side.position ≡ parity_at n at.sector = side_p ∙ ap (parity_at n) (side_s ∙ sym s_is) in
    let t : ℕ → List ℕ → Target = λ slice y. target slice (data_sector + at.sector) y in
    let two : Works v w a c (t (slice_on v at.position) from ∷ []) =
    subst (λ k. Works v w a c (t k from ∷ [])) (slice_same v u at.position notes.same)
    (works_then v u w a b c [] (t (slice_on u at.position) from ∷ []) (works_reads v u a b reads notes) first) in
    let all : (y : List ℕ) → Works w z c d (t (slice_on w side.position) y ∷ []) → Works v z a d (changed (shape_of v) n v.number x from y) =
    λ y last.
    subst (λ xs. Works v z a d xs) (changed_is v x at.position side.position at.sector from y is_array layout p_is q_is s_is low_p low_q)
    (works_then v w z a c d (t (slice_on v at.position) from ∷ []) (t (slice_on v side.position) y ∷ []) two
    (subst (λ k. Works w z c d (t k y ∷ [])) (slice_same v w side.position two.notes.same) last)) in
    let cur = current_in a.held in
    let wanted : List ℕ = next_parity (shape_of v) n v.number x cur from in
    elim found.value [
      | inl gone ↦
          let kept = kept_then v u a b side.position notes fresh (whole_seat v side.position is_array whole low_q) in
          let low_s : side.sector < u.truth.size = subst (λ t. side.sector < t.size) (sym notes.same.truth) side_stand.sector in
          let went = gone_stays u w b c side.position first.notes (gone_uncounted u side.position side.sector low_s kept gone) in
          row (changed (shape_of v) n v.number x from (whole_or wanted)) (all (whole_or wanted) (idle went (whole_or wanted)))
          (parity_owes v a x from (whole_or wanted) is_array whole layout sized (whole_length wanted)
          (λ opened long even. whole_same wanted (next_sized v a x from is_array whole layout (let inside = side_stand.sector in omega (arith, inside, side_s)) sized opened long even)))
      | inr value ↦
          row (changed (shape_of v) n v.number x from new) (all new second)
          (parity_owes v a x from new is_array whole layout sized wide
          (λ opened long even.
          let parts = value opened in
          let side_is = column_data v cur side.position side.sector parts.side_old low_q parts.side_is
          ∙ ap₂ (λ (j r : ℕ). data_of cur v.number r (part_at j (shape_of v).members)) (side_p ∙ ap (parity_at n) side_s) side_s in
          let old_is = old_value v found.found a x parts.old found.lost is_array whole layout low found.same found.loses
          (spent_after v found.found x at false found.same spread is_p is_s found.unspent)
          (λ open_v. value_after v found.found x at a parts.old found.same spread is_p is_s parts.old_is) opened long even in
          parts.new_is ∙ ap₂ (λ p q. xor (xor p q) from) side_is old_is))
    ]
