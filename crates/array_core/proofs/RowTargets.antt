-- The targets of a row, one after the other.
use Rattle.std.proofs.Common.{◌≡◌, ℕ, suc, ◌+◌, ◌<◌, ◌≤◌, inl, inr, ap₂, Bool, true, false, List, [], ◌∷◌, ◌++◌, length, refl, sym, ap, subst, ◌∙◌, arith}
use Rattle.std.proofs.lemmas.List.{length-append}
use Rattle.rack.specs.Seen.{RackView}
use Rattle.rack.specs.Sequences.{OnlyReads}
use Rattle.rack.specs.Targets.{Target, target}
use Rattle.rack.proofs.Reading.{only_reads_start}
use Rattle.raid_map.specs.LeftSymmetric.{IsMemberCount, parity_at}
use Rattle.raid_map.proofs.Rows.{row_members_differ}
use Rattle.array_image.specs.Places.{data_sector}
use Rattle.array_image.specs.Stripes.{Layout, parity, width, sector_in}
use Rattle.array_image.specs.Arrays.{layout_at}
use Rattle.array_model.specs.View.{IsArray, shape_of, sectors_of}
use Rattle.array_model.specs.Members.{Notes}
use Rattle.array_model.proofs.Views.{notes_none}
use Rattle.array_model.proofs.Reading.{slice_same}
use Rattle.array_model.proofs.Noting.{layout_is}
use Rattle.array_model.proofs.Layouts.{members_count, sector_inside}
use Rattle.array_core.specs.declared.members.Spread.{Spread}
use Rattle.array_core.specs.declared.members.Spread.TheVariants.{Parity}
use Rattle.array_core.specs.declared.members.Stand.{Stand}
use Rattle.array_core.specs.Stands.{IsStand, layout_of}
use Rattle.log_laws.specs.View.{LogView}
use Rattle.array_model.specs.View.{View}
use Rattle.array_core.specs.Logging.{is_due, one_if, sector_target, due_copies, StagesChange, Stages, IsRowAt, staged_change, IsChange, data_alone, with_parity, MakesParity}
use Rattle.array_core.proofs.Gathering.{spent_after}

one_more : (k : ℕ) → suc k ≡ k + 1
one_more k = omega arith

pub few_if : (due : Bool) (x : Target) → length (one_if due x) ≤ 1
few_if true x = omega arith
few_if false x = omega arith

pub copies_step : (all : Bool) (v : View) (sector k : ℕ) (from : List ℕ) (fn before after : LogView) (due : Bool)
    → due ≡ is_due all v k sector
    → (before ≡ record fn { added = due_copies all v sector from k }) × (length before.added ≤ k)
    → after ≡ record before { added = before.added ++ one_if due (sector_target v k sector from) }
    → (after ≡ record fn { added = due_copies all v sector from (k + 1) }) × (length after.added ≤ k + 1)
unfolding due_copies
copies_step all v sector k from fn before after due is so_far next =
    let added : after.added ≡ before.added ++ one_if due (sector_target v k sector from) = ap (λ (l : LogView). l.added) next in
    let few = few_if due (sector_target v k sector from) in
    let low = so_far.1 in
    let long : length after.added ≡ length before.added + length (one_if due (sector_target v k sector from)) = ap length added ∙ length-append before.added (one_if due (sector_target v k sector from)) in (
      next ∙ ap (λ (l : LogView). record l { added = l.added ++ one_if due (sector_target v k sector from) }) so_far.0
          ∙ ap (λ (b : Bool). record fn { added = due_copies all v sector from k ++ one_if b (sector_target v k sector from) }) is
          ∙ ap (λ (j : ℕ). record fn { added = due_copies all v sector from j }) (one_more k),
      omega (arith, long, few, low),
    )

-- ---- where a row's parity stands

pub side_is : (v : View) (x k : ℕ) (side : Stand) → IsArray v → x < sectors_of v → layout_at (shape_of v) x ≡ parity k → side.spread ≡ Parity k
    → side.sector ≡ sector_in (layout_at (shape_of v) x) x → side.position ≡ parity_at k side.sector → IsStand v side
side_is v x k side is_array low layout spread sector position =
    let wide : width (layout_of side.spread) ≡ k = ap (λ (s : Spread). width (layout_of s)) spread in
    let most : k ≤ v.truth.raid_disks = subst (λ (l : Layout). width l ≤ v.truth.raid_disks) layout (layout_is v x is_array).most in
    let count : IsMemberCount k = subst (λ (l : Layout). IsMemberCount (width l)) layout (members_count v x is_array) in
    let inside = sector_inside v x is_array low in
    let there = (row_members_differ k count).parity_is_member side.sector in
    record {
      members = omega (arith, wide, most);
      position = omega (arith, wide, there, position);
      sector = omega (arith, inside, sector);
    }

-- ---- a row's change

first_added : (added0 added : List Target) (own due : Bool) (x : Target) → added0 ≡ [] → added ≡ added0 ++ one_if own x → own ≡ due → added ≡ one_if due x
first_added added0 added own due x empty is own_is = is ∙ ap (λ (ys : List Target). ys ++ one_if own x) empty ∙ ap (λ (b : Bool). one_if b x) own_is

pub data_staged : (all : Bool) (v : View) (a : RackView) (at side : Stand) (from : List ℕ) (own : Bool) (added0 added : List Target) → a.fit → added0 ≡ []
    → added ≡ added0 ++ one_if own (sector_target v at.position at.sector from) → own ≡ is_due all v at.position at.sector → is_due all v side.position at.sector ≡ false
    → StagesChange all v v a a at side from true added
data_staged all v a at side from own added0 added fit empty is own_is none = record {
  reads = only_reads_start a fit;
  notes = notes_none v a a;
  either = inr (refl, subst (IsChange all v v a at side from) (sym (first_added added0 added own _ (sector_target v at.position at.sector from) empty is own_is)) (data_alone none));
}

pub both_staged : (all : Bool) (v w : View) (a b : RackView) (at side : Stand) (from new : List ℕ) (own : Bool) (added0 added1 added2 : List Target)
    → OnlyReads a b → Notes v w a b → added0 ≡ []
    → added1 ≡ added0 ++ one_if own (sector_target w at.position at.sector from) → added2 ≡ added1 ++ one_if true (sector_target w side.position at.sector new)
    → own ≡ is_due all v at.position at.sector → is_due all v side.position at.sector ≡ true → length new ≡ 512 → MakesParity v w a at side from new
    → StagesChange all v w a b at side from true added2
both_staged all v w a b at side from new own added0 added1 added2 reads notes empty one two own_is due long makes =
    let first : added1 ≡ one_if (is_due all v at.position at.sector) (sector_target v at.position at.sector from) =
    first_added added0 added1 own _ (sector_target w at.position at.sector from) empty one own_is
    ∙ ap (λ (d : ℕ). one_if (is_due all v at.position at.sector) (target d (data_sector + at.sector) from)) (slice_same v w at.position notes.same) in
    let all_is : added2 ≡ one_if (is_due all v at.position at.sector) (sector_target v at.position at.sector from) ++ sector_target v side.position at.sector new ∷ [] =
    two ∙ ap₂ (λ (ys : List Target) (d : ℕ). ys ++ target d (data_sector + at.sector) new ∷ []) first (slice_same v w side.position notes.same) in
    record { reads = reads; notes = notes; either = inr (refl, subst (IsChange all v w a at side from) (sym all_is) (with_parity new due long makes)) }

pub row_staged : (all : Bool) (v w : View) (a b : RackView) (x k : ℕ) (at side : Stand) (from : List ℕ) (staged : Bool) (added : List Target)
    → IsRowAt v x k at side → StagesChange all v w a b at side from staged added → Stages all v w a b x from staged added
row_staged all v w a b x k at side from staged added row change = record {
  reads = change.reads;
  notes = change.notes;
  either = elim change.either [
    | inl refused ↦ inl (refused.0, spent_after v w x at true change.notes.same (row.spread ∙ sym row.layout) row.position row.sector refused.1, refused.2)
    | inr done ↦ inr (done.0, staged_change k at side added row done.1)
  ];
}
