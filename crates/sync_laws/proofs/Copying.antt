-- The targets of a row that are made of the others, one after the other.
use Rattle.std.proofs.Common.{◌≡◌, ◌⊎◌, ℕ, ◌+◌, ◌-◌, ◌<◌, ◌≤◌, Bool, true, false, ◌&&◌, ◌||◌, not, List, [], ◌∷◌, ◌++◌, length, refl, sym, ap, subst, ◌∙◌, inl, inr, append_assoc, append-nil, arith}
use Rattle.std.proofs.lemmas.Bool.{both_ways, and_parts, cases_lt}
use Rattle.std.proofs.lemmas.List.{length-append}
use Rattle.std.specs.List.{list_any}
use Rattle.rack.specs.Seen.{RackView}
use Rattle.rack.specs.Sequences.{IsPayload, OnlyReads}
use Rattle.rack.specs.Targets.{Target, target, is_at}
use Rattle.array_image.specs.Places.{data_sector}
use Rattle.array_image.specs.Record.{are_apart}
use Rattle.array_image.specs.Stripes.{Layout, width}
use Rattle.array_image.specs.Held.{current_in}
use Rattle.array_model.specs.View.{View, IsArray}
use Rattle.array_model.specs.Members.{Notes, IsSameButSeats, row_layout, slice_on}
use Rattle.array_model.proofs.Parts.{at_is, is_at_own}
use Rattle.array_model.proofs.Layouts.{row_layout_is}
use Rattle.array_model.proofs.Reading.{slice_same, row_layout_then, open_calls}
use Rattle.array_model.proofs.RowWrites.{places_apart}
use Rattle.array_core.proofs.RowLists.{payload_or, payload_left, payload_right}
use Rattle.sync_laws.specs.Rows.{AddsCopies, IsCopy, IsRowSum, OfRow, OfSector, SourcesCount, is_source, makes_others, row_sum}
use Rattle.sync_laws.proofs.Summing.{count_same, counted_before, sum_kept}

-- ---- lists of targets

or_true : (b c : Bool) → c ≡ true → (b || c) ≡ true
or_true true c is = refl
or_true false c is = is

any_payload : (xs : List Target) (d s : ℕ) (u : List ℕ) → IsPayload xs d s u → list_any (is_at d s) xs ≡ true
any_payload [] d s u is = absurd is
any_payload (x ∷ xs) d s u (inl here) = ap (λ (b : Bool). b || list_any (is_at d s) xs) here.0
any_payload (x ∷ xs) d s u (inr later) = or_true (is_at d s x) (list_any (is_at d s) xs) (any_payload xs d s u later)

any_joined : (xs : List Target) (y : Target) (p : Target → Bool) → list_any p xs ≡ false → p y ≡ false → list_any p (xs ++ y ∷ []) ≡ false
any_joined [] y p none other = ap (λ (b : Bool). b || false) other
any_joined (x ∷ xs) y p none other = by (p x) (list_any p xs) none (λ rest. any_joined xs y p rest other)
  where
    by : (b more : Bool) → (b || more) ≡ false → (more ≡ false → list_any p (xs ++ y ∷ []) ≡ false) → (b || list_any p (xs ++ y ∷ [])) ≡ false
    by true more is rest = absurd (both_ways true is refl)
    by false more is rest = rest is

not_true : (b : Bool) → not b ≡ true → b ≡ false
not_true true is = absurd (both_ways false refl is)
not_true false is = refl

one_apart : (xs : List Target) (y : Target) → are_apart xs ≡ true → ((u : List ℕ) → IsPayload xs y.disk y.sector u → ⊥) → are_apart (xs ++ y ∷ []) ≡ true
one_apart [] y apart none = refl
one_apart (x ∷ xs) y apart none =
    let parts = and_parts (not (list_any (is_at x.disk x.sector) xs)) (are_apart xs) apart in
    let Goal : Bool → Type 0 = λ b. is_at x.disk x.sector y ≡ b → b ≡ false in
    let goal : Goal (is_at x.disk x.sector y) = elim (is_at x.disk x.sector y) as Goal [
      | false ↦ λ is. refl
      | true ↦ λ is.
          let at = at_is x.disk x.sector y is in
          absurd (none x.bytes (inl (subst (λ e. is_at e y.sector x ≡ true) at.0 (subst (λ e. is_at x.disk e x ≡ true) at.1 (is_at_own x)), refl)))
    ] in
    both _ _
    (ap not (any_joined xs y (is_at x.disk x.sector) (not_true _ parts.0) (goal refl)))
    (one_apart xs y parts.1 (λ u is. none u (inr is)))
  where
    both : (p q : Bool) → p ≡ true → q ≡ true → (p && q) ≡ true
    both true q is also = also
    both false q is also = is

-- two lists without a sector in common
pub apart_joined : (xs ys : List Target) → are_apart xs ≡ true → are_apart ys ≡ true
    → ((d s : ℕ) (u w : List ℕ) → IsPayload xs d s u → IsPayload ys d s w → ⊥) → are_apart (xs ++ ys) ≡ true
apart_joined xs [] one two other = subst (λ zs. are_apart zs ≡ true) (sym (append-nil xs)) one
apart_joined xs (y ∷ ys) one two other =
    let parts = and_parts (not (list_any (is_at y.disk y.sector) ys)) (are_apart ys) two in
    subst (λ zs. are_apart zs ≡ true) (append_assoc xs (y ∷ []) ys)
    (apart_joined (xs ++ y ∷ []) ys
    (one_apart xs y one (λ u is. other y.disk y.sector u y.bytes is (inl (is_at_own y, refl))))
    parts.1
    (λ d s u w first second. elim (payload_or xs (y ∷ []) d s u first) [
      | inl old ↦ other d s u w old (inr second)
      | inr new ↦ mine d s w (at_new d s u new) second parts.0
    ]))
  where
    at_new : (d s : ℕ) (u : List ℕ) → IsPayload (y ∷ []) d s u → (d ≡ y.disk) × (s ≡ y.sector)
    at_new d s u (inl here) = at_is d s y here.0
    at_new d s u (inr none) = absurd none

    mine : (d s : ℕ) (w : List ℕ) → (d ≡ y.disk) × (s ≡ y.sector) → IsPayload ys d s w → not (list_any (is_at y.disk y.sector) ys) ≡ true → ⊥
    mine d s w at is none =
        both_ways (list_any (is_at y.disk y.sector) ys) (not_true _ none)
        (any_payload ys y.disk y.sector w (subst (λ e. IsPayload ys e y.sector w) at.0 (subst (λ e. IsPayload ys d e w) at.1 is)))

pub slices_differ : (v : View) (i j : ℕ) → IsArray v → i < v.truth.raid_disks → j < v.truth.raid_disks → slice_on v i ≡ slice_on v j → i ≡ j
slices_differ v i j is_array low_i low_j same = places_apart v i j is_array low_i low_j (omega (arith, same))

-- ---- targets that are added

-- none
pub no_copies : (v : View) (within : ℕ → ℕ → Type 0) (bytes : ℕ → List ℕ → Type 0) (many : ℕ) (xs : List Target) → ((t j : ℕ) → within t j → ⊥)
    → AddsCopies v within bytes many xs xs
no_copies v within bytes many xs none = record {
  targets = [];
  appended = sym (append-nil xs);
  few = omega arith;
  copies = record { on = λ d s u is. absurd is; has = λ t j is. absurd (none t j is); apart = refl };
}

-- one
pub one_target : (v : View) (within : ℕ → ℕ → Type 0) (bytes : ℕ → List ℕ → Type 0) (sector k : ℕ) (from : List ℕ) (xs ys : List Target) → k < v.truth.raid_disks → length from ≡ 512
    → within sector k → ((t j : ℕ) → within t j → (t ≡ sector) × (j ≡ k)) → bytes sector from
    → ys ≡ xs ++ target (slice_on v k) (data_sector + sector) from ∷ []
    → AddsCopies v within bytes 1 xs ys
one_target v within bytes sector k from xs ys low long inside only has added = record {
  targets = target (slice_on v k) (data_sector + sector) from ∷ [];
  appended = added;
  few = omega arith;
  copies = record {
    on = λ d s u is. on d s u is;
    has = λ t j is. let at = only t j is in (
      from,
      subst (λ i. IsPayload (target (slice_on v k) (data_sector + sector) from ∷ []) (slice_on v i) (data_sector + t) from) (sym at.1)
          (subst (λ i. IsPayload (target (slice_on v k) (data_sector + sector) from ∷ []) (slice_on v k) (data_sector + i) from) (sym at.0) (inl (is_at_own (target (slice_on v k) (data_sector + sector) from), refl))),
    );
    apart = refl;
  };
}
  where
    on : (d s : ℕ) (u : List ℕ) → IsPayload (target (slice_on v k) (data_sector + sector) from ∷ []) d s u → IsCopy v within bytes d s u
    on d s u (inl here) =
        let at = at_is d s (target (slice_on v k) (data_sector + sector) from) here.0 in
        record { sector = sector; position = k; low = low; disk = at.0; at = at.1; inside = inside; bytes = subst (bytes sector) (sym here.1) has; long = ap length here.1 ∙ long }
    on d s u (inr none) = absurd none

-- some and then others
pub copies_then : (v : View) (one two all : ℕ → ℕ → Type 0) (bytes : ℕ → List ℕ → Type 0) (m n : ℕ) (xs ys zs : List Target) → IsArray v
    → ((t j : ℕ) → one t j → all t j) → ((t j : ℕ) → two t j → all t j) → ((t j : ℕ) → all t j → one t j ⊎ two t j)
    → ((t j : ℕ) → one t j → two t j → ⊥)
    → AddsCopies v one bytes m xs ys → AddsCopies v two bytes n ys zs → AddsCopies v all bytes (m + n) xs zs
copies_then v one two all bytes m n xs ys zs is_array first second either differ before after =
    let ps = before.targets in
    let qs = after.targets in
    let few = before.few in
    let more = after.few in
    let sum = length-append ps qs in
    record {
      targets = ps ++ qs;
      appended = after.appended ∙ ap (λ ws. ws ++ qs) before.appended ∙ append_assoc xs ps qs;
      few = omega (arith, few, more, sum);
      copies = record {
        on = λ d s u is. elim (payload_or ps qs d s u is) [
          | inl old ↦ (let at = before.copies.on d s u old in
              record { sector = at.sector; position = at.position; low = at.low; disk = at.disk; at = at.at; inside = first at.sector at.position at.inside; bytes = at.bytes; long = at.long })
          | inr new ↦ (let at = after.copies.on d s u new in
              record { sector = at.sector; position = at.position; low = at.low; disk = at.disk; at = at.at; inside = second at.sector at.position at.inside; bytes = at.bytes; long = at.long })
        ];
        has = λ t j is. elim (either t j is) [
          | inl old ↦ (let at = before.copies.has t j old in (at.0, payload_left ps qs (slice_on v j) (data_sector + t) at.0 at.1))
          | inr new ↦ (let at = after.copies.has t j new in (at.0, payload_right ps qs (slice_on v j) (data_sector + t) at.0 at.1))
        ];
        apart =
            apart_joined ps qs before.copies.apart after.copies.apart
            (λ d s u w old new.
            let p = before.copies.on d s u old in
            let q = after.copies.on d s w new in
            let t : p.sector ≡ q.sector = (let at_p = p.at in let at_q = q.at in omega (arith, at_p, at_q)) in
            let j : p.position ≡ q.position = slices_differ v p.position q.position is_array p.low q.low (sym p.disk ∙ q.disk) in
            differ q.sector q.position (subst (λ i. one i q.position) t (subst (λ i. one p.sector i) j p.inside)) q.inside);
      };
    }

-- by another view of the same members, and for more bytes
pub copies_by : (v u : View) (one two : ℕ → ℕ → Type 0) (here there : ℕ → List ℕ → Type 0) (m n : ℕ) (xs ys : List Target) → IsSameButSeats v u → m ≤ n
    → ((t j : ℕ) → one t j → two t j) → ((t j : ℕ) → two t j → one t j) → ((t j : ℕ) (w : List ℕ) → one t j → here t w → there t w)
    → AddsCopies u one here m xs ys → AddsCopies v two there n xs ys
copies_by v u one two here there m n xs ys same fewer onto back bytes adds =
    let few = adds.few in
    let count = count_same v u same in
    record {
      targets = adds.targets;
      appended = adds.appended;
      few = omega (arith, few, fewer);
      copies = record {
        on = λ d s w is.
            let at = adds.copies.on d s w is in
            let low = at.low in
            record {
              sector = at.sector;
              position = at.position;
              low = omega (arith, low, count);
              disk = at.disk ∙ slice_same v u at.position same;
              at = at.at;
              inside = onto at.sector at.position at.inside;
              bytes = bytes at.sector at.position w at.inside at.bytes;
              long = at.long;
            };
        has = λ t j is.
            let at = adds.copies.has t j (back t j is) in
            (at.0, subst (λ d. IsPayload adds.targets d (data_sector + t) at.0) (slice_same v u j same) at.1);
        apart = adds.copies.apart;
      };
    }

-- ---- the sectors of a row

source_then : (v u : View) (t j : ℕ) → IsSameButSeats v u → is_source u t j ≡ is_source v t j
source_then v u t j same = ap (λ (l : Layout). makes_others l t j) (row_layout_then v u t same.truth)

-- the member of a sector that is made of others
pub copy_made : (v : View) (sector members made : ℕ) (from : List ℕ) (xs ys : List Target) → IsArray v → members ≡ width (row_layout v sector) → made < members → is_source v sector made ≡ false
    → ((j : ℕ) → j < members → is_source v sector j ≡ false → j ≡ made) → length from ≡ 512 → ys ≡ xs ++ target (slice_on v made) (data_sector + sector) from ∷ []
    → AddsCopies v (OfSector v sector members) (λ t u. u ≡ from) 1 xs ys
copy_made v sector members made from xs ys is_array members_is low is only long added =
    let most = (row_layout_is v sector is_array).most in
    one_target v (OfSector v sector members) (λ t u. u ≡ from) sector made from xs ys (omega (arith, members_is, low, most)) long (refl, low, is)
    (λ t j inside. (inside.0, only j inside.1 (ap (λ s. is_source v s j) (sym inside.0) ∙ inside.2))) refl added

-- the sector of a view before losses, with what its members held then
pub sector_copies : (v u : View) (a b : RackView) (sector : ℕ) (from : List ℕ) (xs ys : List Target) → Notes v u a b → IsRowSum v a sector from
    → AddsCopies u (OfSector u sector (width (row_layout u sector))) (λ t w. w ≡ from) 1 xs ys
    → AddsCopies v (OfSector v sector (width (row_layout v sector))) (IsRowSum v a) 1 xs ys
sector_copies v u a b sector from xs ys notes sum =
    let same = notes.same in
    let layout = row_layout_then v u sector same.truth in
    copies_by v u (OfSector u sector (width (row_layout u sector))) (OfSector v sector (width (row_layout v sector))) (λ t w. w ≡ from) (IsRowSum v a) 1 1 xs ys same (omega arith)
    (λ t j is. (is.0, subst (λ (l : Layout). j < width l) layout is.1, sym (source_then v u t j same) ∙ is.2))
    (λ t j is. (is.0, subst (λ (l : Layout). j < width l) (sym layout) is.1, source_then v u t j same ∙ is.2))
    (λ t j w is bytes. subst (λ i. IsRowSum v a i w) (sym is.0) (subst (λ x. IsRowSum v a sector x) (sym bytes) sum))

-- one sector more of a row, read by a view after losses
pub row_next : (v u : View) (a b : RackView) (first many : ℕ) (xs ys zs : List Target) → IsArray v → a.lasting → OnlyReads a b → Notes v u a b
    → AddsCopies v (OfRow v first many) (IsRowSum v a) many xs ys
    → AddsCopies u (OfSector u (first + many) (width (row_layout u (first + many)))) (IsRowSum u b) 1 ys zs
    → SourcesCount v (first + many) (width (row_layout v (first + many)))
    → AddsCopies v (OfRow v first (many + 1)) (IsRowSum v a) (many + 1) xs zs
row_next v u a b first many xs ys zs is_array lasting reads notes so_far one counts =
    let same = notes.same in
    let sector = first + many in
    let layout = row_layout_then v u sector same.truth in
    let most = (row_layout_is v sector is_array).most in
    let here : AddsCopies v (OfSector v sector (width (row_layout v sector))) (IsRowSum v a) 1 ys zs =
    copies_by v u (OfSector u sector (width (row_layout u sector))) (OfSector v sector (width (row_layout v sector))) (IsRowSum u b) (IsRowSum v a) 1 1 ys zs same (omega arith)
    (λ t j is. (is.0, subst (λ (l : Layout). j < width l) layout is.1, sym (source_then v u t j same) ∙ is.2))
    (λ t j is. (is.0, subst (λ (l : Layout). j < width l) (sym layout) is.1, source_then v u t j same ∙ is.2))
    (λ t j w is bytes.
    subst (λ i. IsRowSum v a i w) (sym is.0)
    (λ opened.
    subst (λ i. IsRowSum u b i w) is.0 bytes (open_calls v u a b lasting reads notes opened)
    ∙ ap (λ (l : Layout). row_sum u (current_in b.held) sector (width l)) layout
    ∙ sum_kept v u a b sector (width (row_layout v sector)) lasting reads notes most counts opened))
    one in
    copies_then v (OfRow v first many) (OfSector v sector (width (row_layout v sector))) (OfRow v first (many + 1)) (IsRowSum v a) many 1 xs ys zs is_array
    (λ t j is. let low = is.1 in (is.0, omega (arith, low), is.2, is.3))
    (λ t j is. let at = is.0 in (omega (arith, at), omega (arith, at), subst (λ i. j < width (row_layout v i)) (sym is.0) is.1, is.2))
    (λ t j is. elim (cases_lt t (first + many)) [
      | inl less ↦ inl (is.0, less, is.2, is.3)
      | inr more ↦
          let low = is.1 in
          let at : t ≡ first + many = omega (arith, low, more) in
          inr (at, subst (λ i. j < width (row_layout v i)) at is.2, is.3)
    ])
    (λ t j before now. let low = before.1 in let at = now.0 in omega (arith, low, at))
    so_far here

-- how many there are
pub added_length : (v : View) (within : ℕ → ℕ → Type 0) (bytes : ℕ → List ℕ → Type 0) (many : ℕ) (xs ys : List Target) → AddsCopies v within bytes many xs ys
    → length ys ≤ length xs + many
added_length v within bytes many xs ys adds =
    let few = adds.few in
    let sum : length ys ≡ length xs + length adds.targets = ap length adds.appended ∙ length-append xs adds.targets in
    omega (arith, few, sum)

-- the same, by the sector that comes next
pub row_step : (v u : View) (a b : RackView) (first sector : ℕ) (xs ys zs : List Target) → IsArray v → a.lasting → OnlyReads a b → Notes v u a b → first ≤ sector
    → AddsCopies v (OfRow v first (sector - first)) (IsRowSum v a) (sector - first) xs ys
    → AddsCopies u (OfSector u sector (width (row_layout u sector))) (IsRowSum u b) 1 ys zs
    → SourcesCount u sector (width (row_layout u sector))
    → AddsCopies v (OfRow v first (sector + 1 - first)) (IsRowSum v a) (sector + 1 - first) xs zs
row_step v u a b first sector xs ys zs is_array lasting reads notes least so_far one counts =
    let many = sector - first in
    let at : first + many ≡ sector = omega (arith, least) in
    let next : many + 1 ≡ sector + 1 - first = omega (arith, least) in
    let layout = row_layout_then v u sector notes.same.truth in
    let counted : SourcesCount v sector (width (row_layout v sector)) =
    λ j low is.
    counted_before v u a b j sector notes (counts j (subst (λ (l : Layout). j < width l) (sym layout) low) (source_then v u sector j notes.same ∙ is)) in
    subst (λ n. AddsCopies v (OfRow v first n) (IsRowSum v a) n xs zs) next
    (row_next v u a b first many xs ys zs is_array lasting reads notes so_far
    (subst (λ s. AddsCopies u (OfSector u s (width (row_layout u s))) (IsRowSum u b) 1 ys zs) (sym at) one)
    (subst (λ s. SourcesCount v s (width (row_layout v s))) (sym at) counted))
