-- One more array has its slices.
use Rattle.std.proofs.Common.{◌≡◌, ◌⊎◌, ℕ, zero, suc, ◌+◌, ◌<◌, ◌≤◌, Bool, true, false, ◌&&◌, ◌||◌, not, nat_lt, bytes_eq, if◌then◌else◌, List, [], ◌∷◌, ◌++◌, map, length, slice_get, Option, Some, None, Result, Ok, Err, is_some, inl, inr, refl, sym, ap, subst, ◌∙◌, arith}
use Rattle.std.specs.Option.{option_and_then, option_map_or}
use Rattle.std.specs.List.{list_all, range_with_len}
use Rattle.std.proofs.lemmas.Bool.{and_parts, both_ways, ltb-true}
use Rattle.md_super.specs.declared.superblock.Super.{Super}
use Rattle.gpt_table.specs.declared.Table.{Table}
use Rattle.array_image.specs.States.{id_of}
use Rattle.pool_state.specs.declared.contents.State.{State}
use Rattle.array_image.specs.Places.{arrays_first, data_sector, log_kind, raid_kind}
use Rattle.pool_image.specs.Disks.{Seats}
use Rattle.pool_image.specs.Meaning.{has_entry, has_slice}
use Rattle.array_image.specs.Supers.{is_named, is_unclean}
use Rattle.array_model.specs.View.{View}
use Rattle.array_core.specs.declared.Found.{Found as FoundSuper}
use Rattle.array_core.specs.declared.ArrayFault.{ArrayFault}
use Rattle.array_core.specs.declared.ArrayFault.TheVariants.{Foreign, TooFew, DirtyDegraded}
use Rattle.array_core.specs.Opening.{lacking, opened, opened_by, share_set, slots_found, truth_of as found_truth, view_found}
use Rattle.pool_check.specs.declared.Checked.{Checked}
use Rattle.pool_check.specs.declared.Extent.{Extent}
use Rattle.pool_check.specs.declared.Layer.{Layer}
use Rattle.pool_check.specs.declared.Sight.{Sight}
use Rattle.pool_check.specs.declared.ArraysRead.{ArraysRead}
use Rattle.pool_check.specs.Layers.{Opens, extent_by, has_layer, is_member_of, is_member_sight, is_table_by, log_extent, sight_by, sights_by}
use Rattle.pool_check.specs.Slots.{AreKept, AreMatched, AreOrdered, AreSlots, FitsOn, IsBehind, SaysMember, behind}
use Rattle.pool_check.proofs.Finding.{got_from}

got_below : {X : Type 0} (xs : List X) (k : ℕ) (x : X) → slice_get xs k ≡ Some x → k < length xs
got_below [] zero x at = cc
got_below [] (suc k) x at = cc
got_below (y ∷ xs) zero x at = omega arith
got_below (y ∷ xs) (suc k) x at = let rest = got_below xs k x at in omega (arith, rest)

-- what stands in a list stands in a longer one
pub got_longer : {X : Type 0} (xs : List X) (y : X) (k : ℕ) (x : X) → slice_get xs k ≡ Some x → slice_get (xs ++ y ∷ []) k ≡ Some x
got_longer [] y zero x at = cc
got_longer [] y (suc k) x at = cc
got_longer (z ∷ xs) y zero x at = at
got_longer (z ∷ xs) y (suc k) x at = got_longer xs y k x at

pub got_last : {X : Type 0} (xs : List X) (y : X) → slice_get (xs ++ y ∷ []) (length xs) ≡ Some y
got_last [] y = refl
got_last (z ∷ xs) y = got_last xs y

-- what stands in the longer one stood in it before, or is the last
got_pushed : {X : Type 0} (xs : List X) (y : X) (k : ℕ) (x : X) → slice_get (xs ++ y ∷ []) k ≡ Some x
    → (slice_get xs k ≡ Some x) ⊎ ((k ≡ length xs) × (y ≡ x))
got_pushed [] y zero x at = let same : y ≡ x = cc in inr (refl, same)
got_pushed [] y (suc k) x at = cc
got_pushed (z ∷ xs) y zero x at = inl at
got_pushed (z ∷ xs) y (suc k) x at = elim (got_pushed xs y k x at) [ inl old ↦ inl old | inr new ↦ inr (ap suc new.0, new.1) ]

-- ---- extents

pub ordered_more : (xs : List Extent) (e : Extent) → AreOrdered xs → IsBehind xs e.first → AreOrdered (xs ++ e ∷ [])
ordered_more xs e ordered past = record {
  least = λ n g at. elim (got_pushed xs e n g at) [
    | inl old ↦ ordered.least n g old
    | inr new ↦ subst (λ (x : Extent). arrays_first ≤ x.first) new.1 past.least
  ];
  follow = λ m n g h before at_m at_n. elim (got_pushed xs e n h at_n) [
    | inl old_n ↦ elim (got_pushed xs e m g at_m) [
      | inl old_m ↦ ordered.follow m n g h before old_m old_n
      | inr new_m ↦ absurd (let below = got_below xs n h old_n in omega (arith, below, new_m.0, before))
    ]
    | inr new_n ↦ elim (got_pushed xs e m g at_m) [
      | inl old_m ↦ subst (λ (x : Extent). behind g ≤ x.first) new_n.1 (past.past m g old_m)
      | inr new_m ↦ absurd (omega (arith, new_m.0, new_n.0, before))
    ]
  ];
}

pub behind_later : (xs : List Extent) (first next : ℕ) → IsBehind xs first → first ≤ next → IsBehind xs next
behind_later xs first next is later = record {
  least = (let least = is.least in omega (arith, least, later));
  past = λ n e at. let past = is.past n e at in omega (arith, past, later);
}

pub behind_more : (xs : List Extent) (e : Extent) → IsBehind xs e.first → IsBehind (xs ++ e ∷ []) (behind e)
behind_more xs e is = record {
  least = (let least = is.least in omega (arith, least));
  past = λ n g at. elim (got_pushed xs e n g at) [
    | inl old ↦ (let past = is.past n g old in omega (arith, past))
    | inr new ↦ subst (λ (x : Extent). behind x ≤ behind e) new.1 (omega arith)
  ];
}

-- ---- layers

says_longer : (layers : List Layer) (layer : Layer) (place : ℕ) (e : Extent) → SaysMember layers place e → SaysMember (layers ++ layer ∷ []) place e
says_longer layers layer place e says = record {
  at = says.at;
  layer = says.layer;
  is = got_longer layers layer says.at says.layer says.is;
  member = says.member;
  lies = says.lies;
}

pub matched_layer : (layers : List Layer) (layer : Layer) (arrays : List View) (extents : List Extent) → AreMatched layers arrays extents
    → AreMatched (layers ++ layer ∷ []) arrays extents
matched_layer layers layer arrays extents matched = record {
  members = λ n v e place at_v at_e low named. says_longer layers layer place e (matched.members n v e place at_v at_e low named);
  sizes = matched.sizes;
}

-- one more array, whose layer was added
pub matched_more : (layers : List Layer) (layer : Layer) (arrays : List View) (extents : List Extent) (v : View) (e : Extent)
    → length extents ≡ length arrays
    → ((place : ℕ) → place < 16 → is_named v.truth place ≡ true → is_member_of layer place ≡ true)
    → layer.extent ≡ Some e
    → e.sectors ≡ data_sector + v.truth.size
    → AreMatched layers arrays extents → AreMatched (layers ++ layer ∷ []) (arrays ++ v ∷ []) (extents ++ e ∷ [])
matched_more layers layer arrays extents v e same says lies size matched = record {
  members = λ n w g place at_w at_g low named. elim (got_pushed arrays v n w at_w) [
    | inl old_w ↦ elim (got_pushed extents e n g at_g) [
      | inl old_g ↦ says_longer layers layer place g (matched.members n w g place old_w old_g low named)
      | inr new_g ↦ absurd (let below = got_below arrays n w old_w in omega (arith, below, new_g.0, same))
    ]
    | inr new_w ↦ elim (got_pushed extents e n g at_g) [
      | inl old_g ↦ absurd (let below = got_below extents n g old_g in omega (arith, below, new_w.0, same))
      | inr new_g ↦ record {
        at = length layers;
        layer = layer;
        is = got_last layers layer;
        member = says place low (subst (λ (x : View). is_named x.truth place ≡ true) (sym new_w.1) named);
        lies = lies ∙ ap Some new_g.1;
      }
    ]
  ];
  sizes = λ n w g at_w at_g. elim (got_pushed arrays v n w at_w) [
    | inl old_w ↦ elim (got_pushed extents e n g at_g) [
      | inl old_g ↦ matched.sizes n w g old_w old_g
      | inr new_g ↦ absurd (let below = got_below arrays n w old_w in omega (arith, below, new_g.0, same))
    ]
    | inr new_w ↦ elim (got_pushed extents e n g at_g) [
      | inl old_g ↦ absurd (let below = got_below extents n g old_g in omega (arith, below, new_w.0, same))
      | inr new_g ↦
          ap (λ (x : Extent). x.sectors) (sym new_g.1) ∙ size ∙ ap (λ (x : View). data_sector + x.truth.size) new_w.1
    ]
  ];
}

-- the members of a layer are those that the truth names
pub layer_names : (t : Super) (found : List FoundSuper) (layer : Layer) → layer.sights.items ≡ map (sights_by t found) (range_with_len 0 16)
    → (place : ℕ) → place < 16 → is_member_of layer place ≡ is_named t place
layer_names t found layer sights place low =
    ap (λ (o : Option Sight). option_map_or is_member_sight o false)
    (ap (λ (xs : List Sight). slice_get xs place) sights ∙ got_from (sights_by t found) 16 place low)
    ∙ by (is_named t place) (is_some (option_and_then (λ f. f.seen) (slice_get found place)))
  where
    by : (member valid : Bool) → is_member_sight (sight_by member valid) ≡ member
    by true true = refl
    by true false = refl
    by false valid = refl

-- an opened array is that of what was found
pub opened_view : (number : ℕ) (young : Bool) (found : List FoundSuper) (t : Super) (v : View) → found_truth found ≡ Some t
    → opened number young found ≡ Ok v → v ≡ view_found number young found t
opened_view number young found t v is made =
    by (share_set found t.set_id) (nat_lt 1 (lacking (slots_found found t))) (nat_lt 0 (lacking (slots_found found t)) && (not young && is_unclean t))
    (sym (ap (λ (o : Option Super). option_map_or (opened_by number young found) o (Err Foreign)) is) ∙ made)
  where
    by : (share short dirty : Bool)
        → (if not share then Err Foreign else if short then Err TooFew else if dirty then Err DirtyDegraded else Ok (view_found number young found t)) ≡ Ok v
        → v ≡ view_found number young found t
    by false short dirty at = cc
    by true true dirty at = cc
    by true false true at = cc
    by true false false at = cc

opened_truth : (number : ℕ) (young : Bool) (found : List FoundSuper) (t : Super) (v : View) → found_truth found ≡ Some t
    → opened number young found ≡ Ok v → v.truth ≡ t
opened_truth number young found t v is made = ap (λ (x : View). x.truth) (opened_view number young found t v is made)

-- one more array is kept with its extent, or none
pub record Keeps (a b : Checked) (layers : List Layer) (layer : Layer) (next : ℕ) : Type 0 where
  pub ordered : AreOrdered b.extents.items
  pub past : IsBehind b.extents.items next
  pub matched : AreMatched (layers ++ layer ∷ []) b.arrays.items b.extents.items

pub opens_keeps : (a b : Checked) (e : Extent) (flag : Bool) (number : ℕ) (young : Bool) (found : List FoundSuper) (t : Super) (fault : Option ArrayFault)
    (layers : List Layer) (layer : Layer)
    → Opens a b e flag (opened number young found) fault
    → found_truth found ≡ Some t
    → length a.extents.items ≡ length a.arrays.items
    → layer.sights.items ≡ map (sights_by t found) (range_with_len 0 16)
    → layer.extent ≡ Some e
    → e.sectors ≡ data_sector + t.size
    → AreOrdered a.extents.items → IsBehind a.extents.items e.first → AreMatched layers a.arrays.items a.extents.items
    → Keeps a b layers layer (behind e)
opens_keeps a b e flag number young found t fault layers layer opens is same sights lies size ordered past matched =
    by (opened number young found) refl opens
  where
    by : (r : Result View ArrayFault) → opened number young found ≡ r → Opens a b e flag r fault → Keeps a b layers layer (behind e)
    by (Err why) made done =
        let extents = sym done.1 in
        let arrays = sym done.0 in
        record {
          ordered = subst AreOrdered extents ordered;
          past = subst (λ xs. IsBehind xs (behind e)) extents (behind_later a.extents.items e.first (behind e) past (omega arith));
          matched =
              subst (λ xs. AreMatched (layers ++ layer ∷ []) xs b.extents.items) arrays
              (subst (λ xs. AreMatched (layers ++ layer ∷ []) a.arrays.items xs) extents (matched_layer layers layer a.arrays.items a.extents.items matched));
        }
    by (Ok v) made done =
        let truth = opened_truth number young found t v is made in
        let extents = sym done.1 in
        let arrays = sym done.0 in
        record {
          ordered = subst AreOrdered extents (ordered_more a.extents.items e ordered past);
          past = subst (λ xs. IsBehind xs (behind e)) extents (behind_more a.extents.items e past);
          matched =
              subst (λ xs. AreMatched (layers ++ layer ∷ []) xs b.extents.items) arrays
              (subst (λ xs. AreMatched (layers ++ layer ∷ []) (a.arrays.items ++ v ∷ []) xs) extents
              (matched_more layers layer a.arrays.items a.extents.items v e same
              (λ place low named. layer_names t found layer sights place low ∙ sym (ap (λ (x : Super). is_named x place) truth) ∙ named)
              lies (size ∙ ap (λ (x : Super). data_sector + x.size) (sym truth)) matched));
        }

-- ---- tables

-- what holds of all elements holds of one
pub all_at : {X : Type 0} (p : X → Bool) (xs : List X) → list_all p xs ≡ true → (k : ℕ) (x : X) → slice_get xs k ≡ Some x → p x ≡ true
all_at p [] all zero x at = cc
all_at p [] all (suc k) x at = cc
all_at p (y ∷ xs) all zero x at = let same : y ≡ x = cc in subst (λ z. p z ≡ true) same (and_parts (p y) (list_all p xs) all).0
all_at p (y ∷ xs) all (suc k) x at = all_at p xs (and_parts (p y) (list_all p xs) all).1 k x at

-- a table that is that of a place's drive has its slices before the end of the disk
pub table_fits : (s : State) (layers : List Layer) (place sectors : ℕ) (found : Option Table)
    → option_map_or (is_table_by s layers place sectors) found false ≡ true → FitsOn layers place sectors
table_fits s layers place sectors None is k layer e at member lies = absurd (both_ways false refl is)
table_fits s layers place sectors (Some table) is k layer e at member lies =
    let one = and_parts (option_map_or (bytes_eq table.disk_id.0) (id_of s place) false)
    (has_slice sectors table 1 log_kind log_extent && list_all (has_layer sectors table place) layers) is in
    let two = and_parts (has_slice sectors table 1 log_kind log_extent) (list_all (has_layer sectors table place) layers) one.1 in
    let here = all_at (has_layer sectors table place) layers two.1 k layer at in
    let slice : option_map_or (λ g. has_slice sectors table (layer.number + 2) raid_kind (extent_by g)) layer.extent false ≡ true =
    sym (ap (λ b. not b || option_map_or (λ g. has_slice sectors table (layer.number + 2) raid_kind (extent_by g)) layer.extent false) member) ∙ here in
    let there : has_slice sectors table (layer.number + 2) raid_kind (extent_by e) ≡ true =
    sym (ap (λ o. option_map_or (λ g. has_slice sectors table (layer.number + 2) raid_kind (extent_by g)) o false) lies) ∙ slice in
    ltb-true (behind e + 32) sectors
    (and_parts (has_entry table (layer.number + 2) raid_kind (extent_by e)) (nat_lt (behind e + 32) sectors) there).1

-- and its log slice as well
pub table_room : (s : State) (layers : List Layer) (place sectors : ℕ) (found : Option Table)
    → option_map_or (is_table_by s layers place sectors) found false ≡ true → arrays_first + 32 < sectors
table_room s layers place sectors None is = absurd (both_ways false refl is)
table_room s layers place sectors (Some table) is =
    let one = and_parts (option_map_or (bytes_eq table.disk_id.0) (id_of s place) false)
    (has_slice sectors table 1 log_kind log_extent && list_all (has_layer sectors table place) layers) is in
    let two = and_parts (has_slice sectors table 1 log_kind log_extent) (list_all (has_layer sectors table place) layers) one.1 in
    let last = and_parts (has_entry table 1 log_kind log_extent) (nat_lt (arrays_first + 32) sectors) two.0 in
    ltb-true (arrays_first + 32) sectors last.1

-- ---- all

pub slots_are : (sectors : ℕ → ℕ) (seats : Seats) (many : ℕ) (layers : ArraysRead)
    → ((place d : ℕ) → seats place ≡ Some d → place < 16)
    → AreKept many layers
    → ((place d : ℕ) → place < 16 → seats place ≡ Some d → FitsOn layers.all.items place (sectors d))
    → AreSlots sectors seats layers.opened.arrays.items layers.opened.extents.items
slots_are sectors seats many layers low kept fits = record {
  lengths = kept.lengths;
  ordered = kept.ordered;
  sizes = kept.matched.sizes;
  fits = λ n v e place d at_v at_e named seat.
      let inside = low place d seat in
      let says = kept.matched.members n v e place at_v at_e inside named in
      fits place d inside seat says.at says.layer e says.is says.member says.lies;
}
