-- What holds of each array, from its fields.
use Rattle.std.proofs.Common.{◌≡◌, ◌⊎◌, ℕ, zero, suc, ◌+◌, ◌-◌, ◌%◌, ◌<◌, ◌≤◌, Bool, true, false, ◌==◌, ◌&&◌, ◌||◌, not, nat_lt, if◌then◌else◌, List, [], ◌∷◌, get_or, map, length, filter, count_by, slice_get, position, Option, Some, None, IfSome, IfNone, option_map, unwrap_or, refl, sym, ap, subst, ◌∙◌, inl, inr, eqb-true, ltb-true, lt-ltb, arith}
use Rattle.std.proofs.lemmas.Bool.{both_ways, and_parts, cases_lt}
use Rattle.std.proofs.lemmas.List.Sums.{length-filter}
use Rattle.std.specs.Option.{option_map_or}
use Rattle.std.specs.List.{range_with_len, list_all, position_or_len}
use Rattle.md_super.specs.declared.superblock.Super.{Super}
use Rattle.md_super.specs.Profile.{is_raid5, is_mirror}
use Rattle.array_image.specs.Supers.{is_reshaping, has_roles, has_role, named_places, new_row}
use Rattle.array_image.specs.Arrays.{place_with}
use Rattle.array_image.proofs.Losing.{length_map}
use Rattle.array_model.specs.View.{View, IsArray, shape_of, sectors_of, member_on}
use Rattle.array_image.specs.Stripes.{Layout, mirror, parity, width, position_in, sector_in}
use Rattle.array_image.specs.Arrays.{layout_at}
use Rattle.array_image.specs.Held.{source_in, first_counting, member_at}
use Rattle.array_model.specs.Members.{members_of}
use Rattle.array_model.proofs.Noting.{layout_is, low_position}
use Rattle.array_model.proofs.Layouts.{layout_by, final_by, reshaping_parity, sector_inside}
use Rattle.array_model.proofs.Firsts.{firsts, take_firsts, parity_source}
use Rattle.array_core.specs.declared.members.Spread.{Spread}
use Rattle.array_core.specs.declared.members.Spread.TheVariants.{Mirror, Parity}
use Rattle.array_core.specs.declared.members.Stand.{Stand}
use Rattle.array_core.specs.declared.slots.Slot.{Slot}
use Rattle.array_core.specs.declared.Array.TheInside.{Inside}
use Rattle.array_core.specs.Slots.{place_by}
use Rattle.array_core.specs.Stands.{IsSlot, IsStand, layout_of}
use Rattle.array_core.specs.Model.{IsMade, view_of}
use Rattle.array_core.proofs.Truths.{Truth, truth_facts}

length_range : (a n : ℕ) → length (range_with_len a n) ≡ n
length_range a zero = refl
length_range a (suc n) = ap suc (length_range (a + 1) n)

pub slot_count : (a : Inside) → IsMade a → length a.slots.items ≡ a.truth.raid_disks
slot_count a made =
    sym (length_map (λ (s : Slot). s.place) a.slots.items)
    ∙ ap length made.slots
    ∙ length_map (place_by a.truth) (range_with_len 0 a.truth.raid_disks)
    ∙ length_range 0 a.truth.raid_disks

pub get_map : {X Y : Type 0} (f : X → Y) (xs : List X) (k : ℕ) → slice_get (map f xs) k ≡ option_map f (slice_get xs k)
get_map f [] k = refl
get_map f (x ∷ xs) zero = refl
get_map f (x ∷ xs) (suc k) = get_map f xs k

pub get_range : (a n k : ℕ) → k < n → slice_get (range_with_len a n) k ≡ Some (a + k)
get_range a zero k low = absurd (omega (arith, low))
get_range a (suc n) zero low = ap Some (omega arith)
get_range a (suc n) (suc k) low = get_range (a + 1) n k (omega (arith, low)) ∙ ap Some (omega arith)

-- what stands at an index
pub slot_read : (items : List Slot) (k : ℕ) (d : Slot) → k < length items → slice_get items k ≡ Some (get_or items k d)
slot_read [] k d low = absurd (omega (arith, low))
slot_read (x ∷ xs) zero d low = refl
slot_read (x ∷ xs) (suc k) d low = slot_read xs k d (omega (arith, low))

-- ---- its positions have places

some_pass : (p q : ℕ → Bool) (xs : List ℕ) → length (filter p xs) ≡ 1 → list_all q xs ≡ true → (x : ℕ) × (p x ≡ true) × (q x ≡ true)
some_pass p q [] one all = absurd (omega (arith, one))
some_pass p q (x ∷ xs) one all =
    let parts = and_parts (q x) (list_all q xs) all in
    let Goal : Bool → Type 0 = λ b. p x ≡ b → length (if b then x ∷ filter p xs else filter p xs) ≡ 1 → (y : ℕ) × (p y ≡ true) × (q y ≡ true) in
    let goal : Goal (p x) = elim (p x) as Goal [
      | true ↦ λ is now. (x, is, parts.0)
      | false ↦ λ is now. some_pass p q xs now parts.1
    ] in
    goal refl one

all_range : (q : ℕ → Bool) (a k n : ℕ) → list_all q (range_with_len a k) ≡ true → a ≤ n → n < a + k → q n ≡ true
all_range q a zero n all least most = absurd (omega (arith, least, most))
all_range q a (suc k) n all least most =
    let parts = and_parts (q a) (list_all q (range_with_len (a + 1) k)) all in
    elim (same_or a n least) [
      | inl same ↦ subst (λ m. q m ≡ true) same parts.0
      | inr more ↦ all_range q (a + 1) k n parts.1 (omega (arith, more)) (omega (arith, most))
    ]
  where
    same_or : (a n : ℕ) → a ≤ n → (a ≡ n) ⊎ (a < n)
    same_or a n least = elim (cases_lt a n) [ inl less ↦ inr less | inr more ↦ inl (omega (arith, more, least)) ]

-- the first that passes comes no later than one that does
first_early : (p : ℕ → Bool) (xs : List ℕ) (k : ℕ) → option_map_or p (slice_get xs k) false ≡ true → (position_or_len p xs ≤ k) × (position_or_len p xs < length xs)
first_early p [] k passes = absurd (both_ways false refl passes)
first_early p (x ∷ xs) zero passes =
    let Goal : Bool → Type 0 = λ b. b ≡ true → ((if not b then 1 + position_or_len p xs else 0) ≤ 0) × ((if not b then 1 + position_or_len p xs else 0) < suc (length xs)) in
    let goal : Goal (p x) = elim (p x) as Goal [ true ↦ λ is. (omega arith, omega arith) | false ↦ λ is. absurd (both_ways false refl is) ] in
    goal passes
first_early p (x ∷ xs) (suc k) passes =
    let rest = first_early p xs k passes in
    let Goal : Bool → Type 0 = λ b. ((if not b then 1 + position_or_len p xs else 0) ≤ suc k) × ((if not b then 1 + position_or_len p xs else 0) < suc (length xs)) in
    let goal : Goal (p x) = elim (p x) as Goal [ true ↦ (omega arith, omega arith) | false ↦ (omega (arith, rest.0), omega (arith, rest.1)) ] in
    goal

pub placed : (t : Super) (n : ℕ) → has_roles 16 t ≡ true → n < t.raid_disks → (place : ℕ) × (place_with t.roles.items n ≡ Some place) × (place < 16)
placed t n roles low =
    let parts = and_parts (length (named_places t) == t.raid_disks) _ roles in
    let rest = and_parts (list_all (λ place. nat_lt place 16) (named_places t)) _ parts.1 in
    let one = eqb-true (count_by (has_role t n) (named_places t)) 1 (all_range (λ m. count_by (has_role t m) (named_places t) == 1) 0 t.raid_disks n rest.1 (omega arith) (omega (arith, low))) in
    let found = some_pass (has_role t n) (λ place. nat_lt place 16) (named_places t) (length-filter (has_role t n) (named_places t) ∙ one) rest.0 in
    let test : ℕ → Bool = λ role. role == n in
    let early = first_early test t.roles.items found.0 found.1 in
    let few : found.0 < 16 = ltb-true found.0 16 found.2 in (
      position_or_len test t.roles.items,
      ap (λ (b : Bool). if b then Some (position_or_len test t.roles.items) else None) (lt-ltb _ _ early.1),
      omega (arith, early.0, few),
    )

pub zero_more : (k : ℕ) → 0 + k ≡ k
zero_more k = omega arith

pub slot_is : (a : Inside) (k : ℕ) (s : Slot) → IsMade a → k < a.truth.raid_disks → slice_get a.slots.items k ≡ Some s → IsSlot (view_of a) k s
slot_is a k s made low is =
    let at : Some s.place ≡ Some (place_by a.truth k) =
    sym (get_map (λ (t : Slot). t.place) a.slots.items k ∙ ap (option_map (λ (t : Slot). t.place)) is)
    ∙ ap (λ ps. slice_get ps k) made.slots
    ∙ get_map (place_by a.truth) (range_with_len 0 a.truth.raid_disks) k
    ∙ ap (option_map (place_by a.truth)) (get_range 0 a.truth.raid_disks k low)
    ∙ ap (λ j. Some (place_by a.truth j)) (zero_more k) in
    record {
      place = ap (λ o. unwrap_or o 16) at;
      few =
          let there = placed a.truth k (truth_facts a.truth made.truth).positions low in
          let place : s.place ≡ there.0 = ap (λ o. unwrap_or o 16) at ∙ ap (λ o. unwrap_or o 16) there.1 in
          subst (λ (p : ℕ). p < 16) (sym place) there.2;
      seat = get_map (λ (t : Slot). t.seat) a.slots.items k ∙ ap (option_map (λ (t : Slot). t.seat)) is;
      device = get_map (λ (t : Slot). t.device) a.slots.items k ∙ ap (option_map (λ (t : Slot). t.device)) is;
    }

-- ---- all of it

reshape_of : (t : Super) → Truth t → is_reshaping t ≡ true → (is_raid5 t ≡ true) × (3 ≤ t.raid_disks) × (t.reshape_position % new_row t ≡ 0)
reshape_of t facts is =
    let Goal : Bool → Type 0 = λ b. b ≡ true → (not b || (is_raid5 t && (nat_lt 2 t.raid_disks && (t.reshape_position % new_row t == 0)))) ≡ true
    → (is_raid5 t ≡ true) × (3 ≤ t.raid_disks) × (t.reshape_position % new_row t ≡ 0) in
    let goal : Goal (is_reshaping t) = elim (is_reshaping t) as Goal [
      | false ↦ λ now row. absurd (both_ways false refl now)
      | true ↦ λ now row.
          let parts = and_parts (is_raid5 t) _ row in
          let rest = and_parts (nat_lt 2 t.raid_disks) _ parts.1 in
          let three = ltb-true 2 t.raid_disks rest.0 in
          (parts.0, omega (arith, three), eqb-true _ 0 rest.1)
    ] in
    goal is facts.row

pub rules_of : (a : Inside) → IsMade a → IsArray (view_of a)
rules_of a made =
    let facts = truth_facts a.truth made.truth in
    let count = slot_count a made in
    record {
      few = made.few;
      level = facts.level;
      least = facts.least;
      most = facts.most;
      seats = length_map (λ (s : Slot). s.seat) a.slots.items ∙ count;
      devices = length_map (λ (s : Slot). s.device) a.slots.items ∙ count;
      small = facts.small;
      whole_rows = facts.whole_rows;
      placed = λ n low. placed a.truth n facts.positions low;
      synced = made.synced;
      reshape = reshape_of a.truth facts;
    }

-- ---- rows

pub spread_moved : (a : Inside) (v : View) (x : ℕ) → view_of a ≡ v → IsMade a → is_reshaping a.truth ≡ true → nat_lt x a.truth.reshape_position ≡ true
    → parity a.truth.raid_disks ≡ layout_at (shape_of v) x
spread_moved a v x is made reshaping moved =
    subst (λ (w : View). parity a.truth.raid_disks ≡ layout_at (shape_of w) x) is
    (sym (layout_by (view_of a) x true true reshaping moved ∙ reshaping_parity (view_of a) (rules_of a made) reshaping))

pub spread_kept : (a : Inside) (v : View) (x : ℕ) → view_of a ≡ v → IsMade a → is_reshaping a.truth ≡ true → nat_lt x a.truth.reshape_position ≡ false
    → parity (a.truth.raid_disks - 1) ≡ layout_at (shape_of v) x
spread_kept a v x is made reshaping moved =
    subst (λ (w : View). parity (a.truth.raid_disks - 1) ≡ layout_at (shape_of w) x) is (sym (layout_by (view_of a) x true false reshaping moved))

pub spread_mirror : (a : Inside) (v : View) (x : ℕ) → view_of a ≡ v → is_reshaping a.truth ≡ false → is_mirror a.truth ≡ true
    → mirror a.truth.raid_disks ≡ layout_at (shape_of v) x
spread_mirror a v x is reshaping mirrors =
    subst (λ (w : View). mirror a.truth.raid_disks ≡ layout_at (shape_of w) x) is
    (sym (layout_by (view_of a) x false (nat_lt x a.truth.reshape_position) reshaping refl ∙ final_by (view_of a) true mirrors))

pub spread_parity : (a : Inside) (v : View) (x : ℕ) → view_of a ≡ v → is_reshaping a.truth ≡ false → is_mirror a.truth ≡ false
    → parity a.truth.raid_disks ≡ layout_at (shape_of v) x
spread_parity a v x is reshaping mirrors =
    subst (λ (w : View). parity a.truth.raid_disks ≡ layout_at (shape_of w) x) is
    (sym (layout_by (view_of a) x false (nat_lt x a.truth.reshape_position) reshaping refl ∙ final_by (view_of a) false mirrors))

pub stand_is : (v : View) (x : ℕ) (at : Stand) → IsArray v → x < sectors_of v → layout_of at.spread ≡ layout_at (shape_of v) x
    → at.position ≡ position_in (layout_at (shape_of v) x) x → at.sector ≡ sector_in (layout_at (shape_of v) x) x → IsStand v at
stand_is v x at is_array low spread position sector =
    let layout = layout_is v x is_array in
    let most = layout.most in
    let at_low = low_position v.truth.raid_disks (layout_at (shape_of v) x) x layout in
    record {
      members = subst (λ (l : Layout). width l ≤ v.truth.raid_disks) (sym spread) most;
      position = subst (λ (l : Layout). at.position < width l) (sym spread) (subst (λ p. p < width (layout_at (shape_of v) x)) (sym position) at_low);
      sector = subst (λ s. s < v.truth.size) (sym sector) (sector_inside v x is_array low);
    }

-- ---- whose sector it is

at_mirror : (v : View) (at : Stand) (n : ℕ) → IsStand v at → at.spread ≡ Mirror n
    → source_in (layout_of at.spread) at.sector at.position (members_of v) ≡ first_counting at.sector (firsts v n)
at_mirror v at n stand is =
    let most : n ≤ v.truth.raid_disks = subst (λ (s : Spread). width (layout_of s) ≤ v.truth.raid_disks) is stand.members in
    ap (λ (s : Spread). source_in (layout_of s) at.sector at.position (members_of v)) is
    ∙ ap (first_counting at.sector) (take_firsts v n v.truth.raid_disks most)

pub source_mirror : (v : View) (at : Stand) (n : ℕ) → IsStand v at → at.spread ≡ Mirror n → (o : Option ℕ)
    → IfSome o (λ k. (k < n) × (first_counting at.sector (firsts v n) ≡ Some (member_on v k)))
    → IfSome o (λ k. (k < v.truth.raid_disks) × (source_in (layout_of at.spread) at.sector at.position (members_of v) ≡ Some (member_on v k)))
source_mirror v at n stand is None found = found
source_mirror v at n stand is (Some k) found =
    let most : n ≤ v.truth.raid_disks = subst (λ (s : Spread). width (layout_of s) ≤ v.truth.raid_disks) is stand.members in
    let low = found.0 in
    (omega (arith, low, most), at_mirror v at n stand is ∙ found.1)

pub source_mirror_none : (v : View) (at : Stand) (n : ℕ) → IsStand v at → at.spread ≡ Mirror n → (o : Option ℕ)
    → IfNone o (first_counting at.sector (firsts v n) ≡ None)
    → IfNone o (source_in (layout_of at.spread) at.sector at.position (members_of v) ≡ None)
source_mirror_none v at n stand is None found = at_mirror v at n stand is ∙ found
source_mirror_none v at n stand is (Some k) found = found

pub source_parity : (v : View) (at : Stand) (n : ℕ) (b : Bool) → IsStand v at → at.spread ≡ Parity n → nat_lt at.sector (member_on v at.position).reach ≡ b
    → source_in (layout_of at.spread) at.sector at.position (members_of v) ≡ (if b then Some (member_on v at.position) else None)
source_parity v at n b stand is counts =
    let most : n ≤ v.truth.raid_disks = subst (λ (s : Spread). width (layout_of s) ≤ v.truth.raid_disks) is stand.members in
    let low : at.position < n = subst (λ (s : Spread). at.position < width (layout_of s)) is stand.position in
    ap (λ (s : Spread). source_in (layout_of s) at.sector at.position (members_of v)) is
    ∙ ap (member_at at.sector at.position) (take_firsts v n v.truth.raid_disks most)
    ∙ parity_source v at.sector at.position n b low counts
