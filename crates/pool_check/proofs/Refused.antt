-- The refusals of arrays, as the superblocks that were read say them.
use Rattle.std.proofs.Common.{◌≡◌, ℕ, zero, suc, ◌+◌, ◌<◌, ◌≤◌, ◌^◌, Bool, true, false, ◌&&◌, ◌||◌, not, nat_lt, nat_le, bytes_eq, is_ok, if◌then◌else◌, List, [], ◌∷◌, map, filter, find, length, slice_get, Option, Some, None, option_map, unwrap_or, inl, inr, refl, sym, ap, ap₂, subst, ◌∙◌, lt-ltb, arith}
use Rattle.std.specs.Prelude.{count_by}
use Rattle.std.specs.Option.{option_and_then, option_map_or, option_or}
use Rattle.std.specs.List.{list_all, range_with_len}
use Rattle.std.proofs.lemmas.Bool.{and_parts, both_ways, cases_lt, leb-true, ltb-true}
use Rattle.std.proofs.lemmas.List.Sums.{length-filter}
use Rattle.md_super.specs.declared.superblock.Super.{Super}
use Rattle.md_super.specs.Profile.{has_disks, is_mirror, profiled, rules}
use Rattle.gpt_table.specs.declared.Table.{Table}
use Rattle.array_image.specs.Places.{data_sector}
use Rattle.array_image.specs.States.{is_current, id_of}
use Rattle.array_image.specs.Supers.{is_named, is_rebuilding, is_unclean, super_in}
use Rattle.array_image.specs.Arrays.{Member, member_by, member_in, place_with, shape_by}
use Rattle.array_core.specs.declared.ArrayFault.{ArrayFault}
use Rattle.array_core.specs.declared.ArrayFault.TheVariants.{Foreign, TooFew, DirtyDegraded}
use Rattle.array_core.proofs.Opened.{current_below, current_is, named_place, super_passes, truth_leads}
use Rattle.array_core.proofs.Truths.{rule_holds}
use Rattle.pool_image.specs.Replay.{Extent as ImageExtent}
use Rattle.pool_image.specs.Drives.{Found, end_of, extent_of, first_of, slices_of, truth_from}
use Rattle.pool_image.specs.Meaning.{Refusal, arrays_of, dirty_degraded, has_entry, has_slice, has_slice_of, has_table, in_table, is_dirty_degraded, is_member, is_table, is_too_few, kind_of, lacking_of, too_few, truth_of}
use Rattle.pool_image.proofs.Truths.{extent_found, truth_found}
use Rattle.pool_check.specs.declared.Layer.{Layer}
use Rattle.pool_check.specs.Drives.{HasFewPlaces}
use Rattle.pool_check.specs.Refusing.{damage_by, damage_later, damage_with, refused_arrays}
use Rattle.pool_check.specs.Layers.{AreRead, fault_by, fault_of}
use Rattle.pool_check.specs.Checking.{first_number, is_dirty, is_few, refused_by_layers}
use Rattle.pool_check.proofs.Begins.{AreSmall, unknown_by, unseated_none}
use Rattle.pool_check.proofs.Layered.{known_super}
use Rattle.pool_check.proofs.Parts.{find_layers}

-- ---- where the slices of an array with a truth lie

some_differs : {X Y : Type 0} (x : X) → None ≡ Some x → Y
some_differs x is = cc

record HasBegin (f : Found) (array : ℕ) (t : Super) : Type 0 where
  first : ℕ
  begins : first_of f array ≡ Some first
  is : truth_from f array first ≡ Some t

truth_begins : (f : Found) (array : ℕ) (t : Super) → array < 16 → truth_of f array ≡ Some t → HasBegin f array t
truth_begins f array t low is = of_first (first_of f array) refl
  where
    unknown : ((first : ℕ) → first_of f array ≡ Some first → truth_from f array first ≡ None) → HasBegin f array t
    unknown none = some_differs t (sym (unknown_by f array low none).truth ∙ is)

    same : (first : ℕ) (u : Super) → first_of f array ≡ Some first → truth_from f array first ≡ Some u → u ≡ t
    same first u begins at = let both : Some u ≡ Some t = sym (truth_found f array first u low begins at) ∙ is in cc

    of_truth : (first : ℕ) → first_of f array ≡ Some first → (o : Option Super) → truth_from f array first ≡ o → HasBegin f array t
    of_truth first begins None at =
        unknown (λ other there. subst (λ n. truth_from f array n ≡ None) (let both : Some first ≡ Some other = sym begins ∙ there in cc) at)
    of_truth first begins (Some u) at = record { first = first; begins = begins; is = at ∙ ap Some (same first u begins at) }

    of_first : (o : Option ℕ) → first_of f array ≡ o → HasBegin f array t
    of_first None at = unknown (λ first there. some_differs first (sym at ∙ there))
    of_first (Some first) at = of_truth first at (truth_from f array first) refl

-- ---- an array whose members are longer than every disk has too few, where no drive is damaged

-- how many of a list pass, by its first one
count_cons : {X : Type 0} (p : X → Bool) (x : X) (xs : List X) → count_by p (x ∷ xs) ≡ (if p x then 1 + count_by p xs else count_by p xs)
count_cons p x xs = sym (length-filter p (x ∷ xs)) ∙ by (p x)
  where
    by : (b : Bool) → length (if b then x ∷ filter p xs else filter p xs) ≡ (if b then 1 + count_by p xs else count_by p xs)
    by true = (let same = length-filter p xs in omega (arith, same))
    by false = length-filter p xs

count_all : {X : Type 0} (p : X → Bool) (g : ℕ → X) (a n : ℕ) → ((k : ℕ) → a ≤ k → k < a + n → p (g k) ≡ true) → count_by p (map g (range_with_len a n)) ≡ n
count_all p g a zero pass = refl
count_all p g a (suc n) pass =
    count_cons p (g a) (map g (range_with_len (a + 1) n))
    ∙ ap (λ (b : Bool). if b then 1 + count_by p (map g (range_with_len (a + 1) n)) else count_by p (map g (range_with_len (a + 1) n)))
    (pass a (omega arith) (omega arith))
    ∙ ap (λ m. 1 + m) (count_all p g (a + 1) n (λ k least most. pass k (omega (arith, least)) (omega (arith, most))))
    ∙ (let same : 1 + n ≡ suc n = omega arith in same)

list_all_at : (p : ℕ → Bool) (a n k : ℕ) → list_all p (range_with_len a n) ≡ true → a ≤ k → k < a + n → p k ≡ true
list_all_at p a zero k all least most = absurd (omega (arith, least, most))
list_all_at p a (suc n) k all least most =
    let parts = and_parts (p a) (list_all p (range_with_len (a + 1) n)) all in
    elim (cases_lt a k) [
      | inl later ↦ list_all_at p (a + 1) n k parts.1 (omega (arith, later)) (omega (arith, most))
      | inr here ↦ (let same : a ≡ k = omega (arith, least, here) in subst (λ m. p m ≡ true) same parts.0)
    ]

module _ (well : ℕ → Bool) (f : Found) (few : HasFewPlaces f.state f.seats) (small : AreSmall f)
    (sound : (p : ℕ) → p < 16 → damage_with well f p ≡ None) where
  has_table_at : (place d : ℕ) → place < 16 → f.seats place ≡ Some d → has_table f place d ≡ true
  has_table_at place d inside seat =
      by (has_table f place d) refl
    where
      none : damage_by well f place d ≡ None
      none = sym (ap (option_and_then (damage_by well f place)) seat) ∙ sound place inside

      by : (b : Bool) → has_table f place d ≡ b → b ≡ true
      by true is = refl
      by false is = some_differs in_table (sym none ∙ ap (λ (b : Bool). if not b then Some in_table else damage_later well f place d) is)

  -- a seated member's slice lies before the end of its disk
  pub member_fits : (array place d : ℕ) (e : ImageExtent) → array < f.state.made → place < 16 → f.seats place ≡ Some d
      → is_member f array place ≡ true → extent_of f (suc array) ≡ Some e → end_of e + 32 < f.disks.sectors d
  member_fits array place d e made inside seat member lies =
      of_table (f.identities d).table (has_table_at place d inside seat)
    where
      of_table : (o : Option Table) → option_map_or (is_table f place (f.disks.sectors d)) o false ≡ true → end_of e + 32 < f.disks.sectors d
      of_table None has = absurd (both_ways false refl has)
      of_table (Some table) has =
          let sectors = f.disks.sectors d in
          let one = and_parts (option_map_or (bytes_eq table.disk_id.0) (id_of f.state place) false) (has_slice_of f sectors table 0 && list_all (λ n. not (is_member f n place) || has_slice_of f sectors table (n + 1)) (arrays_of f)) has in
          let two = and_parts (has_slice_of f sectors table 0) (list_all (λ n. not (is_member f n place) || has_slice_of f sectors table (n + 1)) (arrays_of f)) one.1 in
          let here = list_all_at (λ n. not (is_member f n place) || has_slice_of f sectors table (n + 1)) 0 f.state.made array two.1 (omega arith) (omega (arith, made)) in
          let has_it : has_slice_of f sectors table (array + 1) ≡ true = sym (ap (λ b. not b || has_slice_of f sectors table (array + 1)) member) ∙ here in
          let next : array + 1 ≡ suc array = omega arith in
          let of_extent : has_slice sectors table (array + 1 + 1) (kind_of (array + 1)) e ≡ true =
          sym (ap (λ o. option_map_or (has_slice sectors table (array + 1 + 1) (kind_of (array + 1))) o false) (ap (extent_of f) next ∙ lies)) ∙ has_it in
          ltb-true (end_of e + 32) sectors (and_parts (has_entry table (array + 1 + 1) (kind_of (array + 1)) e) (nat_lt (end_of e + 32) sectors) of_extent).1

  module _ (array : ℕ) (t : Super) (low : array < 16) (made : array < f.state.made) (is : truth_of f array ≡ Some t) (far : 2 ^ 48 ≤ t.size) where
    -- no place that the truth names has a disk
    no_seat : (place d : ℕ) → is_named t place ≡ true → is_current f.state place ≡ true → f.seats place ≡ Some d → ⊥
    no_seat place d named current seat =
        let begin = truth_begins f array t low is in
        let listed = current_below f.state place current in
        let most = few.few in
        let inside : place < 16 = omega (arith, listed, most) in
        let lies = extent_found f array begin.first t begin.begins begin.is in
        let fits =
        member_fits array place d (record { first = begin.first; sectors = data_sector + t.size }) made inside seat
        (ap (λ (o : Option Super). option_map_or (λ u. is_named u place) o false) is ∙ named) lies in
        let less = small place d seat in
        omega (arith, fits, less, far)

    unseated : (place : ℕ) → is_named t place ≡ true → is_current f.state place ≡ true → f.seats place ≡ None
    unseated place named current = by (f.seats place) refl
      where
        by : (o : Option ℕ) → f.seats place ≡ o → o ≡ None
        by None seat = refl
        by (Some d) seat = absurd (no_seat place d named current seat)

    -- so none of its members is whole
    none_whole : (k : ℕ) → k < 16 → not (member_in f.state (slices_of f) array t k).is_whole ≡ true
    none_whole k below = of_place (place_with t.roles.items k) refl
      where
        begin : HasBegin f array t
        begin = truth_begins f array t low is

        fails : (place : ℕ) → (is_current f.state place ≡ true → super_in f.state (slices_of f) array place ≡ None)
            → not (is_current f.state place && option_map_or (λ u. not (is_rebuilding u)) (super_in f.state (slices_of f) array place) false) ≡ true
        fails place none = by (is_current f.state place) refl
          where
            by : (b : Bool) → is_current f.state place ≡ b
                → not (b && option_map_or (λ u. not (is_rebuilding u)) (super_in f.state (slices_of f) array place) false) ≡ true
            by false at = refl
            by true at = ap (λ (o : Option Super). not (option_map_or (λ u. not (is_rebuilding u)) o false)) (none at)

        named_none : (place : ℕ) → is_named t place ≡ true → is_current f.state place ≡ true → super_in f.state (slices_of f) array place ≡ None
        named_none place named current =
            known_super f array begin.first t low begin.begins begin.is place
            ∙ unseated_none f array begin.first place low (unseated place named current)

        of_place : (o : Option ℕ) → place_with t.roles.items k ≡ o → not (member_by t.size (unwrap_or o 16) (is_current f.state (unwrap_or o 16)) (super_in f.state (slices_of f) array (unwrap_or o 16))).is_whole ≡ true
        of_place None at = fails 16 (λ current. let listed = current_below f.state 16 current in let most = few.few in absurd (omega (arith, listed, most)))
        of_place (Some place) at = fails place (named_none place (named_place t k place below at))

    -- and it has two at least
    disks : (2 ≤ t.raid_disks) × (t.raid_disks ≤ 16)
    disks =
        let leads = truth_leads f.state (slices_of f) array t is in
        let own = current_is f.state (slices_of f) array leads.at t leads.here in
        let passes = super_passes f.state (slices_of f) array leads.at t own.1 in
        let profile = (and_parts (is_ok (profiled t f.state.extent)) _ passes).0 in
        let rule : has_disks t ≡ true = rule_holds 4 (rules t f.state.extent) profile in
        let parts = and_parts (nat_le 2 t.raid_disks) (nat_le t.raid_disks (if is_mirror t then 2 else 16)) rule in
        (leb-true 2 t.raid_disks parts.0, at_most (is_mirror t) (leb-true t.raid_disks (if is_mirror t then 2 else 16) parts.1))
      where
        at_most : (b : Bool) → t.raid_disks ≤ (if b then 2 else 16) → t.raid_disks ≤ 16
        at_most true most = omega (arith, most)
        at_most false most = most

    pub far_lacks : nat_lt 1 (lacking_of (shape_by f.state (slices_of f) array t)) ≡ true
    unfolding shape_by
    far_lacks =
        let many = count_all (λ (m : Member). not m.is_whole) (member_in f.state (slices_of f) array t) 0 t.raid_disks
        (λ k least most. none_whole k (let few = disks.1 in omega (arith, most, few))) in
        lt-ltb 1 (count_by (λ (m : Member). not m.is_whole) (map (member_in f.state (slices_of f) array t) (range_with_len 0 t.raid_disks)))
        (let least = disks.0 in omega (arith, many, least))

  -- an array that can't be opened for its members has too few of them
  pub few_is : (array : ℕ) → array < 16 → array < f.state.made → is_few (fault_of f array) ≡ is_too_few f array
  few_is array low made = of_truth (truth_of f array) refl
    where
      by : (far short dirty : Bool) → (far ≡ true → short ≡ true)
          → is_few (if far || short then Some TooFew else if dirty then Some DirtyDegraded else None) ≡ short
      by true short dirty both = sym (both refl)
      by false true dirty both = refl
      by false false true both = refl
      by false false false both = refl

      of_truth : (o : Option Super) → truth_of f array ≡ o
          → is_few (option_map_or (fault_by f array) o (Some Foreign)) ≡ option_map_or (λ shape. nat_lt 1 (lacking_of shape)) (option_map (shape_by f.state (slices_of f) array) o) true
      of_truth None at = refl
      of_truth (Some t) at =
          by (nat_le (2 ^ 48) t.size) (nat_lt 1 (lacking_of (shape_by f.state (slices_of f) array t)))
          (nat_lt 0 (lacking_of (shape_by f.state (slices_of f) array t)) && (nat_lt array f.state.joined && is_unclean t))
          (λ far. far_lacks array t low made at (leb-true (2 ^ 48) t.size far))

-- and where it has enough, it is dirty and degraded
pub dirty_is : (f : Found) (array : ℕ) → is_few (fault_of f array) ≡ false → is_dirty (fault_of f array) ≡ is_dirty_degraded f array
dirty_is f array = of_truth (truth_of f array)
  where
    swap : (a b c : Bool) → (a && (b && c)) ≡ (b && (a && c))
    swap true b c = refl
    swap false true c = refl
    swap false false c = refl

    by : (few dirty : Bool) → is_few (if few then Some TooFew else if dirty then Some DirtyDegraded else None) ≡ false
        → is_dirty (if few then Some TooFew else if dirty then Some DirtyDegraded else None) ≡ dirty
    by true dirty enough = absurd (both_ways true enough refl)
    by false true enough = refl
    by false false enough = refl

    false_and : (b : Bool) → (b && false) ≡ false
    false_and true = refl
    false_and false = refl

    of_truth : (o : Option Super) → is_few (option_map_or (fault_by f array) o (Some Foreign)) ≡ false
        → is_dirty (option_map_or (fault_by f array) o (Some Foreign))
        ≡ (nat_lt array f.state.joined && (option_map_or (λ shape. nat_lt 0 (lacking_of shape)) (option_map (shape_by f.state (slices_of f) array) o) false && option_map_or is_unclean o false))
    of_truth None enough = absurd (both_ways true enough refl)
    of_truth (Some t) enough =
        let lacks = lacking_of (shape_by f.state (slices_of f) array t) in
        by (nat_le (2 ^ 48) t.size || nat_lt 1 lacks) (nat_lt 0 lacks && (nat_lt array f.state.joined && is_unclean t)) enough
        ∙ swap (nat_lt 0 lacks) (nat_lt array f.state.joined) (is_unclean t)

-- ---- all arrays

got_below : {X : Type 0} (xs : List X) (k : ℕ) (x : X) → slice_get xs k ≡ Some x → k < length xs
got_below [] zero x at = cc
got_below [] (suc k) x at = cc
got_below (y ∷ xs) zero x at = omega arith
got_below (y ∷ xs) (suc k) x at = let rest = got_below xs k x at in omega (arith, rest)

find_none_at : {X : Type 0} (p : X → Bool) (xs : List X) → find p xs ≡ None → (k : ℕ) (x : X) → slice_get xs k ≡ Some x → p x ≡ false
find_none_at p [] none k x at = in_empty k at
  where
    in_empty : (k : ℕ) → slice_get [] k ≡ Some x → p x ≡ false
    in_empty zero at = cc
    in_empty (suc k) at = cc
find_none_at {X = X} p (y ∷ xs) none k x at = by (λ rest n got. find_none_at p xs rest n x got) (p y) refl none
  where
    here : (find p xs ≡ None → (n : ℕ) → slice_get xs n ≡ Some x → p x ≡ false) → p y ≡ false → find p xs ≡ None
        → (n : ℕ) → slice_get (y ∷ xs) n ≡ Some x → p x ≡ false
    here rest fails none zero got = let same : y ≡ x = cc in subst (λ z. p z ≡ false) same fails
    here rest fails none (suc n) got = rest none n got

    by : (find p xs ≡ None → (n : ℕ) → slice_get xs n ≡ Some x → p x ≡ false) → (b : Bool) → p y ≡ b
        → (if b then Some y else find p xs) ≡ None → p x ≡ false
    by rest true passes none = cc
    by rest false fails none = here rest fails none k at

-- where the layers give no refusal, each array can be opened
pub faultless : (layers : List Layer) → refused_by_layers layers ≡ None → (k : ℕ) (layer : Layer) → slice_get layers k ≡ Some layer → layer.fault ≡ None
faultless layers none k layer at =
    let few = find_none_at (λ (l : Layer). is_few l.fault) layers (first_none (find (λ (l : Layer). is_few l.fault) layers) (find (λ (l : Layer). is_dirty l.fault) layers) none).0 k layer at in
    let dirty = find_none_at (λ (l : Layer). is_dirty l.fault) layers (first_none (find (λ (l : Layer). is_few l.fault) layers) (find (λ (l : Layer). is_dirty l.fault) layers) none).1 k layer at in
    no_fault layer.fault few dirty
  where
    first_none : (a b : Option Layer)
        → option_or (option_map too_few (option_map (λ (l : Layer). l.number) a)) (option_map dirty_degraded (option_map (λ (l : Layer). l.number) b)) ≡ None
        → (a ≡ None) × (b ≡ None)
    first_none None None none = (refl, refl)
    first_none None (Some l) none = cc
    first_none (Some l) b none = cc

    no_fault : (o : Option ArrayFault) → is_few o ≡ false → is_dirty o ≡ false → o ≡ None
    no_fault None few dirty = refl
    no_fault (Some Foreign) few dirty = absurd (both_ways true few refl)
    no_fault (Some TooFew) few dirty = absurd (both_ways true few refl)
    no_fault (Some DirtyDegraded) few dirty = absurd (both_ways true dirty refl)

-- what the layers refuse is what the arrays do
pub layers_refuse : (well : ℕ → Bool) (f : Found) (layers : List Layer) → HasFewPlaces f.state f.seats → AreSmall f → f.state.made ≤ 16
    → ((p : ℕ) → p < 16 → damage_with well f p ≡ None) → AreRead f layers
    → refused_by_layers layers ≡ refused_arrays None f
layers_refuse well f layers few small sixteen sound are = by (find (λ (l : Layer). is_few l.fault) layers) refl
  where
    low : (k : ℕ) (layer : Layer) → slice_get layers k ≡ Some layer → k < f.state.made
    low k layer at = (let below = got_below layers k layer at in let count = are.count in omega (arith, below, count))

    few_at : (k : ℕ) (layer : Layer) → slice_get layers k ≡ Some layer → is_few layer.fault ≡ is_too_few f k
    few_at k layer at =
        let made = low k layer at in
        ap is_few (are.each k layer at).fault ∙ few_is well f few small sound k (omega (arith, made, sixteen)) made

    few_same : first_number is_few layers ≡ find (is_too_few f) (arrays_of f)
    few_same =
        find_layers (λ (l : Layer). is_few l.fault) (is_too_few f) layers 0
        (λ k layer at. let same : k ≡ 0 + k = omega arith in (few_at k layer at ∙ ap (is_too_few f) same, (are.each k layer at).number ∙ same))
        ∙ ap (λ n. find (is_too_few f) (range_with_len 0 n)) are.count

    dirty_same : find (λ (l : Layer). is_few l.fault) layers ≡ None → first_number is_dirty layers ≡ find (is_dirty_degraded f) (arrays_of f)
    dirty_same none =
        find_layers (λ (l : Layer). is_dirty l.fault) (is_dirty_degraded f) layers 0
        (λ k layer at. let same : k ≡ 0 + k = omega arith in (
          ap is_dirty (are.each k layer at).fault
              ∙ dirty_is f k (sym (ap is_few (are.each k layer at).fault) ∙ find_none_at (λ (l : Layer). is_few l.fault) layers none k layer at)
              ∙ ap (is_dirty_degraded f) same,
          (are.each k layer at).number ∙ same,
        ))
        ∙ ap (λ n. find (is_dirty_degraded f) (range_with_len 0 n)) are.count

    or_none : (o : Option Refusal) → option_or o None ≡ o
    or_none None = refl
    or_none (Some r) = refl

    by : (o : Option Layer) → find (λ (l : Layer). is_few l.fault) layers ≡ o → refused_by_layers layers ≡ refused_arrays None f
    by None none =
        ap₂ (λ a b. option_or (option_map too_few a) (option_map dirty_degraded b)) few_same (dirty_same none)
        ∙ ap (option_or (option_map too_few (find (is_too_few f) (arrays_of f)))) (sym (or_none (option_map dirty_degraded (find (is_dirty_degraded f) (arrays_of f)))))
    by (Some layer) at =
        first layer.number (sym (ap (option_map (λ (l : Layer). l.number)) at) ∙ few_same) at
      where
        first : (n : ℕ) → Some n ≡ find (is_too_few f) (arrays_of f) → find (λ (l : Layer). is_few l.fault) layers ≡ Some layer → refused_by_layers layers ≡ refused_arrays None f
        first n few at =
            ap (λ a. option_or (option_map too_few (option_map (λ (l : Layer). l.number) a)) (option_map dirty_degraded (first_number is_dirty layers))) at
            ∙ sym (ap (λ a. option_or (option_map too_few a) (option_or (option_map dirty_degraded (find (is_dirty_degraded f) (arrays_of f))) None))
            (sym few_same ∙ ap (option_map (λ (l : Layer). l.number)) at))
