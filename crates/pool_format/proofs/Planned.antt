-- The plan of a rack's disks is sound, and the disks have room for it.
use Rattle.std.proofs.Common.{◌≡◌, ℕ, zero, suc, ◌+◌, ◌*◌, ◌<◌, ◌≤◌, ◌^◌, ◌==◌, nat_le, not, Bool, true, false, List, [], ◌∷◌, if◌then◌else◌, drop, filter, length, map, position, remove, sum, sum_by, get_or, lt-ltb, slice_get, slice_index, Some, None, Ok, refl, sym, ap, subst, unwrap_or, ◌∙◌, inl, inr, eq-eqb, arith}
use Rattle.std.specs.List.{fold, range_with_len, position_or_len, zip}
use Rattle.std.proofs.Math.Nat.{mul-le-mul_right, mul-le-mul_left}
use Rattle.std.proofs.lemmas.Bool.{both_ways, cases_lt}
use Rattle.std.proofs.lemmas.List.Sums.{sum_by-cons}
use Rattle.std.proofs.lemmas.Option.{get_or_from_slice_get, slice_get_within}
use Rattle.rack.specs.Seen.{RackView}
use Rattle.layer_plan.specs.declared.Layer.{Layer}
use Rattle.layer_plan.specs.declared.Layers.{Layers}
use Rattle.layer_plan.specs.declared.PlanError.TheVariants.{TooFew, NoRoom}
use Rattle.layer_plan.specs.Layering.{IsLayering, array_of, is_redundant, layer_between, places_reaching}
use Rattle.layer_plan.specs.Slicing.{IsBest, array_capacity, slicing_capacity}
use Rattle.shr_base.specs.Units.{units_of}
use Rattle.pool_state.specs.Valid.{is_extent}
use Rattle.array_image.specs.Places.{arrays_first}
use Rattle.pool_format.specs.declared.planning.NewArray.{NewArray}
use Rattle.pool_format.specs.declared.planning.NewPool.{NewPool}
use Rattle.pool_format.specs.Plan.{AreLow, HasRoom, IsPlan, IsPlanOf, arrays_from, capacity_of, has, slices_before, units_on}
use Rattle.pool_format.proofs.Lists.{first_has, got, no_element}
use Rattle.pool_format.proofs.Units.{SaysPlan, all_small, extent_bounds, never_refused, unit_at, units_count, units_room}
use Rattle.pool_format.proofs.Laying.{member_inside}
use Rattle.pool_format.proofs.Layered.{AreStacked, IsPlaced, arrays_count, arrays_ordered, arrays_placed, layering_stacked, member_units, slices_most}

none_more : (p : ℕ → Bool) (y : ℕ) (ys : List ℕ) (x : ℕ) → (length ys ≤ position_or_len p ys → (k : ℕ) → slice_get ys k ≡ Some x → p x ≡ false)
    → (b : Bool) → p y ≡ b → length (y ∷ ys) ≤ (if not b then 1 + position_or_len p ys else 0) → (k : ℕ) → slice_get (y ∷ ys) k ≡ Some x → p x ≡ false
none_more p y ys x rest true here short k is = absurd (omega (arith, short))
none_more p y ys x rest false here long zero is = subst (λ z. p z ≡ false) (ap (λ o. unwrap_or o y) is) here
none_more p y ys x rest false here long (suc k) is = rest (omega (arith, long)) k is

-- where no element passes, none does
none_pass : (p : ℕ → Bool) (xs : List ℕ) → length xs ≤ position_or_len p xs → (x k : ℕ) → slice_get xs k ≡ Some x → p x ≡ false
none_pass p [] all x k is = absurd (no_element is)
none_pass p (y ∷ ys) all x k is = none_more p y ys x (λ long. none_pass p ys long x) (p y) refl all k is

-- what isn't found at all isn't there
not_found : (p : ℕ → Bool) (xs : List ℕ) → ((k : ℕ) → position p xs ≡ Some k → ⊥) → length xs ≤ position_or_len p xs
not_found p xs never = elim (cases_lt (position_or_len p xs) (length xs)) [
  | inl found ↦ absurd (never (position_or_len p xs) (ap (λ (b : Bool). if b then Some (position_or_len p xs) else None) (lt-ltb (position_or_len p xs) (length xs) found)))
  | inr past ↦ past
]

-- a sum is no less than where it begins
fold_least : (a : ℕ) (xs : List ℕ) → a ≤ fold ◌+◌ a xs
fold_least a [] = omega arith
fold_least a (x ∷ xs) = let more = fold_least (a + x) xs in omega (arith, more)

-- the other units of two drives or more have a sum
others_some : (xs : List ℕ) (i : ℕ) → 2 ≤ length xs → ((k x : ℕ) → slice_get xs k ≡ Some x → 0 < x) → 0 < sum (remove xs i)
others_some [] i two some = absurd (omega (arith, two))
others_some (x ∷ []) i two some = absurd (omega (arith, two))
others_some (x ∷ y ∷ ys) zero two some =
    let here = some 1 y refl in
    let more : 0 + y ≤ sum (remove (x ∷ y ∷ ys) zero) = fold_least (0 + y) ys in
    omega (arith, here, more)
others_some (x ∷ y ∷ ys) (suc i) two some =
    let here = some 0 x refl in
    let more : 0 + x ≤ sum (remove (x ∷ y ∷ ys) (suc i)) = fold_least (0 + x) (remove (y ∷ ys) i) in
    omega (arith, here, more)

-- ---- what the layers offer

-- a layer offers what its array does
steps_capacity : (units : List ℕ) (steps : List (ℕ × ℕ)) → sum_by (λ (l : Layer). l.extents) (filter is_redundant (map (layer_between units) steps)) ≡ slicing_capacity (map array_of (filter is_redundant (map (layer_between units) steps)))
steps_capacity units [] = refl
steps_capacity units (step ∷ steps) = of (is_redundant (layer_between units step)) (steps_capacity units steps)
  where
    of : (b : Bool) → sum_by (λ (l : Layer). l.extents) (filter is_redundant (map (layer_between units) steps)) ≡ slicing_capacity (map array_of (filter is_redundant (map (layer_between units) steps)))
        → sum_by (λ (l : Layer). l.extents) (if b then layer_between units step ∷ filter is_redundant (map (layer_between units) steps) else filter is_redundant (map (layer_between units) steps))
        ≡ slicing_capacity (map array_of (if b then layer_between units step ∷ filter is_redundant (map (layer_between units) steps) else filter is_redundant (map (layer_between units) steps)))
    of true rest =
        sum_by-cons (λ (l : Layer). l.extents) (layer_between units step) (filter is_redundant (map (layer_between units) steps))
        ∙ ap (λ n. (layer_between units step).extents + n) rest
        ∙ sym (sum_by-cons array_capacity (array_of (layer_between units step)) (map array_of (filter is_redundant (map (layer_between units) steps))))
    of false rest = rest

layering_capacity : (units : List ℕ) (layers : List Layer) → IsLayering units layers → sum_by (λ (l : Layer). l.extents) layers ≡ slicing_capacity (map array_of layers)
layering_capacity units layers layering =
    subst (λ ls. sum_by (λ (l : Layer). l.extents) ls ≡ slicing_capacity (map array_of ls)) (sym layering.between) (steps_capacity units (zip layering.cuts (drop 1 layering.cuts)))

-- and the array that it becomes
arrays_offer : (first extent : ℕ) (layers : List Layer) → sum (map (λ (a : NewArray). a.extents) (arrays_from first extent layers)) ≡ sum_by (λ (l : Layer). l.extents) layers
arrays_offer first extent [] = refl
arrays_offer first extent (layer ∷ others) =
    sum_by-cons (λ n. n) layer.extents (map (λ (a : NewArray). a.extents) (arrays_from (first + (layer.height * extent + 4096)) extent others))
    ∙ ap (λ n. layer.extents + n) (arrays_offer (first + (layer.height * extent + 4096)) extent others)
    ∙ sym (sum_by-cons (λ (l : Layer). l.extents) layer others)

module _ (x : RackView) (extent : ℕ) (is : is_extent extent ≡ true) (bounded : (d : ℕ) → d < x.disks → x.sectors d < 2 ^ 48)
    (most : x.disks ≤ 16) (units : List ℕ) (units_are : units ≡ units_on x extent) (layers : Layers)
    (says : SaysPlan units (Ok layers)) (layering : IsLayering units layers.layers.items) where
  count : length units ≡ x.disks
  count = ap (λ (xs : List ℕ). length xs) units_are ∙ units_count x extent is bounded

  small : (p : ℕ) → p < length units → slice_index units p < 2 ^ 41
  small p below = all_small x extent is bounded units units_are p 0 below

  two : 2 ≤ length units
  two = elim (cases_lt (length units) 2) [
    | inl few ↦ absurd (never_refused layers TooFew (says.too_few.1 few))
    | inr enough ↦ enough
  ]

  some_units : (k u : ℕ) → slice_get units k ≡ Some u → 0 < u
  some_units k u at = elim (cases_lt 0 u) [
    | inl some ↦ some
    | inr none ↦
        let here : (u == 0) ≡ true = eq-eqb u 0 (omega (arith, none)) in
        absurd (both_ways (u == 0)
        (none_pass (λ own. own == 0) units
        (not_found (λ own. own == 0) units
        (λ j found. never_refused layers (NoRoom j) ((says.no_room j).1 (two, omega (arith, count, most), found)))) u k at)
        here)
  ]

  stacked : AreStacked units 0 layers.layers.items
  stacked = layering_stacked units layers.layers.items layering

  -- sums of slices
  pub before_small : (n : ℕ) → n ≤ length layers.layers.items → length layers.layers.items ≤ 16 → slices_before extent n layers.layers.items < 2 ^ 62
  before_small n inside few =
      let sum_most = slices_most units extent small 0 layers.layers.items (omega arith) stacked n inside in
      let wide = mul-le-mul_left (2 ^ 41) (extent_bounds extent is).1 in
      omega (arith, sum_most, wide, inside, few)

  module _ (plan : NewPool) (extent_is : plan.extent ≡ extent) (plan_units : plan.units.items ≡ units)
      (arrays_are : plan.arrays.items ≡ arrays_from arrays_first extent layers.layers.items)
      (few : length layers.layers.items ≤ 16) (bound : layers.bound ≡ sum (remove units layers.spared))
      (tight : layers.bound ≡ layers.capacity) (capacity : layers.capacity ≡ slicing_capacity (map array_of layers.layers.items)) where
    pub planned_of : IsBest units layers.capacity → IsPlanOf (units_on x extent) extent plan
    planned_of best = record {
      extent_is = extent_is;
      units_are = plan_units ∙ units_are;
      layers = layers.layers.items;
      layering = subst (λ us. IsLayering us layers.layers.items) units_are layering;
      arrays_are = arrays_are;
      best =
          subst (λ us. IsBest us (capacity_of plan)) units_are
          (subst (IsBest units)
          (capacity ∙ sym (layering_capacity units layers.layers.items layering) ∙ sym (arrays_offer arrays_first extent layers.layers.items) ∙ ap (λ (xs : List NewArray). sum (map (λ (a : NewArray). a.extents) xs)) (sym arrays_are)) best);
    }

    arrays_many : length plan.arrays.items ≡ length layers.layers.items
    arrays_many = ap (λ (xs : List NewArray). length xs) arrays_are ∙ arrays_count arrays_first extent layers.layers.items

    some_layers : 0 < length layers.layers.items
    some_layers = of layers.layers.items capacity
      where
        of : (ls : List Layer) → layers.capacity ≡ slicing_capacity (map array_of ls) → 0 < length ls
        of [] none = let rest = others_some units layers.spared two some_units in absurd (omega (arith, rest, none, bound, tight))
        of (l ∷ ls) is = omega arith

    place_of : (n : ℕ) (a : NewArray) → slice_get plan.arrays.items n ≡ Some a → IsPlaced units extent small arrays_first 0 n a
    place_of n a at = arrays_placed units extent small arrays_first 0 layers.layers.items stacked n a (subst (λ xs. slice_get xs n ≡ Some a) arrays_are at)

    unit_room : (d : ℕ) → d < x.disks → slice_index units d * extent + 77824 ≤ x.sectors d
    unit_room d below =
        let value : slice_index units d ≡ units_of (x.sectors d) extent = ap (λ (xs : List ℕ). get_or xs d 0) units_are ∙ unit_at x extent is bounded d 0 below in
        let one = got units d (omega (arith, count, below)) in
        let some = some_units d one.0 one.1 in
        let own : slice_index units d ≡ one.0 = get_or_from_slice_get units d one.0 0 one.1 in
        subst (λ n. n * extent + 77824 ≤ x.sectors d) (sym value) (units_room (x.sectors d) extent (omega (arith, some, own, value)))

    array_small : (n : ℕ) (a : NewArray) → slice_get plan.arrays.items n ≡ Some a → a.size < 2 ^ 48
    array_small n a at =
        let placed = place_of n a at in
        let member = first_has (places_reaching units placed.up) (let least = subst (λ xs. 2 ≤ length xs) placed.members placed.least in omega (arith, least)) in
        let own = member_units units placed.up member.0 member.1 in
        let below : member.0 < x.disks = let low = own.0 in omega (arith, low, count) in
        let room = unit_room member.0 below in
        let wide = mul-le-mul_right extent own.1 in
        let before = placed.before in
        let size = placed.size in
        let number = slice_get_within plan.arrays.items n a at in
        let disk = bounded member.0 below in
        omega (arith, room, wide, before, size, number, arrays_many, few, disk)

    pub planned_sound : IsPlan plan
    planned_sound = record {
      extent = subst (λ e. is_extent e ≡ true) (sym extent_is) is;
      least = subst (λ us. 2 ≤ length us) (sym plan_units) two;
      most = subst (λ us. length us ≤ 16) (sym plan_units) (omega (arith, count, most));
      units = λ k u at.
          let own = subst (λ us. slice_get us k ≡ Some u) plan_units at in
          let low = small k (slice_get_within units k u own) in
          (some_units k u own, subst (λ n. n < 2 ^ 41) (get_or_from_slice_get units k u 0 own) low);
      some = omega (arith, arrays_many, some_layers);
      few = omega (arith, arrays_many, few);
      each = λ n a at.
          let placed = place_of n a at in
          record {
            reaches = λ place. nat_le placed.up (slice_index units place);
            members_are = placed.members ∙ ap (λ us. filter (λ place. nat_le placed.up (slice_index units place)) (range_with_len 0 (length us))) (sym plan_units);
            least = placed.least;
            height = placed.height;
            some = placed.some;
            low = let low = placed.low in let level = placed.level in omega (arith, low, level);
            size_is = placed.size ∙ ap (λ e. placed.height * e + 2048) (sym extent_is);
            extents_are = placed.extents;
            first = placed.after;
            small = array_small n a at;
          };
      ordered = λ k n a b less one two.
          arrays_ordered arrays_first extent layers.layers.items k n a b less (subst (λ xs. slice_get xs k ≡ Some a) arrays_are one)
          (subst (λ xs. slice_get xs n ≡ Some b) arrays_are two);
    }

    pub planned_room : HasRoom plan x
    planned_room = record {
      disks = let own = ap (λ (xs : List ℕ). length xs) plan_units in omega (arith, own, count);
      small = bounded;
      logs = λ d below. let room = unit_room d below in omega (arith, room);
      members = λ n d a at among.
          let placed = place_of n a at in
          let own = member_units units placed.up d (subst (λ xs. has xs d ≡ true) placed.members among) in
          let room = unit_room d (let low = own.0 in omega (arith, low, count)) in
          let wide = mul-le-mul_right extent own.1 in
          let before = placed.before in
          let size = placed.size in
          let number = slice_get_within plan.arrays.items n a at in
          omega (arith, room, wide, before, size, number, arrays_many, few);
    }

-- no slice of a plan that disks have room for ends past them
pub plan_low : (plan : NewPool) (x : RackView) → IsPlan plan → HasRoom plan x → AreLow plan.arrays.items
plan_low plan x is room k d below =
    let one = got plan.arrays.items k below in
    let array = is.each k one.0 one.1 in
    let member = first_has one.0.members.items (let least = array.least in omega (arith, least)) in
    let in_it = member_inside plan x is room k member.0 one.0 one.1 member.1 in
    let fits = in_it.fits in
    let small = in_it.small in
    subst (λ (a : NewArray). a.first + (a.size + 2048) < 2 ^ 62) (sym (get_or_from_slice_get plan.arrays.items k one.0 d one.1)) (omega (arith, fits, small))
