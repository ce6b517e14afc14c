-- The arrays at the plan's end are a slicing that no other exceeds.
use Rattle.std.proofs.Common.{◌≡◌, ℕ, ◌-◌, ◌*◌, ◌<◌, ◌≤◌, ◌++◌, List, [], ◌∷◌, length, map, sum, sum_by, get_or, Option, Some, None, All, Bool, true, ◌&&◌, nat_le, slice_index, if◌then◌else◌, refl, sym, ap, subst, ◌∙◌, arith, ⊎_elim, append-nil}
use Rattle.std.specs.Option.{option_map_or}
use Rattle.std.proofs.lemmas.Bool.{cases_lt, le-leb, lt-leb, leb-true, and_parts, cond-true, cond-false}
use Rattle.std.proofs.lemmas.List.{get_or_default, length-map}
use Rattle.std.proofs.lemmas.List.Elements.{All-map, All-push, All-weaker}
use Rattle.std.proofs.lemmas.List.Sums.{sum_by-cons, sum_by-append}
use Rattle.layer_plan.specs.declared.Layer.{Layer}
use Rattle.layer_plan.specs.Layering.{places_reaching, array_of}
use Rattle.layer_plan.specs.Slicing.{Array, IsRedundant, IsSlicing, IsBest, height_on, load, array_capacity, slicing_capacity}
use Rattle.layer_plan.proofs.Reached.{has_range, distinct_range, inside_range}
use Rattle.layer_plan.proofs.Sums.{sum_by-map, sum_by_agree}
use Rattle.layer_plan.proofs.UpperBound.{within_bound}
use Rattle.pool_state.specs.declared.contents.Drive.{Drive}
use Rattle.pool_state.specs.declared.contents.State.{State}
use Rattle.pool_state.specs.Valid.{is_extent, has_places, is_valid}
use Rattle.growth_plan.specs.declared.ArrayNow.{ArrayNow}
use Rattle.growth_plan.specs.declared.Progress.{Progress}
use Rattle.growth_plan.specs.Book.{IsBook, Standing, standing, units_of, height_of}
use Rattle.growth_plan.specs.Target.{extents_at_end, new_layer, targets}
use Rattle.growth_plan.specs.Sound.{IsSoundBook}
use Rattle.growth_plan.proofs.Above.{greatest, greatest_is_one}
use Rattle.growth_plan.proofs.Counts.{all_standing}
use Rattle.growth_plan.proofs.Greatest.{targets_sum}
use Rattle.growth_plan.proofs.Held.{taken, held, held_most, held_all}
use Rattle.growth_plan.proofs.NewLayer.{layer_is, new_layer_is}
use Rattle.growth_plan.proofs.Sums.{agree, reaching_count, members_count}

-- an array over all drives that reach a level
abbrev reaching : List ℕ → ℕ → ℕ → Array
reaching units level height = record { members = places_reaching units level; height = height }

abbrev array_at : List ℕ → Standing → Array
array_at units x = reaching units x.top x.now.height

-- the arrays at the plan's end, and the new one
abbrev made_by : Option Layer → List Array
made_by layer = option_map_or (λ l. array_of l ∷ []) layer []

abbrev at_end : State → List ArrayNow → List Array
at_end s arrays = map (array_at (units_of s)) (standing arrays) ++ made_by (new_layer s arrays)

redundant : (units : List ℕ) (level height : ℕ) → 2 ≤ length (places_reaching units level) → IsRedundant (length units) (reaching units level height)
redundant units level height pair = record {
  distinct = distinct_range (λ place. nat_le level (slice_index units place)) 0 (length units);
  places = inside_range (λ place. nat_le level (slice_index units place)) 0 (length units) (length units) (omega arith);
  pair = pair;
}

-- what such an array takes of a drive
height_reaching : (units : List ℕ) (level height place : ℕ) → place < length units →
    height_on (reaching units level height) place ≡ (if nat_le level (slice_index units place) then height else 0)
height_reaching units level height place inside =
    ap {B = ℕ} (λ (b : Bool). if b then height else 0) (has_range (λ k. nat_le level (slice_index units k)) 0 (length units) place (omega arith) (omega arith))

load_standing : (s : State) (arrays : List ArrayNow) (place : ℕ) → place < length (units_of s) →
    load (map (array_at (units_of s)) (standing arrays)) place ≡ held (standing arrays) (slice_index (units_of s) place)
load_standing s arrays place inside =
    let units = units_of s in
    sum_by-map (λ (a : Array). height_on a place) (array_at units) (standing arrays)
    ∙ sum_by_agree (λ x. height_on (array_at units x) place) (λ x. taken (slice_index units place) x) (standing arrays)
    (λ x. height_reaching units x.top x.now.height place inside)

pairs_at_end : (s : State) (p : Progress) → IsBook s p → IsSoundBook s p →
    All (λ x. 2 ≤ length (places_reaching (units_of s) x.top)) (standing p.arrays.items)
pairs_at_end s p book sound =
    let pairs = all_standing (λ (a : ArrayNow). 2 ≤ length a.members.items) 0 0 p.arrays.items book.pairs in
    let counts = members_count s p sound in
    λ k d h. omega (arith, pairs k d h, counts k d h, reaching_count (units_of s) (get_or (standing p.arrays.items) k d).top)

ends_capacity : (s : State) (p : Progress) → IsSoundBook s p →
    slicing_capacity (map (array_at (units_of s)) (standing p.arrays.items)) ≡ sum (map (extents_at_end s) (standing p.arrays.items))
ends_capacity s p sound =
    let units = units_of s in
    let xs = standing p.arrays.items in
    let same : All (λ x. array_capacity (array_at units x) ≡ extents_at_end s x) xs =
    λ k d h. ap (λ (n : ℕ). (n - 1) * (get_or xs k d).now.height) (reaching_count units (get_or xs k d).top ∙ sym (members_count s p sound k d h)) in
    sum_by-map array_capacity (array_at units) xs
    ∙ agree (λ x. array_capacity (array_at units x)) (extents_at_end s) xs same
    ∙ sym (sum_by-map (λ (n : ℕ). n) (extents_at_end s) xs)

redundant_ends : (s : State) (p : Progress) → IsBook s p → IsSoundBook s p →
    All (IsRedundant (length (units_of s))) (map (array_at (units_of s)) (standing p.arrays.items))
redundant_ends s p book sound =
    All-map (IsRedundant (length (units_of s))) (array_at (units_of s)) (standing p.arrays.items)
    (All-weaker (λ (x : Standing). 2 ≤ length (places_reaching (units_of s) x.top)) (λ x. IsRedundant (length (units_of s)) (array_at (units_of s) x))
    (λ x pair. redundant (units_of s) x.top x.now.height pair) (standing p.arrays.items) (pairs_at_end s p book sound))

slicing_by : (s : State) (p : Progress) (layer : Option Layer) → IsBook s p → IsSoundBook s p → new_layer s p.arrays.items ≡ layer →
    IsSlicing (units_of s) (map (array_at (units_of s)) (standing p.arrays.items) ++ made_by layer)
slicing_by s p None book sound is =
    let units = units_of s in
    let xs = standing p.arrays.items in
    rw append-nil
    (record {
      redundant = redundant_ends s p book sound;
      fits = λ place inside. omega (arith, load_standing s p.arrays.items place inside, held_most (slice_index units place) 0 0 p.arrays.items);
    })
slicing_by s p (Some layer) book sound is =
    let units = units_of s in
    let high = height_of p.arrays.items in
    let ends = map (array_at units) (standing p.arrays.items) in
    let above = layer_is units high layer (new_layer_is s p.arrays.items layer is).2 in
    let array : array_of layer ≡ reaching units above.cut (above.cut - high) = ap (λ (l : Layer). array_of l) above.is in
    let pair : 2 ≤ length (places_reaching units above.cut) =
    subst (λ (l : Layer). 2 ≤ length l.members.items) above.is above.pair in
    record {
      redundant = All-push (IsRedundant (length units)) ends (array_of layer) (redundant_ends s p book sound)
          (subst (λ (a : Array). IsRedundant (length units) a) (sym array) (redundant units above.cut (above.cut - high) pair));
      fits = λ place inside.
          let own = slice_index units place in
          let whole = sum_by-append (λ (a : Array). height_on a place) ends (array_of layer ∷ []) in
          let last = sum_by-cons (λ (a : Array). height_on a place) (array_of layer) [] in
          let taken_by = ap (λ (a : Array). height_on a place) array ∙ height_reaching units above.cut (above.cut - high) place inside in
          let below = load_standing s p.arrays.items place inside in
          ⊎_elim
          (λ (short : own < above.cut).
          let none = cond-false {A = ℕ} (nat_le above.cut own) (above.cut - high) 0 (lt-leb above.cut own short) in
          omega (arith, whole, last, taken_by, none, below, held_most own 0 0 p.arrays.items))
          (λ (long : above.cut ≤ own).
          let all = cond-true {A = ℕ} (nat_le above.cut own) (above.cut - high) 0 (le-leb above.cut own long) in
          omega (arith, whole, last, taken_by, all, below, above.above, held_all own 0 0 p.arrays.items (omega (arith, above.above))))
          (cases_lt own above.cut);
    }

-- what the new array adds
added_by : (s : State) (p : Progress) (layer : Option Layer) → new_layer s p.arrays.items ≡ layer →
    slicing_capacity (made_by layer) ≡ sum_by (λ (n : ℕ). n) (option_map_or (λ l. l.extents ∷ []) layer [])
added_by s p None is = refl
added_by s p (Some layer) is =
    let above = layer_is (units_of s) (height_of p.arrays.items) layer (new_layer_is s p.arrays.items layer is).2 in
    let same = ap (λ (l : Layer). array_capacity (array_of l)) above.is ∙ sym (ap (λ (l : Layer). l.extents) above.is) in
    omega (arith, same, sum_by-cons array_capacity (array_of layer) [], sum_by-cons (λ (n : ℕ). n) layer.extents [])

capacity_by : (s : State) (p : Progress) (layer : Option Layer) → IsSoundBook s p → new_layer s p.arrays.items ≡ layer →
    slicing_capacity (map (array_at (units_of s)) (standing p.arrays.items) ++ made_by layer) ≡ sum (targets s p.arrays.items)
capacity_by s p layer sound is =
    let ends = map (array_at (units_of s)) (standing p.arrays.items) in
    let offers = map (extents_at_end s) (standing p.arrays.items) in
    let targets_are = ap (λ (o : Option Layer). sum (offers ++ option_map_or (λ l. l.extents ∷ []) o [])) is
    ∙ sum_by-append (λ (n : ℕ). n) offers (option_map_or (λ l. l.extents ∷ []) layer []) in
    let capacity = sum_by-append array_capacity ends (made_by layer) in
    let added = added_by s p layer is in
    omega (arith, targets_are, capacity, added, ends_capacity s p sound)

-- the drive of most units
spared : (units : List ℕ) → 0 < length units → (k : ℕ) × (k < length units) × (get_or units k 0 ≡ greatest units)
spared [] some = absurd (omega arith)
spared (x ∷ xs) some =
    let found = greatest_is_one x xs in
    (found.0, found.1, get_or_default (x ∷ xs) found.0 0 (greatest (x ∷ xs)) found.1 ∙ found.2)

some_drives : (s : State) → is_valid s 0 ≡ true → 0 < length (units_of s)
some_drives s valid =
    let places = (and_parts (is_extent s.extent) _ valid).1 in
    let few = (and_parts (has_places s 0) _ places).0 in
    let drives = (and_parts (nat_le 2 (length s.drives.items) && nat_le (length s.drives.items) 16) _ few).0 in
    omega (
      arith,
      leb-true 2 (length s.drives.items) (and_parts (nat_le 2 (length s.drives.items)) _ drives).0,
      length-map {A = Drive} s.drives.items (λ drive. drive.units),
    )

pub targets_best : (s : State) (p : Progress) → IsBook s p → IsSoundBook s p → IsBest (units_of s) (sum (targets s p.arrays.items))
targets_best s p book sound =
    let most = spared (units_of s) (some_drives s book.valid) in
    let whole = targets_sum s p book sound in
    record {
      arrays = map (array_at (units_of s)) (standing p.arrays.items) ++ made_by (new_layer s p.arrays.items);
      slicing = slicing_by s p (new_layer s p.arrays.items) book sound refl;
      reached = capacity_by s p (new_layer s p.arrays.items) sound refl;
      greatest = λ others slicing. omega (arith, within_bound (units_of s) others most.0 most.1 slicing, most.2, whole);
    }
