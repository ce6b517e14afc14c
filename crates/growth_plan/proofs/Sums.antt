-- The sum of what all arrays offer at the plan's end, on a book whose parts agree.
use Rattle.std.proofs.Common.{IsPermutation, ◌≡◌, ◌⊎◌, ℕ, suc, ◌+◌, ◌-◌, ◌*◌, ◌<◌, ◌≤◌, List, [], ◌∷◌, length, map, min, sum, sum_by, count_by, cond, Option, Some, None, is_some, option_to_list, All, Contains, nat_le, slice_index, if◌then◌else◌, refl, ap, ◌∙◌, arith, ⊎_elim, suc-mul}
use Rattle.std.specs.List.{range_with_len}
use Rattle.std.proofs.lemmas.Bool.{cases_lt}
use Rattle.std.proofs.lemmas.List.{length-append}
use Rattle.std.proofs.lemmas.List.Elements.{All-head, All-tail, All-weaker}
use Rattle.std.proofs.lemmas.List.Sorted.{length_permutation}
use Rattle.std.proofs.lemmas.List.Sums.{sum_by-cons, length-filter}
use Rattle.layer_plan.specs.Layering.{places_reaching}
use Rattle.layer_plan.proofs.Sums.{sum_by-map, sum_by_place}
use Rattle.pool_state.specs.declared.contents.State.{State}
use Rattle.growth_plan.specs.declared.ArrayNow.{ArrayNow}
use Rattle.growth_plan.specs.declared.Progress.{Progress}
use Rattle.growth_plan.specs.Book.{IsBook, Standing, standing_from, standing, units_of, height_of}
use Rattle.growth_plan.specs.Target.{joining, members_at_end, extents_at_end}
use Rattle.growth_plan.specs.Sound.{IsSoundBook, ends_with}
use Rattle.growth_plan.proofs.Held.{held, held_all, held_top, held_of_all}
use Rattle.growth_plan.proofs.Counts.{all_standing}

pub reaching_count : (units : List ℕ) (level : ℕ) → length (places_reaching units level) ≡ count_by (λ own. nat_le level own) units
reaching_count units level =
    length-filter (λ place. nat_le level (slice_index units place)) (range_with_len 0 (length units))
    ∙ sum_by_place (λ own. cond (nat_le level own) 1 0) units

-- sums of what agrees everywhere
pub agree : (f g : Standing → ℕ) (xs : List Standing) → All (λ x. f x ≡ g x) xs → sum_by f xs ≡ sum_by g xs
agree f g [] all = refl
agree f g (x ∷ xs) all =
    omega (arith, sum_by-cons f x xs, sum_by-cons g x xs, All-head (λ y. f y ≡ g y) x xs all, agree f g xs (All-tail (λ y. f y ≡ g y) x xs all))

agree_units : (f g : ℕ → ℕ) (P : ℕ → Type 0) (xs : List ℕ) → ((x : ℕ) → P x → f x ≡ g x) → All P xs → sum_by f xs ≡ sum_by g xs
agree_units f g P [] each all = refl
agree_units f g P (x ∷ xs) each all =
    omega (arith, sum_by-cons f x xs, sum_by-cons g x xs, each x (All-head P x xs all), agree_units f g P xs each (All-tail P x xs all))

-- one member of each goes to redundancy
less_one : (f : Standing → ℕ) (xs : List Standing) → All (λ x. 1 ≤ f x) xs →
    sum_by (λ x. (f x - 1) * x.now.height) xs + sum_by (λ x. x.now.height) xs ≡ sum_by (λ x. f x * x.now.height) xs
less_one f [] all = refl
less_one f (x ∷ xs) all =
    let rest = less_one f xs (All-tail (λ y. 1 ≤ f y) x xs all) in
    let pair : f x ≡ suc (f x - 1) = omega (arith, All-head (λ y. 1 ≤ f y) x xs all) in
    let here : f x * x.now.height ≡ (f x - 1) * x.now.height + x.now.height =
    ap (λ (n : ℕ). n * x.now.height) pair ∙ suc-mul (f x - 1) x.now.height in
    omega (arith, rest, here, sum_by-cons (λ y. (f y - 1) * y.now.height) x xs, sum_by-cons (λ y. y.now.height) x xs, sum_by-cons (λ y. f y * y.now.height) x xs)

heights : (number level : ℕ) (arrays : List ArrayNow) → sum_by (λ x. x.now.height) (standing_from number level arrays) ≡ height_of arrays
heights number level [] = refl
heights number level (a ∷ above) =
    omega (
      arith,
      heights (number + 1) (level + a.height) above,
      sum_by-cons (λ (x : ArrayNow). x.height) a above,
      sum_by-cons (λ (x : Standing). x.now.height) (record { number = number; top = level + a.height; now = a }) (standing_from (number + 1) (level + a.height) above),
    )

pub one_more : (o : Option ℕ) → length (option_to_list o) ≡ (if is_some o then 1 else 0)
one_more None = refl
one_more (Some place) = refl

pub members_count : (s : State) (p : Progress) → IsSoundBook s p →
    All (λ x. members_at_end s x ≡ count_by (λ own. nat_le x.top own) (units_of s)) (standing p.arrays.items)
members_count s p sound =
    All-weaker (λ x. IsPermutation (places_reaching (units_of s) x.top) (ends_with s x))
    (λ x. members_at_end s x ≡ count_by (λ own. nat_le x.top own) (units_of s))
    (λ x moved. omega (
      arith,
      length_permutation (places_reaching (units_of s) x.top) (ends_with s x) moved,
      reaching_count (units_of s) x.top,
      length-append x.now.members.items (option_to_list (joining s x)),
      one_more (joining s x),
    ))
    (standing p.arrays.items) sound.members

-- what all arrays offer, and their height, is what the drives have up to the highest top
pub ends_sum : (s : State) (p : Progress) → IsBook s p → IsSoundBook s p →
    sum (map (extents_at_end s) (standing p.arrays.items)) + height_of p.arrays.items ≡ sum_by (λ own. min own (height_of p.arrays.items)) (units_of s)
ends_sum s p book sound =
    let xs = standing p.arrays.items in
    let high = height_of p.arrays.items in
    let all = all_standing (λ (a : ArrayNow). 2 ≤ length a.members.items) 0 0 p.arrays.items book.pairs in
    let pairs : All (λ x. 1 ≤ members_at_end s x) xs =
    All-weaker (λ (x : Standing). 2 ≤ length x.now.members.items) (λ x. 1 ≤ members_at_end s x) (λ x h. omega arith) xs all in
    let mapped : sum (map (extents_at_end s) xs) ≡ sum_by (λ x. (members_at_end s x - 1) * x.now.height) xs = sum_by-map (λ (n : ℕ). n) (extents_at_end s) xs in
    let whole = less_one (members_at_end s) xs pairs in
    let total = heights 0 0 p.arrays.items in
    let counted : sum_by (λ x. members_at_end s x * x.now.height) xs ≡ sum_by (λ x. count_by (λ own. nat_le x.top own) (units_of s) * x.now.height) xs =
    agree (λ x. members_at_end s x * x.now.height) (λ x. count_by (λ own. nat_le x.top own) (units_of s) * x.now.height) xs
    (All-weaker (λ x. members_at_end s x ≡ count_by (λ own. nat_le x.top own) (units_of s))
    (λ x. members_at_end s x * x.now.height ≡ count_by (λ own. nat_le x.top own) (units_of s) * x.now.height)
    (λ x e. ap (λ (n : ℕ). n * x.now.height) e) xs (members_count s p sound)) in
    let swapped = held_of_all xs (units_of s) in
    let each : sum_by (λ own. held xs own) (units_of s) ≡ sum_by (λ own. min own high) (units_of s) =
    agree_units (λ own. held xs own) (λ own. min own high) (λ own. Contains (map (λ (x : Standing). x.top) xs) own ⊎ (high ≤ own)) (units_of s)
    (λ own where_it_ends. ⊎_elim
    (λ (above : high < own). omega (arith, held_all own 0 0 p.arrays.items (omega arith)))
    (λ (below : own ≤ high). ⊎_elim
    (λ (at : Contains (map (λ (x : Standing). x.top) xs) own). omega (arith, (held_top own 0 0 p.arrays.items at).1))
    (λ (over : high ≤ own). omega (arith, held_all own 0 0 p.arrays.items (omega arith)))
    where_it_ends)
    (cases_lt high own))
    sound.tops in
    omega (arith, mapped, whole, total, counted, swapped, each)
