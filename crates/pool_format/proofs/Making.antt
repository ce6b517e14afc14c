-- The volume of a new pool fits its arrays.
use Rattle.std.proofs.Common.{◌≡◌, ℕ, zero, suc, ◌+◌, ◌-◌, ◌*◌, ◌<◌, ◌≤◌, ◌^◌, List, [], ◌∷◌, map, length, slice_get, slice_index, Some, option_map, unwrap_or, refl, sym, ap, subst, ◌∙◌, arith}
use Rattle.std.specs.List.{AllByRecursion}
use Rattle.std.specs.Option.{option_map_or}
use Rattle.std.proofs.Math.Nat.{mul-add, mul-le-mul_right, mul_assoc}
use Rattle.std.proofs.lemmas.List.{length-map}
use Rattle.std.proofs.lemmas.Option.{get_or_from_slice_get, slice_get_within}
use Rattle.rack.specs.Seen.{RackView}
use Rattle.array_model.specs.View.{View, IsArray, sectors_of}
use Rattle.lvm_group.specs.Growth.{AreBelow}
use Rattle.lvm_group.specs.Own.{HoldAll}
use Rattle.lvm_group.specs.Runs.{data_start}
use Rattle.lvm_group.specs.Shown.{total}
use Rattle.raid_rack.specs.RaidRack.{no_array}
use Rattle.pool_format.specs.declared.Birth.{Birth}
use Rattle.pool_format.specs.declared.planning.NewArray.{NewArray}
use Rattle.pool_format.specs.declared.planning.NewPool.{NewPool}
use Rattle.pool_format.specs.Arrays.{new_view, new_views}
use Rattle.pool_format.specs.Plan.{HasRoom, IsPlan}
use Rattle.pool_format.specs.Volume.{sectors_in}
use Rattle.pool_format.specs.Data.{extents_of, sizes_of}
use Rattle.pool_format.proofs.Founded.{new_sectors, view_at}
use Rattle.pool_format.proofs.Opening.{members_few}
use Rattle.array_core.proofs.Rules.{get_map}
use Rattle.pool_format.proofs.Laying.{member_inside}
use Rattle.pool_format.proofs.Lists.{first_has, got}

-- ---- sizes

all_mapped : {X : Type 0} (P : ℕ → Type 0) (f : X → ℕ) (xs : List X) → ((n : ℕ) (x : X) → slice_get xs n ≡ Some x → P (f x)) → AllByRecursion P (map f xs)
all_mapped P f [] each = tt
all_mapped P f (x ∷ xs) each = (each 0 x refl, all_mapped P f xs (λ n y at. each (suc n) y at))

module _ (plan : NewPool) (is : IsPlan plan) where
  -- an array has the data of all its members but one
  pub size_listed : (n : ℕ) (a : NewArray) → slice_get plan.arrays.items n ≡ Some a → slice_index (sizes_of plan) n ≡ (length a.members.items - 1) * a.size
  size_listed n a at =
      let f : NewArray → ℕ = λ b. (length b.members.items - 1) * b.size in
      get_or_from_slice_get (sizes_of plan) n (f a) 0 (get_map f plan.arrays.items n ∙ ap (option_map f) at)

  pub sizes_small : (n : ℕ) → n < length plan.arrays.items → slice_index (sizes_of plan) n < 2 ^ 52
  sizes_small n low =
      let one = got plan.arrays.items n low in
      let a : NewArray = one.0 in
      let few = members_few a plan.extent (length plan.units.items) (is.each n a one.1) is.most in
      let less : length a.members.items - 1 ≤ 15 = omega (arith, few) in
      let most = mul-le-mul_right a.size less in
      let small = (is.each n a one.1).small in
      let size = size_listed n a one.1 in
      omega (arith, most, small, size)

  pub extents_hold : HoldAll plan.extent (slice_index (sizes_of plan)) 0 (extents_of plan)
  extents_hold place number at =
      let within = slice_get_within (extents_of plan) place number at in
      let many = length-map plan.arrays.items (λ a. a.extents) in
      let one = got plan.arrays.items place (omega (arith, within, many)) in
      let a : NewArray = one.0 in
      let own : a.extents ≡ number =
      ap (λ o. unwrap_or o 0) (sym (ap (option_map (λ (b : NewArray). b.extents)) one.1) ∙ sym (get_map (λ (b : NewArray). b.extents) plan.arrays.items place) ∙ at) in
      let array = is.each place a one.1 in
      let k : ℕ = length a.members.items - 1 in
      let least : 1 ≤ k = let two = array.least in omega (arith, two) in
      let size = array.size_is in
      let extents = array.extents_are in
      let all_data : number * plan.extent ≡ k * (array.height * plan.extent) = ap (λ e. e * plan.extent) (sym own ∙ extents) ∙ mul_assoc k array.height plan.extent in
      let whole : k * a.size ≡ k * (array.height * plan.extent) + k * 2048 = ap (λ m. k * m) size ∙ mul-add k (array.height * plan.extent) 2048 in
      let sectors = size_listed place a one.1 in
      let zero_place : 0 + place ≡ place = omega arith in
      subst (λ j. data_start + number * plan.extent ≤ slice_index (sizes_of plan) j) (sym zero_place) (omega (arith, least, all_data, whole, sectors))

  extents_low : (n : ℕ) (a : NewArray) → slice_get plan.arrays.items n ≡ Some a → a.extents < 2 ^ 45
  extents_low n a at =
      let array = is.each n a at in
      let few = members_few a plan.extent (length plan.units.items) array is.most in
      let low : length a.members.items - 1 ≤ 15 = omega (arith, few) in
      let most = mul-le-mul_right array.height low in
      let extents = array.extents_are in
      let height = array.low in
      omega (arith, most, extents, height)

  pub extents_below : AreBelow (extents_of plan)
  extents_below = all_mapped (λ number. number < 2 ^ 45) (λ (a : NewArray). a.extents) plan.arrays.items extents_low

module _ (plan : NewPool) (birth : Birth) (x : RackView) (is : IsPlan plan) (room : HasRoom plan x) (are : (n : ℕ) (v : View) → slice_get (new_views birth 0 plan.arrays.items) n ≡ Some v → IsArray v) where
  abbrev size_of : ℕ → ℕ
  size_of n = sectors_in (new_views birth 0 plan.arrays.items) n

  -- an array has the data of all its members but one
  size_is : (n : ℕ) (a : NewArray) → slice_get plan.arrays.items n ≡ Some a → size_of n ≡ (length a.members.items - 1) * a.size
  size_is n a at =
      let here = view_at birth 0 plan.arrays.items n a at in
      let number : 0 + n ≡ n = omega arith in
      let there : slice_get (new_views birth 0 plan.arrays.items) n ≡ Some (new_view birth a n) = here ∙ ap (λ k. Some (new_view birth a k)) number in
      ap sectors_of (get_or_from_slice_get (new_views birth 0 plan.arrays.items) n (new_view birth a n) no_array there)
      ∙ new_sectors plan birth is n a at (are n (new_view birth a n) there)

  -- it is that of the group
  pub sizes_are : (n : ℕ) → n < length plan.arrays.items → size_of n ≡ slice_index (sizes_of plan) n
  sizes_are n low =
      let one = got plan.arrays.items n low in
      size_is n one.0 one.1 ∙ sym (size_listed plan is n one.0 one.1)

  -- where the slices of the first arrays end
  end_of : ℕ → ℕ
  end_of zero = 0
  end_of (suc k) = option_map_or (λ (a : NewArray). a.first + (a.size + 2048)) (slice_get plan.arrays.items k) 0

  end_before : (k : ℕ) (a : NewArray) → slice_get plan.arrays.items k ≡ Some a → end_of k ≤ a.first
  unfolding end_of
  end_before zero a at = omega arith
  end_before (suc k) a at =
      let low = slice_get_within plan.arrays.items (suc k) a at in
      let one = got plan.arrays.items k (omega (arith, low)) in
      let order = is.ordered k (suc k) one.0 a (omega arith) one.1 at in
      let here : end_of (suc k) ≡ one.0.first + (one.0.size + 2048) = ap (λ o. option_map_or (λ (b : NewArray). b.first + (b.size + 2048)) o 0) one.1 in
      omega (arith, order, here)

  total_most : (k : ℕ) → k ≤ length plan.arrays.items → total size_of k ≤ 15 * end_of k
  unfolding end_of
  total_most zero low = omega arith
  total_most (suc k) low =
      let one = got plan.arrays.items k (omega (arith, low)) in
      let a : NewArray = one.0 in
      let before = total_most k (omega (arith, low)) in
      let begins = end_before k a one.1 in
      let sectors = size_is k a one.1 in
      let few = members_few a plan.extent (length plan.units.items) (is.each k a one.1) is.most in
      let less : length a.members.items - 1 ≤ 15 = omega (arith, few) in
      let most = mul-le-mul_right a.size less in
      let here : end_of (suc k) ≡ a.first + (a.size + 2048) = ap (λ o. option_map_or (λ (b : NewArray). b.first + (b.size + 2048)) o 0) one.1 in
      omega (arith, before, begins, sectors, most, here)

  pub total_small : total size_of (length plan.arrays.items) < 2 ^ 52
  unfolding end_of
  total_small = of (length plan.arrays.items) refl (total_most (length plan.arrays.items) (omega arith))
    where
      of : (m : ℕ) → length plan.arrays.items ≡ m → total size_of m ≤ 15 * end_of m → total size_of m < 2 ^ 52
      of zero none most = omega arith
      of (suc k) many most =
          let one = got plan.arrays.items k (omega (arith, many)) in
          let member = first_has one.0.members.items (let least = (is.each k one.0 one.1).least in omega (arith, least)) in
          let in_it = member_inside plan x is room k member.0 one.0 one.1 member.1 in
          let fits = in_it.fits in
          let small = in_it.small in
          let here : end_of (suc k) ≡ one.0.first + (one.0.size + 2048) = ap (λ o. option_map_or (λ (b : NewArray). b.first + (b.size + 2048)) o 0) one.1 in
          omega (arith, most, fits, small, here)
