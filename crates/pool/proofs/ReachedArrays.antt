-- A drive that reaches the arrays of its place.
use Rattle.std.specs.Prelude.{fold}
use Rattle.std.specs.List.{list_all, range_with_len}
use Rattle.std.specs.Option.{option_map_or}
use Rattle.std.proofs.Common.{◌≡◌, ℕ, zero, suc, ◌+◌, ◌-◌, ◌/◌, ◌<◌, ◌&&◌, ◌||◌, not, nat_le, nat_lt, Bool, true, false, is_some, length, map, slice_get, take, Some, refl, sym, ap, ap₂, ◌∙◌, arith, lt-ltb}
use Rattle.std.proofs.lemmas.Bool.{and_from, and_parts, both_ways}
use Rattle.std.proofs.lemmas.List.FromFn.{get_or-map-range_with_len, length-map-range_with_len}
use Rattle.std.proofs.lemmas.Option.{slice_get-get_or, slice_get_within}
use Rattle.rack.specs.Seen.{RackView}
use Rattle.array_core.specs.Seats.{seat_of}
use Rattle.array_model.specs.View.{View as ArrayView}
use Rattle.growth_laws.specs.NewDrives.{height, reaches, top}
use Rattle.growth_plan.specs.Book.{height_of}
use Rattle.growth_plan.specs.declared.ArrayNow.{ArrayNow}
use Rattle.raid_laws.specs.Book.{OnlyMarksSince}
use Rattle.raid_laws.specs.Moves.{KeepsArrays}
use Rattle.raid_laws.specs.NewDrive.{first_in, reaches_all, slice_length}
use Rattle.raid_laws.specs.Raid.{Raid}
use Rattle.raid_rack.proofs.Renewing.{seat_same}
use Rattle.raid_rack.specs.declared.arrays.Arrays.{Arrays}
use Rattle.raid_rack.specs.RaidRack.{IsRunning, no_array, raid_by}
use Rattle.shr_base.specs.Units.{units_of}
use Rattle.pool.specs.Moment.{views_of}
use Rattle.pool.specs.Replacing.{has_layer, has_layers, reaches_own}
use Rattle.pool.specs.Works.{array_now, arrays_now}
use Rattle.pool.proofs.Admitted.{all_below, reaches_each}
use Rattle.pool.proofs.Readying.{reached_all}

-- sums of the first of two lists that go by the same numbers
sums_same : {X Y : Type 0} (p : X → ℕ) (q : Y → ℕ) (f : ℕ → X) (g : ℕ → Y) (total a n k : ℕ) → ((i : ℕ) → i < a + n → p (f i) ≡ q (g i))
    → fold (λ t x. t + p x) total (take k (map f (range_with_len a n))) ≡ fold (λ t y. t + q y) total (take k (map g (range_with_len a n)))
sums_same p q f g total a n zero same = refl
sums_same p q f g total a zero (suc k) same = refl
sums_same p q f g total a (suc n) (suc k) same =
    sums_same p q f g (total + p (f a)) (a + 1) n k (λ i low. same i (omega (arith, low)))
    ∙ ap (λ h. fold (λ t y. t + q y) (total + h) (take k (map g (range_with_len (a + 1) n)))) (same a (omega arith))

-- the top of an array, by how the arrays stand
top_is : (v : Raid) (k : ℕ) → top v.state.extent (views_of v) k ≡ height_of (take k (arrays_now v))
top_is v k =
    sums_same (height v.state.extent) (λ (a : ArrayNow). a.height) v.arrays (λ n. array_now v.state.extent (v.arrays n)) 0 0 v.state.made k (λ i low. refl)

-- what taking a drive in by a plan to grow asks for
pub member_reaches : (v : Raid) (place sectors : ℕ) → reaches_own v place sectors ≡ true → (n : ℕ) (u : ArrayView) → slice_get (views_of v) n ≡ Some u
    → is_some (seat_of u place) ≡ true → reaches v.state.extent (views_of v) (units_of sectors v.state.extent) sectors n ≡ true
member_reaches v place sectors is n u at member =
    let units = units_of sectors v.state.extent in
    let both = and_parts (reaches_all (views_of v) place sectors) (has_layers v place units) is in
    let many = length-map-range_with_len v.arrays 0 v.state.made in
    let low = slice_get_within (views_of v) n u at in
    let inside : n < v.state.made = omega (arith, low, many) in
    let zero_more : 0 + n ≡ n = omega arith in
    let here : Some u ≡ Some (v.arrays n) =
    sym at ∙ slice_get-get_or (views_of v) n no_array low ∙ ap Some (get_or-map-range_with_len v.arrays 0 v.state.made n n no_array inside zero_more) in
    let own : is_some (seat_of (v.arrays n) place) ≡ true = sym (ap (λ o. option_map_or (λ (w : ArrayView). is_some (seat_of w place)) o false) here) ∙ member in
    let joined = (reaches_each (views_of v) place sectors both.0).1 n u at member in
    let slice = (and_parts (is_some (seat_of u place)) (nat_le (first_in (views_of v) n + slice_length u + 33) sectors)
    (sym (ap (λ o. option_map_or (λ (w : ArrayView). is_some (seat_of w place) && nat_le (first_in (views_of v) n + slice_length w + 33) sectors) o false) at) ∙ joined)).1 in
    let layer = has_own (is_some (seat_of (v.arrays n) place)) (nat_le (height_of (take (n + 1) (arrays_now v))) units) own (all_below (has_layer v place units) v.state.made n both.1 inside) in
    and_from (nat_lt n (length (views_of v))) _ (lt-ltb n (length (views_of v)) low)
    (and_from (nat_le (top v.state.extent (views_of v) (n + 1)) units) _ (ap (λ h. nat_le h units) (top_is v (n + 1)) ∙ layer)
    (ap (λ o. nat_le (first_in (views_of v) n + option_map_or slice_length o 0 + 33) sectors) at ∙ slice))
  where
    has_own : (a b : Bool) → a ≡ true → (not a || b) ≡ true → b ≡ true
    has_own true b own is = is
    has_own false b own is = absurd (both_ways false refl own)

all_same : (f g : ℕ → Bool) (a n : ℕ) → ((i : ℕ) → i < a + n → f i ≡ g i) → list_all f (range_with_len a n) ≡ list_all g (range_with_len a n)
all_same f g a zero same = refl
all_same f g a (suc n) same = ap₂ (λ b c. b && c) (same a (omega arith)) (all_same f g (a + 1) n (λ i low. same i (omega (arith, low))))

-- losses leave it so
module _ (r q : Arrays) (x y : RackView) (before : IsRunning r x) (after : IsRunning q y) (marks : OnlyMarksSince r.state q.state) (keeps : KeepsArrays (raid_by r) (raid_by q)) (place : ℕ) where
  heights_same : (k : ℕ) → height_of (take k (arrays_now (raid_by q))) ≡ height_of (take k (arrays_now (raid_by r)))
  heights_same k =
      ap (λ n. height_of (take k (map (λ i. array_now q.state.extent ((raid_by q).arrays i)) (range_with_len 0 n)))) marks.same.made
      ∙ sums_same (λ (a : ArrayNow). a.height) (λ (a : ArrayNow). a.height) (λ n. array_now q.state.extent ((raid_by q).arrays n)) (λ n. array_now r.state.extent ((raid_by r).arrays n))
      0 0 r.state.made k
      (λ i low. ap₂ (λ size extent. (size - 2048) / extent) (keeps i (omega (arith, low))).same.geometry.size marks.same.extent)

  layer_same : (units n : ℕ) → n < r.state.made → has_layer (raid_by q) place units n ≡ has_layer (raid_by r) place units n
  layer_same units n low =
      ap₂ (λ a h. not a || nat_le h units)
      (seat_same ((raid_by r).arrays n) ((raid_by q).arrays n) (before.set.arrays n low).is_array (after.set.arrays n (let made = marks.same.made in omega (arith, low, made))).is_array
      (keeps n low) place)
      (heights_same (n + 1))

  pub still_reached : (sectors : ℕ) → reaches_own (raid_by r) place sectors ≡ true → reaches_own (raid_by q) place sectors ≡ true
  still_reached sectors is =
      let units = units_of sectors r.state.extent in
      ap₂ (λ a b. a && b) (reached_all r q x y before after marks keeps place sectors)
      (ap (λ e. has_layers (raid_by q) place (units_of sectors e)) marks.same.extent
      ∙ ap (λ n. list_all (has_layer (raid_by q) place units) (range_with_len 0 n)) marks.same.made
      ∙ all_same (has_layer (raid_by q) place units) (has_layer (raid_by r) place units) 0 r.state.made (λ i low. layer_same units i (omega (arith, low))))
      ∙ is
