-- The slices of a pool begin where its arrays' sizes say.
use Rattle.std.proofs.Common.{◌≡◌, ℕ, zero, suc, ◌+◌, ◌<◌, ◌≤◌, List, [], ◌∷◌, map, sum_by, take, slice_get, Option, Some, None, option_map, refl, sym, ap, ◌∙◌, arith}
use Rattle.std.specs.List.{range_with_len}
use Rattle.std.specs.Option.{option_and_then}
use Rattle.std.proofs.lemmas.List.Sums.{sum_by-cons}
use Rattle.std.proofs.lemmas.Option.{none-some}
use Rattle.md_super.specs.declared.superblock.Super.{Super}
use Rattle.array_image.specs.Places.{data_sector}
use Rattle.array_core.proofs.Stripped.{some_same}
use Rattle.array_model.specs.View.{HasGeometry, View}
use Rattle.pool_image.specs.Drives.{Found, end_of, extent_from, first_of}
use Rattle.pool_image.specs.Meaning.{truth_of}
use Rattle.raid_laws.specs.NewDrive.{first_in, slice_length}
use Rattle.raid_laws.specs.Raid.{Raid}
use Rattle.pool_model.specs.Taken.{views_of}
use Rattle.pool_model.proofs.Layers.{IsLaid, laid}

get_range : {X : Type 0} (g : ℕ → X) (a m n : ℕ) → n < m → slice_get (map g (range_with_len a m)) n ≡ Some (g (a + n))
get_range g a zero n low = absurd (omega (arith, low))
get_range g a (suc m) zero low = ap (λ k. Some (g k)) (let e : a ≡ a + 0 = omega arith in e)
get_range g a (suc m) (suc n) low = get_range g (a + 1) m n (omega (arith, low)) ∙ ap (λ k. Some (g k)) (let e : a + 1 + n ≡ a + suc n = omega arith in e)

past_range : {X : Type 0} (g : ℕ → X) (a m n : ℕ) → m ≤ n → slice_get (map g (range_with_len a m)) n ≡ None
past_range g a zero n past = refl
past_range g a (suc m) zero past = absurd (omega (arith, past))
past_range g a (suc m) (suc n) past = past_range g (a + 1) m n (omega (arith, past))

pub view_at : (v : Raid) (n : ℕ) → n < v.state.made → slice_get (views_of v) n ≡ Some (v.arrays n)
view_at v n low = get_range v.arrays 0 v.state.made n low ∙ ap (λ k. Some (v.arrays k)) (let e : 0 + n ≡ n = omega arith in e)

pub no_view : (v : Raid) (n : ℕ) → v.state.made ≤ n → slice_get (views_of v) n ≡ None
no_view v n past = past_range v.arrays 0 v.state.made n past

pub take_sum : (xs : List View) (n : ℕ) (u : View) → slice_get xs n ≡ Some u → sum_by slice_length (take (suc n) xs) ≡ sum_by slice_length (take n xs) + slice_length u
take_sum [] n u is = absurd (none-some u is)
take_sum (x ∷ xs) zero u is =
    let first : sum_by slice_length (x ∷ []) ≡ slice_length x + 0 = sum_by-cons slice_length x [] in
    let same : slice_length x ≡ slice_length u = ap slice_length (some_same x u is) in
    omega (arith, first, same)
take_sum (x ∷ xs) (suc n) u is =
    let rest = take_sum xs n u is in
    let one = sum_by-cons slice_length x (take (suc n) xs) in
    let two = sum_by-cons slice_length x (take n xs) in
    omega (arith, rest, one, two)

-- where the arrays of a book have the sizes of the pool's
module _ (f : Found) (v : Raid) (few : f.state.made ≤ 16) (made : v.state.made ≡ f.state.made)
    (has : (n : ℕ) → n < f.state.made → (u : Super) × (truth_of f n ≡ Some u))
    (geometry : (n : ℕ) (u : Super) → n < f.state.made → truth_of f n ≡ Some u → HasGeometry u (v.arrays n).truth) where
  pub size_is : (n : ℕ) (low : n < f.state.made) → (v.arrays n).truth.size ≡ (has n low).0.size
  size_is n low = (geometry n (has n low).0 low (has n low).1).size

  pub first_is : (n : ℕ) → n ≤ f.state.made → first_of f n ≡ Some (first_in (views_of v) n)
  unfolding first_of
  first_is zero low = refl
  first_is (suc n) low =
      let less : n < f.state.made = omega (arith, low) in
      let lie : IsLaid f n (has n less).0 = laid f n (has n less).0 (omega (arith, less, few)) (has n less).1 in
      let begins : lie.first ≡ first_in (views_of v) n = some_same lie.first (first_in (views_of v) n) (sym lie.begins ∙ first_is n (omega (arith, less))) in
      let sum = take_sum (views_of v) n (v.arrays n) (view_at v n (omega (arith, less, made))) in
      let size = size_is n less in
      ap (option_and_then (λ first. option_map end_of (extent_from f n first))) lie.begins
      ∙ ap (λ (o : Option Super). option_map end_of (option_map (λ u. record { first = lie.first; sectors = data_sector + u.size }) o)) lie.is
      ∙ ap (λ k. Some k) (let e : lie.first + (data_sector + (has n less).0.size) ≡ first_in (views_of v) (suc n) = omega (arith, begins, sum, size) in e)
