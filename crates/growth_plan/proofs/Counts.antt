-- How many works a book can have.
use Rattle.std.proofs.Common.{◌≡◌, ℕ, ◌+◌, ◌*◌, ◌^◌, ◌<◌, ◌≤◌, List, [], ◌∷◌, ◌++◌, length, replicate, sum, slice_get, Option, Some, None, All, nat_lt, is_some, ◌==◌, refl, arith, length-append}
use Rattle.std.specs.List.{flat_map}
use Rattle.std.specs.Option.{option_map_or}
use Rattle.std.proofs.Math.Nat.{mul-le-mul, div-le_self}
use Rattle.std.proofs.lemmas.Bool.{cond_both}
use Rattle.std.proofs.lemmas.List.{length-replicate}
use Rattle.std.proofs.lemmas.List.Concat.{length-flat_map}
use Rattle.std.proofs.lemmas.List.Elements.{All-nil, All-cons, All-head, All-tail, All-weaker}
use Rattle.std.proofs.lemmas.List.Sums.{sum_by-le}
use Rattle.layer_plan.specs.declared.Layer.{Layer}
use Rattle.pool_state.specs.declared.contents.State.{State}
use Rattle.pool_state.specs.declared.contents.Work.{Work}
use Rattle.pool_state.specs.declared.contents.Work.TheVariants.{Resync, Rebuild, TakeOver, Begin, Reshape, Finish, Make, Zero, Ready, Extend, Close}
use Rattle.growth_plan.specs.declared.ArrayNow.{ArrayNow}
use Rattle.growth_plan.specs.declared.Progress.{Progress}
use Rattle.growth_plan.specs.Book.{IsBook, IsSmall, Standing, standing_from, standing, units_of, height_of}
use Rattle.growth_plan.specs.Target.{planned, joining, new_layer, targets}
use Rattle.growth_plan.specs.Works.{resyncs, rebuilt, rebuilds_on, rebuilds, reshapes, joins, growths, is_mirror, rows_of, zeros, makes, extends, closes, works_left}
use Rattle.growth_plan.proofs.Books.{few_arrays, units_small, extent_small, All-slice_get}
use Rattle.growth_plan.proofs.NewLayer.{new_layer_is, layer_height}

-- what holds of all arrays holds of them standing
pub all_standing : (P : ArrayNow → Type 0) (number level : ℕ) (arrays : List ArrayNow) → All P arrays → All (λ (x : Standing). P x.now) (standing_from number level arrays)
all_standing P number level [] all = All-nil (λ (x : Standing). P x.now)
all_standing P number level (a ∷ above) all =
    All-cons (λ (x : Standing). P x.now) _ (standing_from (number + 1) (level + a.height) above) (All-head P a above all)
    (all_standing P (number + 1) (level + a.height) above (All-tail P a above all))

length_standing : (number level : ℕ) (arrays : List ArrayNow) → length (standing_from number level arrays) ≡ length arrays
length_standing number level [] = refl
length_standing number level (a ∷ above) = let rest = length_standing (number + 1) (level + a.height) above in omega (arith, rest)

-- the works of a few arrays, each of which has few
few_of_all : (f : Standing → List Work) (arrays : List ArrayNow) → length arrays ≤ 16 → All IsSmall arrays →
    ((x : Standing) → IsSmall x.now → length (f x) ≤ 2 ^ 55) → length (flat_map f (standing arrays)) ≤ 16 * 2 ^ 55
few_of_all f arrays few small each =
    let bound = sum_by-le (λ (x : Standing). length (f x)) (2 ^ 55) (standing arrays)
    (All-weaker (λ (x : Standing). IsSmall x.now) (λ (x : Standing). length (f x) ≤ 2 ^ 55) each (standing arrays) (all_standing IsSmall 0 0 arrays small)) in
    let total = length-flat_map f (standing arrays) in
    let count = length_standing 0 0 arrays in
    omega (arith, bound, total, count)

few_resyncs : (x : Standing) → IsSmall x.now → length (resyncs x) ≤ 2 ^ 55
few_resyncs x small = omega (arith, length-replicate x.now.resync (Resync x.number), small.resync)

few_rebuilds : (place : Option ℕ) (x : Standing) → IsSmall x.now → length (rebuilds_on place x) ≤ 2 ^ 55
few_rebuilds None x small = omega arith
few_rebuilds (Some place) x small =
    cond_both (x.now.rebuilding == place) (replicate x.now.rebuild (Rebuild x.number place)) [] (λ ws. length ws ≤ 2 ^ 55)
    (λ e. omega (arith, length-replicate x.now.rebuild (Rebuild x.number place), small.rebuild)) (λ e. omega arith)

few_reshapes : (number rows : ℕ) → length (reshapes number rows) ≡ rows + 1
few_reshapes number rows =
    omega (arith, length-append (replicate rows (Reshape number)) (Finish number ∷ []), length-replicate rows (Reshape number))

few_joins : (x : Standing) (place : ℕ) → IsSmall x.now → length (joins x place) ≤ 2 ^ 53
few_joins x place small =
    let rows = few_reshapes x.number x.now.rows in
    cond_both (is_mirror x.now) (TakeOver x.number ∷ []) [] (λ ws. length (ws ++ (Begin x.number place ∷ reshapes x.number x.now.rows)) ≤ 2 ^ 53)
    (λ e. omega (arith, rows, small.rows)) (λ e. omega (arith, rows, small.rows))

few_growths_by : (place : Option ℕ) (x : Standing) → IsSmall x.now → length (option_map_or (joins x) place []) ≤ 2 ^ 53
few_growths_by None x small = omega arith
few_growths_by (Some place) x small = few_joins x place small

few_growths : (s : State) (x : Standing) → IsSmall x.now → length (growths s x) ≤ 2 ^ 55
few_growths s x small =
    let rest = few_growths_by (joining s x) x small in
    let rows = few_reshapes x.number x.now.reshape in
    cond_both x.now.reshaping (reshapes x.number x.now.reshape) [] (λ ws. length (ws ++ option_map_or (joins x) (joining s x) []) ≤ 2 ^ 55)
    (λ e. omega (arith, length-append (reshapes x.number x.now.reshape) (option_map_or (joins x) (joining s x) []), rest, rows, small.reshape))
    (λ e. omega (arith, rest))

few_zeros : (number rows : ℕ) → length (zeros number rows) ≡ rows + 1
few_zeros number rows = omega (arith, length-append (replicate rows (Zero number)) (Ready number ∷ []), length-replicate rows (Zero number))

few_rows : (s : State) (height : ℕ) → s.extent ≤ 65536 → height < 2 ^ 41 → rows_of s height ≤ 2 ^ 60
few_rows s height extent small =
    let product : height * s.extent ≤ 2 ^ 41 * 65536 = mul-le-mul {n₁ = height} {m₁ = s.extent} {n₂ = 2 ^ 41} {m₂ = 65536} (omega arith) extent in
    omega (arith, product, div-le_self (height * s.extent + 2048) 128)

few_young : (array : Option ArrayNow) → ((a : ArrayNow) → array ≡ Some a → a.zero < 2 ^ 52) → option_map_or (λ a. a.zero) array 0 < 2 ^ 52
few_young None small = omega arith
few_young (Some a) small = small a refl

few_new : (s : State) (layer : Option Layer) → s.extent ≤ 65536 → ((l : Layer) → layer ≡ Some l → l.height < 2 ^ 41) →
    length (option_map_or (λ l. Make s.made l.height ∷ zeros s.made (rows_of s l.height)) layer []) ≤ 2 ^ 61
few_new s None extent small = omega arith
few_new s (Some l) extent small = omega (arith, few_zeros s.made (rows_of s l.height), few_rows s l.height extent (small l refl))

few_makes : (s : State) (p : Progress) → IsBook s p → length (makes s p.arrays.items) ≤ 2 ^ 61
few_makes s p book =
    let arrays = p.arrays.items in
    let young : option_map_or (λ a. a.zero) (slice_get arrays s.joined) 0 < 2 ^ 52 =
    few_young (slice_get arrays s.joined) (λ a e. (All-slice_get IsSmall arrays s.joined a book.small e).zero) in
    cond_both (nat_lt s.joined s.made) (zeros s.joined (option_map_or (λ a. a.zero) (slice_get arrays s.joined) 0))
    (option_map_or (λ l. Make s.made l.height ∷ zeros s.made (rows_of s l.height)) (new_layer s arrays) [])
    (λ ws. length ws ≤ 2 ^ 61)
    (λ e. omega (arith, few_zeros s.joined (option_map_or (λ a. a.zero) (slice_get arrays s.joined) 0), young))
    (λ e. few_new s (new_layer s arrays) (extent_small s book.valid)
    (λ l is. layer_height (units_of s) (height_of arrays) l (units_small s book.valid) (new_layer_is s arrays l is).2))

pub few_works : (s : State) (p : Progress) → IsBook s p → length (works_left s p) < 2 ^ 64
few_works s p book =
    let arrays = standing p.arrays.items in
    let few : length p.arrays.items ≤ 16 = omega (arith, book.made, (few_arrays s book.valid).0) in
    let first = few_of_all resyncs p.arrays.items few book.small few_resyncs in
    let second = few_of_all (rebuilds s) p.arrays.items few book.small (few_rebuilds (rebuilt s)) in
    let third = few_of_all (growths s) p.arrays.items few book.small (few_growths s) in
    let fourth = few_makes s p book in
    let fifth : length (extends s p) ≤ 1 =
    cond_both (nat_lt p.extents (sum (targets s p.arrays.items))) (Extend ∷ []) [] (λ ws. length ws ≤ 1) (λ e. omega arith) (λ e. omega arith) in
    let sixth : length (closes s) ≤ 1 =
    cond_both (is_some (planned s.plan)) (Close ∷ []) [] (λ ws. length ws ≤ 1) (λ e. omega arith) (λ e. omega arith) in
    let six = length-append (extends s p) (closes s) in
    let five = length-append (makes s p.arrays.items) (extends s p ++ closes s) in
    let four = length-append (flat_map (growths s) arrays) (makes s p.arrays.items ++ (extends s p ++ closes s)) in
    let three = length-append (flat_map (rebuilds s) arrays) (flat_map (growths s) arrays ++ (makes s p.arrays.items ++ (extends s p ++ closes s))) in
    let two = length-append (flat_map resyncs arrays) (flat_map (rebuilds s) arrays ++ (flat_map (growths s) arrays ++ (makes s p.arrays.items ++ (extends s p ++ closes s)))) in
    omega (arith, first, second, third, fourth, fifth, sixth, six, five, four, three, two)
