-- Rows of a young array are zeroed, where these are the first works that are left: the next work is one of them until the last of them is done.
use Rattle.std.proofs.Common.{◌≡◌, ℕ, zero, suc, ◌-◌, ◌<◌, ◌==◌, nat_lt, Bool, true, false, if◌then◌else◌, List, [], ◌∷◌, ◌++◌, drop, replicate, slice_get, Option, Some, None, inl, inr, refl, sym, ap, subst, ◌∙◌, arith}
use Rattle.std.specs.List.{flat_map}
use Rattle.std.specs.Option.{option_map_or}
use Rattle.std.proofs.lemmas.Bool.{both_ways}
use Rattle.pool_state.specs.declared.contents.State.{State}
use Rattle.pool_state.specs.declared.contents.Work.{Work}
use Rattle.pool_state.specs.declared.contents.Work.TheVariants.{Resync, Rebuild, TakeOver, Begin, Reshape, Finish, Make, Zero, Ready, Extend, Close}
use Rattle.growth_plan.specs.declared.ArrayNow.{ArrayNow}
use Rattle.growth_plan.specs.declared.Progress.{Progress}
use Rattle.growth_plan.specs.Book.{Standing, standing}
use Rattle.growth_plan.specs.Target.{joining, new_layer}
use Rattle.growth_plan.specs.Works.{resyncs, rebuilt, rebuilds, rebuilds_on, reshapes, is_mirror, joins, growths, growths_by, rows_of, zeros, makes, extends, closes, works_left}
use Rattle.growth_plan.specs.Doing.{change, rows_zeroed}
use Rattle.growth_plan.proofs.Beginning.{BeginsNot, both_early, copies_early, each_early, either_early, maybe_early, none_early, one_early}
use Rattle.growth_plan.proofs.FirstRows.{begins}
use Rattle.growth_plan.proofs.Heads.{first_part}
use Rattle.growth_plan.proofs.OneArray.{put}
use Rattle.growth_plan.proofs.Parts.{field-at, split_at, swapped}
use Rattle.growth_plan.proofs.RowsDone.{change_at}

-- ---- works that aren't such rows

abbrev is_zero : Work → Bool
is_zero (Resync n) = false
is_zero (Rebuild n place) = false
is_zero (TakeOver n) = false
is_zero (Begin n place) = false
is_zero (Reshape n) = false
is_zero (Finish n) = false
is_zero (Make n height) = false
is_zero (Zero n) = true
is_zero (Ready n) = false
is_zero Extend = false
is_zero Close = false

resyncs_no_zero : (x : Standing) → BeginsNot is_zero (resyncs x)
resyncs_no_zero x = copies_early is_zero x.now.resync (Resync x.number) refl

rebuilds_no_zero : (place : Option ℕ) (x : Standing) → BeginsNot is_zero (rebuilds_on place x)
rebuilds_no_zero place x =
    maybe_early is_zero (λ p. if x.now.rebuilding == p then replicate x.now.rebuild (Rebuild x.number p) else []) place
    (λ p.
    either_early is_zero (x.now.rebuilding == p) (replicate x.now.rebuild (Rebuild x.number p)) []
    (copies_early is_zero x.now.rebuild (Rebuild x.number p) refl) (none_early is_zero))

reshapes_no_zero : (number rows : ℕ) → BeginsNot is_zero (reshapes number rows)
reshapes_no_zero number rows =
    both_early is_zero (replicate rows (Reshape number)) (Finish number ∷ []) (copies_early is_zero rows (Reshape number) refl)
    (one_early is_zero (Finish number) [] refl)

growths_no_zero : (place : Option ℕ) (x : Standing) → BeginsNot is_zero (growths_by place x)
growths_no_zero place x =
    both_early is_zero (if x.now.reshaping then reshapes x.number x.now.reshape else []) (option_map_or (joins x) place [])
    (either_early is_zero x.now.reshaping (reshapes x.number x.now.reshape) [] (reshapes_no_zero x.number x.now.reshape) (none_early is_zero))
    (maybe_early is_zero (joins x) place
    (λ p.
    both_early is_zero (if is_mirror x.now then TakeOver x.number ∷ [] else []) (Begin x.number p ∷ reshapes x.number x.now.rows)
    (either_early is_zero (is_mirror x.now) (TakeOver x.number ∷ []) [] (one_early is_zero (TakeOver x.number) [] refl) (none_early is_zero))
    (one_early is_zero (Begin x.number p) (reshapes x.number x.now.rows) refl)))

-- works behind those on a new layer
later_no_zero : (s : State) (p : Progress) → BeginsNot is_zero (extends s p ++ closes s)
later_no_zero s p =
    both_early is_zero (extends s p) (closes s)
    (either_early is_zero _ (Extend ∷ []) [] (one_early is_zero Extend [] refl) (none_early is_zero))
    (either_early is_zero _ (Close ∷ []) [] (one_early is_zero Close [] refl) (none_early is_zero))

-- a layer that is still to be made
layer_no_zero : (s : State) (arrays : List ArrayNow) → BeginsNot is_zero (option_map_or (λ layer. Make s.made layer.height ∷ zeros s.made (rows_of s layer.height)) (new_layer s arrays) [])
layer_no_zero s arrays =
    maybe_early is_zero (λ layer. Make s.made layer.height ∷ zeros s.made (rows_of s layer.height)) (new_layer s arrays)
    (λ layer. one_early is_zero (Make s.made layer.height) (zeros s.made (rows_of s layer.height)) refl)

-- ---- the young array

-- works on a new layer that begin with such a row are those of the young array
begins_young : (young : Bool) (n rows m : ℕ) (others more : List Work) → BeginsNot is_zero others → (if young then zeros n rows else others) ≡ Zero m ∷ more
    → (young ≡ true) × (m ≡ n)
begins_young true n zero m others more early is = absurd (let bad : Ready n ≡ Zero m = cc is in cc bad)
begins_young true n (suc rows) m others more early is =
    let same : Zero n ≡ Zero m = cc is in
    (refl, cc same)
begins_young false n rows m others more early is =
    absurd (both_ways (is_zero (Zero m)) (early (Zero m) (ap (λ (ws : List Work). slice_get ws 0) is)) refl)

-- array m is young, nothing is left to resync or to rebuild, and no array has to grow
record FirstZero (s : State) (p : Progress) (m : ℕ) : Type 0 where
  pub synced : flat_map resyncs (standing p.arrays.items) ≡ []
  pub whole : flat_map (rebuilds s) (standing p.arrays.items) ≡ []
  pub grown : flat_map (growths s) (standing p.arrays.items) ≡ []
  pub young : nat_lt s.joined s.made ≡ true
  pub at : m ≡ s.joined

zero_first : (s : State) (p : Progress) (m : ℕ) → slice_get (works_left s p) 0 ≡ Some (Zero m) → FirstZero s p m
zero_first s p m first =
    let w = Zero m in
    let rest = drop 1 (works_left s p) in
    let arrays = standing p.arrays.items in
    let r = flat_map resyncs arrays in
    let b = flat_map (rebuilds s) arrays in
    let g = flat_map (growths s) arrays in
    let later = extends s p ++ closes s in
    let not_first : (works more : List Work) → BeginsNot is_zero works → works ≡ w ∷ more → ⊥ =
    λ works more early is. both_ways (is_zero w) (early w (ap (λ (ws : List Work). slice_get ws 0) is)) refl in
    elim (first_part w rest r (b ++ (g ++ (makes s p.arrays.items ++ later))) (begins (works_left s p) w first)) [
      | inr here ↦ absurd (not_first r here.more (each_early is_zero resyncs arrays resyncs_no_zero) here.here)
      | inl none ↦
          elim (first_part w rest b (g ++ (makes s p.arrays.items ++ later)) none.1) [
            | inr here ↦ absurd (not_first b here.more (each_early is_zero (rebuilds s) arrays (rebuilds_no_zero (rebuilt s))) here.here)
            | inl past ↦
                elim (first_part w rest g (makes s p.arrays.items ++ later) past.1) [
                  | inr here ↦ absurd (not_first g here.more (each_early is_zero (growths s) arrays (λ x. growths_no_zero (joining s x) x)) here.here)
                  | inl still ↦
                      elim (first_part w rest (makes s p.arrays.items) later still.1) [
                        | inr here ↦
                            let own = begins_young (nat_lt s.joined s.made) s.joined (option_map_or (λ array. array.zero) (slice_get p.arrays.items s.joined) 0) m
                            (option_map_or (λ layer. Make s.made layer.height ∷ zeros s.made (rows_of s layer.height)) (new_layer s p.arrays.items) []) here.more
                            (layer_no_zero s p.arrays.items) here.here in
                            record { synced = none.0; whole = past.0; grown = still.0; young = own.0; at = own.1 }
                        | inl gone ↦ absurd (not_first later rest (later_no_zero s p) gone.1)
                      ]
                ]
          ]
    ]

-- an array that has rows to zero is there
there_at : (o : Option ArrayNow) (rows : ℕ) → rows < option_map_or (λ (a : ArrayNow). a.zero) o 0 → (x : ArrayNow) × (o ≡ Some x)
there_at None rows few = absurd (omega (arith, few))
there_at (Some x) rows few = (x, refl)

zero_is_first : (young : Bool) (n rows : ℕ) (others rest : List Work) → young ≡ true → 0 < rows → slice_get ((if young then zeros n rows else others) ++ rest) 0 ≡ Some (Zero n)
zero_is_first true n zero others rest on some = absurd (omega (arith, some))
zero_is_first true n (suc rows) others rest on some = refl
zero_is_first false n rows others rest on some = absurd (both_ways false refl on)

-- until the last row of the array is zeroed they are the first
pub zero_stays : (s : State) (p : Progress) (m rows : ℕ) → slice_get (works_left s p) 0 ≡ Some (Zero m) →
    rows < option_map_or (λ (a : ArrayNow). a.zero) (slice_get p.arrays.items m) 0 →
    slice_get (works_left s (put p (change m (rows_zeroed rows) p.arrays.items))) 0 ≡ Some (Zero m)
zero_stays s p m rows first few =
    let it = zero_first s p m first in
    let arrays = p.arrays.items in
    let there = there_at (slice_get arrays m) rows few in
    let x = there.0 in
    let split = split_at arrays m x there.1 in
    let y = rows_zeroed rows x in
    let ys = split.below ++ y ∷ split.above in
    let less : rows < x.zero = subst (λ (o : Option ArrayNow). rows < option_map_or (λ (a : ArrayNow). a.zero) o 0) there.1 few in
    let synced : flat_map resyncs (standing ys) ≡ [] =
    swapped resyncs split.below split.above x y refl refl ∙ ap (λ (xs : List ArrayNow). flat_map resyncs (standing xs)) (sym split.arrays_are) ∙ it.synced in
    let whole : flat_map (rebuilds s) (standing ys) ≡ [] =
    swapped (rebuilds s) split.below split.above x y refl refl ∙ ap (λ (xs : List ArrayNow). flat_map (rebuilds s) (standing xs)) (sym split.arrays_are) ∙ it.whole in
    let grown : flat_map (growths s) (standing ys) ≡ [] =
    swapped (growths s) split.below split.above x y refl refl ∙ ap (λ (xs : List ArrayNow). flat_map (growths s) (standing xs)) (sym split.arrays_are) ∙ it.grown in
    let left : option_map_or (λ (a : ArrayNow). a.zero) (slice_get ys s.joined) 0 ≡ x.zero - rows =
    sym (ap (λ (i : ℕ). option_map_or (λ (a : ArrayNow). a.zero) (slice_get ys i) 0) (split.count ∙ it.at)) ∙ field-at (λ (a : ArrayNow). a.zero) split.below split.above y in
    let later = extends s (put p ys) ++ closes s in
    ap (λ (i : ℕ). slice_get (works_left s (put p (change i (rows_zeroed rows) arrays))) 0) (sym split.count)
    ∙ ap (λ (xs : List ArrayNow). slice_get (works_left s (put p xs)) 0) (change_at (rows_zeroed rows) arrays split.below split.above x split.arrays_are)
    ∙ ap (λ (ws : List Work). slice_get (ws ++ (flat_map (rebuilds s) (standing ys) ++ (flat_map (growths s) (standing ys) ++ (makes s ys ++ later)))) 0) synced
    ∙ ap (λ (ws : List Work). slice_get (ws ++ (flat_map (growths s) (standing ys) ++ (makes s ys ++ later))) 0) whole
    ∙ ap (λ (ws : List Work). slice_get (ws ++ (makes s ys ++ later)) 0) grown
    ∙ zero_is_first (nat_lt s.joined s.made) s.joined (option_map_or (λ array. array.zero) (slice_get ys s.joined) 0)
    (option_map_or (λ layer. Make s.made layer.height ∷ zeros s.made (rows_of s layer.height)) (new_layer s ys) []) later it.young
    (let is = left in omega (arith, is, less))
    ∙ ap (λ (i : ℕ). Some (Zero i)) (sym it.at)
