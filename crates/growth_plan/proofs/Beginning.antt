-- Works that don't begin with one of some kinds: those between the rows of maintenance and the end of a plan.
use Rattle.std.proofs.Common.{◌≡◌, ℕ, zero, suc, ◌==◌, Bool, true, false, nat_lt, if◌then◌else◌, List, [], ◌∷◌, ◌++◌, replicate, slice_get, Option, Some, None, refl, sym, ap, ◌∙◌}
use Rattle.std.specs.List.{flat_map}
use Rattle.std.specs.Option.{option_map_or}
use Rattle.pool_state.specs.declared.contents.State.{State}
use Rattle.pool_state.specs.declared.contents.Work.{Work}
use Rattle.pool_state.specs.declared.contents.Work.TheVariants.{Resync, Rebuild, TakeOver, Begin, Reshape, Finish, Make, Zero, Ready, Extend, Close}
use Rattle.growth_plan.specs.declared.ArrayNow.{ArrayNow}
use Rattle.growth_plan.specs.Book.{Standing}
use Rattle.growth_plan.specs.Target.{new_layer}
use Rattle.growth_plan.specs.Works.{reshapes, is_mirror, joins, growths_by, rows_of, zeros, makes}

-- the works that take a drive into the arrays, and those on a new layer
abbrev pub is_growing : Work → Bool
is_growing (Resync n) = false
is_growing (Rebuild n place) = false
is_growing (TakeOver n) = true
is_growing (Begin n place) = true
is_growing (Reshape n) = true
is_growing (Finish n) = true
is_growing (Make n height) = true
is_growing (Zero n) = true
is_growing (Ready n) = true
is_growing Extend = false
is_growing Close = false

-- works that don't begin with one of these kinds
abbrev pub BeginsNot : (Work → Bool) → List Work → Type 0
BeginsNot kind works = (w : Work) → slice_get works 0 ≡ Some w → kind w ≡ false

module _ (kind : Work → Bool) where
  pub none_early : BeginsNot kind []
  none_early = λ w first. cc first

  -- a work with others behind it
  pub one_early : (v : Work) (works : List Work) → kind v ≡ false → BeginsNot kind (v ∷ works)
  one_early v works early = λ w first. let same : v ≡ w = cc first in ap kind (sym same) ∙ early

  pub both_early : (xs ys : List Work) → BeginsNot kind xs → BeginsNot kind ys → BeginsNot kind (xs ++ ys)
  both_early [] ys one two = two
  both_early (x ∷ xs) ys one two = one

  pub either_early : (b : Bool) (xs ys : List Work) → BeginsNot kind xs → BeginsNot kind ys → BeginsNot kind (if b then xs else ys)
  either_early true xs ys one two = one
  either_early false xs ys one two = two

  pub maybe_early : {X : Type 0} (f : X → List Work) (o : Option X) → ((x : X) → BeginsNot kind (f x)) → BeginsNot kind (option_map_or f o [])
  maybe_early f None each = none_early
  maybe_early f (Some x) each = each x

  pub each_early : {X : Type 0} (f : X → List Work) (xs : List X) → ((x : X) → BeginsNot kind (f x)) → BeginsNot kind (flat_map f xs)
  each_early f [] each = none_early
  each_early f (x ∷ xs) each = both_early (f x) (flat_map f xs) (each x) (each_early f xs each)

  pub copies_early : (k : ℕ) (w : Work) → kind w ≡ false → BeginsNot kind (replicate k w)
  copies_early zero w early = none_early
  copies_early (suc k) w early = one_early w (replicate k w) early

-- where none of the kinds is one of a growth
module _ (kind : Work → Bool) (other : (w : Work) → is_growing w ≡ true → kind w ≡ false) where
  reshapes_early : (number rows : ℕ) → BeginsNot kind (reshapes number rows)
  reshapes_early number rows =
      both_early kind (replicate rows (Reshape number)) (Finish number ∷ []) (copies_early kind rows (Reshape number) (other (Reshape number) refl))
      (one_early kind (Finish number) [] (other (Finish number) refl))

  joins_early : (x : Standing) (place : ℕ) → BeginsNot kind (joins x place)
  joins_early x place =
      both_early kind (if is_mirror x.now then TakeOver x.number ∷ [] else []) (Begin x.number place ∷ reshapes x.number x.now.rows)
      (either_early kind (is_mirror x.now) (TakeOver x.number ∷ []) [] (one_early kind (TakeOver x.number) [] (other (TakeOver x.number) refl)) (none_early kind))
      (one_early kind (Begin x.number place) (reshapes x.number x.now.rows) (other (Begin x.number place) refl))

  pub growths_early : (place : Option ℕ) (x : Standing) → BeginsNot kind (growths_by place x)
  growths_early place x =
      both_early kind (if x.now.reshaping then reshapes x.number x.now.reshape else []) (option_map_or (joins x) place [])
      (either_early kind x.now.reshaping (reshapes x.number x.now.reshape) [] (reshapes_early x.number x.now.reshape) (none_early kind))
      (maybe_early kind (joins x) place (joins_early x))

  zeros_early : (number rows : ℕ) → BeginsNot kind (zeros number rows)
  zeros_early number rows =
      both_early kind (replicate rows (Zero number)) (Ready number ∷ []) (copies_early kind rows (Zero number) (other (Zero number) refl))
      (one_early kind (Ready number) [] (other (Ready number) refl))

  pub makes_early : (s : State) (arrays : List ArrayNow) → BeginsNot kind (makes s arrays)
  makes_early s arrays =
      either_early kind (nat_lt s.joined s.made) (zeros s.joined (option_map_or (λ array. array.zero) (slice_get arrays s.joined) 0))
      (option_map_or (λ layer. Make s.made layer.height ∷ zeros s.made (rows_of s layer.height)) (new_layer s arrays) [])
      (zeros_early s.joined (option_map_or (λ array. array.zero) (slice_get arrays s.joined) 0))
      (maybe_early kind (λ layer. Make s.made layer.height ∷ zeros s.made (rows_of s layer.height)) (new_layer s arrays)
      (λ layer. one_early kind (Make s.made layer.height) (zeros s.made (rows_of s layer.height)) (other (Make s.made layer.height) refl)))
