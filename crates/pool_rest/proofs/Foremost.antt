-- The foremost copy that a record brings, from its last target to its first.
use Rattle.std.proofs.Common.{◌≡◌, ℕ, zero, suc, ◌<◌, List, [], ◌∷◌, length, map, drop, slice_get, Option, Some, None, refl, sym, ap, arith}
use Rattle.std.specs.Option.{option_and_then, option_map_or}
use Rattle.rack.specs.Targets.{Target}
use Rattle.array_image.specs.Foremost.{ahead, foremost}
use Rattle.array_image.specs.States.{epoch_of}
use Rattle.pool_image.specs.Replay.{brought}
use Rattle.pool_state.specs.declared.contents.Copied.{Copied}

foremost_first : (x : Option Copied) (others : List (Option Copied))
    → foremost epoch_of (x ∷ others) ≡ option_map_or (λ c. ahead epoch_of c (foremost epoch_of others)) x (foremost epoch_of others)
unfolding foremost
foremost_first None others = refl
foremost_first (Some c) others = refl

pub foremost_down : (xs : List Target) (k : ℕ) → k < length xs
    → foremost epoch_of (map brought (drop k xs))
    ≡ option_map_or (λ c. ahead epoch_of c (foremost epoch_of (map brought (drop (suc k) xs)))) (option_and_then brought (slice_get xs k))
    (foremost epoch_of (map brought (drop (suc k) xs)))
foremost_down [] k below = absurd (omega arith)
foremost_down (x ∷ xs) zero below = foremost_first (brought x) (map brought xs)
foremost_down (x ∷ xs) (suc k) below = foremost_down xs k (omega arith)

length-drop_all : (xs : List Target) → drop (length xs) xs ≡ []
length-drop_all [] = refl
length-drop_all (x ∷ xs) = length-drop_all xs

pub none_left : (xs : List Target) → None ≡ foremost epoch_of (map brought (drop (length xs) xs))
unfolding foremost
none_left xs = sym (ap (λ ys. foremost epoch_of (map brought ys)) (length-drop_all xs))
