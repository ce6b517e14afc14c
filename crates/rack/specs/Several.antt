-- Single calls in a row, of which there are so many at most.
use Rattle.std.specs.Prelude.{◌≡◌, ℕ, ◌≤◌, List, [], ◌∷◌, length}

-- from one rack to another by calls that leave these, each after the one before it
abbrev pub Through : {R : Type 0} → (R → R → Type 0) → R → List R → R → Type 0
Through once x [] y = y ≡ x
Through once x (z ∷ zs) y = once x z × Through once z zs y

pub record Several {R : Type 0} (once : R → R → Type 0) (most : ℕ) (x y : R) : Type 0 where
  -- the rack after each of them
  pub calls : List R
  pub few : length calls ≤ most
  pub through : Through once x calls y
