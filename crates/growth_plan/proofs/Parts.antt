-- One array among others: the works that it brings, and what a change of it alone does.
use Rattle.std.proofs.Common.{◌≡◌, ℕ, zero, suc, ◌+◌, ◌<◌, List, [], ◌∷◌, ◌++◌, length, map, Some, slice_get, inl, inr, true, false, ◌==◌, if◌then◌else◌, refl, sym, ap, ◌∙◌, arith, zero-add}
use Rattle.std.specs.List.{flat_map, enumerate_from}
use Rattle.std.specs.Option.{option_map_or}
use Rattle.std.proofs.lemmas.Bool.{eq-eqb, ne_eqb}
use Rattle.std.proofs.lemmas.Grind.{flat_map-append}
use Rattle.std.proofs.lemmas.List.Sums.{sum_by-append, sum_by-cons}
use Rattle.pool_state.specs.declared.contents.Work.{Work}
use Rattle.growth_plan.specs.declared.ArrayNow.{ArrayNow}
use Rattle.growth_plan.specs.Book.{Standing, standing_from, standing, height_of}
use Rattle.growth_plan.specs.Doing.{change}
use Rattle.growth_plan.proofs.Standings.{standing-append}
use Rattle.growth_plan.proofs.Heads.{first_part, IsFirstOf}

-- an array right above others
abbrev pub at : List ArrayNow → ArrayNow → Standing
at below x = record { number = length below; top = height_of below + x.height; now = x }

-- what stands above it
abbrev pub above_it : List ArrayNow → ArrayNow → List ArrayNow → List Standing
above_it below x above = standing_from (length below + 1) (height_of below + x.height) above

pub parted : {X : Type 0} (f : Standing → List X) (below above : List ArrayNow) (x : ArrayNow) →
    flat_map f (standing (below ++ x ∷ above))
    ≡ flat_map f (standing below) ++ (f (at below x) ++ flat_map f (above_it below x above))
parted {X = X} f below above x =
    ap (λ (xs : List Standing). flat_map f xs) (standing-append 0 0 below (x ∷ above))
    ∙ flat_map-append f (standing below) (standing_from (0 + length below) (0 + height_of below) (x ∷ above))
    ∙ ap (λ (n : ℕ). flat_map f (standing below) ++ flat_map f (standing_from n (0 + height_of below) (x ∷ above))) (zero-add (length below))
    ∙ ap (λ (l : ℕ). flat_map f (standing below) ++ flat_map f (standing_from (length below) l (x ∷ above))) (zero-add (height_of below))

-- another array in its place that brings the same
pub swapped : {X : Type 0} (f : Standing → List X) (below above : List ArrayNow) (x y : ArrayNow) → y.height ≡ x.height →
    f (at below y) ≡ f (at below x) → flat_map f (standing (below ++ y ∷ above)) ≡ flat_map f (standing (below ++ x ∷ above))
swapped {X = X} f below above x y level e =
    parted f below above y
    ∙ ap (λ (h : ℕ). flat_map f (standing below) ++ (f (at below y) ++ flat_map f (standing_from (length below + 1) (height_of below + h) above))) level
    ∙ ap (λ (here : List X). flat_map f (standing below) ++ (here ++ flat_map f (above_it below x above))) e
    ∙ sym (parted f below above x)

pub height-swapped : (below above : List ArrayNow) (x y : ArrayNow) → y.height ≡ x.height →
    height_of (below ++ y ∷ above) ≡ height_of (below ++ x ∷ above)
height-swapped below above x y level =
    let h : ArrayNow → ℕ = λ a. a.height in
    omega (arith, level, sum_by-append h below (y ∷ above), sum_by-append h below (x ∷ above), sum_by-cons h y above, sum_by-cons h x above)

-- the array that brings the first work
pub record FirstArray (f : Standing → List Work) (number level : ℕ) (arrays : List ArrayNow) (w : Work) (rest : List Work) : Type 0 where
  pub below : List ArrayNow
  pub now : ArrayNow
  pub above : List ArrayNow
  pub place : ℕ
  pub under : ℕ
  pub arrays_are : arrays ≡ below ++ now ∷ above
  pub place_is : place ≡ number + length below
  pub under_is : under ≡ level + height_of below
  pub quiet : flat_map f (standing_from number level below) ≡ []
  pub first : IsFirstOf w rest (f (record { number = place; top = under + now.height; now = now })) (flat_map f (standing_from (place + 1) (under + now.height) above))

pub first_array : (f : Standing → List Work) (number level : ℕ) (arrays : List ArrayNow) (w : Work) (rest : List Work) →
    flat_map f (standing_from number level arrays) ≡ w ∷ rest → FirstArray f number level arrays w rest
first_array f number level [] w rest e = cc
first_array f number level (a ∷ above) w rest e =
    elim (first_part w rest (f (record { number = number; top = level + a.height; now = a })) (flat_map f (standing_from (number + 1) (level + a.height) above)) e) [
      | inl none ↦
          let found = first_array f (number + 1) (level + a.height) above w rest none.1 in
          let total : height_of (a ∷ found.below) ≡ a.height + height_of found.below = sum_by-cons (λ (x : ArrayNow). x.height) a found.below in
          record {
            below = a ∷ found.below;
            now = found.now;
            above = found.above;
            place = found.place;
            under = found.under;
            arrays_are = ap (λ (xs : List ArrayNow). a ∷ xs) found.arrays_are;
            place_is = omega (arith, found.place_is);
            under_is = omega (arith, found.under_is, total);
            quiet = rw (none.0, found.quiet) refl;
            first = found.first;
          }
      | inr some ↦ record {
        below = [];
        now = a;
        above = above;
        place = number;
        under = level;
        arrays_are = refl;
        place_is = omega arith;
        under_is = omega arith;
        quiet = refl;
        first = some;
      }
    ]

pub record FirstAt (f : Standing → List Work) (arrays : List ArrayNow) (w : Work) (rest : List Work) : Type 0 where
  pub below : List ArrayNow
  pub now : ArrayNow
  pub above : List ArrayNow
  pub more : List Work
  pub arrays_are : arrays ≡ below ++ now ∷ above
  pub quiet : flat_map f (standing below) ≡ []
  pub here : f (at below now) ≡ w ∷ more
  pub behind : rest ≡ more ++ flat_map f (above_it below now above)

pub first_at : (f : Standing → List Work) (arrays : List ArrayNow) (w : Work) (rest : List Work) →
    flat_map f (standing arrays) ≡ w ∷ rest → FirstAt f arrays w rest
first_at f arrays w rest e =
    let found = first_array f 0 0 arrays w rest e in
    let x = found.now in
    let place : found.place ≡ length found.below = omega (arith, found.place_is) in
    let under : found.under ≡ height_of found.below = omega (arith, found.under_is) in
    record {
      below = found.below;
      now = x;
      above = found.above;
      more = found.first.more;
      arrays_are = found.arrays_are;
      quiet = found.quiet;
      here =
          sym (ap (λ (n : ℕ). f (record { number = n; top = found.under + x.height; now = x })) place
          ∙ ap (λ (u : ℕ). f (record { number = length found.below; top = u + x.height; now = x })) under) ∙ found.first.here;
      behind =
          found.first.behind
          ∙ ap (λ (n : ℕ). found.first.more ++ flat_map f (standing_from (n + 1) (found.under + x.height) found.above)) place
          ∙ ap (λ (u : ℕ). found.first.more ++ flat_map f (standing_from (length found.below + 1) (u + x.height) found.above)) under;
    }

-- the array after its first work is done
pub head_gone : (f : Standing → List Work) (below above : List ArrayNow) (x y : ArrayNow) (more : List Work) → y.height ≡ x.height →
    flat_map f (standing below) ≡ [] → f (at below y) ≡ more →
    flat_map f (standing (below ++ y ∷ above)) ≡ more ++ flat_map f (above_it below x above)
head_gone f below above x y more level quiet e =
    parted f below above y
    ∙ ap (λ (h : ℕ). flat_map f (standing below) ++ (f (at below y) ++ flat_map f (standing_from (length below + 1) (height_of below + h) above))) level
    ∙ ap (λ (here : List Work). flat_map f (standing below) ++ (here ++ flat_map f (above_it below x above))) e
    ∙ ap (λ (front : List Work). front ++ (more ++ flat_map f (above_it below x above))) quiet

-- a change leaves all arrays above it
unchanged : (number k : ℕ) (to : ArrayNow → ArrayNow) (xs : List ArrayNow) → number < k →
    map (λ (x : ℕ × ArrayNow). if x.0 == number then to x.1 else x.1) (enumerate_from k xs) ≡ xs
unchanged number k to [] past = refl
unchanged number k to (x ∷ xs) past =
    let other : (k == number) ≡ false = ne_eqb k number (λ e. absurd (omega arith)) in
    rw other (ap (λ (ys : List ArrayNow). x ∷ ys) (unchanged number (k + 1) to xs (omega arith)))

changed_from : (k : ℕ) (to : ArrayNow → ArrayNow) (below above : List ArrayNow) (x : ArrayNow) (number : ℕ) → number ≡ k + length below →
    map (λ (x : ℕ × ArrayNow). if x.0 == number then to x.1 else x.1) (enumerate_from k (below ++ x ∷ above)) ≡ below ++ to x ∷ above
changed_from k to [] above x number e =
    let same : (k == number) ≡ true = eq-eqb k number (omega arith) in
    rw same (ap (λ (ys : List ArrayNow). to x ∷ ys) (unchanged number (k + 1) to above (omega arith)))
changed_from k to (b ∷ below) above x number e =
    let other : (k == number) ≡ false = ne_eqb k number (λ h. absurd (omega arith)) in
    rw other (ap (λ (ys : List ArrayNow). b ∷ ys) (changed_from (k + 1) to below above x number (omega arith)))

pub changed : (to : ArrayNow → ArrayNow) (below above : List ArrayNow) (x : ArrayNow) →
    change (length below) to (below ++ x ∷ above) ≡ below ++ to x ∷ above
changed to below above x = changed_from 0 to below above x (length below) (sym (zero-add (length below)))

-- what every array has alike
pub field-swapped : (f : ArrayNow → ℕ) (below above : List ArrayNow) (x y : ArrayNow) (i : ℕ) → f y ≡ f x →
    option_map_or f (slice_get (below ++ y ∷ above) i) 0 ≡ option_map_or f (slice_get (below ++ x ∷ above) i) 0
field-swapped f [] above x y zero e = e
field-swapped f [] above x y (suc i) e = refl
field-swapped f (b ∷ below) above x y zero e = refl
field-swapped f (b ∷ below) above x y (suc i) e = field-swapped f below above x y i e

pub field-at : (f : ArrayNow → ℕ) (below above : List ArrayNow) (y : ArrayNow) →
    option_map_or f (slice_get (below ++ y ∷ above) (length below)) 0 ≡ f y
field-at f [] above y = refl
field-at f (b ∷ below) above y = field-at f below above y

-- the array at an index, and all others
pub record SplitAt (arrays : List ArrayNow) (i : ℕ) (x : ArrayNow) : Type 0 where
  pub below : List ArrayNow
  pub above : List ArrayNow
  pub arrays_are : arrays ≡ below ++ x ∷ above
  pub count : length below ≡ i

pub split_at : (arrays : List ArrayNow) (i : ℕ) (x : ArrayNow) → slice_get arrays i ≡ Some x → SplitAt arrays i x
split_at [] i x e = cc
split_at (a ∷ above) zero x e =
    let same : a ≡ x = cc e in
    record { below = []; above = above; arrays_are = ap (λ (b : ArrayNow). b ∷ above) same; count = refl }
split_at (a ∷ above) (suc i) x e =
    let rest = split_at above i x e in
    record { below = a ∷ rest.below; above = rest.above; arrays_are = ap (λ (xs : List ArrayNow). a ∷ xs) rest.arrays_are; count = ap suc rest.count }
