-- What arrays that stand on one another take of the drives that reach them.
use Rattle.std.proofs.Common.{◌≡◌, ℕ, zero, suc, ◌+◌, ◌-◌, ◌*◌, ◌<◌, ◌≤◌, List, [], ◌∷◌, map, sum_by, count_by, cond, true, false, Contains, nat_le, if◌then◌else◌, refl, sym, ap, ◌∙◌, arith, ⊎_elim, suc-mul, zero-mul}
use Rattle.std.proofs.lemmas.Bool.{cases_lt, le-leb, lt-leb}
use Rattle.std.proofs.lemmas.List.Sums.{sum_by-cons}
use Rattle.layer_plan.proofs.Sums.{sum_by_agree, sum_by_swap}
use Rattle.growth_plan.specs.declared.ArrayNow.{ArrayNow}
use Rattle.growth_plan.specs.Book.{Standing, standing_from, height_of}

-- what an array takes of a drive with so many units
abbrev pub taken : ℕ → Standing → ℕ
taken own x = if nat_le x.top own then x.now.height else 0

-- what all take of it
abbrev pub held : List Standing → ℕ → ℕ
held xs own = sum_by (λ x. taken own x) xs

yes_taken : (own : ℕ) (x : Standing) → x.top ≤ own → taken own x ≡ x.now.height
yes_taken own x h = let yes : nat_le x.top own ≡ true = le-leb x.top own h in rw yes refl

no_taken : (own : ℕ) (x : Standing) → own < x.top → taken own x ≡ 0
no_taken own x h = let no : nat_le x.top own ≡ false = lt-leb x.top own h in rw no refl

-- an array, and those above it
abbrev first_of : ℕ → ℕ → ArrayNow → Standing
first_of number level a = record { number = number; top = level + a.height; now = a }

held_cons : (own number level : ℕ) (a : ArrayNow) (above : List ArrayNow) →
    held (standing_from number level (a ∷ above)) own
    ≡ taken own (first_of number level a) + held (standing_from (number + 1) (level + a.height) above) own
held_cons own number level a above =
    sum_by-cons (λ x. taken own x) (first_of number level a) (standing_from (number + 1) (level + a.height) above)

height_cons : (a : ArrayNow) (above : List ArrayNow) → height_of (a ∷ above) ≡ a.height + height_of above
height_cons a above = sum_by-cons (λ (x : ArrayNow). x.height) a above

-- they take at most what the drive has above the level
pub held_most : (own number level : ℕ) (arrays : List ArrayNow) → held (standing_from number level arrays) own ≤ own - level
held_most own number level [] = omega arith
held_most own number level (a ∷ above) =
    let rest = held_most own (number + 1) (level + a.height) above in
    let all = held_cons own number level a above in
    ⊎_elim
    (λ (h : own < level + a.height). omega (arith, rest, all, no_taken own (first_of number level a) h))
    (λ (h : level + a.height ≤ own). omega (arith, rest, all, yes_taken own (first_of number level a) h))
    (cases_lt own (level + a.height))

-- all of it where the drive goes on above all arrays
pub held_all : (own number level : ℕ) (arrays : List ArrayNow) → level + height_of arrays ≤ own →
    held (standing_from number level arrays) own ≡ height_of arrays
held_all own number level [] high = refl
held_all own number level (a ∷ above) high =
    let total = height_cons a above in
    let rest = held_all own (number + 1) (level + a.height) above (omega arith) in
    omega (arith, rest, total, held_cons own number level a above, yes_taken own (first_of number level a) (omega arith))

-- and of a drive that ends at a top
pub held_top : (own number level : ℕ) (arrays : List ArrayNow) →
    Contains (map (λ (x : Standing). x.top) (standing_from number level arrays)) own →
    (level ≤ own) × (held (standing_from number level arrays) own ≡ own - level)
held_top own number level [] (k, inside, is) = absurd (omega arith)
held_top own number level (a ∷ above) (zero, inside, is) =
    let most = held_most own (number + 1) (level + a.height) above in
    (omega (arith, is), omega (arith, is, most, held_cons own number level a above, yes_taken own (first_of number level a) (omega (arith, is))))
held_top own number level (a ∷ above) (suc k, inside, is) =
    let rest = held_top own (number + 1) (level + a.height) above (k, omega arith, is) in (
      omega (arith, rest.0),
      omega (arith, rest.0, rest.1, held_cons own number level a above, yes_taken own (first_of number level a) (omega (arith, rest.0))),
    )

-- one array over all drives
taken_of_all : (x : Standing) (units : List ℕ) → sum_by (λ own. taken own x) units ≡ count_by (λ own. nat_le x.top own) units * x.now.height
taken_of_all x [] = sym (zero-mul x.now.height)
taken_of_all x (own ∷ others) =
    let rest = taken_of_all x others in
    let all = sum_by-cons (λ u. taken u x) own others in
    let count = sum_by-cons (λ u. cond (nat_le x.top u) 1 0) own others in
    ⊎_elim
    (λ (h : own < x.top).
    let no : nat_le x.top own ≡ false = lt-leb x.top own h in
    let same : count_by (λ u. nat_le x.top u) (own ∷ others) ≡ count_by (λ u. nat_le x.top u) others =
    let step : count_by (λ u. nat_le x.top u) (own ∷ others) ≡ 0 + count_by (λ u. nat_le x.top u) others =
    count ∙ ap (λ b. cond b 1 0 + count_by (λ u. nat_le x.top u) others) no in omega (arith, step) in
    let here = no_taken own x h in
    let total : sum_by (λ u. taken u x) (own ∷ others) ≡ sum_by (λ u. taken u x) others = omega (arith, all, here) in
    total ∙ rest ∙ sym (ap (λ n. n * x.now.height) same))
    (λ (h : x.top ≤ own).
    let yes : nat_le x.top own ≡ true = le-leb x.top own h in
    let same : count_by (λ u. nat_le x.top u) (own ∷ others) ≡ suc (count_by (λ u. nat_le x.top u) others) =
    let step : count_by (λ u. nat_le x.top u) (own ∷ others) ≡ 1 + count_by (λ u. nat_le x.top u) others =
    count ∙ ap (λ b. cond b 1 0 + count_by (λ u. nat_le x.top u) others) yes in omega (arith, step) in
    let here = yes_taken own x h in
    let total : sum_by (λ u. taken u x) (own ∷ others) ≡ count_by (λ u. nat_le x.top u) others * x.now.height + x.now.height =
    omega (arith, all, here, rest) in
    total ∙ sym (ap (λ n. n * x.now.height) same ∙ suc-mul (count_by (λ u. nat_le x.top u) others) x.now.height))
    (cases_lt own x.top)

-- all arrays over all drives
pub held_of_all : (xs : List Standing) (units : List ℕ) →
    sum_by (λ x. count_by (λ own. nat_le x.top own) units * x.now.height) xs ≡ sum_by (λ own. held xs own) units
held_of_all xs units =
    sum_by_agree (λ x. count_by (λ own. nat_le x.top own) units * x.now.height) (λ x. sum_by (λ own. taken own x) units) xs (λ x. sym (taken_of_all x units))
    ∙ sym (sum_by_swap (λ x own. taken own x) xs units)
