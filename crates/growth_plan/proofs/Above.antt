-- What drives have above a level, where at most two reach so far.
use Rattle.std.proofs.Common.{◌≡◌, ℕ, ◌+◌, ◌-◌, ◌<◌, ◌≤◌, List, [], ◌∷◌, max, min, sum_by, count_by, cond, Option, Some, None, Contains, true, false, nat_lt, refl, ap, subst, ◌∙◌, arith, ⊎_elim}
use Rattle.std.specs.Option.{option_map_or}
use Rattle.std.proofs.lemmas.Bool.{cases_lt, lt-ltb, le-ltb}
use Rattle.std.proofs.lemmas.List.Sums.{sum_by-cons}
use Rattle.layer_plan.proofs.CutPoints.{contains_first, contains_later}
use Rattle.growth_plan.specs.Target.{least_above}

-- the most units
abbrev pub greatest : List ℕ → ℕ
greatest [] = 0
greatest (x ∷ xs) = max x (greatest xs)

abbrev pub count_above : ℕ → List ℕ → ℕ
count_above level xs = count_by (λ x. nat_lt level x) xs

abbrev pub excess : ℕ → List ℕ → ℕ
excess level xs = sum_by (λ x. x - level) xs

-- no drive above the level, one, or two
pub record IsNone (level : ℕ) (xs : List ℕ) : Type 0 where
  pub count : count_above level xs ≡ 0
  pub least : least_above level xs ≡ None
  pub most : greatest xs ≤ level
  pub sum : excess level xs ≡ 0

pub record IsOne (level : ℕ) (xs : List ℕ) : Type 0 where
  pub count : count_above level xs ≡ 1
  pub least : least_above level xs ≡ Some (greatest xs)
  pub most : level < greatest xs
  pub sum : excess level xs ≡ greatest xs - level

pub record IsTwo (level : ℕ) (xs : List ℕ) : Type 0 where
  pub cut : ℕ
  pub count : count_above level xs ≡ 2
  pub least : least_above level xs ≡ Some cut
  pub above : level < cut
  pub most : cut ≤ greatest xs
  pub sum : excess level xs ≡ (cut - level) + (greatest xs - level)

pub data Few (level : ℕ) (xs : List ℕ) : Type 0 where
  none : IsNone level xs → Few level xs
  one : IsOne level xs → Few level xs
  two : IsTwo level xs → Few level xs

yes_count : (level x : ℕ) (xs : List ℕ) → level < x → count_above level (x ∷ xs) ≡ 1 + count_above level xs
yes_count level x xs h =
    let yes : nat_lt level x ≡ true = lt-ltb level x h in
    sum_by-cons (λ y. cond (nat_lt level y) 1 0) x xs ∙ ap (λ b. cond b 1 0 + count_above level xs) yes

no_count : (level x : ℕ) (xs : List ℕ) → x ≤ level → count_above level (x ∷ xs) ≡ count_above level xs
no_count level x xs h =
    let no : nat_lt level x ≡ false = le-ltb level x h in
    let step : count_above level (x ∷ xs) ≡ 0 + count_above level xs =
    sum_by-cons (λ y. cond (nat_lt level y) 1 0) x xs ∙ ap (λ b. cond b 1 0 + count_above level xs) no in omega (arith, step)

pub yes_least : (level x : ℕ) (xs : List ℕ) (o : Option ℕ) → level < x → least_above level xs ≡ o →
    least_above level (x ∷ xs) ≡ Some (option_map_or (λ least. min x least) o x)
yes_least level x xs o h e =
    let yes : nat_lt level x ≡ true = lt-ltb level x h in rw yes (ap (λ (p : Option ℕ). Some (option_map_or (λ least. min x least) p x)) e)

pub no_least : (level x : ℕ) (xs : List ℕ) → x ≤ level → least_above level (x ∷ xs) ≡ least_above level xs
no_least level x xs h = let no : nat_lt level x ≡ false = le-ltb level x h in rw no

below : (level x : ℕ) (xs : List ℕ) → x ≤ level → Few level xs → Few level (x ∷ xs)
below level x xs h (none f) =
    none (record {
      count = no_count level x xs h ∙ f.count;
      least = no_least level x xs h ∙ f.least;
      most = omega (arith, f.most);
      sum = omega (arith, sum_by-cons (λ y. y - level) x xs, f.sum);
    })
below level x xs h (one f) =
    let same : greatest xs ≡ greatest (x ∷ xs) = omega (arith, f.most) in
    one (record {
      count = no_count level x xs h ∙ f.count;
      least = no_least level x xs h ∙ f.least ∙ ap Some same;
      most = omega (arith, f.most, same);
      sum = omega (arith, sum_by-cons (λ y. y - level) x xs, f.sum, same);
    })
below level x xs h (two f) =
    let same : greatest xs ≡ greatest (x ∷ xs) = omega (arith, f.most, f.above) in
    two (record {
      cut = f.cut;
      count = no_count level x xs h ∙ f.count;
      least = no_least level x xs h ∙ f.least;
      above = f.above;
      most = omega (arith, f.most, same);
      sum = omega (arith, sum_by-cons (λ y. y - level) x xs, f.sum, same);
    })

beyond : (level x : ℕ) (xs : List ℕ) → level < x → count_above level (x ∷ xs) ≤ 2 → Few level xs → Few level (x ∷ xs)
beyond level x xs h few (none f) =
    let same : x ≡ greatest (x ∷ xs) = omega (arith, f.most) in
    one (record {
      count = omega (arith, yes_count level x xs h, f.count);
      least = yes_least level x xs None h f.least ∙ ap Some same;
      most = omega (arith, same);
      sum = omega (arith, sum_by-cons (λ y. y - level) x xs, f.sum, same);
    })
beyond level x xs h few (one f) =
    two (record {
      cut = min x (greatest xs);
      count = omega (arith, yes_count level x xs h, f.count);
      least = yes_least level x xs (Some (greatest xs)) h f.least;
      above = omega (arith, f.most);
      most = omega arith;
      sum = omega (arith, sum_by-cons (λ y. y - level) x xs, f.sum, f.most);
    })
beyond level x xs h few (two f) = absurd (omega (arith, yes_count level x xs h, f.count))

pub few_above : (level : ℕ) (xs : List ℕ) → count_above level xs ≤ 2 → Few level xs
few_above level [] few = none (record { count = refl; least = refl; most = omega arith; sum = refl })
few_above level (x ∷ xs) few =
    ⊎_elim
    (λ (h : level < x). beyond level x xs h few (few_above level xs (omega (arith, yes_count level x xs h))))
    (λ (h : x ≤ level). below level x xs h (few_above level xs (omega (arith, no_count level x xs h))))
    (cases_lt level x)

-- what a list has up to a level, and above it
pub parted_at : (level : ℕ) (xs : List ℕ) → sum_by (λ x. min x level) xs + excess level xs ≡ sum_by (λ x. x) xs
parted_at level [] = refl
parted_at level (x ∷ xs) =
    let rest = parted_at level xs in
    omega (arith, rest, sum_by-cons (λ y. min y level) x xs, sum_by-cons (λ y. y - level) x xs, sum_by-cons (λ y. y) x xs)

-- a drive of most units
pub greatest_is_one : (x : ℕ) (xs : List ℕ) → Contains (x ∷ xs) (greatest (x ∷ xs))
greatest_is_one x [] =
    let same : x ≡ greatest (x ∷ []) = omega arith in subst (λ (k : ℕ). Contains (x ∷ []) k) same (contains_first x [])
greatest_is_one x (y ∷ ys) =
    ⊎_elim
    (λ (h : x < greatest (y ∷ ys)).
    let same : greatest (y ∷ ys) ≡ greatest (x ∷ y ∷ ys) = omega arith in
    subst (λ (k : ℕ). Contains (x ∷ y ∷ ys) k) same (contains_later x (greatest (y ∷ ys)) (y ∷ ys) (greatest_is_one y ys)))
    (λ (h : greatest (y ∷ ys) ≤ x).
    let same : x ≡ greatest (x ∷ y ∷ ys) = omega arith in subst (λ (k : ℕ). Contains (x ∷ y ∷ ys) k) same (contains_first x (y ∷ ys)))
    (cases_lt x (greatest (y ∷ ys)))
