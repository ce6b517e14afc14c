-- Lists that a loop makes, one element after the other.
use Rattle.std.proofs.Common.{◌≡◌, ℕ, zero, suc, ◌+◌, ◌-◌, ◌<◌, ◌≤◌, Bool, true, false, nat_lt, if◌then◌else◌, List, [], ◌∷◌, ◌++◌, map, filter, take, get_or, length, Option, Some, None, refl, ap, ap₂, sym, ◌∙◌, add-one, arith}
use Rattle.std.specs.List.{range_with_len, list_all}
use Rattle.std.specs.Option.{option_map_or}
use Rattle.std.proofs.lemmas.Bool.{and_from, lt-ltb}
use Rattle.std.proofs.lemmas.List.{map-append, take_more}
use Rattle.std.proofs.lemmas.List.FromFn.{map-range_with_len_more, filter_of_map_range_with_len_more}
use Rattle.array_image.specs.Foremost.{ahead, foremost}

-- one more of what is made of the first numbers
pub map_more : {X Y : Type 0} (f : X → Y) (g : ℕ → X) (n : ℕ) → map f (map g (range_with_len 0 (n + 1))) ≡ map f (map g (range_with_len 0 n)) ++ f (g n) ∷ []
map_more f g n =
    ap (map f) (map-range_with_len_more g 0 n n (omega arith))
    ∙ map-append f (map g (range_with_len 0 n)) (g n ∷ [])

-- the numbers below 16 from the last but k on
pub range_down : (k : ℕ) → k < 16 → range_with_len (16 - (k + 1)) (k + 1) ≡ (15 - k) ∷ range_with_len (16 - k) k
range_down k below =
    ap (range_with_len (16 - (k + 1))) (add-one k)
    ∙ ap₂ (λ (a b : ℕ). a ∷ range_with_len b k) (omega arith) (omega arith)

-- the foremost of a list is its first element, or that of the others where they are ahead
pub foremost_first : {X : Type 0} (measure : X → ℕ) (x : Option X) (others : List (Option X))
    → foremost measure (x ∷ others) ≡ option_map_or (λ t. ahead measure t (foremost measure others)) x (foremost measure others)
unfolding foremost
foremost_first measure None others = refl
foremost_first measure (Some t) others = refl

-- the same, of the list before and after
pub made_more : {X Y : Type 0} (f : X → Y) (g : ℕ → X) (n : ℕ) (before after : List Y) (y : Y)
    → before ≡ map f (map g (range_with_len 0 n))
    → after ≡ before ++ y ∷ []
    → y ≡ f (g n)
    → after ≡ map f (map g (range_with_len 0 (n + 1)))
made_more f g n before after y made pushed is =
    pushed ∙ ap₂ (λ xs x. xs ++ x ∷ []) made is ∙ sym (map_more f g n)

-- what each element was made of
pub map_back : {X Y : Type 0} (f : X → Y) (back : Y → X) → ((x : X) → back (f x) ≡ x) → (xs : List X) → map back (map f xs) ≡ xs
map_back f back undoes [] = refl
map_back f back undoes (x ∷ xs) = ap₂ (λ y ys. y ∷ ys) (undoes x) (map_back f back undoes xs)

-- what is made of the elements of a list, one after the other
pub mapped_more : {X Y : Type 0} (f : X → Y) (xs : List X) (i : ℕ) (d : X) (before after : List Y) (y : Y)
    → i < length xs
    → before ≡ map f (take i xs)
    → after ≡ before ++ y ∷ []
    → y ≡ f (get_or xs i d)
    → after ≡ map f (take (i + 1) xs)
mapped_more f xs i d before after y below made pushed is =
    pushed ∙ ap₂ (λ ys z. ys ++ z ∷ []) made is
    ∙ sym (ap (map f) (take_more xs i d below) ∙ map-append f (take i xs) (get_or xs i d ∷ []))

map_id : (xs : List ℕ) → map (λ n. n) xs ≡ xs
map_id [] = refl
map_id (x ∷ xs) = ap (λ ys. x ∷ ys) (map_id xs)

-- one more of the first numbers that pass
pub filter_more : (p : ℕ → Bool) (n : ℕ) → filter p (range_with_len 0 (n + 1)) ≡ filter p (range_with_len 0 n) ++ (if p n then n ∷ [] else [])
filter_more p n =
    ap (filter p) (sym (map_id (range_with_len 0 (n + 1))))
    ∙ filter_of_map_range_with_len_more p (λ k. k) 0 n n (omega arith)
    ∙ ap (λ ns. filter p ns ++ (if p n then n ∷ [] else [])) (map_id (range_with_len 0 n))

-- those that pass in a range are in it
pub filter_within : (p : ℕ → Bool) (a n top : ℕ) → a + n ≤ top → list_all (λ k. nat_lt k top) (filter p (range_with_len a n)) ≡ true
filter_within p a zero top within = refl
filter_within p a (suc n) top within =
    let rest = filter_within p (a + 1) n top (omega (arith, within)) in
    elim (p a) as (λ b. list_all (λ k. nat_lt k top) (if b then a ∷ filter p (range_with_len (a + 1) n) else filter p (range_with_len (a + 1) n)) ≡ true) [
      | true ↦ and_from (nat_lt a top) _ (lt-ltb a top (omega (arith, within))) rest
      | false ↦ rest
    ]
