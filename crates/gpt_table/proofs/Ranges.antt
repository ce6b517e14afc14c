-- Ranges of numbers, one further.
use Rattle.std.proofs.Common.{◌≡◌, ℕ, zero, suc, ◌+◌, [], ◌∷◌, ◌++◌, Option, option_to_list, sym, ap, ◌∙◌, arith, add-zero, zero-add, add-one, filter_map, Some, None}
use Rattle.std.specs.List.{range_with_len}
use Rattle.std.proofs.lemmas.List.Elements.{filter_map-append}

pub range_more : (a n : ℕ) → range_with_len a (suc n) ≡ range_with_len a n ++ (a + n) ∷ []
range_more a zero = rw add-zero
range_more a (suc n) =
    let same : (a + 1) + n ≡ a + suc n = omega arith in
    ap (λ rest. a ∷ rest) (range_more (a + 1) n) ∙ ap (λ k. a ∷ (range_with_len (a + 1) n ++ k ∷ [])) same

kept_one : {X : Type 0} (o : Option X) (f : ℕ → Option X) (n : ℕ) → f n ≡ o → filter_map f (n ∷ []) ≡ option_to_list o
kept_one None f n e = rw e
kept_one (Some x) f n e = rw e

-- what a function keeps of the first numbers, one further
pub filter_map_more : {X : Type 0} (f : ℕ → Option X) (n : ℕ) (o : Option X) → o ≡ f n →
    filter_map f (range_with_len 0 (n + 1)) ≡ filter_map f (range_with_len 0 n) ++ option_to_list o
filter_map_more f n o e =
    ap (λ k. filter_map f (range_with_len 0 k)) (add-one n)
    ∙ ap (filter_map f) (range_more 0 n ∙ ap (λ k. range_with_len 0 n ++ k ∷ []) (zero-add n))
    ∙ filter_map-append f (range_with_len 0 n) (n ∷ [])
    ∙ ap (λ rest. filter_map f (range_with_len 0 n) ++ rest) (kept_one o f n (sym e))
