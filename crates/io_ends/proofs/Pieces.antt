-- Pieces of a list of bytes that were copied to the front of a buffer.
use Rattle.std.proofs.Common.{◌≡◌, ℕ, ◌<◌, ◌≤◌, min, List, ◌++◌, length, take, drop, sym, ◌∙◌, ap, subst, arith}
use Rattle.std.proofs.lemmas.List.{take-append-drop, length-take-le, nil_from_length}
use Rattle.std.proofs.Math.Seq.{take-append_seam}
use Rattle.io_ends.specs.Source.{TakesFirst}

-- the first `n` elements of a list, put in front of others, are the first `n` there
take-append_same : (n : ℕ) (xs ys : List ℕ) → n ≤ length xs → take n (take n xs ++ ys) ≡ take n xs
take-append_same n xs ys h =
    let P : ℕ → Type 0 = λ k. take k (take n xs ++ ys) ≡ take n xs in
    subst P (length-take-le n xs h) (take-append_seam (take n xs) ys)

-- as many bytes as fit, copied to the front of the buffer, are the first ones that were left
pub takes_what_fits : (left buffer : List ℕ) (n : ℕ) → 0 < length buffer → n ≡ min (length left) (length buffer)
    → TakesFirst n left (drop n left) (take n left ++ drop n buffer)
takes_what_fits left buffer n room fits =
    record {
      bytes = sym (ap (λ xs. xs ++ drop n left) (take-append_same n left (drop n buffer) (omega arith)) ∙ take-append-drop n left);
      end = (λ none. nil_from_length left (omega arith), λ e. omega (arith, ap length e));
    }
