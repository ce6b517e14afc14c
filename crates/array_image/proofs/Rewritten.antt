-- A stripe with one sector and its parity rewritten agrees again.
use Rattle.std.proofs.Common.{◌≡◌, ℕ, List, ◌∷◌, ◌++◌, length, sym, ap, ◌∙◌, append_assoc}
use Rattle.parity.specs.Xor.{xor, xor_all, zeros}
use Rattle.parity.proofs.Laws.{xor_is_a_group, parity_restores}

-- an agreeing row's XOR, with one sector taken first
taken_first : (before : List (List ℕ)) (v : List ℕ) (after : List (List ℕ)) → xor_all 512 (before ++ v ∷ after) ≡ xor v (xor_all 512 (before ++ after))
taken_first before v after = parity_restores.any_order 512 before v after

-- new ^ old ^ new is old
undone : (p old new : List ℕ) → length new ≡ length old → length p ≡ length old → xor new (xor (xor p old) new) ≡ xor p old
undone p old new same wide =
    xor_is_a_group.commutes new (xor (xor p old) new)
    ∙ xor_is_a_group.undone (xor p old) new (xor_is_a_group.same_length p old wide ∙ wide ∙ sym same)

-- two sectors of a row, taken first
both_first : (b : List (List ℕ)) (v : List ℕ) (m : List (List ℕ)) (p : List ℕ) (a : List (List ℕ))
    → xor_all 512 (b ++ v ∷ (m ++ p ∷ a)) ≡ xor (xor v p) (xor_all 512 ((b ++ m) ++ a))
both_first b v m p a =
    taken_first b v (m ++ p ∷ a)
    ∙ ap (λ (r : List (List ℕ)). xor v (xor_all 512 r)) (sym (append_assoc b m (p ∷ a)))
    ∙ ap (xor v) (taken_first (b ++ m) p a)
    ∙ sym (xor_is_a_group.associates v p (xor_all 512 ((b ++ m) ++ a)))

-- the parity after a write of one sector: the old parity, the old sector and the new one
pub rewritten_row : (b : List (List ℕ)) (old new : List ℕ) (m : List (List ℕ)) (p : List ℕ) (a : List (List ℕ))
    → length new ≡ length old → length p ≡ length old
    → xor_all 512 (b ++ old ∷ (m ++ p ∷ a)) ≡ zeros 512
    → xor_all 512 (b ++ new ∷ (m ++ xor (xor p old) new ∷ a)) ≡ zeros 512
rewritten_row b old new m p a same wide agree =
    both_first b new m (xor (xor p old) new) a
    ∙ ap (λ (v : List ℕ). xor v (xor_all 512 ((b ++ m) ++ a))) (undone p old new same wide ∙ xor_is_a_group.commutes p old)
    ∙ sym (both_first b old m p a)
    ∙ agree
