use Rattle.std.proofs.Common.{◌≡◌, ℕ, List, [], ◌∷◌, ◌++◌, length, bit_xor, ap, sym, ◌∙◌, refl}
use Rattle.std.specs.Int.Bits.{xor_self, xor_zero_r, xor_assoc}
use Rattle.std.proofs.lemmas.Nat.{xor_comm}
use Rattle.std.proofs.lemmas.Simd.{length-zip2, get_or-zip2, length-replicate}
use Rattle.parity.specs.Xor.{xor, xor_all, zeros, HasLength, IsXorGroup, IsParityOfRows}

xor-commutes : (a b : List ℕ) → xor a b ≡ xor b a
unfolding xor
xor-commutes [] [] = refl
xor-commutes [] (y ∷ b) = refl
xor-commutes (x ∷ a) [] = refl
xor-commutes (x ∷ a) (y ∷ b) = let head = xor_comm x y in let tail = xor-commutes a b in ap (λ (h : ℕ). h ∷ xor a b) head ∙ ap (λ (t : List ℕ). bit_xor y x ∷ t) tail

xor-associates : (a b c : List ℕ) → xor (xor a b) c ≡ xor a (xor b c)
unfolding xor
xor-associates [] b c = refl
xor-associates (x ∷ a) [] c = refl
xor-associates (x ∷ a) (y ∷ b) [] = refl
xor-associates (x ∷ a) (y ∷ b) (z ∷ c) = ap (λ (h : ℕ). h ∷ xor (xor a b) c) (xor_assoc x y z) ∙ ap (λ (t : List ℕ). bit_xor x (bit_xor y z) ∷ t) (xor-associates a b c)

xor-zeros : (a : List ℕ) → xor a (zeros (length a)) ≡ a
unfolding xor
xor-zeros [] = refl
xor-zeros (x ∷ a) = ap (λ (h : ℕ). h ∷ xor a (zeros (length a))) (xor_zero_r x) ∙ ap (λ (t : List ℕ). x ∷ t) (xor-zeros a)

xor-itself : (a : List ℕ) → xor a a ≡ zeros (length a)
unfolding xor
xor-itself [] = refl
xor-itself (x ∷ a) = ap (λ (h : ℕ). h ∷ xor a a) (xor_self x) ∙ ap (λ (t : List ℕ). 0 ∷ t) (xor-itself a)

xor-undone : (a b : List ℕ) → length a ≡ length b → xor (xor a b) b ≡ a
xor-undone a b same =
    xor-associates a b b ∙ ap (xor a) (xor-itself b) ∙ ap (λ (n : ℕ). xor a (zeros n)) (sym same) ∙ xor-zeros a

length-xor : (a b : List ℕ) → length a ≡ length b → length (xor a b) ≡ length a
unfolding xor
length-xor a b same = length-zip2 bit_xor a b same

pub xor_is_a_group : IsXorGroup
unfolding xor
xor_is_a_group = record {
  same_length = length-xor;
  byte = λ a b k low high. get_or-zip2 bit_xor a b k 0 0 0 low high;
  commutes = xor-commutes;
  associates = xor-associates;
  neutral = xor-zeros;
  own_inverse = xor-itself;
  undone = xor-undone;
}

length-xor_all : (n : ℕ) (row : List (List ℕ)) → HasLength n row → length (xor_all n row) ≡ n
unfolding xor_all
length-xor_all n [] h = length-replicate n 0
length-xor_all n (chunk ∷ row) h = length-xor chunk (xor_all n row) (h.0 ∙ sym (length-xor_all n row h.1)) ∙ h.0

xor_all-any_order : (n : ℕ) (before : List (List ℕ)) (chunk : List ℕ) (after : List (List ℕ)) → xor_all n (before ++ chunk ∷ after) ≡ xor chunk (xor_all n (before ++ after))
unfolding xor_all
xor_all-any_order n [] chunk after = refl
xor_all-any_order n (first ∷ before) chunk after =
    let others : List ℕ = xor_all n (before ++ after) in
    ap (xor first) (xor_all-any_order n before chunk after)
    ∙ sym (xor-associates first chunk others)
    ∙ ap (λ (v : List ℕ). xor v others) (xor-commutes first chunk)
    ∙ xor-associates chunk first others

xor_all-with_parity : (n : ℕ) (before after : List (List ℕ)) → HasLength n (before ++ after) → xor_all n (before ++ xor_all n (before ++ after) ∷ after) ≡ zeros n
xor_all-with_parity n before after h =
    let parity : List ℕ = xor_all n (before ++ after) in
    xor_all-any_order n before parity after ∙ xor-itself parity ∙ ap zeros (length-xor_all n (before ++ after) h)

xor_all-one_of_others : (n : ℕ) (before : List (List ℕ)) (chunk : List ℕ) (after : List (List ℕ)) → HasLength n (before ++ after) → length chunk ≡ n → xor_all n (before ++ chunk ∷ after) ≡ zeros n → chunk ≡ xor_all n (before ++ after)
xor_all-one_of_others n before chunk after h long whole =
    let others : List ℕ = xor_all n (before ++ after) in
    let same : length others ≡ n = length-xor_all n (before ++ after) h in
    let zero_sum : xor chunk others ≡ zeros n = sym (xor_all-any_order n before chunk after) ∙ whole in
    sym (xor-undone chunk others (long ∙ sym same))
    ∙ ap (λ (v : List ℕ). xor v others) zero_sum
    ∙ xor-commutes (zeros n) others
    ∙ ap (λ (m : ℕ). xor others (zeros m)) (sym same)
    ∙ xor-zeros others

xor_all-one_changed : (n : ℕ) (before : List (List ℕ)) (old new : List ℕ) (after : List (List ℕ)) → HasLength n (before ++ after) → length old ≡ n → length new ≡ n → xor_all n (before ++ new ∷ after) ≡ xor (xor (xor_all n (before ++ old ∷ after)) old) new
xor_all-one_changed n before old new after h long wide =
    let others : List ℕ = xor_all n (before ++ after) in
    let same : length others ≡ n = length-xor_all n (before ++ after) h in
    let was : xor (xor_all n (before ++ old ∷ after)) old ≡ others =
    ap (λ (v : List ℕ). xor v old) (xor_all-any_order n before old after ∙ xor-commutes old others) ∙ xor-undone others old (same ∙ sym long) in
    xor_all-any_order n before new after ∙ xor-commutes new others ∙ ap (λ (v : List ℕ). xor v new) (sym was)

pub parity_restores : IsParityOfRows
parity_restores = record {
  same_length = length-xor_all;
  any_order = xor_all-any_order;
  with_parity = xor_all-with_parity;
  one_of_others = xor_all-one_of_others;
  one_changed = xor_all-one_changed;
}
