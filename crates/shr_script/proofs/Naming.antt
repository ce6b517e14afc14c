-- Lemmas on names.
use Rattle.std.proofs.Common.{◌≡◌, ℕ, ◌≤◌, Bool, true, false, ◌&&◌, nat_le, List, length, None, refl, ap, arith}
use Rattle.std.specs.Prelude.{IsUtf8}
use Rattle.std.specs.Str.{is_utf8}
use Rattle.std.proofs.lemmas.Str.{IsUtf8-from_is_utf8, is_utf8-from_IsUtf8}
use Rattle.std.proofs.lemmas.Bool.Decides.{nat_tests}
use Rattle.shr_script.specs.Names.{name_of, plain_of}

-- the name of a word of UTF-8
pub name_of-plain : (word text : List ℕ) → 1 ≤ length word → length word ≤ 255 → IsUtf8 word → text ≡ word → plain_of text ≡ name_of word
name_of-plain word text some short valid same =
    let is : is_utf8 word ≡ true = is_utf8-from_IsUtf8 word valid in
    let low : nat_le 1 (length word) ≡ true = grind (arith, nat_tests) in
    let high : nat_le (length word) 255 ≡ true = grind (arith, nat_tests) in
    rw (low, high, is) (ap plain_of same)

never : (q : Bool) → (q && false) ≡ false
never true = refl
never false = refl

-- other bytes are no name
pub name_of-other : (word : List ℕ) → ¬ (IsUtf8 word) → None ≡ name_of word
name_of-other word invalid =
    elim (is_utf8 word) as (λ b. is_utf8 word ≡ b → None ≡ name_of word) [
      | true ↦ λ is. absurd (invalid (IsUtf8-from_is_utf8 word is))
      | false ↦ λ is. rw (is, never (nat_le 1 (length word) && nat_le (length word) 255)) refl
    ] refl
