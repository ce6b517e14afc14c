-- An id's text is one that a group may have, and so is a physical volume's name.
use Rattle.std.proofs.Common.{◌≡◌, ℕ, zero, suc, ◌/◌, ◌%◌, ◌<◌, ◌&&◌, Bool, true, List, [], ◌∷◌, refl, arith, length, take, drop}
use Rattle.std.specs.Prelude.{get_or, nat_le, nat_lt, slice_index}
use Rattle.std.specs.Fmt.{digits}
use Rattle.std.specs.List.{AllByRecursion, list_all, range_with_len}
use Rattle.std.proofs.lemmas.List.Folds.{list_all-append}
use Rattle.std.proofs.lemmas.Bool.{leb-true, ltb-true}
use Rattle.hex.specs.Hex.{encode_with, lower_digits}
use Rattle.lvm_text.specs.Printed.{IsId, IsName, is_id_byte}
use Rattle.lvm_text.specs.Words.{is_name_byte}
use Rattle.lvm_group.specs.Ids.{part, parted, pv_name}
use Rattle.lvm_group.proofs.Passed.{both, all_at}
use Rattle.lvm_group.proofs.OwnText.{range_at}

-- ---- digits

are_digits : list_all (λ n. is_id_byte (slice_index lower_digits n)) (range_with_len 0 16) ≡ true
are_digits = refl

digit_is : (n : ℕ) → n < 16 → is_id_byte (slice_index lower_digits n) ≡ true
digit_is n below = all_at (λ n. is_id_byte (slice_index lower_digits n)) (range_with_len 0 16) n n are_digits (range_at 16 n below)

encoded_is : (bytes : List ℕ) → AllByRecursion (λ (byte : ℕ). byte < 256) bytes → list_all is_id_byte (encode_with lower_digits bytes) ≡ true
unfolding encode_with
encoded_is [] are = refl
encoded_is (byte ∷ bytes) are =
    let here = are.0 in rw (digit_is (byte / 16) (omega arith), digit_is (byte % 16) (omega arith)) (encoded_is bytes are.1)

-- ---- parts of a text

all_taken : (p : ℕ → Bool) (n : ℕ) (xs : List ℕ) → list_all p xs ≡ true → list_all p (take n xs) ≡ true
all_taken p zero xs all = refl
all_taken p (suc n) [] all = refl
all_taken p (suc n) (x ∷ xs) all = let is = both (p x) (list_all p xs) all in rw is.0 (all_taken p n xs is.1)

all_dropped : (p : ℕ → Bool) (n : ℕ) (xs : List ℕ) → list_all p xs ≡ true → list_all p (drop n xs) ≡ true
all_dropped p zero xs all = all
all_dropped p (suc n) [] all = refl
all_dropped p (suc n) (x ∷ xs) all = all_dropped p n xs (both (p x) (list_all p xs) all).1

part_is : (at count : ℕ) (xs : List ℕ) → list_all is_id_byte xs ≡ true → list_all is_id_byte (part at count xs) ≡ true
part_is at count xs all = all_taken is_id_byte count (drop at xs) (all_dropped is_id_byte at xs all)

parted_is : (xs : List ℕ) → list_all is_id_byte xs ≡ true → list_all is_id_byte (parted xs) ≡ true
unfolding parted
parted_is xs all =
    simp list_all-append
    (rw (part_is 0 6 xs all, part_is 6 4 xs all, part_is 10 4 xs all, part_is 14 4 xs all, part_is 18 4 xs all, part_is 22 4 xs all, part_is 26 6 xs all) refl)

pub id_is : (bytes : List ℕ) (text : List ℕ) → AllByRecursion (λ (byte : ℕ). byte < 256) bytes → length text ≡ 38 → text ≡ parted (encode_with lower_digits bytes) → IsId text
id_is bytes text are long is = record { long = long; bytes = rw is (parted_is (encode_with lower_digits bytes) (encoded_is bytes are)) }

-- ---- names

are_names : list_all (λ a. nat_lt 0 (length (pv_name a)) && (nat_le (length (pv_name a)) 32 && list_all is_name_byte (pv_name a))) (range_with_len 0 16) ≡ true
unfolding digits
are_names = refl

pub name_is : (a : ℕ) → a < 16 → IsName (pv_name a)
name_is a below =
    let all = all_at (λ a. nat_lt 0 (length (pv_name a)) && (nat_le (length (pv_name a)) 32 && list_all is_name_byte (pv_name a))) (range_with_len 0 16) a a are_names (range_at 16 a below) in
    let first = both (nat_lt 0 (length (pv_name a))) (nat_le (length (pv_name a)) 32 && list_all is_name_byte (pv_name a)) all in
    let rest = both (nat_le (length (pv_name a)) 32) (list_all is_name_byte (pv_name a)) first.1 in
    record { some = ltb-true 0 (length (pv_name a)) first.0; short = leb-true (length (pv_name a)) 32 rest.0; bytes = rest.1 }

pub each_byte : (xs : List ℕ) → ((i : ℕ) → get_or xs i 0 < 256) → AllByRecursion (λ (byte : ℕ). byte < 256) xs
each_byte [] all = tt
each_byte (x ∷ xs) all = (all 0, each_byte xs (λ i. all (suc i)))
