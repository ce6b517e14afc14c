-- Lemmas on words, numbers and sectors in a line.
use Rattle.std.proofs.Common.{◌≡◌, ℕ, ◌+◌, ◌-◌, ◌*◌, ◌<◌, ◌≤◌, ◌^◌, Bool, true, false, cond, List, [], ◌∷◌, ◌++◌, length, take, drop, replicate, get_or, position, Option, Some, None, Ok, refl, sym, ap, subst, arith}
use Rattle.std.proofs.Math.Nat.{pow-succ'}
use Rattle.std.proofs.lemmas.Bool.Decides.{nat_tests}
use Rattle.std.proofs.lemmas.Int.Digits.{digits_value_more}
use Rattle.std.proofs.lemmas.List.{take_all, drop-replicate}
use Rattle.std.proofs.lemmas.List.Splits.{slice_split_first, slice_split_none}
use Rattle.std.proofs.lemmas.List.Sums.{fails_before_first, position_or_len_is, AllPass-from_list_all}
use Rattle.std.proofs.Common.{length-drop, get_or, add-one, nat_le, ◌&&◌, ◌==◌, if◌then◌else◌, ◌∙◌}
use Rattle.std.specs.Char.{digit_value, is_ascii_digit}
use Rattle.std.specs.Str.Parse.{digits_value}
use Rattle.hex.specs.Hex.{decode_of}
use Rattle.std.specs.List.{list_all, slice_split, onto_first, position_or_len}
use Rattle.memchr.specs.Find.{IsFirstByte, is_byte}
use Rattle.shr_script.proofs.ReadingLemmas.{not_true}
use Rattle.shr_script.specs.declared.Command.{Command}
use Rattle.shr_script.specs.Line.{wrong, is_space, alone, only_number, write_words, fill_words, replace_words, add_words, sector_of, byte_if, byte_of}

-- where a place is found, it is the first one that passes
pub position-found :
    (p : ℕ → Bool) (xs : List ℕ) (i : ℕ)
    → position p xs ≡ Some i
    → (position_or_len p xs ≡ i) × (i < length xs)
position-found p xs i found = grind arith

-- where none is found, none passes
pub position-none : (p : ℕ → Bool) (xs : List ℕ) → position p xs ≡ None → length xs ≤ position_or_len p xs
position-none p xs none = grind arith

-- the place of the first space, as a search gives it
pub first_place : (xs : List ℕ) (found : Option ℕ) → IsFirstByte (is_byte 32) xs found → found ≡ position is_space xs
first_place xs None none =
    let at : position_or_len is_space xs ≡ length xs =
    position_or_len_is is_space xs (length xs) 0 (omega arith) (λ k below. not_true (is_space (get_or xs k 0)) (none k (omega arith) below)) (λ below. absurd (omega arith)) in
    grind arith
first_place xs (Some i) first =
    let inside : i < length xs = first.0.high in
    let at : position_or_len is_space xs ≡ i =
    position_or_len_is is_space xs i 0 (omega arith) (λ k below. not_true (is_space (get_or xs k 0)) (first.0.before k (omega arith) below)) (λ below. first.1) in
    grind arith

-- a line that is cut at its first space
pub cut_at_space :
    (xs : List ℕ) (i : ℕ)
    → position is_space xs ≡ Some i
    → slice_split is_space xs ≡ take i xs ∷ slice_split is_space (take (length xs - (i + 1)) (drop (i + 1) xs))
cut_at_space xs i found =
    let at = position-found is_space xs i found in
    let rest : take (length xs - (i + 1)) (drop (i + 1) xs) ≡ drop (i + 1) xs =
    take_all (length xs - (i + 1)) (drop (i + 1) xs) (omega (arith, length-drop (i + 1) xs)) in
    let inside : position_or_len is_space xs < length xs = omega arith in
    let whole = slice_split_first is_space xs 0 inside in
    subst
    (λ r. slice_split is_space xs ≡ take i xs ∷ slice_split is_space r)
    (sym rest)
    (subst
    (λ n. slice_split is_space xs ≡ take n xs ∷ slice_split is_space (drop (n + 1) xs))
    at.0
    whole)

-- a line without a space is one word
pub no_space : (xs : List ℕ) → position is_space xs ≡ None → slice_split is_space xs ≡ xs ∷ []
no_space xs none =
    slice_split_none is_space xs
    (λ k d below.
    fails_before_first is_space xs k d
    (let past = position-none is_space xs none in omega arith))

-- one element at least comes first of a list that begins with one
onto_first-begins :
    (b : ℕ) (parts : List (List ℕ))
    → (w : List ℕ) × (ws : List (List ℕ)) × (onto_first b parts ≡ w ∷ ws)
onto_first-begins b [] = (b ∷ [], [], refl)
onto_first-begins b (part ∷ parts) = (b ∷ part, parts, refl)

-- a choice of two lists that begin
cond-begins :
    (q : Bool) (xs ys : List (List ℕ))
    → ((w : List ℕ) × (ws : List (List ℕ)) × (xs ≡ w ∷ ws))
    → ((w : List ℕ) × (ws : List (List ℕ)) × (ys ≡ w ∷ ws))
    → (w : List ℕ) × (ws : List (List ℕ)) × (cond q xs ys ≡ w ∷ ws)
cond-begins true xs ys one two = one
cond-begins false xs ys one two = two

-- a text has one part at least
pub split-begins :
    (p : ℕ → Bool) (xs : List ℕ) → (w : List ℕ) × (ws : List (List ℕ)) × (slice_split p xs ≡ w ∷ ws)
split-begins p [] = ([], [], refl)
split-begins p (x ∷ xs) =
    cond-begins
    (p x)
    ([] ∷ slice_split p xs)
    (onto_first x (slice_split p xs))
    ([], slice_split p xs, refl)
    (onto_first-begins x (slice_split p xs))

-- a word with another one after it doesn't stand alone
pub only_number-more : (w xs : List ℕ) → only_number (w ∷ slice_split is_space xs) ≡ None
only_number-more w xs =
    let begins = split-begins is_space xs in
    subst (λ ws. only_number (w ∷ ws) ≡ None) (sym begins.2) refl

-- a number and digits with another word after them are no line
pub write_words-more : (v w xs : List ℕ) → write_words (v ∷ w ∷ slice_split is_space xs) ≡ wrong
write_words-more v w xs =
    let begins = split-begins is_space xs in
    subst (λ ws. write_words (v ∷ w ∷ ws) ≡ wrong) (sym begins.2) refl

-- and so are a place and a name
pub replace_words-more : (v w xs : List ℕ) → replace_words (v ∷ w ∷ slice_split is_space xs) ≡ wrong
replace_words-more v w xs =
    let begins = split-begins is_space xs in
    subst (λ ws. replace_words (v ∷ w ∷ ws) ≡ wrong) (sym begins.2) refl

-- and so is a name with another word after it
pub add_words-more : (w xs : List ℕ) → add_words (w ∷ slice_split is_space xs) ≡ wrong
add_words-more w xs =
    let begins = split-begins is_space xs in
    subst (λ ws. add_words (w ∷ ws) ≡ wrong) (sym begins.2) refl

-- and so are two numbers and digits
pub fill_words-more : (u v w xs : List ℕ) → fill_words (u ∷ v ∷ w ∷ slice_split is_space xs) ≡ wrong
fill_words-more u v w xs =
    let begins = split-begins is_space xs in
    subst (λ ws. fill_words (u ∷ v ∷ w ∷ ws) ≡ wrong) (sym begins.2) refl

-- the code of a digit is 48 above its value
pub digit_value-digit : (c : ℕ) → is_ascii_digit c ≡ true → digit_value c ≡ c - 48
digit_value-digit c digit = grind (arith, nat_tests)

-- and its value is below ten
pub digit-small : (c : ℕ) → is_ascii_digit c ≡ true → c - 48 < 10
digit-small c digit = grind (arith, nat_tests)

-- a digit of a word of digits
pub digit_in :
    (word : List ℕ) (i : ℕ)
    → list_all is_ascii_digit word ≡ true
    → i < length word
    → is_ascii_digit (get_or word i 0) ≡ true
digit_in word i digits inside = AllPass-from_list_all is_ascii_digit word digits i 0 inside

-- one digit more
pub more_digits :
    (word : List ℕ) (i value : ℕ)
    → list_all is_ascii_digit word ≡ true
    → i < length word
    → value ≡ digits_value 10 (take i word)
    → value * 10 + (get_or word i 0 - 48) ≡ digits_value 10 (take (i + 1) word)
more_digits word i value digits inside is =
    let more = digits_value_more 10 word i inside in
    let one = digit_value-digit (get_or word i 0) (digit_in word i digits inside) in
    rw more (rw one (ap (λ n. n * 10 + (get_or word i 0 - 48)) is))

-- and the value stays as small
pub more_small :
    (word : List ℕ) (i value : ℕ)
    → list_all is_ascii_digit word ≡ true
    → i < length word
    → value < 10 ^ i
    → value * 10 + (get_or word i 0 - 48) < 10 ^ (i + 1)
more_small word i value digits inside small =
    let one = digit-small (get_or word i 0) (digit_in word i digits inside) in
    let power : 10 ^ (i + 1) ≡ 10 * 10 ^ i = rw add-one (pow-succ' 10 i) in
    rw power (omega arith)

-- decoded digits, filled up with zeros
pub sector_of-decoded :
    (digits sector bytes : List ℕ)
    → 2 ≤ length digits
    → length digits ≤ 1024
    → decode_of digits ≡ Ok bytes
    → sector ≡ bytes ++ drop (length bytes) (replicate 512 0)
    → Some sector ≡ sector_of digits
sector_of-decoded digits sector bytes least most decoded is =
    let room : nat_le 2 (length digits) && nat_le (length digits) 1024 ≡ true = grind (arith, nat_tests) in
    rw (room, decoded, is, drop-replicate {X = ℕ} (length bytes) 512 0) refl

-- a word with another one after it doesn't stand alone
pub alone-more : (c : Command) (xs : List ℕ) → alone c (slice_split is_space xs) ≡ wrong
alone-more c xs = let begins = split-begins is_space xs in subst (λ ws. alone c ws ≡ wrong) (sym begins.2) refl

-- two digits that are decoded to one byte
pub byte_of-decoded :
    (digits bytes : List ℕ)
    → length digits ≡ 2
    → decode_of digits ≡ Ok bytes
    → length bytes ≡ 1
    → Some (get_or bytes 0 0) ≡ byte_of digits
byte_of-decoded digits [] two decoded one = absurd (omega arith)
byte_of-decoded digits (byte ∷ bytes) two decoded one =
    sym (ap (λ n. if n == 2 then byte_if (decode_of digits) else None) two ∙ ap byte_if decoded)
