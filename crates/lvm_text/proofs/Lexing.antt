-- Texts that read as words, piece by piece.
use Rattle.std.proofs.Common.{◌≡◌, ℕ, zero, suc, ◌+◌, ◌-◌, ◌≤◌, ◌<◌, ◌^◌, Bool, true, false, eqb, List, [], ◌∷◌, ◌++◌, length, take, drop, fold, codes, decimal, Option, Some, Result, Ok, refl, sym, ap, subst, ◌∙◌, append_assoc, arith, rules, ◌||◌, not, nat_lt, lt-ltb, ne_eqb}
use Rattle.std.proofs.lemmas.Bool.{and_parts, both_ways, cond-false, cond-true, or_left}
use Rattle.std.proofs.lemmas.List.{length-append}
use Rattle.std.proofs.Math.Seq.{take-append_seam, drop-append_seam}
use Rattle.std.specs.List.{prefix_len, list_all}
use Rattle.std.proofs.lemmas.Str.Parse.{IsNumeralModel, numerals_by_fold}
use Rattle.std.proofs.lemmas.Fmt.{digits_decimal, digits_value-decimal, decimal_nonempty}
use Rattle.lvm_text.specs.declared.words.Word.{Word}
use Rattle.lvm_text.specs.declared.words.Word.TheVariants as word
use Rattle.lvm_text.specs.declared.words.Turn.{Turn}
use Rattle.lvm_text.specs.declared.words.Turn.TheVariants as turn
use Rattle.lvm_text.specs.declared.words.Place.{Place}
use Rattle.lvm_text.specs.Words.{◌>>=◌, below_64, body_at, by_turn, digits_at, digits_value, first_value_at, integer_at, is_digit, is_name_byte, item_at, past_blanks, past_value, separator_at, start, string_at, value_at, whole, with_digit, with_word, words_at, words_by}
use Rattle.lvm_text.proofs.Texts.{word_read, words_at-suc}

-- ---- bytes

-- a byte that passes a test is none that doesn't
other_than : (test : ℕ → Bool) (byte wrong : ℕ) → test byte ≡ true → test wrong ≡ false → eqb byte wrong ≡ false
other_than test byte wrong passes fails = ne_eqb byte wrong (λ (e : byte ≡ wrong). both_ways (test byte) (ap test e ∙ fails) passes)

-- a byte that passes a test where blanks and `#` don't begins a word
stays : (test : ℕ → Bool) (byte : ℕ) (bytes : List ℕ) → test byte ≡ true → test 35 ≡ false → test 32 ≡ false → test 9 ≡ false → test 10 ≡ false → test 13 ≡ false
    → past_blanks false (byte ∷ bytes) ≡ byte ∷ bytes
unfolding past_blanks
stays test byte bytes passes sharp space tab feed return =
    rw (other_than test byte 35 passes sharp, other_than test byte 32 passes space, other_than test byte 9 passes tab, other_than test byte 10 passes feed, other_than test byte 13 passes return)
    refl

-- a test holds up to a byte that fails it
up_to : (test : ℕ → Bool) (bytes : List ℕ) (byte : ℕ) (rest : List ℕ) → list_all test bytes ≡ true → test byte ≡ false → prefix_len test (bytes ++ byte ∷ rest) ≡ length bytes
up_to test [] byte rest all fails = rw fails refl
up_to test (first ∷ bytes) byte rest all fails =
    let parts = and_parts (test first) (list_all test bytes) all in rw (parts.0, up_to test bytes byte rest parts.1 fails) (omega arith)

-- what stands before that byte, and what from it on
parted : (test : ℕ → Bool) (bytes : List ℕ) (byte : ℕ) (rest : List ℕ) → list_all test bytes ≡ true → test byte ≡ false
    → ◌≡◌ {A = List ℕ × List ℕ} (take (prefix_len test (bytes ++ byte ∷ rest)) (bytes ++ byte ∷ rest), drop (prefix_len test (bytes ++ byte ∷ rest)) (bytes ++ byte ∷ rest)) (bytes, byte ∷ rest)
parted test bytes byte rest all fails =
    rw (up_to test bytes byte rest all fails, take-append_seam bytes (byte ∷ rest), drop-append_seam bytes (byte ∷ rest)) refl

-- ---- what is read from a place on, under any bound that serves

pub record Reads (place : Place) (bytes : List ℕ) (words : List Word) : Type 0 where
  pub by_bound : (n : ℕ) → length bytes < n → words_at n place bytes ≡ Ok words

past_blank_by : (n : ℕ) (place : Place) (byte : ℕ) (bytes : List ℕ) (words : List Word) → past_blanks false (byte ∷ bytes) ≡ past_blanks false bytes
    → Reads place bytes words → length (byte ∷ bytes) < n → words_at n place (byte ∷ bytes) ≡ Ok words
past_blank_by zero place byte bytes words skips reads enough = absurd (omega arith)
past_blank_by (suc m) place byte bytes words skips reads enough =
    words_at-suc m place (byte ∷ bytes) ∙ ap (words_by (words_at m) place) skips ∙ sym (words_at-suc m place bytes)
    ∙ reads.by_bound (suc m) (omega arith)

-- a blank before a word
pub past_blank : (place : Place) (byte : ℕ) (bytes : List ℕ) (words : List Word) → past_blanks false (byte ∷ bytes) ≡ past_blanks false bytes
    → Reads place bytes words → Reads place (byte ∷ bytes) words
past_blank place byte bytes words skips reads = record { by_bound = λ n enough. past_blank_by n place byte bytes words skips reads enough }

past_word_by : (n : ℕ) (place next : Place) (byte : ℕ) (bytes rest : List ℕ) (w : Word) (words : List Word) → past_blanks false (byte ∷ bytes) ≡ byte ∷ bytes → eqb byte 0 ≡ false
    → by_turn place.turn place byte bytes ≡ Ok (w, next, rest) → length rest ≤ length bytes → Reads next rest words → length (byte ∷ bytes) < n → words_at n place (byte ∷ bytes) ≡ Ok (w ∷ words)
past_word_by zero place next byte bytes rest w words begins more read short reads enough = absurd (omega arith)
past_word_by (suc m) place next byte bytes rest w words begins more read short reads enough =
    words_at-suc m place (byte ∷ bytes) ∙ ap (words_by (words_at m) place) begins ∙ word_read m place byte bytes (w, next, rest) more read
    ∙ ap (with_word w) (reads.by_bound m (omega arith))

-- a word
pub past_word : (place next : Place) (byte : ℕ) (bytes rest : List ℕ) (w : Word) (words : List Word) → past_blanks false (byte ∷ bytes) ≡ byte ∷ bytes → eqb byte 0 ≡ false
    → by_turn place.turn place byte bytes ≡ Ok (w, next, rest) → length rest ≤ length bytes → Reads next rest words → Reads place (byte ∷ bytes) (w ∷ words)
past_word place next byte bytes rest w words begins more read short reads =
    record { by_bound = λ n enough. past_word_by n place next byte bytes rest w words begins more read short reads enough }

-- ---- pieces of a text

-- a piece of text from one place to the next: its words stand before those of whatever follows
pub record Piece (place : Place) (text : List ℕ) (words : List Word → List Word) (next : Place) : Type 0 where
  pub reads : (rest : List ℕ) (others : List Word) → Reads next rest others → Reads place (text ++ rest) (words others)

-- one piece behind the other
infixl 10 ◌⨾◌
pub ◌⨾◌ : {p q r : Place} {t u : List ℕ} {f g : List Word → List Word} → Piece p t f q → Piece q u g r → Piece p (t ++ u) (λ ws. f (g ws)) r
◌⨾◌ {p} {q} {r} {t} {u} {f} {g} a b = record {
  reads = λ rest others h. rw append_assoc (a.reads (u ++ rest) (g others) (b.reads rest others h));
}

pub nothing : (p : Place) → Piece p [] (λ ws. ws) p
nothing p = record { reads = λ rest others h. h }

pub same_text : {p q : Place} {t u : List ℕ} {f : List Word → List Word} → t ≡ u → Piece p t f q → Piece p u f q
same_text {p} {q} {t} {u} {f} e a = subst (λ (x : List ℕ). Piece p x f q) e a

-- a blank before what follows
blank_before : (place : Place) (rest : List ℕ) (words : List Word) → Reads place rest words → Reads place (32 ∷ rest) words
unfolding past_blanks
blank_before place rest words reads = past_blank place 32 rest words refl reads

line_end_before : (place : Place) (rest : List ℕ) (words : List Word) → Reads place rest words → Reads place (10 ∷ rest) words
unfolding past_blanks
line_end_before place rest words reads = past_blank place 10 rest words refl reads

-- so many sections and lists are open
abbrev pub at : ℕ → ℕ → Turn → Place
at sections lists turn = record { sections = sections; lists = lists; turn = turn }

-- between the items of a section
abbrev pub item : ℕ → Place
item sections = at sections 0 turn.Item

pub equals : (k : ℕ) → Piece (at k 0 turn.Body) (codes "= ") (λ ws. word.Equals ∷ ws) (at k 0 turn.Value)
unfolding past_blanks body_at
equals k = record {
  reads = λ rest others h.
      past_word (at k 0 turn.Body) (at k 0 turn.Value) 61 (32 ∷ rest) (32 ∷ rest) word.Equals others refl refl refl (omega arith)
      (past_blank (at k 0 turn.Value) 32 rest others refl h);
}

pub open_section : (k : ℕ) → nat_lt k 8 ≡ true → Piece (at k 0 turn.Body) (codes "{\n") (λ ws. word.Open ∷ ws) (item (k + 1))
unfolding past_blanks body_at
open_section k few = record {
  reads = λ rest others h.
      past_word (at k 0 turn.Body) (item (k + 1)) 123 (10 ∷ rest) (10 ∷ rest) word.Open others refl refl (rw few refl) (omega arith)
      (past_blank (item (k + 1)) 10 rest others refl h);
}

abbrev name_word : List ℕ → List Word → List Word
name_word name words = word.Name name ∷ words

named : (k byte : ℕ) (bytes rest : List ℕ) → list_all is_name_byte (byte ∷ bytes) ≡ true
    → item_at (item k) byte (bytes ++ 32 ∷ rest) ≡ Ok (word.Name (byte ∷ bytes), at k 0 turn.Body, 32 ∷ rest)
unfolding item_at
named k byte bytes rest all =
    let parts = and_parts (is_name_byte byte) (list_all is_name_byte bytes) all in
    cond-true (is_name_byte byte) _ _ parts.0
    ∙ ap (λ (x : List ℕ × List ℕ). Ok (word.Name x.0, at k 0 turn.Body, x.1)) (parted is_name_byte (byte ∷ bytes) 32 rest all refl)

-- an item's name, and the blank behind it
pub name : (k : ℕ) (name : List ℕ) → 0 < length name → list_all is_name_byte name ≡ true → Piece (item k) (name ++ codes " ") (name_word name) (at k 0 turn.Body)
name k [] some all = absurd (omega arith)
name k (byte ∷ bytes) some all = record {
  reads = λ rest others h.
      let parts = and_parts (is_name_byte byte) (list_all is_name_byte bytes) all in
      let bound : length (32 ∷ rest) ≤ length (bytes ++ 32 ∷ rest) = omega (arith, length-append bytes (32 ∷ rest)) in
      rw append_assoc
      (past_word (item k) (at k 0 turn.Body) byte (bytes ++ 32 ∷ rest) (32 ∷ rest) (word.Name (byte ∷ bytes)) others
      (stays is_name_byte byte (bytes ++ 32 ∷ rest) parts.0 refl refl refl refl refl) (other_than is_name_byte byte 0 parts.0 refl)
      (named k byte bytes rest all) bound (blank_before (at k 0 turn.Body) rest others h));
}

-- the end of a line
pub line_end : (p : Place) → Piece p (codes "\n") (λ ws. ws) p
line_end p = record { reads = λ rest others h. line_end_before p rest others h }

-- ---- strings

-- stands in a string as itself
abbrev pub is_plain : ℕ → Bool
is_plain byte = not (eqb byte 34 || eqb byte 0 || eqb byte 92)

pub plain_byte : (test : ℕ → Bool) (byte : ℕ) → test byte ≡ true → test 34 ≡ false → test 0 ≡ false → test 92 ≡ false → is_plain byte ≡ true
plain_byte test byte passes quote nul back = rw (other_than test byte 34 passes quote, other_than test byte 0 passes nul, other_than test byte 92 passes back) refl

quoted : (text rest : List ℕ) → list_all is_plain text ≡ true → string_at false (text ++ 34 ∷ rest) ≡ Ok (text, rest)
unfolding string_at
quoted [] rest all = refl
quoted (byte ∷ bytes) rest all =
    let parts = and_parts (is_plain byte) (list_all is_plain bytes) all in
    rw (other_than is_plain byte 34 parts.0 refl, other_than is_plain byte 0 parts.0 refl, other_than is_plain byte 92 parts.0 refl, quoted bytes rest parts.1)
    refl

string_value : (k l : ℕ) (text rest : List ℕ) → list_all is_plain text ≡ true
    → value_at (at k l turn.Value) 34 (text ++ 34 ∷ rest) ≡ Ok (word.Text text, past_value (at k l turn.Value), rest)
unfolding value_at
string_value k l text rest all = rw (quoted text rest all) refl

-- a string
pub string : (k l : ℕ) (text : List ℕ) → list_all is_plain text ≡ true → Piece (at k l turn.Value) (34 ∷ (text ++ codes "\"")) (λ ws. word.Text text ∷ ws) (past_value (at k l turn.Value))
unfolding past_blanks
string k l text all = record {
  reads = λ rest others h.
      let bound : length rest ≤ length (text ++ 34 ∷ rest) = omega (arith, length-append text (34 ∷ rest)) in
      rw append_assoc
      (past_word (at k l turn.Value) (past_value (at k l turn.Value)) 34 (text ++ 34 ∷ rest) rest (word.Text text) others refl refl (string_value k l text rest all) bound h);
}

-- ---- numbers

pub numerals : IsNumeralModel (λ ds. list_all is_digit ds ≡ true) digits_value
numerals = numerals_by_fold _ (search rules) (λ n ds. fold with_digit n ds) (search rules)

pub all_digits : (n : ℕ) → n < 2 ^ 64 → list_all is_digit (decimal n) ≡ true
all_digits n fits = digits_decimal numerals n fits

pub counted : (n : ℕ) → n < 2 ^ 64 → below_64 n ≡ Some n
counted n fits = rw (lt-ltb n (2 ^ 64) fits) refl

integer : (digits : List ℕ) (byte : ℕ) (rest : List ℕ) (n : ℕ) → 0 < length digits → list_all is_digit digits ≡ true → digits_value digits ≡ n → n < 2 ^ 64 → is_digit byte ≡ false
    → digits_at false (digits ++ byte ∷ rest) ≡ Ok (Some n, byte ∷ rest)
integer digits byte rest n some all value fits ends =
    let count : prefix_len is_digit (digits ++ byte ∷ rest) ≡ length digits = up_to is_digit digits byte rest all ends in
    let more : eqb (prefix_len is_digit (digits ++ byte ∷ rest)) 0 ≡ false = ne_eqb (prefix_len is_digit (digits ++ byte ∷ rest)) 0 (λ (e : prefix_len is_digit (digits ++ byte ∷ rest) ≡ 0). absurd (omega arith)) in
    cond-false (eqb (prefix_len is_digit (digits ++ byte ∷ rest)) 0) _ _ more
    ∙ ap (λ (x : List ℕ × List ℕ). Ok (whole false (digits_value x.0), x.1)) (parted is_digit digits byte rest all ends)
    ∙ ap (λ (x : Option ℕ). Ok (x, byte ∷ rest)) (ap below_64 value ∙ counted n fits)

number_value : (k l digit : ℕ) (digits : List ℕ) (byte : ℕ) (rest : List ℕ) (n : ℕ) → list_all is_digit (digit ∷ digits) ≡ true → digits_value (digit ∷ digits) ≡ n → n < 2 ^ 64 → is_digit byte ≡ false
    → value_at (at k l turn.Value) digit (digits ++ byte ∷ rest) ≡ Ok (word.Number (Some n), past_value (at k l turn.Value), byte ∷ rest)
unfolding value_at integer_at
number_value k l digit digits byte rest n all value fits ends =
    let parts = and_parts (is_digit digit) (list_all is_digit digits) all in
    let read : integer_at (digit ∷ (digits ++ byte ∷ rest)) ≡ Ok (Some n, byte ∷ rest) =
    cond-false (eqb digit 45) _ _ (other_than is_digit digit 45 parts.0 refl) ∙ integer (digit ∷ digits) byte rest n (omega arith) all value fits ends in
    cond-true (is_digit digit || eqb digit 45) _ _ (or_left (is_digit digit) (eqb digit 45) parts.0)
    ∙ ap (λ (r : Result (Option ℕ × List ℕ) ℕ). r >>= (λ (x : Option ℕ × List ℕ). Ok (word.Number x.0, past_value (at k l turn.Value), x.1))) read

digits_before : (k l : ℕ) (digits : List ℕ) (byte : ℕ) (rest : List ℕ) (n : ℕ) (words : List Word) → 0 < length digits → list_all is_digit digits ≡ true → digits_value digits ≡ n → n < 2 ^ 64 → is_digit byte ≡ false
    → Reads (past_value (at k l turn.Value)) (byte ∷ rest) words → Reads (at k l turn.Value) (digits ++ byte ∷ rest) (word.Number (Some n) ∷ words)
digits_before k l [] byte rest n words some all value fits ends reads = absurd (omega arith)
digits_before k l (digit ∷ digits) byte rest n words some all value fits ends reads =
    let parts = and_parts (is_digit digit) (list_all is_digit digits) all in
    let bound : length (byte ∷ rest) ≤ length (digits ++ byte ∷ rest) = omega (arith, length-append digits (byte ∷ rest)) in
    past_word (at k l turn.Value) (past_value (at k l turn.Value)) digit (digits ++ byte ∷ rest) (byte ∷ rest) (word.Number (Some n)) words
    (stays is_digit digit (digits ++ byte ∷ rest) parts.0 refl refl refl refl refl) (other_than is_digit digit 0 parts.0 refl)
    (number_value k l digit digits byte rest n all value fits ends) bound reads

-- a number before a byte that is no digit
number_before : (k l byte : ℕ) (rest : List ℕ) (n : ℕ) (words : List Word) → n < 2 ^ 64 → is_digit byte ≡ false
    → Reads (past_value (at k l turn.Value)) (byte ∷ rest) words → Reads (at k l turn.Value) (decimal n ++ byte ∷ rest) (word.Number (Some n) ∷ words)
number_before k l byte rest n words fits ends reads =
    digits_before k l (decimal n) byte rest n words (decimal_nonempty n fits) (digits_decimal numerals n fits) (digits_value-decimal numerals n fits) fits ends reads

-- a number to the end of its line
pub number : (k n : ℕ) → n < 2 ^ 64 → Piece (at k 0 turn.Value) (decimal n ++ codes "\n") (λ ws. word.Number (Some n) ∷ ws) (item k)
number k n fits = record {
  reads = λ rest others h. rw append_assoc (number_before k 0 10 rest n others fits refl (line_end_before (item k) rest others h));
}

-- ---- lists

pub open_list : (k : ℕ) → Piece (at k 0 turn.Value) (codes "[") (λ ws. word.ListOpen ∷ ws) (at k 1 turn.FirstValue)
unfolding past_blanks value_at
open_list k = record {
  reads = λ rest others h. past_word (at k 0 turn.Value) (at k 1 turn.FirstValue) 91 rest rest word.ListOpen others refl refl refl (omega arith) h;
}

first_value : (k : ℕ) (text rest : List ℕ) → list_all is_plain text ≡ true → first_value_at (at k 1 turn.FirstValue) 34 (text ++ 34 ∷ rest) ≡ Ok (word.Text text, at k 1 turn.Separator, rest)
unfolding first_value_at value_at
first_value k text rest all = rw (quoted text rest all) refl

pub first_string : (k : ℕ) (text : List ℕ) → list_all is_plain text ≡ true → Piece (at k 1 turn.FirstValue) (34 ∷ (text ++ codes "\"")) (λ ws. word.Text text ∷ ws) (at k 1 turn.Separator)
unfolding past_blanks first_value_at
first_string k text all = record {
  reads = λ rest others h.
      let bound : length rest ≤ length (text ++ 34 ∷ rest) = omega (arith, length-append text (34 ∷ rest)) in
      rw append_assoc
      (past_word (at k 1 turn.FirstValue) (at k 1 turn.Separator) 34 (text ++ 34 ∷ rest) rest (word.Text text) others refl refl (first_value k text rest all) bound h);
}

pub comma : (k : ℕ) → Piece (at k 1 turn.Separator) (codes ", ") (λ ws. word.Comma ∷ ws) (at k 1 turn.Value)
unfolding past_blanks separator_at
comma k = record {
  reads = λ rest others h.
      past_word (at k 1 turn.Separator) (at k 1 turn.Value) 44 (32 ∷ rest) (32 ∷ rest) word.Comma others refl refl refl (omega arith)
      (blank_before (at k 1 turn.Value) rest others h);
}

close_list_before : (k : ℕ) (rest : List ℕ) (words : List Word) → Reads (item k) rest words → Reads (at k 1 turn.Separator) (93 ∷ rest) (word.ListClose ∷ words)
unfolding past_blanks separator_at
close_list_before k rest words h = past_word (at k 1 turn.Separator) (item k) 93 rest rest word.ListClose words refl refl refl (omega arith) h

-- the end of a list and of its line
pub close_list : (k : ℕ) → Piece (at k 1 turn.Separator) (codes "]\n") (λ ws. word.ListClose ∷ ws) (item k)
close_list k = record { reads = λ rest others h. close_list_before k (10 ∷ rest) others (line_end_before (item k) rest others h) }

pub no_list : (k : ℕ) → Piece (at k 0 turn.Value) (codes "[]\n") (λ ws. word.ListOpen ∷ word.ListClose ∷ ws) (item k)
unfolding past_blanks value_at first_value_at
no_list k = record {
  reads = λ rest others h.
      past_word (at k 0 turn.Value) (at k 1 turn.FirstValue) 91 (93 ∷ 10 ∷ rest) (93 ∷ 10 ∷ rest) word.ListOpen (word.ListClose ∷ others) refl refl refl (omega arith)
      (past_word (at k 1 turn.FirstValue) (item k) 93 (10 ∷ rest) (10 ∷ rest) word.ListClose others refl refl refl (omega arith) (line_end_before (item k) rest others h));
}

-- a number at the end of a list
pub last_number : (k n : ℕ) → n < 2 ^ 64 → Piece (at k 1 turn.Value) (decimal n ++ codes "]\n") (λ ws. word.Number (Some n) ∷ word.ListClose ∷ ws) (item k)
last_number k n fits = record {
  reads = λ rest others h.
      rw append_assoc
      (number_before k 1 93 (10 ∷ rest) n (word.ListClose ∷ others) fits refl (close_list_before k (10 ∷ rest) others (line_end_before (item k) rest others h)));
}

-- ---- sections

closes : (k : ℕ) (rest : List ℕ) → item_at (item (k + 1)) 125 rest ≡ Ok (word.Close, item k, rest)
unfolding item_at
closes k rest =
    let some_open : nat_lt 0 (k + 1) ≡ true = lt-ltb 0 (k + 1) (omega arith) in
    let one_less : k + 1 - 1 ≡ k = omega arith in
    rw (some_open, one_less) refl

-- the end of a section
pub close_section : (k : ℕ) → Piece (item (k + 1)) (codes "}\n") (λ ws. word.Close ∷ ws) (item k)
unfolding past_blanks item_at
close_section k = record {
  reads = λ rest others h.
      past_word (item (k + 1)) (item k) 125 (10 ∷ rest) (10 ∷ rest) word.Close others refl refl (closes k (10 ∷ rest)) (omega arith) (line_end_before (item k) rest others h);
}

ends_by : (n : ℕ) → length {A = ℕ} (0 ∷ []) < n → words_at n start (0 ∷ []) ≡ Ok []
unfolding past_blanks
ends_by zero enough = absurd (omega arith)
ends_by (suc m) enough = words_at-suc m start (0 ∷ []) ∙ refl

-- the zero byte that ends a text
pub ends : Reads start (0 ∷ []) []
ends = record { by_bound = λ n enough. ends_by n enough }
