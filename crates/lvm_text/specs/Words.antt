-- The grammar of LVM2's metadata text, by cases on the bytes. A text is a list of items: `name = value` or
-- `name { items }`, sections nested at most eight deep. A value is an integer, a string, or a list of values
-- in brackets. Between words may stand blanks and comments; a zero byte ends the text.
use Rattle.std.specs.Prelude.{◌≡◌, ℕ, zero, suc, ◌+◌, ◌-◌, ◌*◌, ◌^◌, ◌<◌, ◌≤◌, Bool, true, false, ◌&&◌, ◌||◌, ◌==◌, not, nat_le, nat_lt, if◌then◌else◌, List, [], ◌∷◌, length, take, drop, Option, Some, None, Result, Ok, Err, fold}
use Rattle.std.specs.List.{prefix_len}
use Rattle.lvm_text.specs.declared.stop.Stop.{Stop}
use Rattle.lvm_text.specs.declared.stop.Stop.TheVariants as stop
use Rattle.lvm_text.specs.declared.words.Word.{Word}
use Rattle.lvm_text.specs.declared.words.Word.TheVariants as word
use Rattle.lvm_text.specs.declared.words.Turn.{Turn}
use Rattle.lvm_text.specs.declared.words.Turn.TheVariants as turn
use Rattle.lvm_text.specs.declared.words.Place.{Place}

-- ---- bytes

-- a line feed or a carriage return
abbrev pub is_line_end : ℕ → Bool
is_line_end byte = byte == 10 || byte == 13

-- a space, a tab or the end of a line
abbrev pub is_blank : ℕ → Bool
is_blank byte = byte == 32 || byte == 9 || is_line_end byte

abbrev pub is_digit : ℕ → Bool
is_digit byte = nat_le 48 byte && nat_le byte 57

abbrev pub is_letter : ℕ → Bool
is_letter byte = (nat_le 65 byte && nat_le byte 90) || (nat_le 97 byte && nat_le byte 122)

-- a letter, a digit, `_`, `-`, `+` or `.`
abbrev pub is_name_byte : ℕ → Bool
is_name_byte byte = is_letter byte || is_digit byte || byte == 95 || byte == 45 || byte == 43 || byte == 46

-- ---- between words

-- the bytes from the next word on, from inside a comment or outside; a comment goes from `#` to the
-- end of its line
unfoldable pub past_blanks : Bool → List ℕ → List ℕ
past_blanks comment [] = []
past_blanks true (byte ∷ bytes) =
    if byte == 0 then byte ∷ bytes
    else past_blanks (not (is_line_end byte)) bytes
past_blanks false (byte ∷ bytes) =
    if byte == 35 then past_blanks true bytes
    else if is_blank byte then past_blanks false bytes
    else byte ∷ bytes

-- ---- what reading gives: a value, or how many bytes are left at the first byte that no text goes on with

infixl 10 ◌>>=◌
abbrev pub ◌>>=◌ : {A B : Type 0} → Result A ℕ → (A → Result B ℕ) → Result B ℕ
(Ok x) >>= f = f x
(Err left) >>= f = Err left

-- what a function of the code answered, seen by view, is what reading gives, unless memory ran out
abbrev pub Fails : {Y : Type 0} → Stop → Result Y ℕ → Type 0
Fails stop.Memory read = Unit {0}
Fails (stop.Left left) read = read ≡ Err left

abbrev pub Gives : {X Y : Type 0} → (X → Y) → Result X Stop → Result Y ℕ → Type 0
Gives view (Ok x) read = read ≡ Ok (view x)
Gives view (Err e) read = Fails e read

-- ---- strings

-- what `\` may stand before: `"` and `\`
abbrev pub is_escapable : ℕ → Bool
is_escapable byte = byte == 34 || byte == 92

abbrev pub prefixed : ℕ → Result (List ℕ × List ℕ) ℕ → Result (List ℕ × List ℕ) ℕ
prefixed byte read = read >>= λ (x : List ℕ × List ℕ). Ok (byte ∷ x.0, x.1)

-- what a string says from here to its closing quote, and the bytes behind that; behind a `\`, or not
unfoldable pub string_at : Bool → List ℕ → Result (List ℕ × List ℕ) ℕ
string_at escaped [] = Err 0
string_at true (byte ∷ bytes) =
    if is_escapable byte then prefixed byte (string_at false bytes)
    else Err (length (byte ∷ bytes))
string_at false (byte ∷ bytes) =
    if byte == 34 then Ok ([], bytes)
    else if byte == 0 then Err (length (byte ∷ bytes))
    else if byte == 92 then string_at true bytes
    else prefixed byte (string_at false bytes)

-- ---- integers

-- the number that digits say
abbrev pub with_digit : ℕ → ℕ → ℕ
with_digit n digit = n * 10 + (digit - 48)

abbrev pub digits_value : List ℕ → ℕ
digits_value digits = fold with_digit 0 digits

-- a number below 2^64
abbrev pub below_64 : ℕ → Option ℕ
below_64 n = if nat_lt n (2 ^ 64) then Some n else None

-- an integer, where it is a whole number below 2^64; -0 is 0
abbrev pub whole : Bool → ℕ → Option ℕ
whole negative n = if negative && not (n == 0) then None else below_64 n

abbrev pub digits_at : Bool → List ℕ → Result (Option ℕ × List ℕ) ℕ
digits_at negative bytes =
    if prefix_len is_digit bytes == 0 then Err (length bytes)
    else Ok (whole negative (digits_value (take (prefix_len is_digit bytes) bytes)), drop (prefix_len is_digit bytes) bytes)

-- the integer at the front: digits, with `-` before them where it is negative
unfoldable pub integer_at : List ℕ → Result (Option ℕ × List ℕ) ℕ
integer_at [] = Err 0
integer_at (byte ∷ bytes) = if byte == 45 then digits_at true bytes else digits_at false (byte ∷ bytes)

-- ---- words

-- a word, the place behind it, and the bytes that are left
abbrev pub Found : Type 0
Found = Word × Place × List ℕ

abbrev pub turned : Place → Turn → Place
turned place turn = record place { turn = turn }

-- the place behind a value
abbrev pub past_value : Place → Place
past_value place = if place.lists == 0 then turned place turn.Item else turned place turn.Separator

abbrev pub name_at : Place → List ℕ → Found
name_at place bytes = (word.Name (take (prefix_len is_name_byte bytes) bytes), turned place turn.Body, drop (prefix_len is_name_byte bytes) bytes)

-- an item begins with its name; `}` closes an open section
unfoldable pub item_at : Place → ℕ → List ℕ → Result Found ℕ
item_at place byte bytes =
    if is_name_byte byte then Ok (name_at place (byte ∷ bytes))
    else if byte == 125 && nat_lt 0 place.sections then Ok (word.Close, record place { sections = place.sections - 1; turn = turn.Item }, bytes)
    else Err (length (byte ∷ bytes))

-- a name is followed by `=`, or by `{` where fewer than eight sections are open
unfoldable pub body_at : Place → ℕ → List ℕ → Result Found ℕ
body_at place byte bytes =
    if byte == 61 then Ok (word.Equals, turned place turn.Value, bytes)
    else if byte == 123 && nat_lt place.sections 8 then Ok (word.Open, record place { sections = place.sections + 1; turn = turn.Item }, bytes)
    else Err (length (byte ∷ bytes))

-- a value is an integer, a string or a list
unfoldable pub value_at : Place → ℕ → List ℕ → Result Found ℕ
value_at place byte bytes =
    if is_digit byte || byte == 45 then integer_at (byte ∷ bytes) >>= (λ (x : Option ℕ × List ℕ). Ok (word.Number x.0, past_value place, x.1))
    else if byte == 34 then string_at false bytes >>= (λ (x : List ℕ × List ℕ). Ok (word.Text x.0, past_value place, x.1))
    else if byte == 91 then Ok (word.ListOpen, record place { lists = place.lists + 1; turn = turn.FirstValue }, bytes)
    else Err (length (byte ∷ bytes))

abbrev pub list_closed : Place → Place
list_closed place = past_value (record place { lists = place.lists - 1 })

-- a list may be empty
unfoldable pub first_value_at : Place → ℕ → List ℕ → Result Found ℕ
first_value_at place byte bytes =
    if byte == 93 then Ok (word.ListClose, list_closed place, bytes)
    else value_at place byte bytes

-- the values of a list are parted by commas
unfoldable pub separator_at : Place → ℕ → List ℕ → Result Found ℕ
separator_at place byte bytes =
    if byte == 44 then Ok (word.Comma, turned place turn.Value, bytes)
    else if byte == 93 then Ok (word.ListClose, list_closed place, bytes)
    else Err (length (byte ∷ bytes))

abbrev pub by_turn : Turn → Place → ℕ → List ℕ → Result Found ℕ
by_turn turn.Item = item_at
by_turn turn.Body = body_at
by_turn turn.Value = value_at
by_turn turn.FirstValue = first_value_at
by_turn turn.Separator = separator_at

-- a word takes a byte at least, and a list that it opens as well
abbrev pub GoesOn : Place → List ℕ → Place → List ℕ → Type 0
GoesOn place bytes next rest = (length rest < length bytes) × (next.lists + length rest ≤ place.lists + length bytes)

-- ---- texts

-- a text may end between two items that stand in no section
abbrev pub is_item : Turn → Bool
is_item turn.Item = true
is_item turn.Body = false
is_item turn.Value = false
is_item turn.FirstValue = false
is_item turn.Separator = false

abbrev pub may_end : Place → Bool
may_end place = is_item place.turn && place.sections == 0

abbrev pub or_end : Place → ℕ → Result (List Word) ℕ
or_end place left = if may_end place then Ok [] else Err left

abbrev pub with_word : Word → Result (List Word) ℕ → Result (List Word) ℕ
with_word word read = read >>= λ (words : List Word). Ok (word ∷ words)

-- the words up to the end of the text, from the next word's first byte on, where the words behind that one
-- are read so
abbrev pub words_by : (Place → List ℕ → Result (List Word) ℕ) → Place → List ℕ → Result (List Word) ℕ
words_by others place [] = or_end place 0
words_by others place (byte ∷ bytes) =
    if byte == 0 then or_end place (length (byte ∷ bytes))
    else by_turn place.turn place byte bytes >>= λ (x : Found). with_word x.0 (others x.1 x.2)

-- the words from a place on, at most so many: a word has a byte at least, so a text has no more words than bytes
unfoldable pub words_at : ℕ → Place → List ℕ → Result (List Word) ℕ
words_at zero place bytes = Err (length bytes)
words_at (suc n) place bytes = words_by (words_at n) place (past_blanks false bytes)

-- where a text begins
abbrev pub start : Place
start = record { sections = 0; lists = 0; turn = turn.Item }

-- the words of a text
abbrev pub words_of : List ℕ → Result (List Word) ℕ
words_of text = words_at (length text + 1) start text
