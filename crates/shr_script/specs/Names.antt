-- The names of images in a script.
use Rattle.std.specs.Prelude.{ℕ, nat_le, nat_lt, not, ◌&&◌, ◌||◌, Bool, if◌then◌else◌, List, length, Option, Some, None}
use Rattle.std.specs.List.{list_all}
use Rattle.std.specs.Str.{chars, is_utf8}

-- a control character: those of ASCII, and those from 128 to 159
abbrev pub is_control : ℕ → Bool
is_control c = nat_lt c 32 || (nat_le 127 c && nat_lt c 160)

-- any other character
abbrev pub is_plain : ℕ → Bool
is_plain c = not (is_control c)

-- the name whose characters these are
abbrev pub plain_of : List ℕ → Option (List ℕ)
plain_of text = if list_all is_plain (chars text) then Some text else None

-- the name that a word is: 1 to 255 bytes of UTF-8 without control characters
abbrev pub name_of : List ℕ → Option (List ℕ)
name_of word =
    if nat_le 1 (length word) && nat_le (length word) 255 && is_utf8 word
    then plain_of word
    else None
