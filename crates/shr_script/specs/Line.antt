-- The lines of a script: words parted by one space.
use Rattle.std.specs.Prelude.{ℕ, ◌-◌, ◌^◌, ◌==◌, ◌&&◌, nat_le, nat_lt, Bool, if◌then◌else◌, List, [], ◌∷◌, ◌++◌, length, replicate, codes, Option, Some, None, Result, Ok, Err}
use Rattle.std.specs.Char.{is_ascii_digit}
use Rattle.std.specs.List.{slice_split, list_all}
use Rattle.std.specs.Str.{bytes_eq}
use Rattle.std.specs.Str.Parse.{digits_value}
use Rattle.hex.specs.Hex.{decode_of}
use Rattle.shr_script.specs.declared.Command.{Command}
use Rattle.shr_script.specs.declared.Command.TheVariants.{Read, Write, Fill, Flush, Size, Lose, Replace, Add, Step, Status, Quit}
use Rattle.shr_script.specs.declared.LineFault.{LineFault}
use Rattle.shr_script.specs.declared.LineFault.TheVariants.{Syntax}
use Rattle.shr_script.specs.Names.{name_of}

-- what a line says: a command, or why it is none
abbrev pub Line : Type 0
Line = Result Command LineFault

-- a line that is none of the commands
abbrev pub wrong : Line
wrong = Err Syntax

-- one to twenty decimal digits with a value below 2^64
abbrev pub number_of : List ℕ → Option ℕ
number_of word =
    if nat_le 1 (length word)
    && nat_le (length word) 20
    && list_all is_ascii_digit word
    && nat_lt (digits_value 10 word) (2 ^ 64)
    then Some (digits_value 10 word)
    else None

-- the bytes of a sector, filled up with zeros
abbrev pub padded : List ℕ → List ℕ
padded bytes = bytes ++ replicate (512 - length bytes) 0

-- the sector that decoded digits fill
abbrev pub padded_if : {E : Type 0} → Result (List ℕ) E → Option (List ℕ)
padded_if (Ok bytes) = Some (padded bytes)
padded_if (Err e) = None

-- 2 to 1024 hexadecimal digits, an even number of either case
abbrev pub sector_of : List ℕ → Option (List ℕ)
sector_of digits =
    if nat_le 2 (length digits) && nat_le (length digits) 1024 then padded_if (decode_of digits) else None

-- `read S`
abbrev pub read_of : Option ℕ → Line
read_of (Some sector) = Ok (Read sector)
read_of None = wrong

-- the number of a word that stands alone
abbrev pub only_number : List (List ℕ) → Option ℕ
only_number [] = None
only_number (word ∷ []) = number_of word
only_number (word ∷ more ∷ words) = None

abbrev pub read_words : List (List ℕ) → Line
read_words words = read_of (only_number words)

-- `write S HEX`
abbrev pub write_of : Option ℕ → Option (List ℕ) → Line
write_of (Some sector) (Some bytes) = Ok (Write sector bytes)
write_of (Some sector) None = wrong
write_of None bytes = wrong

abbrev pub write_words : List (List ℕ) → Line
write_words [] = wrong
write_words (sector ∷ []) = wrong
write_words (sector ∷ digits ∷ []) = write_of (number_of sector) (sector_of digits)
write_words (sector ∷ digits ∷ more ∷ words) = wrong

-- the byte that decoded digits write
abbrev pub byte_if : {E : Type 0} → Result (List ℕ) E → Option ℕ
byte_if (Ok []) = None
byte_if (Ok (byte ∷ bytes)) = Some byte
byte_if (Err e) = None

-- two hexadecimal digits of either case
abbrev pub byte_of : List ℕ → Option ℕ
byte_of digits = if length digits == 2 then byte_if (decode_of digits) else None

-- `fill S N XX`
abbrev pub fill_of : Option ℕ → Option ℕ → Option ℕ → Line
fill_of (Some sector) (Some count) (Some byte) = Ok (Fill sector count byte)
fill_of (Some sector) (Some count) None = wrong
fill_of (Some sector) None byte = wrong
fill_of None count byte = wrong

abbrev pub fill_words : List (List ℕ) → Line
fill_words [] = wrong
fill_words (sector ∷ []) = wrong
fill_words (sector ∷ count ∷ []) = wrong
fill_words (sector ∷ count ∷ digits ∷ []) = fill_of (number_of sector) (number_of count) (byte_of digits)
fill_words (sector ∷ count ∷ digits ∷ more ∷ words) = wrong

-- `lose D`
abbrev pub lose_of : Option ℕ → Line
lose_of (Some place) = Ok (Lose place)
lose_of None = wrong

-- `replace D NAME`
abbrev pub replace_of : Option ℕ → Option (List ℕ) → Line
replace_of (Some place) (Some name) = Ok (Replace place name)
replace_of (Some place) None = wrong
replace_of None name = wrong

abbrev pub replace_words : List (List ℕ) → Line
replace_words [] = wrong
replace_words (place ∷ []) = wrong
replace_words (place ∷ name ∷ []) = replace_of (number_of place) (name_of name)
replace_words (place ∷ name ∷ more ∷ words) = wrong

-- `add NAME`
abbrev pub add_of : Option (List ℕ) → Line
add_of (Some name) = Ok (Add name)
add_of None = wrong

abbrev pub add_words : List (List ℕ) → Line
add_words [] = wrong
add_words (name ∷ []) = add_of (name_of name)
add_words (name ∷ more ∷ words) = wrong

-- `step N`
abbrev pub step_of : Option ℕ → Line
step_of (Some count) = Ok (Step count)
step_of None = wrong

-- a word that stands alone
abbrev pub alone : Command → List (List ℕ) → Line
alone command [] = Ok command
alone command (more ∷ words) = wrong

-- what a line of at most 1100 bytes says, by its first word
abbrev pub command_of : List ℕ → List (List ℕ) → Line
command_of first words =
    if bytes_eq first (codes "read")
    then read_words words
    else if bytes_eq first (codes "write")
    then write_words words
    else if bytes_eq first (codes "fill")
    then fill_words words
    else if bytes_eq first (codes "flush")
    then alone Flush words
    else if bytes_eq first (codes "size")
    then alone Size words
    else if bytes_eq first (codes "lose")
    then lose_of (only_number words)
    else if bytes_eq first (codes "replace")
    then replace_words words
    else if bytes_eq first (codes "add")
    then add_words words
    else if bytes_eq first (codes "step")
    then step_of (only_number words)
    else if bytes_eq first (codes "status")
    then alone Status words
    else if bytes_eq first (codes "quit")
    then alone Quit words
    else wrong

-- the longest line that is read as a command
abbrev pub longest : ℕ
longest = 1100

-- what the words of a line say
abbrev pub words_line : ℕ → List (List ℕ) → Line
words_line bytes [] = wrong
words_line bytes (first ∷ words) = if nat_le bytes longest then command_of first words else wrong

-- a space parts words
abbrev pub is_space : ℕ → Bool
is_space b = b == 32

-- what a line says; an empty line says nothing
abbrev pub line_of : List ℕ → Option Line
line_of [] = None
line_of (b ∷ bytes) =
    Some (words_line (length (b ∷ bytes)) (slice_split is_space (b ∷ bytes)))
