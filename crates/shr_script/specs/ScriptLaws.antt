-- What a text says, line by line.
use Rattle.std.proofs.Common.{◌≡◌, ℕ, suc, ◌-◌, ◌<◌, Bool, true, false, if◌then◌else◌, ◌≢◌, get_or, ◌==◌, List, [], ◌∷◌, ◌++◌, length, map, take, Option, Some, None, Ok, Err, refl, sym, ◌∙◌, ap, subst, arith}
use Rattle.std.proofs.lemmas.List.Splits.{slice_split_at, slice_split_none, length-slice_split}
use Rattle.std.proofs.lemmas.Bool.Decides.{nat_tests}
use Rattle.std.proofs.lemmas.List.{take_all}
use Rattle.shr_script.specs.Trimming.{take-last}
use Rattle.std.specs.List.{All, slice_split, filter_map, cons_option}
use Rattle.shr_script.specs.declared.Command.TheVariants.{Read, Write, Fill, Flush, Size, Lose, Replace, Add, Step, Status, Quit}
use Rattle.shr_script.specs.Line.{Line, line_of}
use Rattle.shr_script.specs.Script.{is_line_feed, without_return, lines_of, ended_lines_of, until_quit, script_of, cut_script_of}

-- what a line says before what the lines after it say
abbrev pub prepend : Option Line → List Line → List Line
prepend None lines = lines
prepend (Some (Ok (Read sector))) lines = Ok (Read sector) ∷ lines
prepend (Some (Ok (Write sector bytes))) lines = Ok (Write sector bytes) ∷ lines
prepend (Some (Ok (Fill sector count byte))) lines = Ok (Fill sector count byte) ∷ lines
prepend (Some (Ok Flush)) lines = Ok Flush ∷ lines
prepend (Some (Ok Size)) lines = Ok Size ∷ lines
prepend (Some (Ok (Lose place))) lines = Ok (Lose place) ∷ lines
prepend (Some (Ok (Replace place name))) lines = Ok (Replace place name) ∷ lines
prepend (Some (Ok (Add name))) lines = Ok (Add name) ∷ lines
prepend (Some (Ok (Step count))) lines = Ok (Step count) ∷ lines
prepend (Some (Ok Status)) lines = Ok Status ∷ lines
prepend (Some (Ok Quit)) lines = []
prepend (Some (Err fault)) lines = Err fault ∷ lines

until_quit-cons :
    (line : Option Line) (lines : List Line)
    → until_quit (cons_option line lines) ≡ prepend line (until_quit lines)
until_quit-cons None lines = refl
until_quit-cons (Some (Ok (Read sector))) lines = refl
until_quit-cons (Some (Ok (Write sector bytes))) lines = refl
until_quit-cons (Some (Ok (Fill sector count byte))) lines = refl
until_quit-cons (Some (Ok Flush)) lines = refl
until_quit-cons (Some (Ok Size)) lines = refl
until_quit-cons (Some (Ok (Lose place))) lines = refl
until_quit-cons (Some (Ok (Replace place name))) lines = refl
until_quit-cons (Some (Ok (Add name))) lines = refl
until_quit-cons (Some (Ok (Step count))) lines = refl
until_quit-cons (Some (Ok Status)) lines = refl
until_quit-cons (Some (Ok Quit)) lines = refl
until_quit-cons (Some (Err fault)) lines = refl

-- what parts of a text say
said_by : List (List ℕ) → List Line
said_by lines = until_quit (filter_map line_of lines)

said_by-cons :
    (line : List ℕ) (lines : List (List ℕ))
    → said_by (line ∷ lines) ≡ prepend (line_of line) (said_by lines)
unfolding said_by
said_by-cons line lines = until_quit-cons (line_of line) (filter_map line_of lines)

-- no line feed stands in these bytes
abbrev pub NoFeed : List ℕ → Type 0
NoFeed bytes = All (λ b. is_line_feed b ≡ false) bytes

-- a line that ended comes first
pub script_of-line :
    (bytes rest : List ℕ)
    → NoFeed bytes
    → script_of (bytes ++ 10 ∷ rest) ≡ prepend (line_of (without_return bytes)) (script_of rest)
unfolding said_by
script_of-line bytes rest no_feed =
    ap (λ parts. said_by (map without_return parts)) (slice_split_at is_line_feed bytes 10 rest no_feed refl)
    ∙ said_by-cons (without_return bytes) (lines_of rest)

-- a line at the end of the text is the last one
pub script_of-last :
    (bytes : List ℕ) → NoFeed bytes → script_of bytes ≡ prepend (line_of (without_return bytes)) []
unfolding said_by
script_of-last bytes no_feed =
    ap (λ parts. said_by (map without_return parts)) (slice_split_none is_line_feed bytes no_feed)
    ∙ said_by-cons (without_return bytes) []

-- all lines but the last one
ended : List (List ℕ) → List (List ℕ)
ended parts = take (length parts - 1) (map without_return parts)

ended-cons :
    (line : List ℕ) (parts : List (List ℕ))
    → 0 < length parts
    → ended (line ∷ parts) ≡ without_return line ∷ ended parts
unfolding ended
ended-cons line [] some = absurd (omega arith)
ended-cons line (part ∷ parts) some =
    let count : length (line ∷ part ∷ parts) - 1 ≡ suc (length (part ∷ parts) - 1) = omega arith in
    rw count refl

-- a text has one part at least
split-some : (bytes : List ℕ) → 0 < length (slice_split is_line_feed bytes)
split-some bytes = rw length-slice_split (omega arith)

-- of a text that was cut off, a line that ended comes first
pub cut_script_of-line :
    (bytes rest : List ℕ)
    → NoFeed bytes
    → cut_script_of (bytes ++ 10 ∷ rest) ≡ prepend (line_of (without_return bytes)) (cut_script_of rest)
unfolding said_by ended
cut_script_of-line bytes rest no_feed =
    ap (λ parts. said_by (ended parts)) (slice_split_at is_line_feed bytes 10 rest no_feed refl)
    ∙ (ap said_by (ended-cons bytes (slice_split is_line_feed rest) (split-some rest))
    ∙ said_by-cons (without_return bytes) (ended (slice_split is_line_feed rest)))

-- the lines that ended, when one more ended before them
pub ended_lines_of-line :
    (bytes rest : List ℕ)
    → NoFeed bytes
    → ended_lines_of (bytes ++ 10 ∷ rest) ≡ without_return bytes ∷ ended_lines_of rest
unfolding ended
ended_lines_of-line bytes rest no_feed =
    ap ended (slice_split_at is_line_feed bytes 10 rest no_feed refl)
    ∙ ended-cons bytes (slice_split is_line_feed rest) (split-some rest)

-- no line ended
pub ended_lines_of-last : (bytes : List ℕ) → NoFeed bytes → ended_lines_of bytes ≡ []
unfolding ended
ended_lines_of-last bytes no_feed = ap ended (slice_split_none is_line_feed bytes no_feed)

-- and one that did not is dropped
pub cut_script_of-last : (bytes : List ℕ) → NoFeed bytes → cut_script_of bytes ≡ []
unfolding said_by ended
cut_script_of-last bytes no_feed =
    ap (λ parts. said_by (ended parts)) (slice_split_none is_line_feed bytes no_feed)

-- a choice after a first byte
return-choice :
    (q : Bool) (x : ℕ) (ys : List ℕ)
    → x ∷ (if q then [] else ys) ≡ (if q then x ∷ [] else x ∷ ys)
return-choice true x ys = refl
return-choice false x ys = refl

cons-choice :
    (q : Bool) (x : ℕ) (xs ys : List ℕ)
    → x ∷ (if q then xs else ys) ≡ (if q then x ∷ xs else x ∷ ys)
cons-choice true x xs ys = refl
cons-choice false x xs ys = refl

-- the last byte of a line
without_return-last :
    (xs : List ℕ) (b : ℕ) → without_return (xs ++ b ∷ []) ≡ (if b == 13 then xs else xs ++ b ∷ [])
without_return-last [] b = refl
without_return-last (x ∷ []) b = return-choice (b == 13) x (b ∷ [])
without_return-last (x ∷ y ∷ xs) b =
    ap (λ zs. x ∷ zs) (without_return-last (y ∷ xs) b) ∙ cons-choice (b == 13) x (y ∷ xs) ((y ∷ xs) ++ b ∷ [])

-- a carriage return at the end of a line
pub without_return-some :
    (line : List ℕ) (count : ℕ)
    → count ≡ length line
    → 0 < count
    → get_or line (count - 1) 0 ≡ 13
    → take (count - 1) line ≡ without_return line
without_return-some line count is some return =
    let last = take-last line count some (omega arith) in
    let whole : take count line ≡ line = take_all count line (omega arith) in
    let named : line ≡ take (count - 1) line ++ 13 ∷ [] =
    sym whole ∙ subst (λ b. take count line ≡ take (count - 1) line ++ b ∷ []) return last in
    sym (ap without_return named ∙ without_return-last (take (count - 1) line) 13)

-- another byte at the end of a line
pub without_return-other :
    (line : List ℕ) (count : ℕ)
    → count ≡ length line
    → 0 < count
    → get_or line (count - 1) 0 ≢ 13
    → line ≡ without_return line
without_return-other line count is some other =
    let last = take-last line count some (omega arith) in
    let whole : take count line ≡ line = take_all count line (omega arith) in
    let b = get_or line (count - 1) 0 in
    let named : line ≡ take (count - 1) line ++ b ∷ [] = sym whole ∙ last in
    let test : (b == 13) ≡ false = grind (arith, nat_tests, other) in
    let kept : without_return (take (count - 1) line ++ b ∷ []) ≡ take (count - 1) line ++ b ∷ [] =
    without_return-last (take (count - 1) line) b ∙ rw test refl in
    named ∙ (sym kept ∙ ap without_return (sym named))

-- an empty line
pub without_return-none : (line : List ℕ) → length line ≡ 0 → line ≡ without_return line
without_return-none [] none = refl
without_return-none (b ∷ line) none = absurd (omega arith)
