-- A script: what its lines say, up to the first `quit`.
use Rattle.std.specs.Prelude.{ℕ, ◌-◌, ◌==◌, Bool, if◌then◌else◌, List, [], ◌∷◌, length, map, take, Ok, Err}
use Rattle.std.specs.List.{slice_split, filter_map}
use Rattle.shr_script.specs.declared.Command.TheVariants.{Read, Write, Fill, Flush, Size, Lose, Replace, Add, Step, Status, Quit}
use Rattle.shr_script.specs.Line.{Line, line_of}

-- a line feed ends a line
abbrev pub is_line_feed : ℕ → Bool
is_line_feed b = b == 10

-- a line without the carriage return at its end
abbrev pub without_return : List ℕ → List ℕ
without_return [] = []
without_return (b ∷ []) = if b == 13 then [] else b ∷ []
without_return (b ∷ c ∷ bytes) = b ∷ without_return (c ∷ bytes)

-- the lines of a text, the last one without a line feed
abbrev pub lines_of : List ℕ → List (List ℕ)
lines_of text = map without_return (slice_split is_line_feed text)

-- the lines of a text that end with a line feed
abbrev pub ended_lines_of : List ℕ → List (List ℕ)
ended_lines_of text = take (length (slice_split is_line_feed text) - 1) (lines_of text)

-- what lines say before the first `quit`
abbrev pub until_quit : List Line → List Line
until_quit [] = []
until_quit (Ok (Read sector) ∷ lines) = Ok (Read sector) ∷ until_quit lines
until_quit (Ok (Write sector bytes) ∷ lines) = Ok (Write sector bytes) ∷ until_quit lines
until_quit (Ok (Fill sector count byte) ∷ lines) = Ok (Fill sector count byte) ∷ until_quit lines
until_quit (Ok Flush ∷ lines) = Ok Flush ∷ until_quit lines
until_quit (Ok Size ∷ lines) = Ok Size ∷ until_quit lines
until_quit (Ok (Lose place) ∷ lines) = Ok (Lose place) ∷ until_quit lines
until_quit (Ok (Replace place name) ∷ lines) = Ok (Replace place name) ∷ until_quit lines
until_quit (Ok (Add name) ∷ lines) = Ok (Add name) ∷ until_quit lines
until_quit (Ok (Step count) ∷ lines) = Ok (Step count) ∷ until_quit lines
until_quit (Ok Status ∷ lines) = Ok Status ∷ until_quit lines
until_quit (Ok Quit ∷ lines) = []
until_quit (Err fault ∷ lines) = Err fault ∷ until_quit lines

-- what the lines of a whole text say
abbrev pub script_of : List ℕ → List Line
script_of text = until_quit (filter_map line_of (lines_of text))

-- what those of a text say that was cut off: a line without a line feed is dropped
abbrev pub cut_script_of : List ℕ → List Line
cut_script_of text = until_quit (filter_map line_of (ended_lines_of text))
