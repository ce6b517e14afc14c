-- Reading a script line by line from a source, in pieces.
use Rattle.std.specs.Prelude.{◌≡◌, ◌≢◌, ℕ, ◌+◌, List, [], ◌∷◌, ◌++◌, length, take, false}
use Rattle.std.specs.List.{All}
use Rattle.shr_script.specs.Script.{is_line_feed}
use Rattle.shr_script.specs.declared.reader.Ended.{Ended}
use Rattle.shr_script.specs.declared.reader.Ended.TheVariants.{LineFeed, Input, Fault, Limit}

-- as many bytes of a line as tell that it is too long, with and without a carriage return
abbrev pub kept_of : List ℕ → List ℕ
kept_of bytes = take 1102 bytes

-- bytes without a line feed were read, and the line holds the first of them
pub record ReadsPart (before after line : List ℕ) (from to : ℕ) : Type 0 where
  pub bytes : List ℕ
  pub no_feed : All (λ b. is_line_feed b ≡ false) bytes
  pub text : before ≡ bytes ++ after
  pub kept : line ≡ kept_of bytes
  pub count : to ≡ from + length bytes

-- bytes were read up to a line feed, and over it
pub record ReadsLine (before after line : List ℕ) (from to : ℕ) : Type 0 where
  pub last : ℕ
  pub part : ReadsPart before (10 ∷ after) line from last
  pub count : to ≡ last + 1

-- bytes were read up to the end of the text
pub record ReadsRest (before after line : List ℕ) (from to : ℕ) : Type 0 where
  pub part : ReadsPart before after line from to
  pub none : after ≡ []

-- bytes were read up to the limit of a script, and there are more
pub record ReadsMost (limit : ℕ) (before after line : List ℕ) (from to : ℕ) : Type 0 where
  pub part : ReadsPart before after line from to
  pub full : to ≡ limit
  pub more : after ≢ []

-- what was read, by how it ended
abbrev pub ReadsTo : ℕ → Ended → List ℕ → List ℕ → List ℕ → ℕ → ℕ → Type 0
ReadsTo limit LineFeed before after line from to = ReadsLine before after line from to
ReadsTo limit Input before after line from to = ReadsRest before after line from to
ReadsTo limit Fault before after line from to = ReadsPart before after line from to
ReadsTo limit Limit before after line from to = ReadsMost limit before after line from to
