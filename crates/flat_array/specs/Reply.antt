-- The flat run: what each line replies and leaves.
use Rattle.std.specs.Prelude.{ℕ, ◌+◌, ◌-◌, nat_le, nat_lt, if◌then◌else◌, List, [], ◌∷◌, ◌++◌, replicate, codes, decimal, Ok, Err}
use Rattle.shr_script.specs.declared.Command.TheVariants.{Read, Write, Fill, Flush, Size, Lose, Replace, Add, Step, Status, Quit}
use Rattle.shr_script.specs.declared.LineFault.{LineFault}
use Rattle.shr_script.specs.declared.LineFault.TheVariants.{Syntax, Memory}
use Rattle.shr_script.specs.Line.{Line}
use Rattle.shr_script.specs.Reply.{as_line, data_line, refused_line}
use Rattle.flat_array.specs.Array.{FlatArray, written, filled, flushed}

-- a sector whose bytes are all the same
abbrev pub uniform_sector : ℕ → List ℕ
uniform_sector byte = replicate 512 byte

-- the word of a line that is no command
abbrev pub fault_word : LineFault → List ℕ
fault_word Syntax = codes "syntax"
fault_word Memory = codes "memory"

-- what a flat array says of how it stands: it has no drives and no arrays below it, and nothing is left to do
abbrev pub standing_text : ℕ → List ℕ
standing_text size = as_line (codes "size " ++ decimal size) ++ as_line (codes "left 0") ++ as_line (codes "end")

-- the reply to a line; a flat array has no drive that could be lost or replaced, no bay that an image could come from, and no works of
-- maintenance
abbrev pub reply : FlatArray → Line → List ℕ
reply a (Ok (Read sector)) =
    if nat_lt sector a.size then data_line (a.values sector).current else refused_line (codes "range")
reply a (Ok (Write sector bytes)) =
    if nat_lt sector a.size then as_line (codes "ok") else refused_line (codes "range")
reply a (Ok (Fill sector count byte)) =
    if nat_le (sector + count) a.size then as_line (codes "ok") else refused_line (codes "range")
reply a (Ok Flush) = as_line (codes "ok")
reply a (Ok Size) = as_line (codes "size " ++ decimal a.size)
reply a (Ok (Lose place)) = refused_line (codes "no-such-drive")
reply a (Ok (Replace place name)) = refused_line (codes "no-such-drive")
reply a (Ok (Add name)) = refused_line (codes "attach")
reply a (Ok (Step count)) = as_line (codes "left 0")
reply a (Ok Status) = standing_text a.size
reply a (Ok Quit) = []
reply a (Err fault) = refused_line (fault_word fault)

-- the array after a line
abbrev pub after : FlatArray → Line → FlatArray
after a (Ok (Read sector)) = a
after a (Ok (Write sector bytes)) = if nat_lt sector a.size then written a sector bytes else a
after a (Ok (Fill sector count byte)) =
    if nat_le (sector + count) a.size then filled a sector count (uniform_sector byte) else a
after a (Ok Flush) = flushed a
after a (Ok Size) = a
after a (Ok (Lose place)) = a
after a (Ok (Replace place name)) = a
after a (Ok (Add name)) = a
after a (Ok (Step count)) = a
after a (Ok Status) = a
after a (Ok Quit) = a
after a (Err fault) = a

-- the reply to a line that is refused at a sector that can't be had
abbrev pub spent_line : ℕ → List ℕ
spent_line sector = refused_line (codes "spent " ++ decimal sector)

-- the array after it: the sectors that the line fills before that one are written
abbrev pub after_spent : FlatArray → Line → ℕ → FlatArray
after_spent a (Ok (Read sector)) at = a
after_spent a (Ok (Write sector bytes)) at = a
after_spent a (Ok (Fill sector count byte)) at = filled a sector (at - sector) (uniform_sector byte)
after_spent a (Ok Flush) at = a
after_spent a (Ok Size) at = a
after_spent a (Ok (Lose place)) at = a
after_spent a (Ok (Replace place name)) at = a
after_spent a (Ok (Add name)) at = a
after_spent a (Ok (Step count)) at = a
after_spent a (Ok Status) at = a
after_spent a (Ok Quit) at = a
after_spent a (Err fault) at = a

-- the replies to lines in a row
abbrev pub replies : FlatArray → List Line → List ℕ
replies a [] = []
replies a (line ∷ lines) = reply a line ++ replies (after a line) lines

-- the array after lines in a row
abbrev pub array_after : FlatArray → List Line → FlatArray
array_after a [] = a
array_after a (line ∷ lines) = array_after (after a line) lines
