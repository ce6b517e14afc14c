-- What a call that puts lines does to the sink, and to the rack that it reads.
use Rattle.std.specs.Prelude.{◌≡◌, ◌≢◌, ℕ, ◌≤◌, List, ◌++◌, length, take, Result, Ok, Err}
use Rattle.std.specs.List.{concat}
use Rattle.rack.specs.Seen.{RackView, Rose}
use Rattle.io_ends.specs.Sink.{AddsPrefix}
use Rattle.rack.specs.Sequences.{OnlyReads}
use Rattle.gpt_table.specs.Disk.{Contents}
use Rattle.image_text.specs.declared.Stop.{Stop}
use Rattle.image_text.specs.declared.Stop.TheVariants.{Sink, Gone, Memory}
use Rattle.image_text.specs.Contents.{IsImage}

-- the first of the lines were put, each of them whole
pub record AddsLines (before after : List ℕ) (lines : List (List ℕ)) : Type 0 where
  pub count : ℕ
  pub within : count ≤ length lines
  pub bytes : after ≡ before ++ concat (take count lines)

-- all lines were put, or some as the cause of the end has it: a sink that fails may take part of a line
abbrev pub Puts : Result (Unit {0}) Stop → List ℕ → List ℕ → List (List ℕ) → Type 0
Puts (Ok done) before after lines = after ≡ before ++ concat lines
Puts (Err Sink) before after lines = AddsPrefix before after (concat lines)
Puts (Err Gone) before after lines = AddsLines before after lines
Puts (Err Memory) before after lines = AddsLines before after lines

-- lines were put in a sink, whose count of faults and whether its bytes are told are given before and after
pub record Says (faults faults' : ℕ) (Told Told' : Type 0) (before after : List ℕ) (lines : List (List ℕ)) (result : Result (Unit {0}) Stop)
    : Type 0 where
  pub grows : faults ≤ faults'
  pub told : Told → Told'
  pub puts : Told → Puts result before after lines
  pub failed : result ≡ Err Sink → Rose faults faults'
  pub here : result ≢ Err Gone

-- the lines of the image that the disk holds were put, and nothing was written to any disk
pub record Shows (a b : RackView) (disk : ℕ) (faults faults' : ℕ) (Told Told' : Type 0) (before after : List ℕ) (lines : Contents → List (List ℕ)) (result : Result (Unit {0}) Stop)
    : Type 0 where
  pub only : OnlyReads a b
  pub grows : faults ≤ faults'
  pub told : Told → Told'
  pub puts : Told → (image : Contents) → IsImage a disk image → Puts result before after (lines image)
  pub failed : result ≡ Err Sink → Rose faults faults'
  pub gone : result ≡ Err Gone → Rose (a.faults disk) (b.faults disk)
